use Rattle.std.proofs.Common.{List, ℕ, ◌++◌, Some, filter, sym, ap, ◌∙◌, append_assoc}
use Rattle.mime_tree.specs.Base64Body.{is_solid}
use Rattle.mime_tree.proofs.Base64Lemmas.{filter_cut}
use Rattle.mime_tree.proofs.base64_body.without_white_space.Goals as goal

pub loop-line-preserved : goal.loop-line-preserved
loop-line-preserved c =
    let solid = c.loop-line.solid.items in
    let line = c.in-Some.line.now in
    let rest = c.in-Some.rest.now in
    let cut = filter_cut c.loop-line.left.now (Some (line, rest)) c.in-Some.ensures.value in
    ap (λ (l : List ℕ). l ++ filter is_solid rest) c.in_ok-append_solid.ensures
    ∙ append_assoc solid (filter is_solid line) (filter is_solid rest)
    ∙ ap (λ (l : List ℕ). solid ++ l) (sym cut)
    ∙ c.loop-line.invariant
