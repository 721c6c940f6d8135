use Rattle.std.proofs.Common.{List, ℕ, ◌++◌, filter, sym, ap, ◌∙◌}
use Rattle.mime_tree.specs.Base64Body.{is_solid}
use Rattle.mime_tree.proofs.Base64Lemmas.{filter_none, filter_some}
use Rattle.mime_tree.proofs.base64_body.split_at_space.Goals as goal

pub returns-in-Some-clause-some : goal.returns-in-Some-clause-some
returns-in-Some-clause-some c =
    filter_some is_solid c.args.text.now c.in-Some.place
    (sym c.space_at.ensures.value ∙ c.in-Some.is)
    ∙ ap (λ (p : List ℕ × List ℕ). p.0 ++ filter is_solid p.1) (sym c.split_around.ensures.value)

pub returns-in-None-clause-none : goal.returns-in-None-clause-none
returns-in-None-clause-none c =
    filter_none is_solid c.args.text.now (sym c.space_at.ensures.value ∙ c.in-None.is)
