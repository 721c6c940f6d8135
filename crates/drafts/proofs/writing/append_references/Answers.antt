use Rattle.std.proofs.Common.{List, ℕ, [], ◌∷◌, ◌++◌, ◌-◌, ◌∙◌, ap, append_assoc, codes, drop}
use Rattle.std.proofs.Common.{length, sym, take}
use Rattle.std.specs.List.{join_with_byte}
use Rattle.drafts.specs.Texts.{texts}
use Rattle.drafts.proofs.LoopLemmas.{references_by}
use Rattle.drafts.proofs.writing.append_references.Goals as goal

pub returns : goal.returns
returns c =
    let out = c.args.out.now.items in
    let ids = c.args.ids.now in
    let first = c.first-item.result in
    let name = codes "References: " in
    let joined =
    join_with_byte 32 (first.items ∷ texts (take (length ids - 1) (drop 1 ids))) in
    c.in_ok-push.ensures.ok
    ∙ ap (λ (l : List ℕ). l ++ 10 ∷ [])
    (c.in_ok-append_ids.ensures ∙ ap (λ (l : List ℕ). l ++ joined) c.in_ok-append.ensures.ok)
    ∙ append_assoc (out ++ name) joined (10 ∷ [])
    ∙ append_assoc out name (joined ++ 10 ∷ [])
    ∙ ap (λ (l : List ℕ). out ++ l)
    (sym (references_by ids first c.in-len1-up.len_at_least c.first-item.is))
