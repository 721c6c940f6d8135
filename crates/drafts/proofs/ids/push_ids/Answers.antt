use Rattle.std.proofs.Common.{◌≡◌, List, ℕ, [], ◌∷◌, ◌++◌, Some, filter, sym, ap, ◌∙◌}
use Rattle.mail_base.specs.Series.{plain_texts}
use Rattle.headers.specs.Ids.{first_id, id_of, ids_from}
use Rattle.headers.proofs.IdsLemmas.{ids_from-found}
use Rattle.drafts.specs.PlainDraft.{is_id}
use Rattle.drafts.specs.Reply.{found_id}
use Rattle.drafts.proofs.LoopLemmas.{ids_on}
use Rattle.drafts.proofs.ids.push_ids.Goals as goal

pub loop-inside-preserved : goal.loop-inside-preserved
loop-inside-preserved c =
    let so = c.loop-inside.invariant in
    let left = c.loop-inside.left.now in
    let names = plain_texts c.loop-inside.names in
    let inside = c.in-Some.inside.now in
    let rest = c.in-Some.rest.now in
    let some : first_id left ≡ Some (found_id inside rest) = sym c.in-Some.ensures.value in
    let next =
    ids_from-found so.0 left (found_id inside rest) so.1 c.in-Some.ensures.shorter some in (
      next.0,
      next.1,
      ap (λ (l : List (List ℕ)). l ++ filter is_id (ids_from next.0 rest))
          (c.in_ok-push_id.ensures
          ∙ ap (λ (i : List ℕ). names ++ filter is_id (i ∷ [])) c.in_ok-bracketed.ensures)
          ∙ ids_on names (id_of inside) (ids_from next.0 rest)
          ∙ ap (λ (l : List (List ℕ)). names ++ filter is_id l) (sym next.2)
          ∙ so.2,
    )
