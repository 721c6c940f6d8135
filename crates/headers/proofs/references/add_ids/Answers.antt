use Rattle.std.proofs.Common.{◌≡◌, Some, List, ℕ, [], ◌∷◌, ◌++◌, sym, ap, ◌∙◌, append_assoc}
use Rattle.std.proofs.lemmas.List.{append-nil}
use Rattle.mail_base.specs.Series.{plain_texts}
use Rattle.headers.specs.Ids.{first_id, ids_from, plain_found_id}
use Rattle.headers.specs.References.{last_ids}
use Rattle.headers.proofs.IdsLemmas.{ids_from-found, ids_from-absent}
use Rattle.headers.proofs.ReferencesLemmas.{last_ids-append}
use Rattle.headers.proofs.references.add_ids.Goals as goal

pub loop-found-preserved : goal.loop-found-preserved
loop-found-preserved c =
    let found = plain_found_id c.in-Some.found in
    let left = c.loop-found.left.now in
    let names = plain_texts c.loop-found.names in
    let same = c.loop-found.invariant.same in
    let some : first_id left ≡ Some found = sym c.in-Some.ensures.value in
    let next = ids_from-found same.0 left found same.1 c.in-Some.ensures.shorter some in
    let id = c.in_ok-bracketed.field-0.items in
    let now = plain_texts c.push_last.new.names in
    let pushed : last_ids now ≡ last_ids (names ++ id ∷ []) =
    c.in_ok-push_last.ensures.value in record {
      few = c.in_ok-push_last.ensures.few;
      same = (
        next.0,
        next.1,
        last_ids-append now (names ++ id ∷ []) (ids_from next.0 found.rest) pushed
            ∙ ap last_ids (append_assoc names (id ∷ []) (ids_from next.0 found.rest))
            ∙ ap (λ (i : List ℕ). last_ids (names ++ i ∷ ids_from next.0 found.rest))
            c.in_ok-bracketed.ensures
            ∙ ap (λ (l : List (List ℕ)). last_ids (names ++ l)) (sym next.2)
            ∙ same.2,
      );
    }

pub returns-clause-value : goal.returns-clause-value
returns-clause-value c =
    let left = c.loop-found.left.now in
    let names = plain_texts c.loop-found.names in
    let same = c.loop-found.invariant.same in
    ap last_ids (sym (append-nil names))
    ∙ ap (λ (l : List (List ℕ)). last_ids (names ++ l))
    (sym (ids_from-absent same.0 left (sym c.in_default.ensures.value)))
    ∙ same.2
