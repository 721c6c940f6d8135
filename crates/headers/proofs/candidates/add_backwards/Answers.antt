use Rattle.std.proofs.Common.{◌≡◌, List, ℕ, ◌++◌, ◌∷◌, [], map, reverse, sym, ap, ◌∙◌}
use Rattle.std.proofs.lemmas.List.{map-append, reverse-append}
use Rattle.headers.specs.Candidates.{new_ids, with_id}
use Rattle.headers.specs.Candidates.{texts}
use Rattle.headers.proofs.CandidatesLemmas.{new_ids-more}
use Rattle.headers.proofs.candidates.add_backwards.Goals as goal

pub loop-last-preserved : goal.loop-last-preserved
loop-last-preserved c =
    let names = texts c.loop-last.names.items in
    let last = c.in-Some.last.now in
    let rest = c.in-Some.rest.now in
    let left = c.loop-last.left.now in
    let before = reverse (map (λ n. n.items) rest) in
    let whole : left ≡ rest ++ last ∷ [] = c.in-Some.ensures.cases.0 in
    let backwards : reverse (map (λ n. n.items) left) ≡ last.items ∷ before =
    ap (λ l. reverse (map (λ n. n.items) l)) whole
    ∙ ap reverse (map-append (λ n. n.items) rest (last ∷ []))
    ∙ reverse-append (map (λ n. n.items) rest) (last.items ∷ [])
    in
    let added : texts c.add_new.new.names.items ≡ with_id names last.items =
    c.in_ok-add_new.ensures ∙ ap (with_id names) c.as_slice.ensures in
    ap (λ (ns : List (List ℕ)). ns ++ new_ids ns before) added
    ∙ new_ids-more names last.items before
    ∙ ap (λ t. names ++ new_ids names t) (sym backwards)
    ∙ c.loop-last.invariant
