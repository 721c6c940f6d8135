use Rattle.std.proofs.Common.{List, ap, ◌∙◌, ◌≡◌, IfOk, rules, subst}
use Rattle.std.specs.List.Sorted.{IsNonDecreasingBy}
use Rattle.std.proofs.lemmas.List.Sorted.{IsNonDecreasingBy-from_sort_by_key}
use Rattle.mh_sequences.specs.declared.range.Range.{Range}
use Rattle.mh_sequences.specs.Ranges.{in_order as all_ordered, joined_sorted}
use Rattle.mh_sequences.proofs.RisingLemmas.{sorted_order}
use Rattle.mh_sequences.proofs.range.put_in_order.Goals as goal

pub returns : goal.returns
returns c =
    let now : List Range = c.sort_by_key.new.self.items in
    let rises : IsNonDecreasingBy (λ (x : Range). x.first) now =
    IsNonDecreasingBy-from_sort_by_key (λ (x : Range). x.first) _ c.in_ok-sort_by_key.ensures.sorted
    (λ a r q k. search rules) in
    let same : joined_sorted c.as_slice.result.now ≡ all_ordered c.args.ranges.items =
    ap joined_sorted c.as_slice.ensures.value
    ∙ sorted_order c.args.ranges.items now c.requires c.in_ok-sort_by_key.ensures.permutation
    rises in
    subst (λ (l : List Range). IfOk c.join_sorted.result (λ r. r.items ≡ l)) same
    c.join_sorted.ensures
