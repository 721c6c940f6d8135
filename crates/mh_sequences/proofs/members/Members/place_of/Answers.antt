use Rattle.std.proofs.Common.{◌≡◌, ℕ, true, false, List, rules, subst, sym}
use Rattle.std.specs.List.Sorted.{IsPartitionedBy, IsPartitionPoint}
use Rattle.std.proofs.lemmas.List.Sorted.{IsPartitionPoint-from_clause}
use Rattle.mh_sequences.specs.declared.range.Range.{Range}
use Rattle.mh_sequences.proofs.MembersLemmas.{ends_below, parted, searched}
use Rattle.mh_sequences.proofs.members.Members.place_of.Goals as goal

-- where the search ends
abbrev Point : ℕ → ℕ → List Range → Type 0
Point n place ranges =
    IsPartitionPoint (λ r. ends_below n r ≡ true) (λ r. ends_below n r ≡ false) ranges place

pub returns : goal.returns
returns c =
    let n : ℕ = c.args.number in
    let place : ℕ = c.partition_point.result in
    let members = c.args.self.now in
    let parts : IsPartitionedBy (ends_below n) c.as_slice.result.now =
    subst (λ (l : List Range). IsPartitionedBy (ends_below n) l) (sym c.as_slice.ensures)
    (parted n 0 members.ranges.items members.rises members.upright) in
    let point : Point n place members.ranges.items =
    subst (Point n place) c.as_slice.ensures
    (IsPartitionPoint-from_clause (ends_below n) _ _ c.partition_point.ensures.partitioned
    parts (λ a r q k. search rules)) in
    searched n 0 place members.ranges.items members.rises members.upright point
