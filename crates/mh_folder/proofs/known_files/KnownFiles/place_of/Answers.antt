use Rattle.std.proofs.Common.{◌≡◌, ℕ, true, false, List, rules, subst, sym}
use Rattle.std.specs.List.Sorted.{IsPartitionedBy, IsPartitionPoint}
use Rattle.std.proofs.lemmas.List.Sorted.{IsPartitionPoint-from_clause}
use Rattle.mh_folder.specs.declared.known_file.KnownFile.{KnownFile}
use Rattle.mh_folder.proofs.KnownFileLemmas.{is_below, parted, risen, searched}
use Rattle.mh_folder.proofs.known_files.KnownFiles.place_of.Goals as goal

-- where the search ends
abbrev Point : ℕ → ℕ → List KnownFile → Type 0
Point n place files =
    IsPartitionPoint (λ f. is_below n f ≡ true) (λ f. is_below n f ≡ false) files place

pub returns : goal.returns
returns c =
    let n : ℕ = c.args.number in
    let place : ℕ = c.partition_point.result in
    let files = c.args.self.now.files.items in
    let rises = risen 0 files c.args.self.now.rises in
    let parts : IsPartitionedBy (is_below n) c.as_slice.result.now =
    subst (λ (l : List KnownFile). IsPartitionedBy (is_below n) l) (sym c.as_slice.ensures.value)
    (parted n 0 files rises) in
    let point : Point n place files =
    subst (Point n place) c.as_slice.ensures.value
    (IsPartitionPoint-from_clause (is_below n) _ _ c.partition_point.ensures.partitioned
    parts (λ a r q k. search rules)) in
    searched n 0 place files rises point
