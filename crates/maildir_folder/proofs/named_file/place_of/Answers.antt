use Rattle.std.proofs.Common.{◌≡◌, ℕ, true, false, List, rules}
use Rattle.std.specs.List.Sorted.{IsPartitionPoint}
use Rattle.std.proofs.lemmas.List.Sorted.{IsPartitionPoint-from_clause}
use Rattle.maildir_folder.specs.NamedFile.{is_before}
use Rattle.maildir_folder.specs.declared.candidates.Candidate.{Candidate}
use Rattle.maildir_folder.proofs.NamedFileLemmas.{parted, searched}
use Rattle.maildir_folder.proofs.named_file.place_of.Goals as goal

pub returns : goal.returns
returns c =
    let base : List ℕ = c.args.base.now in
    let order : ℕ = c.args.order in
    let files : List Candidate = c.args.files.now in
    let point : IsPartitionPoint (λ f. is_before f order base ≡ true)
    (λ f. is_before f order base ≡ false) files c.partition_point.result =
    IsPartitionPoint-from_clause (λ file. is_before file order base) _ _
    c.partition_point.ensures.partitioned
    (parted base order files c.requires.order c.requires.each c.requires.rises)
    (λ a r q k. search rules) in
    searched base order c.partition_point.result _ files c.requires.order c.requires.each
    c.requires.rises point
