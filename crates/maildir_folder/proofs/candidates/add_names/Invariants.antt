use Rattle.std.proofs.Common.{◌≡◌, ◌++◌, map, length}
use Rattle.std.specs.List.{All}
use Rattle.disk_model.specs.Answers.{AreText}
use Rattle.folder_core.specs.Maildir.{files_in}
use Rattle.maildir_folder.specs.Candidates.{IsCandidate, plain_file}
use Rattle.maildir_folder.proofs.candidates.add_names.Given as goal

abbrev pub invariant-loop-left : goal.invariant-loop-left
invariant-loop-left l = record {
  text : AreText l.left;
  each : All IsCandidate l.files.items;
  files : map plain_file l.files.items ++ files_in l.in_cur (map (λ name. name.items) l.left)
      ≡ map plain_file l.initial.files.items
      ++ files_in l.in_cur (map (λ name. name.items) l.names);
}

abbrev pub decreases-loop-left : goal.decreases-loop-left
decreases-loop-left l = length l.left
