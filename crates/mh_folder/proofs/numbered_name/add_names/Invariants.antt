use Rattle.std.proofs.Common.{◌≡◌, ◌++◌, map, length}
use Rattle.std.specs.List.{All, filter}
use Rattle.disk_model.specs.Answers.{AreText}
use Rattle.folder_core.specs.Mh.{is_number}
use Rattle.mh_folder.specs.NumberedName.{IsNumbered, plain_names}
use Rattle.mh_folder.proofs.numbered_name.add_names.Given as goal

abbrev pub invariant-loop-left : goal.invariant-loop-left
invariant-loop-left l = record {
  text : AreText l.left;
  each : All IsNumbered l.files.items;
  files : plain_names l.files.items ++ filter is_number (map (λ name. name.items) l.left)
      ≡ plain_names l.initial.files.items ++ filter is_number (map (λ name. name.items) l.names);
}

abbrev pub decreases-loop-left : goal.decreases-loop-left
decreases-loop-left l = length l.left
