use Rattle.std.proofs.Common.{◌≡◌, ◌++◌, ◌<◌, length, map}
use Rattle.std.specs.List.{All}
use Rattle.folder_core.specs.Keeping.{mails_of}
use Rattle.folder_letters.specs.Letters.{plain_letter}
use Rattle.mh_folder.specs.KnownFile.{files_of}
use Rattle.mh_folder.proofs.known_files.add_files.Given as goal

-- the messages so far, and those that are left
abbrev pub invariant-loop-left : goal.invariant-loop-left
invariant-loop-left l = record {
  within : All (λ listed. listed.id.0 < length l.archive.items) l.left;
  files : l.files.items
      ++ files_of (mails_of (map plain_letter l.archive.items) l.left) l.stamps_left
      ≡ l.fn.files.items
      ++ files_of (mails_of (map plain_letter l.archive.items) l.listing) l.stamps;
}

abbrev pub decreases-loop-left : goal.decreases-loop-left
decreases-loop-left l = length l.left
