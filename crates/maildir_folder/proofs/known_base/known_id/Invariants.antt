use Rattle.std.proofs.Common.{length, map}
use Rattle.folder_letters.specs.Letters.{plain_letter}
use Rattle.maildir_folder.proofs.Searching.{Narrows}
use Rattle.maildir_folder.proofs.known_base.known_id.Given as goal

abbrev pub invariant-loop-left : goal.invariant-loop-left
invariant-loop-left l = Narrows (map plain_letter l.archive) l.listing l.left l.base

abbrev pub decreases-loop-left : goal.decreases-loop-left
decreases-loop-left l = length l.left
