use Rattle.std.proofs.Common.{◌≡◌, ◌+◌, ◌<◌, ℕ, length, map}
use Rattle.std.specs.List.{All}
use Rattle.folder_letters.specs.Letters.{plain_letter}
use Rattle.folder_core.specs.Keeping.{mails_of}
use Rattle.folder_core.specs.Mbox.{Cover}
use Rattle.mbox_folder.specs.ListedFile.{raws_in, stay_count}
use Rattle.mbox_folder.proofs.listing.count_staying.Given as goal

abbrev pub invariant-loop-listed : goal.invariant-loop-listed
invariant-loop-listed l = record {
  cover : (from : ℕ) × Cover from (length l.bytes) l.left;
  within : All (λ listed. listed.id.0 < length l.letters) l.listed;
  count : l.count
      + stay_count (mails_of (map plain_letter l.letters) l.listed) (raws_in l.bytes l.left)
      ≡ stay_count (mails_of (map plain_letter l.letters) l.old) (raws_in l.bytes l.regions);
  few : l.count + length l.listed ≡ length l.old;
  rest : l.count + length l.left ≡ length l.regions;
}

abbrev pub decreases-loop-listed : goal.decreases-loop-listed
decreases-loop-listed l = length l.listed
