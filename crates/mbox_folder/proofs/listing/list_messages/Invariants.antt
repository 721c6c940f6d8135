use Rattle.std.proofs.Common.{◌≡◌, ◌+◌, ◌++◌, ℕ, length, map, take}
use Rattle.folder_letters.specs.Letters.{plain_letter}
use Rattle.folder_core.specs.Mbox.{Cover}
use Rattle.mbox_folder.specs.ListedFile.{letters_from, listed_from, raws_in}
use Rattle.mbox_folder.proofs.listing.list_messages.Given as goal

abbrev pub invariant-loop-left : goal.invariant-loop-left
invariant-loop-left l = record {
  cover : (from : ℕ) × Cover from (length l.bytes) l.left;
  letters : map plain_letter l.archive.items
      ++ letters_from (length l.archive.items) (raws_in l.bytes l.left)
      ≡ map plain_letter l.initial.archive.items ++ letters_from (length l.initial.archive.items)
      (raws_in l.bytes l.regions);
  listed : l.listing.items ++ listed_from (length l.archive.items) (raws_in l.bytes l.left)
      ≡ l.staying ++ listed_from (length l.initial.archive.items) (raws_in l.bytes l.regions);
  few : length l.archive.items + length l.left ≡ length l.initial.archive.items + length l.regions;
  front : take (length l.initial.archive.items) l.archive.items ≡ l.initial.archive.items;
}

abbrev pub decreases-loop-left : goal.decreases-loop-left
decreases-loop-left l = length l.left
