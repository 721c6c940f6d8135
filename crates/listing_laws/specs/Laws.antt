-- Laws of the definitions.
use Rattle.std.specs.Prelude.{◌≡◌, true, List}
use Rattle.folder_core.specs.Keeping.{IsDifference, ids_differ, mails_of}
use Rattle.folder_core.specs.Right.{mails_rise}
use Rattle.folder_letters.specs.Letters.{Mail}
use Rattle.folder_letters.specs.declared.listing.Found.{Found}
use Rattle.folder_letters.specs.declared.listing.Listed.{Listed}
use Rattle.listing_laws.specs.Listing.{listing_behind}

-- what changed from one listing to another in the order of its letters, done to the first, makes
-- the second
abbrev pub ListingIsScanned : Type 0
ListingIsScanned = (mails : List Mail) (old new : List Listed) (found : Found)
    → ids_differ old ≡ true → mails_rise (mails_of mails new) ≡ true → IsDifference old new found
    → listing_behind mails found old ≡ new
