-- Laws of the definitions.
use Rattle.std.specs.Prelude.{◌≡◌, ◌+◌, ◌≤◌, ℕ, List, [], length, map}
use Rattle.folder_letters.specs.Letters.{Mail}
use Rattle.folder_letters.specs.Listings.{ids_from}
use Rattle.folder_letters.specs.declared.listing.Found.{Found}
use Rattle.index_view.specs.View.{MayTake}

-- What was found is messages alone whose ids rise by one and are those of letters.
pub record AllCame (found : Found) (mails : List Mail) : Type 0 where
  pub none_gone : found.gone.items ≡ []
  pub none_reflagged : found.reflagged.items ≡ []
  pub first : ℕ
  pub ids : map (λ listed. listed.id) found.came.items ≡ ids_from first found.came.items
  pub within : first + length found.came.items ≤ length mails

-- what a scan found, whose messages all came, may be taken in where none is listed
abbrev pub FirstFolderIsTaken : Type 0
FirstFolderIsTaken = (found : Found) (mails : List Mail) → AllCame found mails → MayTake mails [] found
