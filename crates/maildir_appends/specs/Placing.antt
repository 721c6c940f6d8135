-- Where a message of a Maildir is written first, and where it is put.
use Rattle.std.specs.Prelude.{false, true}
use Rattle.std.specs.Prelude.{◌≡◌, ℕ, List, Option, Some, None}
use Rattle.std.specs.String.{string_bytes}
use Rattle.mail_base.specs.declared.flags.Flags.{Flags}
use Rattle.disk_model.specs.Journal.{Create, Done, Own, Past, Rename}
use Rattle.folder_stops.specs.Along.{Grown}
use Rattle.folder_stops.specs.Words.{Among}
use Rattle.folder_letters.specs.declared.letter.Letter.{Letter}
use Rattle.folder_core.specs.Maildir.{directory}
use Rattle.folder_core.specs.Directory.{path_in}
use Rattle.folder_shapes.specs.Maildir.{maildir_making, maildir_shape}
use Rattle.maildir_appends.specs.Causes.{MeetsNone}
use Rattle.maildir_appends.specs.Meeting.{SawPresent}
use Rattle.folder_drivers.specs.MaildirAppend.{IsBase, IsFirstFree, beside_at, place_at}
use Rattle.maildir_appends.specs.Taken.{is_taken}
use Rattle.maildir_appends.specs.declared.listing.Present.{Present}
use Rattle.maildir_appends.specs.declared.places.Places.{Places}

-- A path in `tmp` and one in `cur` or `new` are those of one key.
pub record IsPlaced (dir beside place : List ℕ) : Type 0 where
  pub key : List ℕ
  pub made : maildir_making dir beside ≡ Some key
  pub placed : (maildir_shape dir).slot place ≡ Some key

-- no message stands under this name in the folder
abbrev pub IsApart : List ℕ → List ℕ → Type 0
IsApart dir word = (maildir_shape dir).slot (path_in dir word) ≡ None

-- The file at one path was made, and then got the other one as its name.
pub record PutsAt (beside place : List ℕ) (old new : Option Past) : Type 0 where
  pub grown : Grown old new (λ state entries. Among (Own (Create beside) Done) entries
      × Among (Own (Rename beside place) Done) entries)

-- The paths are those of a base with flags.
pub record AreOf (dir base : List ℕ) (flags : Flags) (places : Places) : Type 0 where
  pub beside : string_bytes places.beside ≡ beside_at dir base
  pub place : string_bytes places.place ≡ place_at dir base flags
  pub new : string_bytes places.new ≡ directory false dir
  pub cur : string_bytes places.cur ≡ directory true dir

-- The paths are those of a base with flags, the first of the moment that neither the names which
-- the looks met nor the letters have taken.
pub record AreChosen (dir : List ℕ) (letters : List Letter) (moment : ℕ) (flags : Flags)
    (old new : Option Past) (places : Places) : Type 0 where
  pub present : Present
  pub saw : SawPresent dir present old new
  pub base : List ℕ
  pub first : IsFirstFree (is_taken present letters) moment base
  pub is_base : IsBase base
  pub paths : AreOf dir base flags places
  pub met : MeetsNone dir base old new
