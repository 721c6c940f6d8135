-- What the messages of a file make of a listing and an archive.
use Rattle.std.specs.Prelude.{◌≡◌, ◌+◌, ◌-◌, ◌++◌, ◌∷◌, ◌&&◌, [], ℕ, Bool, true, List, length, map}
use Rattle.std.specs.Prelude.{take, drop, slice_range, Option, Some, None, if◌then◌else◌}
use Rattle.std.specs.Str.{bytes_eq}
use Rattle.disk_model.specs.declared.answers.FileRead.{FileRead}
use Rattle.folder_core.specs.Keeping.{IsDifference, ListedMail, mails_of, same_flags}
use Rattle.folder_core.specs.Limits.{count_refusal}
use Rattle.folder_core.specs.declared.error.ScanError.{ScanError}
use Rattle.folder_core.specs.declared.error.ScanError.TheVariants.{Fault, NoMemory}
use Rattle.folder_core.specs.declared.region.Region.{Region}
use Rattle.folder_letters.specs.declared.listing.Found.{Found}
use Rattle.folder_letters.specs.declared.listing.Listed.{Listed}
use Rattle.folder_core.specs.Known.{KnownFolder}
use Rattle.folder_letters.specs.Letters.{Mail}
use Rattle.folder_core.specs.Mbox.{begins_mailbox, bytes_refusal, core, mbox_letter, raw_messages}
use Rattle.folder_core.specs.Mbox.{status}
use Rattle.mbox_folder.specs.FileSeen.{bytes_now, stamps_now}

-- what stands in regions of a file
abbrev pub raws_in : List ℕ → List Region → List (List ℕ)
raws_in bytes regions = map (λ region. slice_range bytes region.start region.end) regions

-- the letters of messages, whose ids go up by one
abbrev pub letters_from : ℕ → List (List ℕ) → List Mail
letters_from id [] = []
letters_from id (raw ∷ messages) = mbox_letter id raw ∷ letters_from (id + 1) messages

-- their listing
abbrev pub listed_from : ℕ → List (List ℕ) → List Listed
listed_from id [] = []
listed_from id (raw ∷ messages) =
    record { id = record { 0 = id }; flags = status raw } ∷ listed_from (id + 1) messages

-- a message stands as it is listed
abbrev pub stays : ListedMail → List ℕ → Bool
stays listed raw = bytes_eq listed.mail.core (core raw) && same_flags listed.flags (status raw)

-- how many messages at the front stand as they are listed
abbrev pub stay_count : List ListedMail → List (List ℕ) → ℕ
stay_count [] raws = 0
stay_count (listed ∷ old) [] = 0
stay_count (listed ∷ old) (raw ∷ raws) = if stays listed raw then stay_count old raws + 1 else 0

-- the same of a listing with its letters, in a file
abbrev pub count_staying : List Mail → List Listed → List ℕ → ℕ
count_staying archive old bytes = stay_count (mails_of archive old) (raw_messages bytes)

-- Those at the front that stand as they are listed stay listed, and the others are new: their
-- letters stand at the end of the archive.
pub record ListsFile (bytes : List ℕ) (archive new_archive : List Mail) (old new : List Listed)
    : Type 0 where
  pub begins : begins_mailbox bytes ≡ true
  pub taken : count_refusal (length archive)
      (length (raw_messages bytes) - count_staying archive old bytes)
      (length (raw_messages bytes)) ≡ None
  pub letters : new_archive ≡ archive ++ letters_from (length archive)
      (drop (count_staying archive old bytes) (raw_messages bytes))
  pub listed : new ≡ take (count_staying archive old bytes) old ++ listed_from (length archive)
      (drop (count_staying archive old bytes) (raw_messages bytes))

-- the file is not listed, for this cause or for want of memory
abbrev pub IsUnlisted : List ℕ → List ListedMail → ℕ → ScanError → Type 0
IsUnlisted bytes old letters NoMemory = Unit {0}
IsUnlisted bytes old letters why = bytes_refusal letters old bytes ≡ Some why

-- the tree shows this cause, where it is neither a fault nor want of memory
abbrev pub IsStatedCause : ScanError → Option ScanError → Type 0
IsStatedCause Fault shown = Unit {0}
IsStatedCause NoMemory shown = Unit {0}
IsStatedCause why shown = shown ≡ Some why

-- what is known of a folder once its messages are listed
abbrev pub known_file : KnownFolder → List Listed → Option FileRead → KnownFolder
known_file known listing file = record known {
  listing = listing;
  bytes = bytes_now known file;
  stamps = stamps_now known file;
}

-- The messages of a file are listed and known, and what was found is how the listing changed.
pub record FindsFile (file : Option FileRead) (archive new_archive : List Mail)
    (known new_known : KnownFolder) (found : Found) : Type 0 where
  pub lists : ListsFile (bytes_now known file) archive new_archive known.listing new_known.listing
  pub difference : IsDifference known.listing new_known.listing found
  pub put : new_known ≡ known_file known new_known.listing file

-- nothing changed
pub record IsNothing (found : Found) : Type 0 where
  pub gone : found.gone.items ≡ []
  pub came : found.came.items ≡ []
  pub reflagged : found.reflagged.items ≡ []
