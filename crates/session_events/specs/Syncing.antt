-- What a sync of the open folder comes to.
use Rattle.std.specs.Prelude.{◌≡◌, ◌==◌, ◌⊎◌, ℕ, Bool, true, false, List, [], ◌∷◌, Result, Ok, Err}
use Rattle.std.specs.Prelude.{OnOk, OnErr, if◌then◌else◌}
use Rattle.mail_base.specs.declared.kind.Kind.{Kind}
use Rattle.disk_model.specs.Seen.{Seen}
use Rattle.folder_changes.specs.Left.{listing_synced}
use Rattle.folder_changes.specs.declared.sync_error.SyncError.{SyncError}
use Rattle.folder_changes.specs.declared.sync_error.SyncError.TheVariants.{NoMemory}
use Rattle.folder_drivers.specs.Synced.{Syncs}
use Rattle.folder_letters.specs.Letters.{Mail}
use Rattle.folder_letters.specs.declared.listing.Listed.{Listed}
use Rattle.index_items.specs.Changes.{Changed}
use Rattle.session_events.specs.Checking.{IsOpen, standing_over}
use Rattle.session_events.specs.Events.{Happening, FolderSynced, SyncRefused, plain_refusal}
use Rattle.session_events.specs.Telling.{Tells}
use Rattle.session_events.specs.declared.event.Marks.{Marks}
use Rattle.session_events.specs.declared.open_folder.OpenFolder.{OpenFolder}

-- the event of a sync with these changes that was answered so
abbrev pub sync_event : List Changed → Result (Unit {0}) SyncError → Marks → Happening
sync_event changes (Ok done) marks = FolderSynced changes marks
sync_event changes (Err why) marks = SyncRefused changes (plain_refusal why) marks

-- the listing of the open folder behind an event of a sync
abbrev pub listing_behind : Kind → Happening → List Listed → List Listed
listing_behind kind (FolderSynced changes marks) listing = listing_synced kind changes listing
listing_behind kind _ listing = listing

-- a sync was refused
abbrev pub is_refused : Happening → Bool
is_refused (SyncRefused changes why marks) = true
is_refused _ = false

-- A sync of the open folder, as its event tells it; what is known of the folder stays right.
pub record SyncsOpen (Has : Kind → Type 0) (owner : List ℕ) (purges : Bool) (mails : List Mail)
    (event : Happening) (folder new_folder : OpenFolder) (old new : Seen) : Type 0 where
  pub tells : (empty : Kind)
      → Tells Has (standing_over empty owner purges folder) mails event old new
  pub is_open : IsOpen mails new.told new_folder
  pub path : new_folder.known.path ≡ folder.known.path
  pub kind : new_folder.known.kind ≡ folder.known.kind
  pub listing : new_folder.listing.items
      ≡ listing_behind folder.known.kind event folder.listing.items
  pub met : new_folder.met ≡ folder.met
  pub forgot : new_folder.forgot ≡ folder.forgot
  pub checked : new_folder.checked ≡ folder.checked
  pub refused : new_folder.refused ≡ is_refused event

-- For the code alone.

-- changes without the first one, where that is of the message with this number
abbrev pub without_first : ℕ → List Changed → List Changed
without_first id [] = []
without_first id (changed ∷ changes) =
    if changed.id.0 == id then changes else changed ∷ changes

-- there are none
abbrev pub are_none : List Changed → Bool
are_none [] = true
are_none (changed ∷ changes) = false

-- each change is of a listed message, in the order of the listing
abbrev pub are_in_order : List Listed → List Changed → Bool
are_in_order [] changes = are_none changes
are_in_order (listed ∷ listing) changes =
    are_in_order listing (without_first listed.id.0 changes)

-- What a sync with these changes leaves of the listing of an open folder of which all is known.
pub record PreparesSync (folder : OpenFolder) (changes : List Changed) (synced : List Listed)
    : Type 0 where
  pub all_known : folder.forgot ≡ false
  pub in_order : are_in_order folder.listing.items changes ≡ true
  pub left : synced ≡ listing_synced folder.known.kind changes folder.listing.items

-- The driver of the open folder, of which all was known, synced it with changes of listed messages,
-- in their order; its listing is what a sync leaves where that was done, and else what it was.
pub record TriesSync (owner : List ℕ) (purges : Bool) (mails : List Mail) (changes : List Changed)
    (result : Result (Unit {0}) SyncError) (folder new_folder : OpenFolder) (old new : Seen)
    : Type 0 where
  pub all_known : folder.forgot ≡ false
  pub in_order : are_in_order folder.listing.items changes ≡ true
  pub syncs : Syncs folder.known.kind owner purges mails changes folder.known new_folder.known
      result old new
  pub done : OnOk result (new_folder.listing.items
      ≡ listing_synced folder.known.kind changes folder.listing.items)
  pub kept : OnErr result (new_folder.listing.items ≡ folder.listing.items)
  pub rest : new_folder
      ≡ record folder { known = new_folder.known; listing = new_folder.listing }

-- for want of memory nothing was tried
pub record TriesNothing (result : Result (Unit {0}) SyncError) (folder new_folder : OpenFolder)
    (old new : Seen) : Type 0 where
  pub why : result ≡ Err NoMemory
  pub folder_is : new_folder ≡ folder
  pub seen_is : new ≡ old

-- A sync of the open folder was tried, or nothing was.
pub record MaySync (owner : List ℕ) (purges : Bool) (mails : List Mail) (changes : List Changed)
    (result : Result (Unit {0}) SyncError) (folder new_folder : OpenFolder) (old new : Seen)
    : Type 0 where
  pub went : TriesNothing result folder new_folder old new
      ⊎ TriesSync owner purges mails changes result folder new_folder old new
