-- What a sync of a kind of folders is, for all that stands above the kinds.
use Rattle.std.specs.Prelude.{◌≡◌, ℕ, Bool, List, Option, None, Result, IfErr, OnErr, OnOk}
use Rattle.disk_model.specs.Journal.{Past}
use Rattle.disk_model.specs.Seen.{Seen}
use Rattle.index_items.specs.Changes.{Changed}
use Rattle.folder_letters.specs.Letters.{Mail}
use Rattle.folder_core.specs.Known.{KnownFolder}
use Rattle.folder_changes.specs.Serving.{Serves}
use Rattle.folder_changes.specs.Refused.{IsBetween}
use Rattle.folder_changes.specs.declared.sync_error.SyncError.{SyncError}
use Rattle.folder_stops.specs.Does.{Does}

-- what a sync of a kind of folders is
pub record SyncRow : Type 1 where
  -- what it did to the messages for an owner, mark by mark, where it was answered so
  pub Works : List ℕ → Bool → KnownFolder → List Mail → List Changed
      → Result (Unit {0}) SyncError → Option Past → Option Past → Type 0
  -- which messages each stop leaves, whatever it was answered
  pub Keeps : KnownFolder → List Mail → List Changed → Option Past → Option Past → Type 0
  -- what is known of the folder behind one that was answered Ok
  pub IsSynced : List ℕ → List Changed → KnownFolder → KnownFolder → Option Past → Option Past
      → Type 0
  -- how it may be refused
  pub MayBe : KnownFolder → List Mail → List Changed → SyncError → Type 0
  -- why it was refused so between two marks of a past, as far as that is told
  pub Refused : KnownFolder → List Mail → List Changed → SyncError → ℕ → ℕ → Past → Type 0
  -- the paths that it may change, and those of files with which a message begins
  pub home : List ℕ → List ℕ → Bool
  pub making : List ℕ → List ℕ → Option (List ℕ)

-- A sync of a folder of a kind. Where it is answered Ok, all that is wanted was done, and what is
-- known is so; after a refusal a part of it was done or nothing, what is known is as before, but
-- that its lock may be held now or no longer, and the refusal had its cause. Whatever the answer,
-- each stop leaves the messages, and our calls changed the folder alone.
pub record SyncsAs (row : SyncRow) (owner : List ℕ) (purge : Bool) (mails : List Mail)
    (changes : List Changed) (known new_known : KnownFolder) (result : Result (Unit {0}) SyncError)
    (old new : Seen) : Type 0 where
  pub works : row.Works owner purge known mails changes result old.told new.told
  pub keeps : row.Keeps known mails changes old.told new.told
  pub here : Does (row.home known.path) (row.making known.path) None old.told new.told
  pub ok_known : OnOk result (row.IsSynced owner changes known new_known old.told new.told)
  pub err_known : OnErr result (new_known ≡ record known { held = new_known.held })
  pub may_be : IfErr result (row.MayBe known mails changes)
  pub cause : IfErr result (λ why.
      IsBetween (row.Refused known mails changes why) old.told new.told)
  pub serves : Serves result old new
