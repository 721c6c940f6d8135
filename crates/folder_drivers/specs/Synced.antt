-- What a sync of a folder did, whatever its kind.
use Rattle.std.specs.Prelude.{◌≡◌, ℕ, Bool, false, List, Option, None, Result, OnOk}
use Rattle.mail_base.specs.declared.kind.Kind.{Kind}
use Rattle.mail_base.specs.declared.kind.Kind.TheVariants.{Maildir, Mbox, Mh, Mmdf}
use Rattle.disk_model.specs.Journal.{Past}
use Rattle.disk_model.specs.Seen.{Seen}
use Rattle.index_items.specs.Changes.{Changed}
use Rattle.folder_letters.specs.Letters.{Mail}
use Rattle.folder_core.specs.Known.{KnownFolder}
use Rattle.folder_core.specs.Right.{Right}
use Rattle.folder_changes.specs.Refused.{Untold}
use Rattle.folder_changes.specs.declared.sync_error.SyncError.{SyncError}
use Rattle.folder_changes.specs.declared.sync_error.SyncError.TheVariants.{NotFolder}
use Rattle.folder_drivers.specs.MaildirSync.{maildir_syncs}
use Rattle.folder_drivers.specs.MboxSync.{mbox_syncs}
use Rattle.folder_drivers.specs.MhLeft.{mh_syncs}
use Rattle.folder_drivers.specs.SyncRow.{SyncRow, SyncsAs}

-- a past that did not go on
abbrev pub StaysAsIs : {A : Type 0} → Result A SyncError → Option Past → Option Past → Type 0
StaysAsIs result old new = OnOk result ⊥ × (new ≡ old)

-- Folders in one file of the other form are not written yet: each call is refused and does
-- nothing.
abbrev pub unwritten_syncs : SyncRow
unwritten_syncs = record {
  Works = λ owner purge known mails changes result old new. StaysAsIs result old new;
  Keeps = λ known mails changes old new. new ≡ old;
  IsSynced = λ owner changes known new_known old new. ⊥;
  MayBe = λ known mails changes why. why ≡ NotFolder;
  Refused = λ known mails changes why. Untold;
  home = λ path other. false;
  making = λ path other. None;
}

-- what a sync is, by the kind of the folder
abbrev pub sync_row : Kind → SyncRow
sync_row Mbox = mbox_syncs
sync_row Maildir = maildir_syncs
sync_row Mh = mh_syncs
sync_row Mmdf = unwritten_syncs

-- A sync of a folder for an owner of its lock, as that of its kind; what is known of it is right
-- then.
pub record Syncs (kind : Kind) (owner : List ℕ) (purge : Bool) (mails : List Mail)
    (changes : List Changed) (known new_known : KnownFolder) (result : Result (Unit {0}) SyncError)
    (old new : Seen) : Type 0 where
  pub syncs : SyncsAs (sync_row kind) owner purge mails changes known new_known result old new
  pub right : Right kind mails new_known new.told
