-- What adding a message to a folder did, whatever its kind.
use Rattle.std.specs.Prelude.{◌≡◌, ℕ, List, Result, Err}
use Rattle.mail_base.specs.declared.kind.Kind.{Kind}
use Rattle.mail_base.specs.declared.kind.Kind.TheVariants.{Maildir, Mbox, Mh, Mmdf}
use Rattle.disk_model.specs.Seen.{Seen}
use Rattle.folder_letters.specs.Letters.{Mail}
use Rattle.folder_changes.specs.declared.item.Item.{Item}
use Rattle.folder_changes.specs.declared.sync_error.SyncError.{SyncError}
use Rattle.folder_changes.specs.declared.sync_error.SyncError.TheVariants.{NotFolder}
use Rattle.folder_drivers.specs.AppendRow.{AppendsAs}
use Rattle.folder_drivers.specs.MaildirAppend.{maildir_additions}
use Rattle.folder_drivers.specs.MboxAppend.{AddsToMailbox}
use Rattle.folder_drivers.specs.MhAppend.{mh_additions}

-- Folders in one file of the other form are not written yet: each call is refused and does
-- nothing.
pub record IsUnwritten (result : Result (Unit {0}) SyncError) (old new : Seen) : Type 0 where
  pub refused : result ≡ Err NotFolder
  pub same : new ≡ old

-- a message was added to a folder of a kind for an owner of its lock, or not
abbrev pub Appends : Kind → List ℕ → List ℕ → List Mail → Item → Result (Unit {0}) SyncError → Seen
    → Seen → Type 0
Appends Mbox path owner mails item result old new = AddsToMailbox path owner item result old new
Appends Maildir path owner mails item result old new =
    AppendsAs maildir_additions path mails item result old new
Appends Mh path owner mails item result old new =
    AppendsAs mh_additions path mails item result old new
Appends Mmdf path owner mails item result old new = IsUnwritten result old new
