-- What adding a message to a folder of a kind is, for all that stands above the kinds.
use Rattle.std.specs.Prelude.{◌≡◌, ℕ, false, List, Option, Some}
use Rattle.std.specs.Prelude.{None, Result, IfErr, IfSome, OnOk, option_map}
use Rattle.mail_base.specs.Ordered.{IsIn}
use Rattle.mail_base.specs.declared.kind.Kind.{Kind}
use Rattle.disk_model.specs.Journal.{Past}
use Rattle.disk_model.specs.Seen.{Seen}
use Rattle.index_items.specs.Changes.{Discards}
use Rattle.folder_letters.specs.Letters.{Mail}
use Rattle.folder_core.specs.Message.{Message, has_key}
use Rattle.folder_changes.specs.Refused.{IsBetween}
use Rattle.folder_changes.specs.Serving.{Serves}
use Rattle.folder_changes.specs.Wanted.{change_at, wanted}
use Rattle.folder_changes.specs.declared.item.Item.{Item}
use Rattle.folder_changes.specs.declared.sync_error.SyncError.{SyncError}
use Rattle.folder_stops.specs.Appends.{AddedSome, AddsSome}
use Rattle.folder_stops.specs.Folder.{FileFolder}

-- What a step adds.

-- What the folder reads as has one message more, and is as before without it.
pub record GainsOne (kind : Kind) (message : Message) (old new : Option (List Message)) : Type 0
  where
    pub without : old ≡ option_map (wanted kind (change_at message.key Discards)) new
    pub held : IfSome new (IsIn message)

-- no message has the key
abbrev pub lacks : List ℕ → Option (List Message) → Type 0
lacks key None = ⊥
lacks key (Some messages) = has_key key messages ≡ false

-- What adding a message is.

-- what adding a message to a kind of folders is
pub record AppendRow : Type 1 where
  -- how the folder is read, and what a stop may leave of it
  pub files : List ℕ → FileFolder
  -- the bytes that a message of this text has
  pub core : List ℕ → List ℕ
  -- what was done to the messages where the answer is Ok
  pub Works : List ℕ → List Mail → Item → Option Past → Option Past → Type 0
  -- how it may be refused
  pub MayBe : SyncError → Type 0
  -- why it was refused so between two marks of a past, as far as that is told
  pub Refused : List ℕ → SyncError → ℕ → ℕ → Past → Type 0
  -- what its first look has found, by the answer
  pub Looked : List ℕ → Result (Unit {0}) SyncError → Option Past → Option Past → Type 0

-- A message was added to a folder of a kind, or not. Whatever the answer, each stop leaves all
-- messages, and the new one from its first file on or not; where the answer is Ok it stands, and
-- was put in its place at one step.
pub record AppendsAs (row : AppendRow) (path : List ℕ) (mails : List Mail) (item : Item)
    (result : Result (Unit {0}) SyncError) (old new : Seen) : Type 0 where
  pub keeps : AddsSome (row.files path) (row.core item.text.items) old.told new.told
  pub adds : OnOk result (AddedSome (row.files path) (row.core item.text.items) old.told new.told)
  pub works : OnOk result (row.Works path mails item old.told new.told)
  pub looked : row.Looked path result old.told new.told
  pub may_be : IfErr result row.MayBe
  pub cause : IfErr result (λ why. IsBetween (row.Refused path why) old.told new.told)
  pub serves : Serves result old new
