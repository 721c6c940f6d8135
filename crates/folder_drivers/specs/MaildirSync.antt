-- What a sync of a Maildir is, and why it is refused (maildir(5)).
use Rattle.std.specs.List.{filter, find, list_any}
use Rattle.std.specs.Str.{bytes_eq}
use Rattle.mail_base.specs.Flags.{applied, stored}
use Rattle.mail_base.specs.declared.flags.Flags.{Flags}
use Rattle.folder_stops.specs.Along.{Grown}
use Rattle.folder_stops.specs.Words.{Among}
use Rattle.maildir_names.specs.MaildirName.{is_new, is_other, name_of, split_name}
use Rattle.index_items.specs.Changes.{PlainChange, Alters, Discards}
use Rattle.folder_changes.specs.Maildir.{flags_named}
use Rattle.folder_core.specs.Maildir.{is_shown}
use Rattle.disk_model.specs.Journal.{Done, Own}
use Rattle.std.specs.Prelude.{◌≡◌, ◌==◌, ◌⊎◌, ◌∷◌, [], ℕ, Bool, List, OnOk, Option, Some, Result}
use Rattle.std.specs.Prelude.{is_none, not, true}
use Rattle.mail_base.specs.Ordered.{IsIn}
use Rattle.mail_base.specs.declared.kind.Id.{Id}
use Rattle.mail_base.specs.declared.kind.Kind.TheVariants.{Maildir}
use Rattle.disk_model.specs.Journal.{Call, Past, Remove, Rename, SyncDir}
use Rattle.disk_model.specs.Names.{names_in}
use Rattle.disk_model.specs.Tree.{TreeNode, node_at}
use Rattle.folder_letters.specs.declared.listing.Listed.{Listed}
use Rattle.folder_core.specs.Known.{KnownFolder}
use Rattle.folder_changes.specs.Worked.{WasCause}
use Rattle.index_items.specs.Changes.{Changed}
use Rattle.folder_letters.specs.Letters.{Mail}
use Rattle.folder_core.specs.Keeping.{mail_of}
use Rattle.folder_core.specs.Maildir.{MaildirFile, base_of, directory, files_in}
use Rattle.folder_core.specs.Maildir.{is_maildir, path_of}
use Rattle.folder_changes.specs.Asked.{discarded, ids_of, what_of}
use Rattle.folder_changes.specs.Left.{listing_synced}
use Rattle.folder_changes.specs.Maildir.{DidWanted}
use Rattle.folder_changes.specs.Refused.{StepRefused}
use Rattle.folder_changes.specs.declared.sync_error.Spot.TheVariants.{Name}
use Rattle.folder_changes.specs.declared.sync_error.SyncError.{SyncError}
use Rattle.folder_changes.specs.declared.sync_error.SyncError.TheVariants.{Changed as IsChanged}
use Rattle.folder_changes.specs.declared.sync_error.SyncError.TheVariants.{Fault, NoMemory}
use Rattle.folder_drivers.specs.SyncRow.{SyncRow}
use Rattle.folder_shapes.specs.Maildir.{maildir_files}
use Rattle.folder_stops.specs.Syncs.{KeepsHolds}

-- How it may be refused.

-- the path is that of a file of one of these messages
pub record IsFileOf (path : List ℕ) (mails : List Mail) (ids : List Id) (name : List ℕ) : Type 0
  where
    pub id : Id
    pub among : IsIn id ids
    pub file : MaildirFile
    pub base : base_of file ≡ (mail_of mails id.0).key
    pub at : name ≡ path_of path file

-- why a sync of these messages was refused: what stands at the folder's path or at that of a file
-- of one of them is not as it is known, the disk failed, or memory ran out
abbrev pub IsSyncError : List ℕ → List Mail → List Id → SyncError → Type 0
IsSyncError path mails ids (IsChanged (Name name)) =
    (name.items ≡ path) ⊎ IsFileOf path mails ids name.items
IsSyncError path mails ids Fault = Unit {0}
IsSyncError path mails ids NoMemory = Unit {0}
IsSyncError path mails ids why = ⊥

-- By which names files go.

-- the file of a base by these flags, and by no other letter
abbrev pub file_known : List ℕ → Flags → MaildirFile
file_known base flags = record {
  in_cur = not (is_new flags);
  name = name_of (record { base = base; flags = flags; others = [] });
}

-- a file by another name, which tells these flags, and the letters of its own that stand for none
abbrev pub file_with : Flags → MaildirFile → MaildirFile
file_with flags file = record {
  in_cur = not (is_new flags);
  name = name_of (record {
    base = base_of file;
    flags = flags;
    others = filter is_other (split_name file.name).1;
  });
}

-- a file with a change of the flags that its name tells
abbrev pub file_changed : Flags → Flags → MaildirFile → MaildirFile
file_changed added cleared file =
    file_with (stored Maildir (applied (flags_named file) added cleared)) file

-- A call of ours gave a file of a base the name that tells its flags with a change.
pub record WasRenamed (path base : List ℕ) (added cleared : Flags) (old new : Option Past) : Type 0
  where
    pub file : MaildirFile
    pub shown : is_shown file.name ≡ true
    pub named : base_of file ≡ base
    pub made : Grown old new (λ state entries. Among
        (Own (Rename (path_of path file) (path_of path (file_changed added cleared file))) Done)
        entries)

-- the file of a message with a key got its name, where its flags change
abbrev pub WasNamed : List ℕ → List ℕ → PlainChange → Option Past → Option Past → Type 0
WasNamed path key (Alters added cleared) old new = WasRenamed path key added cleared old new
WasNamed path key Discards old new = Unit {0}

-- the file of each message whose flags change got its name
abbrev pub AllNamed : List ℕ → List Mail → List Changed → Option Past → Option Past → Type 0
AllNamed path mails [] old new = Unit {0}
AllNamed path mails (changed ∷ changes) old new =
    WasNamed path (mail_of mails changed.id.0).key changed.change old new
    × AllNamed path mails changes old new

-- What was wanted was done where the answer is Ok, and then each file has the name that tells its
-- flags; else a part of it was done.
pub record WorksByName (path : List ℕ) (mails : List Mail) (changes : List Changed)
    (result : Result (Unit {0}) SyncError) (old new : Option Past) : Type 0 where
  pub does : DidWanted path (what_of mails changes) result old new
  pub names : OnOk result (AllNamed path mails changes old new)

-- Why it was refused.

-- no Maildir stands at the path
abbrev pub is_no_maildir : List ℕ → List TreeNode → Bool
is_no_maildir path tree = not (is_maildir tree path)

-- a directory of messages has no name of this base
abbrev pub has_no_file : List ℕ → List ℕ → Bool → List TreeNode → Bool
has_no_file path base in_cur tree = not (list_any (λ file. bytes_eq (base_of file) base)
    (files_in in_cur (names_in tree (directory in_cur path))))

-- nothing stands at the path
abbrev pub is_nothing : List ℕ → List TreeNode → Bool
is_nothing at tree = is_none (node_at tree at)

-- the call puts the names in a directory of messages on the disk
abbrev pub NeedsDirectory : List ℕ → Call → Type 0
NeedsDirectory path (SyncDir at) = (in_cur : Bool) × (at ≡ directory in_cur path)
NeedsDirectory path call = ⊥

-- the call moves a file or takes it away
abbrev pub NeedsFile : List ℕ → Call → Type 0
NeedsFile name (Rename from to) = from ≡ name
NeedsFile name (Remove at) = at ≡ name
NeedsFile name call = ⊥

-- In neither directory was a name of a message's base, which is no doing of ours; the message is
-- named as its known flags would have it, and nothing stood at that path where a message may have
-- the name.
pub record WasGone (known : KnownFolder) (mails : List Mail) (id : Id) (name : List ℕ) (m n : ℕ)
    (past : Past) : Type 0 where
  pub listed : Listed
  pub is_listed : find (λ l. l.id.0 == id.0) known.listing ≡ Some listed
  pub named : name ≡ path_of known.path (file_known (mail_of mails id.0).key listed.flags)
  pub none : (in_cur : Bool)
      → WasCause (has_no_file known.path (mail_of mails id.0).key in_cur) m n past
  pub away : is_shown (file_known (mail_of mails id.0).key listed.flags).name ≡ true
      → WasCause (is_nothing name) m n past

-- the file of one of these messages was gone, or its step was refused for what stood there
pub record FileRefused (known : KnownFolder) (mails : List Mail) (ids : List Id) (name : List ℕ)
    (m n : ℕ) (past : Past) : Type 0 where
  pub of : IsFileOf known.path mails ids name
  pub why : WasGone known mails of.id name m n past ⊎ StepRefused (NeedsFile name) m n past

-- why a sync was refused between two marks: no Maildir stood at the path, or one of its directories
-- was not there to be put on the disk; a message had no file, or the step of its file was refused;
-- the disk failed, or memory ran out. No state is a cause that our own steps have made.
abbrev pub MaildirRefused : KnownFolder → List Mail → List Changed → SyncError → ℕ → ℕ → Past
    → Type 0
MaildirRefused known mails changes (IsChanged (Name name)) m n past =
    ((name.items ≡ known.path) × (WasCause (is_no_maildir known.path) m n past
    ⊎ StepRefused (NeedsDirectory known.path) m n past))
    ⊎ FileRefused known mails (ids_of changes) name.items m n past
MaildirRefused known mails changes Fault m n past = Unit {0}
MaildirRefused known mails changes NoMemory m n past = Unit {0}
MaildirRefused known mails changes why m n past = ⊥

-- What it is.

-- syncs of Maildirs
abbrev pub maildir_syncs : SyncRow
maildir_syncs = record {
  Works = λ owner purge known mails changes result old new.
      WorksByName known.path mails changes result old new;
  Keeps = λ known mails changes old new.
      KeepsHolds (maildir_files known.path) (discarded mails changes) old new;
  IsSynced = λ owner changes known new_known old new.
      new_known ≡ record known { listing = listing_synced Maildir changes known.listing };
  MayBe = λ known mails changes why. IsSyncError known.path mails (ids_of changes) why;
  Refused = MaildirRefused;
  home = λ path. (maildir_files path).shape.home;
  making = λ path. (maildir_files path).making;
}
