-- What a walk over the files of a folder has found.
use Rattle.std.specs.Prelude.{◌≡◌, ◌+◌, ℕ, Bool, true, false, List, [], ◌∷◌, Option, Some, None}
use Rattle.std.specs.Prelude.{is_some, length, option_map}
use Rattle.disk_model.specs.Journal.{Call, Past}
use Rattle.disk_model.specs.Judge.{GoesOn}
use Rattle.disk_model.specs.Seen.{Seen}
use Rattle.disk_model.specs.Tree.{TreeNode}
use Rattle.folder_core.specs.Costs.{RaisesAtMost}
use Rattle.folder_core.specs.Directory.{file_at}
use Rattle.folder_core.specs.Keeping.{AreThere, IsThere, KeepCores, kept_by_key, keyed}
use Rattle.folder_core.specs.Keeping.{mail_of, mails_of}
use Rattle.folder_core.specs.Known.{KnownFolder}
use Rattle.folder_core.specs.ListedSoFar.{Holds, Store, store_found, store_known}
use Rattle.folder_core.specs.Looked.{IsTreeOfAll, SawAt}
use Rattle.folder_core.specs.Maildir.{AllStood, MaildirFile, StaysThere, base_of, is_taken}
use Rattle.folder_core.specs.Maildir.{maildir_format, message_at, message_of, messages_behind}
use Rattle.folder_core.specs.Maildir.{path_of}
use Rattle.folder_core.specs.MaildirNames.{order_of}
use Rattle.folder_core.specs.Message.{ArePlaced, Message, are_in_order, has_key}
use Rattle.folder_letters.specs.Letters.{Mail}
use Rattle.mail_base.specs.Ordered.{IsIn}
use Rattle.mail_base.specs.declared.flags.Flags.{Flags}

-- the message with the file's base, where one is known
abbrev pub keep_of : List Mail → KnownFolder → MaildirFile → Option ℕ
keep_of mails known file = keyed (mails_of mails known.listing) (base_of file)

-- at a tree a file was not there, or its message, with its bytes where it was not known
abbrev pub FileTold : List ℕ → MaildirFile → Option ℕ → Option (List ℕ) → List TreeNode → Type 0
FileTold path file keep None tree = file_at tree (path_of path file) ≡ None
FileTold path file keep (Some raw) tree =
    IsThere keep (message_of file raw) (message_at tree path file)

-- a file was looked for
abbrev pub SawFile : List ℕ → MaildirFile → Option ℕ → Option (List ℕ) → Past → Past → Type 0
SawFile path file keep found old new =
    (call : Call) × SawAt call (FileTold path file keep found) old
    new

-- whether a file was there
abbrev pub KnownSeen : List ℕ → MaildirFile → Bool → Past → Past → Type 0
KnownSeen path file kept old new =
    (call : Call) × SawAt call (λ tree. is_some (file_at tree (path_of path file)) ≡ kept) old new

-- what is found of a known message is what its letter holds
abbrev pub HoldsCore : List Mail → Option ℕ → Option (List ℕ) → Type 0
HoldsCore mails None found = Unit {0}
HoldsCore mails (Some id) None = Unit {0}
HoldsCore mails (Some id) (Some raw) = (mail_of mails id).core ≡ raw

-- how many bytes are read for what is found: none of a known message
abbrev pub fresh_read : Option ℕ → Option (List ℕ) → ℕ
fresh_read None None = 0
fresh_read None (Some raw) = length raw
fresh_read (Some id) found = 0

-- a file was looked for, whose message was known so, and is stored where it was met
pub record Takes (mails : List Mail) (path : List ℕ) (file : MaildirFile) (keep : Option ℕ)
    (taken : Bool) (store new_store : Store) (old new : Seen) : Type 0 where
  pub found : Option (List ℕ)
  pub is : taken ≡ is_some found
  pub store_is : new_store
      ≡ store_found maildir_format keep (option_map (message_of file) found) store
  pub core : HoldsCore mails keep found
  pub reads : RaisesAtMost old.bytes_read new.bytes_read (fresh_read keep found)
  pub saw : GoesOn (SawFile path file keep found) old.told new.told

-- a file is not looked for where a message with its base was taken already
abbrev pub NextSeen : Bool → List ℕ → MaildirFile → Option ℕ → Option (List ℕ) → Past → Past
    → Type 0
NextSeen true path file keep found old new = found ≡ None
NextSeen false path file keep found old new = SawFile path file keep found old new

-- A file of the walk is taken, or left out for the one before it.
pub record TakesNext (mails : List Mail) (path : List ℕ) (last : Option (List ℕ))
    (file : MaildirFile) (keep : Option ℕ) (taken : Bool) (store new_store : Store)
    (old new : Seen) : Type 0 where
  pub found : Option (List ℕ)
  pub is : taken ≡ is_some found
  pub store_is : new_store
      ≡ store_found maildir_format keep (option_map (message_of file) found) store
  pub once : is_taken last (base_of file) ≡ true → found ≡ None
  pub core : HoldsCore mails keep found
  pub reads : RaisesAtMost old.bytes_read new.bytes_read (fresh_read keep found)
  pub saw : GoesOn (NextSeen (is_taken last (base_of file)) path file keep found) old.told new.told

-- A walk over files in order: each message stood there, each base has one where a file of it stays
-- there, and those of a tree that does not change are its messages.
pub record WalkSeen (path : List ℕ) (files : List MaildirFile) (keeps : List (Option ℕ))
    (messages : List Message) (old new : Past) : Type 0 where
  pub stood : AllStood path (length old.journal) (length new.journal) new keeps messages
  pub kept : (file : MaildirFile) → IsIn file files
      → StaysThere path file (length old.journal) (length new.journal) new
      → has_key (base_of file) messages ≡ true
  pub still : (tree : List TreeNode) → IsTreeOfAll tree old new
      → AreThere keeps messages (messages_behind tree path None files)

-- the bytes of the messages that were not known
abbrev pub fresh_bytes : List (Option ℕ) → List Message → ℕ
fresh_bytes [] messages = 0
fresh_bytes (keep ∷ keeps) [] = 0
fresh_bytes (None ∷ keeps) (message ∷ messages) = length message.raw + fresh_bytes keeps messages
fresh_bytes (Some id ∷ keeps) (message ∷ messages) = fresh_bytes keeps messages

-- Messages in the order of their bases, some of them known, of which no byte was read.
pub record AreWalked (mails : List Mail) (known : KnownFolder) (first store : Store)
    (keeps : List (Option ℕ)) (messages : List Message) (old new : Seen) : Type 0 where
  pub kept : keeps ≡ kept_by_key (mails_of mails known.listing) messages
  pub cores : KeepCores (λ raw. raw) mails keeps messages
  pub in_order : are_in_order messages ≡ true
  pub placed : ArePlaced order_of messages
  pub holds : Holds maildir_format first keeps messages store
  pub reads : RaisesAtMost old.bytes_read new.bytes_read (fresh_bytes keeps messages)

-- files were walked over, and what they hold was found
pub record IsWalked (mails : List Mail) (known : KnownFolder) (files : List MaildirFile)
    (first store : Store) (old new : Seen) : Type 0 where
  pub messages : List Message
  pub keeps : List (Option ℕ)
  pub walked : AreWalked mails known first store keeps messages old new
  pub saw : GoesOn (WalkSeen known.path files keeps messages) old.told new.told

-- a known message is kept where its file is there
abbrev pub kept_store : Bool → ℕ → Flags → ℕ → Store → Store
kept_store true id flags size store = store_known id flags size store
kept_store false id flags size store = store

-- a file of a known message was looked for, and kept where it was there
pub record Keeps (path : List ℕ) (file : MaildirFile) (id size : ℕ) (kept : Bool)
    (store new_store : Store) (old new : Seen) : Type 0 where
  pub store_is : new_store ≡ kept_store kept id (message_of file []).flags size store
  pub reads : RaisesAtMost old.bytes_read new.bytes_read 0
  pub saw : GoesOn (KnownSeen path file kept) old.told new.told
