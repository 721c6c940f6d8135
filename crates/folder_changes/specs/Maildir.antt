-- Maildirs in which each base stands under one name, and what is done to one of their files.
use Rattle.std.specs.Prelude.{◌≡◌, ◌≢◌, ◌≤◌, ◌<◌, ◌+◌, ◌∷◌, [], ℕ, true, List, Option, Some, None}
use Rattle.std.specs.Prelude.{Result, Ok, Err, length}
use Rattle.mail_base.specs.declared.flags.Flags.{Flags}
use Rattle.mail_base.specs.declared.kind.Kind.TheVariants.{Maildir}
use Rattle.disk_model.specs.Journal.{Past}
use Rattle.disk_model.specs.Judge.{GoesOn, IsLonger}
use Rattle.disk_model.specs.State.{tree_at}
use Rattle.disk_model.specs.Tree.{TreeNode}
use Rattle.index_items.specs.Changes.{PlainChange}
use Rattle.folder_core.specs.Maildir.{MaildirFile, base_of, is_maildir, is_shown, maildir_reads}
use Rattle.folder_core.specs.Maildir.{message_at}
use Rattle.folder_core.specs.MaildirNames.{flags_of, split_name}
use Rattle.folder_core.specs.Message.{Message}
use Rattle.folder_changes.specs.Wanted.{altered}
use Rattle.folder_changes.specs.Worked.{Works, others_at}
use Rattle.folder_changes.specs.declared.sync_error.SyncError.{SyncError}

-- the flags that a name tells
abbrev pub flags_named : MaildirFile → Flags
flags_named file = flags_of file.in_cur (split_name file.name).1

-- a name of the folder at a path is that of a message
pub record IsMessageAt (path : List ℕ) (tree : List TreeNode) (file : MaildirFile)
    (message : Message) : Type 0 where
  pub shown : is_shown file.name ≡ true
  pub there : message_at tree path file ≡ Some message

-- a folder in which each base stands under one name
pub record IsSingleNamed (path : List ℕ) (tree : List TreeNode) : Type 0 where
  pub folder : is_maildir tree path ≡ true
  pub single : (a b : MaildirFile) → (m n : Message) → IsMessageAt path tree a m
      → IsMessageAt path tree b n → base_of a ≡ base_of b → a ≡ b

-- the names of other bases are of the messages of which they were
abbrev pub AreOthersAlike : List ℕ → List ℕ → List TreeNode → List TreeNode → Type 0
AreOthersAlike path base old new = (file : MaildirFile) → is_shown file.name ≡ true
    → (base_of file ≡ base → ⊥) → message_at new path file ≡ message_at old path file

-- the file of a base went, and nothing else changed
pub record TakesFile (path base : List ℕ) (old new : List TreeNode) : Type 0 where
  pub folder : is_maildir new path ≡ true
  pub others : AreOthersAlike path base old new
  pub gone : (file : MaildirFile) → (m : Message) → IsMessageAt path new file m
      → base_of file ≡ base → ⊥

-- the file of a base has another name now, by which its message has other flags, and nothing else
-- changed
pub record RenamesFile (path base : List ℕ) (change : PlainChange) (old new : List TreeNode)
    : Type 0 where
  pub folder : is_maildir new path ≡ true
  pub others : AreOthersAlike path base old new
  pub from : MaildirFile
  pub to : MaildirFile
  pub message : Message
  pub renamed : Message
  pub was : IsMessageAt path old from message
  pub is : IsMessageAt path new to renamed
  pub base_was : base_of from ≡ base
  pub base_is : base_of to ≡ base
  pub flags : altered Maildir change message ≡ renamed ∷ []
  pub alone : (file : MaildirFile) → (m : Message) → IsMessageAt path new file m
      → base_of file ≡ base → file ≡ to

-- behind each action of others between two marks each base stands under one name
abbrev pub OthersKeepSingle : List ℕ → ℕ → ℕ → Past → Type 0
OthersKeepSingle path m n past = (mark : ℕ) → m ≤ mark → mark < n → others_at mark past ≡ true
    → IsSingleNamed path (tree_at past (mark + 1))

-- what the folder reads as at a mark
abbrev pub maildir_at : List ℕ → Past → ℕ → Option (List Message)
maildir_at path past mark = maildir_reads (tree_at past mark) path

-- Between two marks of a past our steps did what was wanted of the messages, and each base stood
-- under one name at each mark.
pub record WorksSingly (path : List ℕ) (what : List ℕ → Option PlainChange) (m n : ℕ)
    (past : Past) : Type 0 where
  pub works : Works Maildir what (maildir_at path past) m n past
  pub single : (mark : ℕ) → m ≤ mark → mark ≤ n → IsSingleNamed path (tree_at past mark)

-- A told past goes on by steps that did what was wanted, where each base stood under one name at
-- first and others gave none a second one, however it goes on behind them.
pub record DoesWanted (path : List ℕ) (what : List ℕ → Option PlainChange) (old new : Past)
    : Type 0 where
  pub longer : IsLonger old new
  pub does : (past : Past) → IsLonger new past
      → IsSingleNamed path (tree_at past (length old.journal))
      → OthersKeepSingle path (length old.journal) (length new.journal) past
      → WorksSingly path what (length old.journal) (length new.journal) past

-- a part of what was wanted was done, and nothing else
pub record DoesPart (path : List ℕ) (what : List ℕ → Option PlainChange) (old new : Past) : Type 0
  where
    pub part : List ℕ → Option PlainChange
    pub within : (key : List ℕ) → part key ≢ None → part key ≡ what key
    pub does : DoesWanted path part old new

-- what was wanted was done where the answer is Ok, and a part of it where it is a refusal
abbrev pub DidWanted : List ℕ → (List ℕ → Option PlainChange) → Result (Unit {0}) SyncError
    → Option Past → Option Past → Type 0
DidWanted path what (Ok done) old new = GoesOn (DoesWanted path what) old new
DidWanted path what (Err why) old new = GoesOn (DoesPart path what) old new
