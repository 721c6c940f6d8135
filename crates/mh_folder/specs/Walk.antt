-- What a walk over the numbered files of a folder has found and kept.
use Rattle.std.specs.Prelude.{◌≡◌, ◌≢◌, ◌≤◌, ◌<◌, ◌^◌, ◌+◌, ◌++◌, ◌⊎◌, ◌==◌, ◌||◌, ℕ, pos, true}
use Rattle.std.specs.Prelude.{List, [], ◌∷◌}
use Rattle.std.specs.Prelude.{Option, Some, None, IfSome, length, if◌then◌else◌}
use Rattle.std.specs.List.{filter_map}
use Rattle.disk_model.specs.Journal.{Past}
use Rattle.disk_model.specs.Judge.{GoesOn}
use Rattle.disk_model.specs.State.{tree_at}
use Rattle.disk_model.specs.Tree.{TreeNode, node_at}
use Rattle.disk_model.specs.declared.answers.Stat.{Stat}
use Rattle.folder_core.specs.Directory.{path_in, stamp_there}
use Rattle.folder_core.specs.Keeping.{AreThere, IsThere, KeepCores, kept_by_stamp, mail_of}
use Rattle.folder_letters.specs.Letters.{Mail}
use Rattle.folder_core.specs.Limits.{list_refusal, most_bytes, told_sum}
use Rattle.folder_core.specs.ListedSoFar.{Holds, IsEmpty, Store, store_found}
use Rattle.folder_core.specs.ListedSoFar.{store_of, store_refusal}
use Rattle.folder_core.specs.Looked.{IsTreeOfAll}
use Rattle.folder_core.specs.Message.{ArePlaced, Message, are_in_order, has_key}
use Rattle.folder_core.specs.Mh.{AllStood, StaysThere, message_at, message_of, mh_format}
use Rattle.folder_core.specs.Mh.{number_at}
use Rattle.folder_core.specs.MhSequences.{mh_flags}
use Rattle.mail_base.specs.Ordered.{IsIn}
use Rattle.folder_letters.specs.declared.letter.Letter.{Letter}
use Rattle.folder_core.specs.declared.listed_so_far.ListedSoFar.{ListedSoFar}
use Rattle.mh_folder.specs.KnownFile.{id_at}
use Rattle.mh_folder.specs.Visit.{Course, id_of, old_mails}
use Rattle.mh_folder.specs.declared.known_file.KnownFile.{KnownFile}
use Rattle.mh_folder.specs.declared.look.Look.{Look}
use Rattle.mh_folder.specs.declared.look.Look.TheVariants.{Nothing, Same, Other}
use Rattle.mh_folder.specs.declared.walk.Walk.{Walk}

-- what is counted and stored, and the stamps of the files of the messages
pub record Kept : Type 0 where
  pub store : Store
  pub stamps : List ℕ

-- what was found so far and with which stamps
abbrev pub kept_of : Walk → List Letter → Kept
kept_of walk archive = record { store = store_of walk.so_far archive; stamps = walk.stamps.items }

-- nothing is found yet
pub record IsNothing (kept : Kept) : Type 0 where
  pub store : IsEmpty kept.store
  pub stamps : kept.stamps ≡ []

-- the letter of a number under this name with these bytes
abbrev pub letter_as : ℕ → List ℕ → List ℕ → Mail
letter_as number name raw =
    record { order = number; key = name; core = raw; text_at = 0; received = pos 0 }

-- the message of a name with these bytes
abbrev pub message_as : List ℕ → List ℕ → List ℕ → Message
message_as sequences name raw = record {
  order = number_at name;
  key = name;
  flags = mh_flags sequences (number_at name);
  raw = raw;
}

-- the stamps with that of a message, where there is one
abbrev pub stamps_with : Option Message → ℕ → List ℕ → List ℕ
stamps_with None stamp stamps = stamps
stamps_with (Some message) stamp stamps = stamps ++ stamp ∷ []

-- one message more can be counted
pub record HasRoom (so_far : ListedSoFar) : Type 0 where
  pub count : so_far.count + 1 < 2 ^ 64
  pub fresh : so_far.fresh + 1 < 2 ^ 64

-- one message more at most was counted
pub record FillsOne (old new : ListedSoFar) : Type 0 where
  pub count : new.count ≤ old.count + 1
  pub fresh : new.fresh ≤ old.fresh + 1

-- the counts rise by one at most, and the bytes by so many or more
pub record CountsOne (size : ℕ) (old new : ListedSoFar) : Type 0 where
  pub fills : FillsOne old new
  pub more : ℕ
  pub high : size ≤ more
  pub bytes : told_sum new.bytes ≡ told_sum (old.bytes + more)

-- The same is counted and stored, but for how many are new, which tells nothing once the bytes are
-- too many.
pub record Nearly (store other : Store) : Type 0 where
  pub same : store ≡ record other { fresh = store.fresh }
  pub fresh : (store.fresh ≡ other.fresh) ⊎ (most_bytes < other.bytes)

-- a message is kept under this id, where there is one; its stamp where all found so far may be
-- listed
pub record Keeps (keep : Option ℕ) (found : Option Message) (stamp : ℕ)
    (kept new_kept : Kept) : Type 0 where
  pub store : Nearly new_kept.store (store_found mh_format keep found kept.store)
  pub stamps : store_refusal new_kept.store ≡ None
      → new_kept.stamps ≡ stamps_with found stamp kept.stamps

-- the message of a file that was read is new
abbrev pub Adds : List ℕ → List ℕ → List ℕ → ℕ → Kept → Kept → Type 0
Adds sequences name raw stamp kept new_kept =
    Keeps None (message_of sequences name raw) stamp kept new_kept

-- the message of a file stays as it is listed, with the bytes of its letter
abbrev pub Stays : List ℕ → List ℕ → KnownFile → Kept → Kept → Type 0
Stays sequences name file kept new_kept = (core : List ℕ) → length core ≡ file.size
    → Keeps (Some file.id.0) (Some (message_as sequences name core)) file.stamp kept new_kept

-- a file was read that stands with the stamp of the listed one, and has no more bytes
pub record IsSame (found : Option KnownFile) (raw : List ℕ) (stamp : ℕ)
    (file : KnownFile) : Type 0 where
  pub is : found ≡ Some file
  pub stamp_is : file.stamp ≡ stamp
  pub some : raw ≢ []
  pub less : length raw ≤ file.size

-- a file was read that stands with the stamp of the listed one, and has more bytes: no disk tells
-- of one
pub record IsLonger (found : Option KnownFile) (raw : List ℕ) (stamp : ℕ)
    (file : KnownFile) : Type 0 where
  pub is : found ≡ Some file
  pub stamp_is : file.stamp ≡ stamp
  pub more : file.size < length raw

-- it is new: it is empty, or no listed message has its stamp
pub record PutsNew (sequences name : List ℕ) (found : Option KnownFile) (raw : List ℕ) (stamp : ℕ)
    (kept new_kept : Kept) : Type 0 where
  pub is : (raw ≡ []) ⊎ (id_at found stamp ≡ None)
  pub adds : Adds sequences name raw stamp kept new_kept

-- it stays as it is listed
pub record PutsSame (sequences name : List ℕ) (found : Option KnownFile) (raw : List ℕ) (stamp : ℕ)
    (kept new_kept : Kept) : Type 0 where
  pub file : KnownFile
  pub is : IsSame found raw stamp file
  pub stays : Stays sequences name file kept new_kept

-- it is new under another stamp
pub record PutsOther (sequences name : List ℕ) (found : Option KnownFile) (raw : List ℕ)
    (stamp : ℕ) (kept new_kept : Kept) : Type 0 where
  pub file : KnownFile
  pub is : IsLonger found raw stamp file
  pub other : ℕ
  pub differs : file.stamp ≢ other
  pub adds : Adds sequences name raw other kept new_kept

-- How the message of a file was put that was read: it is new where no listed one has its name and
-- stamp, or it stays; a longer one, of which no disk tells, is new under another stamp.
abbrev pub Puts : List ℕ → List ℕ → Option KnownFile → List ℕ → ℕ → Kept → Kept → Type 0
Puts sequences name found raw stamp kept new_kept =
    PutsNew sequences name found raw stamp kept new_kept
    ⊎ (PutsSame sequences name found raw stamp kept new_kept
    ⊎ PutsOther sequences name found raw stamp kept new_kept)

-- this was the message of a name, with these bytes where it is new, or none was
abbrev pub IsMet : Option ℕ → Option Message → Option Message → Type 0
IsMet keep None there = there ≡ None
IsMet keep (Some message) there = IsThere keep message there

-- at a mark this was the message of a name, in a file with this stamp, or none was
pub record MessageMet (course : Course) (name : List ℕ) (keep : Option ℕ) (found : Option Message)
    (stamp : ℕ) (old new : Past) : Type 0 where
  pub mark : ℕ
  pub from : length old.journal ≤ mark
  pub to : mark ≤ length new.journal
  pub there : IsMet keep found
      (message_at (tree_at new mark) course.path course.sequences name)
  pub stamp_is : (message : Message) → found ≡ Some message
      → stamp_there (node_at (tree_at new mark) (path_in course.path name)) ≡ stamp

-- what stands at the path of a message whose file had this stamp, by what `stat` told of it
abbrev pub look_of : Option Stat → ℕ → Look
look_of None stamp = Nothing
look_of (Some stat) stamp = if stat.folder || stat.length == 0 then Nothing
    else (if stat.stamp == stamp then Same else Other)

-- no message had a name at a mark
pub record NothingMet (path name : List ℕ) (old new : Past) : Type 0 where
  pub mark : ℕ
  pub from : length old.journal ≤ mark
  pub to : mark ≤ length new.journal
  pub none : (sequences : List ℕ)
      → message_at (tree_at new mark) path sequences name ≡ None

-- a file that is not empty had a name at a mark, with this stamp
pub record StampMet (path name : List ℕ) (stamp : ℕ) (old new : Past) : Type 0 where
  pub mark : ℕ
  pub from : length old.journal ≤ mark
  pub to : mark ≤ length new.journal
  pub raw : List ℕ
  pub there : (sequences : List ℕ) → message_at (tree_at new mark) path sequences name
      ≡ Some (message_as sequences name raw)
  pub stamp_is : stamp_there (node_at (tree_at new mark) (path_in path name)) ≡ stamp

-- what a look at the file of a listed message with this stamp has met
abbrev pub LookSeen : List ℕ → List ℕ → ℕ → Look → Past → Past → Type 0
LookSeen path name stamp Nothing old new = NothingMet path name old new
LookSeen path name stamp Same old new = StampMet path name stamp old new
LookSeen path name stamp Other old new = Unit {0}

-- the message has the name, and keeps the id of the listed one of this name and stamp, whose letter
-- holds its bytes
pub record IsFile (course : Course) (name : List ℕ) (keep : Option ℕ) (stamp : ℕ)
    (message : Message) : Type 0 where
  pub key : message.key ≡ name
  pub order : message.order ≡ number_at name
  pub keep_is : keep ≡ id_of course name stamp
  pub core : IfSome keep (λ id. (mail_of course.mails id).core ≡ message.raw)

-- a file was looked for, and its message is kept
pub record Takes (course : Course) (name : List ℕ) (kept new_kept : Kept)
    (old new : Option Past) : Type 0 where
  pub found : Option Message
  pub keep : Option ℕ
  pub stamp : ℕ
  pub is : IfSome found (IsFile course name keep stamp)
  pub keeps : Keeps keep found stamp kept new_kept
  pub saw : GoesOn (MessageMet course name keep found stamp) old new

-- these messages are those of a tree, each with its bytes where it is new
abbrev pub AreAt : Course → List (List ℕ) → List (Option ℕ) → List Message → List TreeNode → Type 0
AreAt course names keeps messages tree =
    AreThere keeps messages (filter_map (message_at tree course.path course.sequences) names)

-- A walk over names: each message stood there, with its stamp; a name that stays there has one; and
-- those of a tree that does not change are its messages.
pub record WalkSeen (course : Course) (names : List (List ℕ)) (keeps : List (Option ℕ))
    (messages : List Message) (stamps : List ℕ) (old new : Past) : Type 0 where
  pub stood : AllStood course.path course.sequences (length old.journal) (length new.journal) new
      keeps messages stamps
  pub kept : (name : List ℕ) → IsIn name names
      → StaysThere course.path name (length old.journal) (length new.journal) new
      → has_key name messages ≡ true
  pub still : (tree : List TreeNode) → IsTreeOfAll tree old new
      → AreAt course names keeps messages tree

-- The messages that were found, and what each keeps.
pub record Finding : Type 0 where
  pub messages : List Message
  pub keeps : List (Option ℕ)
  pub stamps : List ℕ

-- what was found is counted and stored
pub record IsStored (found : Finding) (first kept : Kept) : Type 0 where
  pub store : Store
  pub nearly : Nearly kept.store store
  pub holds : Holds mh_format first.store found.keeps found.messages store
  pub stamps_are : list_refusal first.store.letters found.keeps found.messages ≡ None
      → kept.stamps ≡ found.stamps

-- the messages are in order, and each keeps the id of the listed one of its name and stamp
pub record AreKept (course : Course) (found : Finding) : Type 0 where
  pub even : length found.stamps ≡ length found.messages
  pub keeps_are : found.keeps
      ≡ kept_by_stamp (old_mails course) course.known.stamps found.messages found.stamps
  pub cores : KeepCores (λ raw. raw) course.mails found.keeps found.messages
  pub in_order : are_in_order found.messages ≡ true
  pub placed : ArePlaced number_at found.messages

-- A walk over names in order: what was found is stored, and was seen.
pub record IsWalked (course : Course) (names : List (List ℕ)) (first kept : Kept)
    (old new : Option Past) : Type 0 where
  pub found : Finding
  pub stored : IsStored found first kept
  pub are : AreKept course found
  pub saw : GoesOn (WalkSeen course names found.keeps found.messages found.stamps) old new
