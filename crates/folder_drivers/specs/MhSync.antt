-- What a sync of an MH folder does (mh-mail(5), mh-sequence(5)): the flags of all messages change
-- at once, as new sequences are put in place, and then the files of discarded messages go.
use Rattle.std.specs.Prelude.{◌≡◌, ◌≢◌, ◌≤◌, ◌<◌, ◌+◌, ◌⊎◌, ◌∷◌, [], ℕ, true, not, length}
use Rattle.std.specs.Prelude.{Bool, List, Option, Some, None, Result, Ok, Err, map, option_map}
use Rattle.std.specs.Prelude.{codes, drop, take}
use Rattle.mail_base.specs.Flags.{applied, stored}
use Rattle.mail_base.specs.declared.flags.Flags.{Flags}
use Rattle.mail_base.specs.declared.kind.Kind.TheVariants.{Mh}
use Rattle.disk_model.specs.Journal.{Action, Done, Others, Own, Past}
use Rattle.disk_model.specs.Judge.{GoesOn, IsLonger}
use Rattle.disk_model.specs.State.{tree_at}
use Rattle.index_items.specs.Changes.{Changed, PlainChange, Alters, Discards}
use Rattle.folder_letters.specs.Letters.{Mail}
use Rattle.folder_core.specs.Keeping.{mail_of}
use Rattle.folder_core.specs.Mh.{mh_reads, number_at, sequences_at}
use Rattle.folder_core.specs.MhSequences.{mh_flags}
use Rattle.folder_core.specs.Message.{Message}
use Rattle.folder_changes.specs.Asked.{what_of}
use Rattle.folder_changes.specs.Wanted.{wanted}
use Rattle.folder_changes.specs.Worked.{due, own_at}
use Rattle.folder_changes.specs.declared.sync_error.SyncError.{SyncError}
use Rattle.folder_drivers.specs.MhNames.{call_away, new_sequences_path}
use Rattle.folder_stops.specs.Others.{SparesPath}
use Rattle.mh_sequences.specs.SequenceLine.{PlainLine}
use Rattle.mh_sequences.specs.Sequences.{file_of, put, sequences_of, without_number}

-- The flags of messages.

-- the flags that new sequences give to a message of which this is wanted, made of older ones; a
-- message that is discarded stands in none
abbrev pub flags_wanted : List ℕ → Option PlainChange → ℕ → Flags
flags_wanted sequences None number = mh_flags sequences number
flags_wanted sequences (Some (Alters added cleared)) number =
    stored Mh (applied (mh_flags sequences number) added cleared)
flags_wanted sequences (Some Discards) number = mh_flags [] number

-- a message with the flags that new sequences give it
abbrev pub reflagged_one : List ℕ → (List ℕ → Option PlainChange) → Message → Message
reflagged_one sequences what m =
    record m { flags = flags_wanted sequences (what m.key) m.order }

-- messages with the flags that new sequences give them, made of older ones
abbrev pub reflagged : List ℕ → (List ℕ → Option PlainChange) → List Message → List Message
reflagged sequences what messages =
    map (reflagged_one sequences what) messages

-- The file of the sequences.

-- lines in which a number has these flags: it is in `unseen` where it is not seen
abbrev pub with_flags : ℕ → Flags → List PlainLine → List PlainLine
with_flags number flags lines =
    put (codes "replied") number flags.replied (put (codes "flagged") number flags.flagged
    (put (codes "unseen") number (not flags.seen) lines))

-- lines once this has become of a number, whose flags are those of older sequences with the change;
-- one that is discarded is in no sequence
abbrev pub with_change : List ℕ → ℕ → PlainChange → List PlainLine → List PlainLine
with_change sequences number (Alters added cleared) lines =
    with_flags number (flags_wanted sequences (Some (Alters added cleared)) number) lines
with_change sequences number Discards lines = without_number number lines

-- lines once this has become of listed messages, one after another
abbrev pub with_changes : List ℕ → List Mail → List Changed → List PlainLine → List PlainLine
with_changes sequences mails [] lines = lines
with_changes sequences mails (changed ∷ changes) lines =
    with_changes sequences mails changes
    (with_change sequences (number_at (mail_of mails changed.id.0).key) changed.change lines)

-- the file of the sequences that is put in place of an older one
abbrev pub sequences_wanted : List Mail → List Changed → List ℕ → List ℕ
sequences_wanted mails changes sequences =
    file_of (with_changes sequences mails changes (sequences_of sequences))

-- Mark by mark.

-- what the folder reads as at a mark
abbrev pub mh_at : List ℕ → Past → ℕ → Option (List Message)
mh_at path past mark = mh_reads (tree_at past mark) path

-- what is wanted of a message that is discarded, and nothing else
abbrev pub only_discard : Option PlainChange → Option PlainChange
only_discard None = None
only_discard (Some (Alters added cleared)) = None
only_discard (Some Discards) = Some Discards

-- the discards alone of what is wanted
abbrev pub discards_of : (List ℕ → Option PlainChange) → List ℕ → Option PlainChange
discards_of what key = only_discard (what key)

-- Between two marks the sequences were read, and at one step of ours new ones, made of them, were
-- put in place, by which all flags changed. Behind it each message of a part of those that are
-- discarded went at a step of its own. Each other call of ours left the messages as they were.
pub record WorksByNumber (purge : Bool) (path : List ℕ) (mails : List Mail) (changes : List Changed)
    (part : List ℕ → Option PlainChange) (m n : ℕ) (past : Past) : Type 0 where
  pub read : ℕ
  pub placed : ℕ
  pub from : m ≤ read
  pub on : read ≤ placed
  pub to : placed < n
  pub own : own_at placed past ≡ true
  pub flags : mh_at path past (placed + 1)
      ≡ option_map (reflagged (sequences_at (tree_at past read) path) (what_of mails changes))
      (mh_at path past placed)
  pub written : sequences_at (tree_at past (placed + 1)) path
      ≡ sequences_wanted mails changes (sequences_at (tree_at past read) path)
  pub step : List ℕ → ℕ
  pub behind : (key : List ℕ) → part key ≢ None → placed < step key
  pub before : (key : List ℕ) → part key ≢ None → step key < n
  pub by : (key : List ℕ) → part key ≢ None
      → take 1 (drop (step key) past.journal) ≡ Own (call_away purge path key) Done ∷ []
  pub does : (mark : ℕ) → m ≤ mark → mark < n → own_at mark past ≡ true → mark ≢ placed
      → mh_at path past (mark + 1)
      ≡ option_map (wanted Mh (due step part mark)) (mh_at path past mark)

-- between two marks others leave the file alone in which new sequences are written
abbrev pub OthersSpare : List ℕ → ℕ → ℕ → Past → Type 0
OthersSpare path m n past = (mark : ℕ) (action : Action) → m ≤ mark → mark < n
    → take 1 (drop mark past.journal) ≡ Others action ∷ []
    → SparesPath (new_sequences_path path) action

-- A told past goes on so, however it goes on behind, where others leave that file alone.
pub record DoesByNumber (purge : Bool) (path : List ℕ) (mails : List Mail) (changes : List Changed)
    (part : List ℕ → Option PlainChange) (old new : Past) : Type 0 where
  pub longer : IsLonger old new
  pub does : (past : Past) → IsLonger new past
      → OthersSpare path (length old.journal) (length new.journal) past
      → WorksByNumber purge path mails changes part (length old.journal) (length new.journal) past

-- A told past goes on by calls of ours that leave the messages as they were.
pub record LeavesNumbers (path : List ℕ) (old new : Past) : Type 0 where
  pub longer : IsLonger old new
  pub leaves : (past : Past) → IsLonger new past → (mark : ℕ) → length old.journal ≤ mark
      → mark < length new.journal → own_at mark past ≡ true
      → mh_at path past (mark + 1) ≡ mh_at path past mark

-- Nothing was done, or new sequences were put in place and a part of what is discarded went.
pub record DoesSomeByNumber (purge : Bool) (path : List ℕ) (mails : List Mail)
    (changes : List Changed) (old new : Past) : Type 0 where
  pub part : List ℕ → Option PlainChange
  pub within : (key : List ℕ) → part key ≢ None
      → part key ≡ discards_of (what_of mails changes) key
  pub does : LeavesNumbers path old new ⊎ DoesByNumber purge path mails changes part old new

-- all that is wanted was done where the answer is Ok, and else a part of it or nothing
abbrev pub DidByNumber : Bool → List ℕ → List Mail → List Changed → Result (Unit {0}) SyncError
    → Option Past → Option Past → Type 0
DidByNumber purge path mails changes (Ok done) old new =
    GoesOn (DoesByNumber purge path mails changes (discards_of (what_of mails changes))) old new
DidByNumber purge path mails changes (Err why) old new =
    GoesOn (DoesSomeByNumber purge path mails changes) old new
