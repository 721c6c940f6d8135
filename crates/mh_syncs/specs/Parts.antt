-- What the parts of a sync do to the messages of a folder.
use Rattle.std.specs.Prelude.{◌≡◌, ◌≢◌, ◌≤◌, ◌<◌, ◌+◌, ◌∷◌, [], ℕ, Bool, true, List, Option, None}
use Rattle.std.specs.Prelude.{OnErr, OnOk, Result, Ok, Err, drop, length, option_map, take}
use Rattle.mail_base.specs.declared.kind.Kind.TheVariants.{Mh}
use Rattle.disk_model.specs.Journal.{Done, Own, Past}
use Rattle.disk_model.specs.Judge.{GoesOn, IsLonger}
use Rattle.disk_model.specs.State.{tree_at}
use Rattle.disk_model.specs.declared.answers.DiskError.{DiskError}
use Rattle.index_items.specs.Changes.{Alters, Changed, PlainChange, Discards}
use Rattle.folder_letters.specs.Letters.{Mail}
use Rattle.folder_core.specs.Mh.{sequences_at}
use Rattle.folder_changes.specs.Asked.{what_of}
use Rattle.folder_changes.specs.Wanted.{change_at, wanted}
use Rattle.folder_changes.specs.Worked.{due, own_at}
use Rattle.folder_changes.specs.declared.sync_error.SyncError.{SyncError}
use Rattle.folder_drivers.specs.MhNames.{call_away}
use Rattle.folder_drivers.specs.MhAlike.{AreAlike}
use Rattle.folder_drivers.specs.MhSync.{LeavesNumbers, OthersSpare, discards_of, mh_at}
use Rattle.folder_drivers.specs.MhSync.{sequences_wanted}
use Rattle.folder_core.specs.Keeping.{mail_of}
use Rattle.folder_core.specs.Known.{KnownFolder}
use Rattle.mh_syncs.specs.Numbers.{AreNumbers}
use Rattle.mh_syncs.specs.Met.{Met}
use Rattle.mh_syncs.specs.Stamps.{AllBear}
use Rattle.folder_shapes.specs.Mh.{mh_files, mh_shape, number_in}
use Rattle.folder_stops.specs.Does.{Does}
use Rattle.folder_stops.specs.Words.{has}
use Rattle.folder_stops.specs.Syncs.{Syncs as HoldsOn}

-- The folder holds its messages at each mark, and those with these keys may go; our calls changed
-- the folder alone, and began no message.
pub record KeepsAllBut (path : List ℕ) (keys : List (List ℕ)) (old new : Option Past) : Type 0
  where
    pub holds : HoldsOn (mh_shape path) (mh_files path).sides keys old new
    pub here : Does (mh_shape path).home (number_in path) None old new

-- Nothing was done to the messages, and the folder holds them at each mark, whichever may go.
pub record LeavesAll (path : List ℕ) (old new : Option Past) : Type 0 where
  pub does : GoesOn (LeavesNumbers path) old new
  pub holds : (keys : List (List ℕ)) → KeepsAllBut path keys old new

-- The sequences.

-- the sequences were these at a mark in the call
abbrev pub Reads : List ℕ → List ℕ → Option Past → Option Past → Type 0
Reads path bytes old new = Met (λ tree. sequences_at tree path ≡ bytes) old new

-- At one step of ours between two marks the sequences became these, and the numbered files stayed;
-- each other call of ours left the messages as they were.
pub record PlacedAt (path bytes : List ℕ) (m n : ℕ) (past : Past) : Type 0 where
  pub placed : ℕ
  pub from : m ≤ placed
  pub to : placed < n
  pub own : own_at placed past ≡ true
  pub written : sequences_at (tree_at past (placed + 1)) path ≡ bytes
  pub alike : AreAlike path (tree_at past placed) (tree_at past (placed + 1))
  pub leaves : (mark : ℕ) → m ≤ mark → mark < n → own_at mark past ≡ true → mark ≢ placed
      → mh_at path past (mark + 1) ≡ mh_at path past mark

-- A told past goes on so, however it goes on behind, where others leave the side file alone.
pub record Places (path bytes : List ℕ) (old new : Past) : Type 0 where
  pub longer : IsLonger old new
  pub does : (past : Past) → IsLonger new past
      → OthersSpare path (length old.journal) (length new.journal) past
      → PlacedAt path bytes (length old.journal) (length new.journal) past

-- new sequences were put in place where the answer is Ok, and else the messages are as they were
abbrev pub PutsNew : List ℕ → List ℕ → Result (Unit {0}) SyncError → Option Past → Option Past
    → Type 0
PutsNew path bytes (Ok done) old new = GoesOn (Places path bytes) old new
PutsNew path bytes (Err why) old new = GoesOn (LeavesNumbers path) old new

-- The files of discarded messages.

-- Between two marks each message of a part went at a step of its own, and each other call of ours
-- left the messages as they were.
pub record AwayAt (purge : Bool) (path : List ℕ) (part : List ℕ → Option PlainChange) (m n : ℕ)
    (past : Past) : Type 0 where
  pub step : List ℕ → ℕ
  pub from : (key : List ℕ) → part key ≢ None → m ≤ step key
  pub to : (key : List ℕ) → part key ≢ None → step key < n
  pub by : (key : List ℕ) → part key ≢ None
      → take 1 (drop (step key) past.journal) ≡ Own (call_away purge path key) Done ∷ []
  pub does : (mark : ℕ) → m ≤ mark → mark < n → own_at mark past ≡ true
      → mh_at path past (mark + 1)
      ≡ option_map (wanted Mh (due step part mark)) (mh_at path past mark)

-- A told past goes on so, however it goes on behind.
pub record Away (purge : Bool) (path : List ℕ) (part : List ℕ → Option PlainChange)
    (old new : Past) : Type 0 where
  pub longer : IsLonger old new
  pub does : (past : Past) → IsLonger new past
      → AwayAt purge path part (length old.journal) (length new.journal) past

-- a part of what is wanted was done, and nothing else
pub record AwayPart (purge : Bool) (path : List ℕ) (what : List ℕ → Option PlainChange)
    (old new : Past) : Type 0 where
  pub part : List ℕ → Option PlainChange
  pub within : (key : List ℕ) → part key ≢ None → part key ≡ what key
  pub does : Away purge path part old new

-- all that is wanted went where the answer is Ok, and else a part of it
abbrev pub WentAway : Bool → List ℕ → (List ℕ → Option PlainChange) → Result (Unit {0}) SyncError
    → Option Past → Option Past → Type 0
WentAway purge path what (Ok done) old new = GoesOn (Away purge path what) old new
WentAway purge path what (Err why) old new = GoesOn (AwayPart purge path what) old new

-- what is discarded of changes
abbrev pub gone_of : List Mail → List Changed → List ℕ → Option PlainChange
gone_of mails changes = discards_of (what_of mails changes)

-- what is discarded of the change of one number
abbrev pub gone_at : List ℕ → PlainChange → List ℕ → Option PlainChange
gone_at key change = discards_of (change_at key change)

-- the message of a number went where the answer is Ok, and else nothing did
abbrev pub TakesOne : Bool → List ℕ → List ℕ → Result (Unit {0}) SyncError → Option Past
    → Option Past → Type 0
TakesOne purge path key (Ok done) old new =
    GoesOn (Away purge path (gone_at key Discards)) old new
TakesOne purge path key (Err why) old new = GoesOn (LeavesNumbers path) old new

-- A file was put over the sequences where the answer is Ok, and else the messages are as they were;
-- each time the folder holds them.
pub record PutsOver (path bytes : List ℕ) (result : Result (Unit {0}) DiskError)
    (old new : Option Past) : Type 0 where
  pub done : OnOk result (GoesOn (Places path bytes) old new)
  pub refused : OnErr result (GoesOn (LeavesNumbers path) old new)
  pub holds : (keys : List (List ℕ)) → KeepsAllBut path keys old new

-- What is found before anything changes: the sequences as they were, and the file of them as it is
-- to be; the files of the messages that change, as they are known; and that their keys are numbers.
pub record Prepares (known : KnownFolder) (mails : List Mail) (changes : List Changed)
    (text : List ℕ) (old new : Option Past) : Type 0 where
  pub sequences : List ℕ
  pub reads : Reads known.path sequences old new
  pub text_is : text ≡ sequences_wanted mails changes sequences
  pub bear : AllBear known mails changes old new
  pub numbers : AreNumbers mails changes

-- where messages with these keys may go, the message with a key may change so
abbrev pub MayGo : List (List ℕ) → List ℕ → PlainChange → Type 0
MayGo keys key (Alters added cleared) = Unit {0}
MayGo keys key Discards = has keys key ≡ true

-- each of these messages may change so
abbrev pub MayAll : List (List ℕ) → List Mail → List Changed → Type 0
MayAll keys mails [] = Unit {0}
MayAll keys mails (changed ∷ changes) =
    MayGo keys (mail_of mails changed.id.0).key changed.change × MayAll keys mails changes
