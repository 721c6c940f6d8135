-- What a run wishes, and what an event answers.
use Rattle.std.specs.Prelude.{ℕ, ℤ, pos, List}
use Rattle.index_items.specs.Changes.{Changed}
use Rattle.session_events.specs.Events.{Happening, FileRead, FileRefused, KeyPressed, FolderOpened}
use Rattle.session_events.specs.Events.{FolderRefused, FolderChecked, CheckRefused, FolderSynced}
use Rattle.session_events.specs.Events.{SyncRefused}

-- nothing, a file of commands, a folder, a key, a check of the open folder, or a sync of it with
-- these changes
pub data Wish : Type 0 where
  Nothing : Wish
  Source : (path : List ℕ) → Wish
  Open : (path : List ℕ) → Wish
  Press : (moment : ℤ) → Wish
  Check : (moment : ℤ) → Wish
  Sync : (changes : List Changed) → Wish

-- the moment of an event that has one
abbrev pub moment_of : Happening → ℤ
moment_of (KeyPressed key moment) = moment
moment_of (FolderOpened path kind moment came marks) = moment
moment_of (FolderChecked moment found marks) = moment
moment_of (CheckRefused moment why marks) = moment
moment_of _ = pos 0

-- the wish that an event answers
abbrev pub answered : Happening → Wish
answered (FileRead path text marks) = Source path
answered (FileRefused path why marks) = Source path
answered (KeyPressed key moment) = Press moment
answered (FolderOpened path kind moment came marks) = Open path
answered (FolderRefused path why marks) = Open path
answered (FolderChecked moment found marks) = Check moment
answered (CheckRefused moment why marks) = Check moment
answered (FolderSynced changes marks) = Sync changes
answered (SyncRefused changes why marks) = Sync changes
