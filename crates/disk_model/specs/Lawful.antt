-- Journals in which each call of our own was answered as the state that it met allows.
use Rattle.std.specs.Prelude.{◌≡◌, ◌≤◌, ℕ, Bool, true, ◌&&◌, List, [], ◌∷◌, Some, None, length}
use Rattle.std.specs.Str.{is_utf8}
use Rattle.disk_model.specs.Tree.{TreeNode, is_first_tree}
use Rattle.disk_model.specs.Journal.{Call, ListDir, StatPath, ReadFront, ReadAll, Create, WriteAt}
use Rattle.disk_model.specs.Journal.{Cut, Sync, Rename, Remove, SyncDir, MakeDir, Answer, Done}
use Rattle.disk_model.specs.Journal.{Refused, Entry, Own, Others, Past}
use Rattle.disk_model.specs.State.{State, after_entry, state_of, tree_of}
use Rattle.disk_model.specs.Refusals.{refusal}
use Rattle.disk_model.specs.declared.answers.DiskError.TheVariants.{Fault}

-- the paths of a call are text
abbrev pub is_text : Call → Bool
is_text (ListDir dir) = is_utf8 dir
is_text (StatPath path) = is_utf8 path
is_text (ReadFront path size) = is_utf8 path
is_text (ReadAll path limit) = is_utf8 path
is_text (Create path) = is_utf8 path
is_text (WriteAt path at piece) = is_utf8 path
is_text (Cut path size) = is_utf8 path
is_text (Sync path) = is_utf8 path
is_text (Rename from to) = is_utf8 from && is_utf8 to
is_text (Remove path) = is_utf8 path
is_text (SyncDir dir) = is_utf8 dir
is_text (MakeDir path) = is_utf8 path

-- how many bytes a call writes at most
abbrev pub most_written : Call → ℕ
most_written (WriteAt path at piece) = length piece
most_written (ListDir dir) = 0
most_written (StatPath path) = 0
most_written (ReadFront path size) = 0
most_written (ReadAll path limit) = 0
most_written (Create path) = 0
most_written (Cut path size) = 0
most_written (Sync path) = 0
most_written (Rename from to) = 0
most_written (Remove path) = 0
most_written (SyncDir dir) = 0
most_written (MakeDir path) = 0

-- The tree allows the answer: Ok where nothing is in the way, a refusal for the cause that stands
-- there, and a fault at any time, which wrote no more than was given.
abbrev pub IsAllowed : Call → Answer → List TreeNode → Type 0
IsAllowed call Done tree = refusal call tree ≡ None
IsAllowed call (Refused Fault wrote) tree = wrote ≤ most_written call
IsAllowed call (Refused why wrote) tree = (wrote ≡ 0) × (refusal call tree ≡ Some why)

-- an entry that the state allows: others may do anything
abbrev pub IsLawfulAt : Entry → State → Type 0
IsLawfulAt (Own call answer) state = (is_text call ≡ true) × IsAllowed call answer (tree_of state)
IsLawfulAt (Others action) state = Unit {0}

-- each of these entries is allowed by the state that it meets, from this state on
abbrev pub AreLawful : List Entry → State → Type 0
AreLawful [] state = Unit {0}
AreLawful (entry ∷ entries) state =
    IsLawfulAt entry state × AreLawful entries (after_entry state entry)

-- A past of this many entries that began with a tree and in which all is allowed.
pub record IsLawful (marks : ℕ) (past : Past) : Type 0 where
  pub entries : marks ≡ length past.journal
  pub first : is_first_tree past.first ≡ true
  pub lawful : AreLawful past.journal (state_of past.first)
