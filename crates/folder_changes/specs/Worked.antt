-- What a call that writes did to the messages of a folder, mark by mark, and what it found there
-- that was none of its doing.
use Rattle.std.specs.Prelude.{◌≡◌, ◌≢◌, ◌≤◌, ◌<◌, ◌+◌, ◌==◌, ◌⊎◌, ℕ, Bool, true, false, List}
use Rattle.std.specs.Prelude.{Option, None, option_map, take, drop, if◌then◌else◌}
use Rattle.std.specs.List.{list_any}
use Rattle.std.specs.Option.{option_or}
use Rattle.mail_base.specs.declared.kind.Kind.{Kind}
use Rattle.disk_model.specs.Journal.{Entry, Own, Others, Past}
use Rattle.disk_model.specs.State.{tree_at}
use Rattle.disk_model.specs.Tree.{TreeNode}
use Rattle.index_items.specs.Changes.{PlainChange}
use Rattle.folder_core.specs.Message.{Message}
use Rattle.folder_changes.specs.Wanted.{wanted}

-- an entry is a call of our own
abbrev pub is_own : Entry → Bool
is_own (Own call answer) = true
is_own (Others action) = false

-- the entry at a mark is a call of our own
abbrev pub own_at : ℕ → Past → Bool
own_at mark past = list_any is_own (take 1 (drop mark past.journal))

-- an entry is an action of others
abbrev pub is_others : Entry → Bool
is_others (Own call answer) = false
is_others (Others action) = true

-- the entry at a mark is an action of others
abbrev pub others_at : ℕ → Past → Bool
others_at mark past = list_any is_others (take 1 (drop mark past.journal))

-- what is wanted of a key, where its step stands at this mark
abbrev pub due : (List ℕ → ℕ) → (List ℕ → Option PlainChange) → ℕ → List ℕ → Option PlainChange
due step what mark key = if step key == mark then what key else None

-- Each change has its step between two marks, and each step of ours does the changes that are due
-- at it and no other.
pub record Works (kind : Kind) (what : List ℕ → Option PlainChange)
    (reads_at : ℕ → Option (List Message)) (m n : ℕ) (past : Past) : Type 0 where
  pub step : List ℕ → ℕ
  pub from : (key : List ℕ) → what key ≢ None → m ≤ step key
  pub to : (key : List ℕ) → what key ≢ None → step key < n
  pub does : (mark : ℕ) → m ≤ mark → mark < n → own_at mark past ≡ true
      → reads_at (mark + 1) ≡ option_map (wanted kind (due step what mark)) (reads_at mark)

-- A state of the tree that is no doing of ours: it stood from the first mark on, or from an action
-- of others on, up to a mark at which a step met it.
pub record WasCause (is_so : List TreeNode → Bool) (m n : ℕ) (past : Past) : Type 0 where
  pub since : ℕ
  pub mark : ℕ
  pub from : m ≤ since
  pub on : since ≤ mark
  pub to : mark ≤ n
  pub stands : (k : ℕ) → since ≤ k → k ≤ mark → is_so (tree_at past k) ≡ true
  pub whose : (since ≡ m)
      ⊎ ((before : ℕ) × (since ≡ before + 1) × (others_at before past ≡ true))

-- what one of two tables says of a key, the first that says something
abbrev pub either : (List ℕ → Option PlainChange) → (List ℕ → Option PlainChange) → List ℕ
    → Option PlainChange
either first next key = option_or (first key) (next key)

-- nothing is wanted of any key
abbrev pub nothing_wanted : List ℕ → Option PlainChange
nothing_wanted key = None
