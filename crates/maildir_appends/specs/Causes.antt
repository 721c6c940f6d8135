-- By which calls a part of an append goes on, and why it is refused.
use Rattle.std.specs.Prelude.{◌≡◌, ◌⊎◌, ◌∷◌, [], ℕ, false, List, Option, codes, drop, take}
use Rattle.disk_model.specs.Journal.{Rename, Sync, SyncDir, WriteAt}
use Rattle.disk_model.specs.Journal.{Call, Create, ListDir, Own, Past, Refused}
use Rattle.disk_model.specs.Judge.{GoesOn}
use Rattle.disk_model.specs.Tree.{TreeNode, folder_of, is_root}
use Rattle.disk_model.specs.declared.answers.DiskError.TheVariants.{Exists}
use Rattle.folder_core.specs.Directory.{path_in}
use Rattle.folder_core.specs.Looked.{SawAt}
use Rattle.folder_core.specs.Maildir.{directory}
use Rattle.folder_changes.specs.Worked.{WasCause}
use Rattle.folder_drivers.specs.Refusing.{IsMake}
use Rattle.folder_drivers.specs.MaildirAppend.{IsBase, beside_at, has_base, is_there}

-- Calls.

-- a call that makes `new` or `tmp`
abbrev pub IsMakeIn : List ℕ → Call → Type 0
IsMakeIn path call = IsMake (directory false path) call ⊎ IsMake (path_in path (codes "tmp")) call

-- a call that lists a directory or makes it
abbrev pub IsListOrMake : List ℕ → Call → Type 0
IsListOrMake dir call = (call ≡ ListDir dir) ⊎ IsMake dir call

-- a call that puts a message in its place
abbrev pub IsPut : List ℕ → List ℕ → List ℕ → List ℕ → Call → Type 0
IsPut beside place new cur (Create at) = at ≡ beside
IsPut beside place new cur (WriteAt at from piece) = at ≡ beside
IsPut beside place new cur (Sync at) = at ≡ beside
IsPut beside place new cur (Rename from to) = (from ≡ beside) × (to ≡ place)
IsPut beside place new cur (SyncDir dir) = (dir ≡ new) ⊎ (dir ≡ cur)
IsPut beside place new cur call = ⊥

-- The paths of a message differ from one another and from the directories of messages, in one of
-- which it is put.
pub record AreApart (beside place new cur : List ℕ) : Type 0 where
  pub no_root : is_root beside ≡ false
  pub other_place : beside ≡ place → ⊥
  pub beside_new : beside ≡ new → ⊥
  pub beside_cur : beside ≡ cur → ⊥
  pub place_new : place ≡ new → ⊥
  pub place_cur : place ≡ cur → ⊥
  pub folder : (folder_of place ≡ new) ⊎ (folder_of place ≡ cur)

-- Causes.

-- a file was to be made where something stood
pub record WasInWay (name : List ℕ) (m n : ℕ) (past : Past) : Type 0 where
  pub cause : WasCause (is_there name) m n past
  pub own : take 1 (drop cause.mark past.journal) ≡ Own (Create name) (Refused Exists 0) ∷ []

-- What a look at a directory has met.

-- nothing has the name of a base there that none of the names has
abbrev pub IsFreeFor : List ℕ → List (List ℕ) → List TreeNode → Type 0
IsFreeFor dir names tree = (base : List ℕ) → IsBase base → has_base names base ≡ false
    → is_there (path_in dir base) tree ≡ false

-- our call listed a directory in which these were the names
abbrev pub MeetsFree : List ℕ → List (List ℕ) → Option Past → Option Past → Type 0
MeetsFree dir names old new = GoesOn (SawAt (ListDir dir) (IsFreeFor dir names)) old new

-- our call listed `tmp` when nothing stood at the path of a base in it
abbrev pub MeetsNone : List ℕ → List ℕ → Option Past → Option Past → Type 0
MeetsNone path base old new = GoesOn (SawAt (ListDir (path_in path (codes "tmp")))
    (λ tree. is_there (beside_at path base) tree ≡ false)) old new
