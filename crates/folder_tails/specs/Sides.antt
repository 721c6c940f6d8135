-- The names beside a mailbox in one file.
use Rattle.std.specs.Prelude.{◌≡◌, ◌⊎◌, ℕ, List, ◌++◌, codes}
use Rattle.std.specs.String.{string_bytes}
use Rattle.disk_model.specs.Tree.{folder_of}
use Rattle.folder_tails.specs.declared.sides.Sides.{Sides}

-- the lock
abbrev pub lock_of : List ℕ → List ℕ
lock_of path = path ++ codes ".lock"

-- the tail file
abbrev pub tail_of : List ℕ → List ℕ
tail_of path = path ++ codes ".tail"

-- where the tail file is written
abbrev pub tmp_of : List ℕ → List ℕ
tmp_of path = path ++ codes ".tail.tmp"

-- a path is one of the three
abbrev pub IsSide : List ℕ → List ℕ → Type 0
IsSide path at = (at ≡ lock_of path) ⊎ ((at ≡ tail_of path) ⊎ (at ≡ tmp_of path))

-- For the code alone.

-- the mailbox itself
abbrev pub home_of : Sides → List ℕ
home_of sides = string_bytes sides.path

-- the names are those beside the mailbox, in its folder
pub record AreSides (sides : Sides) : Type 0 where
  pub lock : string_bytes sides.lock ≡ lock_of (home_of sides)
  pub tail : string_bytes sides.tail ≡ tail_of (home_of sides)
  pub tmp : string_bytes sides.tmp ≡ tmp_of (home_of sides)
  pub dir : string_bytes sides.dir ≡ folder_of (home_of sides)
