-- How many bytes are read.
use Rattle.std.proofs.Common.{◌≤◌, ◌+◌, ℕ, Option, Some, None, refl, arith}
use Rattle.disk_model.specs.Judge.{Raises}
use Rattle.folder_core.specs.Costs.{RaisesAtMost}

pub raises_same : (a : Option ℕ) → RaisesAtMost a a 0
raises_same None = refl
raises_same (Some read) = omega arith

-- a call that gave so many bytes
pub raises_by : (a b : Option ℕ) (bytes most : ℕ) → bytes ≤ most → Raises a b bytes
    → RaisesAtMost a b most
raises_by None b bytes most less raises = raises
raises_by (Some old) None bytes most less raises = absurd raises
raises_by (Some old) (Some new) bytes most less raises = omega (arith, less, raises)

pub raises_more : (a b : Option ℕ) (bytes most : ℕ) → bytes ≤ most → RaisesAtMost a b bytes
    → RaisesAtMost a b most
raises_more None b bytes most less raises = raises
raises_more (Some old) None bytes most less raises = absurd raises
raises_more (Some old) (Some new) bytes most less raises = omega (arith, less, raises)

pub raises_then : (a b c : Option ℕ) (first next : ℕ) → RaisesAtMost a b first
    → RaisesAtMost b c next → RaisesAtMost a c (first + next)
raises_then None None c first next before behind = behind
raises_then None (Some read) c first next before behind = absurd (cc)
raises_then (Some old) None c first next before behind = absurd before
raises_then (Some old) (Some mid) None first next before behind = absurd behind
raises_then (Some old) (Some mid) (Some new) first next before behind =
    omega (arith, before, behind)
