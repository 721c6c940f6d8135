-- What functions do in the pager and in the list of parts.
use Rattle.std.proofs.Common.{◌≡◌, ◌-◌, ◌^◌, ◌<◌, ◌≤◌, ℕ, arith, length, min, refl}
use Rattle.keymap.specs.Menus.{has}
use Rattle.keymap.specs.declared.function.Function.{Function}
use Rattle.keymap.specs.declared.function.Function.TheVariants as f
use Rattle.keymap.specs.declared.menu.Menu.TheVariants.{Attach, Pager}
use Rattle.pager.specs.Pager.{PlainPager, numbered}
use Rattle.session_pager.specs.Deeds.{acts_in_pager, acts_on_parts, attach_deed, pager_deed}
use Rattle.session_pager.specs.Turning.{turned_pager}
use Rattle.session_pager.specs.declared.turn.Turn.TheVariants.{Bottom}

-- a function does something in the pager exactly where the pager's menu has it
pub pager_act : (function : Function) → acts_in_pager (pager_deed function) ≡ has Pager function
pager_act f.Exit = refl
pager_act _ = refl

-- a function does something in the list of parts exactly where that menu has it
pub attach_act : (function : Function) → acts_on_parts (attach_deed function) ≡ has Attach function
attach_act f.Exit = refl
attach_act _ = refl

-- where a last page begins, among so many lines
page_begins : (count size : ℕ) → 0 < size → count ≤ 2 ^ 64
    → min (min (count - 1) (2 ^ 64 - 1) - (size - 1)) (count - 1) ≡ count - size
page_begins count size some few = grind arith

-- the last page ends with the last line, or begins with the first
pub last_page_ends : (pager : PlainPager) (size : ℕ) → 0 < size
    → length (numbered pager) ≤ 2 ^ 64
    → (turned_pager Bottom size pager).top ≡ length (numbered pager) - size
last_page_ends pager size some few = page_begins (length (numbered pager)) size some few
