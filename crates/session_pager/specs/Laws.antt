-- What is so of every function, and of every last page.
use Rattle.std.specs.Prelude.{◌≡◌, ◌-◌, ◌^◌, ◌<◌, ◌≤◌, ℕ, length}
use Rattle.keymap.specs.Menus.{has}
use Rattle.keymap.specs.declared.function.Function.{Function}
use Rattle.keymap.specs.declared.menu.Menu.TheVariants.{Attach, Pager}
use Rattle.pager.specs.Pager.{PlainPager, numbered}
use Rattle.session_pager.specs.Deeds.{acts_in_pager, acts_on_parts, attach_deed, pager_deed}
use Rattle.session_pager.specs.Turning.{turned_pager}
use Rattle.session_pager.specs.declared.turn.Turn.TheVariants.{Bottom}

-- a function does something in the pager exactly where the pager's menu has it
abbrev pub PagerFunctionsAct : Type 0
PagerFunctionsAct = (function : Function)
    → acts_in_pager (pager_deed function) ≡ has Pager function

-- a function does something in the list of parts exactly where that menu has it
abbrev pub AttachFunctionsAct : Type 0
AttachFunctionsAct = (function : Function)
    → acts_on_parts (attach_deed function) ≡ has Attach function

-- the last page ends with the last line, or begins with the first
abbrev pub LastPageEndsTheText : Type 0
LastPageEndsTheText = (pager : PlainPager) (size : ℕ)
    → 0 < size → length (numbered pager) ≤ 2 ^ 64
    → (turned_pager Bottom size pager).top ≡ length (numbered pager) - size
