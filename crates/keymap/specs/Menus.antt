-- The menus, and which functions they have.
use Rattle.std.specs.Prelude.{◌||◌, Bool, is_some}
use Rattle.keymap.specs.Functions.{row_of}
use Rattle.keymap.specs.declared.function.Function.{Function}
use Rattle.keymap.specs.declared.menu.Menu.{Menu}
use Rattle.keymap.specs.declared.menu.Menu.TheVariants.{Index, Pager, Attach, Generic}

-- whether a menu has a function; `generic`, which no pager falls back on, has those of the others
abbrev pub has : Menu → Function → Bool
has Index function = is_some (row_of function).index
has Pager function = is_some (row_of function).pager
has Attach function = is_some (row_of function).attach
has Generic function = is_some (row_of function).index || is_some (row_of function).attach
