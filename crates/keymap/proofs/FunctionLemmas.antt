-- What holds of each row of the table of functions.
use Rattle.std.proofs.Common.{◌≡◌, Some, refl}
use Rattle.std.specs.Prelude.{slice_get}
use Rattle.keymap.specs.Functions.{function_named, functions, place_of, row_of, rows}
use Rattle.keymap.specs.declared.function.Function.{Function}
use Rattle.keymap.specs.declared.function.Function.TheVariants.{NextUndeleted}

-- each function's row stands at its place
pub own_row : (f : Function) → slice_get rows (place_of f) ≡ Some (row_of f)
own_row NextUndeleted = refl
own_row _ = refl

-- and the function too
pub own_function : (f : Function) → slice_get functions (place_of f) ≡ Some f
own_function NextUndeleted = refl
own_function _ = refl

-- each function is found by its name
pub own_name : (f : Function) → function_named (row_of f).name ≡ Some f
own_name NextUndeleted = refl
own_name _ = refl
