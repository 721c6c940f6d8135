-- When keys are the same.
use Rattle.std.specs.Prelude.{◌==◌, Bool, true, false, List}
use Rattle.std.specs.Cmp.Lexicographic.{pointwise}
use Rattle.keymap.specs.Functions.{place_of}
use Rattle.keymap.specs.declared.key.Key.{Key}
use Rattle.keymap.specs.declared.key.Key.TheVariants.{Char, Up, Down, Left, Right, Home, End}
use Rattle.keymap.specs.declared.key.Key.TheVariants.{PageUp, PageDown, Insert, Delete, F1, F2, F3}
use Rattle.keymap.specs.declared.key.Key.TheVariants.{F4, Call}

-- whether two keys are the same
abbrev pub same_key : Key → Key → Bool
same_key (Char c) (Char d) = c == d
same_key Up Up = true
same_key Down Down = true
same_key Left Left = true
same_key Right Right = true
same_key Home Home = true
same_key End End = true
same_key PageUp PageUp = true
same_key PageDown PageDown = true
same_key Insert Insert = true
same_key Delete Delete = true
same_key F1 F1 = true
same_key F2 F2 = true
same_key F3 F3 = true
same_key F4 F4 = true
same_key (Call f) (Call g) = place_of f == place_of g
same_key _ _ = false

-- whether two sequences of keys are the same
abbrev pub same_keys : List Key → List Key → Bool
same_keys keys others = pointwise same_key keys others
