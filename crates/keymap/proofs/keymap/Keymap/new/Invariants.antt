use Rattle.std.proofs.Common.{◌≡◌, fold, length, map}
use Rattle.keymap.specs.Functions.{plain_row}
use Rattle.keymap.specs.Keymap.{default_keymap, with_row}
use Rattle.keymap.proofs.keymap.Keymap.new.Given as goal

abbrev pub invariant-loop-left : goal.invariant-loop-left
invariant-loop-left l = fold with_row l.keymap (map plain_row l.left) ≡ default_keymap

abbrev pub decreases-loop-left : goal.decreases-loop-left
decreases-loop-left l = length l.left
