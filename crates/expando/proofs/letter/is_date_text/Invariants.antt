use Rattle.std.proofs.Common.{◌≡◌, length, false}
use Rattle.expando.specs.Letters.{is_date_text}
use Rattle.expando.proofs.letter.is_date_text.Given as goal

abbrev pub invariant-loop-left : goal.invariant-loop-left
invariant-loop-left l = is_date_text l.open l.left ≡ is_date_text false l.text

abbrev pub decreases-loop-left : goal.decreases-loop-left
decreases-loop-left l = length l.left
