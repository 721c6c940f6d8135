use Rattle.std.proofs.Common.{◌≡◌, ◌-◌, ◌≤◌, length}
use Rattle.expando.specs.Formats.{first_piece, format_of, plain_pieces}
use Rattle.expando.specs.Pieces.{pieces, with_front}
use Rattle.expando.proofs.format.read_format.Given as goal

abbrev pub invariant-loop-left : goal.invariant-loop-left
invariant-loop-left l = record {
  read : with_front (plain_pieces l.pieces)
      (pieces (first_piece l.letters) (length l.text - length l.left) l.left)
      ≡ format_of l.letters l.text;
  within : length l.left ≤ length l.text;
}

abbrev pub decreases-loop-left : goal.decreases-loop-left
decreases-loop-left l = length l.left
