use Rattle.std.proofs.Common.{◌≡◌, ◌++◌, map, take}
use Rattle.expando.specs.Drawing.{drawn}
use Rattle.expando.specs.Formats.{plain_piece}
use Rattle.expando.proofs.rendering.draw_pieces.Given as goal

abbrev pub invariant-loop-piece : goal.invariant-loop-piece
invariant-loop-piece g l =
    l.cells.items ≡ l.initial.cells.items
    ++ drawn (g.V.Values.texts l.values) (map plain_piece (take l.piece-index l.pieces))
