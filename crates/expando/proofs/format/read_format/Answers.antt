use Rattle.std.proofs.Common.{rules, arith, ◌<◌, ◌≤◌, ap, map, length, ◌∙◌}
use Rattle.std.proofs.lemmas.List.{map-append}
use Rattle.expando.specs.Formats.{first_piece, plain_piece, plain_pieces}
use Rattle.expando.specs.Pieces.{piece_map}
use Rattle.expando.proofs.PiecesLemmas.{read_turn_from_start}
use Rattle.expando.proofs.format.read_format.Goals as goal

pub loop-left-preserved : goal.loop-left-preserved
loop-left-preserved c =
    let left = c.loop-left.left.now in
    let rest = c.behind_piece-left.result.now in
    let some : 0 < length left = search rules in
    let within : length left ≤ length c.args.text.now = c.loop-left.invariant.within in
    let shorter : length rest < length left = c.behind_piece-left.ensures.shorter in
    record {
      read = read_turn_from_start (first_piece c.args.letters.now) c.args.text.now left rest
          (plain_pieces c.loop-left.pieces) (plain_pieces c.push.new.self)
          (piece_map plain_piece c.in_ok-piece.piece) _
          c.loop-left.invariant.read c.in_ok-piece.ensures some within
          c.behind_piece-left.ensures.value
          (ap (map plain_piece) c.in_ok-push.ensures.ok ∙ map-append _ _ _);
      within = omega arith;
    }
