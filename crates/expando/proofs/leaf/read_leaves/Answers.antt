use Rattle.std.proofs.Common.{rules, arith, ◌<◌, ◌≤◌, ap, map, length, ◌∙◌}
use Rattle.std.proofs.lemmas.List.{map-append}
use Rattle.expando.specs.Leaves.{first_leaf, leaf_map, plain_leaves}
use Rattle.expando.specs.Pieces.{piece_map}
use Rattle.expando.proofs.PiecesLemmas.{read_turn}
use Rattle.expando.proofs.leaf.read_leaves.Goals as goal

pub loop-left-preserved : goal.loop-left-preserved
loop-left-preserved c =
    let left = c.loop-left.left.now in
    let rest = c.behind_piece-left.result.now in
    let piece = piece_map (leaf_map (λ inner. inner.items)) c.in_ok-piece.piece in
    let some : 0 < length left = search rules in
    let within : length left ≤ length c.args.text.now = c.loop-left.invariant.within in
    let shorter : length rest < length left = c.behind_piece-left.ensures.shorter in
    record {
      read = read_turn (first_leaf c.args.letters.now) c.args.place c.args.text.now left rest
          (plain_leaves c.loop-left.leaves) (plain_leaves c.push.new.self) piece _
          c.loop-left.invariant.read c.in_ok-piece.ensures some within
          c.behind_piece-left.ensures.value
          (ap (map (leaf_map (λ inner. inner.items))) c.in_ok-push.ensures.ok ∙ map-append _ _ _);
      within = omega arith;
    }
