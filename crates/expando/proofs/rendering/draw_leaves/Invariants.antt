use Rattle.std.proofs.Common.{◌≡◌, ◌++◌, map, take}
use Rattle.expando.specs.Drawing.{drawn_leaves}
use Rattle.expando.specs.Leaves.{leaf_map}
use Rattle.expando.proofs.rendering.draw_leaves.Given as goal

abbrev pub invariant-loop-leaf : goal.invariant-loop-leaf
invariant-loop-leaf g l =
    l.cells.items ≡ l.initial.cells.items
    ++ drawn_leaves (g.V.Values.texts l.values)
    (map (leaf_map (λ i. i.items)) (take l.leaf-index l.leaves))
