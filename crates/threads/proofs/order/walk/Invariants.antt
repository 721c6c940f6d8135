use Rattle.std.proofs.Common.{◌≡◌, ◌++◌, ◌<◌, ℕ, List, length, map, reverse}
use Rattle.std.specs.List.{flat_map}
use Rattle.threads.specs.Families.{below}
use Rattle.threads.specs.Message.{plain_messages}
use Rattle.threads.specs.Order.{id_at, tree_of}
use Rattle.threads.specs.Walk.{Each}
use Rattle.threads.proofs.order.walk.Given as goal

abbrev pub invariant-loop-place : goal.invariant-loop-place
invariant-loop-place l =
    let trees = λ (stack : List ℕ). map (id_at (plain_messages l.messages))
    (flat_map (tree_of (below l.children.items) (length l.messages)) (reverse stack)) in record {
      within : Each (λ p. p < length l.messages) (reverse l.stack.items);
      done : trees l.initial.stack.items ≡ l.order.items ++ trees l.stack.items;
    }

abbrev pub decreases-loop-place : goal.decreases-loop-place
decreases-loop-place l = length (flat_map (tree_of (below l.children.items) (length l.messages))
    (reverse l.stack.items))
