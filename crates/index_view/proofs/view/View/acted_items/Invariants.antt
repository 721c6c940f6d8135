use Rattle.std.proofs.Common.{◌≡◌, length}
use Rattle.index_items.specs.Acts.{acted_all}
use Rattle.index_items.specs.Items.{numbers, plain_items}
use Rattle.index_view.proofs.view.View.acted_items.Given as goal

abbrev pub invariant-loop-first : goal.invariant-loop-first
invariant-loop-first l = record {
  items : acted_all l.act l.left (plain_items l.items.items)
      ≡ acted_all l.act l.fn.ids l.fn.self.items;
  numbers : numbers (plain_items l.items.items) ≡ numbers l.fn.self.items;
}

abbrev pub decreases-loop-first : goal.decreases-loop-first
decreases-loop-first l = length l.left
