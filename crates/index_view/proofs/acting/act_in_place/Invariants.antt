use Rattle.std.proofs.Common.{◌≡◌, length, nat_eq}
use Rattle.std.specs.List.{IsDistinct}
use Rattle.index_items.specs.Acts.{acted_all}
use Rattle.index_items.specs.Items.{numbers}
use Rattle.index_view.specs.Acting.{AreAlike, RowsShow}
use Rattle.index_view.proofs.acting.act_in_place.Given as goal

abbrev pub invariant-loop-first : goal.invariant-loop-first
invariant-loop-first l = record {
  items : acted_all l.act l.left l.items ≡ acted_all l.act l.fn.ids l.initial.items;
  apart : IsDistinct nat_eq (numbers l.items);
  shown : RowsShow l.items l.answers.rows;
  alike : AreAlike l.answers.rows l.initial.answers.rows;
  others : l.answers ≡ record l.initial.answers { rows = l.answers.rows };
}

abbrev pub decreases-loop-first : goal.decreases-loop-first
decreases-loop-first l = length l.left
