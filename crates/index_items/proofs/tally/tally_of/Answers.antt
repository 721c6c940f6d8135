use Rattle.std.proofs.Common.{◌∙◌, ◌+◌, List, ap, arith, length, subst, sym}
use Rattle.index_items.specs.Items.{plain_item, plain_items}
use Rattle.index_items.specs.Tally.{HasRoom}
use Rattle.index_items.specs.declared.item.Item.{Item}
use Rattle.index_items.specs.declared.tally.Tally.{Tally}
use Rattle.index_items.proofs.TallyLemmas.{rooms_left, tally_from, tally_step}
use Rattle.index_items.proofs.tally.tally_of.Goals as goal

pub loop-first-preserved : goal.loop-first-preserved
loop-first-preserved c =
    let tally = c.loop-first.tally in
    let first = c.in-Some.first.now in
    let rest = c.in-Some.rest.now in
    let all = c.in-Some.ensures.cases.0 in
    let with = c.with_item-tally.ensures in
    let more : HasRoom (length rest + 1) tally = subst (λ n. HasRoom n tally)
    (ap length all ∙ omega arith) c.loop-first.invariant.room in record {
      counted = ap (λ (t : Tally). tally_from t (plain_items rest)) with
          ∙ tally_step tally (plain_item first) (plain_items rest)
          ∙ sym (ap (λ (l : List Item). tally_from tally (plain_items l)) all)
          ∙ c.loop-first.invariant.counted;
      room = subst (HasRoom (length rest)) (sym with)
          (rooms_left tally (plain_item first) (length rest) more);
    }
