use Rattle.std.proofs.Common.{◌∙◌, ap, length, map, subst, sym}
use Rattle.std.proofs.lemmas.List.FromFn.{length-map-range_with_len}
use Rattle.std.proofs.lemmas.Result.{IfOk-weaker}
use Rattle.std.specs.List.{range_with_len}
use Rattle.threads.specs.Links.{target}
use Rattle.threads.specs.Order.{order_from}
use Rattle.threads.specs.Subjects.{parents}
use Rattle.index_order.specs.Inner.{IsForestOf, PlainStanding, comes_before}
use Rattle.index_order.proofs.ThreadLemmas.{forest_of, long_parents, order_is}
use Rattle.index_order.proofs.listing.in_threads.Goals as goal

pub new-requires-clause-long : goal.new-requires-clause-long
new-requires-clause-long c =
    let threads = c.args.threads.now in
    ap length c.in_ok-above.ensures
    ∙ length-map-range_with_len (target (parents threads.options threads.messages)) 0
    (length c.args.keys.now)

pub new-requires-clause-forest : goal.new-requires-clause-forest
new-requires-clause-forest c =
    let keys = c.args.keys.now in
    let threads = c.args.threads.now in
    let ps = parents threads.options threads.messages in
    subst IsForestOf (ap (λ n. map (target ps) (range_with_len 0 n))
    (long_parents keys threads c.requires)
    ∙ sym c.in_ok-above.ensures) (forest_of keys threads c.requires)

pub returns-clause-order : goal.returns-clause-order
returns-clause-order c =
    let keys = c.args.keys.now in
    let threads = c.args.threads.now in
    let ps = parents threads.options threads.messages in
    let above_is = c.in_ok-above.ensures
    ∙ ap (λ n. map (target ps) (range_with_len 0 n)) (sym (long_parents keys threads c.requires)) in
    IfOk-weaker c.ids_by.result _ _ (λ ids e. e
    ∙ ap (λ (s : PlainStanding). order_from (comes_before s) threads) c.in_ok-standing.ensures
    ∙ ap (λ l. order_from (comes_before (record {
      options = c.args.options;
      keys = keys;
      above = l;
    })) threads) above_is
    ∙ order_is c.args.options keys threads c.requires) c.ids_by.ensures.order
