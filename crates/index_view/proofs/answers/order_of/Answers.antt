use Rattle.std.proofs.Common.{◌∙◌, ap, map}
use Rattle.index_listed.specs.Listed.{plain_listed}
use Rattle.index_order.specs.Order.{is_threads, order}
use Rattle.index_view.proofs.OrderLemmas.{keys_given, ordered_apart}
use Rattle.index_view.proofs.answers.order_of.Goals as goal

pub order-requires : goal.order-requires
order-requires c =
    let ls = map plain_listed c.args.listed.now in
    let given = c.requires.threaded in
    keys_given c.args.options.threads ls c.args.scored.now c.deref.result.now
    c.args.threaded.now.threads c.requires.apart given.forest
    (c.deref.ensures.value ∙ c.in_ok-keys.ensures) given.threads_are

pub returns-clause-order : goal.returns-clause-order
returns-clause-order c = c.in_ok-order.ensures.order
    ∙ (λ i. order (c.sorting.ensures i) ((c.deref.ensures.value ∙ c.in_ok-keys.ensures) i)
    c.args.threaded.now.threads)

pub returns-clause-apart : goal.returns-clause-apart
returns-clause-apart c =
    let ls = map plain_listed c.args.listed.now in
    let given = c.requires.threaded in
    let of = keys_given c.args.options.threads ls c.args.scored.now c.deref.result.now
    c.args.threaded.now.threads c.requires.apart given.forest
    (c.deref.ensures.value ∙ c.in_ok-keys.ensures) given.threads_are in
    ordered_apart c.deref.result.now c.in_ok-order.order.items of.distinct
    c.in_ok-order.ensures.once

pub returns-clause-first : goal.returns-clause-first
returns-clause-first c = λ is. c.in_ok-order.ensures.first
    (ap is_threads (ap (λ o. o.sort) c.sorting.ensures) ∙ is)
