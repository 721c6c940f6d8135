use Rattle.std.proofs.Common.{◌∙◌, ap, subst, sym, map, nat_eq, is_some}
use Rattle.std.proofs.lemmas.Result.{IfOk-weaker}
use Rattle.std.specs.List.{IsDistinct}
use Rattle.threads.specs.Families.{ArePut, CanOrder}
use Rattle.threads.specs.Found.{IsFound}
use Rattle.threads.specs.Message.{plain_messages}
use Rattle.threads.specs.Order.{ParentsFirst, by_id, id_at, order_from, thread_order}
use Rattle.threads.specs.Threads.{PlainThreads}
use Rattle.threads.proofs.BackLemmas.{parents_first}
use Rattle.threads.proofs.FamilyLemmas.{can_order}
use Rattle.threads.proofs.threads.Threads.order_from.Goals as goal

pub ordered-requires-clause-parents : goal.ordered-requires-clause-parents
ordered-requires-clause-parents g c =
    let inside = c.self.inside in
    let ms = plain_messages inside.messages.items in
    let invariant = c.self.invariant in
    let found : IsFound inside.options ms c.in-Some.found =
    invariant.worked_out c.in-Some.found c.in-Some.is in
    subst (λ l. CanOrder (plain_messages l) c.as_slice-in-Some.result.now)
    (sym c.as_slice.ensures.value)
    (can_order inside.options ms
    (subst (IsDistinct nat_eq) invariant.the_numbers invariant.distinct)
    c.as_slice-in-Some.result.now (c.as_slice-in-Some.ensures.value ∙ found.the_parents)
    found.the_ends)

pub returns-in-Some-clause-order : goal.returns-in-Some-clause-order
returns-in-Some-clause-order g c = λ by strict answers.
    let inside = c.self.inside in
    let ms = plain_messages inside.messages.items in
    let found : IsFound inside.options ms c.in-Some.found =
    c.self.invariant.worked_out c.in-Some.found c.in-Some.is in
    IfOk-weaker c.ordered.result _ _ (λ ids e. e
    ∙ ap (λ l. map (id_at (plain_messages l))
    (thread_order (by_id by (plain_messages l)) c.as_slice-in-Some.result.now))
    c.as_slice.ensures.value
    ∙ ap (λ l. map (id_at ms) (thread_order (by_id by ms) l))
    (c.as_slice-in-Some.ensures.value ∙ found.the_parents)
    ∙ ap (order_from by) c.self.view_is) (c.ordered.ensures.order by strict answers)

pub returns-in-Some-clause-first : goal.returns-in-Some-clause-first
returns-in-Some-clause-first g c =
    let inside = c.self.inside in
    let ms = plain_messages inside.messages.items in
    let invariant = c.self.invariant in
    let found : IsFound inside.options ms c.in-Some.found =
    invariant.worked_out c.in-Some.found c.in-Some.is in
    let threads : PlainThreads =
    record { options = inside.options; messages = ms; is_finished = is_some inside.found } in
    IfOk-weaker c.ordered.result _ _ (λ ids put.
    subst (λ t. ParentsFirst t ids.items) c.self.view_is
    (parents_first threads
    (subst (IsDistinct nat_eq) invariant.the_numbers invariant.distinct) ids.items
    (subst (λ l. ArePut ms l ids.items)
    (c.as_slice-in-Some.ensures.value ∙ found.the_parents)
    (subst (λ l. ArePut (plain_messages l) c.as_slice-in-Some.result.now ids.items)
    c.as_slice.ensures.value put)))) c.ordered.ensures.put
