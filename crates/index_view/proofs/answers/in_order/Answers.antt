use Rattle.std.proofs.Common.{◌≡◌, ◌∙◌, List, ap, length, map, nat_eq, subst, sym}
use Rattle.std.proofs.lemmas.List.{length-map}
use Rattle.std.specs.List.{IsDistinct}
use Rattle.mail_base.specs.declared.kind.Id.{Id}
use Rattle.patterns_match.specs.ScoreEntries.{held_entries}
use Rattle.threads.specs.Order.{ParentsFirst}
use Rattle.index_items.specs.Items.{plain_items}
use Rattle.index_listed.specs.Listed.{ids, plain_listed}
use Rattle.index_listed.specs.Places.{numbers}
use Rattle.index_listed.specs.Sight.{stances}
use Rattle.index_listed.specs.Threading.{threads}
use Rattle.index_listed.proofs.ListLemmas.{as_many}
use Rattle.index_order.specs.Options.{sort_options}
use Rattle.index_order.specs.Order.{order}
use Rattle.index_view.specs.Answers.{facts, ordered, scored, scored_by}
use Rattle.index_view.specs.Ordering.{keys, numbered}
use Rattle.index_view.specs.Tables.{first_rows, scored_at, table}
use Rattle.index_view.proofs.OrderLemmas.{links_long}
use Rattle.index_view.proofs.answers.in_order.Goals as goal

pub scored-requires-clause-links : goal.scored-requires-clause-links
scored-requires-clause-links c =
    let listed = c.args.listed.now in
    let ls = map plain_listed listed in
    ap length (c.deref.ensures.value ∙ c.requires.threaded.links_are)
    ∙ links_long (threads c.args.options.threads ls) (ids ls) ls _
    ∙ length-map listed plain_listed

pub order_of-requires-clause-rows : goal.order_of-requires-clause-rows
order_of-requires-clause-rows c =
    let listed = c.args.listed.now in
    let ls = map plain_listed listed in
    let tables = c.args.tables.now in
    let rows = first_rows ls (plain_items c.args.items.now) c.deref.result.now in
    as_many (scored_at tables.people (held_entries tables.scores.entries.items)
    (table ls rows c.deref.result.now) rows) (length rows) _
    (c.deref-2.ensures.value ∙ c.in_ok-scored.ensures.value)
    ∙ as_many _ (length ls) rows (λ _. rows)
    ∙ length-map listed plain_listed

pub places_of-requires : goal.places_of-requires
places_of-requires c = subst (λ (o : List Id). IsDistinct nat_eq (numbers o))
    (sym c.as_slice.ensures) c.in_ok-order.ensures.apart

pub returns-clause-value : goal.returns-clause-value
returns-clause-value c =
    let ls = map plain_listed c.args.listed.now in
    let options = c.args.options in
    let tables = c.args.tables.now in
    let f = facts options c.args.items.now tables in
    let given = c.requires.threaded in
    let ts = c.args.threaded.now.threads in
    let ids_now = c.in_ok-order.order.items in
    let scored_are : c.in_ok-scored.scored.items ≡ scored ls f = c.in_ok-scored.ensures.value
    ∙ ap (scored_by tables.people (held_entries tables.scores.entries.items) ls
    (plain_items c.args.items.now)) (c.deref.ensures.value ∙ given.links_are) in
    let order_is : ids_now ≡ ordered ls f = c.in_ok-order.ensures.order
    ∙ (λ i. order (sort_options options) (keys ls ((c.deref-2.ensures.value ∙ scored_are) i))
    (given.threads_are i)) in record {
      rows_are = c.in_ok-rows.ensures ids_now
          (c.in_ok-order_places.ensures ∙ ap numbers c.as_slice.ensures)
          ∙ (λ i. numbered (order_is i) ((c.deref-3.ensures.value ∙ scored_are) i));
      order_is = order_is;
      apart = c.in_ok-order.ensures.apart;
      stances_are = c.in_ok-stances.ensures.value
          ∙ (λ i. stances (c.is_threads-is_threaded.ensures i) (given.threads_are i)
          (given.places_are i) ((c.as_slice-ids.ensures ∙ order_is) i));
      first = c.in_ok-stances.ensures.first (λ is. subst (ParentsFirst ts)
          (sym c.as_slice-ids.ensures)
          (c.in_ok-order.ensures.first (sym c.is_threads-is_threaded.ensures ∙ is)));
    }
