use Rattle.std.proofs.Common.{◌≡◌, ◌∙◌, List, ap, length, map, subst, sym}
use Rattle.std.proofs.lemmas.List.{length-map}
use Rattle.std.specs.Prelude.{IfOk, Vec}
use Rattle.patterns_match.specs.Listings.{Message}
use Rattle.patterns_match.specs.ScoreEntries.{held_entries}
use Rattle.patterns_match.specs.declared.row.Row.{Row}
use Rattle.index_items.specs.Items.{plain_items}
use Rattle.index_listed.specs.Listed.{plain_listed}
use Rattle.index_listed.proofs.ListLemmas.{as_many}
use Rattle.index_view.specs.Tables.{first_row_at, first_rows, scored_rows, seen_of, table}
use Rattle.index_view.proofs.TableLemmas.{table_long}
use Rattle.index_view.proofs.answers.scored.Goals as goal

pub messages_of-messages-requires-clause-rows : goal.messages_of-messages-requires-clause-rows
messages_of-messages-requires-clause-rows c =
    let ls = map plain_listed c.args.listed.now in
    as_many (first_row_at ls (plain_items c.args.items.now) c.args.links.now) (length ls) _
    (c.deref.ensures.value ∙ c.in_ok-rows.ensures) ∙ length-map c.args.listed.now plain_listed

pub scored_rows-requires : goal.scored_rows-requires
scored_rows-requires c =
    let ls = map plain_listed c.args.listed.now in
    ap length c.messages_of-messages.ensures
    ∙ table_long ls c.deref.result.now c.args.links.now
    ∙ sym (as_many (first_row_at ls (plain_items c.args.items.now) c.args.links.now) (length ls) _
    (c.deref-2.ensures.value ∙ c.in_ok-rows.ensures))

pub returns-clause-value : goal.returns-clause-value
returns-clause-value c =
    let ls = map plain_listed c.args.listed.now in
    let links = c.args.links.now in
    let people = c.args.tables.now.people in
    let entries = held_entries c.args.tables.now.scores.entries.items in
    let rows = first_rows ls (plain_items c.args.items.now) links in
    let messages : seen_of c.messages_of-messages.result ≡ table ls rows links =
    c.messages_of-messages.ensures
    ∙ ap (λ (r : List Row). table ls r links) (c.deref.ensures.value ∙ c.in_ok-rows.ensures) in
    subst (λ (z : List Row). IfOk c.scored_rows.result (λ (all : Vec Row _). all.items ≡ z))
    (ap (λ (m : List Message). scored_rows people entries m c.deref-2.result.now) messages
    ∙ ap (scored_rows people entries (table ls rows links))
    (c.deref-2.ensures.value ∙ c.in_ok-rows.ensures))
    c.scored_rows.ensures.value
