use Rattle.std.proofs.Common.{◌≡◌, ◌∙◌, List, ap, length, map, nat_eq, option_map, subst, sym}
use Rattle.std.proofs.lemmas.List.{length-map}
use Rattle.patterns_match.specs.declared.row.Row.{Row}
use Rattle.std.specs.List.{IsDistinct}
use Rattle.mail_base.specs.declared.kind.Id.{Id}
use Rattle.index_listed.specs.Listed.{PlainListed, ids, plain_listed}
use Rattle.index_listed.specs.Places.{numbers}
use Rattle.index_listed.specs.Seen.{PlainSight, sight}
use Rattle.index_listed.specs.Sight.{stances}
use Rattle.index_listed.specs.Threading.{AllWithin, threads}
use Rattle.index_order.specs.Order.{is_threads}
use Rattle.people.specs.People.{PlainPeople}
use Rattle.index_items.specs.declared.item.Item.{Item}
use Rattle.index_order.specs.declared.view_options.ViewOptions.{ViewOptions}
use Rattle.index_view.specs.Answers.{AreRanked, facts, threads_of}
use Rattle.index_view.specs.declared.answers.Ranked.{Ranked}
use Rattle.index_view.specs.declared.tables.Tables.{Tables}
use Rattle.index_view.specs.Limit.{all_within}
use Rattle.patterns_match.specs.Pattern.{plain_pattern}
use Rattle.index_view.specs.Marks.{marks_of}
use Rattle.index_view.specs.Tables.{table}
use Rattle.index_view.proofs.AnswersLemmas.{row_numbers, rows_long}
use Rattle.index_view.proofs.OrderLemmas.{links_long}
use Rattle.index_view.proofs.answers.Answers.of.Goals as goal

-- what ranks messages over the tables as asking them for ties left them does so over the first
ranked_first : (ls : List PlainListed) (options : ViewOptions) (items : List Item)
    (tables : Tables) (people : PlainPeople) (r : Ranked) → people ≡ tables.people
    → AreRanked ls (facts options items (record tables { people = people })) r
    → AreRanked ls (facts options items tables) r
ranked_first ls options items tables people r same ranked =
    subst (λ (p : PlainPeople). AreRanked ls
    (facts options items (record tables { people = p })) r) same ranked

pub sight_of-requires-clause-rows : goal.sight_of-requires-clause-rows
sight_of-requires-clause-rows c =
    let ls = map plain_listed c.args.listed.now in
    let f = facts c.args.options c.args.items.now c.args.tables.now in
    let ranked = ranked_first ls c.args.options c.args.items.now c.args.tables.now
    c.all_ties.new.people c.in_ok-ranked.ranked c.in_ok-ties.ensures.same
    c.in_ok-ranked.ensures.value in
    ap length (c.deref-2.ensures.value ∙ ranked.rows_are)
    ∙ rows_long ls f ∙ length-map c.args.listed.now plain_listed

pub sight_of-requires-clause-links : goal.sight_of-requires-clause-links
sight_of-requires-clause-links c =
    let ls = map plain_listed c.args.listed.now in
    ap length (c.deref.ensures.value ∙ c.in_ok-threaded.ensures.links_are)
    ∙ links_long (threads c.args.options.threads ls) (ids ls) ls _
    ∙ length-map c.args.listed.now plain_listed

pub sight_of-requires-clause-within : goal.sight_of-requires-clause-within
sight_of-requires-clause-within c =
    let listed = c.args.listed.now in
    let ls = map plain_listed listed in
    subst (λ n. AllWithin n c.deref.result.now) (length-map listed plain_listed)
    (subst (AllWithin (length ls)) (sym c.deref.ensures.value) c.in_ok-threaded.ensures.within)

pub invariant_of-result : goal.invariant_of-result
invariant_of-result c =
    let listed = c.args.listed.now in
    let ls = map plain_listed listed in
    let f = facts c.args.options c.args.items.now c.args.tables.now in
    let given = c.in_ok-threaded.ensures in
    let ranked = ranked_first ls c.args.options c.args.items.now c.args.tables.now
    c.all_ties.new.people c.in_ok-ranked.ranked c.in_ok-ties.ensures.same
    c.in_ok-ranked.ensures.value in
    let links = c.in_ok-threaded.threaded.links.items in
    let is_threaded = is_threads c.args.options.sort in
    let order : c.in_ok-sight.sight.order ≡ c.in_ok-ranked.ranked.order.items =
    ap (λ (s : PlainSight). s.order) c.in_ok-sight.ensures.value in
    let many : length ls ≡ length c.in_ok-ranked.ranked.rows.items =
    sym (ap length ranked.rows_are ∙ rows_long ls f) in record {
      places_are = given.places_are ∙ sym (row_numbers ls f)
          ∙ ap (map (λ (r : Row). r.id.0)) (sym ranked.rows_are);
      parents_long = ap length given.parents_are ∙ length-map ls _ ∙ many;
      links_long = ap length given.links_are
          ∙ links_long (threads c.args.options.threads ls) (ids ls) ls _ ∙ many;
      ties_long = ap length c.in_ok-ties.ensures.value ∙ length-map ls _ ∙ many;
      within = subst (λ n. AllWithin n links) many given.within;
      stances_long = ap length (ranked.stances_are ∙ (λ i. stances is_threaded (threads_of ls f)
          (ids ls) (sym ranked.order_is i))) ∙ length-map c.in_ok-ranked.ranked.order.items _
          ∙ ap length (sym order);
      apart = subst (λ (o : List Id). IsDistinct nat_eq (numbers o)) (sym order) ranked.apart;
      first = ranked.first;
    }

pub returns-clause-value : goal.returns-clause-value
returns-clause-value c =
    let ls = map plain_listed c.args.listed.now in
    let given = c.in_ok-threaded.ensures in
    let ranked = ranked_first ls c.args.options c.args.items.now c.args.tables.now
    c.all_ties.new.people c.in_ok-ranked.ranked c.in_ok-ties.ensures.same
    c.in_ok-ranked.ensures.value in
    let same = c.in_ok-ranked.ensures.same in
    let people = (λ i. (same i).people) ∙ c.in_ok-ties.ensures.same in
    let rows = c.deref-2.ensures.value ∙ ranked.rows_are in
    let links = c.deref.ensures.value ∙ given.links_are in
    let stances = c.deref-3.ensures.value ∙ ranked.stances_are in
    let seen = c.in_ok-sight.ensures.value
    ∙ (λ i. sight (marks_of (rows i) (all_within (people i)
    (option_map plain_pattern (same i).limit) (table ls (rows i) (links i))))
    (ranked.order_is i) (stances i)) in
    λ i. record {
      parents = given.parents_are i;
      links = given.links_are i;
      rows = ranked.rows_are i;
      ties = c.in_ok-ties.ensures.value i;
      stances = ranked.stances_are i;
      sight = seen i;
    }
