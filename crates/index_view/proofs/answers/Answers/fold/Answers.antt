use Rattle.std.proofs.Common.{◌≡◌, ◌∙◌, List, ap, length, map, nat_eq, option_map, subst, sym}
use Rattle.std.proofs.lemmas.List.{length-map}
use Rattle.std.proofs.lemmas.List.FromFn.{length-map-range_with_len}
use Rattle.patterns_match.specs.Pattern.{plain_pattern}
use Rattle.patterns_match.specs.declared.row.Row.{Row}
use Rattle.index_listed.specs.Cursor.{moved_by_shutting}
use Rattle.index_listed.specs.Listed.{plain_listed}
use Rattle.index_listed.specs.Seen.{PlainSight, sight, visible_ids}
use Rattle.index_listed.specs.Threading.{AllWithin}
use Rattle.mail_base.specs.declared.kind.Id.{Id}
use Rattle.index_listed.specs.Places.{numbers}
use Rattle.std.specs.List.{IsDistinct}
use Rattle.index_view.proofs.AnswersLemmas.{number}
use Rattle.index_view.specs.Answers.{PlainAnswers, answers, facts, scored_by}
use Rattle.index_view.specs.Limit.{all_within}
use Rattle.index_view.specs.Marks.{marks_of}
use Rattle.index_view.specs.Tables.{ScoreAlike, renumbered, renumbered_at, table}
use Rattle.index_view.specs.declared.tables.Tables.{Tables}
use Rattle.index_view.proofs.FoldLemmas.{folded_answers, same_ids, scored_there}
use Rattle.index_view.proofs.answers.Answers.fold.Goals as goal
use Rattle.index_view.proofs.answers.Answers.fold.Goals.{In_ok-rows}

-- the messages with what each scores now
scored_is : (c : In_ok-rows)
    → let f = facts c.args.options c.args.items.now c.args.tables.now in
    c.in_ok-scored.scored.items ≡ scored_by f.people f.scores
    (map plain_listed c.args.listed.now) f.items c.args.self.now.links
scored_is c =
    let f = facts c.args.options c.args.items.now c.args.tables.now in
    c.in_ok-scored.ensures.value
    ∙ ap (scored_by f.people f.scores (map plain_listed c.args.listed.now) f.items)
    (c.deref.ensures.value ∙ ap (λ (a : PlainAnswers). a.links) c.self.view_is)

-- each message scores what it did
alike : (c : In_ok-rows) → ScoreAlike c.args.self.now.rows c.in_ok-scored.scored.items
alike c =
    let s = c.in_ok-scored.scored.items in
    subst (λ (rows : List Row). ScoreAlike rows s)
    (c.deref-2.ensures.value ∙ ap (λ (a : PlainAnswers). a.rows) c.self.view_is)
    (subst (ScoreAlike c.deref-2.result.now) c.deref-3.ensures.value
    (c.score_alike.ensures c.if-not-score_alike.false))

-- they have the numbers that they had
rows_are : (c : In_ok-rows)
    → c.in_ok-rows.rows.items ≡ renumbered c.args.self.now.rows c.in_ok-scored.scored.items
rows_are c =
    let rows = c.deref-4.ensures.value ∙ ap (λ (a : PlainAnswers). a.rows) c.self.view_is in
    c.in_ok-rows.ensures ∙ (λ i. renumbered (rows i) (c.deref-5.ensures.value i))

rows_long : (c : In_ok-rows) → length c.in_ok-rows.rows.items ≡ length c.args.listed.now
rows_long c =
    let ls = map plain_listed c.args.listed.now in
    let f = facts c.args.options c.args.items.now c.args.tables.now in
    let s = c.in_ok-scored.scored.items in
    ap length (rows_are c)
    ∙ length-map-range_with_len (renumbered_at c.args.self.now.rows s) 0 (length s)
    ∙ scored_there ls f c.args.self.now c.requires.were s (scored_is c)
    ∙ length-map c.args.listed.now plain_listed

pub returns-then-not-score_alike-clause-ok : goal.returns-then-not-score_alike-clause-ok
returns-then-not-score_alike-clause-ok c =
    let ls = map plain_listed c.args.listed.now in
    c.answers.view_is ∙ c.in_ok-answers.ensures.value
    ∙ ap (λ (t : Tables). answers ls (facts c.args.options c.args.items.now t))
    c.in_ok-scored.ensures.same

pub returns-then-not-score_alike-clause-cursor : goal.returns-then-not-score_alike-clause-cursor
returns-then-not-score_alike-clause-cursor c =
    let seen = c.answers.inside.sight in
    c.moved_by_shutting-cursor.ensures ∙ ap (λ (a : PlainAnswers).
    moved_by_shutting seen (visible_ids a.sight) (visible_ids seen) c.args.cursor) c.self.view_is

pub seen_with-requires-clause-rows : goal.seen_with-requires-clause-rows
seen_with-requires-clause-rows c = ap length c.deref-6.ensures.value
    ∙ rows_long (goal.at.seen_with-requires-clause-rows c).In_ok-rows

pub invariant_of-self-2 : goal.invariant_of-self-2
invariant_of-self-2 c =
    let at = (goal.at.invariant_of-self-2 c).In_ok-rows in
    let was = c.self.invariant in
    let ls = map plain_listed c.args.listed.now in
    let f = facts c.args.options c.args.items.now c.args.tables.now in
    let s = c.in_ok-scored.scored.items in
    let rows_same : c.args.self.now.rows ≡ c.self.inside.rows.items =
    sym (ap (λ (a : PlainAnswers). a.rows) c.self.view_is) in
    let ids = ap (map number) (rows_are at)
    ∙ same_ids ls f c.args.self.now c.requires.were s (scored_is at) (alike at)
    ∙ ap (map number) rows_same in
    let long : length c.self.inside.rows.items ≡ length c.in_ok-rows.rows.items =
    sym (length-map c.self.inside.rows.items number) ∙ ap length (sym ids)
    ∙ length-map c.in_ok-rows.rows.items number in
    let order : c.in_ok-sight.sight.order ≡ c.self.inside.sight.order =
    ap (λ (z : PlainSight). z.order) c.in_ok-sight.ensures.value
    ∙ ap (λ (a : PlainAnswers). a.sight.order) (sym c.self.view_is) in
    record {
      places_are = was.places_are ∙ sym ids;
      parents_long = was.parents_long ∙ long;
      links_long = was.links_long ∙ long;
      ties_long = was.ties_long ∙ long;
      within = subst (λ n. AllWithin n c.self.inside.links.items) long was.within;
      stances_long = was.stances_long ∙ ap length (sym order);
      apart = subst (λ (o : List Id). IsDistinct nat_eq (numbers o)) (sym order) was.apart;
      first = was.first;
    }

pub returns-clause-ok : goal.returns-clause-ok
returns-clause-ok c =
    let at = (goal.at.returns-clause-ok c).In_ok-rows in
    let ls = map plain_listed c.args.listed.now in
    let f = facts c.args.options c.args.items.now c.args.tables.now in
    let s = c.in_ok-scored.scored.items in
    let rows = c.in_ok-rows.rows.items in
    let seen = c.in_ok-sight.sight in
    let was = c.args.self.now in
    let given = c.deref-6.ensures.value in
    let same = c.in_ok-scored.ensures.same in
    let sees = c.in_ok-sight.ensures.value ∙ (λ i. sight (marks_of (given i)
    (all_within (same i).people (option_map plain_pattern (same i).limit)
    (table ls (given i) was.links))) was.sight.order was.stances) in
    ap (λ (a : PlainAnswers). record a { rows = rows; sight = seen }) c.self.view_is
    ∙ folded_answers ls f was c.requires.were s (scored_is at) (alike at) rows seen
    (rows_are at) sees
