use Rattle.std.proofs.Common.{◌≡◌, ◌∙◌, ap, length, map, option_map, subst, sym}
use Rattle.std.proofs.lemmas.List.{length-map}
use Rattle.folder_letters.specs.Letters.{plain_letter}
use Rattle.headers.specs.Header.{plain_header}
use Rattle.index_listed.specs.Cursor.{moved}
use Rattle.index_listed.specs.Listed.{plain_listed}
use Rattle.index_listed.specs.Seen.{sight, visible_ids}
use Rattle.index_view.specs.Limit.{all_within}
use Rattle.index_view.specs.Listing.{all_listed}
use Rattle.index_view.specs.Marks.{marks_of}
use Rattle.index_view.specs.Tables.{table}
use Rattle.index_view.specs.View.{IsOf}
use Rattle.index_view.proofs.JudgingLemmas.{limit_set, rows_all}
use Rattle.index_view.proofs.view.View.set_limit.Goals as goal
use Rattle.index_view.proofs.view.View.set_limit.Goals.{After-deref-2}
use Rattle.patterns_match.specs.Pattern.{plain_pattern}

listed_is : (c : After-deref-2) → map plain_listed c.deref-2.result.now
    ≡ all_listed (map plain_letter c.args.archive.now.items) c.self.inside.items
listed_is c = ap (map plain_listed) c.deref-2.ensures.value ∙ c.in_ok-listed.ensures
    ∙ (λ i. all_listed (map plain_letter (c.as_slice-letters.ensures i))
    (c.as_slice.ensures i))

-- there is a row for each message
all_there : (c : After-deref-2) → length c.self.inside.answers.rows ≡ length c.deref-2.result.now
all_there c =
    let mails = map plain_letter c.args.archive.now.items in
    rows_all mails _ (subst (IsOf mails) (sym c.self.view_is) c.requires)
    ∙ sym (ap length (listed_is c)) ∙ length-map c.deref-2.result.now plain_listed

pub seen_with-requires-clause-listed : goal.seen_with-requires-clause-listed
seen_with-requires-clause-listed c =
    all_there (goal.at.seen_with-requires-clause-listed c).After-deref-2

pub seen_with-requires-clause-rows : goal.seen_with-requires-clause-rows
seen_with-requires-clause-rows c = ap length c.rows-rows.ensures
    ∙ all_there (goal.at.seen_with-requires-clause-rows c).After-deref-2

pub returns-in-Ok-clause-ok : goal.returns-in-Ok-clause-ok
returns-in-Ok-clause-ok c =
    let inside = c.self.inside in
    let tables = c.seen_with.ensures.same in
    let ls = map plain_listed c.deref-2.result.now in
    let rows = c.rows-rows.ensures in
    let a = inside.answers in
    let cursor = c.moved-self-inside.ensures ∙ (λ i. moved (visible_ids (c.sight.ensures.value i))
    (visible_ids c.in-Ok.sight) inside.cursor) in
    limit_set (map plain_letter c.args.archive.now.items) c.args.self.now _ _ c.args.limit
    c.replace-old.new.dest ls c.in-Ok.sight c.requires c.self.view_is c.replace-old.ensures.after
    (listed_is (goal.at.returns-in-Ok-clause-ok c).After-deref-2)
    (c.in-Ok.ensures.value ∙ (λ i. sight (marks_of (rows i) (all_within inside.tables.people
    (option_map plain_pattern c.replace-old.new.dest) (table ls (rows i) a.links)))
    a.sight.order a.stances))
    (λ i. record {
      options = inside.options;
      items = inside.items;
      people = (tables i).people;
      scores = (tables i).scores.entries.items;
      limit = (tables i).limit;
      heads = map plain_header inside.heads.items;
      answers = c.put_sight.ensures i;
      cursor = cursor i;
      aliases = inside.aliases.aliases;
    })
