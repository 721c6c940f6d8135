use Rattle.std.proofs.Common.{◌∙◌, Bool, List, ap, map, subst, sym}
use Rattle.std.proofs.lemmas.Result.{on_ok_weaker}
use Rattle.folder_letters.specs.Letters.{plain_letter}
use Rattle.index_items.specs.Kept.{kept}
use Rattle.index_view.specs.View.{Turned, facts_of}
use Rattle.patterns_match.specs.ScoreEntries.{held_entries}
use Rattle.people.specs.People.{with_alias}
use Rattle.session_index.specs.Index.{Shows, index_of}
use Rattle.session_index.proofs.IndexLemmas.{turned_shows}
use Rattle.session_state.specs.Lessons.{plain_lesson}
use Rattle.session_state.specs.declared.lesson.Lesson.{Lesson}
use Rattle.session.specs.Answers.{with_lesson}
use Rattle.session.proofs.core_state.Core.take_lesson.Goals as goal

pub returns-in-Person-clause-index : goal.returns-in-Person-clause-index
returns-in-Person-clause-index c =
    let mails = map plain_letter c.args.archive.now.items in
    let view = c.args.self.now.desk.view in
    on_ok_weaker c.add_person.result (λ turned. subst (λ (l : Lesson).
    Shows mails (with_lesson mails (plain_lesson l) (index_of view)) c.add_person.new.self)
    (sym c.in-Person.is) (turned_shows mails view c.add_person.new.self _ c.requires turned))
    c.add_person.ensures.ok

pub returns-in-Kept-clause-index : goal.returns-in-Kept-clause-index
returns-in-Kept-clause-index c =
    let mails = map plain_letter c.args.archive.now.items in
    let view = c.args.self.now.desk.view in
    on_ok_weaker c.keep_scores.result (λ turned. subst (λ (l : Lesson).
    Shows mails (with_lesson mails (plain_lesson l) (index_of view)) c.keep_scores.new.self)
    (sym c.in-Kept.is) (turned_shows mails view c.keep_scores.new.self _ c.requires
    (subst (λ (marks : List Bool). Turned mails view c.keep_scores.new.self
    (record (facts_of view) {
      scores = kept marks (held_entries view.scores);
    })) c.as_slice-in-Kept.ensures.value turned)))
    c.keep_scores.ensures

pub returns-in-Named-clause-index : goal.returns-in-Named-clause-index
returns-in-Named-clause-index c =
    let mails = map plain_letter c.args.archive.now.items in
    let view = c.args.self.now.desk.view in
    on_ok_weaker c.add_alias.result (λ is. subst (λ (l : Lesson).
    Shows mails (with_lesson mails (plain_lesson l) (index_of view)) c.add_alias.new.self)
    (sym c.in-Named.is) (record {
      is_of = c.add_alias.ensures.is_of mails c.requires;
      same = ap index_of is ∙ (λ i. record (index_of view) {
        aliases = with_alias view.aliases (c.as_slice.ensures i) (c.as_slice-in-Named.ensures i);
      });
    })) c.add_alias.ensures.ok
