use Rattle.std.proofs.Common.{◌≡◌, ◌∙◌, ◌++◌, ◌∷◌, [], List, ap, inl, inr, map, rules}
use Rattle.std.proofs.Common.{sym, ℕ}
use Rattle.std.proofs.lemmas.List.{map-append}
use Rattle.std.proofs.lemmas.Result.{err_from_is_err_and}
use Rattle.mail_base.specs.Series.{Held}
use Rattle.patterns.proofs.CauseLemmas.{keeps_on}
use Rattle.rc_lang.specs.Expansion.{before_all}
use Rattle.rc_lang.specs.Settings.{plain_names}
use Rattle.session_state.specs.Lessons.{PlainLesson, people_of, person_of, plain_lesson}
use Rattle.session_state.proofs.ExprLemmas.{people_more, people_refused}
use Rattle.session_state.proofs.lesson.people_of.Goals as goal

pub returns-in_err-lesson-clause-value : goal.returns-in_err-lesson-clause-value
returns-in_err-lesson-clause-value g c = λ later keeps.
    let p = err_from_is_err_and c.from_residual.result c.from_residual.ensures.1 in
    let lessons : List PlainLesson = map plain_lesson c.loop-word.lessons.items in
    rw (p.1, p.2) (elim (c.in_err-lesson.ensures.value later keeps) [
      | inl at ↦ inl (sym (c.loop-word.invariant.went later
          (keeps_on _ _ _ c.person_of.ensures.keeps keeps))
          ∙ ap (λ (l : List (Held ℕ)). before_all lessons
          (people_of later c.args.table (plain_names l))) c.in-Some.ensures.cases.0
          ∙ people_refused later c.args.table c.in-Some.word.now.items
          (plain_names c.in-Some.rest.now) lessons _
          (ap (person_of later c.args.table) (sym c.as_slice.ensures) ∙ at))
      | inr at ↦ inr at
    ])

pub returns-in_default-push-clause-keeps : goal.returns-in_default-push-clause-keeps
returns-in_default-push-clause-keeps g c =
    keeps_on _ _ _ c.loop-word.invariant.keeps c.person_of.ensures.keeps

pub loop-word-preserved : goal.loop-word-preserved
loop-word-preserved g c =
    let lessons : List PlainLesson = map plain_lesson c.loop-word.lessons.items in
    let items : c.push.new.self.items
    ≡ c.loop-word.lessons.items ++ c.in_ok-lesson.lesson ∷ [] = search rules in
    let pushed = ap (map plain_lesson) items
    ∙ map-append plain_lesson c.loop-word.lessons.items (c.in_ok-lesson.lesson ∷ []) in
    record {
      keeps = keeps_on _ _ _ c.loop-word.invariant.keeps c.person_of.ensures.keeps;
      went = λ later keeps.
          ap (λ (all : List PlainLesson). before_all all
          (people_of later c.args.table (plain_names c.in-Some.rest.now))) pushed
          ∙ people_more later c.args.table c.in-Some.word.now.items
          (plain_names c.in-Some.rest.now) lessons (plain_lesson c.in_ok-lesson.lesson)
          (ap (person_of later c.args.table) (sym c.as_slice.ensures)
          ∙ c.in_ok-lesson.ensures.value later keeps)
          ∙ sym (ap (λ (l : List (Held ℕ)). before_all lessons
          (people_of later c.args.table (plain_names l))) c.in-Some.ensures.cases.0)
          ∙ c.loop-word.invariant.went later (keeps_on _ _ _ c.person_of.ensures.keeps keeps);
    }
