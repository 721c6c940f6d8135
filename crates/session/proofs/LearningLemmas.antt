-- How the index learns one thing after the other.
use Rattle.std.proofs.Common.{◌≡◌, ◌∙◌, List, [], ◌∷◌, ap, refl, sym}
use Rattle.folder_letters.specs.Letters.{Mail}
use Rattle.session_index.specs.Effects.{with_index}
use Rattle.session_index.specs.Index.{PlainIndex}
use Rattle.session_state.specs.Lessons.{Kept, Named, Person, PlainLesson, Scored}
use Rattle.session_state.specs.Rules.{PlainRules}
use Rattle.session.specs.Answers.{learnt, with_lesson, with_lessons}
use Rattle.session.specs.Core.{CoreState}

lesson_items : (mails : List Mail) (lesson : PlainLesson) (i : PlainIndex)
    → (with_lesson mails lesson i).facts.items ≡ i.facts.items
lesson_items mails (Person table expr) i = refl
lesson_items mails (Named name value) i = refl
lesson_items mails (Scored entry) i = refl
lesson_items mails (Kept keeps) i = refl

-- no message comes or goes
pub lessons_items : (mails : List Mail) (lessons : List PlainLesson) (i : PlainIndex)
    → (with_lessons mails lessons i).facts.items ≡ i.facts.items
lessons_items mails [] i = refl
lessons_items mails (lesson ∷ lessons) i =
    lessons_items mails lessons (with_lesson mails lesson i) ∙ lesson_items mails lesson i

abbrev learning : List Mail → CoreState → List PlainLesson → CoreState
learning mails c lessons = record c {
  rules = record c.rules { lessons = [] };
  desk = with_index (with_lessons mails lessons c.desk.index) c.desk;
}

-- a core that has learnt the first thing
abbrev pub first_learnt : List Mail → PlainLesson → PlainRules → CoreState → CoreState
first_learnt mails lesson rules c = record c {
  rules = rules;
  desk = with_index (with_lesson mails lesson c.desk.index) c.desk;
}

pub learnt_step : (mails : List Mail) (c : CoreState) (lesson : PlainLesson) (rules : PlainRules)
    → c.rules.lessons ≡ lesson ∷ rules.lessons
    → rules ≡ record c.rules { lessons = rules.lessons }
    → learnt mails (first_learnt mails lesson rules c) ≡ learnt mails c
learnt_step mails c lesson rules first same =
    ap (λ (r : PlainRules). let d : CoreState = record c {
      rules = record r { lessons = [] };
      desk = with_index (with_lessons mails (lesson ∷ rules.lessons) c.desk.index) c.desk;
    } in d) same
    ∙ sym (ap (learning mails c) first)

-- nothing is left to be learnt
pub learnt_none : (mails : List Mail) (c : CoreState) (rules : PlainRules) → c.rules.lessons ≡ []
    → rules.lessons ≡ [] → rules ≡ record c.rules { lessons = rules.lessons }
    → (let d : CoreState = record c { rules = rules } in d) ≡ learnt mails c
learnt_none mails c rules none left same =
    ap (λ (r : PlainRules). let d : CoreState = record c { rules = r } in d)
    (same ∙ ap (λ (ls : List PlainLesson). let r : PlainRules = record c.rules {
      lessons = ls;
    } in r) left)
    ∙ sym (ap (learning mails c) none)
