-- What commands tell the index: who is in the tables of people, what names stand for, and what
-- messages score.
use Rattle.std.specs.Prelude.{ℕ, Bool, List, [], ◌∷◌, Result, Ok, Err}
use Rattle.patterns_match.specs.ScoreEntries.{held_entry}
use Rattle.patterns_match.specs.Scores.{PlainEntry}
use Rattle.people.specs.Judged.{PlainJudged}
use Rattle.people.specs.declared.people.PeopleTable.{PeopleTable}
use Rattle.rc_lang.specs.Expansion.{before_rest}
use Rattle.rc_lang_words.specs.Faults.{Fault}
use Rattle.session_state.specs.Exprs.{expr_of}
use Rattle.session_state.specs.declared.lesson.Lesson.{Lesson}
use Rattle.session_state.specs.declared.lesson.Lesson.TheVariants as lesson

-- an expression belongs to a table of people, a name stands for a value, there is one more entry of
-- scores, or of the entries these are kept
pub data PlainLesson : Type 0 where
  Person : (table : PeopleTable) → (expr : List ℕ) → PlainLesson
  Named : (name : List ℕ) → (value : List ℕ) → PlainLesson
  Scored : (entry : PlainEntry) → PlainLesson
  Kept : (keeps : List Bool) → PlainLesson

-- what a command tells the index, as contracts see it
abbrev pub plain_lesson : Lesson → PlainLesson
plain_lesson (lesson.Person table expr) = Person table expr
plain_lesson (lesson.Named name value) = Named name.items value.items
plain_lesson (lesson.Scored entry) = Scored (held_entry entry)
plain_lesson (lesson.Kept keeps) = Kept keeps.items

-- an expression belongs to a table, unless it is at fault
abbrev pub person_by : PeopleTable → Result (List ℕ) Fault → Result (List PlainLesson) Fault
person_by table (Ok expr) = Ok (Person table expr ∷ [])
person_by table (Err fault) = Err fault

-- a word that is an expression by these verdicts, for a table; or the word is at fault
abbrev pub person_of : List PlainJudged → PeopleTable → List ℕ → Result (List PlainLesson) Fault
person_of verdicts table word = person_by table (expr_of verdicts word word)

-- the same of each of these words
abbrev pub people_of : List PlainJudged → PeopleTable → List (List ℕ)
    → Result (List PlainLesson) Fault
people_of verdicts table [] = Ok []
people_of verdicts table (word ∷ words) =
    before_rest (person_of verdicts table word) (people_of verdicts table words)
