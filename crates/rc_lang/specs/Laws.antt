-- Laws of the definitions, in the words of a user of muttrc.
use Rattle.std.specs.Prelude.{◌≡◌, ℕ, true, List, [], ◌∷◌, ◌++◌, None, Ok, codes, length, map}
use Rattle.std.specs.Prelude.{slice_set}
use Rattle.std.specs.List.{list_all}
use Rattle.std.specs.Str.{is_utf8}
use Rattle.rc_lang.specs.declared.rule.Rule.{Rule}
use Rattle.rc_lang.specs.declared.variable.Variable.{Variable}
use Rattle.rc_lang.specs.Changes.{default_of}
use Rattle.rc_lang.specs.Expansion.{expanded_words}
use Rattle.rc_lang.specs.Rules.{allows}
use Rattle.rc_lang.specs.Settings.{Outcome, outcome}
use Rattle.rc_lang.specs.Values.{PlainValue, Text as TextValue, shown_line}
use Rattle.rc_lang.specs.Variables.{Text as TextKind, row_of}
use Rattle.rc_lang_words.specs.Laws.{needs_no_escape, one_line}
use Rattle.rc_lang_words.specs.Words.{lines_of, with_text}

-- words without variables stay as they are
abbrev pub TextStays : Type 0
TextStays =
    (values : List PlainValue) (words : List (List ℕ))
    → expanded_words values (map (λ w. with_text w []) words) ≡ Ok words

-- `name=text`
abbrev pub assignment : Variable → List ℕ → List ℕ
assignment variable text = (row_of variable).name ++ 61 ∷ text

-- the variable has this value, and all others keep theirs
abbrev pub only_changed : List PlainValue → Variable → PlainValue → Outcome
only_changed values variable value =
    record { values = slice_set values (row_of variable).place value; answer = Ok None }

-- what a query prints of a text, behind `set`, is read as `set` with the assignment as its word
abbrev pub PrintedIsRead : Type 0
PrintedIsRead =
    (variable : Variable) (text : List ℕ) → is_utf8 text ≡ true
    → list_all needs_no_escape text ≡ true
    → lines_of (codes "set " ++ shown_line (row_of variable).name (TextValue text))
    ≡ one_line (with_text (codes "set") [] ∷ with_text (assignment variable text) [] ∷ [])

-- and that command gives a variable of that type the text, if it may have it
abbrev pub AssignmentSets : Type 0
AssignmentSets =
    (values : List PlainValue) (variable : Variable) (rule : Rule) (default text : List ℕ)
    → length values ≡ 44 → (row_of variable).kind ≡ TextKind rule default → allows rule text ≡ true
    → outcome values (codes "set" ∷ assignment variable text ∷ [])
    ≡ only_changed values variable (TextValue text)

-- `reset` gives each variable its default
abbrev pub ResetGivesDefault : Type 0
ResetGivesDefault =
    (values : List PlainValue) (variable : Variable) → length values ≡ 44
    → outcome values (codes "reset" ∷ (row_of variable).name ∷ [])
    ≡ only_changed values variable (default_of (row_of variable).kind)
