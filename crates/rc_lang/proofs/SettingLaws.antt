-- What `set` and `reset` make of each variable, and what words without variables become.
use Rattle.std.proofs.Common.{◌≡◌, ℕ, ◌+◌, ◌<◌, ◌==◌, ltb, cond, true, false, not, List}
use Rattle.std.proofs.Common.{[], ◌∷◌, ◌++◌, map, length, drop, Some, None, Ok, refl}
use Rattle.std.proofs.Common.{sym, ap, ◌∙◌, arith, append_assoc, length-append}
use Rattle.std.specs.Prelude.{slice_set}
use Rattle.std.specs.List.{list_all, prefix_len, slice_index_or}
use Rattle.std.proofs.Math.Seq.{take-append_seam}
use Rattle.std.proofs.lemmas.Bool.{and_parts}
use Rattle.std.proofs.lemmas.Bool.Decides.{nat_tests}
use Rattle.std.proofs.lemmas.List.{append-nil, drop_at}
use Rattle.std.proofs.lemmas.Option.{slice_get-get_or}
use Rattle.rc_lang.specs.declared.request.SetCommand.{SetCommand}
use Rattle.rc_lang.specs.declared.request.SetCommand.TheVariants as command
use Rattle.rc_lang.specs.declared.rule.Rule.{Rule}
use Rattle.rc_lang.specs.declared.variable.Variable.{Variable}
use Rattle.rc_lang.specs.Changes.{changed_value, default_of, value_named}
use Rattle.rc_lang.specs.Expansion.{before_all, before_rest, expanded_words, one_word, word_text}
use Rattle.rc_lang.specs.Laws.{AssignmentSets, ResetGivesDefault, TextStays, assignment}
use Rattle.rc_lang.specs.Laws.{only_changed}
use Rattle.rc_lang.specs.Requests.{PlainChange, PlainRequest, Assign, Reset, assigned_at, equals_at}
use Rattle.rc_lang.specs.Requests.{request, request_of}
use Rattle.rc_lang.specs.Rules.{allows}
use Rattle.rc_lang.specs.Settings.{answer_of, go_on, run_words}
use Rattle.rc_lang.specs.Values.{PlainValue, Flag, Text as TextValue}
use Rattle.rc_lang.specs.Variables.{Text as TextKind, without_place, row_of}
use Rattle.rc_lang_words.specs.Words.{with_text}
use Rattle.rc_lang.proofs.OwnRows.{own_name, own_place, own_row, own_within}
use Rattle.rc_lang.proofs.SettingsLemmas.{answered_changed}

-- a change of one variable
one_change : (values : List PlainValue) (v : Variable) (change : PlainChange)
    (made : PlainValue) → length values ≡ 44
    → ((value : PlainValue) → changed_value (row_of v).kind change value ≡ Ok made)
    → answer_of values (request (row_of v).name change)
    ≡ Ok (record { values = slice_set values (row_of v).place made; shown = None })
one_change values v change made counted makes =
    let n = (row_of v).place in
    let below : n < 44 = grind (arith, nat_tests, own_within v) in
    let within : n < length values = omega arith in
    let value = slice_index_or values n (Flag false) in
    answered_changed values (slice_set values n made) (request (row_of v).name change) n
    (without_place
    (row_of v)) value made change
    (own_place v) (own_row v) (slice_get-get_or values n (Flag false) within) refl
    (makes value) refl

-- a command with one word
one_word_run : (c : SetCommand) (values : List PlainValue) (word : List ℕ) (v : Variable)
    (made : PlainValue) (r : PlainRequest)
    → request_of c word ≡ r
    → answer_of values r ≡ Ok (record {
      values = slice_set values
          (row_of v).place made;
      shown = None;
    })
    → run_words c values None (word ∷ []) ≡ only_changed values v made
one_word_run c values word v made r asks done =
    ap (λ o. go_on values None word o (λ u s. run_words c u s [])) (ap (answer_of values) asks
    ∙ done)

pub reset_gives_default : ResetGivesDefault
reset_gives_default values v counted =
    let name = (row_of v).name in
    one_word_run command.Reset values name v (default_of (row_of v).kind) (request name Reset) refl
    (one_change values v Reset (default_of (row_of v).kind) counted (λ value. refl))

prefix_of_name : (name t : List ℕ) → list_all (λ b. not (b == 61)) name ≡ true
    → prefix_len (λ b. not (b == 61)) (name ++ 61 ∷ t) ≡ length name
prefix_of_name [] t all = refl
prefix_of_name (b ∷ name) t all =
    let parts = and_parts (not (b == 61)) (list_all (λ b. not (b == 61)) name) all in
    rw parts.0 (let rest = prefix_of_name name t parts.1 in omega (arith, rest))

-- the equals sign stands behind the name
equals_found : (name t : List ℕ) → list_all (λ b. not (b == 61)) name ≡ true
    → equals_at (name ++ 61 ∷ t) ≡ Some (length name)
equals_found name t all =
    let at = prefix_of_name name t all in
    let short : ltb (length name) (length (name ++ 61 ∷ t)) ≡ true =
    grind (arith, nat_tests, length-append name (61 ∷ t)) in
    ap (λ n. cond (ltb n (length (name ++ 61 ∷ t))) (Some n) None) at
    ∙ ap (λ b. cond b (Some (length name)) None) short

behind_name : (name t : List ℕ) → drop (length name + 1) (name ++ 61 ∷ t) ≡ t
behind_name name t =
    ap (drop (length name + 1)) (sym (append_assoc name (61 ∷ []) t))
    ∙ drop_at (name ++ 61 ∷ []) t (length name + 1) (omega (arith, length-append name (61 ∷ [])))

assigns : (name t : List ℕ) → list_all (λ b. not (b == 61)) name ≡ true
    → request_of command.Set (name ++ 61 ∷ t) ≡ request name (Assign t)
assigns name t all =
    ap (assigned_at (name ++ 61 ∷ t)) (equals_found name t all)
    ∙ ap (λ x. request x (Assign (drop (length name + 1) (name ++ 61 ∷ t))))
    (take-append_seam name (61 ∷ t))
    ∙ ap (λ x. request name (Assign x)) (behind_name name t)

takes_text : (rule : Rule) (default t : List ℕ) → allows rule t ≡ true
    → value_named (TextKind rule default) t ≡ Ok (TextValue t)
takes_text rule default t allowed = rw allowed refl

pub assignment_sets : AssignmentSets
assignment_sets values v rule default t counted kind allowed =
    one_word_run command.Set values (assignment v t) v (TextValue t) (request (row_of v).name
    (Assign t))
    (assigns (row_of v).name t (own_name v))
    (one_change values v (Assign t) (TextValue t) counted
    (λ value. ap (λ k. value_named k t) kind ∙ takes_text rule default t allowed))

text_word_stays : (values : List PlainValue) (word : List ℕ)
    → word_text values (with_text word []) ≡ Ok word
text_word_stays values [] = refl
text_word_stays values (b ∷ t) = ap Ok (append-nil (b ∷ t))

pub text_stays : TextStays
text_stays values [] = refl
text_stays values (word ∷ words) =
    ap (λ r. before_rest (one_word r) (expanded_words values (map (λ w. with_text w []) words)))
    (text_word_stays values word)
    ∙ ap (before_all (word ∷ [])) (text_stays values words)
