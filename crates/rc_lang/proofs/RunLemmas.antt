-- How the words of a command are run one after another.
use Rattle.std.proofs.Common.{◌≡◌, ◌⊎◌, inl, inr, List, [], ◌∷◌, ◌++◌, ℕ, Option, None, Some}
use Rattle.std.proofs.Common.{Result, Ok, Err, refl, sym, ap, ◌∙◌}
use Rattle.std.specs.Prelude.{IfErr}
use Rattle.mail_base.specs.Series.{Held}
use Rattle.rc_lang_words.specs.declared.fault.RcFault.{RcFault}
use Rattle.rc_lang_words.specs.declared.fault.RcFault.TheVariants.{NoMemory}
use Rattle.rc_lang_words.specs.declared.fault.RcError.{RcError}
use Rattle.rc_lang.specs.declared.request.SetCommand.{SetCommand}
use Rattle.rc_lang_words.specs.Faults.{Fault, IsError, plain_error, no_memory}
use Rattle.rc_lang.specs.Requests.{bare_name, request_of, set_command_of}
use Rattle.rc_lang.specs.Settings.{Changed, Outcome, RunsFront, TakesFront, answer_of, fault_of}
use Rattle.rc_lang.specs.Settings.{go_on, later_line, IsAnswered, IsRun, IsTaken}
use Rattle.rc_lang.specs.Settings.{run_command, run_words}
use Rattle.rc_lang.specs.Values.{PlainValue}

abbrev runs : List PlainValue → Option (List ℕ) → Outcome
runs values shown = record { values = values; answer = Ok shown }

values_same : (v w : List PlainValue) (s t : Option (List ℕ)) → runs v s ≡ runs w t → v ≡ w
values_same v w s t same = ap (λ (o : Outcome). o.values) same

shown_same : (v w : List PlainValue) (s t : Option (List ℕ)) → runs v s ≡ runs w t → s ≡ t
shown_same v w s t same = let answers = ap (λ (o : Outcome). o.answer) same in cc

behind_front : (command : SetCommand) (v w : List PlainValue) (s t : Option (List ℕ))
    (word : List ℕ)
    (o : Result Changed RcFault) (front rest : List (List ℕ))
    → ((c : Changed) → run_words command c.values (later_line s c.shown) front ≡ runs w t
    → run_words command c.values (later_line s c.shown) (front ++ rest)
    ≡ run_words command w t rest)
    → go_on v s word o (λ v s. run_words command v s front) ≡ runs w t
    → go_on v s word o (λ v s. run_words command v s (front ++ rest)) ≡ run_words command w t rest
behind_front command v w s t word (Ok c) front rest more taken = more c taken
behind_front command v w s t word (Err f) front rest more taken =
    absurd (let answers = ap (λ (o : Outcome). o.answer) taken in cc)

-- behind words without a fault the others run on
pub run_words_append : (command : SetCommand) (v w : List PlainValue) (s t : Option (List ℕ))
    (front rest : List (List ℕ))
    → run_words command v s front ≡ runs w t
    → run_words command v s (front ++ rest) ≡ run_words command w t rest
run_words_append command v w s t [] rest taken =
    ap (λ x. run_words command x s rest) (values_same v w s t taken)
    ∙ ap (λ x. run_words command w x rest) (shown_same v w s t taken)
run_words_append command v w s t (word ∷ front) rest taken =
    behind_front command v w s t word (answer_of v (request_of command word)) front rest
    (λ c next. run_words_append command c.values w (later_line s c.shown) t front rest next) taken

-- one more word without a fault
pub run_more : (command : SetCommand) (old v : List PlainValue) (s : Option (List ℕ))
    (front : List (List ℕ)) (word : List ℕ)
    (c : Changed) → run_words command old None front ≡ runs v s
    → answer_of v (request_of command word) ≡ Ok c
    → run_words command old None (front ++ word ∷ []) ≡ runs c.values (later_line s c.shown)
run_more command old v s front word c taken done =
    run_words_append command old v None s front (word ∷ []) taken
    ∙ ap (λ o. go_on v s word o (λ v s. run_words command v s [])) done

-- a faulty word
pub run_refused : (command : SetCommand) (old v : List PlainValue) (s : Option (List ℕ))
    (front rest : List (List ℕ))
    (word : List ℕ) (f : RcFault) → run_words command old None front ≡ runs v s
    → answer_of v (request_of command word) ≡ Err f
    → run_words command old None (front ++ word ∷ rest)
    ≡ record { values = v; answer = Err (fault_of f (bare_name word)) }
run_refused command old v s front rest word f taken refused =
    run_words_append command old v None s front (word ∷ rest) taken
    ∙ ap (λ o. go_on v s word o (λ v s. run_words command v s rest)) refused

-- a command without a word changes nothing
pub takes_none : (old : List PlainValue) (words : List (List ℕ)) → TakesFront old words old
takes_none old words = record { front = []; rest = words; shown = None; whole = refl; taken = refl }

-- what was taken of the words of a command was taken of it
pub takes_front : (command : SetCommand) (old new : List PlainValue) (first : List ℕ)
    (words : List (List ℕ))
    → set_command_of first ≡ Some command → RunsFront command old words new
    → TakesFront old (first ∷ words) new
takes_front command old new first words known runs = record {
  front = first ∷ runs.front;
  rest = runs.rest;
  shown = runs.shown;
  whole = ap (λ ws. first ∷ ws) runs.whole;
  taken = ap (run_command old first runs.front) known ∙ runs.taken;
}

-- an error of one word, as that of the words
pub run_error : (command : SetCommand) (old v new : List PlainValue) (s : Option (List ℕ))
    (front rest words : List (List ℕ))
    (word : List ℕ) (e : RcError) → words ≡ front ++ word ∷ rest
    → run_words command old None front ≡ runs v s
    → (new ≡ v) × (((answer_of v (request_of command word) ≡ Err e.fault) × (e.word.items
    ≡ bare_name word))
    ⊎ (plain_error e ≡ no_memory))
    → RunsFront command old words new
    × ((run_words command old None words ≡ record { values = new; answer = Err (plain_error e) })
    ⊎ (plain_error e ≡ no_memory))
run_error command old v new s front rest words word e whole taken error = (
  record {
    front = front;
    rest = word ∷ rest;
    shown = s;
    whole = whole;
    taken = taken ∙ ap (λ x. runs x s) (sym error.0);
  },
  elim error.1 [
    | inl p ↦ inl (
        ap (run_words command old None) whole
        ∙ run_refused command old v s front rest word e.fault taken p.0
        ∙ ap (λ x. record { values = x; answer = Err (fault_of e.fault (bare_name word)) })
        (sym error.0)
        ∙ ap (λ w. record { values = new; answer = Err (fault_of e.fault w) }) (sym p.1)
        )
    | inr want ↦ inr want
  ],
)

-- what a refusal of the words leaves is what a refusal of the command leaves
pub kept_front : (command : SetCommand) (old new : List PlainValue) (first : List ℕ)
    (words : List (List ℕ))
    (r : Result (Option (Held ℕ)) RcError) → set_command_of first ≡ Some command
    → IsRun command old new r words
    → IfErr r (λ e. TakesFront old (first ∷ words) new)
kept_front command old new first words (Ok shown) known run = tt
kept_front command old new first words (Err e) known run = takes_front command old new first words
    known run.0

-- the error that is made of the fault of one word
pub taken_error : (old new : List PlainValue) (wanted : Result Changed RcFault) (f : RcFault)
    (e : RcError) (word : List ℕ)
    → IsAnswered old new (Err f) wanted → IsError f word e → IsTaken old new (Err e) wanted word
taken_error old new wanted NoMemory e word told made = (told.0, inr made)
taken_error old new wanted f e word told made = (
  told.0,
  elim told.1 [
    | inl refused ↦ elim made [
      | inl same ↦ inl (
        refused ∙ ap Err (sym (ap (λ (x : Fault). x.fault) same)),
        ap (λ (x : Fault). x.word) same,
      )
      | inr want ↦ inr want
    ]
    | inr want ↦ cc
  ],
)
