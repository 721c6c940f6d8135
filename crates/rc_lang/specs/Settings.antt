-- The value of each variable in the order of the table, and what commands make of the values.
use Rattle.std.specs.Prelude.{◌≡◌, ◌⊎◌, ◌++◌, ℕ, List, [], ◌∷◌, Option, Some, None}
use Rattle.std.specs.Prelude.{Result, Ok, Err, map, option_map, slice_get, slice_set, ok_or}
use Rattle.std.specs.Prelude.{IsErrAnd}
use Rattle.mail_base.specs.Series.{Held}
use Rattle.rc_lang_words.specs.declared.fault.RcFault.{RcFault}
use Rattle.rc_lang_words.specs.declared.fault.RcFault.TheVariants.{UnknownCommand, UnknownVariable}
use Rattle.rc_lang_words.specs.declared.fault.RcFault.TheVariants.{NoMemory}
use Rattle.rc_lang_words.specs.declared.fault.RcError.{RcError}
use Rattle.rc_lang.specs.declared.request.SetCommand.{SetCommand}
use Rattle.rc_lang.specs.declared.variable.Variable.{Variable}
use Rattle.rc_lang.specs.Changes.{changed_value, default_of}
use Rattle.rc_lang_words.specs.Faults.{Fault, plain_error, no_memory}
use Rattle.rc_lang.specs.Requests.{PlainChange, PlainRequest, set_command_of, request_of, bare_name}
use Rattle.rc_lang.specs.Values.{PlainValue, shown_line}
use Rattle.rc_lang.specs.Variables.{Named, row_of, rows, named_at, place_of}

-- each variable has its default
abbrev pub defaults : List PlainValue
defaults = map (λ r. default_of r.kind) rows

-- the value of a variable
abbrev pub value_of : List PlainValue → Variable → Option PlainValue
value_of values variable = slice_get values (row_of variable).place

-- values, and the line that was asked for
pub record Changed : Type 0 where
  pub values : List PlainValue
  pub shown : Option (List ℕ)

-- the values with one of them changed
abbrev pub with_value : List PlainValue → ℕ → Result PlainValue RcFault → Result Changed RcFault
with_value values n (Ok value) = Ok (record { values = slice_set values n value; shown = None })
with_value values n (Err fault) = Err fault

-- a variable is changed or shown
abbrev pub changed_row : List PlainValue → ℕ → Named → Option PlainChange → PlainValue
    → Result Changed RcFault
changed_row values n row None value =
    Ok (record { values = values; shown = Some (shown_line row.name value) })
changed_row values n row (Some change) value = with_value values n
    (changed_value row.kind change value)

-- the same with a row and a value that were looked up
abbrev pub changed_found : List PlainValue → ℕ → Option PlainChange → Option Named
    → Option PlainValue → Result Changed RcFault
changed_found values n change (Some row) (Some value) = changed_row values n row change value
changed_found values n change (Some row) None = Err UnknownVariable
changed_found values n change None value = Err UnknownVariable

-- what a change makes of the variable at a place, if there is one
abbrev pub changed_at : List PlainValue → Option PlainChange → Option ℕ → Result Changed RcFault
changed_at values change None = Err UnknownVariable
changed_at values change (Some n) = changed_found values n change (named_at n) (slice_get values n)

-- what is asked for of a variable
abbrev pub answer_of : List PlainValue → PlainRequest → Result Changed RcFault
answer_of values r = changed_at values r.change (place_of r.name)

-- values, and the answer to a command
pub record Outcome : Type 0 where
  pub values : List PlainValue
  pub answer : Result (Option (List ℕ)) Fault

-- a fault with its word
abbrev pub fault_of : RcFault → List ℕ → Fault
fault_of fault word = record { fault = fault; word = word }

-- the later line, if there is one
abbrev pub later_line : Option (List ℕ) → Option (List ℕ) → Option (List ℕ)
later_line shown None = shown
later_line shown (Some line) = Some line

-- behind one word the others, or its fault, which leaves the values as they are
abbrev pub go_on : List PlainValue → Option (List ℕ) → List ℕ → Result Changed RcFault
    → (List PlainValue → Option (List ℕ) → Outcome) → Outcome
go_on values shown word (Ok c) more = more c.values (later_line shown c.shown)
go_on values shown word (Err fault) more =
    record { values = values; answer = Err (fault_of fault (bare_name word)) }

-- the words of a command in turn, up to a faulty one
abbrev pub run_words : SetCommand → List PlainValue → Option (List ℕ) → List (List ℕ) → Outcome
run_words command values shown [] = record { values = values; answer = Ok shown }
run_words command values shown (word ∷ words) =
    go_on values shown word (answer_of values (request_of command word))
    (λ v s. run_words command v s words)

-- what a command makes of the values
abbrev pub run_command : List PlainValue → List ℕ → List (List ℕ) → Option SetCommand → Outcome
run_command values first words None =
    record { values = values; answer = Err (fault_of UnknownCommand first) }
run_command values first words (Some command) = run_words command values None words

-- a command of `set`, `unset`, `toggle` or `reset`
abbrev pub outcome : List PlainValue → List (List ℕ) → Outcome
outcome values [] = record { values = values; answer = Ok None }
outcome values (first ∷ words) = run_command values first words (set_command_of first)

-- the wanted answer, or want of memory
abbrev pub Answers : {A B : Type 0} → (A → B) → Result A RcError → Result B Fault → Type 0
Answers view (Ok value) wanted = wanted ≡ Ok (view value)
Answers view (Err e) wanted = (wanted ≡ Err (plain_error e)) ⊎ (plain_error e ≡ no_memory)

-- memory ran out
abbrev pub IsWant : {A : Type 0} → Result A RcError → Type 0
IsWant result = IsErrAnd result (λ e. plain_error e ≡ no_memory)

-- the words up to some place were taken without a fault, and nothing else was changed
pub record TakesFront (old : List PlainValue) (words : List (List ℕ))
    (new : List PlainValue) : Type 0 where
  pub front : List (List ℕ)
  pub rest : List (List ℕ)
  pub shown : Option (List ℕ)
  pub whole : words ≡ front ++ rest
  pub taken : outcome old front ≡ record { values = new; answer = Ok shown }

-- words without their rooms
abbrev pub plain_names : List (Held ℕ) → List (List ℕ)
plain_names names = map (λ name. name.items) names

-- a line, without its room
abbrev pub plain_shown : Option (Held ℕ) → Option (List ℕ)
plain_shown shown = option_map (λ line. line.items) shown

-- what becomes of one word: its change, or a fault that leaves the values as they are
abbrev pub IsAnswered : List PlainValue → List PlainValue → Result (Option (Held ℕ)) RcFault
    → Result Changed RcFault → Type 0
IsAnswered old new (Ok shown) wanted =
    wanted ≡ Ok (record { values = new; shown = plain_shown shown })
IsAnswered old new (Err fault) wanted = (new ≡ old) × ((wanted ≡ Err fault) ⊎ (fault ≡ NoMemory))

-- what becomes of one word, whose fault tells it
abbrev pub IsTaken : List PlainValue → List PlainValue → Result (Option (Held ℕ)) RcError
    → Result Changed RcFault → List ℕ → Type 0
IsTaken old new (Ok shown) wanted word =
    wanted ≡ Ok (record { values = new; shown = plain_shown shown })
IsTaken old new (Err e) wanted word =
    (new ≡ old)
    × (((wanted ≡ Err e.fault) × (e.word.items ≡ word)) ⊎ (plain_error e ≡ no_memory))

-- the first words were taken without a fault
pub record RunsFront (command : SetCommand) (old : List PlainValue) (words : List (List ℕ))
    (new : List PlainValue) : Type 0 where
  pub front : List (List ℕ)
  pub rest : List (List ℕ)
  pub shown : Option (List ℕ)
  pub whole : words ≡ front ++ rest
  pub taken : run_words command old None front ≡ record { values = new; answer = Ok shown }

-- the words were run, up to a faulty one or want of memory
abbrev pub IsRun : SetCommand → List PlainValue → List PlainValue
    → Result (Option (Held ℕ)) RcError → List (List ℕ) → Type 0
IsRun command old new (Ok shown) words =
    run_words command old None words ≡ record { values = new; answer = Ok (plain_shown shown) }
IsRun command old new (Err e) words =
    RunsFront command old words new
    × ((run_words command old None words ≡ record { values = new; answer = Err (plain_error e) })
    ⊎ (plain_error e ≡ no_memory))

-- the value at a place, if there is one
abbrev pub value_at : List PlainValue → Option ℕ → Option PlainValue
value_at values None = None
value_at values (Some n) = slice_get values n

-- the value of the variable with the name
abbrev pub queried_value : List PlainValue → List ℕ → Result PlainValue Fault
queried_value values name =
    ok_or (value_at values (place_of name)) (fault_of UnknownVariable name)
