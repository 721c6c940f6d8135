-- What commands tell, on the fault stream or on the last line, by where they come from.
use Rattle.std.specs.Prelude.{◌++◌, ℕ, List, [], ◌∷◌, Option, Some, None, codes}
use Rattle.std.specs.Fmt.{decimal}
use Rattle.mail_base.specs.Series.{plain_texts}
use Rattle.mail_base.specs.Shown.{utf8_text}
use Rattle.rc_lang.specs.Settings.{plain_shown}
use Rattle.rc_lang_words.specs.Faults.{Fault, fault_text}
use Rattle.session_state.specs.declared.frame.Origin.{Origin}
use Rattle.session_state.specs.declared.frame.Origin.TheVariants.{Asked, Hook, Prompt, Typed}
use Rattle.session_state.specs.declared.told.Told.{Told}

-- the lines for the fault stream, and what the last line shows, if that changes
pub record PlainTold : Type 0 where
  pub notes : List (List ℕ)
  pub shown : Option (List ℕ)

-- what commands tell, as contracts see it
abbrev pub plain_told : Told → PlainTold
plain_told told = record { notes = plain_texts told.notes; shown = plain_shown told.shown }

-- nothing was told
abbrev pub nothing_told : PlainTold
nothing_told = record { notes = []; shown = None }

-- On the fault stream.

-- the line under which a command stands: what is typed has line 1, and a hook that of its own
abbrev pub line_number : Origin → ℕ → ℕ
line_number Typed line = 1
line_number Prompt line = 1
line_number (Hook given) line = given
line_number _ line = line

-- what is told of a faulty command: FILE:LINE: CAUSE
abbrev pub note_of : List ℕ → ℕ → Fault → List ℕ
note_of file line fault =
    utf8_text (file ++ codes ":" ++ decimal line ++ codes ": " ++ fault_text fault)

-- a fault with its file and line is told
abbrev pub noted : List ℕ → ℕ → Fault → PlainTold → PlainTold
noted file line fault told =
    record told { notes = told.notes ++ note_of file line fault ∷ [] }

-- On the last line.

-- the last line shows this
abbrev pub showing : List ℕ → PlainTold → PlainTold
showing line told = record told { shown = Some line }

-- the last line shows a fault
abbrev pub fault_shown : Fault → PlainTold → PlainTold
fault_shown fault told = showing (utf8_text (fault_text fault)) told

-- By where a command comes from.

-- the line that a command answers is shown where it was typed
abbrev pub answer_told : Origin → List ℕ → PlainTold → PlainTold
answer_told Prompt line told = showing line told
answer_told _ line told = told

-- a faulty command on a line of this file
abbrev pub fault_told : Origin → List ℕ → ℕ → Fault → PlainTold → PlainTold
fault_told Prompt file line fault told = fault_shown fault told
fault_told _ file line fault told = noted file line fault told

-- this file was not read, which has no line
abbrev pub unread_told : Origin → List ℕ → Fault → PlainTold → PlainTold
unread_told Prompt file fault told = fault_shown fault told
unread_told Asked file fault told = fault_shown fault told
unread_told _ file fault told = noted file 0 fault told
