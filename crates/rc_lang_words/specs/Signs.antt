-- Characters of muttrc and how they are quoted (Mutt's manual, "Syntax of Initialization Files").
use Rattle.std.specs.Prelude.{◌+◌, ◌-◌, ◌^◌, ◌%◌, ◌==◌, ◌&&◌, ◌||◌, ℕ, Bool, true, false, not}
use Rattle.std.specs.Prelude.{nat_lt, min, List, [], ◌∷◌, ◌++◌, Option, Some, None, if◌then◌else◌}
use Rattle.std.specs.Char.{is_ascii_alphanumeric, to_ascii_uppercase}
use Rattle.rc_lang_words.specs.declared.sign.Role.{Role}
use Rattle.rc_lang_words.specs.declared.sign.Role.TheVariants.{Blank, CommandEnd, OpenQuote, Quote}
use Rattle.rc_lang_words.specs.declared.sign.Role.TheVariants.{Plain, InQuotes, Literal}
use Rattle.rc_lang_words.specs.declared.sign.Sign.{Sign}
use Rattle.rc_lang_words.specs.declared.state.State.{State}
use Rattle.rc_lang_words.specs.declared.state.Quoting.{Quoting}
use Rattle.rc_lang_words.specs.declared.state.Quoting.TheVariants as quoting
use Rattle.rc_lang_words.specs.declared.state.Escape.{Escape}
use Rattle.rc_lang_words.specs.declared.state.Escape.TheVariants.{Absent, Backslash, Control}

-- where in a muttrc a byte stands
abbrev pub state : ℕ → Quoting → Escape → State
state line quoting escape = record { line = line; quoting = quoting; escape = escape }

-- at the start of the next line
abbrev pub next_line : ℕ → Quoting → State
next_line line quoting = state (min (line + 1) (2 ^ 32 - 1)) quoting Absent

-- outside quotes; a `#` ends the word and begins a comment
abbrev pub plain_step : ℕ → ℕ → Option Role × State
plain_step line b =
    let plain = state line quoting.Plain Absent in
    if b == 32 || b == 9 then (Some Blank, plain)
    else (if b == 10 then (Some CommandEnd, next_line line quoting.Plain)
    else (if b == 59 then (Some CommandEnd, plain)
    else (if b == 35 then (Some Blank, state line quoting.Comment Absent)
    else (if b == 39 then (Some Quote, state line quoting.Single Absent)
    else (if b == 34 then (Some Quote, state line quoting.Double Absent)
    else (if b == 92 then (None, state line quoting.Plain Backslash)
    else (Some (Plain b), plain)))))))

-- in single quotes all is literal; the line may not end there
abbrev pub single_step : ℕ → ℕ → Option Role × State
single_step line b =
    if b == 39 then (Some Quote, state line quoting.Plain Absent)
    else (if b == 10 then (Some OpenQuote, next_line line quoting.Plain)
    else (Some (Literal b), state line quoting.Single Absent))

-- in double quotes a backslash keeps its meaning
abbrev pub double_step : ℕ → ℕ → Option Role × State
double_step line b =
    if b == 34 then (Some Quote, state line quoting.Plain Absent)
    else (if b == 10 then (Some OpenQuote, next_line line quoting.Plain)
    else (if b == 92 then (None, state line quoting.Double Backslash)
    else (Some (InQuotes b), state line quoting.Double Absent)))

-- a comment gives nothing up to the end of the line
abbrev pub comment_step : ℕ → ℕ → Option Role × State
comment_step line b =
    if b == 10 then (Some CommandEnd, next_line line quoting.Plain)
    else (if b == 92 then (None, state line quoting.Comment Backslash)
    else (None, state line quoting.Comment Absent))

-- what a backslash and the byte give: `\n`, `\r`, `\t`, `\e`, and else the byte
abbrev pub escaped_byte : ℕ → ℕ
escaped_byte b =
    if b == 110 then 10
    else (if b == 114 then 13 else (if b == 116 then 9 else (if b == 101 then 27 else b)))

-- a byte stands in a comment
abbrev pub is_comment : Quoting → Bool
is_comment quoting.Comment = true
is_comment _ = false

-- behind a backslash; before a line end it joins the lines, and a `c` waits for its character
abbrev pub backslash_step : ℕ → Quoting → ℕ → Option Role × State
backslash_step line q b =
    if b == 10 then (None, next_line line q)
    else (if is_comment q then (None, state line q Absent)
    else (if b == 99 || b == 67 then (None, state line q (Control b))
    else (Some (Literal (escaped_byte b)), state line q Absent)))

-- the byte has a control character: it is ASCII, and no line end
abbrev pub has_control : ℕ → Bool
has_control b = nat_lt b 128 && not (b == 10)

-- the control character of a letter in any case: 64 below the capital
abbrev pub control_of : ℕ → ℕ
control_of b = (to_ascii_uppercase b + 64) % 128

-- what a byte is that is not escaped, and where the next one stands
abbrev pub unescaped_step : ℕ → Quoting → ℕ → Option Role × State
unescaped_step line quoting.Plain b = plain_step line b
unescaped_step line quoting.Single b = single_step line b
unescaped_step line quoting.Double b = double_step line b
unescaped_step line quoting.Comment b = comment_step line b

-- what a byte is behind an escape, and where the next one stands
abbrev pub step_behind : ℕ → Quoting → Escape → ℕ → Option Role × State
step_behind line q Absent b = unescaped_step line q b
step_behind line q Backslash b = backslash_step line q b
step_behind line q (Control letter) b =
    if has_control b then (Some (Literal (control_of b)), state line q Absent)
    else unescaped_step line q b

-- what the byte gives or ends, and the state behind it
abbrev pub step : State → ℕ → Option Role × State
step s b = step_behind s.line s.quoting s.escape b

-- the letter of `\c` or `\C` that the byte does not make a control character; it is itself
abbrev pub letter_before : Escape → ℕ → Option ℕ
letter_before Absent b = None
letter_before Backslash b = None
letter_before (Control letter) b = if has_control b then None else Some letter

-- such a letter at the end of the text
abbrev pub last_letter : Escape → Option ℕ
last_letter Absent = None
last_letter Backslash = None
last_letter (Control letter) = Some letter

-- a byte stands in quotes
abbrev pub is_quoted : Quoting → Bool
is_quoted quoting.Plain = false
is_quoted quoting.Single = true
is_quoted quoting.Double = true
is_quoted quoting.Comment = false

-- a sign on a line
abbrev pub sign : ℕ → Role → Sign
sign line role = record { line = line; role = role }

-- the sign of a byte that is one
abbrev pub role_sign : ℕ → Option Role → List Sign
role_sign line None = []
role_sign line (Some role) = sign line role ∷ []

-- the sign of a byte that stands for itself
abbrev pub literal_sign : ℕ → Option ℕ → List Sign
literal_sign line None = []
literal_sign line (Some b) = sign line (Literal b) ∷ []

-- what the end of the text leaves open
abbrev pub last_signs : State → List Sign
last_signs s =
    literal_sign s.line (last_letter s.escape)
    ++ (if is_quoted s.quoting then sign s.line OpenQuote ∷ [] else [])

-- what one byte adds
abbrev pub byte_signs : State → ℕ → List Sign
byte_signs s b = literal_sign s.line (letter_before s.escape b) ++ role_sign s.line (step s b).0

-- the characters behind a state
abbrev pub signs_from : State → List ℕ → List Sign
signs_from s [] = last_signs s
signs_from s (b ∷ rest) = byte_signs s b ++ signs_from (step s b).1 rest

-- the characters of a text, each with its line and with how it is quoted
abbrev pub signs_of : List ℕ → List Sign
signs_of text = signs_from (state 1 quoting.Plain Absent) text

-- a sign is a blank between words
abbrev pub is_blank : Sign → Bool
is_blank s = elim s.role [ Blank ↦ true | _ ↦ false ]

-- the command ends
abbrev pub is_end : Sign → Bool
is_end s = elim s.role [ CommandEnd ↦ true | OpenQuote ↦ true | _ ↦ false ]

-- a sign is a quote that is not closed
abbrev pub is_open_quote : Sign → Bool
is_open_quote s = elim s.role [ OpenQuote ↦ true | _ ↦ false ]

-- the byte outside quotes
abbrev pub is_plain : ℕ → Sign → Bool
is_plain byte s = elim s.role [ Plain b ↦ b == byte | _ ↦ false ]

-- the byte, neither in single quotes nor behind a backslash
abbrev pub is_active : ℕ → Sign → Bool
is_active byte s = elim s.role [ Plain b ↦ b == byte | InQuotes b ↦ b == byte | _ ↦ false ]

-- a letter, a digit or `_`
abbrev pub is_name_byte : ℕ → Bool
is_name_byte b = is_ascii_alphanumeric b || b == 95

-- a variable's name may hold it
abbrev pub is_in_name : Sign → Bool
is_in_name s = elim s.role [ Plain b ↦ is_name_byte b | InQuotes b ↦ is_name_byte b | _ ↦ false ]

-- the byte for which it stands
abbrev pub byte_of : Sign → Option ℕ
byte_of s = elim s.role [ Plain b ↦ Some b | InQuotes b ↦ Some b | Literal b ↦ Some b | _ ↦ None ]
