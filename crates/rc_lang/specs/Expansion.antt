-- Words with the values of their variables.
use Rattle.std.specs.Prelude.{ℕ, List, [], ◌∷◌, ◌++◌, Result, Ok, Err}
use Rattle.rc_lang_words.specs.Faults.{Fault}
use Rattle.rc_lang.specs.Settings.{queried_value}
use Rattle.rc_lang.specs.Values.{PlainValue, value_text}
use Rattle.rc_lang_words.specs.Words.{PlainPiece, Text, Variable}

-- the text of a value
abbrev pub text_given : Result PlainValue Fault → Result (List ℕ) Fault
text_given (Ok value) = Ok (value_text value)
text_given (Err fault) = Err fault

-- a text, or the text of a variable, which may be unknown
abbrev pub piece_text : List PlainValue → PlainPiece → Result (List ℕ) Fault
piece_text values (Text text) = Ok text
piece_text values (Variable name) = text_given (queried_value values name)

-- items before the others, where there is no fault
abbrev pub before_all : {A : Type 0} → List A → Result (List A) Fault → Result (List A) Fault
before_all front (Ok rest) = Ok (front ++ rest)
before_all front (Err fault) = Err fault

-- the first fault counts
abbrev pub before_rest : {A : Type 0} → Result (List A) Fault → Result (List A) Fault
    → Result (List A) Fault
before_rest (Ok front) rest = before_all front rest
before_rest (Err fault) rest = Err fault

-- a list of one word
abbrev pub one_word : Result (List ℕ) Fault → Result (List (List ℕ)) Fault
one_word (Ok word) = Ok (word ∷ [])
one_word (Err fault) = Err fault

-- the parts of a word one behind another
abbrev pub word_text : List PlainValue → List PlainPiece → Result (List ℕ) Fault
word_text values [] = Ok []
word_text values (piece ∷ pieces) = before_rest (piece_text values piece) (word_text values pieces)

-- words with the values of their variables
abbrev pub expanded_words : List PlainValue → List (List PlainPiece) → Result (List (List ℕ)) Fault
expanded_words values [] = Ok []
expanded_words values (word ∷ words) =
    before_rest (one_word (word_text values word)) (expanded_words values words)
