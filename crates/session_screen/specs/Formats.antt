-- The formats that variables have.
use Rattle.std.specs.Prelude.{ℕ, List, [], Result, Ok, Err}
use Rattle.expando.specs.Formats.{PlainPiece, format_of}
use Rattle.rc_lang.specs.Values.{PlainValue}
use Rattle.rc_lang.specs.declared.variable.Variable.{Variable}
use Rattle.session_screen.specs.Places.{text_of}

-- a format that is none shows nothing
abbrev pub pieces_or_none : Result (List PlainPiece) ℕ → List PlainPiece
pieces_or_none (Ok pieces) = pieces
pieces_or_none (Err place) = []

-- the format that a variable has
abbrev pub format_in : List ℕ → List PlainValue → Variable → List PlainPiece
format_in letters values v = pieces_or_none (format_of letters (text_of values v))
