-- Why a text is no pattern: its form, its expressions, or memory.
use Rattle.std.specs.Prelude.{Bool, true, false}
use Rattle.people.specs.declared.error.ExprError.{ExprError}
use Rattle.people.specs.declared.error.ExprError.TheVariants as expr
use Rattle.patterns.specs.Faults.{Fault, Empty, UnknownLetter, Unbalanced, BadRange, BadDate}
use Rattle.patterns.specs.Faults.{TooDeep}
use Rattle.patterns.specs.declared.pattern_error.PatternError.{PatternError}
use Rattle.patterns.specs.declared.pattern_error.PatternError.TheVariants as error
use Rattle.patterns.specs.declared.read_error.ReadError.{ReadError}
use Rattle.patterns.specs.declared.read_error.ReadError.TheVariants as read

-- a fault of the form as an error
abbrev pub error_of : Fault → PatternError
error_of Empty = error.Empty
error_of (UnknownLetter place) = error.UnknownLetter place
error_of (Unbalanced place) = error.Unbalanced place
error_of (BadRange place) = error.BadRange place
error_of (BadDate place) = error.BadDate place
error_of TooDeep = error.TooDeep

-- the form of the text is at fault
abbrev pub is_fault : PatternError → Bool
is_fault error.RegexSyntax = false
is_fault error.RegexSize = false
is_fault error.NoMemory = false
is_fault _ = true

-- For the code alone.

-- why a form is not read, as an error
abbrev pub of_read_error : ReadError → PatternError
of_read_error (read.Fault fault) = error_of fault
of_read_error read.NoMemory = error.NoMemory

-- why an expression is not read, as an error
abbrev pub of_expr_error : ExprError → PatternError
of_expr_error expr.Syntax = error.RegexSyntax
of_expr_error expr.Size = error.RegexSize
of_expr_error expr.NoMemory = error.NoMemory
