-- What a verdict tells.
use Rattle.std.specs.Prelude.{◌==◌, ◌+◌, ◌^◌, ◌||◌, ℕ, Bool, not, nat_lt, List}
use Rattle.people.specs.Expr.{is_folded, is_pattern}
use Rattle.people.specs.declared.judged.Verdict.{Verdict}
use Rattle.people.specs.declared.judged.Verdict.TheVariants.{Good, Syntax, Size}

-- regex reads a pattern in the text, as it is searched for
abbrev pub is_readable : List ℕ → Bool
is_readable text = is_pattern (is_folded text) text

-- a count rose, or stands at its last value
abbrev pub has_risen : ℕ → ℕ → Bool
has_risen before after = nat_lt before after || after + 1 == 2 ^ 64

-- a verdict has its cause in the text, or in the counts of refusals round its first reading
abbrev pub is_caused : Verdict → List ℕ → ℕ → ℕ → Bool
is_caused Good text before after = is_readable text
is_caused Syntax text before after = not (is_readable text)
is_caused Size text before after = has_risen before after
