-- For the code alone: what is searched for, as it is held.
use Rattle.std.specs.Prelude.{ℕ, Bool, true, List}
use Rattle.people.specs.Expr.{finds, is_literal, literal_found}
use Rattle.patterns_match.specs.declared.asked.Sought.{Sought}
use Rattle.patterns_match.specs.declared.asked.Sought.TheVariants.{Plain, Expression}

-- it is found in a text
abbrev pub sought_found : Sought → List ℕ → Bool
sought_found (Plain literal) text = literal_found literal.items text
sought_found (Expression expr) text = finds expr text

-- it is searched for as it stands
abbrev pub is_sought_literal : Sought → Bool
is_sought_literal (Plain literal) = true
is_sought_literal (Expression expr) = is_literal expr
