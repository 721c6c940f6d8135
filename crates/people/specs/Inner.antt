-- For the code alone: what an expression keeps.
use Rattle.std.specs.Prelude.{◌≡◌, true, false, MatchOption}
use Rattle.people.specs.Expr.{IsBuilt, is_folded, is_literal}
use Rattle.people.specs.declared.expr.Expr.TheInside.{Inside}

-- a literal has no pattern, and anything else has the one that regex reads in it
abbrev pub IsReadable : Inside → Type 0
IsReadable e =
    let text = e.text.items in
    MatchOption e.pattern (is_literal text ≡ true)
    (λ regex. (is_literal text ≡ false) × IsBuilt (is_folded text) text regex)
