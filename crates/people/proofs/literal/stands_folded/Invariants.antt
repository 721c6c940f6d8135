use Rattle.std.proofs.Common.{◌≡◌, ◌<◌, ℕ, false}
use Rattle.std.specs.Str.{str_to_ascii_lowercase}
use Rattle.memchr.specs.Find.{occurs_at}
use Rattle.people.proofs.literal.stands_folded.Given as goal

-- the literal stands at no place so far
abbrev pub invariant-loop-at : goal.invariant-loop-at
invariant-loop-at l =
    (k : ℕ) → k < l.at → occurs_at (str_to_ascii_lowercase l.text)
    (str_to_ascii_lowercase l.literal) k ≡ false
