use Rattle.std.proofs.Common.{◌≡◌, ◌<◌, ℕ, false}
use Rattle.std.specs.Prelude.{slice_get}
use Rattle.patterns_match.specs.Satisfies.{is_place, passes}
use Rattle.patterns_match.proofs.tells.has_child.Given as goal

-- no message so far is a child
abbrev pub invariant-loop-other : goal.invariant-loop-other
invariant-loop-other g l =
    (k : ℕ) → k < l.other
    → passes (λ m. is_place l.place m.parent) (slice_get (g.T.Table.messages l.table) k) ≡ false
