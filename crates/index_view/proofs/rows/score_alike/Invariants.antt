use Rattle.std.proofs.Common.{◌≡◌, ◌<◌, ℕ}
use Rattle.index_view.specs.Tables.{row_at}
use Rattle.index_view.proofs.rows.score_alike.Given as goal

abbrev pub invariant-loop-place : goal.invariant-loop-place
invariant-loop-place l = (p : ℕ) → p < l.place
    → (row_at l.rows p).score ≡ (row_at l.scored p).score
