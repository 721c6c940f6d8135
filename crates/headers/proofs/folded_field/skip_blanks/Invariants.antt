use Rattle.std.proofs.Common.{◌≡◌, ◌++◌, length}
use Rattle.mail_base.specs.Blanks.{without_blanks}
use Rattle.headers.specs.FoldedField.{continued}
use Rattle.headers.proofs.folded_field.skip_blanks.Given as goal

abbrev pub invariant-loop-first : goal.invariant-loop-first
invariant-loop-first l = record {
  text : without_blanks (l.first ++ continued l.left)
      ≡ without_blanks (l.fn.text ++ continued l.fn.lines);
  front : without_blanks l.first ≡ l.first;
}

abbrev pub decreases-loop-first : goal.decreases-loop-first
decreases-loop-first l = length l.left
