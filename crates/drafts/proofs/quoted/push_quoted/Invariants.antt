use Rattle.std.proofs.Common.{◌≡◌, ◌++◌, length, map}
use Rattle.mail_base.specs.Series.{plain_texts}
use Rattle.drafts.specs.Reply.{quoted}
use Rattle.drafts.specs.Texts.{texts}
use Rattle.drafts.proofs.quoted.push_quoted.Given as goal

abbrev pub invariant-loop-left : goal.invariant-loop-left
invariant-loop-left l =
    plain_texts l.body ++ map (quoted l.indent) (texts l.left)
    ≡ plain_texts l.fn.body ++ map (quoted l.indent) (texts l.lines)

abbrev pub decreases-loop-left : goal.decreases-loop-left
decreases-loop-left l = length l.left
