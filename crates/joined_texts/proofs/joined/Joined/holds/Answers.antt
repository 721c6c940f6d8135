use Rattle.std.proofs.Common.{◌∙◌, sym}
use Rattle.joined_texts.specs.Joined.{joined}
use Rattle.joined_texts.proofs.JoinedLemmas.{found_front, found_nowhere}
use Rattle.joined_texts.proofs.joined.Joined.holds.Goals as goal

pub returns-then-begins : goal.returns-then-begins
returns-then-begins c =
    found_front c.of-case.result (joined c.loop-text.text) (joined c.args.self) c.args.literal.now
    c.of-case.ensures c.loop-text.invariant (sym c.begins.ensures ∙ c.if-begins.true)

pub returns-in_default : goal.returns-in_default
returns-in_default c =
    found_nowhere c.of-case.result (joined c.loop-text.text) (joined c.args.self)
    c.args.literal.now c.of-case.ensures c.loop-text.invariant
    (sym c.begins.ensures ∙ c.if-begins.false) c.in_default.ensures.none
