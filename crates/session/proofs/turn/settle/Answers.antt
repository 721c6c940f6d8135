use Rattle.std.proofs.Common.{◌∙◌, map, sym}
use Rattle.folder_letters.specs.Letters.{plain_letter}
use Rattle.session.specs.Core.{ground_of, plain_core}
use Rattle.session.proofs.CoreLemmas.{over_still}
use Rattle.session.proofs.GivenLemmas.{keeps_then}
use Rattle.session.proofs.TurnLemmas.{none_is, none_waits}
use Rattle.session.proofs.turn.settle.Goals as goal

pub returns-in_err-go_on-clause-keeps : goal.returns-in_err-go_on-clause-keeps
returns-in_err-go_on-clause-keeps g c =
    keeps_then c.loop-waiting.invariant.keeps c.go_on.ensures.keeps

pub loop-waiting-smaller : goal.loop-waiting-smaller
loop-waiting-smaller g c = c.in_ok-go_on.ensures.falls c.in-None.is
    c.is_waiting-waiting-in-loop-waiting.ensures.short

pub returns-in-Some-clause-keeps : goal.returns-in-Some-clause-keeps
returns-in-Some-clause-keeps g c =
    keeps_then c.loop-waiting.invariant.keeps c.go_on.ensures.keeps

pub returns-in-Some-clause-settled : goal.returns-in-Some-clause-settled
returns-in-Some-clause-settled g c = λ later keeps.
    (rw c.in-Some.is at c.in_ok-go_on.ensures.steps) later keeps
    ∙ c.loop-waiting.invariant.went later (keeps_then c.go_on.ensures.keeps keeps)

pub loop-waiting-preserved : goal.loop-waiting-preserved
loop-waiting-preserved g c = record {
  keeps = keeps_then c.loop-waiting.invariant.keeps c.go_on.ensures.keeps;
  over = c.in_ok-go_on.ensures.over;
  went = λ later keeps. (rw c.in-None.is at c.in_ok-go_on.ensures.steps) later keeps
      ∙ c.loop-waiting.invariant.went later (keeps_then c.go_on.ensures.keeps keeps);
  waits = c.is_waiting-waiting-in-loop-waiting.ensures.some;
  few = c.in_ok-go_on.ensures.few;
}

pub returns-clause-over : goal.returns-clause-over
returns-clause-over g c =
    over_still (map plain_letter c.args.archive.now.items) c.args.window c.loop-waiting.core
    c.take_wanted.new.self c.take_wanted.ensures.rest c.take_wanted.ensures.view
    c.loop-waiting.invariant.over

pub returns-clause-settled : goal.returns-clause-settled
returns-clause-settled g c = λ later keeps.
    none_waits (ground_of (map plain_letter c.args.archive.now.items) later c.args.window
    c.args.moment.0) (plain_core c.loop-waiting.core) (plain_core c.take_wanted.new.self)
    c.loop-waiting.queue
    (none_is _ (sym c.loop-waiting.invariant.waits ∙ c.loop-waiting-test.false))
    c.take_wanted.ensures.core
    ∙ c.loop-waiting.invariant.went later keeps
