use Rattle.std.proofs.Common.{map}
use Rattle.std.proofs.lemmas.Result.{IfOk-weaker, on_ok_weaker}
use Rattle.folder_letters.specs.Letters.{plain_letter}
use Rattle.session.specs.Core.{ground_of}
use Rattle.session.proofs.GivenLemmas.{keeps_same}
use Rattle.session.proofs.turn.go_on.Goals as goal

pub returns-then-puts-gt0-clause-keeps : goal.returns-then-puts-gt0-clause-keeps
returns-then-puts-gt0-clause-keeps g c = keeps_same _

pub returns-then-puts-gt0-clause-over : goal.returns-then-puts-gt0-clause-over
returns-then-puts-gt0-clause-over g c = on_ok_weaker c.put_next.result
    (λ over. over (map plain_letter c.args.archive.now.items) c.args.window c.requires.over)
    c.put_next.ensures.over

pub returns-then-puts-gt0-clause-steps : goal.returns-then-puts-gt0-clause-steps
returns-then-puts-gt0-clause-steps g c =
    IfOk-weaker c.put_next.result _ _ (λ stopped steps later keeps. steps
    (ground_of (map plain_letter c.args.archive.now.items) later c.args.window c.args.moment.0))
    c.put_next.ensures.steps

pub returns-then-is_some-clause-falls : goal.returns-then-is_some-clause-falls
returns-then-is_some-clause-falls g c =
    IfOk-weaker c.type_next.result _ _ (λ stopped falls none short. falls)
    c.type_next.ensures.falls
