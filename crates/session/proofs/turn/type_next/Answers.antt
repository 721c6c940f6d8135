use Rattle.std.proofs.Common.{map}
use Rattle.folder_letters.specs.Letters.{plain_letter}
use Rattle.session.specs.Core.{ground_of, plain_core}
use Rattle.session.proofs.CoreLemmas.{over_still}
use Rattle.session.proofs.TurnLemmas.{steps_typed}
use Rattle.session.proofs.turn.type_next.Goals as goal

pub returns-in_ok-type_key-in-Some-clause-over : goal.returns-in_ok-type_key-in-Some-clause-over
returns-in_ok-type_key-in-Some-clause-over g c =
    over_still (map plain_letter c.args.archive.now.items) c.args.window c.type_key.new.self
    c.stop_wanted.new.core c.stop_wanted.ensures.rest c.stop_wanted.ensures.view
    c.in_ok-type_key-in-Some.ensures.over

pub returns-in_ok-type_key-in-Some-clause-steps : goal.returns-in_ok-type_key-in-Some-clause-steps
returns-in_ok-type_key-in-Some-clause-steps g c = λ later keeps.
    steps_typed (ground_of (map plain_letter c.args.archive.now.items) later c.args.window
    c.args.moment.0) (plain_core c.args.core.now) (plain_core c.type_key.new.self)
    c.args.queue.now c.take_first.new.self c.in-Some.key c.requires.put c.requires.prompt
    c.in-Some.ensures.items c.in-Some.ensures.replaced
    (c.in_ok-type_key-in-Some.ensures.core later keeps) c.stop_wanted.result
    (plain_core c.stop_wanted.new.core) c.stop_wanted.ensures.stops
