use Rattle.std.proofs.Common.{map}
use Rattle.folder_letters.specs.Letters.{plain_letter}
use Rattle.session.specs.Core.{ground_of, plain_core}
use Rattle.session.proofs.CoreLemmas.{over_still}
use Rattle.session.proofs.TurnLemmas.{falls, none_stopped, steps_behind, still_few}
use Rattle.session.proofs.turn.press_next.Goals as goal

pub returns-clause-over : goal.returns-clause-over
returns-clause-over g c =
    over_still (map plain_letter c.args.archive.now.items) c.args.window c.act.new.self
    c.stop_behind.new.core c.stop_behind.ensures.rest c.stop_behind.ensures.view
    c.in_ok-act.ensures.over

pub returns-clause-steps : goal.returns-clause-steps
returns-clause-steps g c = λ later keeps.
    steps_behind (ground_of (map plain_letter c.args.archive.now.items) later c.args.window
    c.args.moment.0) (plain_core c.args.core.now) (plain_core c.act.new.self) c.press.new.self
    c.args.queue.now c.press.new.queue c.menu-shown.result c.in_ok-press.press
    c.menu-shown.ensures c.requires.few c.requires.put c.requires.prompt c.in_ok-press.ensures
    (c.in_ok-act.ensures.core later keeps) c.stop_behind.result
    (plain_core c.stop_behind.new.core) c.stop_behind.ensures.stops

pub returns-clause-few : goal.returns-clause-few
returns-clause-few g c =
    still_few (plain_core c.act.new.self).desk.wanted c.args.core.now.rules c.press.new.self
    c.args.queue.now c.press.new.queue c.menu-shown.result c.in_ok-press.press c.requires.few
    c.in_ok-press.ensures

pub returns-clause-falls : goal.returns-clause-falls
returns-clause-falls g c = λ none short.
    falls (plain_core c.act.new.self).desk.wanted c.args.core.now.rules c.press.new.self
    c.args.queue.now c.press.new.queue c.menu-shown.result c.in_ok-press.press c.requires.few
    c.in_ok-press.ensures
    (none_stopped _ c.stop_behind.result _ _ c.stop_behind.ensures.stops none) short
