use Rattle.std.proofs.Common.{arith, refl}
use Rattle.std.proofs.Math.Facts.{to_z-of_z}
use Rattle.session.specs.Core.{plain_core}
use Rattle.session.proofs.CheckedLemmas.{checks_made, checks_none, due_at, has_on, looks_at}
use Rattle.session.proofs.CheckedLemmas.{ok_given, taken_index}
use Rattle.session.proofs.StepsLemmas.{put_plain}
use Rattle.session.proofs.session_type.Session.check.Goals as goal

pub look_again-event-requires-clause-index : goal.look_again-event-requires-clause-index
look_again-event-requires-clause-index g c =
    taken_index c.args.self.now c.take_key.new.self c.args.moment c.args.trace.now.notes
    (c.take_key.ensures.taken c.args.trace.now.notes)
    (due_at c.args.self.now.folder.refused c.args.self.now.folder.checked
    (plain_core c.args.self.now.core) _ c.args.moment _
    (to_z-of_z c.ranges.moment) c.if-due.ensures)

pub look_again-event-requires-clause-has : goal.look_again-event-requires-clause-has
look_again-event-requires-clause-has g c =
    has_on _ c.args.self.now c.take_key.new.self c.args.trace.now _ c.requires.known
    c.take_key.ensures.folder

pub returns-then-due-clause-checks : goal.returns-then-due-clause-checks
returns-then-due-clause-checks g c =
    checks_made _ c.args.moment c.args.self.now c.take_key.new.self c.args.trace.now _
    c.requires.idle c.requires.fits c.requires.known c.take_key.ensures.taken
    c.take_key.ensures.fits c.take_key.ensures.folder (c.take_key.ensures.stage c.requires.idle)
    c.look_again-event.new.self _ _ _ c.requires.moment
    (due_at c.args.self.now.folder.refused c.args.self.now.folder.checked
    (plain_core c.args.self.now.core) _ c.args.moment _
    (to_z-of_z c.ranges.moment) c.if-due.ensures)
    (looks_at (to_z-of_z c.ranges.moment) c.look_again-event.ensures)
    (put_plain _ _ _ _ (ok_given _ c.push.result
    (c.push.ensures.has_room (omega (arith, c.requires.room))) c.push.ensures.ok) refl) refl
    (let left = c.push.ensures.room (omega (arith, c.requires.room)) in
    omega (arith, left, c.requires.room))

pub returns-else-due-clause-checks : goal.returns-else-due-clause-checks
returns-else-due-clause-checks g c =
    checks_none _ c.args.moment c.args.self.now c.take_key.new.self c.args.trace.now _
    c.requires.idle c.requires.fits c.requires.known c.take_key.ensures.taken
    c.take_key.ensures.fits c.take_key.ensures.folder (c.take_key.ensures.stage c.requires.idle)
    c.requires.room
    (due_at c.args.self.now.folder.refused c.args.self.now.folder.checked
    (plain_core c.args.self.now.core) _ c.args.moment _
    (to_z-of_z c.ranges.moment) c.if-due.ensures)
