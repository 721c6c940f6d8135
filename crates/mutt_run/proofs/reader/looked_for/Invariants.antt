use Rattle.std.proofs.Common.{◌≡◌, length}
use Rattle.session_events.specs.Events.{plain_events}
use Rattle.mutt_run.specs.Notes.{folder_in}
use Rattle.mutt_run.proofs.reader.looked_for.Given as goal

-- no folder was looked for before these
abbrev pub invariant-loop-event : goal.invariant-loop-event
invariant-loop-event g l =
    folder_in (plain_events l.left) ≡ folder_in (plain_events l.trace.events.items)

abbrev pub decreases-loop-event : goal.decreases-loop-event
decreases-loop-event g l = length l.left
