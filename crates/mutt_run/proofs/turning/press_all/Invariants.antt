use Rattle.std.proofs.Common.{◌≡◌, ◌≤◌, ◌+◌, Any, length, map}
use Rattle.folder_letters.specs.Letters.{plain_letter}
use Rattle.session_events.specs.Events.{plain_events}
use Rattle.session.specs.Fitting.{FitsRun}
use Rattle.session.specs.Given.{Given, IsGivenOn}
use Rattle.session.specs.Calls.{IsOpenIn, KeepsGiven}
use Rattle.session.specs.Runs.{State, plain_session}
use Rattle.session.specs.Steps.{StaysMet, StaysToldFrom}
use Rattle.session_state.specs.declared.stage.Stage.TheVariants.{Idle}
use Rattle.mutt_run.specs.Going.{GoesOut, Presses, Streams, streams}
use Rattle.mutt_run.proofs.turning.press_all.Given as goal

abbrev pub invariant-loop-turn : goal.invariant-loop-turn
invariant-loop-turn g l = record {
  goes : (given : Given)
      → IsGivenOn (map plain_letter l.trace.archive.items) l.trace.verdicts.kept given
      → (first : State) → (start : Streams)
      → GoesOut given first (plain_events l.initial.trace.events.items)
      (plain_session l.initial.session l.initial.trace.notes) start
      (streams (g.O.Sink.written l.initial.out) (g.E.Sink.written l.initial.errs)
      (g.E.Sink.faults l.initial.errs))
      → GoesOut given first (plain_events l.trace.events.items)
      (plain_session l.session l.trace.notes) start
      (streams (g.O.Sink.written l.out) (g.E.Sink.written l.errs) (g.E.Sink.faults l.errs));
  presses : Presses (plain_events l.initial.trace.events.items) (plain_events l.trace.events.items)
      l.reader (g.K.Source.left l.initial.keys) (g.K.Source.left l.keys)
      (g.C.Clock.moments l.initial.clock) (g.C.Clock.moments l.clock);
  count : l._turn + length l.reader.pending ≤ l.reader.taken;
  idle : l.session.stage ≡ Idle;
  fits : FitsRun (map plain_letter l.trace.archive.items) l.session;
  told : (given : Given)
      → IsGivenOn (map plain_letter l.trace.archive.items) l.trace.verdicts.kept given
      → (first : State) → (start : Streams)
      → GoesOut given first (plain_events l.initial.trace.events.items)
      (plain_session l.initial.session l.initial.trace.notes) start
      (streams (g.O.Sink.written l.initial.out) (g.E.Sink.written l.initial.errs)
      (g.E.Sink.faults l.initial.errs))
      → StaysToldFrom (λ kind. Any (λ d.
      (goal.Driver-dyn g (d.vtable, d.value)).sort d.value ≡ kind) l.drivers.list.items)
      given first (plain_events l.initial.trace.events.items) (plain_events l.trace.events.items)
      ((goal.Disk-dyn g (l.initial.dev.disk.vtable, l.initial.dev.disk.value)).seen
      l.initial.dev.disk.value)
      ((goal.Disk-dyn g (l.dev.disk.vtable, l.dev.disk.value)).seen l.dev.disk.value);
  known : IsOpenIn (λ kind. Any (λ d.
      (goal.Driver-dyn g (d.vtable, d.value)).sort d.value ≡ kind) l.drivers.list.items)
      l.session l.trace
      ((goal.Disk-dyn g (l.dev.disk.vtable, l.dev.disk.value)).seen l.dev.disk.value);
  met : StaysMet (map plain_letter l.initial.trace.archive.items)
      (plain_events l.initial.trace.events.items) (map plain_letter l.trace.archive.items)
      (plain_events l.trace.events.items);
  kept : KeepsGiven l.initial.trace l.trace;
  keys : g.K.Source.faults l.initial.keys ≤ g.K.Source.faults l.keys;
  out : g.O.Sink.faults l.initial.out ≤ g.O.Sink.faults l.out;
  errs : g.E.Sink.faults l.initial.errs ≤ g.E.Sink.faults l.errs;
}
