use Rattle.std.proofs.Common.{◌≡◌, Any}
use Rattle.session.specs.Calls.{Works, WorksWhole}
use Rattle.session.specs.Steps.{IsSettled}
use Rattle.session_state.specs.Frames.{plain_frames}
use Rattle.session.proofs.session_type.Session.work_all.Given as goal

abbrev pub invariant-loop-turn : goal.invariant-loop-turn
invariant-loop-turn g l = record {
  works : Works (λ kind. Any (λ d.
      (goal.Driver-dyn g (d.vtable, d.value)).sort d.value ≡ kind) l.fn.drivers.list.items)
      l.fn.self l.self l.fn.trace l.trace
      ((goal.Disk-dyn g (l.fn.dev.disk.vtable, l.fn.dev.disk.value)).seen l.fn.dev.disk.value)
      ((goal.Disk-dyn g (l.dev.disk.vtable, l.dev.disk.value)).seen l.dev.disk.value);
  whole : WorksWhole l.fn.self l.self l.fn.trace l.trace;
  settled : IsSettled l.fn.self.stage (plain_frames l.fn.self.core.frames)
      → IsSettled l.self.stage (plain_frames l.self.core.frames);
}
