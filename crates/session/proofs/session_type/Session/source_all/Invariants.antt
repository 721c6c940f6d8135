use Rattle.session.specs.Calls.{Reads, ReadsWhole}
use Rattle.session.proofs.session_type.Session.source_all.Given as goal

abbrev pub invariant-loop-turn : goal.invariant-loop-turn
invariant-loop-turn g l = record {
  reads : Reads l.fn.self l.self l.fn.trace l.trace
      ((goal.Disk-dyn g (l.fn.dev.disk.vtable, l.fn.dev.disk.value)).seen l.fn.dev.disk.value)
      ((goal.Disk-dyn g (l.dev.disk.vtable, l.dev.disk.value)).seen l.dev.disk.value);
  whole : ReadsWhole l.fn.self l.self l.fn.trace l.trace;
}
