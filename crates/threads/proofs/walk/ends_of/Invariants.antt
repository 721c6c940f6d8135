use Rattle.std.proofs.Common.{◌≡◌, []}
use Rattle.threads.specs.Message.{is_listed_before, plain_messages}
use Rattle.threads.specs.Walk.{AreFollowed}
use Rattle.threads.proofs.walk.ends_of.Given as goal

abbrev pub invariant-loop-start : goal.invariant-loop-start
invariant-loop-start l = record {
  done : AreFollowed (is_listed_before (plain_messages l.messages)) l.links l.marks.items l.start;
  left : l.way.items ≡ [];
}
