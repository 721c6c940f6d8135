use Rattle.std.proofs.Common.{◌≡◌, ◌++◌, length}
use Rattle.session_state.specs.Rules.{put_all}
use Rattle.session_state.proofs.rules.Rules.put_into.Given as goal

abbrev pub invariant-loop-keys : goal.invariant-loop-keys
invariant-loop-keys l = record {
  keys : put_all l.self.put ++ l.queue.items ≡ put_all l.initial.self.put ++ l.initial.queue.items;
  same : l.self ≡ record l.initial.self { put = l.self.put };
  replaced : l.queue.replaced ≡ l.initial.queue.replaced;
}

abbrev pub decreases-loop-keys : goal.decreases-loop-keys
decreases-loop-keys l = length l.self.put
