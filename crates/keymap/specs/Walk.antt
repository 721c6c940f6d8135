-- The keys that wait on a walk through a queue.
use Rattle.std.specs.Prelude.{◌≡◌, ◌≤◌, ◌++◌, List, drop, length}
use Rattle.keymap.specs.Queue.{PlainQueue}
use Rattle.keymap.specs.declared.key.Key.{Key}
use Rattle.keymap.specs.declared.walk.Walk.{Walk}

-- the keys that wait on a walk through a queue: those put ahead, and those of the queue that were
-- not taken
abbrev pub waiting_on : Walk → PlainQueue → List Key
waiting_on walk queue = walk.ahead.items ++ drop walk.taken queue.items

-- no more keys of the queue were taken than it has, and no replacement was counted
pub record IsWithin (old new : Walk) (queue : PlainQueue) : Type 0 where
  pub taken : new.taken ≤ length queue.items
  pub replaced : new.ahead.replaced ≡ old.ahead.replaced
