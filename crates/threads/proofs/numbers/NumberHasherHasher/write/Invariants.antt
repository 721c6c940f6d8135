use Rattle.std.proofs.Common.{◌≡◌, fold, take}
use Rattle.threads.specs.Numbers.{with_byte}
use Rattle.threads.proofs.numbers.NumberHasherHasher.write.Given as goal

abbrev pub invariant-loop-b : goal.invariant-loop-b
invariant-loop-b l = l.self.0 ≡ fold with_byte l.initial.self.0 (take l.b-index l.bytes)
