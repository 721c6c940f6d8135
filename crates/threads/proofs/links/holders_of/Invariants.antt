use Rattle.std.proofs.Common.{◌≡◌, false}
use Rattle.threads.specs.Inner.{HoldOwn, HoldersBelow}
use Rattle.threads.proofs.links.holders_of.Given as goal

abbrev pub invariant-loop-place : goal.invariant-loop-place
invariant-loop-place l =
    HoldersBelow l.messages l.holders l.place
    × (l.shared ≡ false → HoldOwn l.messages l.holders l.place)
