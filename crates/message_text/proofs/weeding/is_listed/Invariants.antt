use Rattle.std.proofs.Common.{◌≡◌, length, map}
use Rattle.message_text.specs.Weeding.{is_listed}
use Rattle.message_text.proofs.weeding.is_listed.Given as goal

-- an entry that is left stands for it, or none
abbrev pub invariant-loop-left : goal.invariant-loop-left
invariant-loop-left l =
    is_listed l.name (map (λ e. e.items) l.left) ≡ is_listed l.name (map (λ e. e.items) l.entries)

abbrev pub decreases-loop-left : goal.decreases-loop-left
decreases-loop-left l = length l.left
