use Rattle.std.proofs.Common.{◌≡◌, ◌++◌, length, map}
use Rattle.std.specs.Prelude.{filter}
use Rattle.headers.specs.Field.{plain_field}
use Rattle.message_text.specs.Weeding.{is_kept, plain_weeding}
use Rattle.message_text.proofs.weeding.Weeding.kept.Given as goal

-- the fields kept so far, and those that are kept of the fields that are left
abbrev pub invariant-loop-left : goal.invariant-loop-left
invariant-loop-left l =
    map (λ f. plain_field f.now) l.kept.items
    ++ filter (is_kept (plain_weeding l.self)) (map plain_field l.left)
    ≡ filter (is_kept (plain_weeding l.self)) (map plain_field l.fields)

abbrev pub decreases-loop-left : goal.decreases-loop-left
decreases-loop-left l = length l.left
