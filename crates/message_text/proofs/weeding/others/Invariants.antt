use Rattle.std.proofs.Common.{◌≡◌, ◌++◌, length, map, not}
use Rattle.std.specs.Prelude.{filter}
use Rattle.headers.specs.Field.{plain_field}
use Rattle.headers.specs.Values.{is_named}
use Rattle.message_text.proofs.weeding.others.Given as goal

-- the fields so far, and those of other names among the fields that are left
abbrev pub invariant-loop-left : goal.invariant-loop-left
invariant-loop-left l =
    map (λ f. plain_field f.now) l.others.items
    ++ filter (λ f. not (is_named l.name f)) (map (λ f. plain_field f.now) l.left)
    ≡ filter (λ f. not (is_named l.name f)) (map (λ f. plain_field f.now) l.fields)

abbrev pub decreases-loop-left : goal.decreases-loop-left
decreases-loop-left l = length l.left
