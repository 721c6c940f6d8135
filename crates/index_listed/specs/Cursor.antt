-- Where the cursor goes when what is seen has changed.
use Rattle.std.specs.Prelude.{◌≡◌, ◌-◌, ℕ, Bool, true, false, List, [], Option, Some, None, find}
use Rattle.std.specs.Prelude.{is_some, length, min}
use Rattle.std.specs.Prelude.{nat_eq, option_map, slice_get, unwrap_or, if◌then◌else◌}
use Rattle.std.specs.Option.{option_map_or, option_or}
use Rattle.mail_base.specs.declared.kind.Id.{Id}
use Rattle.index_listed.specs.Entries.{at}
use Rattle.index_listed.specs.Places.{place_in}
use Rattle.index_listed.specs.Seen.{PlainSight}
use Rattle.index_listed.specs.declared.entry.Entry.{Entry}

-- an id is among those that are seen
abbrev pub is_seen : List Id → Id → Bool
is_seen visible id = is_some (place_in visible id)

-- the id at a place of what is seen, or the last one
abbrev pub at_or_last : List Id → ℕ → Option Id
at_or_last visible place = slice_get visible (min place (length visible - 1))

-- the id at the old place of one that is not seen any more
abbrev pub beside : List Id → List Id → Id → Option Id
beside old new id = at_or_last new (unwrap_or (place_in old id) 0)

-- Where the cursor goes: it stays on its message while that is seen, or else goes to the one at its
-- old place, or to the last one; where there was none it goes to the first.
abbrev pub moved : List Id → List Id → Option Id → Option Id
moved old new None = slice_get new 0
moved old new (Some id) = if is_seen new id then Some id else beside old new id

-- a cursor stands on a message that is seen, and nowhere where none is
abbrev pub Stands : List Id → Option Id → Type 0
Stands visible None = visible ≡ []
Stands visible (Some id) = is_seen visible id ≡ true

-- where the root of the message with an id stands in the order
abbrev pub root_in : List Id → List Entry → Id → Option ℕ
root_in order entries id = option_map (λ p. (at entries p).root) (place_in order id)

-- both messages are in the same thread
abbrev pub same_thread : PlainSight → Id → Id → Bool
same_thread s a b = option_map_or
    (λ one. option_map_or (nat_eq one) (root_in s.order s.entries b) false)
    (root_in s.order s.entries a) false

-- Where the cursor goes when a thread was shut: to the message of its thread that is seen, where
-- the shut thread hides its own.
abbrev pub moved_by_shutting : PlainSight → List Id → List Id → Option Id → Option Id
moved_by_shutting s old new None = slice_get new 0
moved_by_shutting s old new (Some id) = if is_seen new id then Some id
    else option_or (find (same_thread s id) new) (beside old new id)
