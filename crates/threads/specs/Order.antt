-- Messages in the order of threads: each root, and behind it all that follow it.
use Rattle.std.specs.Prelude.{◌≡◌, ◌^◌, ◌<◌, ℕ, zero, suc, Bool, false, List, [], ◌∷◌, length}
use Rattle.std.specs.Prelude.{map, is_none, nat_eq, slice_get, Option, Some}
use Rattle.std.specs.Cmp.{IsStrictWeakOrder}
use Rattle.std.specs.Fn.{FnReturns, Shared}
use Rattle.std.specs.List.{filter, flat_map, range_with_len}
use Rattle.std.specs.Option.{option_map_or}
use Rattle.mail_base.specs.Ordered.{in_order_by}
use Rattle.mail_base.specs.declared.kind.Id.{Id}
use Rattle.threads.specs.Links.{target}
use Rattle.threads.specs.Message.{PlainMessage, at}
use Rattle.threads.specs.Subjects.{parents}
use Rattle.threads.specs.Threads.{PlainThreads, parent}
use Rattle.threads.specs.declared.options.Parent.{Parent}
use Rattle.threads.specs.declared.step.Step.{Step}

-- a place has no parent
abbrev pub is_root : List (Option Step) → ℕ → Bool
is_root parents place = is_none (target parents place)

-- a place has this parent
abbrev pub is_child : List (Option Step) → ℕ → ℕ → Bool
is_child parents above place = option_map_or (nat_eq above) (target parents place) false

-- the places that pass a test, in order
abbrev pub in_order : (ℕ → ℕ → Bool) → List (Option Step) → (ℕ → Bool) → List ℕ
in_order before parents passes =
    in_order_by before (filter passes (range_with_len 0 (length parents)))

-- the roots, in order
abbrev pub roots : (ℕ → ℕ → Bool) → List (Option Step) → List ℕ
roots before parents = in_order before parents (is_root parents)

-- the children of a place, in order
abbrev pub children : (ℕ → ℕ → Bool) → List (Option Step) → ℕ → List ℕ
children before parents above = in_order before parents (is_child parents above)

-- a place and the trees of its children, so many steps down
abbrev pub tree_of : (ℕ → List ℕ) → ℕ → ℕ → List ℕ
tree_of children_of zero place = place ∷ []
tree_of children_of (suc n) place = place ∷ flat_map (tree_of children_of n) (children_of place)

-- the trees of all roots; no way down has more steps than there are places
abbrev pub thread_order : (ℕ → ℕ → Bool) → List (Option Step) → List ℕ
thread_order before parents =
    flat_map (tree_of (children before parents) (length parents)) (roots before parents)

-- the id of the message at a place
abbrev pub id_at : List PlainMessage → ℕ → Id
id_at messages place = (at messages place).id

-- the id at one place comes before that at another
abbrev pub by_id : (Id → Id → Bool) → List PlainMessage → ℕ → ℕ → Bool
by_id before messages a b = before (id_at messages a) (id_at messages b)

-- the ids of all messages, in the order of threads
abbrev pub order_from : (Id → Id → Bool) → PlainThreads → List Id
order_from before threads = map (id_at threads.messages)
    (thread_order (by_id before threads.messages) (parents threads.options threads.messages))

-- an order in which one of any two ids comes first
pub record IsStrictOrder (before : Id → Id → Bool) : Type 0 where
  pub order : IsStrictWeakOrder before
  pub total : (a b : Id) → before a b ≡ false → before b a ≡ false → a ≡ b

-- a test answers as this one at all ids
abbrev pub Answers : {B : Type 0} → Shared B (Id × (Id × Unit {0})) Bool → B
    → (Id → Id → Bool) → Type 0
Answers g test before = (a b : Id) (r : Bool) → a.0 < 2 ^ 32 → b.0 < 2 ^ 32
    → FnReturns g test (a, (b, tt)) r → r ≡ before a b

-- the parent of each message stands before it in a list of ids
abbrev pub ParentsFirst : PlainThreads → List Id → Type 0
ParentsFirst threads ids = (i : ℕ) (id : Id) (above : Parent) → slice_get ids i ≡ Some id
    → parent threads id ≡ Some above → (j : ℕ) × (j < i) × (slice_get ids j ≡ Some above.id)
