-- For the code alone: what is worked out while a listing is put in order.
use Rattle.std.specs.Prelude.{◌≡◌, ◌<◌, ◌≤◌, ℕ, Bool, true, false, List, length, map}
use Rattle.std.specs.Prelude.{Option, Some, None, is_none, is_some, nat_eq, position, unwrap_or}
use Rattle.std.specs.Prelude.{slice_index_or, if◌then◌else◌, ◌⊎◌}
use Rattle.std.specs.List.{All}
use Rattle.std.specs.Option.{option_and_then, option_map_or, option_or}
use Rattle.std.specs.Ordering.{bool_cmp, is_lt, nat_cmp, ordering_then}
use Rattle.std.specs.declared.cmp.Ordering.{Ordering}
use Rattle.mail_base.specs.declared.kind.Id.{Id}
use Rattle.threads.specs.Forest.{Ends}
use Rattle.threads.specs.Threads.{PlainThreads, parent}
use Rattle.index_order.specs.Keys.{PlacedKeys, PlainKeys, at, key_cmp}
use Rattle.index_order.specs.Order.{greatest, key_place, leads_to, thread_cmp, turned}
use Rattle.index_order.specs.declared.keys.Placed.{Placed}
use Rattle.index_order.specs.declared.options.Sort.{Sort}
use Rattle.index_order.specs.declared.options.SortOptions.{SortOptions}

-- a message at its place
abbrev pub plain_placed : Placed → PlacedKeys
plain_placed p = record { place = p.place; keys = p.keys.now }

-- the places of these
abbrev pub placed_places : List Placed → List ℕ
placed_places placed = map (λ p. p.place) placed

-- each message stands at its place of the listing
abbrev pub ArePlaced : List PlainKeys → List Placed → Type 0
ArePlaced keys placed =
    All (λ p. (p.place < length keys) × (plain_placed p ≡ at keys p.place)) placed

-- what a list of places has at a place, if anything
abbrev pub link_at : List (Option ℕ) → ℕ → Option ℕ
link_at links place = slice_index_or links place None

-- links among the places of a list, without a cycle
pub record IsForestOf (above : List (Option ℕ)) : Type 0 where
  pub within : (p q : ℕ) → link_at above p ≡ Some q → q < length above
  pub ends : (p : ℕ) → p < length above
      → (d : ℕ) × (d ≤ length above) × ((r : ℕ) × Ends (link_at above) d p r)

-- a place leads to this one
abbrev pub is_below : List (Option ℕ) → ℕ → ℕ → Bool
is_below above top place = leads_to (link_at above) (length above) top place

-- a place, where it has no value yet
abbrev pub without_value : List (Option ℕ) → Option ℕ → Option ℕ
without_value values None = None
without_value values (Some p) = if is_some (link_at values p) then None else Some p

-- where a place has a value, the one above it has one too, or is this one
abbrev pub AreClosed : List (Option ℕ) → List (Option ℕ) → Option ℕ → Type 0
AreClosed above values next = (p q : ℕ) → is_some (link_at values p) ≡ true
    → link_at above p ≡ Some q → (is_some (link_at values q) ≡ true) ⊎ (next ≡ Some q)

-- the value of a place, or else a new one where it is above another place or is that itself
abbrev pub value_with : List (Option ℕ) → List (Option ℕ) → ℕ → Option ℕ → ℕ → Option ℕ
value_with above values value place top = option_or (link_at values top)
    (if option_map_or (is_below above top) place false then Some value else None)

-- values of the places of a list
pub record AreValues (above values : List (Option ℕ)) : Type 0 where
  pub long : length values ≡ length above
  pub closed : AreClosed above values None

-- every place without a value that is this one, or is above it, has it as its value now
pub record Fills (above old new : List (Option ℕ)) (place : ℕ) : Type 0 where
  pub values : AreValues above new
  pub each : (top : ℕ) → top < length above
      → link_at new top ≡ value_with above old place (Some place) top

-- the same while places from the next one on are to be filled
pub record IsFilling (above old new : List (Option ℕ)) (place : ℕ) (next : Option ℕ) : Type 0 where
  pub long : length new ≡ length above
  pub within : (p : ℕ) → next ≡ Some p → p < length above
  pub closed : AreClosed above new next
  pub each : (top : ℕ) → top < length above
      → value_with above new place next top ≡ value_with above old place (Some place) top

-- the greatest of each tree
pub record AreGreatest (sort : Sort) (keys : List PlainKeys) (above values : List (Option ℕ))
    : Type 0 where
  pub long : length values ≡ length above
  pub each : (top : ℕ) → top < length above
      → link_at values top ≡ greatest sort keys (link_at above) top

-- the message whose key is that of a thread, where it is another than the first
pub record AreKeyPlaces (options : SortOptions) (keys : List PlainKeys)
    (above values : List (Option ℕ)) : Type 0 where
  pub long : length values ≡ length above
  pub each : (top : ℕ) → top < length above
      → unwrap_or (link_at values top) top ≡ key_place options keys (link_at above) top

-- how two places compare: roots first, by one order, and then all others, by another
abbrev pub standing_cmp : SortOptions → List PlainKeys → (ℕ → Option ℕ) → ℕ → ℕ → Ordering
standing_cmp options keys parent a b = ordering_then
    (bool_cmp (is_some (parent a)) (is_some (parent b)))
    (if is_some (parent a) then thread_cmp false options keys parent a b
    else thread_cmp options.reverse options keys parent a b)

-- the place of a number
abbrev pub place_in : List ℕ → Id → Option ℕ
place_in numbers id = position (nat_eq id.0) numbers

-- where the parent of a message stands
abbrev pub parent_place : List ℕ → PlainThreads → Id → Option ℕ
parent_place numbers threads id =
    option_and_then (λ p. place_in numbers p.id) (parent threads id)

-- the numbers of the ids
abbrev pub numbers : List PlainKeys → List ℕ
numbers keys = map (λ k. k.id.0) keys

-- how two ids compare: those of the listing first, by their places
abbrev pub id_cmp : (ℕ → ℕ → Ordering) → (Id → Option ℕ) → Id → Id → Ordering
id_cmp cmp place a b = ordering_then (bool_cmp (is_none (place a)) (is_none (place b)))
    (if is_none (place a) then nat_cmp a.0 b.0
    else cmp (unwrap_or (place a) 0) (unwrap_or (place b) 0))

-- a listing, how it is sorted, and the places of parents
pub record PlainStanding : Type 0 where
  pub options : SortOptions
  pub keys : List PlainKeys
  pub above : List (Option ℕ)

-- the lists of a standing are those of its listing
pub record AreStanding (options : SortOptions) (keys : List PlainKeys)
    (above values : List (Option ℕ)) (table : List ℕ) : Type 0 where
  pub long : length above ≡ length keys
  pub key_places : AreKeyPlaces options keys above values
  pub numbered : table ≡ numbers keys

-- how the keys of two threads of it compare
abbrev pub thread_keys_cmp : PlainStanding → ℕ → ℕ → Ordering
thread_keys_cmp s a b = turned s.options.aux_reverse (key_cmp s.options.aux
    (at s.keys (key_place s.options s.keys (link_at s.above) a))
    (at s.keys (key_place s.options s.keys (link_at s.above) b)))

-- how two places of it compare
abbrev pub stands_cmp : PlainStanding → ℕ → ℕ → Ordering
stands_cmp s a b = standing_cmp s.options s.keys (link_at s.above) a b

-- one id comes before another
abbrev pub comes_before : PlainStanding → Id → Id → Bool
comes_before s a b = is_lt (id_cmp (stands_cmp s) (place_in (numbers s.keys)) a b)
