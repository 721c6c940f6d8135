-- The order of the index: by the keys of a sort, or in threads.
use Rattle.std.specs.Prelude.{◌≡◌, ◌==◌, ◌||◌, ℕ, zero, suc, Bool, true, false, List, [], ◌∷◌}
use Rattle.std.specs.Prelude.{length, map, nat_eq, Option, Some, None, unwrap_or}
use Rattle.std.specs.Prelude.{if◌then◌else◌}
use Rattle.std.specs.List.{IsDistinct, flat_map, range_with_len}
use Rattle.std.specs.Option.{option_map_or, option_or}
use Rattle.std.specs.Ordering.{is_lt, nat_cmp, ordering_reverse, ordering_then}
use Rattle.std.specs.declared.cmp.Ordering.{Ordering}
use Rattle.mail_base.specs.declared.kind.Id.{Id}
use Rattle.threads.specs.Forest.{IsForest}
use Rattle.threads.specs.Links.{target}
use Rattle.threads.specs.Order.{children, roots, tree_of}
use Rattle.mail_base.specs.Ordered.{in_order_by}
use Rattle.threads.specs.Subjects.{parents}
use Rattle.threads.specs.Threads.{PlainThreads}
use Rattle.threads.specs.declared.step.Step.{Step}
use Rattle.index_order.specs.Keys.{PlacedKeys, PlainKeys, at, key_cmp}
use Rattle.index_order.specs.declared.options.Sort.{Sort}
use Rattle.index_order.specs.declared.options.Sort.TheVariants.{Threads}
use Rattle.index_order.specs.declared.options.SortOptions.{SortOptions}

-- the order of different keys is turned round, or not
abbrev pub turned : Bool → Ordering → Ordering
turned reverse o = if reverse then ordering_reverse o else o

-- by the key of a sort, in turned order or not, and then by the place
abbrev pub sort_cmp : Bool → Sort → PlacedKeys → PlacedKeys → Ordering
sort_cmp reverse sort a b =
    ordering_then (turned reverse (key_cmp sort a b)) (nat_cmp a.place b.place)

-- the message at one place stands before that at another, by a sort
abbrev pub is_before : Bool → Sort → List PlainKeys → ℕ → ℕ → Bool
is_before reverse sort keys a b = is_lt (sort_cmp reverse sort (at keys a) (at keys b))

-- the places of a listing in the order of a sort
abbrev pub sorted : Bool → Sort → List PlainKeys → List ℕ
sorted reverse sort keys =
    in_order_by (is_before reverse sort keys) (range_with_len 0 (length keys))

-- at most so many links lead from a place to this one
abbrev pub leads_to : (ℕ → Option ℕ) → ℕ → ℕ → ℕ → Bool
leads_to parent zero top place = place == top
leads_to parent (suc n) top place =
    (place == top) || option_map_or (leads_to parent n top) (parent place) false

-- the last of some places that passes a test
abbrev pub last_where : (ℕ → Bool) → List ℕ → Option ℕ
last_where passes [] = None
last_where passes (p ∷ places) =
    option_or (last_where passes places) (if passes p then Some p else None)

-- of a message and its descendants the one with the greatest key, of equal ones the last listed; no
-- way up has more steps than there are messages
abbrev pub greatest : Sort → List PlainKeys → (ℕ → Option ℕ) → ℕ → Option ℕ
greatest sort keys parent top =
    last_where (leads_to parent (length keys) top) (sorted false sort keys)

-- the message whose key is that of a thread
abbrev pub key_place : SortOptions → List PlainKeys → (ℕ → Option ℕ) → ℕ → ℕ
key_place options keys parent top =
    if options.aux_last then unwrap_or (greatest options.aux keys parent top) top else top

-- by the keys of two threads, in turned order or not, and then by the places of their first
abbrev pub thread_cmp : Bool → SortOptions → List PlainKeys → (ℕ → Option ℕ) → ℕ → ℕ → Ordering
thread_cmp reverse options keys parent a b = ordering_then
    (turned reverse (turned options.aux_reverse (key_cmp options.aux
    (at keys (key_place options keys parent a)) (at keys (key_place options keys parent b)))))
    (nat_cmp a b)

-- the same among siblings or roots of threads
abbrev pub is_thread_before : Bool → SortOptions → List PlainKeys → (ℕ → Option ℕ) → ℕ → ℕ → Bool
is_thread_before reverse options keys parent a b =
    is_lt (thread_cmp reverse options keys parent a b)

-- the places of a listing in threads; the roots alone may stand in turned order
abbrev pub in_threads : SortOptions → List PlainKeys → List (Option Step) → List ℕ
in_threads options keys parents = flat_map (tree_of
    (children (is_thread_before false options keys (target parents)) parents) (length parents))
    (roots (is_thread_before options.reverse options keys (target parents)) parents)

-- messages stand in threads
abbrev pub is_threads : Sort → Bool
is_threads Threads = true
is_threads _ = false

-- the places of a listing in the order of the index
abbrev pub places : SortOptions → List PlainKeys → List (Option Step) → List ℕ
places options keys parents =
    if is_threads options.sort then in_threads options keys parents
    else sorted options.reverse options.sort keys

-- the id of the message at a place
abbrev pub id_at : List PlainKeys → ℕ → Id
id_at keys place = (at keys place).keys.id

-- the ids of a listing in the order of the index
abbrev pub order : SortOptions → List PlainKeys → PlainThreads → List Id
order options keys threads =
    map (id_at keys) (places options keys (parents threads.options threads.messages))

-- each id of a listing stands there once
abbrev pub AreDistinct : List PlainKeys → Type 0
AreDistinct keys = IsDistinct nat_eq (map (λ k. k.id.0) keys)

-- keys of the messages that were added to threads, in their order, and threads that are worked out
pub record AreOf (keys : List PlainKeys) (threads : PlainThreads) : Type 0 where
  pub finished : threads.is_finished ≡ true
  pub same : map (λ k. k.id) keys ≡ map (λ m. m.id) threads.messages
  pub distinct : AreDistinct keys
  pub forest : IsForest (parents threads.options threads.messages)
