-- For the code alone: who stands below whom, while threads are put in order.
use Rattle.std.specs.Prelude.{◌≡◌, ◌<◌, ℕ, List, [], ◌∷◌, length, map, reverse, Vec, Option}
use Rattle.std.specs.Prelude.{Some, slice_get, slice_index_or}
use Rattle.std.specs.List.{All, filter, flat_map, range_with_len}
use Rattle.std.specs.declared.alloc.Global.{Global}
use Rattle.mail_base.specs.declared.kind.Id.{Id}
use Rattle.threads.specs.Forest.{IsForest}
use Rattle.threads.specs.Found.{AreDistinct, LeadsBelow}
use Rattle.threads.specs.Links.{target}
use Rattle.threads.specs.Message.{PlainMessage}
use Rattle.threads.specs.Order.{id_at, is_child, is_root, tree_of}
use Rattle.threads.specs.Walk.{Each}
use Rattle.threads.specs.declared.order.Entry.{Entry}
use Rattle.threads.specs.declared.order.Families.{Families}
use Rattle.threads.specs.declared.step.Step.{Step}

-- a place with the id of its message
abbrev pub entry_at : List PlainMessage → ℕ → Entry
entry_at messages place = record { place = place; id = id_at messages place }

-- an entry for each message
abbrev pub entries : List PlainMessage → List Entry
entries messages = map (entry_at messages) (range_with_len 0 (length messages))

-- the places of entries
abbrev pub places : List Entry → List ℕ
places entries = map (λ e. e.place) entries

-- each place below a number, with the id of its message
abbrev pub AreEntries : List PlainMessage → List Entry → Type 0
AreEntries messages entries =
    All (λ e. (e.place < length messages) × (e.id ≡ id_at messages e.place)) entries

-- the lists of children, the last child first
abbrev pub lists : List (Vec ℕ Global) → List (List ℕ)
lists children = map (λ v. v.items) children

-- the children of a place, the first first
abbrev pub below : List (Vec ℕ Global) → ℕ → List ℕ
below children place = reverse (slice_index_or (lists children) place [])

-- the families of some places, each added behind those before it
pub record AreFamilies (parents : List (Option Step)) (added : List ℕ) (families : Families)
    : Type 0 where
  pub long : length families.children.items ≡ length parents
  pub roots : families.roots.items ≡ filter (is_root parents) added
  pub children : (p : ℕ) → p < length parents
      → slice_index_or (lists families.children.items) p [] ≡ filter (is_child parents p) added

-- what a walk needs: places below a number alone, and trees that end
pub record CanWalk (children : ℕ → List ℕ) (n : ℕ) : Type 0 where
  pub within : (p : ℕ) → p < n → Each (λ q. q < n) (children p)
  pub unfolds : (p : ℕ) → p < n
      → tree_of children n p ≡ p ∷ flat_map (tree_of children n) (children p)

-- messages that are told apart, and parents without a cycle
pub record CanOrder (messages : List PlainMessage) (parents : List (Option Step)) : Type 0 where
  pub distinct : AreDistinct messages
  pub long : length parents ≡ length messages
  pub leads : LeadsBelow (length parents) parents
  pub forest : IsForest parents

-- where a step leads on from a place of a list, it leads to one that stands before it
abbrev pub LeadsBack : (ℕ → Option ℕ) → List ℕ → Type 0
LeadsBack on places = (i p q : ℕ) → slice_get places i ≡ Some p → on p ≡ Some q
    → (j : ℕ) × (j < i) × (slice_get places j ≡ Some q)

-- the ids at places that stand behind their parents
pub record ArePut (messages : List PlainMessage) (parents : List (Option Step)) (ids : List Id)
    : Type 0 where
  pub places : List ℕ
  pub the_ids : ids ≡ map (id_at messages) places
  pub within : Each (λ p. p < length messages) places
  pub back : LeadsBack (target parents) places
