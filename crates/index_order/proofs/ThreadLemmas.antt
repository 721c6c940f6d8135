-- A listing in threads: the order that threads are asked for is that of the definition.
use Rattle.std.proofs.Common.{◌≡◌, ◌∙◌, ℕ, ◌<◌, ◌≤◌, ◌∷◌, [], Bool, true, false, List, length}
use Rattle.std.proofs.Common.{map, Option, Some, None, ap, arith, sym, refl, subst, ⊎_elim, get_or}
use Rattle.std.proofs.Common.{eqb-true, is_none, is_some, unwrap_or, if◌then◌else◌, nat_eq}
use Rattle.std.specs.Cmp.{IsTotalOrder}
use Rattle.std.specs.List.{filter, flat_map, range_with_len}
use Rattle.std.specs.Option.{option_map_or}
use Rattle.std.specs.Ordering.{bool_cmp, is_lt, nat_cmp, ordering_then}
use Rattle.std.specs.declared.cmp.Ordering.TheVariants.{Equal}
use Rattle.std.proofs.lemmas.Bool.{cases_lt, false≢true}
use Rattle.std.proofs.lemmas.Cmp.{nat_cmp_total, on_total, then_total}
use Rattle.std.proofs.lemmas.List.{get_or_past}
use Rattle.std.proofs.lemmas.List.FromFn.{get_or-map-range_with_len}
use Rattle.std.proofs.lemmas.List.FromFn.{length-map-range_with_len}
use Rattle.std.proofs.lemmas.List.Quantifiers.{position-Some}
use Rattle.mail_base.specs.declared.kind.Id.{Id}
use Rattle.threads.specs.Forest.{Ends}
use Rattle.threads.specs.Links.{target}
use Rattle.threads.specs.Order.{IsStrictOrder, by_id, children, is_child, is_root}
use Rattle.mail_base.specs.Ordered.{in_order_by, put_by}
use Rattle.threads.specs.Order.{roots, tree_of}
use Rattle.threads.specs.Order as order
use Rattle.threads.specs.Subjects.{parents}
use Rattle.threads.specs.Threads.{PlainThreads, root_of}
use Rattle.threads.specs.Walk.{Each}
use Rattle.threads.specs.declared.step.Step.{Step}
use Rattle.threads.proofs.FoundLemmas.{all_parents_long, parents_below, target_past}
use Rattle.threads.proofs.SortLemmas.{Each-in_order, Each-range}
use Rattle.index_order.specs.Inner.{IsForestOf, PlainStanding, comes_before, id_cmp, link_at}
use Rattle.index_order.specs.Inner.{numbers, place_in, standing_cmp, stands_cmp}
use Rattle.index_order.specs.Keys.{PlainKeys, at, key_cmp}
use Rattle.index_order.specs.Order.{AreOf, id_at, in_threads, is_thread_before, key_place}
use Rattle.index_order.specs.Order.{thread_cmp, turned}
use Rattle.index_order.specs.declared.options.SortOptions.{SortOptions}
use Rattle.index_order.proofs.IdLemmas.{ids_by_places, place_is, same_ids, same_long}
use Rattle.index_order.proofs.TotalLemmas.{equal_last, equal_numbers, equal_where, key_total}
use Rattle.index_order.proofs.TotalLemmas.{split_total, turned_total, weak}

-- Links by places.

-- the places of parents, as a list of so many
pub link_is : (ps : List (Option Step)) (p : ℕ)
    → link_at (map (target ps) (range_with_len 0 (length ps))) p ≡ target ps p
link_is ps p = ⊎_elim
    (λ lt. get_or-map-range_with_len (target ps) 0 (length ps) p p None lt (omega arith))
    (λ le. get_or_past (map (target ps) (range_with_len 0 (length ps))) p None
    (subst (λ n. n ≤ p) (sym (length-map-range_with_len (target ps) 0 (length ps))) le)
    ∙ sym (target_past ps p le))
    (cases_lt p (length ps))

pub links_are : (ps : List (Option Step))
    → link_at (map (target ps) (range_with_len 0 (length ps))) ≡ target ps
links_are ps = λ i p. link_is ps p i

pub long_parents : (keys : List PlainKeys) (threads : PlainThreads) → AreOf keys threads
    → length (parents threads.options threads.messages) ≡ length keys
long_parents keys threads of =
    all_parents_long threads.options threads.messages ∙ same_long keys threads of

pub forest_of : (keys : List PlainKeys) (threads : PlainThreads) → AreOf keys threads
    → IsForestOf (map (target (parents threads.options threads.messages))
    (range_with_len 0 (length (parents threads.options threads.messages))))
forest_of keys threads of = record {
  within = λ p q e. subst (λ n. q < n) (sym long)
      (parents_below threads.options threads.messages p q (sym (link_is ps p) ∙ e));
  ends = λ p lt.
      let own = of.forest p (subst (λ n. p < n) size lt) in (
        own.0,
        subst (λ n. own.0 ≤ n) (sym size) own.1,
        (
          root_of ps p,
          subst (λ (f : ℕ → Option ℕ). Ends f own.0 p (root_of ps p))
              (sym (links_are ps)) own.2,
        ),
      );
}
  where
    ps : List (Option Step)
    ps = parents threads.options threads.messages

    size : length (map (target (parents threads.options threads.messages))
        (range_with_len 0 (length (parents threads.options threads.messages))))
        ≡ length (parents threads.options threads.messages)
    size = length-map-range_with_len (target (parents threads.options threads.messages)) 0
        (length (parents threads.options threads.messages))

    long : length (map (target (parents threads.options threads.messages))
        (range_with_len 0 (length (parents threads.options threads.messages))))
        ≡ length threads.messages
    long = size ∙ all_parents_long threads.options threads.messages

-- Orders of places and of ids.

pub thread_total : (reverse : Bool) (options : SortOptions) (keys : List PlainKeys)
    (parent : ℕ → Option ℕ) → IsTotalOrder (thread_cmp reverse options keys parent)
thread_total reverse options keys parent = then_total
    (turned_total (turned_total (on_total (λ (p : ℕ). at keys (key_place options keys parent p))
    (key_total options.aux)) options.aux_reverse) reverse)
    nat_cmp_total

pub standing_total : (options : SortOptions) (keys : List PlainKeys) (parent : ℕ → Option ℕ)
    → IsTotalOrder (standing_cmp options keys parent)
standing_total options keys parent = split_total (λ (p : ℕ). is_some (parent p))
    (thread_total false options keys parent) (thread_total options.reverse options keys parent)

pub ids_total : (s : PlainStanding)
    → IsTotalOrder (id_cmp (stands_cmp s) (place_in (numbers s.keys)))
ids_total s = split_total (λ (a : Id). is_none (place_in (numbers s.keys) a))
    (on_total (λ (a : Id). a.0) nat_cmp_total)
    (on_total (λ (a : Id). unwrap_or (place_in (numbers s.keys) a) 0)
    (standing_total s.options s.keys (link_at s.above)))

same_standing : (options : SortOptions) (keys : List PlainKeys) (parent : ℕ → Option ℕ) (p q : ℕ)
    → standing_cmp options keys parent p q ≡ Equal → p ≡ q
same_standing options keys parent p q e =
    by_kind (is_some (parent p)) (equal_last (bool_cmp (is_some (parent p)) (is_some (parent q)))
    (if is_some (parent p) then thread_cmp false options keys parent p q
    else thread_cmp options.reverse options keys parent p q) e)
  where
    by_keys : (reverse : Bool) → thread_cmp reverse options keys parent p q ≡ Equal → p ≡ q
    by_keys reverse is = equal_numbers p q (equal_last (turned reverse (turned options.aux_reverse
        (key_cmp options.aux (at keys (key_place options keys parent p))
        (at keys (key_place options keys parent q))))) (nat_cmp p q) is)

    by_kind : (k : Bool) → (if k then thread_cmp false options keys parent p q
        else thread_cmp options.reverse options keys parent p q) ≡ Equal → p ≡ q
    by_kind true is = by_keys false is
    by_kind false is = by_keys options.reverse is

same_id : (a b : Id) → a.0 ≡ b.0 → a ≡ b
same_id a b e = λ i. record { 0 = e i }

equal_ids : (s : PlainStanding) (a b : Id)
    → id_cmp (stands_cmp s) (place_in (numbers s.keys)) a b ≡ Equal → a ≡ b
equal_ids s a b = by_places (place_in (numbers s.keys) a) (place_in (numbers s.keys) b) refl refl
  where
    number : (c : Id) (p : ℕ) → place_in (numbers s.keys) c ≡ Some p
        → c.0 ≡ get_or (numbers s.keys) p 0
    number c p e = eqb-true _ _ (position-Some (nat_eq c.0) (numbers s.keys) p 0 e).1

    by_places : (o u : Option ℕ) → place_in (numbers s.keys) a ≡ o → place_in (numbers s.keys) b ≡ u
        → ordering_then (bool_cmp (is_none o) (is_none u)) (if is_none o then nat_cmp a.0 b.0
        else stands_cmp s (unwrap_or o 0) (unwrap_or u 0)) ≡ Equal → a ≡ b
    by_places None None one other e = same_id a b (equal_numbers a.0 b.0 e)
    by_places None (Some q) one other e = absurd (cc)
    by_places (Some p) None one other e = absurd (cc)
    by_places (Some p) (Some q) one other e = same_id a b (number a p one
        ∙ ap (λ (k : ℕ). get_or (numbers s.keys) k 0)
        (same_standing s.options s.keys (link_at s.above) p q e)
        ∙ sym (number b q other))

-- one of any two ids comes first
pub ids_strict : (s : PlainStanding) → IsStrictOrder (comes_before s)
ids_strict s = record {
  order = weak (ids_total s);
  total = λ a b p q. equal_ids s a b (equal_where (ids_total s) a b p q);
}

-- The same order by ids and by places.

put_same : (f g : ℕ → ℕ → Bool) (P : ℕ → Type 0) → ((a b : ℕ) → P a → P b → f a b ≡ g a b)
    → (x : ℕ) (ys : List ℕ) → P x → Each P ys → put_by f x ys ≡ put_by g x ys
put_same f g P agree x [] own all = refl
put_same f g P agree x (y ∷ ys) own all =
    ap (λ (b : Bool). if b then y ∷ put_by f x ys else x ∷ y ∷ ys) (agree y x all.0 own)
    ∙ ap (λ (l : List ℕ). if g y x then y ∷ l else x ∷ y ∷ ys) (put_same f g P agree x ys own all.1)

pub in_order_same : (f g : ℕ → ℕ → Bool) (P : ℕ → Type 0)
    → ((a b : ℕ) → P a → P b → f a b ≡ g a b) → (xs : List ℕ) → Each P xs
    → in_order_by f xs ≡ in_order_by g xs
in_order_same f g P agree [] all = refl
in_order_same f g P agree (x ∷ xs) all =
    put_same f g P agree x (in_order_by f xs) all.0 (Each-in_order P f xs all.1)
    ∙ ap (put_by g x) (in_order_same f g P agree xs all.1)

filter_each : (P : ℕ → Type 0) (passes : ℕ → Bool) (xs : List ℕ) → Each P xs
    → Each (λ x. P x × (passes x ≡ true)) (filter passes xs)
filter_each P passes [] all = tt
filter_each P passes (x ∷ xs) all = by_test (passes x) refl (filter_each P passes xs all.1)
  where
    by_test : (b : Bool) → passes x ≡ b
        → Each (λ y. P y × (passes y ≡ true)) (filter passes xs)
        → Each (λ y. P y × (passes y ≡ true)) (if b then x ∷ filter passes xs else filter passes xs)
    by_test true e more = ((all.0, e), more)
    by_test false e more = more

-- the standing of a listing in threads
abbrev pub standing_of : SortOptions → List PlainKeys → PlainThreads → PlainStanding
standing_of options keys threads = record {
  options = options;
  keys = keys;
  above = map (target (parents threads.options threads.messages))
      (range_with_len 0 (length (parents threads.options threads.messages)));
}

is_some_root : (o : Option ℕ) → is_none o ≡ true → is_some o ≡ false
is_some_root None e = refl
is_some_root (Some p) e = absurd (false≢true e)

is_some_child : (above : ℕ) (o : Option ℕ) → option_map_or (nat_eq above) o false ≡ true
    → is_some o ≡ true
is_some_child above None e = absurd (false≢true e)
is_some_child above (Some p) e = refl

module _ (options : SortOptions) (keys : List PlainKeys) (threads : PlainThreads)
    (of : AreOf keys threads) where
  abbrev ps : List (Option Step)
  ps = parents threads.options threads.messages

  abbrev before : ℕ → ℕ → Bool
  before = by_id (comes_before (standing_of options keys threads)) threads.messages

  abbrev by_keys : Bool → ℕ → ℕ → Bool
  by_keys reverse = is_thread_before reverse options keys (target ps)

  found : (p : ℕ) → p < length keys
      → place_in (numbers keys) (order.id_at threads.messages p) ≡ Some p
  found p lt = ap (place_in (numbers keys)) (same_ids keys threads of p)
      ∙ place_is keys of.distinct p lt

  by_standing : (p q : ℕ) → p < length keys → q < length keys
      → before p q ≡ is_lt (standing_cmp options keys (target ps) p q)
  by_standing p q one other =
      ap is_lt (ids_by_places (stands_cmp (standing_of options keys threads))
      (place_in (numbers keys)) (order.id_at threads.messages p) (order.id_at threads.messages q)
      p q (found p one) (found q other))
      ∙ ap (λ (f : ℕ → Option ℕ). is_lt (standing_cmp options keys f p q)) (links_are ps)

  roots_agree : (p q : ℕ) → (p < length keys) × (is_root ps p ≡ true)
      → (q < length keys) × (is_root ps q ≡ true) → before p q ≡ by_keys options.reverse p q
  roots_agree p q one other =
      by_standing p q one.0 other.0
      ∙ ap (λ (k : Bool). is_lt (ordering_then (bool_cmp k (is_some (target ps q)))
      (if k then thread_cmp false options keys (target ps) p q
      else thread_cmp options.reverse options keys (target ps) p q)))
      (is_some_root (target ps p) one.1)
      ∙ ap (λ (k : Bool). is_lt (ordering_then (bool_cmp false k)
      (thread_cmp options.reverse options keys (target ps) p q)))
      (is_some_root (target ps q) other.1)

  children_agree : (above p q : ℕ) → (p < length keys) × (is_child ps above p ≡ true)
      → (q < length keys) × (is_child ps above q ≡ true) → before p q ≡ by_keys false p q
  children_agree above p q one other =
      by_standing p q one.0 other.0
      ∙ ap (λ (k : Bool). is_lt (ordering_then (bool_cmp k (is_some (target ps q)))
      (if k then thread_cmp false options keys (target ps) p q
      else thread_cmp options.reverse options keys (target ps) p q)))
      (is_some_child above (target ps p) one.1)
      ∙ ap (λ (k : Bool). is_lt (ordering_then (bool_cmp true k)
      (thread_cmp false options keys (target ps) p q)))
      (is_some_child above (target ps q) other.1)

  all_within : Each (λ p. p < length keys) (range_with_len 0 (length ps))
  all_within = let long = long_parents keys threads of in
      Each-range 0 (length ps) (length keys) (omega (arith, long))

  roots_same : roots before ps ≡ roots (by_keys options.reverse) ps
  roots_same = in_order_same before (by_keys options.reverse)
      (λ p. (p < length keys) × (is_root ps p ≡ true)) roots_agree
      (filter (is_root ps) (range_with_len 0 (length ps)))
      (filter_each (λ p. p < length keys) (is_root ps) (range_with_len 0 (length ps)) all_within)

  children_same : (above : ℕ) → children before ps above ≡ children (by_keys false) ps above
  children_same above = in_order_same before (by_keys false)
      (λ p. (p < length keys) × (is_child ps above p ≡ true)) (children_agree above)
      (filter (is_child ps above) (range_with_len 0 (length ps)))
      (filter_each (λ p. p < length keys) (is_child ps above) (range_with_len 0 (length ps))
      all_within)

  all_children : children before ps ≡ children (by_keys false) ps
  all_children = λ i above. children_same above i

  ids_are : order.id_at threads.messages ≡ id_at keys
  ids_are = λ i p. same_ids keys threads of p i

  -- the order that threads give by a standing is that of the definition
  pub order_is : order.order_from (comes_before (standing_of options keys threads)) threads
      ≡ map (id_at keys) (in_threads options keys ps)
  order_is =
      ap (λ (c : ℕ → List ℕ). map (order.id_at threads.messages)
      (flat_map (tree_of c (length ps)) (roots before ps))) all_children
      ∙ ap (λ (r : List ℕ). map (order.id_at threads.messages)
      (flat_map (tree_of (children (by_keys false) ps) (length ps)) r)) roots_same
      ∙ ap (λ (f : ℕ → Id). map f (in_threads options keys ps)) ids_are
