-- Where parents and roots stand in an order, and what of it is seen.
use Rattle.std.proofs.Common.{◌≡◌, ◌∙◌, ◌<◌, ◌≤◌, [], ◌∷◌, ℕ, zero, suc, Bool, true, false, List}
use Rattle.std.proofs.Common.{Option, Some, None, ap, arith, length, map, nat_eq, option_map, refl}
use Rattle.std.proofs.Common.{slice_index_or, subst, sym, ⊎_elim}
use Rattle.std.proofs.lemmas.Bool.{cases_lt}
use Rattle.std.proofs.lemmas.List.{get_or-map, get_or_past, length-map}
use Rattle.std.proofs.lemmas.List.FromFn.{get_or-map-range_with_len, length-map-range_with_len}
use Rattle.std.proofs.lemmas.List.Quantifiers.{position-Some}
use Rattle.std.proofs.lemmas.Option.{none-some, same_Some, slice_get-get_or, slice_get-map}
use Rattle.std.proofs.lemmas.Option.{slice_get_within}
use Rattle.std.proofs.lemmas.Simd.{map-map}
use Rattle.std.specs.List.{IsDistinct, filter, range_with_len}
use Rattle.std.specs.Prelude.{option_and_then, slice_get, unwrap_or}
use Rattle.mail_base.specs.declared.kind.Id.{Id}
use Rattle.threads.specs.Order.{ParentsFirst as ParentsBefore}
use Rattle.threads.specs.Threads.{PlainThreads, parent}
use Rattle.threads.specs.declared.options.Parent.{Parent}
use Rattle.index_listed.specs.Entries.{ParentsFirst, RootsWithin, at, no_entry, some_below}
use Rattle.index_listed.specs.Listed.{no_id}
use Rattle.index_listed.specs.Places.{numbers}
use Rattle.index_listed.specs.Sight.{AreFirst, above, entries, entry_of, found_place, id_at}
use Rattle.index_listed.specs.Sight.{parent_in, stance_of, stances, visible}
use Rattle.index_listed.specs.Threading.{place_among, root_place}
use Rattle.index_listed.specs.Visibility.{AreThreadsWith, in_thread, is_visible}
use Rattle.index_listed.specs.declared.entry.Above.{Above}
use Rattle.index_listed.specs.declared.entry.Entry.{Entry}
use Rattle.index_listed.specs.declared.mark.Mark.{Mark}
use Rattle.index_listed.specs.declared.stance.Stance.{Stance}
use Rattle.index_listed.proofs.DistinctLemmas.{distinct_filtered}
use Rattle.index_listed.proofs.PlaceLemmas.{found_some, map_at, told_list}

-- ---- read where they are told place by place

pub told_long : {X : Type 0} (f : ℕ → X) (n : ℕ) (xs : List X) → xs ≡ map f (range_with_len 0 n)
    → length xs ≡ n
told_long f n xs told = ap length told ∙ length-map-range_with_len f 0 n

pub told_read : {X : Type 0} (f : ℕ → X) (n : ℕ) (xs : List X) → xs ≡ map f (range_with_len 0 n)
    → (p : ℕ) → p < n → (x : X) → x ≡ slice_index_or xs p x → x ≡ f p
told_read f n xs told p low x read = read ∙ ap (λ l. slice_index_or l p x) told
    ∙ get_or-map-range_with_len f 0 n p p x low (omega arith)

mapped_at : {A B : Type 0} (f : A → B) (xs : List A) (p : ℕ) (y : B)
    → slice_get (map f xs) p ≡ Some y → (x : A) × (slice_get xs p ≡ Some x) × (f x ≡ y)
mapped_at f [] p y is = absurd (none-some y is)
mapped_at f (x ∷ xs) zero y is = (x, refl, same_Some (f x) y is)
mapped_at f (x ∷ xs) (suc p) y is = mapped_at f xs p y is

-- ---- threads

pub told_threads : (passes : ℕ → Bool) (all : List Entry) (n : ℕ) (marks : List Bool)
    → AreThreadsWith passes all n marks → marks ≡ map (λ root.
    some_below (in_thread all passes root) n) (range_with_len 0 (length all))
told_threads passes all n marks told = told_list
    (λ root. some_below (in_thread all passes root) n) (length all) marks false
    told.long told.marked

-- ---- roots among the messages

found_within : (o : Option ℕ) (n : ℕ) → ((p : ℕ) → o ≡ Some p → p < n) → 0 < n
    → unwrap_or o 0 < n
found_within None n within some = some
found_within (Some p) n within some = within p refl

among_within : (all : List ℕ) (o : Option Id) → 0 < length all
    → unwrap_or (option_and_then (place_among all) o) 0 < length all
among_within all None some = some
among_within all (Some id) some = found_within (place_among all id) (length all)
    (λ p is. (position-Some (nat_eq id.0) all p 0 is).0) some

-- ---- parents before their children

module _ (order : List Id) where
  found_before : (id : Id) (j p : ℕ) → j < p → slice_get order j ≡ Some id
      → found_place (numbers order) id < p
  found_before id j p low is =
      let first = found_some (numbers order) id.0 j
      (slice_get-map (λ (i : Id). i.0) order j ∙ ap (option_map (λ (i : Id). i.0)) is) in
      let place : found_place (numbers order) id ≡ first.0 = ap (λ o. unwrap_or o 0) first.1 in
      omega arith

  -- a message stands at a place before this one
  abbrev Before : ℕ → Id → Type 0
  Before p id = (j : ℕ) × (j < p) × (slice_get order j ≡ Some id)

  above_before : (p : ℕ) (a : Above) (o : Option Parent)
      → option_map (above (numbers order)) o ≡ Some a
      → ((q : Parent) → o ≡ Some q → Before p q.id) → a.place < p
  above_before p a None is before = absurd (none-some a is)
  above_before p a (Some q) is before =
      let j = before q refl in
      subst (λ (b : Above). b.place < p) (same_Some (above (numbers order) q) a is)
      (found_before q.id j.0 p j.1 j.2)

  parent_before : (threaded : Bool) (ts : PlainThreads) (id : Id) (p : ℕ) (a : Above)
      → parent_in threaded ts (numbers order) id ≡ Some a
      → (threaded ≡ true → (q : Parent) → parent ts id ≡ Some q → Before p q.id) → a.place < p
  parent_before false ts id p a is before = absurd (none-some a is)
  parent_before true ts id p a is before = above_before p a (parent ts id) is (before refl)

  stance_parent : (threaded : Bool) (ts : PlainThreads) (listed : List ℕ)
      → (threaded ≡ true → ParentsBefore ts order) → (p : ℕ) (s : Stance) (a : Above)
      → slice_get (stances threaded ts listed order) p ≡ Some s → s.parent ≡ Some a → a.place < p
  stance_parent threaded ts listed first p s a is above =
      let of = mapped_at (stance_of threaded ts listed (numbers order)) order p s is in
      parent_before threaded ts of.0 p a (ap (λ (t : Stance). t.parent) of.2 ∙ above)
      (λ yes q follows. first yes p of.0 q of.1 follows)

  stance_root : (threaded : Bool) (ts : PlainThreads) (listed : List ℕ) (p : ℕ) (s : Stance)
      → slice_get (stances threaded ts listed order) p ≡ Some s
      → s.root < length (stances threaded ts listed order)
  stance_root threaded ts listed p s is =
      let of = mapped_at (stance_of threaded ts listed (numbers order)) order p s is in
      let inside = slice_get_within order p of.0 of.1 in
      let many = length-map order (λ (i : Id). i.0) in
      let long = length-map order (stance_of threaded ts listed (numbers order)) in
      let root = ap (λ (t : Stance). t.root) of.2 in
      let low : root_place ts (numbers order) of.0 < length (numbers order) =
      among_within (numbers order) _ (omega arith) in
      omega arith

pub first_stances : (threaded : Bool) (ts : PlainThreads) (listed : List ℕ) (order : List Id)
    → (threaded ≡ true → ParentsBefore ts order) → AreFirst (stances threaded ts listed order)
first_stances threaded ts listed order first = record {
  parents = stance_parent order threaded ts listed first;
  roots = stance_root order threaded ts listed;
}

-- ---- entries

-- what stands behind the last stance
abbrev no_stance : Stance
no_stance = record { parent = None; root = 0; place = 0 }

-- where the parent of an entry stands
abbrev above_of : Option Above → Option ℕ
above_of parent = option_map (λ (a : Above). a.place) parent

placed : (o : Option Above) (p q : ℕ) → ((a : Above) → o ≡ Some a → a.place < p)
    → above_of o ≡ Some q → q < p
placed None p q before is = absurd (none-some q is)
placed (Some a) p q before is = subst (λ n. n < p) (same_Some a.place q is) (before a refl)

module _ (marks : List Mark) (all : List Stance) (first : AreFirst all) where
  entry_is : (p : ℕ) → p < length all
      → at (entries marks all) p ≡ entry_of marks (slice_index_or all p no_stance)
  entry_is p low = get_or-map (entry_of marks) all p no_stance no_entry low

  none_past : (p : ℕ) → length all ≤ p → at (entries marks all) p ≡ no_entry
  none_past p past = get_or_past (entries marks all) p no_entry
      (omega (arith, length-map all (entry_of marks)))

  pub roots_within : RootsWithin (entries marks all)
  roots_within p low =
      let long = length-map all (entry_of marks) in
      let inside : p < length all = omega arith in
      let root = ap (λ (e : Entry). e.root) (entry_is p inside) in
      let among = first.roots p (slice_index_or all p no_stance)
      (slice_get-get_or all p no_stance inside) in
      omega arith

  pub parents_first : ParentsFirst (entries marks all)
  parents_first p q is = ⊎_elim
      (λ inside. let s = slice_index_or all p no_stance in
      placed s.parent p q
      (λ a above. first.parents p s a (slice_get-get_or all p no_stance inside) above)
      (ap (λ (e : Entry). above_of e.parent) (sym (entry_is p inside)) ∙ is))
      (λ past. absurd (none-some q
      (ap (λ (e : Entry). above_of e.parent) (sym (none_past p past)) ∙ is)))
      (cases_lt p (length all))

-- ---- what is seen stays apart

pub seen_apart : (order : List Id) (all : List Entry) → length all ≡ length order
    → IsDistinct nat_eq (numbers order) → IsDistinct nat_eq (numbers (visible order all))
seen_apart order all long apart =
    let number : ℕ → ℕ = λ p. (id_at order p).0 in
    subst (IsDistinct nat_eq)
    (sym (map-map (λ (i : Id). i.0) (id_at order)
    (filter (is_visible all) (range_with_len 0 (length all)))))
    (distinct_filtered number (is_visible all) (range_with_len 0 (length all))
    (subst (λ n. IsDistinct nat_eq (map number (range_with_len 0 n))) (sym long)
    (subst (IsDistinct nat_eq) (sym (map_at (λ (i : Id). i.0) order no_id)) apart)))
