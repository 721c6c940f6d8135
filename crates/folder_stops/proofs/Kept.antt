-- What holds message by message holds of the lists: those that were read are all, but for some that
-- may go.
use Rattle.std.proofs.Common.{Bool, List, [], ap, false, inl, inr, refl, subst, sym, true, ℕ}
use Rattle.std.proofs.Common.{⊎_elim, ◌&&◌, ◌||◌, ◌∙◌, ◌∷◌, ◌≡◌, ◌⊎◌}
use Rattle.std.proofs.lemmas.Bool.{and_from, and_parts, cases_Bool, or_cases, or_left, or_right}
use Rattle.std.specs.Str.{bytes_eq}
use Rattle.folder_stops.specs.Messages.{IsInOrder, IsSingle, Must, StoredMessage}
use Rattle.folder_stops.specs.Reads.{IsRising, ReadMessage, is_same, kept}
use Rattle.folder_stops.specs.Shape.{IsOrder}
use Rattle.folder_stops.specs.Words.{Among}
use Rattle.folder_stops.proofs.Words.{equal, same}

module _ (before : List ℕ → List ℕ → Bool) (order : IsOrder before) where
  -- one of the messages is the one that was read
  abbrev pub IsStored : List StoredMessage → ReadMessage → Type 0
  IsStored all l = (m : StoredMessage) × Among m all × (m.key ≡ l.key) × (m.core ≡ l.core)

  -- it is one of those that were read
  abbrev pub IsRead : List ReadMessage → StoredMessage → Type 0
  IsRead seen m = (l : ReadMessage) × Among l seen × (l.key ≡ m.key) × (l.core ≡ m.core)

  not_less : (a b : List ℕ) → before a b ≡ true → a ≡ b → ⊥
  not_less a b lt e = let no : before a a ≡ false = order.never a in let yes : before a a ≡ true =
      subst (λ (k : List ℕ). before a k ≡ true) (sym e) lt in cc

  same_letter : (m : StoredMessage) (l : ReadMessage) → m.key ≡ l.key → m.core ≡ l.core
      → is_same m l ≡ true
  same_letter m l k c =
      and_from (bytes_eq m.key l.key) (bytes_eq m.core l.core)
      (subst (λ (x : List ℕ). bytes_eq m.key x ≡ true) k (same m.key))
      (subst (λ (x : List ℕ). bytes_eq m.core x ≡ true) c (same m.core))

  -- one of the messages is the same
  has_same : List StoredMessage → ReadMessage → Bool
  has_same [] l = false
  has_same (m ∷ all) l = is_same m l || has_same all l

  same_has : (all : List StoredMessage) (l : ReadMessage) (m : StoredMessage) → Among m all → m.key
      ≡ l.key → m.core ≡ l.core → has_same all l ≡ true
  unfolding has_same
  same_has [] l m in_it k c = absurd in_it
  same_has (n ∷ all) l m (inl is) k c =
      or_left (is_same n l) (has_same all l)
      (same_letter n l (sym (ap (λ (y : StoredMessage). y.key) is) ∙ k)
      (sym (ap (λ (y : StoredMessage). y.core) is) ∙ c))
  same_has (n ∷ all) l m (inr later) k c =
      or_right (is_same n l) (has_same all l) (same_has all l m later k c)

  has_known : (all : List StoredMessage) (l : ReadMessage) → has_same all l ≡ true → IsStored all l
  unfolding has_same
  has_known [] l e = absurd (cc)
  has_known (n ∷ all) l e = ⊎_elim
      (λ (t : is_same n l ≡ true).
      let parts = and_parts (bytes_eq n.key l.key) (bytes_eq n.core l.core) t in
      (n, inl refl, equal n.key l.key parts.0, equal n.core l.core parts.1))
      (λ (t : has_same all l ≡ true). let rest = has_known all l t in
      (rest.0, inr rest.1, rest.2, rest.3))
      (or_cases (is_same n l) (has_same all l) e)

  -- what is known of more is known of fewer, where the first has another key
  known_less : (m : StoredMessage) (all : List StoredMessage) (l : ReadMessage)
      → (m.key ≡ l.key → ⊥) → IsStored (m ∷ all) l → IsStored all l
  known_less m all l ne known = ⊎_elim {C = IsStored all l}
      (λ (is : known.0 ≡ m). absurd (ne (sym (ap (λ (y : StoredMessage). y.key) is) ∙ known.2)))
      (λ (old : Among known.0 all). (known.0, old, known.2, known.3))
      known.1

  read_less : (l : ReadMessage) (seen : List ReadMessage) (m : StoredMessage)
      → (l.key ≡ m.key → l.core ≡ m.core → ⊥) → IsRead (l ∷ seen) m → IsRead seen m
  read_less l seen m ne read = ⊎_elim {C = IsRead seen m}
      (λ (is : read.0 ≡ l). absurd
      (ne (sym (ap (λ (y : ReadMessage). y.key) is) ∙ read.2)
      (sym (ap (λ (y : ReadMessage). y.core) is) ∙ read.3)))
      (λ (old : Among read.0 seen). (read.0, old, read.2, read.3))
      read.1

  may_or_must : (m : StoredMessage) → (m.may_go ≡ true) ⊎ Must m
  may_or_must m = cases_Bool m.may_go

  -- a key before those of all seen is the key of none
  pub below_all : (k : List ℕ) (l : ReadMessage) (seen : List ReadMessage) → before k l.key ≡ true
      → IsRising before (l ∷ seen) → (n : ReadMessage) → Among n (l ∷ seen) → before k n.key ≡ true
  below_all k l seen lt up n (inl is) =
      subst (λ (y : ReadMessage). before k y.key ≡ true) (sym is) lt
  below_all k l seen lt up n (inr later) = order.trans k l.key n.key lt (up.0 n later)

  take_it : (m : StoredMessage) (all : List StoredMessage) (l : ReadMessage)
      (seen : List ReadMessage) → is_same m l ≡ true → kept all seen ≡ true
      → kept (m ∷ all) (l ∷ seen) ≡ true
  take_it m all l seen e rest =
      or_left (is_same m l && kept all seen) (m.may_go && kept all (l ∷ seen))
      (and_from (is_same m l) (kept all seen) e rest)

  skip_it : (m : StoredMessage) (all : List StoredMessage) (l : ReadMessage)
      (seen : List ReadMessage) → m.may_go ≡ true → kept all (l ∷ seen) ≡ true
      → kept (m ∷ all) (l ∷ seen) ≡ true
  skip_it m all l seen e rest =
      or_right (is_same m l && kept all seen) (m.may_go && kept all (l ∷ seen))
      (and_from m.may_go (kept all (l ∷ seen)) e rest)

  pub kept_lists : (all : List StoredMessage) (seen : List ReadMessage) → IsInOrder before all
      → IsSingle all → IsRising before seen → ((l : ReadMessage) → Among l seen → IsStored all l)
      → ((m : StoredMessage) → Among m all → Must m → IsRead seen m) → kept all seen ≡ true
  kept_lists [] [] in_order single up known read = refl
  kept_lists [] (l ∷ seen) in_order single up known read = absurd (known l (inl refl)).1
  kept_lists (m ∷ all) [] in_order single up known read = ⊎_elim
      (λ (may : m.may_go ≡ true). and_from m.may_go (kept all []) may
      (kept_lists all [] in_order.1 single.1 tt (λ l in_it. absurd in_it) (λ n in_it must.
      read n (inr in_it) must)))
      (λ (must : Must m). absurd (read m (inl refl) must).1)
      (may_or_must m)
  kept_lists (m ∷ all) (l ∷ seen) in_order single up known read = ⊎_elim
      (λ (e : m.key ≡ l.key).
      -- a of_key that comes later has another key
      let other = λ (n : ReadMessage) (later : Among n seen) (f : m.key ≡ n.key). not_less l.key
      n.key (up.0 n later) (sym e ∙ f) in
      let skip = λ (may : m.may_go ≡ true) (there : has_same all l ≡ true). skip_it m all l seen may
      (kept_lists all (l ∷ seen) in_order.1 single.1 up
      (λ n in_it. ⊎_elim {C = IsStored all n}
      (λ (is : n ≡ l). subst (IsStored all) (sym is) (has_known all l there))
      (λ (later : Among n seen). known_less m all n (other n later) (known n (inr later)))
      in_it)
      (λ n in_it must. read n (inr in_it) must)) in
      let take = λ (core : m.core ≡ l.core)
      (no_more : (n : StoredMessage) → Among n all → Must n → l.key ≡ n.key → l.core ≡ n.core
      → ⊥). take_it m all l seen (same_letter m l e core)
      (kept_lists all seen in_order.1 single.1 up.1
      (λ n later. known_less m all n (other n later) (known n (inr later)))
      (λ n in_it must. read_less l seen n (no_more n in_it must) (read n (inr in_it) must))) in
      ⊎_elim
      (λ (may : m.may_go ≡ true). ⊎_elim
      (λ (there : has_same all l ≡ true). skip may there)
      (λ (none : has_same all l ≡ false).
      let core : m.core ≡ l.core = (let k = known l (inl refl) in ⊎_elim {C = m.core ≡ l.core}
      (λ (is : k.0 ≡ m). sym (ap (λ (y : StoredMessage). y.core) is) ∙ k.3)
      (λ (old : Among k.0 all). let yes : has_same all l ≡ true = same_has all l k.0 old k.2 k.3 in
      absurd (cc))
      k.1) in
      take core (λ n in_it must k c.
      let yes : has_same all l ≡ true = same_has all l n in_it (sym k) (sym c) in cc))
      (cases_Bool (has_same all l)))
      (λ (must : Must m).
      let core : m.core ≡ l.core = (let r = read m (inl refl) must in ⊎_elim {C = m.core ≡ l.core}
      (λ (is : r.0 ≡ l). sym r.3 ∙ ap (λ (y : ReadMessage). y.core) is)
      (λ (later : Among r.0 seen). absurd (other r.0 later (sym r.2)))
      r.1) in
      take core (λ n in_it must' k c. single.0 n in_it must must' (e ∙ k)))
      (may_or_must m))
      (λ (w : (before m.key l.key ≡ true) ⊎ (before l.key m.key ≡ true)). ⊎_elim
      (λ (lt : before m.key l.key ≡ true).
      let apart_from = λ (n : ReadMessage) (in_it : Among n (l ∷ seen)) (f : m.key ≡ n.key).
      not_less m.key n.key (below_all m.key l seen lt up n in_it) f in
      ⊎_elim
      (λ (may : m.may_go ≡ true). skip_it m all l seen may
      (kept_lists all (l ∷ seen) in_order.1 single.1 up
      (λ n in_it. known_less m all n (apart_from n in_it) (known n in_it))
      (λ n in_it must. read n (inr in_it) must)))
      (λ (must : Must m). let r = read m (inl refl) must in absurd (apart_from r.0 r.1 (sym r.2)))
      (may_or_must m))
      (λ (gt : before l.key m.key ≡ true).
      let k = known l (inl refl) in
      ⊎_elim
      (λ (is : k.0 ≡ m). absurd
      (not_less l.key m.key gt (sym k.2 ∙ ap (λ (y : StoredMessage). y.key) is)))
      (λ (old : Among k.0 all).
      let no : before l.key m.key ≡ false =
      subst (λ (x : List ℕ). before x m.key ≡ false) k.2 (in_order.0 k.0 old) in absurd (cc))
      k.1)
      w)
      (order.either m.key l.key)
