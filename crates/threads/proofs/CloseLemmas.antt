-- How a cycle is closed.
use Rattle.std.proofs.Common.{◌≡◌, ◌∙◌, ℕ, zero, suc, ◌+◌, ◌<◌, ◌≤◌, Bool, true, false, cond}
use Rattle.std.proofs.Common.{List, [], ◌∷◌, ◌++◌, length, Option, Some, refl, sym, ap, subst}
use Rattle.std.proofs.Common.{reverse}
use Rattle.std.proofs.Common.{◌⊎◌, inl, inr, ⊎_elim, arith, set, slice_get, slice_index}
use Rattle.std.proofs.Common.{take, drop}
use Rattle.std.proofs.lemmas.Bool.{cases_eq}
use Rattle.std.proofs.lemmas.List.{append_assoc, length-append, length-reverse}
use Rattle.std.proofs.lemmas.List.{length-set, reverse-append, reverse-reverse}
use Rattle.std.proofs.lemmas.List.{take-append-drop}
use Rattle.threads.specs.Cycles.{heads_cycle}
use Rattle.threads.specs.Links.{target}
use Rattle.threads.specs.Walk.{CanEnd, ClosesCycle, Each, Ends, EndsAt, Follows, IsClosed}
use Rattle.threads.specs.Walk.{IsOrder}
use Rattle.threads.specs.Walk.{IsWalk, IsWay, KeepsSeen, LeadsTo, State, all_ended, cut_target}
use Rattle.threads.specs.Walk.{is_unseen, mark_at, unseen}
use Rattle.threads.specs.declared.walk.Mark.{Mark}
use Rattle.threads.specs.declared.walk.Mark.TheVariants.{OnWay, Ended}
use Rattle.threads.specs.declared.step.Step.{Step}
use Rattle.threads.proofs.CycleLemmas.{Each-append, Each-join, Each-map, Follows-join}
use Rattle.threads.proofs.CycleLemmas.{Follows-split, cut-head, cycle_ends, head_is, last_or}
use Rattle.threads.proofs.CycleLemmas.{last_or-append, starts}
use Rattle.threads.proofs.WalkLemmas.{IsWay-set, ended_not_on_way, mark-other, mark-same}
use Rattle.threads.proofs.WalkLemmas.{on_way_seen, same_number, seen-mark, seen_within, unseen-mark}
use Rattle.threads.proofs.WalkLemmas.{within-set}

-- a place is one of a list
abbrev pub In : ℕ → List ℕ → Type 0
In p [] = ⊥
In p (x ∷ xs) = (x ≡ p) ⊎ In p xs

pub In-end : (p : ℕ) (xs : List ℕ) → In p (xs ++ p ∷ [])
In-end p [] = inl refl
In-end p (x ∷ xs) = inr (In-end p xs)

pub In-append : (p : ℕ) (xs ys : List ℕ) → In p (xs ++ ys) → In p xs ⊎ In p ys
In-append p [] ys i = inr i
In-append p (x ∷ xs) ys (inl e) = inl (inl e)
In-append p (x ∷ xs) ys (inr i) = ⊎_elim (λ a. inl (inr a)) (λ b. inr b) (In-append p xs ys i)

pub In-left : (p : ℕ) (xs ys : List ℕ) → In p xs → In p (xs ++ ys)
In-left p (x ∷ xs) ys (inl e) = inl e
In-left p (x ∷ xs) ys (inr i) = inr (In-left p xs ys i)
In-left p [] ys i = absurd i

pub In-right : (p : ℕ) (xs ys : List ℕ) → In p ys → In p (xs ++ ys)
In-right p [] ys i = i
In-right p (x ∷ xs) ys i = inr (In-right p xs ys i)

reverse_cons : (x : ℕ) (xs : List ℕ) → reverse (x ∷ xs) ≡ reverse xs ++ x ∷ []
reverse_cons x xs = reverse-append (x ∷ []) xs

pub In-reverse : (p : ℕ) (xs : List ℕ) → In p xs → In p (reverse xs)
In-reverse p [] i = absurd i
In-reverse p (x ∷ xs) (inl e) = subst (In p) (sym (reverse_cons x xs))
    (In-right p (reverse xs) (x ∷ []) (inl e))
In-reverse p (x ∷ xs) (inr i) = subst (In p) (sym (reverse_cons x xs))
    (In-left p (reverse xs) (x ∷ []) (In-reverse p xs i))

pub Each-in : (P : ℕ → Type 0) (xs : List ℕ) (p : ℕ) → Each P xs → In p xs → P p
Each-in P [] p e i = absurd i
Each-in P (x ∷ xs) p e (inl is) = subst P is e.0
Each-in P (x ∷ xs) p e (inr i) = Each-in P xs p e.1 i

pub Each-reverse : (P : ℕ → Type 0) (xs : List ℕ) → Each P xs → Each P (reverse xs)
Each-reverse P [] e = tt
Each-reverse P (x ∷ xs) e = subst (Each P) (sym (reverse_cons x xs))
    (Each-join P (reverse xs) (x ∷ []) (Each-reverse P xs e.1) (e.0, tt))

pub Each-from : (P : ℕ → Type 0) (xs : List ℕ) → ((i : ℕ) → i < length xs
    → P (slice_index xs i)) → Each P xs
Each-from P [] h = tt
Each-from P (x ∷ xs) h = (h 0 (omega arith), Each-from P xs (λ i lt. h (suc i) (omega arith)))

pub Each-both : (P Q : ℕ → Type 0) (xs : List ℕ) → Each P xs → Each Q xs → Each (λ x. P x × Q x) xs
Each-both P Q [] a b = tt
Each-both P Q (x ∷ xs) a b = ((a.0, b.0), Each-both P Q xs a.1 b.1)

-- what is told of each place of a list
pub Each-told : (P : ℕ → Type 0) (xs : List ℕ) → ((p : ℕ) → In p xs → P p) → Each P xs
Each-told P [] h = tt
Each-told P (x ∷ xs) h = (h x (inl refl), Each-told P xs (λ p i. h p (inr i)))

-- a list round one of its places
pub split_round : (xs : List ℕ) (i h : ℕ) → slice_get xs i ≡ Some h
    → (front : List ℕ) × (back : List ℕ) × (xs ≡ front ++ h ∷ back)
split_round [] i h e = cc
split_round (x ∷ xs) zero h e = ([], xs, ap (λ y. y ∷ xs) (same x h e))
  where
    same : (a b : ℕ) → Some a ≡ Some b → a ≡ b
    same a b e = cc
split_round (x ∷ xs) (suc i) h e =
    let r = split_round xs i h e in (x ∷ r.0, r.1, ap (λ l. x ∷ l) r.2)

pub drop_at_place : (way : List ℕ) (n p : ℕ) → slice_get way n ≡ Some p
    → (rest : List ℕ) × (drop n way ≡ p ∷ rest)
drop_at_place [] n p e = cc
drop_at_place (x ∷ way) zero p e = (way, ap (λ y. y ∷ way) (same x p e))
  where
    same : (a b : ℕ) → Some a ≡ Some b → a ≡ b
    same a b e = cc
drop_at_place (x ∷ way) (suc n) p e = drop_at_place way n p e

pub taken_or_dropped : (way : List ℕ) (n i p : ℕ) → slice_get way i ≡ Some p
    → (slice_get (take n way) i ≡ Some p) ⊎ In p (drop n way)
taken_or_dropped way zero i p e = inr (is_in way i p e)
  where
    is_in : (xs : List ℕ) (i p : ℕ) → slice_get xs i ≡ Some p → In p xs
    is_in [] i p e = cc
    is_in (x ∷ xs) zero p e = inl cc
    is_in (x ∷ xs) (suc i) p e = inr (is_in xs i p e)
taken_or_dropped [] (suc n) i p e = cc
taken_or_dropped (x ∷ way) (suc n) zero p e = inl e
taken_or_dropped (x ∷ way) (suc n) (suc i) p e = taken_or_dropped way n i p e

pub slice_get-within : (xs : List ℕ) (n p : ℕ) → slice_get xs n ≡ Some p → n < length xs
slice_get-within [] n p e = cc
slice_get-within (x ∷ xs) zero p e = omega arith
slice_get-within (x ∷ xs) (suc n) p e = omega (arith, slice_get-within xs n p e)

-- marks once places end
pub length-ended : (root : ℕ) (marks : List Mark) (xs : List ℕ)
    → length (all_ended root marks xs) ≡ length marks
length-ended root marks [] = refl
length-ended root marks (x ∷ xs) =
    length-ended root (set marks x (Ended root)) xs ∙ length-set marks x (Ended root)

pub mark-ended : (root : ℕ) (marks : List Mark) (xs : List ℕ) (p : ℕ)
    → Each (λ x. x < length marks) xs
    → (In p xs × (mark_at (all_ended root marks xs) p ≡ Ended root))
    ⊎ ((In p xs → ⊥) × (mark_at (all_ended root marks xs) p ≡ mark_at marks p))
mark-ended root marks [] p e = inr (λ i. i, refl)
mark-ended root marks (x ∷ xs) p e = ⊎_elim
    (λ a. inl (inr a.0, a.1))
    (λ b. ⊎_elim
    (λ is. inl (
      inl (sym is),
      b.1 ∙ ap (mark_at (set marks x (Ended root))) is
          ∙ mark-same marks x (Ended root) e.0,
    ))
    (λ ne. inr (λ i. ⊎_elim (λ is. ne (sym is)) b.0 i, b.1 ∙ mark-other marks x p (Ended root) ne))
    (cases_eq p x))
    (mark-ended root (set marks x (Ended root)) xs p (within-set marks x (Ended root) xs e.1))

pub unseen-ended : (root : ℕ) (marks : List Mark) (xs : List ℕ)
    → Each (λ x. is_unseen (mark_at marks x) ≡ false) xs
    → unseen (all_ended root marks xs) ≡ unseen marks
unseen-ended root marks [] e = refl
unseen-ended root marks (x ∷ xs) e =
    let lt : x < length marks = seen_within marks x e.0 in
    let one : unseen (set marks x (Ended root)) ≡ unseen marks =
    sym (omega arith) ∙ ap (λ b. unseen (set marks x (Ended root)) + cond b 1 0) (sym e.0)
    ∙ unseen-mark marks x (Ended root) lt refl in
    unseen-ended root (set marks x (Ended root)) xs
    (Each-map (λ y. is_unseen (mark_at marks y) ≡ false)
    (λ y. is_unseen (mark_at (set marks x (Ended root)) y) ≡ false)
    (seen-mark marks x (Ended root) lt refl) xs e.1) ∙ one

pub seen-ended : (root : ℕ) (marks : List Mark) (xs : List ℕ) → Each (λ x. x < length marks) xs
    → KeepsSeen marks (all_ended root marks xs)
seen-ended root marks xs e p s = ⊎_elim (λ a. ap is_unseen a.1) (λ b. ap is_unseen b.1 ∙ s)
    (mark-ended root marks xs p e)

-- no number below so many is borne there
abbrev pub Off : List Mark → ℕ → ℕ → Type 0
Off marks n x = (i : ℕ) → i < n → mark_at marks x ≡ OnWay i → ⊥

Off-set : (marks : List Mark) (n r x y : ℕ) → x < length marks → Off marks n y
    → Off (set marks x (Ended r)) n y
Off-set marks n r x y lt off i low e = ⊎_elim
    (λ is. ended_not_on_way i r (sym e ∙ ap (mark_at (set marks x (Ended r))) is
    ∙ mark-same marks x (Ended r) lt))
    (λ ne. off i low (sym (mark-other marks x y (Ended r) ne) ∙ e))
    (cases_eq y x)

module _ (links : List (Option Step)) where
  pub way_within : (marks : List Mark) (ws : List ℕ) → IsWay links marks ws
      → Each (λ p. p < length marks) ws
  way_within marks [] w = tt
  way_within marks (p ∷ ws) w = (seen_within marks p (on_way_seen _ _ w.0), way_within marks ws w.2)

  pub way_seen : (marks : List Mark) (ws : List ℕ) → IsWay links marks ws
      → Each (λ p. is_unseen (mark_at marks p) ≡ false) ws
  way_seen marks [] w = tt
  way_seen marks (p ∷ ws) w = (on_way_seen _ _ w.0, way_seen marks ws w.2)

  pub way_rest : (marks : List Mark) (xs ys : List ℕ) → IsWay links marks (xs ++ ys)
      → IsWay links marks ys
  way_rest marks [] ys w = w
  way_rest marks (x ∷ xs) ys w = way_rest marks xs ys w.2

  pub way_follows : (marks : List Mark) (xs ys : List ℕ) (z : ℕ) → IsWay links marks (xs ++ ys)
      → LeadsTo links (xs ++ ys) (Some z) → Follows links z xs
  way_follows marks [] ys z w l = tt
  way_follows marks (x ∷ xs) ys z w l = (l, way_follows marks xs ys x w.2 w.1)

  pub way_off : (marks : List Mark) (xs ys : List ℕ) → IsWay links marks (xs ++ ys)
      → Each (Off marks (length ys)) xs
  way_off marks [] ys w = tt
  way_off marks (x ∷ xs) ys w = (
    λ i low e. absurd (omega (arith, same_number _ i (sym w.0 ∙ e), length-append xs ys)),
    way_off marks xs ys w.2,
  )

  pub way_ended : (root : ℕ) (marks : List Mark) (xs ws : List ℕ) → Each (λ x. x < length marks) xs
      → Each (Off marks (length ws)) xs → IsWay links marks ws
      → IsWay links (all_ended root marks xs) ws
  way_ended root marks [] ws e off w = w
  way_ended root marks (x ∷ xs) ws e off w = way_ended root (set marks x (Ended root)) xs ws
      (within-set marks x (Ended root) xs e.1)
      (Each-map (Off marks (length ws)) (Off (set marks x (Ended root)) (length ws))
      (λ y o. Off-set marks (length ws) root x y e.0 o) xs off.1)
      (IsWay-set links marks x (Ended root) ws w off.0)

  -- each of the places links to one of them, or to where the first does
  pub follows_in : (z : ℕ) (xs : List ℕ) → Follows links z xs
      → Each (λ x. (q : ℕ) × (target links x ≡ Some q) × ((q ≡ z) ⊎ In q xs)) xs
  follows_in z [] f = tt
  follows_in z (x ∷ xs) f = (
    (z, f.0, inl refl),
    Each-map (λ y. (q : ℕ) × (target links y ≡ Some q) × ((q ≡ x) ⊎ In q xs))
        (λ y. (q : ℕ) × (target links y ≡ Some q) × ((q ≡ z) ⊎ In q (x ∷ xs)))
        (λ y t. (t.0, t.1, inr (⊎_elim (λ e. inl (sym e)) (λ i. inr i) t.2))) xs
        (follows_in x xs f.1),
  )

-- a cycle is left at its first place, which is the root of all its places
module _ (before : ℕ → ℕ → Bool) (count : ℕ) (order : IsOrder before count) (links : List
    (Option Step)) where
  pub behind_head : (h : ℕ) (xs : List ℕ) → h < count
      → Each (λ x. before x h ≡ false) xs → Each (λ x. x < count) xs
      → Each (λ x. (x ≡ h) ⊎ (before h x ≡ true)) xs
  behind_head h [] lt e w = tt
  behind_head h (x ∷ xs) lt e w = (
    ⊎_elim (λ is. inl is) (λ ne. inr (order.total x h w.0 lt ne e.0)) (cases_eq x h),
    behind_head h xs lt e.1 w.1,
  )

  -- round the cycle from its head
  pub turned : (h : ℕ) (front back : List ℕ) → Follows links (last_or h back) (front ++ h ∷ back)
      → Follows links h ((back ++ front) ++ h ∷ [])
  turned h front back f =
      let parts = Follows-split links (last_or h back) front (h ∷ back) f in
      subst (Follows links h) (sym (append_assoc back front (h ∷ [])))
      (Follows-join links h back (front ++ h ∷ []) parts.1.1
      (Follows-join links (last_or h back) front (h ∷ []) parts.0 (parts.1.0, tt)))

  pub cycle_steps : (h : ℕ) (front back : List ℕ) → h < count
      → Follows links (last_or h back) (front ++ h ∷ back)
      → Each (λ x. before x h ≡ false) (front ++ h ∷ back)
      → Each (λ x. x < count) (front ++ h ∷ back)
      → length (front ++ h ∷ back) ≤ length links
      → Each (λ x. (e : ℕ) × (e < length (front ++ h ∷ back)) × Ends
      (cut_target before links) e x h)
      (front ++ h ∷ back)
  cycle_steps h front back lt f least within short =
      let least_parts = Each-append (λ x. before x h ≡ false) front (h ∷ back) least in
      let within_parts = Each-append (λ x. x < count) front (h ∷ back) within in
      let IsBehind : ℕ → Type 0 = λ x. (x ≡ h) ⊎ (before h x ≡ true) in
      let behind : Each IsBehind (back ++ front) = Each-join IsBehind back front
      (behind_head h back lt least_parts.1.1 within_parts.1.1)
      (behind_head h front lt least_parts.0 within_parts.0) in
      let size : length (front ++ h ∷ back) ≡ length (back ++ front) + 1 =
      length-append front (h ∷ back) ∙ (omega arith
      ∙ ap (λ n. n + 1) (sym (length-append back front))) in
      let round = turned h front back f in
      let parts = Follows-split links h (back ++ front) (h ∷ []) round in
      let head : heads_cycle before links h ≡ true =
      head_is before links order h (back ++ front) round behind (omega (arith, size, short)) in
      let P : ℕ → Type 0 = λ x. (e : ℕ) × (e < length (front ++ h ∷ back)) × Ends
      (cut_target before links) e x h in
      let all : Each P (back ++ front) =
      Each-map (λ x. (e : ℕ) × (e ≤ 0 + length (back ++ front)) × Ends
      (cut_target before links) e x h) P
      (λ x s. (s.0, omega (arith, s.1, size), s.2)) (back ++ front)
      (cycle_ends before links order h head (back ++ front) 0 0 h parts.0 behind
      (starts before links order h) (refl, cut-head before links h head)) in
      let both = Each-append P back front all in
      Each-join P front (h ∷ back) both.1
      ((0, omega (arith, size), (refl, cut-head before links h head)), both.0)

  pub cycle_closed : (marks : List Mark) (way : List ℕ) (number place root : ℕ) (new : State)
      → length links ≡ count → IsWalk before links marks way
      → LeadsTo links (reverse way) (Some place) → mark_at marks place ≡ OnWay number
      → ClosesCycle before number (record { marks = marks; way = way }) new root
      → IsClosed before links new.marks new.way root
  cycle_closed marks way number place root new count_is w leads at closes =
      let cycle : List ℕ = drop number way in
      let left : List ℕ = take number way in
      let begun = drop_at_place way number place (w.only place number at) in
      let whole : reverse way ≡ reverse cycle ++ reverse left =
      ap reverse (sym (take-append-drop number way)) ∙ reverse-append left cycle in
      let chained : IsWay links marks (reverse cycle ++ reverse left) = subst
      (IsWay links marks) whole w.chained in
      let leading : LeadsTo links (reverse cycle ++ reverse left) (Some place) =
      subst (λ l. LeadsTo links l (Some place)) whole leads in
      let follows : Follows links place (reverse cycle) = way_follows links marks
      (reverse cycle) (reverse left) place chained leading in
      let last : reverse cycle ≡ reverse begun.0 ++ place ∷ [] = ap reverse begun.1
      ∙ reverse_cons place begun.0 in
      let within_both : Each (λ p. p < length marks) (reverse cycle) =
      (Each-append (λ p. p < length marks) (reverse cycle) (reverse left)
      (way_within links marks _ chained)).0 in
      let within : Each (λ x. x < count) (reverse cycle) =
      subst (λ n. Each (λ x. x < n) (reverse cycle)) (w.long ∙ count_is) within_both in
      let least : Each (λ x. before x root ≡ false) (reverse cycle) =
      Each-reverse (λ x. before x root ≡ false) cycle (Each-from (λ x. before x root
      ≡ false) cycle closes.least) in
      let sizes : length cycle + length left ≡ length way =
      omega (arith, ap length (take-append-drop number way), length-append left cycle) in
      let size : length (reverse cycle) ≡ length cycle = length-reverse cycle in
      let short : length (reverse cycle) ≤ length links = omega (arith, sizes, size, w.fits) in
      let steps : Each (λ x. (e : ℕ) × (e < length (reverse cycle)) × Ends
      (cut_target before links) e x root) (reverse cycle) =
      rounded marks place root cycle closes.among.0 closes.among.1 begun.0 last follows least
      within short in
      let forth : Each (λ p. p < length marks) cycle =
      Each-told (λ p. p < length marks) cycle
      (λ p i. Each-in (λ p. p < length marks) (reverse cycle) p within_both
      (In-reverse p cycle i)) in
      let seen : Each (λ p. is_unseen (mark_at marks p) ≡ false) cycle =
      Each-told (λ p. is_unseen (mark_at marks p) ≡ false) cycle
      (λ p i. Each-in (λ p. is_unseen (mark_at marks p) ≡ false) (reverse cycle) p
      (Each-append (λ p. is_unseen (mark_at marks p) ≡ false) (reverse cycle) (reverse left)
      (way_seen links marks _ chained)).0 (In-reverse p cycle i)) in
      let off : Each (Off marks (length (reverse left))) cycle =
      Each-told (Off marks (length (reverse left))) cycle
      (λ p i. Each-in (Off marks (length (reverse left))) (reverse cycle) p
      (way_off links marks (reverse cycle) (reverse left) chained) (In-reverse p cycle i)) in
      let after : List Mark = all_ended root marks cycle in
      let same_unseen : unseen after ≡ unseen marks = unseen-ended root marks cycle seen in
      let marked = λ (p : ℕ). mark-ended root marks cycle p forth in
      let ended_still : (q s : ℕ) → mark_at marks q ≡ Ended s
      → (t : ℕ) × (mark_at after q ≡ Ended t) =
      λ q s e. ⊎_elim (λ a. (root, a.1)) (λ b. (s, b.1 ∙ e)) (marked q) in
      let to_cycle = follows_in links place (reverse cycle) follows in
      let place_in_cycle : In place cycle = subst (In place) (sym begun.1) (inl refl) in
      let back_in : (q : ℕ) → In q (reverse cycle) → In q cycle = λ q i. In-unreverse q cycle i in
      let walk : IsWalk before links after left = record {
        long = length-ended root marks cycle ∙ w.long;
        chained = way_ended links root marks cycle (reverse left) forth off
            (way_rest links marks (reverse cycle) (reverse left) chained);
        only = λ p i e. ⊎_elim
            (λ a. absurd (ended_not_on_way i root (sym e ∙ a.1)))
            (λ b. ⊎_elim (λ t. t) (λ d. absurd (b.0 d)) (taken_or_dropped way number i p
            (w.only p i (sym b.1 ∙ e))))
            (marked p);
        ended = λ p r e. ⊎_elim
            (λ a.
            let which : root ≡ r = same_root root r (sym a.1 ∙ e) in
            let s = Each-in (λ x. (e : ℕ) × (e < length (reverse cycle)) × Ends
            (cut_target before links) e x root)
            (reverse cycle) p steps (In-reverse p cycle a.0) in
            let t = Each-in (λ x. (q : ℕ) × (target links x ≡ Some q) × ((q
            ≡ place) ⊎ In q (reverse cycle)))
            (reverse cycle) p to_cycle (In-reverse p cycle a.0) in
            record {
              steps = s.0;
              few = omega (arith, s.1, sizes, size, same_unseen, w.fits);
              ends = subst (λ y. Ends (cut_target before links) s.0 p y) which s.2;
              closed = λ q u.
                  let is : t.0 ≡ q = same_place_of t.0 q (sym t.1 ∙ u) in
                  let inside : In q cycle = subst (λ y. In y cycle) is
                  (⊎_elim (λ h. subst (λ y. In y cycle) (sym h) place_in_cycle)
                  (back_in t.0) t.2) in
                  ⊎_elim (λ m. (root, m.1)) (λ m. absurd (m.0 inside)) (marked q);
            })
            (λ b.
            let old = w.ended p r (sym b.1 ∙ e) in
            record {
              steps = old.steps;
              few = omega (arith, old.few, sizes, same_unseen);
              ends = old.ends;
              closed = λ q t. let s = old.closed q t in ended_still q s.0 s.1;
            })
            (marked p);
        fits = omega (arith, w.fits, sizes, same_unseen);
      } in
      let can_end : CanEnd links after (reverse left) root =
      next_end after root place (⊎_elim (λ m. m.1) (λ m. absurd (m.0 place_in_cycle))
      (marked place)) (reverse left)
      (last_leads marks (reverse begun.0) place (reverse left)
      (subst (λ l. IsWay links marks (l ++ reverse left)) last chained)) in
      subst (λ m. IsClosed before links m new.way root) (sym closes.marks)
      (subst (λ l. IsClosed before links after l root) (sym closes.way)
      (record { walk = walk; can_end = can_end }))
    where
      same_root : (r s : ℕ) → Ended r ≡ Ended s → r ≡ s
      same_root r s e = cc

      same_place_of : (r s : ℕ) → Some r ≡ Some s → r ≡ s
      same_place_of r s e = cc

      In-unreverse : (q : ℕ) (xs : List ℕ) → In q (reverse xs) → In q xs
      In-unreverse q xs i = subst (In q) (reverse-reverse xs) (In-reverse q (reverse xs) i)

      next_end : (marks : List Mark) (root place : ℕ) → mark_at marks place ≡ Ended root
          → (ws : List ℕ)
          → LeadsTo links ws (Some place) → CanEnd links marks ws root
      next_end marks root place e [] l = tt
      next_end marks root place e (q ∷ ws) l = subst (EndsAt marks root q) (sym l) e

      last_leads : (marks : List Mark) (xs : List ℕ) (place : ℕ) (ys : List ℕ)
          → IsWay links marks ((xs ++ place ∷ []) ++ ys) → LeadsTo links ys (Some place)
      last_leads marks [] place ys w = w.1
      last_leads marks (x ∷ xs) place ys w = last_leads marks xs place ys w.2

      rounded : (marks : List Mark) (place root : ℕ) (cycle : List ℕ) (i : ℕ)
          → slice_get cycle i ≡ Some root
          → (rest : List ℕ) → reverse cycle ≡ reverse rest ++ place ∷ []
          → Follows links place (reverse cycle) → Each (λ x. before x root ≡ false) (reverse cycle)
          → Each (λ x. x < count) (reverse cycle) → length (reverse cycle) ≤ length links
          → Each (λ x. (e : ℕ) × (e < length (reverse cycle)) × Ends
          (cut_target before links) e x root) (reverse cycle)
      rounded marks place root cycle i among rest last follows least within short =
          let r = split_round cycle i root among in
          let front : List ℕ = reverse r.1 in
          let back : List ℕ = reverse r.0 in
          let is : reverse cycle ≡ front ++ root ∷ back =
          ap reverse r.2 ∙ reverse-append r.0 (root ∷ r.1)
          ∙ ap (λ l. l ++ reverse r.0) (reverse_cons root r.1)
          ∙ append_assoc (reverse r.1) (root ∷ []) (reverse r.0) in
          let ends_at : place ≡ last_or root back =
          sym (last_or-append place (reverse rest) place []) ∙ ap (last_or place) (sym last ∙ is)
          ∙ last_or-append place front root back in
          let lt : root < count =
          (Each-append (λ x. x < count) front (root ∷ back) (subst (Each
          (λ x. x < count)) is within)).1.0 in
          subst (λ l. Each (λ x. (e : ℕ) × (e < length l) × Ends
          (cut_target before links) e x root) l) (sym is)
          (cycle_steps root front back lt
          (subst (λ z. Follows links z (front ++ root ∷ back)) ends_at (subst
          (Follows links place) is follows))
          (subst (Each (λ x. before x root
          ≡ false)) is least) (subst (Each (λ x. x < count)) is within)
          (subst (λ l. length l ≤ length links) is short))

pub drop_within : (P : ℕ → Type 0) (n : ℕ) (xs : List ℕ) → Each P xs → Each P (drop n xs)
drop_within P zero xs e = e
drop_within P (suc n) [] e = e
drop_within P (suc n) (x ∷ xs) e = drop_within P n xs e.1

-- the places of a walk's way are places
pub walk_within : (before : ℕ → ℕ
    → Bool) (links : List (Option Step)) (marks : List Mark) (way : List ℕ)
    → IsWalk before links marks way → Each (λ p. p < length marks) way
walk_within before links marks way w = Each-told (λ p. p < length marks) way
    (λ p i. Each-in (λ p. p < length marks) (reverse way) p (way_within links marks
    (reverse way) w.chained)
    (In-reverse p way i))
