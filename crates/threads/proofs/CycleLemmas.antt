-- Which places head a cycle, and where links lead once cycles are cut.
use Rattle.std.proofs.Common.{◌≡◌, ◌∙◌, ℕ, zero, suc, ◌+◌, ◌≤◌, Bool, true, false, ◌&&◌}
use Rattle.std.proofs.Common.{◌||◌, ◌==◌}
use Rattle.std.proofs.Common.{List, [], ◌∷◌, ◌++◌, length, Option, Some, None, option_map, refl}
use Rattle.std.proofs.Common.{sym, ap, subst}
use Rattle.std.proofs.Common.{◌⊎◌, ⊎_elim, arith, get_or, eq-eqb}
use Rattle.std.specs.Prelude.{if◌then◌else◌}
use Rattle.std.proofs.lemmas.Bool.{cases_Bool, false_from_ne_true, false≢true}
use Rattle.std.proofs.lemmas.Bool.Decides.{nat_tests}
use Rattle.threads.specs.Cycles.{meets, comes_to, heads_cycle}
use Rattle.threads.specs.Links.{target}
use Rattle.threads.specs.Walk.{Each, Ends, Follows, IsOrder, cut_target}
use Rattle.threads.specs.declared.step.Step.{Step}

pub Each-append : (P : ℕ → Type 0) (xs ys : List ℕ) → Each P (xs ++ ys) → Each P xs × Each P ys
Each-append P [] ys e = (tt, e)
Each-append P (x ∷ xs) ys e = let r = Each-append P xs ys e.1 in ((e.0, r.0), r.1)

pub Each-join : (P : ℕ → Type 0) (xs ys : List ℕ) → Each P xs → Each P ys → Each P (xs ++ ys)
Each-join P [] ys a b = b
Each-join P (x ∷ xs) ys a b = (a.0, Each-join P xs ys a.1 b)

pub Each-map : (P Q : ℕ → Type 0) → ((x : ℕ) → P x → Q x) → (xs : List ℕ) → Each P xs → Each Q xs
Each-map P Q f [] e = tt
Each-map P Q f (x ∷ xs) e = (f x e.0, Each-map P Q f xs e.1)

-- the last place of a list, or this one
abbrev pub last_or : ℕ → List ℕ → ℕ
last_or p [] = p
last_or p (x ∷ xs) = last_or x xs

pub last_or-append : (p : ℕ) (xs : List ℕ) (h : ℕ) (ys : List ℕ)
    → last_or p (xs ++ h ∷ ys) ≡ last_or h ys
last_or-append p [] h ys = refl
last_or-append p (x ∷ xs) h ys = last_or-append x xs h ys

pub Follows-split : (links : List (Option Step)) (p : ℕ) (xs ys : List ℕ)
    → Follows links p (xs ++ ys)
    → Follows links p xs × Follows links (last_or p xs) ys
Follows-split links p [] ys f = (tt, f)
Follows-split links p (x ∷ xs) ys f = let r = Follows-split links x xs ys f.1 in ((f.0, r.0), r.1)

pub Follows-join : (links : List (Option Step)) (p : ℕ) (xs ys : List ℕ) → Follows links p xs
    → Follows links (last_or p xs) ys → Follows links p (xs ++ ys)
Follows-join links p [] ys a b = b
Follows-join links p (x ∷ xs) ys a b = (a.0, Follows-join links x xs ys a.1 b)

or_left : (a b : Bool) → a ≡ true → a || b ≡ true
or_left a b e = ap (λ v. v || b) e

or_right : (a b : Bool) → b ≡ true → a || b ≡ true
or_right true b e = refl
or_right false b e = e

and_both : (a b : Bool) → a ≡ true → b ≡ true → a && b ≡ true
and_both a b e f = ap (λ v. v && b) e ∙ f

and_first : (a b : Bool) → a && b ≡ true → a ≡ true
and_first true b e = refl
and_first false b e = e

and_second : (a b : Bool) → a && b ≡ true → b ≡ true
and_second true b e = e
and_second false b e = absurd (false≢true e)

pub same_place : (a : ℕ) → (a == a) ≡ true
same_place a = eq-eqb a a refl

pub is_place : (a b : ℕ) → (a == b) ≡ true → a ≡ b
is_place a b e = grind (arith, nat_tests)

module _ (before : ℕ → ℕ → Bool) (links : List (Option Step)) where
  -- where a place leads once cycles are cut
  abbrev pub cut : ℕ → Option ℕ
  cut p = cut_target before links p

  abbrev pub heads : ℕ → Bool
  heads p = heads_cycle before links p

  pub cut-head : (p : ℕ) → heads p ≡ true → cut p ≡ None
  cut-head p e = ap (λ b. option_map (λ (s : Step). s.place)
      (if b then None else get_or links p None)) e

  pub cut-other : (p : ℕ) → heads p ≡ false → cut p ≡ target links p
  cut-other p e = ap (λ b. option_map (λ (s : Step). s.place)
      (if b then None else get_or links p None)) e

  -- no place outside is met from within what links do not leave
  module _ (S : ℕ → Type 0) (closed : (p q : ℕ) → S p → target links p ≡ Some q → S q) (w : ℕ)
      (out : S w → ⊥) where
    stays_by : (n : ℕ) → ((q : ℕ) → S q → comes_to before links w n q ≡ false)
        → (t : Option ℕ) → ((q : ℕ) → t ≡ Some q → S q)
        → meets before (comes_to before links w n) w t ≡ false
    stays_by n more None s = refl
    stays_by n more (Some q) s =
        let apart : (q == w) ≡ false = false_from_ne_true (q == w) (λ e. out (subst S
        (is_place q w e) (s q refl))) in
        let never : comes_to before links w n q ≡ false = more q (s q refl) in
        ap (λ b. b || (before w q && comes_to before links w n q)) apart
        ∙ ap (λ b. before w q && b) never
        ∙ elim (before w q) as (λ b. b && false ≡ false) [ true ↦ refl | false ↦ refl ]

    pub stays : (n p : ℕ) → S p → comes_to before links w n p ≡ false
    stays zero p s = refl
    stays (suc n) p s = stays_by n (stays n) (target links p) (λ q e. closed p q s e)

    pub heads_none : ((q : ℕ) → target links w ≡ Some q → S q) → heads w ≡ false
    heads_none s = by (length links)
      where
        by : (n : ℕ) → comes_to before links w n w ≡ false
        by zero = refl
        by (suc n) = stays_by n (stays n) (target links w) s

  -- more steps do no harm
  more_steps_by : (h m n : ℕ) → ((p : ℕ) → comes_to before links h m p ≡ true
      → comes_to before links h n p ≡ true)
      → (t : Option ℕ) → meets before (comes_to before links h m) h t ≡ true
      → meets before (comes_to before links h n) h t ≡ true
  more_steps_by h m n more None e = e
  more_steps_by h m n more (Some q) e = ⊎_elim
      (λ same. or_left (q == h) _ same)
      (λ apart.
      let rest : before h q && comes_to before links h m q ≡ true =
      sym (ap (λ b. b || (before h q && comes_to before links h m q)) apart) ∙ e in
      or_right (q == h) _ (and_both (before h q) _ (and_first (before h q) _ rest)
      (more q (and_second (before h q) _ rest))))
      (cases_Bool (q == h))

  pub more_steps : (h m n p : ℕ) → m ≤ n → comes_to before links h m p ≡ true
      → comes_to before links h n p ≡ true
  more_steps h zero n p le e = absurd (false≢true e)
  more_steps h (suc m) zero p le e = absurd (omega arith)
  more_steps h (suc m) (suc n) p le e =
      more_steps_by h m n (λ q. more_steps h m n q (omega arith)) (target links p) e

  module _ {count : ℕ} (order : IsOrder before count) where
    irreflexive : (a : ℕ) → before a a ≡ true → ⊥
    irreflexive a e = false≢true (sym (order.never a) ∙ e)

    -- no cycle has two heads
    one_head_by : (m q k' : ℕ) → before m q ≡ true → comes_to before links q k' q ≡ true
        → (n k : ℕ) → ((j p : ℕ) → comes_to before links m n p ≡ true
        → comes_to before links q j p ≡ true → ⊥)
        → (t : Option ℕ) → meets before (comes_to before links m n) m t ≡ true
        → meets before (comes_to before links q k) q t ≡ true → ⊥
    one_head_by m q k' lt own n k more None a b = false≢true a
    one_head_by m q k' lt own n k more (Some x) a b = ⊎_elim
        (λ at_m. ⊎_elim
        (λ at_q. irreflexive m (subst (λ y. before m y ≡ true) (sym (is_place x q at_q)
        ∙ is_place x m at_m) lt))
        (λ off_q.
        let rest : before q x && comes_to before links q k x ≡ true =
        sym (ap (λ b. b || (before q x && comes_to before links q k x)) off_q) ∙ b in
        irreflexive m (order.chain m q m lt
        (subst (λ y. before q y ≡ true) (is_place x m at_m) (and_first (before q x) _ rest))))
        (cases_Bool (x == q)))
        (λ off_m.
        let left : before m x && comes_to before links m n x ≡ true =
        sym (ap (λ b. b || (before m x && comes_to before links m n x)) off_m) ∙ a in
        let onward : comes_to before links m n x ≡ true = and_second (before m x) _ left in
        ⊎_elim
        (λ at_q. more k' x onward
        (subst (λ y. comes_to before links q k' y ≡ true) (sym (is_place x q at_q)) own))
        (λ off_q.
        let rest : before q x && comes_to before links q k x ≡ true =
        sym (ap (λ b. b || (before q x && comes_to before links q k x)) off_q) ∙ b in
        more k x onward (and_second (before q x) _ rest))
        (cases_Bool (x == q)))
        (cases_Bool (x == m))

    -- no cycle has two heads
    pub one_head : (m q k' : ℕ) → before m q ≡ true → comes_to before links q k' q ≡ true
        → (n k p : ℕ) → comes_to before links m n p ≡ true → comes_to before links q k p ≡ true → ⊥
    one_head m q k' lt own zero k p a b = false≢true a
    one_head m q k' lt own (suc n) zero p a b = false≢true b
    one_head m q k' lt own (suc n) (suc k) p a b =
        one_head_by m q k' lt own n k (λ j x. one_head m q k' lt own n j x) (target links p) a b

    -- round a cycle from its first place: each place before that leads to it
    module _ (h : ℕ) where
      abbrev IsBehind : ℕ → Type 0
      IsBehind x = (x ≡ h) ⊎ (before h x ≡ true)

      abbrev Meets : ℕ → ℕ → Type 0
      Meets n p = meets before (comes_to before links h n) h (Some p) ≡ true

      step_back : (n p x : ℕ) → target links x ≡ Some p → Meets n p
          → comes_to before links h (suc n) x ≡ true
      step_back n p x e m = ap (meets before (comes_to before links h n) h) e ∙ m

      meets_next : (n x : ℕ) → IsBehind x → comes_to before links h n x ≡ true → Meets n x
      meets_next n x b c = ⊎_elim
          (λ is. or_left (x == h) _ (eq-eqb x h is))
          (λ lt. or_right (x == h) _ (and_both (before h x) _ lt c)) b

      pub round : (xs : List ℕ) (n p : ℕ) → Follows links p (xs ++ h ∷ []) → Each IsBehind xs
          → Meets n p
          → (m : ℕ) × (m ≤ n + length xs + 1) × (comes_to before links h m h ≡ true)
      round [] n p f e m = (suc n, omega arith, step_back n p h f.0 m)
      round (x ∷ xs) n p f e m =
          let next : Meets (suc n) x = meets_next (suc n) x e.0 (step_back n p x f.0 m) in
          let r = round xs (suc n) x f.1 e.1 next in
          (r.0, omega (arith, r.1), r.2)

      pub starts : Meets 0 h
      starts = or_left (h == h) _ (same_place h)

      pub head_is : (xs : List ℕ) → Follows links h (xs ++ h ∷ []) → Each IsBehind xs
          → length xs + 1 ≤ length links → heads h ≡ true
      head_is xs f e short =
          let r = round xs 0 h f e starts in
          more_steps h r.0 (length links) h (omega (arith, r.1)) r.2

      -- and each place of the cycle ends there
      pub cycle_ends : heads h ≡ true → (xs : List ℕ) (n d p : ℕ) → Follows links p xs
          → Each IsBehind xs
          → Meets n p → Ends cut d p h
          → Each (λ x. (e : ℕ) × (e ≤ d + length xs) × Ends cut e x h) xs
      cycle_ends first [] n d p f e m ends = tt
      cycle_ends first (x ∷ xs) n d p f e m ends =
          let come : comes_to before links h (suc n) x ≡ true = step_back n p x f.0 m in
          let own : (k : ℕ) × (k ≤ suc d) × Ends cut k x h =
          ⊎_elim
          (λ is. (0, omega arith, (is, cut-head x (subst (λ y. heads y ≡ true) (sym is) first))))
          (λ lt. (
            suc d,
            omega arith,
            (
              p,
              cut-other x (false_from_ne_true (heads x)
                  (λ other. one_head h x (length links) lt other (suc n)
                  (length links) x come other))
                  ∙ f.0,
              ends,
            ),
          )) e.0 in
          let rest = cycle_ends first xs (suc n) own.0 x f.1 e.1 (meets_next
          (suc n) x e.0 come) own.2 in (
            (own.0, omega (arith, own.1), own.2),
            Each-map (λ y. (k : ℕ) × (k ≤ own.0 + length xs) × Ends cut k y h)
                (λ y. (k : ℕ) × (k ≤ d + length (x ∷ xs)) × Ends cut k y h)
                (λ y s. (s.0, omega (arith, s.1, own.1), s.2)) xs rest,
          )
