-- Steps from a place up to another.
use Rattle.std.proofs.Common.{◌≡◌, ◌∙◌, ℕ, zero, suc, ◌<◌, ◌≤◌, ◌||◌, ◌==◌, Bool, true, false}
use Rattle.std.proofs.Common.{List, length, Option, Some, None, ap, arith, sym, refl, subst}
use Rattle.std.proofs.Common.{is_some, ⊎_elim, eq-eqb}
use Rattle.std.specs.Option.{option_map_or}
use Rattle.std.proofs.lemmas.Bool.{cases_Bool, eqb-true, false≢true}
use Rattle.threads.specs.Forest.{Ends}
use Rattle.index_order.specs.Inner.{IsForestOf, is_below, link_at}
use Rattle.index_order.specs.Order.{leads_to}

pub none_some : (q : ℕ) → None ≡ Some q → ⊥
none_some q e = cc

pub same_some : (p q : ℕ) → Some p ≡ Some q → p ≡ q
same_some p q e = cc

pub or_false : (b : Bool) → (b || false) ≡ b
or_false true = refl
or_false false = refl

-- a place leads to itself
pub itself : (parent : ℕ → Option ℕ) (n p : ℕ) → leads_to parent n p p ≡ true
itself parent zero p = eq-eqb p p refl
itself parent (suc n) p =
    ap (λ (b : Bool). b || option_map_or (leads_to parent n p) (parent p) false) (eq-eqb p p refl)

none_leads : (parent : ℕ → Option ℕ) (n top p : ℕ) → parent p ≡ None
    → leads_to parent n top p ≡ (p == top)
none_leads parent zero top p is = refl
none_leads parent (suc n) top p is =
    ap (λ (o : Option ℕ). (p == top) || option_map_or (leads_to parent n top) o false) is
    ∙ or_false (p == top)

-- more steps than there are to the end lead nowhere else
enough : (parent : ℕ → Option ℕ) (d n m p r top : ℕ) → Ends parent d p r → d ≤ n → d ≤ m
    → leads_to parent n top p ≡ leads_to parent m top p
enough parent zero n m p r top e one other =
    none_leads parent n top p e.1 ∙ sym (none_leads parent m top p e.1)
enough parent (suc d) zero m p r top e one other = absurd (omega arith)
enough parent (suc d) (suc n) zero p r top e one other = absurd (omega arith)
enough parent (suc d) (suc n) (suc m) p r top e one other =
    let q = e.0 in
    ap (λ (o : Option ℕ). (p == top) || option_map_or (leads_to parent n top) o false) e.1
    ∙ ap (λ (b : Bool). (p == top) || b)
    (enough parent d n m q r top e.2 (omega (arith, one)) (omega (arith, other)))
    ∙ sym (ap (λ (o : Option ℕ). (p == top) || option_map_or (leads_to parent m top) o false) e.1)

-- a place is below another where it is that one, or the place above it is below that one
pub below_step : (above : List (Option ℕ)) → IsForestOf above → (top p : ℕ) → p < length above
    → is_below above top p
    ≡ ((p == top) || option_map_or (is_below above top) (link_at above p) false)
below_step above forest top p lt =
    let e = forest.ends p lt in
    enough (link_at above) e.0 (length above) (suc (length above)) p e.2.0 top e.2.1 e.1
    (omega (arith, e.1))

-- how many steps there are to the end
abbrev pub height : (ℕ → Option ℕ) → ℕ → ℕ → ℕ
height parent zero p = 0
height parent (suc n) p = option_map_or (λ q. suc (height parent n q)) (parent p) 0

steps : (parent : ℕ → Option ℕ) (d n p r : ℕ) → Ends parent d p r → d ≤ n → height parent n p ≡ d
steps parent zero zero p r e le = refl
steps parent zero (suc n) p r e le =
    ap (λ (o : Option ℕ). option_map_or (λ q. suc (height parent n q)) o 0) e.1
steps parent (suc d) zero p r e le = absurd (omega arith)
steps parent (suc d) (suc n) p r e le =
    ap (λ (o : Option ℕ). option_map_or (λ q. suc (height parent n q)) o 0) e.1
    ∙ ap (λ (k : ℕ). suc k) (steps parent d n e.0 r e.2 (omega arith))

falls_by : (parent : ℕ → Option ℕ) (d n p q r : ℕ) → Ends parent d p r → d ≤ n → parent p ≡ Some q
    → height parent n q < height parent n p
falls_by parent zero n p q r e le is = absurd (none_some q (sym e.1 ∙ is))
falls_by parent (suc d) n p q r e le is =
    let there : Ends parent d q r = subst (λ k. Ends parent d k r)
    (same_some e.0 q (sym e.1 ∙ is)) e.2 in
    let low = steps parent d n q r there (omega arith) in
    let high = steps parent (suc d) n p r e le in
    omega (arith, low, high)

-- fewer steps lead from the place above
pub height_falls : (above : List (Option ℕ)) → IsForestOf above → (p q : ℕ) → p < length above
    → link_at above p ≡ Some q
    → height (link_at above) (length above) q < height (link_at above) (length above) p
height_falls above forest p q lt is =
    let e = forest.ends p lt in
    falls_by (link_at above) e.0 (length above) p q e.2.0 e.2.1 e.1 is

-- fewer steps lead from where a link leads, if it leads on
pub next_falls : (above : List (Option ℕ)) → IsForestOf above → (p : ℕ) → p < length above
    → option_map_or (λ q. suc (height (link_at above) (length above) q)) (link_at above p) 0
    < suc (height (link_at above) (length above) p)
next_falls above forest p lt = by_link (link_at above p) refl
  where
    by_link : (o : Option ℕ) → link_at above p ≡ o
        → option_map_or (λ q. suc (height (link_at above) (length above) q)) o 0
        < suc (height (link_at above) (length above) p)
    by_link None is = omega arith
    by_link (Some q) is = let less = height_falls above forest p q lt is in omega (arith, less)

-- a value at a place stands at each place above it too
pub valued_above : (above values : List (Option ℕ))
    → ((p q : ℕ) → is_some (link_at values p) ≡ true → link_at above p ≡ Some q
    → is_some (link_at values q) ≡ true)
    → (n top p : ℕ) → leads_to (link_at above) n top p ≡ true → is_some (link_at values p) ≡ true
    → is_some (link_at values top) ≡ true
valued_above above values closed zero top p e valued =
    subst (λ (k : ℕ). is_some (link_at values k) ≡ true) (eqb-true p top e) valued
valued_above above values closed (suc n) top p e valued = ⊎_elim
    (λ here. subst (λ (k : ℕ). is_some (link_at values k) ≡ true) (eqb-true p top here) valued)
    (λ there. by_link (λ q. valued_above above values closed n top q) (link_at above p) refl
    (sym (ap (λ (b : Bool). b || option_map_or (leads_to (link_at above) n top)
    (link_at above p) false) there) ∙ e))
    (cases_Bool (p == top))
  where
    by_link : ((q : ℕ) → leads_to (link_at above) n top q ≡ true
        → is_some (link_at values q) ≡ true → is_some (link_at values top) ≡ true)
        → (o : Option ℕ) → link_at above p ≡ o
        → option_map_or (leads_to (link_at above) n top) o false ≡ true
        → is_some (link_at values top) ≡ true
    by_link again None is more = absurd (false≢true more)
    by_link again (Some q) is more = again q more (closed p q valued is)
