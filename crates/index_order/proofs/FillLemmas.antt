-- Values that are filled from a place up.
use Rattle.std.proofs.Common.{◌≡◌, ◌∙◌, ℕ, ◌<◌, ◌||◌, ◌==◌, Bool, true, false, inl, inr}
use Rattle.std.proofs.Common.{List, length, set, Option, Some, None, ap, sym, refl, subst}
use Rattle.std.proofs.Common.{is_some, ⊎_elim, if◌then◌else◌}
use Rattle.std.specs.Option.{option_map_or, option_or}
use Rattle.std.proofs.lemmas.Bool.{cases_Bool, eqb-true, eqb-false, false≢true}
use Rattle.std.proofs.lemmas.List.{get_or-set_other, get_or-set_same, length-set}
use Rattle.index_order.specs.Inner.{AreValues, Fills, IsFilling, IsForestOf}
use Rattle.index_order.specs.Inner.{is_below, link_at, value_with, without_value}
use Rattle.index_order.proofs.LinkLemmas.{below_step, itself, none_some, same_some, valued_above}

pub filling_starts : (above values : List (Option ℕ)) (place : ℕ) → AreValues above values
    → place < length above → IsFilling above values values place (Some place)
filling_starts above values place v lt = record {
  long = v.long;
  within = λ p e. subst (λ (k : ℕ). k < length above) (same_some place p e) lt;
  closed = λ p q valued is. ⊎_elim (λ w. inl w) (λ e. absurd (none_some q e))
      (v.closed p q valued is);
  each = λ top low. refl;
}

-- the next place gets its value
pub filled_more : (above old new : List (Option ℕ)) (place here : ℕ) → IsForestOf above
    → IsFilling above old new place (Some here) → link_at new here ≡ None
    → IsFilling above old (set new here (Some place)) place (link_at above here)
filled_more above old new place here forest f empty = record {
  long = length-set new here (Some place) ∙ f.long;
  within = λ p e. forest.within here p e;
  closed = λ p q valued is. ⊎_elim
      (λ e. inr (ap (link_at above) (eqb-true here p e) ∙ is))
      (λ ne. ⊎_elim (λ w. inl (still q w))
      (λ e. inl (subst (λ (k : ℕ). is_some (link_at filled k) ≡ true) (same_some here q e) now))
      (f.closed p q (sym (ap is_some (other p ne)) ∙ valued) is))
      (cases_Bool (here == p));
  each = λ top low. ⊎_elim (λ e. same_top top (eqb-true here top e))
      (λ ne. other_top top ne) (cases_Bool (here == top)) ∙ f.each top low;
}
  where
    filled : List (Option ℕ)
    filled = set new here (Some place)

    lt : here < length above
    lt = f.within here refl

    put : link_at filled here ≡ Some place
    put = get_or-set_same new here (Some place) None
        (subst (λ (k : ℕ). here < k) (sym f.long) lt)

    now : is_some (link_at filled here) ≡ true
    now = ap is_some put

    other : (p : ℕ) → (here == p) ≡ false → link_at filled p ≡ link_at new p
    other p ne =
        get_or-set_other new here p (Some place) None (λ z. eqb-false here p ne (sym z))

    still : (q : ℕ) → is_some (link_at new q) ≡ true → is_some (link_at filled q) ≡ true
    still q w = ⊎_elim
        (λ e. subst (λ (k : ℕ). is_some (link_at filled k) ≡ true) (eqb-true here q e) now)
        (λ ne. ap is_some (other q ne) ∙ w) (cases_Bool (here == q))

    same_here : value_with above filled place (link_at above here) here
        ≡ value_with above new place (Some here) here
    same_here =
        ap (λ (o : Option ℕ). option_or o (if option_map_or (is_below above here)
        (link_at above here) false then Some place else None)) put
        ∙ sym (ap (λ (o : Option ℕ). option_or o
        (if is_below above here here then Some place else None)) empty
        ∙ ap (λ (b : Bool). if b then Some place else None)
        (itself (link_at above) (length above) here))

    same_top : (top : ℕ) → here ≡ top → value_with above filled place (link_at above here) top
        ≡ value_with above new place (Some here) top
    same_top top e = subst (λ (k : ℕ). value_with above filled place (link_at above here) k
        ≡ value_with above new place (Some here) k) e same_here

    other_top : (top : ℕ) → (here == top) ≡ false
        → value_with above filled place (link_at above here) top
        ≡ value_with above new place (Some here) top
    other_top top ne =
        ap (λ (o : Option ℕ). option_or o (if option_map_or (is_below above top)
        (link_at above here) false then Some place else None)) (other top ne)
        ∙ ap (λ (b : Bool). option_or (link_at new top) (if b then Some place else None))
        (sym (below_step above forest top here lt
        ∙ ap (λ (b : Bool). b || option_map_or (is_below above top) (link_at above here) false) ne))

-- a place from which nothing is left to be filled has a value, if there is one
valued_at : (values : List (Option ℕ)) (next : Option ℕ) (q : ℕ) → without_value values next ≡ None
    → next ≡ Some q → is_some (link_at values q) ≡ true
valued_at values next q done is =
    by_value (is_some (link_at values q)) (sym (ap (without_value values) is) ∙ done)
  where
    by_value : (b : Bool) → (if b then None else Some q) ≡ None → b ≡ true
    by_value true none = refl
    by_value false none = absurd (none_some q (sym none))

pub filled_all : (above old new : List (Option ℕ)) (place : ℕ) (next : Option ℕ)
    → IsFilling above old new place next → without_value new next ≡ None
    → Fills above old new place
filled_all above old new place next f done = record {
  values = record { long = f.long; closed = λ p q valued is. inl (closed p q valued is) };
  each = λ top low. kept top (link_at new top) refl ∙ f.each top low;
}
  where
    closed : (p q : ℕ) → is_some (link_at new p) ≡ true → link_at above p ≡ Some q
        → is_some (link_at new q) ≡ true
    closed p q valued is = ⊎_elim (λ w. w) (valued_at new next q done) (f.closed p q valued is)

    by_next : (top : ℕ) (o : Option ℕ) → next ≡ o → link_at new top ≡ None
        → option_map_or (is_below above top) o false ≡ true → ⊥
    by_next top None is none e = false≢true e
    by_next top (Some q) is none e =
        false≢true (sym (ap is_some none)
        ∙ valued_above above new closed (length above) top q e (valued_at new next q done is))

    kept : (top : ℕ) (o : Option ℕ) → link_at new top ≡ o
        → link_at new top ≡ value_with above new place next top
    kept top (Some v) is = is ∙ sym (ap (λ (o : Option ℕ). option_or o
        (if option_map_or (is_below above top) next false then Some place else None)) is)
    kept top None is = is ∙ sym (ap (λ (o : Option ℕ). option_or o
        (if option_map_or (is_below above top) next false then Some place else None)) is
        ∙ ⊎_elim (λ e. absurd (by_next top next refl is e))
        (λ ne. ap (λ (b : Bool). if b then Some place else None) ne)
        (cases_Bool (option_map_or (is_below above top) next false)))

-- where a value is left to be put, and that there is none yet
pub next_is : (values : List (Option ℕ)) (next : Option ℕ) (here : ℕ)
    → without_value values next ≡ Some here → (next ≡ Some here) × (link_at values here ≡ None)
next_is values None here e = absurd (none_some here e)
next_is values (Some p) here e = by_value (link_at values p) refl e
  where
    by_value : (o : Option ℕ) → link_at values p ≡ o
        → (if is_some o then None else Some p) ≡ Some here
        → (Some p ≡ Some here) × (link_at values here ≡ None)
    by_value (Some v) is e = absurd (none_some here e)
    by_value None is e =
        (e, ap (link_at values) (sym (same_some p here e)) ∙ is)
