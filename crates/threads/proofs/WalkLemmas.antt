-- How the marks and the way change while links are followed.
use Rattle.std.proofs.Common.{◌≡◌, ◌∙◌, ℕ, zero, suc, ◌+◌, ◌<◌, Bool, true, false}
use Rattle.std.proofs.Common.{cond}
use Rattle.std.proofs.Common.{List, [], ◌∷◌, ◌++◌, length, Option, Some, None, refl, sym, ap, subst}
use Rattle.std.proofs.Common.{reverse}
use Rattle.std.proofs.Common.{◌⊎◌, inl, inr, ⊎_elim, arith, set, slice_get}
use Rattle.std.proofs.lemmas.Bool.{cases_eq, cases_lt, false≢true}
use Rattle.std.proofs.lemmas.List.{get_or-set_same, get_or-set_other, get_or_past, length-set}
use Rattle.std.proofs.lemmas.List.{length-reverse, reverse-append, length_push}
use Rattle.std.proofs.lemmas.List.Sums.{sum_by-set}
use Rattle.threads.specs.Cycles.{heads_cycle}
use Rattle.threads.specs.Links.{target}
use Rattle.threads.specs.Walk.{Each, CanEnd, EndsAt, Ends, IsClosed, IsWalk}
use Rattle.threads.specs.Walk.{IsWay, KeepsSeen}
use Rattle.threads.specs.Walk.{LeadsTo, cut_target, is_unseen, mark_at, unseen}
use Rattle.threads.specs.declared.walk.Mark.{Mark}
use Rattle.threads.specs.declared.walk.Mark.TheVariants.{Unseen, OnWay, Ended}
use Rattle.threads.specs.declared.step.Step.{Step}
use Rattle.threads.proofs.CycleLemmas.{cut-other, heads_none}

pub mark-same : (marks : List Mark) (p : ℕ) (m : Mark) → p < length marks
    → mark_at (set marks p m) p ≡ m
mark-same marks p m lt = get_or-set_same marks p m Unseen lt

pub mark-other : (marks : List Mark) (p q : ℕ) (m : Mark) → (q ≡ p → ⊥)
    → mark_at (set marks p m) q ≡ mark_at marks q
mark-other marks p q m ne = get_or-set_other marks p q m Unseen ne

-- a place that bears a mark is there
pub seen_within : (marks : List Mark) (p : ℕ) → is_unseen (mark_at marks p) ≡ false
    → p < length marks
seen_within marks p s = ⊎_elim (λ lt. lt)
    (λ past. absurd (false≢true (sym s ∙ ap is_unseen (get_or_past marks p Unseen past))))
    (cases_lt p (length marks))

pub unseen_at : (m : Mark) → is_unseen m ≡ true → m ≡ Unseen
unseen_at Unseen e = refl
unseen_at (OnWay i) e = absurd (false≢true e)
unseen_at (Ended r) e = absurd (false≢true e)

pub on_way_seen : (m : Mark) (i : ℕ) → m ≡ OnWay i → is_unseen m ≡ false
on_way_seen m i e = ap is_unseen e

pub ended_seen : (m : Mark) (r : ℕ) → m ≡ Ended r → is_unseen m ≡ false
ended_seen m r e = ap is_unseen e

pub same_number : (i j : ℕ) → OnWay i ≡ OnWay j → i ≡ j
same_number i j e = cc

pub ended_not_on_way : (i r : ℕ) → OnWay i ≡ Ended r → ⊥
ended_not_on_way i r e = cc

pub reverse_push : (xs : List ℕ) (x : ℕ) → reverse (xs ++ x ∷ []) ≡ x ∷ reverse xs
reverse_push xs x = reverse-append xs (x ∷ [])

-- a mark elsewhere leaves the way
pub IsWay-set : (links : List (Option Step)) (marks : List Mark) (p : ℕ) (m : Mark) (ws : List ℕ)
    → IsWay links marks ws → ((i : ℕ) → i < length ws → mark_at marks p ≡ OnWay i → ⊥)
    → IsWay links (set marks p m) ws
IsWay-set links marks p m [] w off = tt
IsWay-set links marks p m (x ∷ ws) w off =
    let ne : (x ≡ p → ⊥) = λ e. off (length ws) (omega arith) (ap (mark_at marks) (sym e)
    ∙ w.0) in (
      mark-other marks p x m ne ∙ w.0,
      w.1,
      IsWay-set links marks p m ws w.2 (λ i lt e. off i (omega arith) e),
    )

-- how many places are unseen once one is marked
pub unseen-mark : (marks : List Mark) (p : ℕ) (m : Mark) → p < length marks → is_unseen m ≡ false
    → unseen (set marks p m) + cond (is_unseen (mark_at marks p)) 1 0 ≡ unseen marks
unseen-mark marks p m lt seen =
    let e : unseen (set marks p m) + cond (is_unseen (mark_at marks p)) 1 0
    ≡ unseen marks + cond (is_unseen m) 1 0 =
    sum_by-set (λ x. cond (is_unseen x) 1 0) marks p m Unseen lt in
    e ∙ (ap (λ b. unseen marks + cond b 1 0) seen ∙ omega arith)

pub slice_get-push : (xs : List ℕ) (x i p : ℕ) → slice_get xs i ≡ Some p
    → slice_get (xs ++ x ∷ []) i ≡ Some p
slice_get-push [] x i p e = cc
slice_get-push (y ∷ xs) x zero p e = e
slice_get-push (y ∷ xs) x (suc i) p e = slice_get-push xs x i p e

pub slice_get-end : (xs : List ℕ) (x : ℕ) → slice_get (xs ++ x ∷ []) (length xs) ≡ Some x
slice_get-end [] x = refl
slice_get-end (y ∷ xs) x = slice_get-end xs x

-- what stands before the end, or the end
pub slice_get-before : (xs : List ℕ) (x i p : ℕ) → slice_get (xs ++ x ∷ []) i ≡ Some p
    → (slice_get xs i ≡ Some p) ⊎ (x ≡ p)
slice_get-before [] x zero p e = inr cc
slice_get-before [] x (suc i) p e = cc
slice_get-before (y ∷ xs) x zero p e = inl e
slice_get-before (y ∷ xs) x (suc i) p e = slice_get-before xs x i p e

module _ (before : ℕ → ℕ → Bool) (links : List (Option Step)) where
  -- a place is taken into the way
  pub entered : (marks : List Mark) (way : List ℕ) (place : ℕ) → IsWalk before links marks way
      → is_unseen (mark_at marks place) ≡ true → place < length marks
      → LeadsTo links (reverse way) (Some place)
      → IsWalk before links (set marks place (OnWay (length way))) (way ++ place ∷ [])
  entered marks way place w new lt leads =
      let at : mark_at marks place ≡ Unseen = unseen_at (mark_at marks place) new in
      let count : unseen (set marks place (OnWay (length way))) + 1 ≡ unseen marks =
      ap (λ b. unseen (set marks place (OnWay (length way))) + cond b 1 0) (sym new)
      ∙ unseen-mark marks place (OnWay (length way)) lt refl in
      let longer : length (way ++ place ∷ []) ≡ length way + 1 = length_push way place in
      record {
        long = length-set marks place (OnWay (length way)) ∙ w.long;
        chained = subst (IsWay links (set marks place (OnWay (length way)))) (sym
            (reverse_push way place)) (
              mark-same marks place (OnWay (length way)) lt ∙ ap OnWay (sym (length-reverse way)),
              leads,
              IsWay-set links marks place (OnWay (length way)) (reverse way) w.chained
                  (λ i h e. absurd (false≢true (sym (on_way_seen _ i e) ∙ new))),
            );
        only = λ p i e. ⊎_elim
            (λ is.
            let number : length way ≡ i = same_number (length way) i
            (sym (mark-same marks place (OnWay (length way)) lt)
            ∙ ap (mark_at (set marks place (OnWay (length way)))) (sym is) ∙ e) in
            ap (slice_get (way ++ place ∷ [])) (sym number) ∙ slice_get-end way place
            ∙ ap Some (sym is))
            (λ ne. slice_get-push way place i p (w.only p i
            (sym (mark-other marks place p (OnWay (length way)) ne) ∙ e)))
            (cases_eq p place);
        ended = λ p r e. ⊎_elim
            (λ is. absurd (ended_not_on_way (length way) r
            (sym (mark-same marks place (OnWay (length way)) lt)
            ∙ ap (mark_at (set marks place (OnWay (length way)))) (sym is) ∙ e)))
            (λ ne.
            let own = w.ended p r (sym (mark-other marks place p (OnWay (length way)) ne) ∙ e) in
            record {
              steps = own.steps;
              few = omega (arith, own.few, count, longer);
              ends = own.ends;
              closed = λ q t.
                  let s = own.closed q t in (
                    s.0,
                    mark-other marks place q (OnWay (length way)) (λ is. false≢true
                        (sym (ended_seen _ s.0 s.1) ∙ ap (λ x. is_unseen (mark_at marks x)) is
                        ∙ new)) ∙ s.1,
                  );
            })
            (cases_eq p place);
        fits = omega (arith, w.fits, count, longer);
      }

  -- the last place of the way ends at a root
  pub settled : (marks : List Mark) (way : List ℕ) (place root : ℕ)
      → IsWalk before links marks (way ++ place ∷ [])
      → CanEnd links marks (reverse (way ++ place ∷ [])) root
      → IsClosed before links (set marks place (Ended root)) way root
  settled marks way place root w can =
      let chained : IsWay links marks (place ∷ reverse way) =
      subst (IsWay links marks) (reverse_push way place) w.chained in
      let ending : CanEnd links marks (place ∷ reverse way) root =
      subst (λ l. CanEnd links marks l root) (reverse_push way place) can in
      let seen : is_unseen (mark_at marks place) ≡ false = on_way_seen _ _ chained.0 in
      let lt : place < length marks = seen_within marks place seen in
      let longer : length (way ++ place ∷ []) ≡ length way + 1 = length_push way place in
      let count : unseen (set marks place (Ended root)) ≡ unseen marks =
      sym (omega arith) ∙ ap (λ b. unseen (set marks place (Ended root)) + cond b 1 0) (sym seen)
      ∙ unseen-mark marks place (Ended root) lt refl in
      let S : ℕ → Type 0 = λ p. (s : ℕ) × (mark_at marks p ≡ Ended s) in
      let out : (S place → ⊥) = λ s. ended_not_on_way _ s.0 (sym chained.0 ∙ s.1) in
      let whole : (p q : ℕ) → S p → target links p ≡ Some q
      → S q = λ p q s t. (w.ended p s.0 s.1).closed q t in
      let own = settled_end marks way place root w count longer ending
      (λ leads. heads_none before links S whole place out leads) in
      let kept : (q r : ℕ) → mark_at marks q ≡ Ended r
      → mark_at (set marks place (Ended root)) q ≡ Ended r =
      λ q r e. mark-other marks place q (Ended root) (λ is. ended_not_on_way _ r
      (sym chained.0 ∙ ap (mark_at marks) (sym is) ∙ e)) ∙ e in
      record {
        walk = record {
          long = length-set marks place (Ended root) ∙ w.long;
          chained = IsWay-set links marks place (Ended root) (reverse way) chained.2
              (λ i h e. absurd (omega (arith, same_number _ i (sym chained.0 ∙ e))));
          only = λ p i e. ⊎_elim
              (λ is. absurd (ended_not_on_way i root (sym e
              ∙ ap (mark_at (set marks place (Ended root))) is
              ∙ mark-same marks place (Ended root) lt)))
              (λ ne. ⊎_elim (λ left. left) (λ last. absurd (ne (sym last)))
              (slice_get-before way place i p (w.only p i (sym (mark-other marks place p
              (Ended root) ne) ∙ e))))
              (cases_eq p place);
          ended = λ p r e. ⊎_elim
              (λ is.
              let which : root ≡ r = same_root root r (sym (mark-same marks place (Ended root) lt)
              ∙ ap (mark_at (set marks place (Ended root))) (sym is) ∙ e) in
              record {
                steps = own.0;
                few = own.1;
                ends = subst (λ y. Ends (cut_target before links) own.0 p y) which
                    (subst (λ y. Ends (cut_target before links) own.0 y root) (sym is) own.2);
                closed = λ q t.
                    let s = own.3 q (ap (target links) (sym is) ∙ t) in (s.0, kept q s.0 s.1);
              })
              (λ ne.
              let old = w.ended p r (sym (mark-other marks place p (Ended root) ne) ∙ e) in
              record {
                steps = old.steps;
                few = omega (arith, old.few, count, longer);
                ends = old.ends;
                closed = λ q t. let s = old.closed q t in (s.0, kept q s.0 s.1);
              })
              (cases_eq p place);
          fits = omega (arith, w.fits, count, longer);
        };
        can_end = next_end marks place root lt (reverse way) chained.1;
      }
    where
      same_root : (r s : ℕ) → Ended r ≡ Ended s → r ≡ s
      same_root r s e = cc

      next_end : (marks : List Mark) (place root : ℕ) → place < length marks → (ws : List ℕ)
          → LeadsTo links ws (Some place) → CanEnd links (set marks place (Ended root)) ws root
      next_end marks place root lt [] l = tt
      next_end marks place root lt (q ∷ ws) l =
          subst (EndsAt (set marks place (Ended root)) root q) (sym l) (mark-same marks place
          (Ended root) lt)

      settled_end : (marks : List Mark) (way : List ℕ) (place root : ℕ)
          → IsWalk before links marks (way ++ place ∷ [])
          → unseen (set marks place (Ended root)) ≡ unseen marks
          → length (way ++ place ∷ []) ≡ length way + 1
          → EndsAt marks root place (target links place)
          → (((q : ℕ) → target links place ≡ Some q → (s : ℕ) × (mark_at marks q ≡ Ended s))
          → heads_cycle before links place ≡ false)
          → (d : ℕ) × (d + (unseen (set marks place (Ended root)) + length way) < length links)
          × Ends (cut_target before links) d place root
          × ((q : ℕ) → target links place ≡ Some q → (s : ℕ) × (mark_at marks q ≡ Ended s))
      settled_end marks way place root w count longer e none = by (target links place) refl e
        where
          by : (t : Option ℕ) → target links place ≡ t → EndsAt marks root place t
              → (d : ℕ) × (d + (unseen (set marks place (Ended root)) + length way) < length links)
              × Ends (cut_target before links) d place root
              × ((q : ℕ) → target links place ≡ Some q → (s : ℕ) × (mark_at marks q ≡ Ended s))
          by None is e =
              let leads : (q : ℕ) → target links place ≡ Some q
              → (s : ℕ) × (mark_at marks q ≡ Ended s) =
              λ q t. cc (is, t) in (
                0,
                omega (arith, w.fits, count, longer),
                (
                  e,
                  cut-other before links place
                      (none leads) ∙ is,
                ),
                leads,
              )
          by (Some q) is e =
              let leads : (x : ℕ) → target links place ≡ Some x
              → (s : ℕ) × (mark_at marks x ≡ Ended s) =
              λ x t. (
                root,
                subst (λ y. mark_at marks y ≡ Ended root) (same_target q x (sym is
                    ∙ t)) e,
              ) in
              let old = w.ended q root e in (
                suc old.steps,
                omega (arith, old.few, count, longer),
                (q, cut-other before links place (none leads) ∙ is, old.ends),
                leads,
              )
            where
              same_target : (a b : ℕ) → Some a ≡ Some b → a ≡ b
              same_target a b e = cc

-- what is marked stays seen
pub seen-mark : (marks : List Mark) (p : ℕ) (m : Mark) → p < length marks → is_unseen m ≡ false
    → KeepsSeen marks (set marks p m)
seen-mark marks p m lt seen q s = ⊎_elim
    (λ is. ap (λ x. is_unseen (mark_at (set marks p m) x)) is
    ∙ ap is_unseen (mark-same marks p m lt) ∙ seen)
    (λ ne. ap is_unseen (mark-other marks p q m ne) ∙ s)
    (cases_eq q p)

pub within-set : (marks : List Mark) (p : ℕ) (m : Mark) (xs : List ℕ)
    → Each (λ x. x < length marks) xs
    → Each (λ x. x < length (set marks p m)) xs
within-set marks p m xs e =
    subst (λ n. Each (λ x. x < n) xs) (sym (length-set marks p m)) e
