-- The marks before the first walk and behind the last.
use Rattle.std.proofs.Common.{◌≡◌, ◌∙◌, ℕ, ◌≤◌, Bool, false, List}
use Rattle.std.proofs.Common.{length, map}
use Rattle.std.proofs.Common.{Option, None, Some, refl, sym, subst, ⊎_elim}
use Rattle.std.proofs.Common.{arith, replicate, slice_index}
use Rattle.std.proofs.lemmas.Bool.{cases_lt, false≢true}
use Rattle.std.proofs.lemmas.List.{get_or-map, get_or-replicate, get_or_past, length-map}
use Rattle.std.proofs.lemmas.List.{length-replicate}
use Rattle.std.proofs.lemmas.List.Sums.{count_by-le-length}
use Rattle.threads.specs.Walk.{AreEnds, AreFollowed, Ends, cut_target, is_unseen}
use Rattle.threads.specs.Walk.{mark_at, root_in}
use Rattle.threads.specs.declared.walk.Mark.{Mark}
use Rattle.threads.specs.declared.walk.Mark.TheVariants.{Unseen, OnWay, Ended}
use Rattle.threads.specs.declared.step.Step.{Step}

nothing_seen : (n p : ℕ) → mark_at (replicate n Unseen) p ≡ Unseen
nothing_seen n p = ⊎_elim
    (λ lt. get_or-replicate n p Unseen Unseen lt)
    (λ past. get_or_past (replicate n Unseen) p Unseen (subst (λ m. m ≤ p) (sym
    (length-replicate n Unseen)) past))
    (cases_lt p n)

pub none_followed : (before : ℕ → ℕ → Bool) (links : List (Option Step)) (n : ℕ) → length links ≡ n
    → AreFollowed before links (replicate n Unseen) 0
none_followed before links n size = record {
  walk = record {
    long = length-replicate n Unseen ∙ sym size;
    chained = tt;
    only = λ p i e. cc (nothing_seen n p);
    ended = λ p r e. absurd (not_ended r (sym (nothing_seen n p) ∙ e));
    fits = omega (
      arith,
      count_by-le-length is_unseen
          (replicate n Unseen),
      length-replicate n Unseen,
    );
  };
  seen = λ p lt. absurd (omega arith);
}
  where
    not_ended : (r : ℕ) → Unseen ≡ Ended r → ⊥
    not_ended r e = cc

ended_from : (m : Mark) → is_unseen m ≡ false → ((i : ℕ) → m ≡ OnWay i → ⊥) → m ≡ Ended (root_in m)
ended_from Unseen s off = absurd (false≢true (sym s))
ended_from (OnWay i) s off = absurd (off i refl)
ended_from (Ended r) s off = refl

pub all_end : (before : ℕ → ℕ → Bool) (links : List (Option Step)) (marks : List Mark)
    → AreFollowed before links marks (length links) → AreEnds before links (map root_in marks)
all_end before links marks done = record {
  long = length-map marks root_in ∙ done.walk.long;
  each = λ p lt.
      let e = ended_from (mark_at marks p) (done.seen p lt) (λ i e. no_way p
      (done.walk.only p i e)) in
      let own = done.walk.ended p (root_in (mark_at marks p)) e in
      let there : slice_index (map root_in marks) p ≡ root_in (mark_at marks p) =
      get_or-map root_in marks p Unseen 0 (omega (arith, done.walk.long)) in (
        own.steps,
        omega (arith, own.few),
        subst (Ends (cut_target before links) own.steps p)
            (sym there) own.ends,
      );
}
  where
    no_way : (p : ℕ) → None ≡ Some p → ⊥
    no_way p e = cc
