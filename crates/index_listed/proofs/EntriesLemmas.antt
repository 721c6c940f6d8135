-- What a list tells, and a table by threads, once the next message is taken in.
use Rattle.std.proofs.Common.{◌≡◌, ◌∙◌, ℕ, zero, suc, ◌+◌, ◌<◌, ◌++◌, ◌∷◌, [], ◌||◌, ◌&&◌, ◌==◌}
use Rattle.std.proofs.Common.{Bool, true, false, List, length, ap, arith, sym, refl, subst}
use Rattle.std.proofs.Common.{⊎_elim, if◌then◌else◌, get_or, slice_index_or, slice_set}
use Rattle.std.proofs.Math.Seq.{get_or-append_seam}
use Rattle.std.proofs.lemmas.List.{get_or-set_same, get_or-set_other, length-append, length-set}
use Rattle.std.proofs.lemmas.List.{get_or_append_left, get_or_read_under}
use Rattle.std.proofs.lemmas.Bool.{cases_Bool, eqb-true, eqb-false}
use Rattle.std.proofs.lemmas.List.Elements.{filter-append}
use Rattle.std.specs.List.{filter, range_with_len}
use Rattle.std.proofs.lemmas.Bool.Decides.{nat_tests}
use Rattle.index_listed.specs.Entries.{Tells, at, some_below}
use Rattle.index_listed.specs.Visibility.{AreThreadsWith, in_thread}
use Rattle.index_listed.specs.declared.entry.Entry.{Entry}

lower : (p n : ℕ) → p < n + 1 → (p == n) ≡ false → p < n
lower p n lt e = grind (arith, nat_tests)

pub tells_next : {X : Type 0} (blank : X) (f : ℕ → X) (n : ℕ) (xs : List X) (x : X)
    → Tells blank f n xs → x ≡ f n → Tells blank f (n + 1) (xs ++ x ∷ [])
tells_next blank f n xs x told is = record {
  long = length-append xs (x ∷ []) ∙ ap (λ k. k + 1) told.long;
  each = λ p lt. ⊎_elim (λ e. last p (eqb-true p n e))
      (λ e. let below : p < n = lower p n lt e in
      get_or_append_left xs (x ∷ []) blank p (subst (λ k. p < k) (sym told.long) below)
      ∙ told.each p below) (cases_Bool (p == n));
}
  where
    last : (p : ℕ) → p ≡ n → slice_index_or (xs ++ x ∷ []) p blank ≡ f p
    last p e = ap (λ k. slice_index_or (xs ++ x ∷ []) k blank) (e ∙ sym told.long)
        ∙ get_or-append_seam xs x [] blank ∙ is ∙ ap f (sym e)

pub some_more : (passes : ℕ → Bool) (n : ℕ)
    → some_below passes (n + 1) ≡ some_below passes n || passes n
some_more passes n = let e : n + 1 ≡ suc n = omega arith in ap (some_below passes) e

pub or_false : (b : Bool) → b ≡ b || false
or_false true = refl
or_false false = refl

pub threads_next : (passes : ℕ → Bool) (entries : List Entry) (n : ℕ) (marks : List Bool)
    → AreThreadsWith passes entries n marks → (at entries n).root < length entries
    → AreThreadsWith passes entries (n + 1) (slice_set marks (at entries n).root
    (slice_index_or marks (at entries n).root false || passes n))
threads_next passes entries n marks marked within = record {
  long = length-set marks r v ∙ marked.long;
  marked = λ root lt. ⊎_elim (same root) (other root lt) (cases_Bool (r == root));
}
  where
    r : ℕ
    r = (at entries n).root

    v : Bool
    v = slice_index_or marks r false || passes n

    same : (root : ℕ) → (r == root) ≡ true → slice_index_or (slice_set marks r v) root false
        ≡ some_below (in_thread entries passes root) (n + 1)
    same root e =
        let q : r ≡ root = eqb-true r root e in
        ap (λ k. slice_index_or (slice_set marks r v) k false) (sym q)
        ∙ get_or-set_same marks r v false (subst (λ k. r < k) (sym marked.long) within)
        ∙ ap (λ b. b || passes n) (marked.marked r within
        ∙ ap (λ k. some_below (in_thread entries passes k) n) q)
        ∙ ap (λ b. some_below (in_thread entries passes root) n || (b && passes n)) (sym e)
        ∙ sym (some_more (in_thread entries passes root) n)

    other : (root : ℕ) → root < length entries → (r == root) ≡ false
        → slice_index_or (slice_set marks r v) root false
        ≡ some_below (in_thread entries passes root) (n + 1)
    other root lt e =
        get_or-set_other marks r root v false (λ z. eqb-false r root e (sym z))
        ∙ marked.marked root lt
        ∙ or_false (some_below (in_thread entries passes root) n)
        ∙ ap (λ b. some_below (in_thread entries passes root) n || (b && passes n)) (sym e)
        ∙ sym (some_more (in_thread entries passes root) n)

range_more : (a n : ℕ) → range_with_len a (suc n) ≡ range_with_len a n ++ (a + n) ∷ []
range_more a zero = let e : a ≡ a + 0 = omega arith in ap (λ k. k ∷ []) e
range_more a (suc n) = let e : a + 1 + n ≡ a + suc n = omega arith in
    ap (λ l. a ∷ l) (range_more (a + 1) n) ∙ ap (λ k. a ∷ range_with_len (a + 1) n ++ k ∷ []) e

filter_one : (p : ℕ → Bool) (n : ℕ) → filter p (n ∷ []) ≡ (if p n then n ∷ [] else [])
filter_one p n = refl

pub filter_next : (p : ℕ → Bool) (n : ℕ) → filter p (range_with_len 0 (n + 1))
    ≡ filter p (range_with_len 0 n) ++ (if p n then n ∷ [] else [])
filter_next p n = let e : n + 1 ≡ suc n = omega arith in let z : 0 + n ≡ n = omega arith in
    ap (λ k. filter p (range_with_len 0 k)) e
    ∙ ap (filter p) (range_more 0 n)
    ∙ ap (λ k. filter p (range_with_len 0 n ++ k ∷ [])) z
    ∙ filter-append p (range_with_len 0 n) (n ∷ [])
    ∙ ap (λ l. filter p (range_with_len 0 n) ++ l) (filter_one p n)

pub told_read : {X : Type 0} (blank : X) (f : ℕ → X) (n : ℕ) (xs : List X) → Tells blank f n xs
    → (p : ℕ) → p < n → (x : X) → x ≡ get_or xs p x → x ≡ f p
told_read blank f n xs told p lt x e =
    get_or_read_under xs p n x blank e lt (sym told.long) ∙ told.each p lt
