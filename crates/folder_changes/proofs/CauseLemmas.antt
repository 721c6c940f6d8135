-- States of a tree that others have made.
use Rattle.std.proofs.Common.{◌≡◌, ◌≤◌, ◌+◌, ◌-◌, ◌⊎◌, ℕ, zero, suc, Bool, true, false, List}
use Rattle.std.proofs.Common.{inl, inr}
use Rattle.std.proofs.Common.{refl, sym, ◌∙◌, ap, subst, arith}
use Rattle.disk_model.specs.Journal.{Past}
use Rattle.disk_model.specs.State.{tree_at}
use Rattle.disk_model.specs.Tree.{TreeNode}
use Rattle.folder_changes.specs.Worked.{WasCause, others_at}

module _ (is_so : List TreeNode
    → Bool) (past : Past) (i : ℕ) (not_yet : is_so (tree_at past i) ≡ false)
    (becomes : (k : ℕ) → i ≤ k → is_so (tree_at past k) ≡ false
    → is_so (tree_at past (k + 1)) ≡ true
    → others_at k past ≡ true) where
  record Since (j : ℕ) : Type 0 where
    since : ℕ
    from : i ≤ since
    on : since ≤ j
    stands : (k : ℕ) → since ≤ k → k ≤ j → is_so (tree_at past k) ≡ true
    before : ℕ
    is : since ≡ before + 1
    others : others_at before past ≡ true

  next_of : (j : ℕ) → i ≤ j → is_so (tree_at past (j + 1)) ≡ true → (b : Bool)
      → is_so (tree_at past j) ≡ b
      → (b ≡ true → Since j) → Since (j + 1)
  next_of j low so true was earlier = let e : Since j = earlier refl in record {
    since = e.since;
    from = e.from;
    on = omega (arith, e.on);
    stands = λ k from to. at k from to;
    before = e.before;
    is = e.is;
    others = e.others;
  }
    where
      at_last : (k : ℕ) → k ≤ j + 1 → (k ≤ j) ⊎ (k ≡ j + 1)
      at_last k to = grind (arith, to)

      by : (k : ℕ) → (earlier refl).since ≤ k → (k ≤ j) ⊎ (k ≡ j + 1)
          → is_so (tree_at past k) ≡ true
      by k from (inl low) = (earlier refl).stands k from low
      by k from (inr last) = ap (λ (x : ℕ). is_so (tree_at past x)) last ∙ so

      at : (k : ℕ) → (earlier refl).since ≤ k → k ≤ j + 1 → is_so (tree_at past k) ≡ true
      at k from to = by k from (at_last k to)
  next_of j low so false was earlier = record {
    since = j + 1;
    from = omega (arith, low);
    on = omega arith;
    stands = λ k from to. ap (λ (x : ℕ). is_so (tree_at past x)) (only k from to) ∙ so;
    before = j;
    is = refl;
    others = becomes j low was so;
  }
    where
      only : (k : ℕ) → j + 1 ≤ k → k ≤ j + 1 → k ≡ j + 1
      only k from to = omega (arith, from, to)

  since_at : (d : ℕ) → is_so (tree_at past (i + d)) ≡ true → Since (i + d)
  since_at zero so = absurd (cc (ap (λ (x : ℕ). is_so (tree_at past x)) zero_more, so, not_yet))
    where
      zero_more : i + 0 ≡ i
      zero_more = omega arith
  since_at (suc d) so = subst Since (sym one_more) (next_of (i + d) (omega arith)
      (ap (λ (x : ℕ). is_so (tree_at past x)) (sym one_more) ∙ so) (is_so (tree_at past (i + d)))
      refl (λ so. since_at d so))
    where
      one_more : i + suc d ≡ i + d + 1
      one_more = omega arith

  pub was_cause : (m n j : ℕ) → m ≤ i → i ≤ j → j ≤ n → is_so (tree_at past j) ≡ true
      → WasCause is_so m n past
  was_cause m n j first low last so = record {
    since = s.since;
    mark = j;
    from = omega (arith, first, s.from);
    on = omega (arith, s.on, whole);
    to = last;
    stands = λ k from to. s.stands k from (omega (arith, to, whole));
    whose = inr (s.before, s.is, s.others);
  }
    where
      whole : i + (j - i) ≡ j
      whole = omega (arith, low)

      s : Since (i + (j - i))
      s = since_at (j - i) (ap (λ (x : ℕ). is_so (tree_at past x)) whole ∙ so)
