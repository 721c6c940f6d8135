-- Orders of messages, of places and of ids in which any two compare.
use Rattle.std.proofs.Common.{◌≡◌, ◌∙◌, ℕ, ◌<◌, Bool, true, false, ap, sym, refl, subst}
use Rattle.std.proofs.Common.{if◌then◌else◌}
use Rattle.std.proofs.lemmas.Bool.{false≢true}
use Rattle.std.proofs.lemmas.Cmp.{nat_cmp_total, int_cmp_total, nat_list_cmp_total, on_total}
use Rattle.std.proofs.lemmas.Cmp.{then_total}
use Rattle.std.specs.Cmp.{IsStrictWeakOrder, IsTotalOrder, ranks}
use Rattle.std.specs.Ordering.{MatchOrdering, bool_cmp, is_lt, nat_cmp, ordering_reverse}
use Rattle.std.specs.Ordering.{ordering_then}
use Rattle.std.specs.declared.cmp.Ordering.{Ordering}
use Rattle.std.specs.declared.cmp.Ordering.TheVariants.{Less, Equal, Greater}
use Rattle.index_order.specs.Keys.{PlacedKeys, key_cmp}
use Rattle.index_order.specs.Order.{sort_cmp, turned}
use Rattle.index_order.specs.declared.options.Sort.{Sort}
use Rattle.index_order.specs.declared.options.Sort.TheVariants.{DateSent, DateReceived, From}
use Rattle.index_order.specs.declared.options.Sort.TheVariants.{MailboxOrder, Score, Size}
use Rattle.index_order.specs.declared.options.Sort.TheVariants.{Subject, Threads, To}

back : (r s : Ordering) → r ≡ ordering_reverse s → ordering_reverse r ≡ s
back r Less e = ap ordering_reverse e
back r Equal e = ap ordering_reverse e
back r Greater e = ap ordering_reverse e

equal_back : (r : Ordering) → ordering_reverse r ≡ Equal → r ≡ Equal
equal_back Less e = absurd (cc)
equal_back Equal e = refl
equal_back Greater e = absurd (cc)

module _ {X : Type 0} {R : X → X → Ordering} (o : IsTotalOrder R) where
  turned_round : (a b : X) → ordering_reverse (R a b) ≡ R b a
  turned_round a b = back (R a b) (R b a) (o.antisymm a b)

  -- an order that may be turned round is one
  pub turned_total : (reverse : Bool) → IsTotalOrder (λ a b. turned reverse (R a b))
  turned_total false = o
  turned_total true = record {
    antisymm = λ a b. ap ordering_reverse (o.antisymm a b);
    trans = λ a b c p q. turned_round a c
        ∙ o.trans c b a (sym (turned_round b c) ∙ q) (sym (turned_round a b) ∙ p);
    congr = λ a b c p. ap ordering_reverse (o.congr a b c (equal_back (R a b) p));
  }

  less_from : (r : Ordering) → is_lt r ≡ true → r ≡ Less
  less_from Less e = refl
  less_from Equal e = absurd (false≢true e)
  less_from Greater e = absurd (false≢true e)

  chained : (a b c : X) (r s : Ordering) → R a b ≡ r → R b c ≡ s → is_lt r ≡ false
      → is_lt s ≡ false → is_lt (R a c) ≡ false
  chained a b c Less s first second p q = absurd (false≢true (sym p))
  chained a b c Equal s first second p q = ap is_lt (o.congr a b c first ∙ second) ∙ q
  chained a b c Greater Less first second p q = absurd (false≢true (sym q))
  chained a b c Greater Equal first second p q =
      ap is_lt (o.antisymm a c ∙ ap ordering_reverse (sym (o.congr b c a second)
      ∙ sym (turned_round a b) ∙ ap ordering_reverse first))
  chained a b c Greater Greater first second p q =
      ap is_lt (o.antisymm a c ∙ ap ordering_reverse (o.trans c b a
      (sym (turned_round b c) ∙ ap ordering_reverse second)
      (sym (turned_round a b) ∙ ap ordering_reverse first)))

  -- its test is that of a weak order
  pub weak : IsStrictWeakOrder (λ a b. is_lt (R a b))
  weak = record {
    one_way = λ a b e. ap is_lt (sym (turned_round a b)
        ∙ ap ordering_reverse (less_from (R a b) e));
    chain = λ a b c p q. chained a b c (R a b) (R b c) refl refl p q;
  }

  equal_from : (r s : Ordering) → r ≡ ordering_reverse s → is_lt r ≡ false → is_lt s ≡ false
      → r ≡ Equal
  equal_from Less s e p q = absurd (false≢true (sym p))
  equal_from Equal s e p q = refl
  equal_from Greater Less e p q = absurd (false≢true (sym q))
  equal_from Greater Equal e p q = e
  equal_from Greater Greater e p q = absurd (cc)

  -- where neither of two comes first, they are equal
  pub equal_where : (a b : X) → is_lt (R a b) ≡ false → is_lt (R b a) ≡ false → R a b ≡ Equal
  equal_where a b = equal_from (R a b) (R b a) (o.antisymm a b)

pub equal_last : (r s : Ordering) → ordering_then r s ≡ Equal → s ≡ Equal
equal_last Less s e = absurd (cc)
equal_last Equal s e = e
equal_last Greater s e = absurd (cc)

pub equal_numbers : (i j : ℕ) → nat_cmp i j ≡ Equal → i ≡ j
equal_numbers i j e = subst (λ r. MatchOrdering r (i < j) (i ≡ j) (j < i)) e (ranks i j)

pub key_total : (sort : Sort) → IsTotalOrder (key_cmp sort)
key_total DateSent = on_total (λ (p : PlacedKeys). p.keys.sent) int_cmp_total
key_total DateReceived = on_total (λ (p : PlacedKeys). p.keys.received) int_cmp_total
key_total From = on_total (λ (p : PlacedKeys). p.keys.author) nat_list_cmp_total
key_total MailboxOrder = on_total (λ (p : PlacedKeys). p.place) nat_cmp_total
key_total Score = on_total (λ (p : PlacedKeys). p.keys.score) nat_cmp_total
key_total Size = on_total (λ (p : PlacedKeys). p.keys.size) nat_cmp_total
key_total Subject = on_total (λ (p : PlacedKeys). p.keys.subject) nat_list_cmp_total
key_total Threads = on_total (λ (p : PlacedKeys). p.keys.sent) int_cmp_total
key_total To = on_total (λ (p : PlacedKeys). p.keys.recipient) nat_list_cmp_total

pub sort_total : (reverse : Bool) (sort : Sort) → IsTotalOrder (sort_cmp reverse sort)
sort_total reverse sort = then_total (turned_total (key_total sort) reverse)
    (on_total (λ (p : PlacedKeys). p.place) nat_cmp_total)

-- values of two kinds, those of one kind first, each in an order of its own

abbrev pub split_cmp : {X : Type 0} → (X → Bool) → (X → X → Ordering) → (X → X → Ordering)
    → X → X → Ordering
split_cmp kind R S a b =
    ordering_then (bool_cmp (kind a) (kind b)) (if kind a then R a b else S a b)

module _ {X : Type 0} (kind : X → Bool) {R S : X → X → Ordering} (o : IsTotalOrder R)
    (u : IsTotalOrder S) where
  abbrev by_kinds : X → X → Bool → Bool → Ordering
  by_kinds a b k l = ordering_then (bool_cmp k l) (if k then R a b else S a b)

  split_antisymm : (a b : X) (k l : Bool) → by_kinds a b k l ≡ ordering_reverse (by_kinds b a l k)
  split_antisymm a b false false = u.antisymm a b
  split_antisymm a b false true = refl
  split_antisymm a b true false = refl
  split_antisymm a b true true = o.antisymm a b

  split_trans : (a b c : X) (k l m : Bool) → by_kinds a b k l ≡ Less → by_kinds b c l m ≡ Less
      → by_kinds a c k m ≡ Less
  split_trans a b c false false false p q = u.trans a b c p q
  split_trans a b c false false true p q = refl
  split_trans a b c false true false p q = absurd (cc)
  split_trans a b c false true true p q = refl
  split_trans a b c true false m p q = absurd (cc)
  split_trans a b c true true false p q = absurd (cc)
  split_trans a b c true true true p q = o.trans a b c p q

  split_congr : (a b c : X) (k l m : Bool) → by_kinds a b k l ≡ Equal
      → by_kinds a c k m ≡ by_kinds b c l m
  split_congr a b c false false false p = u.congr a b c p
  split_congr a b c false false true p = refl
  split_congr a b c false true m p = absurd (cc)
  split_congr a b c true false m p = absurd (cc)
  split_congr a b c true true false p = refl
  split_congr a b c true true true p = o.congr a b c p

  pub split_total : IsTotalOrder (split_cmp kind R S)
  split_total = record {
    antisymm = λ a b. split_antisymm a b (kind a) (kind b);
    trans = λ a b c. split_trans a b c (kind a) (kind b) (kind c);
    congr = λ a b c. split_congr a b c (kind a) (kind b) (kind c);
  }
