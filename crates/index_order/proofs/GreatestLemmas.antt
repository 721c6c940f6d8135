-- The greatest of each tree, while places are taken in from the last in order on.
use Rattle.std.proofs.Common.{◌≡◌, ◌∙◌, ℕ, zero, suc, ◌<◌, ◌++◌, ◌∷◌, [], Bool, List, length}
use Rattle.std.proofs.Common.{Option, Some, None, ap, arith, sym, refl, subst, if◌then◌else◌}
use Rattle.std.proofs.Common.{false, replicate, is_some}
use Rattle.std.specs.Option.{option_or}
use Rattle.std.proofs.lemmas.Bool.{false≢true}
use Rattle.std.proofs.lemmas.List.{get_or_append_left, length-append}
use Rattle.std.proofs.lemmas.List.{length-replicate, map-append}
use Rattle.std.proofs.Math.Seq.{get_or-append_seam}
use Rattle.index_order.specs.Inner.{AreGreatest, ArePlaced, AreValues, Fills, is_below, link_at}
use Rattle.index_order.specs.Inner.{placed_places, plain_placed}
use Rattle.index_order.specs.Keys.{PlainKeys, at}
use Rattle.index_order.specs.Order.{last_where, leads_to, sorted}
use Rattle.index_order.specs.declared.keys.Placed.{Placed}
use Rattle.index_order.specs.declared.options.Sort.{Sort}

or_none : (o : Option ℕ) → option_or o None ≡ o
or_none None = refl
or_none (Some v) = refl

or_or : (a b c : Option ℕ) → option_or (option_or a b) c ≡ option_or a (option_or b c)
or_or None b c = refl
or_or (Some v) b c = refl

abbrev pub if_passes : (ℕ → Bool) → ℕ → Option ℕ
if_passes passes p = if passes p then Some p else None

last_push : (passes : ℕ → Bool) (xs : List ℕ) (x : ℕ) → last_where passes (xs ++ x ∷ [])
    ≡ option_or (if_passes passes x) (last_where passes xs)
last_push passes [] x = sym (or_none (if_passes passes x))
last_push passes (y ∷ ys) x =
    ap (λ (o : Option ℕ). option_or o (if_passes passes y)) (last_push passes ys x)
    ∙ or_or (if_passes passes x) (last_where passes ys) (if_passes passes y)

-- what is found already, and the places that are left to be taken in
pub record AreSoFar (sort : Sort) (keys : List PlainKeys) (above values : List (Option ℕ))
    (waiting : List Placed) : Type 0 where
  pub filled : AreValues above values
  pub placed : ArePlaced keys waiting
  pub each : (top : ℕ) → top < length above → option_or (link_at values top)
      (last_where (is_below above top) (placed_places waiting))
      ≡ last_where (is_below above top) (sorted false sort keys)

pub none_at : (n p : ℕ) → link_at (replicate n None) p ≡ None
none_at zero p = refl
none_at (suc n) zero = refl
none_at (suc n) (suc p) = none_at n p

pub greatest_starts : (sort : Sort) (keys : List PlainKeys) (above : List (Option ℕ))
    (waiting : List Placed) → length above ≡ length keys → ArePlaced keys waiting
    → placed_places waiting ≡ sorted false sort keys
    → AreSoFar sort keys above (replicate (length keys) None) waiting
greatest_starts sort keys above waiting long placed is = record {
  filled = record {
    long = length-replicate (length keys) None ∙ sym long;
    closed = λ p q valued e.
        absurd (false≢true (sym (ap is_some (none_at (length keys) p)) ∙ valued));
  };
  placed = placed;
  each = λ top lt. ap (λ (o : Option ℕ). option_or o
      (last_where (is_below above top) (placed_places waiting))) (none_at (length keys) top)
      ∙ ap (last_where (is_below above top)) is;
}

front_placed : (keys : List PlainKeys) (rest : List Placed) (last : Placed)
    → ArePlaced keys (rest ++ last ∷ []) → ArePlaced keys rest
front_placed keys rest last all k d lt =
    subst (λ (p : Placed). (p.place < length keys) × (plain_placed p ≡ at keys p.place))
    (get_or_append_left rest (last ∷ []) d k lt)
    (all k d (let long = length-append rest (last ∷ []) in omega (arith, lt, long)))

pub last_within : (keys : List PlainKeys) (rest : List Placed) (last : Placed)
    → ArePlaced keys (rest ++ last ∷ []) → last.place < length keys
last_within keys rest last all =
    subst (λ (p : Placed). p.place < length keys) (get_or-append_seam rest last [] last)
    (all (length rest) last
    (let long = length-append rest (last ∷ []) in omega (arith, long))).0

pub greatest_more : (sort : Sort) (keys : List PlainKeys) (above old new : List (Option ℕ))
    (rest : List Placed) (last : Placed) → AreSoFar sort keys above old (rest ++ last ∷ [])
    → Fills above old new last.place → AreSoFar sort keys above new rest
greatest_more sort keys above old new rest last known fills = record {
  filled = fills.values;
  placed = front_placed keys rest last known.placed;
  each = λ top lt.
      let passes = is_below above top in
      ap (λ (o : Option ℕ). option_or o (last_where passes (placed_places rest)))
      (fills.each top lt)
      ∙ or_or (link_at old top) (if_passes passes last.place)
      (last_where passes (placed_places rest))
      ∙ ap (option_or (link_at old top))
      (sym (last_push passes (placed_places rest) last.place)
      ∙ ap (last_where passes) (sym (map-append (λ (p : Placed). p.place) rest (last ∷ []))))
      ∙ known.each top lt;
}

pub greatest_ends : (sort : Sort) (keys : List PlainKeys) (above values : List (Option ℕ))
    → length above ≡ length keys → AreSoFar sort keys above values []
    → AreGreatest sort keys above values
greatest_ends sort keys above values long known = record {
  long = known.filled.long;
  each = λ top lt. sym (or_none (link_at values top)) ∙ known.each top lt
      ∙ ap (λ (n : ℕ). last_where (leads_to (link_at above) n top) (sorted false sort keys)) long;
}
