-- Messages whose keys are those of threads, and places of ids.
use Rattle.std.proofs.Common.{◌≡◌, ◌∙◌, ℕ, ◌<◌, ◌∷◌, [], Bool, true, false}
use Rattle.std.proofs.Common.{List, length, Option, Some, None, ap, arith, sym}
use Rattle.std.proofs.Common.{subst, unwrap_or, replicate, get_or, if◌then◌else◌}
use Rattle.std.specs.List.{range_with_len}
use Rattle.std.specs.Option.{option_or}
use Rattle.std.proofs.lemmas.List.{get_or_read, length-replicate}
use Rattle.threads.proofs.SortLemmas.{Each-in_order, Each-range}
use Rattle.threads.specs.Walk.{Each}
use Rattle.index_order.specs.Inner.{AreGreatest, AreKeyPlaces, link_at}
use Rattle.index_order.specs.Keys.{PlacedKeys, PlainKeys, at}
use Rattle.index_order.specs.Order.{greatest, is_before, key_place, last_where, leads_to, sorted}
use Rattle.index_order.specs.declared.options.Sort.{Sort}
use Rattle.index_order.specs.declared.options.SortOptions.{SortOptions}
use Rattle.index_order.proofs.GreatestLemmas.{none_at}
use Rattle.index_order.proofs.SortedLemmas.{read_is}

-- what holds of each place holds of the last that passes, or of another
last_holds : (P : ℕ → Type 0) (passes : ℕ → Bool) (places : List ℕ) (other : ℕ) → Each P places
    → P other → P (unwrap_or (last_where passes places) other)
last_holds P passes [] other all own = own
last_holds P passes (p ∷ places) other all own =
    by_last (last_where passes places) (last_holds P passes places other all.1 own) (passes p)
  where
    by_last : (o : Option ℕ) → P (unwrap_or o other) → (b : Bool)
        → P (unwrap_or (option_or o (if b then Some p else None)) other)
    by_last (Some v) holds b = holds
    by_last None holds true = all.0
    by_last None holds false = own

sorted_within : (reverse : Bool) (sort : Sort) (keys : List PlainKeys)
    → Each (λ p. p < length keys) (sorted reverse sort keys)
sorted_within reverse sort keys = Each-in_order (λ p. p < length keys)
    (is_before reverse sort keys) (range_with_len 0 (length keys))
    (Each-range 0 (length keys) (length keys) (omega arith))

-- the message whose key is that of a thread is listed
pub key_within : (options : SortOptions) (keys : List PlainKeys) (parent : ℕ → Option ℕ) (top : ℕ)
    → top < length keys → key_place options keys parent top < length keys
key_within options keys parent top lt = by_last options.aux_last
  where
    by_last : (b : Bool) → (if b then unwrap_or (greatest options.aux keys parent top) top else top)
        < length keys
    by_last true = last_holds (λ p. p < length keys) (leads_to parent (length keys) top)
        (sorted false options.aux keys) top (sorted_within false options.aux keys) lt
    by_last false = lt

pub greatest_keys : (options : SortOptions) (keys : List PlainKeys) (above values : List (Option ℕ))
    → options.aux_last ≡ true → AreGreatest options.aux keys above values
    → AreKeyPlaces options keys above values
greatest_keys options keys above values is found = record {
  long = found.long;
  each = λ top lt. ap (λ (o : Option ℕ). unwrap_or o top) (found.each top lt)
      ∙ sym (ap (λ (b : Bool).
      if b then unwrap_or (greatest options.aux keys (link_at above) top) top else top) is);
}

pub own_keys : (options : SortOptions) (keys : List PlainKeys) (above : List (Option ℕ))
    → options.aux_last ≡ false → length above ≡ length keys
    → AreKeyPlaces options keys above (replicate (length keys) None)
own_keys options keys above is long = record {
  long = length-replicate (length keys) None ∙ sym long;
  each = λ top lt. ap (λ (o : Option ℕ). unwrap_or o top) (none_at (length keys) top)
      ∙ sym (ap (λ (b : Bool).
      if b then unwrap_or (greatest options.aux keys (link_at above) top) top else top) is);
}

-- the place that is read and kept is that of the definition
pub key_read : (options : SortOptions) (keys : List PlainKeys) (above values : List (Option ℕ))
    → length above ≡ length keys → AreKeyPlaces options keys above values → (top : ℕ)
    → top < length keys → (x : Option ℕ) → x ≡ get_or values top x
    → unwrap_or x top ≡ key_place options keys (link_at above) top
key_read options keys above values long kept top lt x e =
    let low : top < length above = subst (λ n. top < n) (sym long) lt in
    ap (λ (o : Option ℕ). unwrap_or o top)
    (get_or_read values top x (subst (λ n. top < n) (sym kept.long) low) e None)
    ∙ kept.each top low

-- a message that is read, at its place
pub placed_at : (keys : List PlainKeys) (p : ℕ) (x : PlainKeys) → p < length keys
    → x ≡ get_or keys p x
    → ◌≡◌ {A = PlacedKeys} (record { place = p; keys = get_or keys p x }) (at keys p)
placed_at keys p x lt e = ap {B = PlacedKeys} (λ (k : PlainKeys). record { place = p; keys = k })
    (sym e ∙ read_is keys p x lt e)
