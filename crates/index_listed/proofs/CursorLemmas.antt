-- Where a cursor goes, a message is seen.
use Rattle.std.proofs.Common.{◌≡◌, ◌∙◌, ◌∷◌, [], ◌≤◌, ◌-◌, ℕ, Bool, true, false, List}
use Rattle.std.proofs.Common.{Option, Some, None, ap, arith, length, option_map, refl, subst}
use Rattle.std.proofs.Common.{sym, ⊎_elim}
use Rattle.std.proofs.lemmas.List.Folds.{find_at}
use Rattle.std.proofs.lemmas.Option.{slice_get-map, slice_get_cases}
use Rattle.std.specs.List.{position_or_len}
use Rattle.std.specs.Option.{option_or}
use Rattle.std.specs.Prelude.{IfSome, find, is_some, min, slice_get, if◌then◌else◌}
use Rattle.mail_base.specs.declared.kind.Id.{Id}
use Rattle.index_listed.specs.Cursor.{Stands, at_or_last, beside, is_seen, moved, moved_by_shutting}
use Rattle.index_listed.specs.Cursor.{same_thread}
use Rattle.index_listed.specs.Places.{numbers}
use Rattle.index_listed.specs.Seen.{PlainSight}
use Rattle.index_listed.proofs.PlaceLemmas.{found_some}

-- what stands in a list is seen
seen_at : (xs : List Id) (i : ℕ) (id : Id) → slice_get xs i ≡ Some id → is_seen xs id ≡ true
seen_at xs i id at =
    let place = found_some (numbers xs) id.0 i
    (slice_get-map (λ (d : Id). d.0) xs i ∙ ap (option_map (λ (d : Id). d.0)) at) in
    ap is_some place.1

empty : (xs : List Id) → length xs ≤ 0 → xs ≡ []
empty [] short = refl
empty (x ∷ xs) short = absurd (omega (arith, short))

stands_at : (xs : List Id) (i : ℕ) → (length xs ≤ i → xs ≡ []) → Stands xs (slice_get xs i)
stands_at xs i none = ⊎_elim
    (λ there. subst (Stands xs) (sym there.2) (seen_at xs i there.0 there.2))
    (λ past. subst (Stands xs) (sym past.1) (none past.0))
    (slice_get_cases xs i).1

stands_first : (xs : List Id) → Stands xs (slice_get xs 0)
stands_first xs = stands_at xs 0 (empty xs)

pub stands_last : (xs : List Id) (place : ℕ) → Stands xs (at_or_last xs place)
stands_last xs place =
    stands_at xs (min place (length xs - 1)) (λ le. empty xs (omega (arith, le)))

-- the message on which a cursor stands is seen, or another one that it goes to
stays_or : (xs : List Id) (id : Id) (other : Option Id) → Stands xs other
    → Stands xs (if is_seen xs id then Some id else other)
stays_or xs id other stands = by_test (is_seen xs id) refl
  where
    by_test : (b : Bool) → is_seen xs id ≡ b → Stands xs (if b then Some id else other)
    by_test true is = is
    by_test false is = stands

pub stands_moved : (old new : List Id) (c : Option Id) → Stands new (moved old new c)
stands_moved old new None = stands_first new
stands_moved old new (Some id) = stays_or new id (beside old new id) (stands_last new _)

pub stands_shut : (s : PlainSight) (old new : List Id) (c : Option Id)
    → Stands new (moved_by_shutting s old new c)
stands_shut s old new None = stands_first new
stands_shut s old new (Some id) = stays_or new id _ (by_found (find (same_thread s id) new) refl)
  where
    by_found : (o : Option Id) → find (same_thread s id) new ≡ o
        → Stands new (option_or o (beside old new id))
    by_found None is = stands_last new _
    by_found (Some x) is = seen_at new (position_or_len (same_thread s id) new) x
        (sym (find_at (same_thread s id) new) ∙ is)

-- where the cursor stands nowhere, nothing is seen, and the other way round
pub stands_nowhere : (xs : List Id) (c : Option Id) → Stands xs c
    → (c ≡ None → xs ≡ []) × (xs ≡ [] → c ≡ None)
stands_nowhere xs None none = (λ _. none, λ _. refl)
stands_nowhere xs (Some id) seen = (
  λ is. absurd (some_is_none id is),
  λ is. absurd (not_in_none id (ap (λ ys. is_seen ys id) (sym is) ∙ seen)),
)
  where
    some_is_none : (d : Id) → Some d ≡ None → ⊥
    some_is_none d is = cc

    not_in_none : (d : Id) → is_seen [] d ≡ true → ⊥
    not_in_none d is = cc

-- the message on which the cursor stands is seen
pub stands_seen : (xs : List Id) (c : Option Id) → Stands xs c
    → IfSome c (λ id. is_seen xs id ≡ true)
stands_seen xs None none = tt
stands_seen xs (Some id) seen = seen
