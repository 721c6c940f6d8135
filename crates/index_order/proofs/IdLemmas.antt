-- Ids and their places in a listing.
use Rattle.std.proofs.Common.{◌≡◌, ◌∙◌, ℕ, zero, suc, ◌+◌, ◌<◌, ◌++◌, ◌∷◌, [], ◌||◌, Bool, true}
use Rattle.std.proofs.Common.{false, List, length, map, take, Option, Some, None, ap, arith, sym}
use Rattle.std.proofs.Common.{refl, subst, nat_eq, get_or, if◌then◌else◌, ⊎_elim, eq-eqb, eqb-true}
use Rattle.std.proofs.Common.{length-take-le, take-suc, is_none, unwrap_or, option_map}
use Rattle.std.proofs.Common.{slice_index_or}
use Rattle.std.specs.List.{IsDistinct, list_any, position}
use Rattle.std.specs.Option.{option_and_then}
use Rattle.std.specs.Ordering.{bool_cmp, nat_cmp, ordering_then}
use Rattle.std.specs.declared.cmp.Ordering.{Ordering}
use Rattle.std.proofs.lemmas.Bool.{cases_lt, false≢true}
use Rattle.std.proofs.lemmas.List.{get_or-map, get_or-take, length-map, map_push, take-map}
use Rattle.std.proofs.lemmas.Simd.{map-map}
use Rattle.std.proofs.lemmas.List.Quantifiers.{position-Some}
use Rattle.std.proofs.lemmas.Map.Keys.{apart_from_distinct}
use Rattle.mail_base.specs.declared.kind.Id.{Id}
use Rattle.threads.specs.Links.{target}
use Rattle.threads.specs.Message.{PlainMessage, no_message}
use Rattle.threads.specs.Message as message
use Rattle.threads.specs.Subjects.{parents}
use Rattle.threads.specs.Threads.{PlainThreads, parent_by, place_of}
use Rattle.threads.specs.declared.step.Step.{Step}
use Rattle.threads.proofs.FoundLemmas.{absent_number, parents_below}
use Rattle.index_order.specs.Inner.{id_cmp, numbers, parent_place, place_in}
use Rattle.index_order.specs.Keys.{PlainKeys, at, no_keys}
use Rattle.index_order.specs.Order.{AreDistinct, AreOf, id_at}
use Rattle.index_order.proofs.SortedLemmas.{read_is}

-- ids of the listing compare by their places
pub ids_by_places : (cmp : ℕ → ℕ → Ordering) (place : Id → Option ℕ) (a b : Id) (p q : ℕ)
    → place a ≡ Some p → place b ≡ Some q → id_cmp cmp place a b ≡ cmp p q
ids_by_places cmp place a b p q one other =
    ap (λ (o : Option ℕ). ordering_then (bool_cmp (is_none o) (is_none (place b)))
    (if is_none o then nat_cmp a.0 b.0 else cmp (unwrap_or o 0) (unwrap_or (place b) 0))) one
    ∙ ap (λ (o : Option ℕ). ordering_then (bool_cmp false (is_none o)) (cmp p (unwrap_or o 0)))
    other

neither : (a b : Bool) → (a || b) ≡ false → (a ≡ false) × (b ≡ false)
neither true b e = absurd (false≢true (sym e))
neither false b e = (refl, e)

none_passes : (xs : List ℕ) (n i : ℕ) → list_any (nat_eq n) xs ≡ false → i < length xs
    → nat_eq n (get_or xs i 0) ≡ false
none_passes [] n i e lt = absurd (omega arith)
none_passes (x ∷ xs) n zero e lt = (neither (nat_eq n x) (list_any (nat_eq n) xs) e).0
none_passes (x ∷ xs) n (suc i) e lt =
    none_passes xs n i (neither (nat_eq n x) (list_any (nat_eq n) xs) e).1 (omega arith)

not_among : (xs : List ℕ) (n : ℕ) → ((i : ℕ) → i < length xs → nat_eq n (get_or xs i 0) ≡ false)
    → list_any (nat_eq n) xs ≡ false
not_among [] n differ = refl
not_among (x ∷ xs) n differ =
    ap (λ (b : Bool). b || list_any (nat_eq n) xs) (differ 0 (omega arith))
    ∙ not_among xs n (λ i lt. differ (suc i) (omega arith))

-- distinct numbers stand at one place each
pub one_place : (xs : List ℕ) → IsDistinct nat_eq xs → (i j : ℕ) → i < length xs → j < length xs
    → get_or xs i 0 ≡ get_or xs j 0 → i ≡ j
one_place xs distinct i j one other same = ⊎_elim
    (λ lt. absurd (false≢true (sym (apart_from_distinct nat_eq xs i j 0 distinct lt other)
    ∙ eq-eqb _ _ same)))
    (λ le. ⊎_elim
    (λ lt. absurd (false≢true (sym (apart_from_distinct nat_eq xs j i 0 distinct lt one)
    ∙ eq-eqb _ _ (sym same))))
    (λ ge. omega arith) (cases_lt j i))
    (cases_lt i j)

pub place_found : (xs : List ℕ) → IsDistinct nat_eq xs → (i n : ℕ) → i < length xs
    → n ≡ get_or xs i 0 → position (nat_eq n) xs ≡ Some i
place_found xs distinct i n lt is = by_place (position (nat_eq n) xs) refl
  where
    by_place : (o : Option ℕ) → position (nat_eq n) xs ≡ o → position (nat_eq n) xs ≡ Some i
    by_place None e = absurd (false≢true
        (sym (none_passes xs n i (absent_number xs n e) lt) ∙ eq-eqb _ _ is))
    by_place (Some j) e =
        let found = position-Some (nat_eq n) xs j 0 e in
        e ∙ ap (λ (k : ℕ). Some k) (one_place xs distinct j i found.0 lt
        (sym (eqb-true _ _ found.1) ∙ is))

number_at : (keys : List PlainKeys) (i : ℕ) → i < length keys
    → get_or (numbers keys) i 0 ≡ (id_at keys i).0
number_at keys i lt = get_or-map (λ (k : PlainKeys). k.id.0) keys i no_keys 0 lt

within : (keys : List PlainKeys) (i : ℕ) → i < length keys → i < length (numbers keys)
within keys i lt = subst (λ n. i < n) (sym (length-map keys (λ (k : PlainKeys). k.id.0))) lt

-- a listed id stands at its place
pub place_is : (keys : List PlainKeys) → AreDistinct keys → (i : ℕ) → i < length keys
    → place_in (numbers keys) (id_at keys i) ≡ Some i
place_is keys distinct i lt = place_found (numbers keys) distinct i (id_at keys i).0
    (within keys i lt) (sym (number_at keys i lt))

-- a number of a listing is none of those before it
pub number_new : (keys : List PlainKeys) → AreDistinct keys → (i : ℕ) → i < length keys
    → list_any (nat_eq (id_at keys i).0) (numbers (take i keys)) ≡ false
number_new keys distinct i lt =
    ap (list_any (nat_eq (id_at keys i).0))
    (sym (take-map (λ (k : PlainKeys). k.id.0) i keys))
    ∙ not_among (take i (numbers keys)) (id_at keys i).0 (λ k low.
    let below : k < i = below_front k low in
    false_where (nat_eq (id_at keys i).0 (get_or (take i (numbers keys)) k 0)) (λ e.
    false≢true (sym (apart_from_distinct nat_eq (numbers keys) k i 0 distinct below
    (within keys i lt)) ∙ eq-eqb _ _ (sym (get_or-take i (numbers keys) k 0 below)
    ∙ sym (eqb-true _ _ e) ∙ sym (number_at keys i lt)))))
  where
    below_front : (k : ℕ) → k < length (take i (numbers keys)) → k < i
    below_front k low = let long = length-take-le i (numbers keys)
        (let far = within keys i lt in omega (arith, far)) in omega (arith, low, long)

    false_where : (b : Bool) → (b ≡ true → ⊥) → b ≡ false
    false_where true never = absurd (never refl)
    false_where false never = refl

-- the next number is put behind those before it
pub number_next : (keys : List PlainKeys) → AreDistinct keys → (i n : ℕ) → i < length keys
    → n ≡ (id_at keys i).0
    → (if list_any (nat_eq n) (numbers (take i keys)) then numbers (take i keys)
    else numbers (take i keys) ++ n ∷ []) ≡ numbers (take (i + 1) keys)
number_next keys distinct i n lt is =
    let more : i + 1 ≡ suc i = omega arith in
    ap (λ (b : Bool). if b then numbers (take i keys) else numbers (take i keys) ++ n ∷ [])
    (ap (λ (k : ℕ). list_any (nat_eq k) (numbers (take i keys))) is ∙ number_new keys distinct i lt)
    ∙ ap (λ (k : ℕ). numbers (take i keys) ++ k ∷ []) is
    ∙ sym (ap (λ (k : ℕ). numbers (take k keys)) more
    ∙ ap numbers (take-suc keys i no_keys lt)
    ∙ map_push (λ (k : PlainKeys). k.id.0) (take i keys) (at keys i).keys)

-- the id of a message that is read
pub read_id : (keys : List PlainKeys) (i : ℕ) (x : PlainKeys) → i < length keys
    → x ≡ get_or keys i x → x.id ≡ id_at keys i
read_id keys i x lt e = ap (λ (k : PlainKeys). k.id) (read_is keys i x lt e)

no_id : Id
no_id = record { 0 = 0 }

any_map : {X Y : Type 0} (f : X → Y) (xs : List X) (i : ℕ) (d : X)
    → get_or (map f xs) i (f d) ≡ f (get_or xs i d)
any_map f [] i d = refl
any_map f (x ∷ xs) zero d = refl
any_map f (x ∷ xs) (suc i) d = any_map f xs i d

-- the messages of threads have the ids of the listing
pub same_ids : (keys : List PlainKeys) (threads : PlainThreads) → AreOf keys threads → (i : ℕ)
    → (message.at threads.messages i).id ≡ id_at keys i
unfolding no_id
same_ids keys threads of i =
    sym (any_map (λ (m : PlainMessage). m.id) threads.messages i no_message)
    ∙ ap (λ (l : List Id). get_or l i no_id) (sym of.same)
    ∙ any_map (λ (k : PlainKeys). k.id) keys i no_keys

pub same_long : (keys : List PlainKeys) (threads : PlainThreads) → AreOf keys threads
    → length threads.messages ≡ length keys
same_long keys threads of =
    sym (length-map threads.messages (λ (m : PlainMessage). m.id)) ∙ ap length (sym of.same)
    ∙ length-map keys (λ (k : PlainKeys). k.id)

pub same_numbers : (keys : List PlainKeys) (threads : PlainThreads) → AreOf keys threads
    → message.numbers threads.messages ≡ numbers keys
same_numbers keys threads of =
    sym (map-map (λ (i : Id). i.0) (λ (m : PlainMessage). m.id) threads.messages)
    ∙ ap (map (λ (i : Id). i.0)) (sym of.same)
    ∙ map-map (λ (i : Id). i.0) (λ (k : PlainKeys). k.id) keys

-- a message of the listing is held by threads, at its place
pub place_held : (keys : List PlainKeys) (threads : PlainThreads) → AreOf keys threads → (i : ℕ)
    → i < length keys → place_of threads.messages (id_at keys i) ≡ Some i
place_held keys threads of i lt =
    ap (λ (l : List ℕ). position (nat_eq (id_at keys i).0) l) (same_numbers keys threads of)
    ∙ place_is keys of.distinct i lt

-- where the parent stands that threads tell
pub parent_place_is : (keys : List PlainKeys) (threads : PlainThreads) → AreOf keys threads
    → (i : ℕ) → i < length keys → parent_place (numbers keys) threads (id_at keys i)
    ≡ target (parents threads.options threads.messages) i
parent_place_is keys threads of i lt =
    ap (λ (o : Option ℕ). option_and_then (λ p. place_in (numbers keys) p.id)
    (option_and_then (λ place. option_map (parent_by threads.messages)
    (slice_index_or (parents threads.options threads.messages) place None)) o))
    (place_held keys threads of i lt)
    ∙ by_step (slice_index_or (parents threads.options threads.messages) i None) refl
  where
    by_step : (o : Option Step)
        → slice_index_or (parents threads.options threads.messages) i None ≡ o
        → option_and_then (λ p. place_in (numbers keys) p.id)
        (option_map (parent_by threads.messages) o) ≡ option_map (λ (s : Step). s.place) o
    by_step None e = refl
    by_step (Some s) e =
        ap (place_in (numbers keys)) (same_ids keys threads of s.place)
        ∙ place_is keys of.distinct s.place (subst (λ n. s.place < n) (same_long keys threads of)
        (parents_below threads.options threads.messages i s.place
        (ap (option_map (λ (t : Step). t.place)) e)))
