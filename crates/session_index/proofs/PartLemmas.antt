-- Where a cursor goes when messages are hidden one after the other.
use Rattle.std.proofs.Common.{◌≡◌, ◌∙◌, ◌+◌, ◌-◌, ◌≤◌, ◌<◌, ◌++◌, ◌||◌, ◌∷◌, [], ℕ, Bool, true}
use Rattle.std.proofs.Common.{false, List, Option, None, Some, ap, append-nil, arith, cond, eq-eqb}
use Rattle.std.proofs.Common.{length, nat_eq, nat_lt, not, refl, slice_get, subst, slice_index_or}
use Rattle.std.proofs.Common.{sym}
use Rattle.std.proofs.Math.Nat.{min-eq_left, min-eq_right}
use Rattle.std.proofs.lemmas.Bool.{eqb-true, false≢true, lt-ltb, or_parts}
use Rattle.std.proofs.lemmas.List.{get_or-map, length-append, length-map, map-append}
use Rattle.std.proofs.lemmas.List.Elements.{filter-append}
use Rattle.std.proofs.lemmas.List.Quantifiers.{position-Some}
use Rattle.std.proofs.lemmas.List.Sums.{sum_by-cons}
use Rattle.std.proofs.lemmas.Option.{slice_get-get_or}
use Rattle.std.specs.Prelude.{if◌then◌else◌, unwrap_or}
use Rattle.std.specs.List.{AllByRecursion, IsDistinct, count_by, filter, list_any, position_or_len}
use Rattle.mail_base.specs.declared.kind.Id.{Id}
use Rattle.index_listed.specs.Cursor.{at_or_last, beside, is_seen, moved}
use Rattle.index_listed.specs.Places.{numbers, place_in}
use Rattle.index_listed.proofs.ApartLemmas.{absent_next}
use Rattle.index_listed.proofs.PlaceLemmas.{found_reads}
use Rattle.index_view.proofs.OneLemmas.{seen_any, stays_by}
use Rattle.session_index.specs.Hiding.{is_part}

-- those that stay
abbrev pub left : Bool → Id → List Id → List Id
left b id ids = filter (stays_by b id) ids

abbrev has : List Id → Id → Bool
has ids x = list_any (nat_eq x.0) (numbers ids)

or_true : (t : Bool) → (t || true) ≡ true
or_true true = refl
or_true false = refl

either_way : (e a b : Bool) → (a ≡ true → b ≡ true) → (e || a) ≡ true → (e || b) ≡ true
either_way true a b more h = refl
either_way false a b more h = more h

plus_none : (n : ℕ) → 0 + n ≡ n
plus_none n = omega arith

itself : (n : ℕ) → nat_eq n n ≡ true
itself n = eq-eqb n n refl

stays_true : (b : Bool) (id x : Id) → nat_eq id.0 x.0 ≡ false → stays_by b id x ≡ true
stays_true true id x other = refl
stays_true false id x other = ap not other

-- what goes is what has the id
goes_by : (b : Bool) (id x : Id) → stays_by b id x ≡ false → nat_eq id.0 x.0 ≡ true
goes_by true id x goes = absurd (false≢true (sym goes))
goes_by false id x goes = by_test (nat_eq id.0 x.0) goes
  where
    by_test : (t : Bool) → not t ≡ false → t ≡ true
    by_test true h = refl
    by_test false h = absurd (false≢true (sym h))

-- ---- what is left of ids

-- one that stays is left
has_left : (b : Bool) (id x : Id) → stays_by b id x ≡ true → (ids : List Id) → has ids x ≡ true
    → has (left b id ids) x ≡ true
has_left b id x stays [] h = h
has_left b id x stays (y ∷ ids) h =
    by_test (stays_by b id y) refl h (has_left b id x stays ids)
  where
    by_test : (t : Bool) → stays_by b id y ≡ t → (nat_eq x.0 y.0 || has ids x) ≡ true
        → (has ids x ≡ true → has (left b id ids) x ≡ true)
        → has (if t then y ∷ left b id ids else left b id ids) x ≡ true
    by_test true is some more =
        either_way (nat_eq x.0 y.0) (has ids x) (has (left b id ids) x) more some
    by_test false is some more = by_id (nat_eq x.0 y.0) refl some
      where
        by_id : (e : Bool) → nat_eq x.0 y.0 ≡ e → (e || has ids x) ≡ true
            → has (left b id ids) x ≡ true
        by_id true same here = absurd (false≢true (sym is
            ∙ ap (λ n. b || not (nat_eq id.0 n)) (sym (eqb-true x.0 y.0 same)) ∙ stays))
        by_id false same here = more here

-- one that goes is not left
pub none_left : (b : Bool) (id x : Id) → stays_by b id x ≡ false → (ids : List Id)
    → has (left b id ids) x ≡ false
none_left b id x goes [] = refl
none_left b id x goes (y ∷ ids) = by_test (stays_by b id y) refl (none_left b id x goes ids)
  where
    by_test : (t : Bool) → stays_by b id y ≡ t → has (left b id ids) x ≡ false
        → has (if t then y ∷ left b id ids else left b id ids) x ≡ false
    by_test true is none =
        ap (λ (e : Bool). e || has (left b id ids) x) (by_id (nat_eq x.0 y.0) refl) ∙ none
      where
        by_id : (e : Bool) → nat_eq x.0 y.0 ≡ e → nat_eq x.0 y.0 ≡ false
        by_id true same = absurd (false≢true (sym goes
            ∙ ap (λ n. b || not (nat_eq id.0 n)) (eqb-true x.0 y.0 same) ∙ is))
        by_id false same = same
    by_test false is none = none

-- one that was not there is not left
pub not_left : (b : Bool) (id x : Id) (ids : List Id) → has ids x ≡ false
    → has (left b id ids) x ≡ false
not_left b id x [] none = refl
not_left b id x (y ∷ ids) none =
    let parts = or_parts (nat_eq x.0 y.0) (has ids x) none in
    by_test (stays_by b id y) parts.0 (not_left b id x ids parts.1)
  where
    by_test : (t : Bool) → nat_eq x.0 y.0 ≡ false → has (left b id ids) x ≡ false
        → has (if t then y ∷ left b id ids else left b id ids) x ≡ false
    by_test true other more = λ k. other k || more k
    by_test false other more = more

-- where the id is not there, all are left
all_left : (b : Bool) (id : Id) (ids : List Id) → has ids id ≡ false → left b id ids ≡ ids
all_left b id [] none = refl
all_left b id (x ∷ ids) none =
    let parts = or_parts (nat_eq id.0 x.0) (has ids id) none in
    ap (λ (t : Bool). if t then x ∷ left b id ids else left b id ids)
    (stays_true b id x parts.0)
    ∙ ap (λ (l : List Id). x ∷ l) (all_left b id ids parts.1)

count_first : (test : Id → Bool) (x : Id) (ids : List Id)
    → count_by test (x ∷ ids) ≡ cond (test x) 1 0 + count_by test ids
count_first test x ids = sum_by-cons (λ y. cond (test y) 1 0) x ids

-- a test that fails of what goes counts what is left
pub count_left : (b : Bool) (id : Id) (test : Id → Bool)
    → ((x : Id) → stays_by b id x ≡ false → test x ≡ false) → (ids : List Id)
    → count_by test ids ≡ count_by test (left b id ids)
count_left b id test fails [] = refl
count_left b id test fails (x ∷ ids) =
    by_test (stays_by b id x) refl (count_left b id test fails ids)
  where
    by_test : (t : Bool) → stays_by b id x ≡ t
        → count_by test ids ≡ count_by test (left b id ids)
        → count_by test (x ∷ ids) ≡ count_by test (if t then x ∷ left b id ids else left b id ids)
    by_test true is more = count_first test x ids ∙ ap (λ n. cond (test x) 1 0 + n) more
        ∙ sym (count_first test x (left b id ids))
    by_test false is more = count_first test x ids
        ∙ ap (λ (u : Bool). cond u 1 0 + count_by test ids) (fails x is)
        ∙ plus_none (count_by test ids) ∙ more

-- all that stand before others are there
pub all_seen : (front back : List Id) → count_by (is_seen (front ++ back)) front ≡ length front
all_seen front back = counted front (λ x h. seen_any (front ++ back) x ∙ there front x h)
  where
    there : (ids : List Id) (x : Id) → has ids x ≡ true → has (ids ++ back) x ≡ true
    there [] x h = absurd (false≢true h)
    there (y ∷ ids) x h =
        either_way (nat_eq x.0 y.0) (has ids x) (has (ids ++ back) x) (there ids x) h

    counted : (ids : List Id) → ((x : Id) → has ids x ≡ true → is_seen (front ++ back) x ≡ true)
        → count_by (is_seen (front ++ back)) ids ≡ length ids
    counted [] each = refl
    counted (x ∷ ids) each =
        let here = each x (ap (λ (t : Bool). t || has ids x) (itself x.0)) in
        let rest = counted ids (λ y h. each y (ap (λ (t : Bool). nat_eq y.0 x.0 || t) h
        ∙ or_true (nat_eq y.0 x.0))) in
        count_first (is_seen (front ++ back)) x ids ∙ (λ k. cond (here k) 1 0 + rest k)
        ∙ omega arith

pub split_left : (b : Bool) (id : Id) (front back : List Id)
    → left b id (front ++ back) ≡ left b id front ++ left b id back
split_left b id front back = filter-append (stays_by b id) front back

-- ---- ids in the same order

part_more : (xs : List Id) (y : Id) (ys : List Id)
    → ((x : Id) → (rest : List Id) → is_part (x ∷ rest) ys ≡ true → is_part rest ys ≡ true)
    → is_part xs ys ≡ true → is_part xs (y ∷ ys) ≡ true
part_more [] y ys fewer part = refl
part_more (x ∷ xs) y ys fewer part = by_id (nat_eq x.0 y.0)
  where
    by_id : (t : Bool) → (if t then is_part xs ys else is_part (x ∷ xs) ys) ≡ true
    by_id true = fewer x xs part
    by_id false = part

part_rest : (x : Id) (xs ys : List Id) → is_part (x ∷ xs) ys ≡ true → is_part xs ys ≡ true
part_rest x xs [] part = absurd (false≢true part)
part_rest x xs (y ∷ ys) part =
    part_more xs y ys (λ z rest. part_rest z rest ys)
    (by_id (nat_eq x.0 y.0) (part_rest x xs ys) part)
  where
    by_id : (t : Bool) → (is_part (x ∷ xs) ys ≡ true → is_part xs ys ≡ true)
        → (if t then is_part xs ys else is_part (x ∷ xs) ys) ≡ true → is_part xs ys ≡ true
    by_id true rest h = h
    by_id false rest h = rest h

part_some : (x : Id) (xs ys : List Id) → is_part (x ∷ xs) ys ≡ true → has ys x ≡ true
part_some x xs [] part = absurd (false≢true part)
part_some x xs (y ∷ ys) part = by_id (nat_eq x.0 y.0) (part_some x xs ys) part
  where
    by_id : (t : Bool) → (is_part (x ∷ xs) ys ≡ true → has ys x ≡ true)
        → (if t then is_part xs ys else is_part (x ∷ xs) ys) ≡ true → (t || has ys x) ≡ true
    by_id true more h = refl
    by_id false more h = more h

-- the first of them is there
pub part_has : (x : Id) (xs ys : List Id) → is_part (x ∷ xs) ys ≡ true → is_seen ys x ≡ true
part_has x xs ys part = seen_any ys x ∙ part_some x xs ys part

absent : (n : ℕ) (ids : List Id) → AllByRecursion (λ m. nat_eq n m ≡ false) (numbers ids)
    → list_any (nat_eq n) (numbers ids) ≡ false
absent n [] none = refl
absent n (x ∷ ids) none = λ k. none.0 k || absent n ids none.1 k

-- the others stay in order where the first of them may be hidden
pub part_left : (b : Bool) (x : Id) (xs ys : List Id) → IsDistinct nat_eq (numbers ys)
    → is_part (x ∷ xs) ys ≡ true → is_part xs (left b x ys) ≡ true
unfolding IsDistinct
part_left b x xs [] apart part = absurd (false≢true part)
part_left b x xs (y ∷ ys) apart part =
    by_id (nat_eq x.0 y.0) refl (part_left b x xs ys apart.1) part
  where
    more : (zs : List Id) → is_part xs zs ≡ true → is_part xs (y ∷ zs) ≡ true
    more zs h = part_more xs y zs (λ z rest. part_rest z rest zs) h

    either : (t : Bool) (zs : List Id) → is_part xs zs ≡ true
        → is_part xs (if t then y ∷ zs else zs) ≡ true
    either true zs h = more zs h
    either false zs h = h

    by_id : (t : Bool) → nat_eq x.0 y.0 ≡ t
        → (is_part (x ∷ xs) ys ≡ true → is_part xs (left b x ys) ≡ true)
        → (if t then is_part xs ys else is_part (x ∷ xs) ys) ≡ true
        → is_part xs (if stays_by b x y then y ∷ left b x ys else left b x ys) ≡ true
    by_id true same rest h =
        let none : has ys x ≡ false = ap (λ n. list_any (nat_eq n) (numbers ys))
        (eqb-true x.0 y.0 same) ∙ absent y.0 ys apart.0 in
        either (stays_by b x y) (left b x ys)
        (ap (is_part xs) (all_left b x ys none) ∙ h)
    by_id false other rest h = either (stays_by b x y) (left b x ys) (rest h)

-- ---- the cursor

-- the place of one that stands behind others that differ from it
placed : (front : List Id) (r : Id) (back : List Id) → has front r ≡ false
    → place_in (front ++ r ∷ back) r ≡ Some (length front)
placed front r back none =
    ap (λ n. cond {A = Option ℕ} (nat_lt n (length (numbers all))) (Some n) None) (first front none)
    ∙ ap (λ (t : Bool). cond {A = Option ℕ} t (Some (length front)) None)
    (lt-ltb (length front) (length (numbers all)) low)
  where
    all : List Id
    all = front ++ r ∷ back

    first : (ids : List Id) → has ids r ≡ false
        → position_or_len (nat_eq r.0) (numbers (ids ++ r ∷ back)) ≡ length ids
    first [] h = ap (λ (t : Bool). cond (not t) (1 + position_or_len (nat_eq r.0) (numbers back)) 0)
        (itself r.0)
    first (x ∷ ids) h =
        let parts = or_parts (nat_eq r.0 x.0) (has ids r) h in
        let rest = position_or_len (nat_eq r.0) (numbers (ids ++ r ∷ back)) in
        ap (λ (t : Bool). cond (not t) (1 + rest) 0) parts.0
        ∙ ap (λ n. 1 + n) (first ids parts.1) ∙ omega arith

    low : length front < length (numbers all)
    low = omega (arith, length-map all (λ (x : Id). x.0), length-append front (r ∷ back))

-- what stands at the place of an id is that
pub placed_low : (ids : List Id) (id : Id) (p : ℕ) → place_in ids id ≡ Some p → p < length ids
placed_low ids id p is = subst (λ n. p < n) (length-map ids (λ (x : Id). x.0))
    (position-Some (nat_eq id.0) (numbers ids) p 0 is).0

pub get_placed : (ids : List Id) (id : Id) (p : ℕ) → place_in ids id ≡ Some p
    → slice_get ids p ≡ Some id
get_placed ids id p is =
    let low = placed_low ids id p is in
    let number : (slice_index_or ids p id).0 ≡ id.0 =
    sym (get_or-map (λ (x : Id). x.0) ids p id 0 low) ∙ found_reads (numbers ids) id.0 p is 0 in
    slice_get-get_or ids p id low ∙ (λ k. Some (record { 0 = number k }))

get_behind : (front : List Id) (r : Id) (back : List Id)
    → slice_get (front ++ r ∷ back) (length front) ≡ Some r
get_behind [] r back = refl
get_behind (x ∷ front) r back = get_behind front r back

lands : (front : List Id) (r : Id) (back : List Id)
    → at_or_last (front ++ r ∷ back) (length front) ≡ Some r
lands front r back =
    ap (slice_get (front ++ r ∷ back)) (min-eq_left {n = length front}
    {m = length (front ++ r ∷ back) - 1} (omega (arith, length-append front (r ∷ back))))
    ∙ get_behind front r back

-- behind the end it is the last
last_is : (ids : List Id) (n m : ℕ) → length ids ≤ n + 1 → length ids ≤ m + 1
    → at_or_last ids n ≡ at_or_last ids m
last_is ids n m one other =
    ap (slice_get ids) (min-eq_right {n = length ids - 1} {m = n} (omega (arith, one))
    ∙ sym (min-eq_right {n = length ids - 1} {m = m} (omega (arith, other))))

-- a cursor that stands on a message goes behind those that are left before it
at_one : (b : Bool) (id : Id) (front : List Id) (r : Id) (back : List Id)
    → has front r ≡ false
    → moved (front ++ r ∷ back) (left b id (front ++ r ∷ back)) (Some r)
    ≡ at_or_last (left b id (front ++ r ∷ back)) (length (left b id front))
at_one b id front r back none = by_test (stays_by b id r) refl
  where
    old : List Id
    old = front ++ r ∷ back

    new : List Id
    new = left b id old

    split : new ≡ left b id front ++ left b id (r ∷ back)
    split = split_left b id front (r ∷ back)

    old_has : (ids : List Id) → has (ids ++ r ∷ back) r ≡ true
    old_has [] = ap (λ (t : Bool). t || has back r) (itself r.0)
    old_has (x ∷ ids) =
        ap (λ (t : Bool). nat_eq r.0 x.0 || t) (old_has ids) ∙ or_true (nat_eq r.0 x.0)

    by_test : (t : Bool) → stays_by b id r ≡ t
        → moved old new (Some r) ≡ at_or_last new (length (left b id front))
    by_test true is =
        let here : left b id (r ∷ back) ≡ r ∷ left b id back =
        ap (λ (t : Bool). if t then r ∷ left b id back else left b id back) is in
        ap (λ (t : Bool). if t then Some r else beside old new r)
        (seen_any new r ∙ has_left b id r is old (old_has front))
        ∙ sym (lands (left b id front) r (left b id back))
        ∙ ap (λ (l : List Id). at_or_last (left b id front ++ l) (length (left b id front)))
        (sym here)
        ∙ ap (λ (l : List Id). at_or_last l (length (left b id front))) (sym split)
    by_test false is =
        let same : nat_eq id.0 r.0 ≡ true = goes_by b id r is in
        let none_here : has front id ≡ false =
        ap (λ n. list_any (nat_eq n) (numbers front)) (eqb-true id.0 r.0 same) ∙ none in
        ap (λ (t : Bool). if t then Some r else beside old new r)
        (seen_any new r ∙ none_left b id r is old)
        ∙ ap (λ (o : Option ℕ). at_or_last new (unwrap_or o 0)) (placed front r back none)
        ∙ ap (λ (l : List Id). at_or_last new (length l)) (sym (all_left b id front none_here))

-- ids and the last of them
record Ends (ids : List Id) : Type 0 where
  front : List Id
  last : Id
  are : ids ≡ front ++ last ∷ []

ends : (x : Id) (ids : List Id) → Ends (x ∷ ids)
ends x [] = record { front = []; last = x; are = refl }
ends x (y ∷ ids) =
    let more = ends y ids in
    record { front = x ∷ more.front; last = more.last; are = λ k. x ∷ more.are k }

-- a cursor behind ids goes behind those that are left of them
pub moved_left : (b : Bool) (id : Id) (front back : List Id)
    → IsDistinct nat_eq (numbers (front ++ back))
    → moved (front ++ back) (left b id (front ++ back)) (at_or_last (front ++ back) (length front))
    ≡ at_or_last (left b id (front ++ back)) (length (left b id front))
moved_left b id front (r ∷ back) apart =
    ap (moved (front ++ r ∷ back) (left b id (front ++ r ∷ back))) (lands front r back)
    ∙ at_one b id front r back
    (absent_next (numbers front) (numbers back) r.0
    (subst (IsDistinct nat_eq) (map-append (λ (x : Id). x.0) front (r ∷ back)) apart))
moved_left b id [] [] apart = refl
moved_left b id (x ∷ ids) [] apart =
    let all = x ∷ ids in
    let end = ends x ids in
    let whole : all ++ [] ≡ end.front ++ end.last ∷ [] = append-nil all ∙ end.are in
    let long : length all ≡ length end.front + 1 =
    ap length end.are ∙ length-append end.front (end.last ∷ []) in
    let at_last : at_or_last (all ++ []) (length all) ≡ Some end.last =
    ap (λ (l : List Id). at_or_last l (length all)) whole
    ∙ last_is (end.front ++ end.last ∷ []) (length all) (length end.front)
    (omega (arith, long, length-append end.front (end.last ∷ [])))
    (omega (arith, length-append end.front (end.last ∷ [])))
    ∙ lands end.front end.last [] in
    let none = absent_next (numbers end.front) [] end.last.0
    (subst (IsDistinct nat_eq) (map-append (λ (x : Id). x.0) end.front (end.last ∷ []))
    (subst (λ (l : List Id). IsDistinct nat_eq (numbers l)) whole apart)) in
    let new = left b id (end.front ++ end.last ∷ []) in
    let new_long : length new ≡ length (left b id end.front) + length (left b id (end.last ∷ [])) =
    ap length (filter-append (stays_by b id) end.front (end.last ∷ []))
    ∙ length-append (left b id end.front) (left b id (end.last ∷ [])) in
    let all_new : left b id all ≡ new = ap (left b id) end.are in
    ap (moved (all ++ []) (left b id (all ++ []))) at_last
    ∙ ap (λ (l : List Id). moved l (left b id l) (Some end.last)) whole
    ∙ at_one b id end.front end.last [] none
    ∙ last_is new (length (left b id end.front)) (length (left b id all))
    (omega (arith, new_long, one_at_most (end.last)))
    (omega (arith, ap length all_new))
    ∙ ap (λ (l : List Id). at_or_last (left b id l) (length (left b id all))) (sym whole)
  where
    one_at_most : (y : Id) → length (left b id (y ∷ [])) ≤ 1
    one_at_most y = by_test (stays_by b id y)
      where
        by_test : (t : Bool) → length (if t then y ∷ [] else []) ≤ 1
        by_test true = omega arith
        by_test false = omega arith
