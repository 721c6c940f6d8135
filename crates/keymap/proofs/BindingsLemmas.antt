-- How bindings are found in their tables, and how they grow.
use Rattle.std.proofs.Common.{◌≡◌, ℕ, ◌+◌, ◌<◌, ◌≤◌, Bool, true, false, cond, ◌&&◌, ◌||◌, List}
use Rattle.std.proofs.Common.{[], ◌∷◌, ◌++◌}
use Rattle.std.proofs.Common.{Some, map, refl, sym, ap, ◌∙◌, ⊎_elim, arith, find, option_map}
use Rattle.std.proofs.Common.{length, take, nat_lt, Vec}
use Rattle.std.specs.Prelude.{if◌then◌else◌, Result, Ok, Err, IsOk, OnOk}
use Rattle.std.specs.List.{list_any}
use Rattle.std.specs.Map.{lookup}
use Rattle.std.specs.Cmp.Lexicographic.{pointwise}
use Rattle.std.specs.declared.alloc.Global.{Global}
use Rattle.std.proofs.Common.{◌⊎◌, inl, inr, length-take-le}
use Rattle.std.proofs.Math.Bool.{or-false}
use Rattle.std.proofs.lemmas.Bool.{cases_Bool, cases_lt, false_from_ne_true, false≢true}
use Rattle.std.proofs.lemmas.Bool.Decides.{nat_tests}
use Rattle.std.proofs.lemmas.List.{append-nil}
use Rattle.indexmap.specs.IndexMap.{insert_entry}
use Rattle.indexmap.specs.IndexSet.{insert_key}
use Rattle.keymap.specs.Bindings.{Binding, PlainAction, action_of, binding, bound, is_among}
use Rattle.keymap.specs.Bindings.{is_begun, is_front}
use Rattle.keymap.specs.Bindings.{found, found_by, is_front_below, plain_action, plain_binding}
use Rattle.keymap.specs.Keys.{same_keys}
use Rattle.keymap.specs.declared.bindings.Action.{Action}
use Rattle.keymap.specs.declared.key.Key.{Key}
use Rattle.keymap.specs.contracts.key.KeyPartialEq.TheImpl as keys_equal
use Rattle.keymap.proofs.KeyLemmas.{keys_eq, same_keys_is}

pub or_assoc : (a b c : Bool) → (a || b) || c ≡ a || (b || c)
or_assoc true b c = refl
or_assoc false b c = refl

or_again : (a b : Bool) → (a || b) || a ≡ a || b
or_again true b = refl
or_again false b = or-false b

-- the test by which a table of sequences is searched
abbrev pub equals : List Key → List Key → Bool
equals keys others = pointwise keys_equal.eq-value.it keys others

pub looked_up : (entries : List (Vec Key Global × Action)) (keys : List Key)
    → option_map plain_action (lookup (λ k. equals keys k.items) entries)
    ≡ action_of (map plain_binding entries) keys
looked_up [] keys = refl
looked_up (e ∷ entries) keys =
    ap (λ b. option_map plain_action (cond b (Some e.1) (lookup
    (λ k. equals keys k.items) entries)))
    (keys_eq keys e.0.items)
    ∙ elim (same_keys keys e.0.items) as (λ b. option_map plain_action (cond b (Some e.1)
    (lookup (λ k. equals keys k.items) entries))
    ≡ option_map (λ f. f.action) (cond b (Some (plain_binding e))
    (find (λ f. same_keys keys f.keys) (map plain_binding entries))))
    [ true ↦ refl | false ↦ looked_up entries keys ]

pub looked_among : (sequences : List (Vec Key Global)) (keys : List Key)
    → list_any (λ s. equals keys s.items) sequences ≡ is_among sequences keys
looked_among [] keys = refl
looked_among (s ∷ sequences) keys =
    ap (λ b. b || list_any (λ t. equals keys t.items) sequences) (keys_eq keys s.items)
    ∙ ap (λ b. same_keys keys s.items || b) (looked_among sequences keys)

-- what the two tables tell of keys
pub told_found : (entries : List (Vec Key Global × Action)) (fronts : List (Vec Key Global))
    (bindings : List Binding) (keys : List Key) → map plain_binding entries ≡ bindings
    → is_among fronts keys ≡ is_begun (map plain_binding entries) keys
    → found_by (option_map plain_action (lookup (λ k. equals keys k.items) entries))
    (list_any (λ s. equals keys s.items) fronts)
    ≡ found bindings keys
told_found entries fronts bindings keys seen kept =
    ap (λ o. found_by o (list_any (λ s. equals keys s.items) fronts)) (looked_up entries keys)
    ∙ ap (found_by (action_of (map plain_binding entries) keys)) (looked_among fronts keys ∙ kept)
    ∙ ap (λ b. found b keys) seen

any_append : {X : Type 0} (p : X → Bool) (xs ys : List X)
    → list_any p (xs ++ ys) ≡ list_any p xs || list_any p ys
any_append p [] ys = refl
any_append p (x ∷ xs) ys = ap (λ b. p x || b) (any_append p xs ys)
    ∙ sym (or_assoc (p x) (list_any p xs) (list_any p ys))

-- how a table tells its keys apart
abbrev pub equal_keys : Vec Key Global → Vec Key Global → Bool
equal_keys a b = equals a.items b.items

found_same : (sequences : List (Vec Key Global)) (k : Vec Key Global)
    → list_any (equal_keys k) sequences ≡ is_among sequences k.items
found_same [] k = refl
found_same (s ∷ sequences) k =
    ap (λ b. b || list_any (equal_keys k) sequences) (keys_eq k.items s.items)
    ∙ ap (λ b. same_keys k.items s.items || b) (found_same sequences k)

-- a table of sequences in which one was put
pub put_among : (sequences : List (Vec Key Global)) (k : Vec Key Global) (keys : List Key)
    → is_among (insert_key equal_keys sequences k) keys
    ≡ is_among sequences keys || same_keys keys k.items
put_among sequences k keys = ⊎_elim
    (λ there. ap (λ b. is_among (if b then sequences else sequences ++ k ∷ []) keys) there
    ∙ sym (⊎_elim
    (λ is.
    let own : is_among sequences keys ≡ true =
    ap (is_among sequences) (same_keys_is keys k.items is) ∙ sym (found_same sequences k) ∙ there in
    ap (λ b. b || same_keys keys k.items) own ∙ sym own)
    (λ apart. ap (λ b. is_among sequences keys || b) apart ∙ or-false (is_among sequences keys))
    (cases_Bool (same_keys keys k.items))))
    (λ absent. ap (λ b. is_among (if b then sequences else sequences ++ k ∷ []) keys) absent
    ∙ any_append (λ s. same_keys keys s.items) sequences (k ∷ [])
    ∙ ap (λ b. is_among sequences keys || b) (or-false (same_keys keys k.items)))
    (cases_Bool (list_any (equal_keys k) sequences))

pub put_grown : (sequences : List (Vec Key Global)) (k : Vec Key Global)
    → (more : List (Vec Key Global)) × (insert_key equal_keys sequences k ≡ sequences ++ more)
put_grown sequences k =
    elim (list_any (equal_keys k) sequences) as (λ b. (more : List (Vec Key Global))
    × ((if b then sequences else sequences ++ k ∷ []) ≡ sequences ++ more))
    [ true ↦ ([], sym (append-nil sequences)) | false ↦ (k ∷ [], refl) ]

-- and a table of what sequences are bound to
pub bound_entries : (entries : List (Vec Key Global × Action)) (k : Vec Key Global) (a : Action)
    → map plain_binding (insert_entry equal_keys entries k a)
    ≡ bound (map plain_binding entries) k.items (plain_action a)
bound_entries [] k a = refl
bound_entries (e ∷ entries) k a =
    ap (λ b. map plain_binding (if b then (
      e.0,
      a,
    ) ∷ entries else e ∷ insert_entry equal_keys entries k a))
    (keys_eq k.items e.0.items)
    ∙ elim (same_keys k.items e.0.items) as (λ b. map plain_binding
    (if b then (e.0, a) ∷ entries else e ∷ insert_entry equal_keys entries k a)
    ≡ (if b then binding e.0.items (plain_action a) ∷ map plain_binding entries
    else plain_binding e ∷ bound (map plain_binding entries) k.items (plain_action a)))
    [ true ↦ refl | false ↦ ap (λ l. plain_binding e ∷ l) (bound_entries entries k a) ]

-- what is begun once keys are bound
pub bound_begun : (bindings : List Binding) (keys : List Key) (a : PlainAction) (s : List Key)
    → is_begun (bound bindings keys a) s ≡ is_begun bindings s || is_front s keys
bound_begun [] keys a s = or-false (is_front s keys)
bound_begun (b ∷ bindings) keys a s = ⊎_elim
    (λ is.
    let own : b.keys ≡ keys = sym (same_keys_is keys b.keys is) in
    ap (λ t. is_begun (if t then binding b.keys a ∷ bindings else b ∷ bound bindings keys a) s) is
    ∙ sym (or_again (is_front s b.keys) (is_begun bindings s))
    ∙ ap (λ k. (is_front s b.keys || is_begun bindings s) || is_front s k) own)
    (λ apart.
    ap (λ t. is_begun (if t then binding b.keys a ∷ bindings else b ∷ bound bindings keys a) s)
    apart
    ∙ ap (λ t. is_front s b.keys || t) (bound_begun bindings keys a s)
    ∙ sym (or_assoc (is_front s b.keys) (is_begun bindings s) (is_front s keys)))
    (cases_Bool (same_keys keys b.keys))

same_length : (ks ls : List Key) → same_keys ks ls ≡ true → length ks ≡ length ls
same_length ks ls same = ap length (same_keys_is ks ls same)

-- one front more
pub front_more : (n : ℕ) (s keys : List Key) → n < length keys
    → is_front_below (n + 1) s keys ≡ is_front_below n s keys || same_keys s (take n keys)
front_more n s keys within = ⊎_elim
    (λ below.
    let now : nat_lt (length s) (n + 1) ≡ true = grind (arith, nat_tests) in
    let before : nat_lt (length s) n ≡ true = grind (arith, nat_tests) in
    let apart : same_keys s (take n keys) ≡ false =
    false_from_ne_true (same_keys s (take n keys)) (λ same. absurd (omega (
      arith,
      same_length s (take n keys) same,
      length-take-le n keys (omega arith),
    ))) in
    ap (λ b. b && same_keys s (take (length s) keys)) (now ∙ sym before)
    ∙ sym (or-false (is_front_below n s keys)) ∙ ap (λ b. is_front_below n s keys || b) (sym apart))
    (λ rest. ⊎_elim
    (λ at.
    let now : nat_lt (length s) (n + 1) ≡ true = grind (arith, nat_tests) in
    let before : nat_lt (length s) n ≡ false = grind (arith, nat_tests) in
    ap (λ b. b && same_keys s (take (length s) keys)) now
    ∙ ap (λ m. same_keys s (take m keys)) at
    ∙ ap (λ b. (b && same_keys s (take (length s) keys)) || same_keys s (take n keys)) (sym before))
    (λ above.
    let now : nat_lt (length s) (n + 1) ≡ false = grind (arith, nat_tests) in
    let before : nat_lt (length s) n ≡ false = grind (arith, nat_tests) in
    let apart : same_keys s (take n keys) ≡ false =
    false_from_ne_true (same_keys s (take n keys)) (λ same. absurd (omega (
      arith,
      same_length s (take n keys) same,
      length-take-le n keys (omega arith),
    ))) in
    ap (λ b. b && same_keys s (take (length s) keys)) now ∙ sym apart
    ∙ ap (λ b. (b && same_keys s (take (length s) keys)) || same_keys s (take n keys)) (sym before))
    (at_or_above n (length s) rest))
    (cases_lt (length s) n)
  where
    at_or_above : (n m : ℕ) → n ≤ m → (m ≡ n) ⊎ (n < m)
    at_or_above n m low = ⊎_elim (λ above. inr above) (λ below. inl (omega arith)) (cases_lt n m)

-- both tables once keys are bound, by what they were before
pub kept_bound : (entries : List (Vec Key Global × Action)) (fronts after : List (Vec Key Global))
    (k : Vec Key Global) (a : Action) (keys s : List Key) → k.items ≡ keys
    → is_among fronts s ≡ is_begun (map plain_binding entries) s
    → is_among after s ≡ is_among fronts s || is_front s keys
    → is_among after s ≡ is_begun (map plain_binding (insert_entry equal_keys entries k a)) s
kept_bound entries fronts after k a keys s whole before now =
    now ∙ ap (λ b. b || is_front s keys) before
    ∙ ap (λ l. is_begun (map plain_binding entries) s || is_front s l) (sym whole)
    ∙ sym (bound_begun (map plain_binding entries) k.items (plain_action a) s)
    ∙ ap (λ l. is_begun l s) (sym (bound_entries entries k a))

-- what a call that succeeds ensures
pub on_ok : {T E P : Type 0} (r : Result T E) → IsOk r → OnOk r P → P
on_ok (Ok x) is then_so = then_so
on_ok (Err e) is then_so = absurd (false≢true is)
