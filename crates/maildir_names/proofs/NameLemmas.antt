-- A name that is made is read as its base and its letters.
use Rattle.std.proofs.Common.{◌≡◌, ◌==◌, ◌+◌, ◌-◌, ◌&&◌, ℕ, zero, suc, Bool, true, false}
use Rattle.std.proofs.Common.{List, [], ◌∷◌, ◌++◌, length, take, drop, Option}
use Rattle.std.proofs.Common.{Some, None, refl, sym, ap, ◌∙◌, arith}
use Rattle.std.proofs.Common.{if◌then◌else◌, nat_lt, nat_le, append_assoc, is_none}
use Rattle.std.specs.List.{filter, list_all}
use Rattle.std.specs.Option.{option_or}
use Rattle.std.specs.Str.{bytes_eq}
use Rattle.std.proofs.lemmas.Bool.{and_parts, and_from}
use Rattle.std.proofs.lemmas.Bool.Decides.{nat_tests}
use Rattle.std.proofs.lemmas.List.{take_at}
use Rattle.mail_base.specs.Fronts.{behind_text}
use Rattle.maildir_names.specs.Laws.{MadeIsSplit}
use Rattle.maildir_names.specs.MaildirName.{all_letters, has_letter, in_order, is_beyond}
use Rattle.maildir_names.specs.MaildirName.{is_new, is_whole_name, last_letters}
use Rattle.maildir_names.specs.MaildirName.{letter_if, letters_below}
use Rattle.maildir_names.specs.MaildirName.{mark, no_letters, split_at_mark, split_name}

-- a text with this first byte begins with no mark
no_colon : (b : ℕ) (rest : List ℕ) → (b == 58) ≡ false → behind_text mark (b ∷ rest) ≡ None
no_colon b rest e = rw e refl

not_colon : (b : ℕ) → is_beyond b ≡ true → (b == 58) ≡ false
not_colon b beyond = grind (arith, nat_tests)

beyond_none : (tail : List ℕ) → list_all is_beyond tail ≡ true → last_letters tail ≡ None
beyond_none [] all = refl
beyond_none (b ∷ tail) all =
    let both = and_parts (is_beyond b) (list_all is_beyond tail) all in
    ap (λ o. option_or o (behind_text mark (b ∷ tail))) (beyond_none tail both.1)
    ∙ no_colon b tail (not_colon b both.0)

abbrev pub all_from : ℕ → List ℕ → Bool
all_from n s = list_all (nat_le n) s

colon_pair : (n c : ℕ) → nat_le (suc n) c ≡ true → (n == 58 && c == 50) ≡ false
colon_pair n c above = grind (arith, nat_tests)

and_three : (a b x : Bool) → (a && b) ≡ false → (a && (b && x)) ≡ false
and_three true b x e = rw e refl
and_three false b x e = refl

and_false : (a : Bool) → (a && false) ≡ false
and_false true = refl
and_false false = refl

-- a letter before greater ones begins no mark
letter_none : (n : ℕ) (tail : List ℕ) → all_from (suc n) tail ≡ true
    → behind_text mark (n ∷ tail) ≡ None
letter_none n [] all =
    ap (λ t. if t then Some (drop 3 (n ∷ [])) else None) (and_false (n == 58))
letter_none n (c ∷ tail) all =
    let both = and_parts (nat_le (suc n) c) (all_from (suc n) tail) all in
    ap (λ t. if t then Some (drop 3 (n ∷ c ∷ tail)) else None)
    (and_three (n == 58) (c == 50) (bytes_eq (take 1 tail) (44 ∷ [])) (colon_pair n c both.0))

le_suc : (n c : ℕ) → nat_le (suc n) c ≡ true → nat_le n c ≡ true
le_suc n c e = grind (arith, nat_tests)

le_same : (n : ℕ) → nat_le n n ≡ true
le_same n = grind (arith, nat_tests)

all_lower : (n : ℕ) (s : List ℕ) → all_from (suc n) s ≡ true → all_from n s ≡ true
all_lower n [] all = refl
all_lower n (c ∷ s) all =
    let both = and_parts (nat_le (suc n) c) (all_from (suc n) s) all in
    and_from _ _ (le_suc n c both.0) (all_lower n s both.1)

letter_from : (h : Bool) (n : ℕ) (s : List ℕ) → all_from (suc n) s ≡ true
    → all_from n (letter_if h n ++ s) ≡ true
letter_from true n s all = and_from _ _ (le_same n) (all_lower n s all)
letter_from false n s all = all_lower n s all

letter_last : (h : Bool) (n : ℕ) (s : List ℕ) → all_from (suc n) s ≡ true → last_letters s ≡ None
    → last_letters (letter_if h n ++ s) ≡ None
letter_last true n s all none =
    ap (λ o. option_or o (behind_text mark (n ∷ s))) none ∙ letter_none n s all
letter_last false n s all none = none

-- letters in their order hold no mark
below_none : (n : ℕ) (letters tail : List ℕ) → all_from n tail ≡ true → last_letters tail ≡ None
    → last_letters (letters_below n letters ++ tail) ≡ None
unfolding letters_below
below_none zero letters tail all none = none
below_none (suc n) letters tail all none =
    let h = has_letter letters n in
    ap last_letters (append_assoc (letters_below n letters) (letter_if h n) tail)
    ∙ below_none n letters (letter_if h n ++ tail) (letter_from h n tail all)
    (letter_last h n tail all none)

filtered : (s : List ℕ) → list_all is_beyond (filter is_beyond s) ≡ true
filtered [] = refl
filtered (b ∷ s) = by_test (is_beyond b) refl (filtered s)
  where
    by_test : (t : Bool) → is_beyond b ≡ t → list_all is_beyond (filter is_beyond s) ≡ true
        → list_all is_beyond (if t then b ∷ filter is_beyond s else filter is_beyond s) ≡ true
    by_test true e all = and_from _ _ e all
    by_test false e all = all

pub ordered_none : (letters : List ℕ) → last_letters (in_order letters) ≡ None
ordered_none letters =
    let tail = filter is_beyond letters in
    below_none 128 letters tail (filtered letters) (beyond_none tail (filtered letters))

-- behind a mark and letters without one stand these letters
mark_last : (letters : List ℕ) → last_letters letters ≡ None
    → last_letters (mark ++ letters) ≡ Some letters
mark_last letters none = rw none refl

base_last : (base letters : List ℕ) → last_letters letters ≡ None
    → last_letters (base ++ mark ++ letters) ≡ Some letters
base_last [] letters none = mark_last letters none
base_last (b ∷ base) letters none =
    ap (λ o. option_or o (behind_text mark (b ∷ base ++ mark ++ letters)))
    (base_last base letters none)

length_append : (s t : List ℕ) → length (s ++ t) ≡ length s + length t
length_append [] t = omega arith
length_append (b ∷ s) t = let more = length_append s t in omega arith

marked_split : (base letters : List ℕ) → last_letters letters ≡ None
    → split_name (base ++ mark ++ letters) ≡ (base, letters)
marked_split base letters none =
    let name = base ++ mark ++ letters in
    let size = length_append (base ++ mark) letters in
    let front = length_append base mark in
    let cut = length name - length letters - 3 in
    ap (split_at_mark name) (base_last base letters none)
    ∙ ap (λ s. (s, letters)) (ap (take cut) (append_assoc base mark letters)
    ∙ take_at base (mark ++ letters) cut (omega (arith, size, front)))

no_letters_below : (n : ℕ) → letters_below n [] ≡ []
unfolding letters_below
no_letters_below zero = refl
no_letters_below (suc n) = ap (λ l. l ++ []) (no_letters_below n)

none_ordered : (letters : List ℕ) → no_letters letters ≡ true → in_order letters ≡ []
none_ordered [] e = ap (λ l. l ++ []) (no_letters_below 128)
none_ordered (b ∷ letters) e = absurd (grind (arith, nat_tests))

is_none_none : (o : Option (List ℕ)) → is_none o ≡ true → o ≡ None
is_none_none None e = refl
is_none_none (Some s) e = cc

pub made_is_split : MadeIsSplit
made_is_split n = by_whole (is_new n.flags) (no_letters letters) (is_whole_name n.base) refl refl
  where
    letters : List ℕ
    letters = all_letters n.flags n.others

    by_whole : (new none whole : Bool) → no_letters letters ≡ none → is_whole_name n.base ≡ whole
        → split_name (if new && none && whole then n.base else n.base ++ mark ++ in_order letters)
        ≡ (n.base, in_order letters)
    by_whole true true true e w =
        ap (split_at_mark n.base)
        (is_none_none (last_letters n.base) (and_parts (nat_lt 0 (length n.base)) _ w).1)
        ∙ ap (λ s. (n.base, s)) (sym (none_ordered letters e))
    by_whole true true false e w = marked_split n.base (in_order letters) (ordered_none letters)
    by_whole true false whole e w = marked_split n.base (in_order letters) (ordered_none letters)
    by_whole false none whole e w = marked_split n.base (in_order letters) (ordered_none letters)
