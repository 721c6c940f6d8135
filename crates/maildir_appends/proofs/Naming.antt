-- Names that are made for a message: what they are read as, and that they are names of files.
use Rattle.std.proofs.Common.{◌≡◌, ◌==◌, ◌<◌, ◌^◌, ◌&&◌, ℕ, zero, suc, Bool, true, false, not, List}
use Rattle.std.proofs.Common.{[], ◌∷◌, ◌++◌, length, None, refl, sym, subst, ap, ◌∙◌, arith, codes}
use Rattle.std.proofs.Common.{IfOk, Result, Ok, Err, if◌then◌else◌, nat_lt, ◌||◌}
use Rattle.std.proofs.Common.{slice_index_or}
use Rattle.std.specs.Char.{is_ascii_digit}
use Rattle.std.specs.Fmt.{decimal}
use Rattle.std.specs.List.{filter, list_all, list_any}
use Rattle.std.specs.Option.{option_or}
use Rattle.std.specs.Str.{IsAscii, IsUtf8, all_ascii_digits}
use Rattle.std.proofs.lemmas.Bool.{and_from, and_parts, eqb-true, lt-ltb}
use Rattle.std.proofs.lemmas.Bool.Decides.{nat_tests}
use Rattle.std.proofs.lemmas.Fmt.{decimal_nonempty, digits_decimal}
use Rattle.std.proofs.lemmas.List.Folds.{list_all-append}
use Rattle.std.proofs.lemmas.List.Sums.{AllPass-from_list_all}
use Rattle.std.proofs.lemmas.Str.{IsUtf8-from_ascii}
use Rattle.std.proofs.lemmas.Str.Ascii.{IsAscii-from_all}
use Rattle.std.proofs.lemmas.Str.Parse.{numerals_by_value, tells_all_ascii_digits}
use Rattle.mail_base.specs.Fronts.{behind_text}
use Rattle.mail_base.specs.Series.{Held}
use Rattle.mail_base.specs.declared.flags.Flags.{Flags}
use Rattle.folder_core.specs.Maildir.{is_shown}
use Rattle.folder_core.specs.MaildirNames.{last_letters, mark, split_at_mark, split_name}
use Rattle.maildir_names.specs.MaildirName.{all_letters, has_letter, in_order, is_beyond, is_new}
use Rattle.maildir_names.specs.MaildirName.{is_whole_name, letter_if, letters_below, name_of}
use Rattle.maildir_names.specs.MaildirName.{no_letters}
use Rattle.maildir_names.proofs.NameLemmas.{made_is_split}
use Rattle.folder_drivers.specs.MaildirAppend.{IsBase, IsFirstFree, base_at, begins_digit, is_plain}
use Rattle.folder_drivers.specs.MaildirAppend.{name_for}

-- a byte of a name: ASCII, and no slash
abbrev pub is_part : ℕ → Bool
is_part b = nat_lt b 128 && not (b == 47)

join : (p : ℕ → Bool) (xs ys : List ℕ) → list_all p xs ≡ true → list_all p ys ≡ true
    → list_all p (xs ++ ys) ≡ true
join p xs ys first rest =
    list_all-append p xs ys ∙ and_from (list_all p xs) (list_all p ys) first rest

-- The base.

digit_plain : (b : ℕ) → is_ascii_digit b ≡ true → is_plain b ≡ true
digit_plain b e = grind (arith, nat_tests)

digits_plain : (ds : List ℕ) → all_ascii_digits ds ≡ true → list_all is_plain ds ≡ true
digits_plain [] all = refl
digits_plain (b ∷ ds) all =
    let both = and_parts (is_ascii_digit b) (all_ascii_digits ds) all in
    and_from _ _ (digit_plain b both.0) (digits_plain ds both.1)

begins : (ds rest : List ℕ) → 0 < length ds → all_ascii_digits ds ≡ true
    → begins_digit (ds ++ rest) ≡ true
begins [] rest some all = absurd (omega (arith, some))
begins (b ∷ ds) rest some all = (and_parts (is_ascii_digit b) (all_ascii_digits ds) all).0

decimal_digits : (n : ℕ) → n < 2 ^ 64 → all_ascii_digits (decimal n) ≡ true
decimal_digits n small =
    digits_decimal (numerals_by_value (λ ds. all_ascii_digits ds ≡ true) tells_all_ascii_digits) n
    small

begins_still : (base rest : List ℕ) → begins_digit base ≡ true → begins_digit (base ++ rest) ≡ true
begins_still [] rest e = absurd (cc)
begins_still (b ∷ base) rest e = e

is_base : (moment number : ℕ) → moment < 2 ^ 64 → number < 2 ^ 64
    → IsBase (base_at moment number)
is_base moment number few small =
    let first = decimal moment ++ codes ".R" in
    record {
      plain = join is_plain (first ++ decimal number) (codes ".mutt")
          (join is_plain first (decimal number)
          (join is_plain (decimal moment) (codes ".R")
          (digits_plain (decimal moment) (decimal_digits moment few)) refl)
          (digits_plain (decimal number) (decimal_digits number small))) refl;
      begins = begins_still (first ++ decimal number) (codes ".mutt")
          (begins_still first (decimal number)
          (begins (decimal moment) (codes ".R") (decimal_nonempty moment few)
          (decimal_digits moment few)));
    }

no_colon : (b : ℕ) (rest : List ℕ) → (b == 58) ≡ false → behind_text mark (b ∷ rest) ≡ None
no_colon b rest e = rw e refl

plain_no_colon : (b : ℕ) → is_plain b ≡ true → (b == 58) ≡ false
plain_no_colon b e = grind (arith, nat_tests)

no_mark : (name : List ℕ) → list_all is_plain name ≡ true → last_letters name ≡ None
no_mark [] all = refl
no_mark (b ∷ name) all =
    let both = and_parts (is_plain b) (list_all is_plain name) all in
    ap (λ o. option_or o (behind_text mark (b ∷ name))) (no_mark name both.1)
    ∙ no_colon b name (plain_no_colon b both.0)

pub base_split : (base : List ℕ) → IsBase base → (split_name base).0 ≡ base
base_split base is = ap (λ o. (split_at_mark base o).0) (no_mark base is.plain)

plain_part : (b : ℕ) → is_plain b ≡ true → is_part b ≡ true
plain_part b e = grind (arith, nat_tests)

plain_parts : (name : List ℕ) → list_all is_plain name ≡ true → list_all is_part name ≡ true
plain_parts [] all = refl
plain_parts (b ∷ name) all =
    let both = and_parts (is_plain b) (list_all is_plain name) all in
    and_from _ _ (plain_part b both.0) (plain_parts name both.1)

-- Names.

no_slash : (name : List ℕ) → list_all is_part name ≡ true → list_any (λ b. b == 47) name ≡ false
no_slash [] all = refl
no_slash (b ∷ name) all =
    let both = and_parts (is_part b) (list_all is_part name) all in
    let other : (b == 47) ≡ false = part_other b both.0 in
    rw other (no_slash name both.1)
  where
    part_other : (b : ℕ) → is_part b ≡ true → (b == 47) ≡ false
    part_other b e = grind (arith, nat_tests)

digit_no_dot : (b : ℕ) → is_ascii_digit b ≡ true → (b == 46) ≡ false
digit_no_dot b e = grind (arith, nat_tests)

shown : (name : List ℕ) → list_all is_part name ≡ true → begins_digit name ≡ true
    → is_shown name ≡ true
shown [] all digit = absurd (cc)
shown (b ∷ name) all digit =
    let slash = no_slash (b ∷ name) all in let dot = digit_no_dot b digit in
    and_from _ _ (and_from _ _ (lt-ltb 0 (length (b ∷ name)) (omega arith)) (ap not slash))
    (ap not dot)

pub base_shown : (base : List ℕ) → IsBase base → is_shown base ≡ true
base_shown base is = shown base (plain_parts base is.plain) is.begins

part_ascii : (b : ℕ) → is_part b ≡ true → b < 128
part_ascii b e = grind (arith, nat_tests)

all_ascii : (name : List ℕ) → list_all is_part name ≡ true → IsAscii name
all_ascii name all = IsAscii-from_all name (λ k d lt.
    part_ascii (slice_index_or name k d) (AllPass-from_list_all is_part name all k d lt))

letter_part : (b : Bool) (c : ℕ) → is_part c ≡ true → list_all is_part (letter_if b c) ≡ true
letter_part true c e = and_from _ _ e refl
letter_part false c e = refl

same_part : (b c : ℕ) (t : Bool) → (b == c) ≡ t → is_part b ≡ true → (t ≡ false → is_part c ≡ true)
    → is_part c ≡ true
same_part b c true e part later = subst (λ (x : ℕ). is_part x ≡ true) (eqb-true b c e) part
same_part b c false e part later = later refl

has_part : (letters : List ℕ) (c : ℕ) → list_all is_part letters ≡ true
    → has_letter letters c ≡ true → is_part c ≡ true
has_part [] c all has = absurd (cc)
has_part (b ∷ letters) c all has =
    let both = and_parts (is_part b) (list_all is_part letters) all in
    same_part b c (b == c) refl both.0 (λ other. has_part letters c both.1
    (sym (ap (λ (t : Bool). t || has_letter letters c) other) ∙ has))

letter_has : (letters : List ℕ) (c : ℕ) (h : Bool) → has_letter letters c ≡ h
    → list_all is_part letters ≡ true → list_all is_part (letter_if h c) ≡ true
letter_has letters c true e all = and_from _ _ (has_part letters c all e) refl
letter_has letters c false e all = refl

below_parts : (n : ℕ) (letters : List ℕ) → list_all is_part letters ≡ true
    → list_all is_part (letters_below n letters) ≡ true
unfolding letters_below
below_parts zero letters all = refl
below_parts (suc n) letters all = join is_part (letters_below n letters)
    (letter_if (has_letter letters n) n) (below_parts n letters all)
    (letter_has letters n (has_letter letters n) refl all)

filter_parts : (letters : List ℕ) → list_all is_part letters ≡ true
    → list_all is_part (filter is_beyond letters) ≡ true
filter_parts [] all = refl
filter_parts (b ∷ letters) all =
    let both = and_parts (is_part b) (list_all is_part letters) all in
    by_test (is_beyond b) both.0 (filter_parts letters both.1)
  where
    by_test : (t : Bool) → is_part b ≡ true → list_all is_part (filter is_beyond letters) ≡ true
        → list_all is_part (if t then b ∷ filter is_beyond letters else filter is_beyond letters)
        ≡ true
    by_test true e all = and_from _ _ e all
    by_test false e all = all

flags_parts : (flags : Flags) → list_all is_part (all_letters flags []) ≡ true
flags_parts flags =
    let draft = letter_if flags.draft 68 in
    let flagged = draft ++ letter_if flags.flagged 70 in
    let passed = flagged ++ letter_if flags.passed 80 in
    let replied = passed ++ letter_if flags.replied 82 in
    let seen = replied ++ letter_if flags.seen 83 in
    join is_part (seen ++ letter_if flags.trashed 84) []
    (join is_part seen (letter_if flags.trashed 84)
    (join is_part replied (letter_if flags.seen 83)
    (join is_part passed (letter_if flags.replied 82)
    (join is_part flagged (letter_if flags.passed 80)
    (join is_part draft (letter_if flags.flagged 70) (letter_part flags.draft 68 refl)
    (letter_part flags.flagged 70 refl))
    (letter_part flags.passed 80 refl))
    (letter_part flags.replied 82 refl))
    (letter_part flags.seen 83 refl))
    (letter_part flags.trashed 84 refl)) refl

ordered_parts : (letters : List ℕ) → list_all is_part letters ≡ true
    → list_all is_part (in_order letters) ≡ true
ordered_parts letters all = join is_part (letters_below 128 letters) (filter is_beyond letters)
    (below_parts 128 letters all) (filter_parts letters all)

-- a name of a base, with these letters or without any
either_name : (whole : Bool) (base marked : List ℕ) (P : List ℕ → Type 0) → P base → P marked
    → P (if whole then base else marked)
either_name true base marked P here there = here
either_name false base marked P here there = there

name_parts : (base : List ℕ) (flags : Flags) → IsBase base
    → list_all is_part (name_for base flags) ≡ true
name_parts base flags is =
    let letters = all_letters flags [] in
    either_name (is_new flags && no_letters letters && is_whole_name base) base
    (base ++ mark ++ in_order letters) (λ name. list_all is_part name ≡ true)
    (plain_parts base is.plain)
    (join is_part (base ++ mark) (in_order letters)
    (join is_part base mark (plain_parts base is.plain) refl)
    (ordered_parts letters (flags_parts flags)))

name_begins : (base : List ℕ) (flags : Flags) → IsBase base
    → begins_digit (name_for base flags) ≡ true
name_begins base flags is =
    let letters = all_letters flags [] in
    either_name (is_new flags && no_letters letters && is_whole_name base) base
    (base ++ mark ++ in_order letters) (λ name. begins_digit name ≡ true) is.begins
    (begins_still (base ++ mark) (in_order letters) (begins_still base mark is.begins))

pub name_shown : (base : List ℕ) (flags : Flags) → IsBase base
    → is_shown (name_for base flags) ≡ true
name_shown base flags is =
    shown (name_for base flags) (name_parts base flags is) (name_begins base flags is)

pub name_utf8 : (base : List ℕ) (flags : Flags) → IsBase base → IsUtf8 (name_for base flags)
name_utf8 base flags is =
    IsUtf8-from_ascii (name_for base flags)
    (all_ascii (name_for base flags) (name_parts base flags is))

pub made_utf8 : (base given others : List ℕ) (flags : Flags) → given ≡ base → others ≡ []
    → IsBase base → IsUtf8 (name_of (record { base = given; flags = flags; others = others }))
made_utf8 base given others flags e f is = subst IsUtf8
    (λ i. name_of (record { base = sym e i; flags = flags; others = sym f i }))
    (name_utf8 base flags is)

pub name_split : (base : List ℕ) (flags : Flags) → (split_name (name_for base flags)).0 ≡ base
name_split base flags =
    ap (λ (parts : List ℕ × List ℕ). parts.0)
    (made_is_split (record { base = base; flags = flags; others = [] }))

pub utf8_if : {E : Type 0} (result : Result (Held ℕ) E) (name : List ℕ)
    → IfOk result (λ made. made.items ≡ name) → IsUtf8 name
    → IfOk result (λ made. IsUtf8 made.items)
utf8_if (Ok made) name is text = subst IsUtf8 (sym is) text
utf8_if (Err e) name is text = tt

pub first_is_base : (is_taken : List ℕ → Bool) (moment : ℕ) (base : List ℕ) → moment < 2 ^ 64
    → IsFirstFree is_taken moment base → IsBase base
first_is_base is_taken moment base few first =
    subst IsBase (sym first.is) (is_base moment first.number few first.fits)
