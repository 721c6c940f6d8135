-- The names that files get: they tell the flags, are text, and may be those of messages.
use Rattle.std.proofs.Common.{◌/◌, ◌%◌, ltb-true, Option, Some, None, drop}
use Rattle.std.proofs.Common.{◌≡◌, ◌<◌, ◌≤◌, ◌+◌, ◌-◌, ◌==◌, ◌||◌, ◌&&◌, ◌++◌, ℕ, zero, suc, Bool}
use Rattle.std.proofs.Common.{true}
use Rattle.std.proofs.Common.{false, not, List, [], ◌∷◌, length, take, nat_lt, nat_le, refl, sym}
use Rattle.std.proofs.Common.{ap}
use Rattle.std.proofs.Common.{◌∙◌, subst, arith, if◌then◌else◌}
use Rattle.std.proofs.Math.Bool.{and-false, or-false}
use Rattle.std.proofs.lemmas.Bool.{and_from, and_parts}
use Rattle.std.proofs.lemmas.Bool.Decides.{nat_tests}
use Rattle.std.proofs.lemmas.List.{append-nil}
use Rattle.std.proofs.lemmas.List.Elements.{filter-append}
use Rattle.std.proofs.lemmas.List.Folds.{list_any-append}
use Rattle.std.proofs.lemmas.List.{get_or-append-add, length-append, take-append-drop, take_at}
use Rattle.std.proofs.lemmas.Str.{IsCharBoundary-after_ascii, IsCharBoundary-before_ascii}
use Rattle.std.proofs.lemmas.Str.{IsUtf8-append, IsUtf8-drop, IsUtf8-from_ascii}
use Rattle.std.proofs.lemmas.Str.{IsUtf8-nil, IsUtf8-take, encode_ascii}
use Rattle.std.proofs.lemmas.Str.Ascii.{IsAscii-cons}
use Rattle.std.proofs.Math.Seq.{drop-append-add, get_or-append_seam}
use Rattle.std.proofs.Math.Utf8.{encode, scalar, scalars}
use Rattle.std.specs.List.{filter}
use Rattle.std.specs.Option.{option_or}
use Rattle.std.specs.Prelude.{get_or}
use Rattle.std.specs.Str.{IsAscii, IsUtf8, byte, bytes_eq, encode_utf8_all}
use Rattle.mail_base.specs.Fronts.{behind_text}
use Rattle.disk_model.proofs.Trees.{bytes_same}
use Rattle.mail_base.specs.Flags.{normal}
use Rattle.mail_base.specs.declared.flags.Flags.{Flags}
use Rattle.folder_core.specs.Directory.{is_name}
use Rattle.folder_core.specs.MaildirNames.{order_of}
use Rattle.folder_core.specs.Maildir.{MaildirFile, base_of, is_shown}
use Rattle.folder_changes.specs.Maildir.{flags_named}
use Rattle.maildir_names.specs.MaildirName.{all_letters, begins_dot, flags_of, has_letter}
use Rattle.maildir_names.specs.MaildirName.{in_order, is_beyond}
use Rattle.maildir_names.specs.MaildirName.{is_new, is_other, letter_if, letters_below}
use Rattle.maildir_names.specs.MaildirName.{is_whole_name, last_letters, mark, no_letters}
use Rattle.maildir_names.specs.MaildirName.{split_at_mark, split_name}
use Rattle.maildir_folder.specs.Candidates.{IsCandidate, plain_file}
use Rattle.folder_drivers.specs.MaildirSync.{file_with}
use Rattle.maildir_folder.specs.declared.candidates.Candidate.{Candidate}
use Rattle.maildir_names.proofs.NameLemmas.{made_is_split}

-- Letters of a made name.

has_both : (xs ys : List ℕ) (c : ℕ)
    → has_letter (xs ++ ys) c ≡ (has_letter xs c || has_letter ys c)
has_both xs ys c = list_any-append (λ b. b == c) xs ys

has_if : (b : Bool) (x c : ℕ) → has_letter (letter_if b x) c ≡ (b && (x == c))
has_if true x c = or-false (x == c)
has_if false x c = refl

below_one : (n c : ℕ) (h g : Bool) → (n ≡ c → g ≡ h)
    → ((nat_lt c n && h) || (g && (n == c))) ≡ (nat_lt c (suc n) && h)
below_one n c h g same = by (nat_lt c n) (n == c) (nat_lt c (suc n)) refl refl refl
  where
    and_true : (b : Bool) → (b && true) ≡ b
    and_true true = refl
    and_true false = refl

    by : (less here next : Bool) → nat_lt c n ≡ less → (n == c) ≡ here → nat_lt c (suc n) ≡ next
        → ((less && h) || (g && here)) ≡ (next && h)
    by true here false l e k = absurd (grind (arith, nat_tests, l, k))
    by true true true l e k = absurd (grind (arith, nat_tests, l, e))
    by true false true l e k = ap (λ (t : Bool). h || t) (and-false g) ∙ or-false h
    by false true true l e k = and_true g ∙ same (grind (arith, e))
    by false true false l e k = absurd (grind (arith, nat_tests, e, k))
    by false false true l e k = absurd (grind (arith, nat_tests, l, e, k))
    by false false false l e k = and-false g

has_below : (n : ℕ) (letters : List ℕ) (c : ℕ)
    → has_letter (letters_below n letters) c ≡ (nat_lt c n && has_letter letters c)
unfolding letters_below
has_below zero letters c = ap (λ (t : Bool). t && has_letter letters c) none
  where
    none : false ≡ nat_lt c 0
    none = grind (arith, nat_tests)
has_below (suc n) letters c =
    has_both (letters_below n letters) (letter_if (has_letter letters n) n) c
    ∙ ap (λ (t : Bool). t || has_letter (letter_if (has_letter letters n) n) c)
    (has_below n letters c)
    ∙ ap (λ (t : Bool). (nat_lt c n && has_letter letters c) || t)
    (has_if (has_letter letters n) n c)
    ∙ below_one n c (has_letter letters c) (has_letter letters n) (λ e. ap (has_letter letters) e)

-- the bytes past ASCII have no letter of ASCII
none_beyond : (letters : List ℕ) (c : ℕ) → c < 128 → has_letter (filter is_beyond letters) c ≡ false
none_beyond [] c low = refl
none_beyond (b ∷ letters) c low = by (nat_le 128 b) refl (none_beyond letters c low)
  where
    by : (t : Bool) → nat_le 128 b ≡ t → has_letter (filter is_beyond letters) c ≡ false
        → has_letter (if t then b ∷ filter is_beyond letters else filter is_beyond letters) c
        ≡ false
    by true is again = ap (λ (t : Bool). t || has_letter (filter is_beyond letters) c)
        (other is) ∙ again
      where
        other : nat_le 128 b ≡ true → (b == c) ≡ false
        other is = grind (arith, nat_tests, is, low)
    by false is again = again

-- a letter of ASCII is among those in order where it is among those as they come
ordered_has : (letters : List ℕ) (c : ℕ) → c < 128
    → has_letter (in_order letters) c ≡ has_letter letters c
ordered_has letters c low =
    has_both (letters_below 128 letters) (filter is_beyond letters) c
    ∙ ap (λ (t : Bool). has_letter (letters_below 128 letters) c || t)
    (none_beyond letters c low)
    ∙ or-false (has_letter (letters_below 128 letters) c)
    ∙ has_below 128 letters c
    ∙ ap (λ (t : Bool). t && has_letter letters c) below
  where
    below : nat_lt c 128 ≡ true
    below = grind (arith, nat_tests, low)

-- letters of flags alone are left out of the others
none_other : (letters : List ℕ) (c : ℕ) → is_other c ≡ false
    → has_letter (filter is_other letters) c ≡ false
none_other [] c flag = refl
none_other (b ∷ letters) c flag =
    by (is_other b) refl (b == c) refl (none_other letters c flag)
  where
    true_false : ◌≡◌ {A = Bool} true false → ⊥
    true_false e = cc

    by : (t : Bool) → is_other b ≡ t → (s : Bool) → (b == c) ≡ s
        → has_letter (filter is_other letters) c ≡ false
        → has_letter (if t then b ∷ filter is_other letters else filter is_other letters) c ≡ false
    by false is s e again = again
    by true is false e again =
        ap (λ (t : Bool). t || has_letter (filter is_other letters) c) e ∙ again
    by true is true e again =
        absurd (true_false (sym is ∙ ap is_other (same e) ∙ flag))
      where
        same : (b == c) ≡ true → b ≡ c
        same e = grind (arith, e)

-- Which letters stand for flags.

letters_have : (f : Flags) (others : List ℕ) (c : ℕ) → has_letter (all_letters f others) c
    ≡ (((((((f.draft && (byte "D" == c)) || (f.flagged && (byte "F" == c)))
    || (f.passed && (byte "P" == c))) || (f.replied && (byte "R" == c)))
    || (f.seen && (byte "S" == c))) || (f.trashed && (byte "T" == c))) || has_letter others c)
letters_have f others c =
    has_both _ others c
    ∙ ap (λ (t : Bool). t || has_letter others c)
    (more _ f.trashed (byte "T") _ (more _ f.seen (byte "S") _ (more _ f.replied (byte "R") _
    (more _ f.passed (byte "P") _ (more _ f.flagged (byte "F") _
    (has_if f.draft (byte "D") c))))))
  where
    more : (front : List ℕ) (b : Bool) (x : ℕ) (t : Bool) → has_letter front c ≡ t
        → has_letter (front ++ letter_if b x) c ≡ (t || (b && (x == c)))
    more front b x t same = has_both front (letter_if b x) c
        ∙ ap (λ (s : Bool). s || has_letter (letter_if b x) c) same
        ∙ ap (λ (s : Bool). t || s) (has_if b x c)

-- flags that are not asked for, and one that is
none_both : (a b : Bool) → a ≡ false → b ≡ false → (a || b) ≡ false
none_both true b is not = absurd (true_false is)
  where
    true_false : ◌≡◌ {A = Bool} true false → ⊥
    true_false e = cc
none_both false b is not = not

one_left : (a b : Bool) → a ≡ false → (a || (b && true)) ≡ b
one_left true b is = absurd (true_false is)
  where
    true_false : ◌≡◌ {A = Bool} true false → ⊥
    true_false e = cc
one_left false true is = refl
one_left false false is = refl

one_more : (a b c : Bool) → a ≡ b → c ≡ false → (a || c) ≡ b
one_more true b c is not = is
one_more false b c is not = not ∙ is

module _ (f : Flags) (letters : List ℕ) where
  abbrev others : List ℕ
  others = filter is_other letters

  abbrev made : List ℕ
  made = in_order (all_letters f others)

  has : (c : ℕ) → c < 128 → is_other c ≡ false → has_letter made c
      ≡ (((((((f.draft && (byte "D" == c)) || (f.flagged && (byte "F" == c)))
      || (f.passed && (byte "P" == c))) || (f.replied && (byte "R" == c)))
      || (f.seen && (byte "S" == c))) || (f.trashed && (byte "T" == c))) || has_letter others c)
  has c low flag = ordered_has (all_letters f others) c low ∙ letters_have f others c

  made_draft : has_letter made (byte "D") ≡ f.draft
  made_draft = has (byte "D") (omega arith) refl
      ∙ one_more _ f.draft _ (one_more _ f.draft _ (one_more _ f.draft _ (one_more _ f.draft _
      (one_more _ f.draft _ (one_more _ f.draft _ (one_left false f.draft refl)
      (and-false f.flagged)) (and-false f.passed)) (and-false f.replied)) (and-false f.seen))
      (and-false f.trashed)) (none_other letters (byte "D") refl)

  made_flagged : has_letter made (byte "F") ≡ f.flagged
  made_flagged = has (byte "F") (omega arith) refl
      ∙ one_more _ f.flagged _ (one_more _ f.flagged _ (one_more _ f.flagged _
      (one_more _ f.flagged _ (one_more _ f.flagged _
      (one_left _ f.flagged (and-false f.draft))
      (and-false f.passed)) (and-false f.replied)) (and-false f.seen))
      (and-false f.trashed)) (none_other letters (byte "F") refl)

  made_passed : has_letter made (byte "P") ≡ f.passed
  made_passed = has (byte "P") (omega arith) refl
      ∙ one_more _ f.passed _ (one_more _ f.passed _ (one_more _ f.passed _
      (one_more _ f.passed _
      (one_left _ f.passed (none_both _ _ (and-false f.draft) (and-false f.flagged)))
      (and-false f.replied)) (and-false f.seen)) (and-false f.trashed))
      (none_other letters (byte "P") refl)

  made_replied : has_letter made (byte "R") ≡ f.replied
  made_replied = has (byte "R") (omega arith) refl
      ∙ one_more _ f.replied _ (one_more _ f.replied _ (one_more _ f.replied _
      (one_left _ f.replied (none_both _ _ (none_both _ _ (and-false f.draft)
      (and-false f.flagged)) (and-false f.passed)))
      (and-false f.seen)) (and-false f.trashed)) (none_other letters (byte "R") refl)

  made_seen : has_letter made (byte "S") ≡ f.seen
  made_seen = has (byte "S") (omega arith) refl
      ∙ one_more _ f.seen _ (one_more _ f.seen _
      (one_left _ f.seen (none_both _ _ (none_both _ _ (none_both _ _ (and-false f.draft)
      (and-false f.flagged)) (and-false f.passed)) (and-false f.replied)))
      (and-false f.trashed)) (none_other letters (byte "S") refl)

  made_trashed : has_letter made (byte "T") ≡ f.trashed
  made_trashed = has (byte "T") (omega arith) refl
      ∙ one_more _ f.trashed _
      (one_left _ f.trashed (none_both _ _ (none_both _ _ (none_both _ _ (none_both _ _
      (and-false f.draft) (and-false f.flagged)) (and-false f.passed)) (and-false f.replied))
      (and-false f.seen))) (none_other letters (byte "T") refl)

-- the flags that a made name tells
pub flags_told : (file : MaildirFile) (flags f : Flags) → f ≡ normal flags
    → flags_named (file_with f file) ≡ f
flags_told file flags f normal_is =
    ap (λ (parts : List ℕ × List ℕ). flags_of (not (is_new f)) parts.1)
    (made_is_split (record { base = base_of file; flags = f; others = others f letters }))
    ∙ told
  where
    letters : List ℕ
    letters = (split_name file.name).1

    aged : (seen old : Bool) → (seen ≡ true → old ≡ true)
        → (not (not seen && not old) || seen) ≡ old
    aged true true is = refl
    aged true false is = sym (is refl)
    aged false true is = refl
    aged false false is = refl

    seen_aged : (g : Flags) → (normal g).seen ≡ true → (normal g).aged ≡ true
    seen_aged g is = by g.aged g.seen is
      where
        by : (a s : Bool) → s ≡ true → (a || s) ≡ true
        by true s is = refl
        by false s is = is

    told : flags_of (not (is_new f)) (made f letters) ≡ f
    told = λ i. record {
      seen = made_seen f letters i;
      aged = (ap (λ (t : Bool). not (is_new f) || t) (made_seen f letters)
          ∙ aged f.seen f.aged
          (subst (λ (g : Flags). g.seen ≡ true → g.aged ≡ true) (sym normal_is)
          (seen_aged flags))) i;
      replied = made_replied f letters i;
      flagged = made_flagged f letters i;
      passed = made_passed f letters i;
      draft = made_draft f letters i;
      trashed = made_trashed f letters i;
    }

-- the base of a made name is that of the file
pub base_kept : (file : MaildirFile) (f : Flags) → base_of (file_with f file) ≡ base_of file
base_kept file f = ap (λ (parts : List ℕ × List ℕ). parts.0)
    (made_is_split (record {
      base = base_of file;
      flags = f;
      others = filter is_other (split_name file.name).1;
    }))

-- The made name is text.

-- a byte past ASCII stays
stays_on : (p : ℕ → Bool) → ((b : ℕ) → 128 ≤ b → p b ≡ true) → (b : ℕ) (rest kept : List ℕ)
    → 128 ≤ b → filter p rest ≡ kept → filter p (b ∷ rest) ≡ b ∷ kept
stays_on p keeps b rest kept high same =
    ap (λ (t : Bool). if t then b ∷ filter p rest else filter p rest) (keeps b high)
    ∙ ap (λ (l : List ℕ). b ∷ l) same

-- and so do those of a character past ASCII
stays_high : (p : ℕ → Bool) → ((b : ℕ) → 128 ≤ b → p b ≡ true) → (c : ℕ) → nat_lt c 128 ≡ false
    → filter p (encode c) ≡ encode c
unfolding encode
stays_high p keeps c high = by (nat_lt c 128) high (nat_lt c 2048) (nat_lt c 65536)
  where
    two : List ℕ
    two = (192 + c / 64) ∷ (128 + c % 64) ∷ []

    three : List ℕ
    three = (224 + c / 4096) ∷ (128 + (c / 64) % 64) ∷ (128 + c % 64) ∷ []

    four : List ℕ
    four = (240 + c / 262144) ∷ (128 + (c / 4096) % 64) ∷ (128 + (c / 64) % 64)
        ∷ (128 + c % 64) ∷ []

    two_left : List ℕ
    two_left = (128 + (c / 64) % 64) ∷ (128 + c % 64) ∷ []

    three_left : List ℕ
    three_left = (128 + (c / 4096) % 64) ∷ (128 + (c / 64) % 64) ∷ (128 + c % 64) ∷ []

    last : filter p ((128 + c % 64) ∷ []) ≡ (128 + c % 64) ∷ []
    last = stays_on p keeps (128 + c % 64) [] [] (omega arith) refl

    last_two : filter p ((128 + (c / 64) % 64) ∷ (128 + c % 64) ∷ [])
        ≡ (128 + (c / 64) % 64) ∷ (128 + c % 64) ∷ []
    last_two = stays_on p keeps (128 + (c / 64) % 64) ((128 + c % 64) ∷ [])
        ((128 + c % 64) ∷ []) (omega arith) last

    by : (a : Bool) → a ≡ false → (b d : Bool)
        → filter p (if a then c ∷ [] else (if b then two else (if d then three else four)))
        ≡ (if a then c ∷ [] else (if b then two else (if d then three else four)))
    by true is b d = absurd (true_false is)
      where
        true_false : ◌≡◌ {A = Bool} true false → ⊥
        true_false e = cc
    by false is true d = stays_on p keeps (192 + c / 64) ((128 + c % 64) ∷ [])
        ((128 + c % 64) ∷ []) (omega arith) last
    by false is false true = stays_on p keeps (224 + c / 4096) two_left two_left (omega arith)
        last_two
    by false is false false = stays_on p keeps (240 + c / 262144) three_left three_left
        (omega arith)
        (stays_on p keeps (128 + (c / 4096) % 64) two_left two_left (omega arith) last_two)

one_text : (p : ℕ → Bool) → ((b : ℕ) → 128 ≤ b → p b ≡ true) → (c : ℕ) → scalar c ≡ true
    → IsUtf8 (filter p (encode c))
one_text p keeps c one = by (nat_lt c 128) refl
  where
    by : (t : Bool) → nat_lt c 128 ≡ t → IsUtf8 (filter p (encode c))
    by false is = subst (λ (l : List ℕ). IsUtf8 l) (sym (stays_high p keeps c is))
        (c ∷ [], (and_from (scalar c) true one refl, append-nil (encode c)))
    by true is = subst (λ (l : List ℕ). IsUtf8 (filter p l)) (sym (encode_ascii c low))
        (kept (p c))
      where
        low : c < 128
        low = ltb-true c 128 is

        kept : (t : Bool) → IsUtf8 (if t then c ∷ [] else [])
        kept false = IsUtf8-nil
        kept true = (
          c ∷ [],
          (
            and_from (scalar c) true one refl,
            append-nil (encode c) ∙ encode_ascii c low,
          ),
        )

-- of a text stays a text where the bytes past ASCII stay
text_kept : (p : ℕ → Bool) → ((b : ℕ) → 128 ≤ b → p b ≡ true) → (cs : List ℕ)
    → scalars cs ≡ true → IsUtf8 (filter p (encode_utf8_all cs))
text_kept p keeps [] all = IsUtf8-nil
text_kept p keeps (c ∷ cs) all =
    let parts = and_parts (scalar c) (scalars cs) all in
    subst (λ (l : List ℕ). IsUtf8 l)
    (sym (filter-append p (encode c) (encode_utf8_all cs)))
    (IsUtf8-append (filter p (encode c)) (filter p (encode_utf8_all cs))
    (one_text p keeps c parts.0) (text_kept p keeps cs parts.1))

pub text_filtered : (p : ℕ → Bool) → ((b : ℕ) → 128 ≤ b → p b ≡ true) → (bs : List ℕ)
    → IsUtf8 bs → IsUtf8 (filter p bs)
text_filtered p keeps bs text = subst (λ (l : List ℕ). IsUtf8 (filter p l)) text.1.1
    (text_kept p keeps text.0 text.1.0)

-- A name at its last mark.

none_some : (s : List ℕ) → ◌≡◌ {A = Option (List ℕ)} None (Some s) → ⊥
none_some s e = cc

some_same : (s t : List ℕ) → ◌≡◌ {A = Option (List ℕ)} (Some s) (Some t) → s ≡ t
some_same s t e = cc

no_bytes : IsAscii []
no_bytes i = omega arith

mark_text : IsUtf8 mark
mark_text = IsUtf8-from_ascii mark (IsAscii-cons 58 (50 ∷ 44 ∷ []) (omega arith)
    (IsAscii-cons 50 (44 ∷ []) (omega arith) (IsAscii-cons 44 [] (omega arith) no_bytes)))

other_high : (b : ℕ) → 128 ≤ b → is_other b ≡ true
other_high b high = grind (arith, nat_tests, high)

cut_behind : (name letters : List ℕ) → behind_text mark name ≡ Some letters
    → name ≡ mark ++ letters
cut_behind name letters is = by (bytes_eq (take 3 name) mark) refl is
  where
    by : (t : Bool) → bytes_eq (take 3 name) mark ≡ t
        → (if t then Some (drop 3 name) else None) ≡ Some letters → name ≡ mark ++ letters
    by true same is = sym (take-append-drop 3 name)
        ∙ (λ i. bytes_same (take 3 name) mark same i ++ some_same (drop 3 name) letters is i)
    by false same is = absurd (none_some letters is)

cut_at : (name letters : List ℕ) → last_letters name ≡ Some letters
    → (front : List ℕ) × (name ≡ front ++ (mark ++ letters))
cut_at [] letters is = absurd (none_some letters is)
cut_at (b ∷ rest) letters is =
    by (last_letters rest) refl is (λ l found. cut_at rest l found)
  where
    by : (found : Option (List ℕ)) → last_letters rest ≡ found
        → option_or found (behind_text mark (b ∷ rest)) ≡ Some letters
        → ((l : List ℕ) → last_letters rest ≡ Some l
        → (front : List ℕ) × (rest ≡ front ++ (mark ++ l)))
        → (front : List ℕ) × (b ∷ rest ≡ front ++ (mark ++ letters))
    by None e is again = ([], cut_behind (b ∷ rest) letters is)
    by (Some l) e is again =
        let at = again l e in (
          b ∷ at.0,
          ap (λ (s : List ℕ). b ∷ s)
              (at.1 ∙ ap (λ (s : List ℕ). at.0 ++ (mark ++ s)) (some_same l letters is)),
        )

-- base and letters of a text are texts
record PartsText (parts : List ℕ × List ℕ) : Type 0 where
  front : IsUtf8 parts.0
  behind : IsUtf8 parts.1

parts_text : (name : List ℕ) → IsUtf8 name → PartsText (split_name name)
parts_text name text = by (last_letters name) refl
  where
    by : (found : Option (List ℕ)) → last_letters name ≡ found
        → PartsText (split_at_mark name found)
    by None e = record { front = text; behind = IsUtf8-nil }
    by (Some letters) e =
        let at = cut_at name letters e in
        let size : length name ≡ length at.0 + 3 + length letters =
        omega (arith, ap length at.1, length-append at.0 (mark ++ letters)) in
        let colon : get_or name (length at.0) 0 ≡ 58 =
        ap (λ (l : List ℕ). get_or l (length at.0) 0) at.1
        ∙ get_or-append_seam at.0 58 (50 ∷ 44 ∷ letters) 0 in
        let comma : get_or name (length at.0 + 2) 0 ≡ 44 =
        ap (λ (l : List ℕ). get_or l (length at.0 + 2) 0) at.1
        ∙ get_or-append-add at.0 (mark ++ letters) 2 0 in
        let front : take (length name - length letters - 3) name ≡ at.0 =
        ap (take (length name - length letters - 3)) at.1
        ∙ take_at at.0 (mark ++ letters) (length name - length letters - 3)
        (omega (arith, size)) in
        let behind : drop (length at.0 + 2 + 1) name ≡ letters =
        ap (drop (length at.0 + 2 + 1)) at.1
        ∙ ap (λ (n : ℕ). drop n (at.0 ++ (mark ++ letters))) (three (length at.0))
        ∙ drop-append-add at.0 (mark ++ letters) 3 in record {
          front = subst (λ (l : List ℕ). IsUtf8 l)
              (ap (λ (n : ℕ). take n name) (cut_is name letters at.0 size))
              (IsUtf8-take name (length at.0) text
              (IsCharBoundary-before_ascii name (length at.0) (omega (arith, size))
              (omega (arith, colon))));
          behind = subst (λ (l : List ℕ). IsUtf8 l) behind
              (IsUtf8-drop name (length at.0 + 2 + 1) text
              (IsCharBoundary-after_ascii name (length at.0 + 2) text (omega (arith, size))
              (omega (arith, comma))));
        }
      where
        three : (n : ℕ) → n + 2 + 1 ≡ n + 3
        three n = omega arith

        cut_is : (name letters front : List ℕ) → length name ≡ length front + 3 + length letters
            → length front ≡ length name - length letters - 3
        cut_is name letters front size = omega (arith, size)

-- letters of ASCII are a text
below_text : (n : ℕ) (letters : List ℕ) → n ≤ 128 → IsUtf8 (letters_below n letters)
unfolding letters_below
below_text zero letters low = IsUtf8-nil
below_text (suc n) letters low =
    IsUtf8-append (letters_below n letters) (letter_if (has_letter letters n) n)
    (below_text n letters (omega (arith, low))) (one (has_letter letters n))
  where
    one : (t : Bool) → IsUtf8 (letter_if t n)
    one false = IsUtf8-nil
    one true = IsUtf8-from_ascii (n ∷ []) (IsAscii-cons n [] (omega (arith, low)) no_bytes)

-- letters that stand for flags, none of them past ASCII
flags_beyond : (b : Bool) (x : ℕ) → nat_le 128 x ≡ false → filter is_beyond (letter_if b x) ≡ []
flags_beyond true x low = ap (λ (t : Bool). if t then x ∷ [] else []) low
flags_beyond false x low = refl

beyond_others : (f : Flags) (others : List ℕ)
    → filter is_beyond (all_letters f others) ≡ filter is_beyond others
beyond_others f others =
    filter-append is_beyond (((((d ++ g) ++ p) ++ r) ++ s) ++ t) others
    ∙ ap (λ (l : List ℕ). l ++ filter is_beyond others)
    (more ((((d ++ g) ++ p) ++ r) ++ s) f.trashed (byte "T") refl
    (more (((d ++ g) ++ p) ++ r) f.seen (byte "S") refl
    (more ((d ++ g) ++ p) f.replied (byte "R") refl
    (more (d ++ g) f.passed (byte "P") refl
    (more d f.flagged (byte "F") refl (flags_beyond f.draft (byte "D") refl))))))
  where
    more : (front : List ℕ) (b : Bool) (x : ℕ) → nat_le 128 x ≡ false
        → filter is_beyond front ≡ [] → filter is_beyond (front ++ letter_if b x) ≡ []
    more front b x low none = filter-append is_beyond front (letter_if b x)
        ∙ (λ i. none i ++ flags_beyond b x low i)

    d : List ℕ
    d = letter_if f.draft (byte "D")

    g : List ℕ
    g = letter_if f.flagged (byte "F")

    p : List ℕ
    p = letter_if f.passed (byte "P")

    r : List ℕ
    r = letter_if f.replied (byte "R")

    s : List ℕ
    s = letter_if f.seen (byte "S")

    t : List ℕ
    t = letter_if f.trashed (byte "T")

-- the made name of a text is a text
pub made_text : (file : MaildirFile) (f : Flags) → IsUtf8 file.name
    → IsUtf8 (file_with f file).name
made_text file f text = by (is_new f && no_letters letters && is_whole_name (base_of file))
  where
    others : List ℕ
    others = filter is_other (split_name file.name).1

    letters : List ℕ
    letters = all_letters f others

    parts : PartsText (split_name file.name)
    parts = parts_text file.name text

    ordered : IsUtf8 (in_order letters)
    ordered = IsUtf8-append (letters_below 128 letters) (filter is_beyond letters)
        (below_text 128 letters (omega arith))
        (subst (λ (l : List ℕ). IsUtf8 l) (sym (beyond_others f others))
        (text_filtered is_beyond (λ b high. grind (arith, nat_tests, high)) others
        (text_filtered is_other (λ b high. other_high b high) (split_name file.name).1
        parts.behind)))

    by : (t : Bool) → IsUtf8 (if t then base_of file
        else base_of file ++ mark ++ in_order letters)
    by true = parts.front
    by false = IsUtf8-append (base_of file ++ mark) (in_order letters)
        (IsUtf8-append (base_of file) mark parts.front mark_text) ordered

-- A message may have the made name.

-- no byte of a part is one that the whole has not
part_has_none : (p : ℕ → Bool) (letters : List ℕ) (c : ℕ) → has_letter letters c ≡ false
    → has_letter (filter p letters) c ≡ false
part_has_none p [] c none = refl
part_has_none p (b ∷ letters) c none =
    by (p b) (none_either (b == c) (has_letter letters c) none)
    (λ rest. part_has_none p letters c rest)
  where
    none_either : (x y : Bool) → (x || y) ≡ false → (x ≡ false) × (y ≡ false)
    none_either true y is = absurd (true_false is)
      where
        true_false : ◌≡◌ {A = Bool} true false → ⊥
        true_false e = cc
    none_either false y is = (refl, is)

    by : (t : Bool) → (((b == c) ≡ false) × (has_letter letters c ≡ false))
        → (has_letter letters c ≡ false → has_letter (filter p letters) c ≡ false)
        → has_letter (if t then b ∷ filter p letters else filter p letters) c ≡ false
    by true both again = none_both (b == c) (has_letter (filter p letters) c) both.0
        (again both.1)
    by false both again = again both.1

-- the parts of a name without a slash have none
record PartsClear (parts : List ℕ × List ℕ) : Type 0 where
  front : has_letter parts.0 47 ≡ false
  behind : has_letter parts.1 47 ≡ false

none_parts : (x y : Bool) → (x || y) ≡ false → (x ≡ false) × (y ≡ false)
none_parts true y is = absurd (true_false is)
  where
    true_false : ◌≡◌ {A = Bool} true false → ⊥
    true_false e = cc
none_parts false y is = (refl, is)

parts_clear : (name : List ℕ) → has_letter name 47 ≡ false → PartsClear (split_name name)
parts_clear name clear = by (last_letters name) refl
  where
    by : (found : Option (List ℕ)) → last_letters name ≡ found
        → PartsClear (split_at_mark name found)
    by None e = record { front = clear; behind = refl }
    by (Some letters) e =
        let at = cut_at name letters e in
        let size : length name ≡ length at.0 + 3 + length letters =
        omega (arith, ap length at.1, length-append at.0 (mark ++ letters)) in
        let cut : take (length name - length letters - 3) name ≡ at.0 =
        ap (take (length name - length letters - 3)) at.1
        ∙ take_at at.0 (mark ++ letters) (length name - length letters - 3)
        (omega (arith, size)) in
        let both = none_parts (has_letter at.0 47) (has_letter (mark ++ letters) 47)
        (sym (ap (λ (l : List ℕ). has_letter l 47) at.1 ∙ has_both at.0 (mark ++ letters) 47)
        ∙ clear) in record {
          front = ap (λ (l : List ℕ). has_letter l 47) cut ∙ both.0;
          behind = (none_parts (has_letter mark 47) (has_letter letters 47)
              (sym (has_both mark letters 47) ∙ both.1)).1;
        }

letters_clear : (f : Flags) (others : List ℕ) → has_letter others 47 ≡ false
    → has_letter (all_letters f others) 47 ≡ false
letters_clear f others clear = letters_have f others 47
    ∙ none_both _ _ (none_both _ _ (none_both _ _ (none_both _ _ (none_both _ _
    (none_both _ _ (and-false f.draft) (and-false f.flagged)) (and-false f.passed))
    (and-false f.replied)) (and-false f.seen)) (and-false f.trashed)) clear

-- a base that begins with a full stop is that of a name that does
front_dot : (name : List ℕ) → begins_dot name ≡ false → begins_dot (split_name name).0 ≡ false
front_dot name plain = by (last_letters name)
  where
    taken : (n : ℕ) (text : List ℕ) → begins_dot text ≡ false → begins_dot (take n text) ≡ false
    taken zero text plain = refl
    taken (suc n) [] plain = refl
    taken (suc n) (b ∷ text) plain = plain

    by : (found : Option (List ℕ)) → begins_dot (split_at_mark name found).0 ≡ false
    by None = plain
    by (Some letters) = taken (length name - length letters - 3) name plain

-- a base before the mark begins with no full stop
marked_dot : (base letters : List ℕ) → begins_dot base ≡ false
    → begins_dot (base ++ mark ++ letters) ≡ false
marked_dot [] letters plain = refl
marked_dot (b ∷ base) letters plain = plain

marked_long : (base letters : List ℕ) → nat_lt 0 (length (base ++ mark ++ letters)) ≡ true
marked_long [] letters = some_long (length (50 ∷ 44 ∷ letters))
  where
    some_long : (n : ℕ) → nat_lt 0 (suc n) ≡ true
    some_long n = grind (arith, nat_tests)
marked_long (b ∷ base) letters = some_long (length (base ++ mark ++ letters))
  where
    some_long : (n : ℕ) → nat_lt 0 (suc n) ≡ true
    some_long n = grind (arith, nat_tests)

pub made_shown : (file : MaildirFile) (f : Flags) → is_shown file.name ≡ true
    → is_shown (file_with f file).name ≡ true
made_shown file f shown =
    by (is_new f) (no_letters letters) (is_whole_name (base_of file)) refl
  where
    others : List ℕ
    others = filter is_other (split_name file.name).1

    letters : List ℕ
    letters = all_letters f others

    not_true : (b : Bool) → not b ≡ true → b ≡ false
    not_true true is = absurd (false_true is)
      where
        false_true : ◌≡◌ {A = Bool} false true → ⊥
        false_true e = cc
    not_true false is = refl

    parts : (is_name file.name ≡ true) × (not (begins_dot file.name) ≡ true)
    parts = and_parts (is_name file.name) (not (begins_dot file.name)) shown

    clear : PartsClear (split_name file.name)
    clear = parts_clear file.name (not_true (has_letter file.name 47)
        (and_parts (nat_lt 0 (length file.name)) (not (has_letter file.name 47)) parts.0).1)

    plain : begins_dot (base_of file) ≡ false
    plain = front_dot file.name (not_true (begins_dot file.name) parts.1)

    is_shown_by : (name : List ℕ) → nat_lt 0 (length name) ≡ true → has_letter name 47 ≡ false
        → begins_dot name ≡ false → is_shown name ≡ true
    is_shown_by name long slash dot =
        and_from (is_name name) (not (begins_dot name))
        (and_from (nat_lt 0 (length name)) (not (has_letter name 47)) long
        (ap not slash)) (ap not dot)

    ordered : has_letter (in_order letters) 47 ≡ false
    ordered = ordered_has letters 47 (omega arith)
        ∙ letters_clear f others
        (part_has_none is_other (split_name file.name).1 47 clear.behind)

    marked : is_shown (base_of file ++ mark ++ in_order letters) ≡ true
    marked = is_shown_by (base_of file ++ mark ++ in_order letters)
        (marked_long (base_of file) (in_order letters))
        (has_both (base_of file ++ mark) (in_order letters) 47
        ∙ none_both _ _ (has_both (base_of file) mark 47 ∙ none_both _ _ clear.front refl) ordered)
        (marked_dot (base_of file) (in_order letters) plain)

    by : (a b w : Bool) → is_whole_name (base_of file) ≡ w
        → is_shown (if a && b && w then base_of file
        else base_of file ++ mark ++ in_order letters) ≡ true
    by true true true is = is_shown_by (base_of file)
        (and_parts (nat_lt 0 (length (base_of file))) _ is).0 clear.front plain
    by true true false is = marked
    by true false w is = marked
    by false b w is = marked

-- the file with the made name
pub made_candidate : (file made : Candidate) (f : Flags) → IsCandidate file
    → plain_file made ≡ file_with f (plain_file file) → made.order ≡ file.order
    → made.base.items ≡ file.base.items → IsCandidate made
made_candidate file made f is name order base =
    let same : base_of (plain_file made) ≡ base_of (plain_file file) =
    ap base_of name ∙ base_kept (plain_file file) f in
    let text : made.name.items ≡ (file_with f (plain_file file)).name =
    ap (λ (m : MaildirFile). m.name) name in record {
      order = order ∙ is.order ∙ sym (ap order_of same);
      base = base ∙ is.base ∙ sym same;
      text = subst (λ (l : List ℕ). IsUtf8 l) (sym text) (made_text (plain_file file) f is.text);
      shown = ap is_shown text ∙ made_shown (plain_file file) f is.shown;
    }
