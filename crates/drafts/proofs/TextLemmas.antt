-- The lines that are texts: those that are UTF-8 without LF and CR.
use Rattle.std.proofs.Common.{◌≡◌, ◌⊎◌, ℕ, zero, suc, ◌-◌, ◌<◌, ◌≤◌, ◌==◌, Bool, true}
use Rattle.std.proofs.Common.{false, not, nat_lt, List, [], ◌∷◌, ◌++◌, length, drop}
use Rattle.std.proofs.Common.{Some, None, slice_index, ⊎_elim, refl, sym, ap, subst, ◌∙◌, arith}
use Rattle.std.proofs.Common.{inl, inr}
use Rattle.std.specs.Prelude.{encode_utf8}
use Rattle.std.specs.Char.{IsScalar}
use Rattle.std.specs.List.{list_all}
use Rattle.std.specs.Str.{IsUtf8, encode_utf8_all, is_utf8}
use Rattle.std.proofs.lemmas.Bool.{and_from, and_parts, cases_lt, cond-true}
use Rattle.std.proofs.lemmas.Bool.{cond-false, lt-ltb, ltb-true}
use Rattle.std.proofs.lemmas.Bool.Decides.{nat_tests}
use Rattle.std.proofs.lemmas.List.{drop_at, drop_more}
use Rattle.std.proofs.lemmas.List.Folds.{list_all-append}
use Rattle.std.proofs.lemmas.Str.{IsUtf8-append, IsUtf8-encode, IsUtf8-from_is_utf8, IsUtf8-nil}
use Rattle.std.proofs.lemmas.Str.{encode_ascii, is_utf8-from_IsUtf8}
use lib.Utf8.{scalar, scalars}
use Rattle.bstr.specs.Utf8.{Decoded, code_of_2, code_of_3, code_of_4, continues, decoded, good}
use Rattle.bstr.specs.Utf8.{lead_len, second}
use Rattle.bstr.proofs.lemmas.EncodeLemmas.{decoded-encode}
use Rattle.bstr.proofs.lemmas.PieceLemmas.{by-shape, value-6, value-9, value-12}
use Rattle.bstr.proofs.lemmas.SoundLemmas.{SpellsChar, SpellsChar-decoded}
use Rattle.mail_base.specs.Written.{is_line_byte}
use Rattle.drafts.specs.LineState.{only_if, text_behind, with_more}
use Rattle.drafts.specs.PlainDraft.{is_text}
use Rattle.drafts.specs.declared.line_state.LineState.TheVariants.{Text, Second, More}
use Rattle.drafts.proofs.LineLemmas.{accepts, accepts_at}

-- ---- how a character goes on

high_behind : (b : ℕ) → 0xC2 ≤ b → b < 0xF5 → text_behind b ≡ Some (Second b)
high_behind b low high = grind (arith, nat_tests)

lead_2 : (b : ℕ) → 0xC2 ≤ b → b < 0xE0 → lead_len b ≡ 2
lead_2 b low high = grind (arith, nat_tests)

lead_3 : (b : ℕ) → 0xE0 ≤ b → b < 0xF0 → lead_len b ≡ 3
lead_3 b low high = grind (arith, nat_tests)

lead_4 : (b : ℕ) → 0xF0 ≤ b → b < 0xF5 → lead_len b ≡ 4
lead_4 b low high = grind (arith, nat_tests)

-- a first byte, and a second behind it
goes_second : (b c n : ℕ) (t : List ℕ) → 0xC2 ≤ b → b < 0xF5 → lead_len b ≡ n
    → second b c ≡ true
    → accepts Text (b ∷ c ∷ t) ≡ accepts (with_more (n - 2)) t
goes_second b c n t low high len is =
    ap (accepts_at (λ next. accepts next (c ∷ t))) (high_behind b low high)
    ∙ ap (λ p. accepts_at (λ next. accepts next t) (only_if p (with_more (lead_len b - 2)))) is
    ∙ ap (λ k. accepts (with_more (k - 2)) t) len

goes_more : (c n : ℕ) (t : List ℕ) → continues c ≡ true
    → accepts (More n) (c ∷ t) ≡ accepts (with_more (n - 1)) t
goes_more c n t is =
    ap (λ p. accepts_at (λ next. accepts next t) (only_if p (with_more (n - 1)))) is

char_2 : (b c : ℕ) (t : List ℕ) → 0xC2 ≤ b → b < 0xE0 → second b c ≡ true
    → accepts Text (b ∷ c ∷ t) ≡ accepts Text t
char_2 b c t low high is = goes_second b c 2 t low (omega arith) (lead_2 b low high) is

char_3 : (b c d : ℕ) (t : List ℕ) → 0xE0 ≤ b → b < 0xF0 → second b c ≡ true → continues d ≡ true
    → accepts Text (b ∷ c ∷ d ∷ t) ≡ accepts Text t
char_3 b c d t low high is next =
    goes_second b c 3 (d ∷ t) (omega arith) (omega arith) (lead_3 b low high) is
    ∙ goes_more d 1 t next

char_4 : (b c d e : ℕ) (t : List ℕ) → 0xF0 ≤ b → b < 0xF5 → second b c ≡ true
    → continues d ≡ true → continues e ≡ true
    → accepts Text (b ∷ c ∷ d ∷ e ∷ t) ≡ accepts Text t
char_4 b c d e t low high is next last =
    goes_second b c 4 (d ∷ e ∷ t) (omega arith) (omega arith) (lead_4 b low high) is
    ∙ goes_more d 2 (e ∷ t) next ∙ goes_more e 1 t last

-- ---- what is UTF-8 goes on

first_of : (l : List ℕ) → 0 < length l → l ≡ slice_index l 0 ∷ drop 1 l
first_of l some = drop_more l 0 0 some

two_of : (l : List ℕ) → 2 ≤ length l → l ≡ slice_index l 0 ∷ slice_index l 1 ∷ drop 2 l
two_of l some =
    first_of l (omega arith)
    ∙ ap (λ (t : List ℕ). slice_index l 0 ∷ t) (drop_more l 1 0 (omega arith))

three_of : (l : List ℕ) → 3 ≤ length l
    → l ≡ slice_index l 0 ∷ slice_index l 1 ∷ slice_index l 2 ∷ drop 3 l
three_of l some =
    two_of l (omega arith)
    ∙ ap (λ (t : List ℕ). slice_index l 0 ∷ slice_index l 1 ∷ t) (drop_more l 2 0 (omega arith))

four_of : (l : List ℕ) → 4 ≤ length l
    → l ≡ slice_index l 0 ∷ slice_index l 1 ∷ slice_index l 2 ∷ slice_index l 3 ∷ drop 4 l
four_of l some =
    three_of l (omega arith)
    ∙ ap (λ (t : List ℕ). slice_index l 0 ∷ slice_index l 1 ∷ slice_index l 2 ∷ t)
    (drop_more l 3 0 (omega arith))

-- a text goes on behind so many bytes
abbrev Goes : List ℕ → ℕ → Type 0
Goes l n = accepts Text l ≡ accepts Text (drop n l)

char_1 : (b : ℕ) (t : List ℕ) → b < 128 → is_line_byte b ≡ true
    → accepts Text (b ∷ t) ≡ accepts Text t
char_1 b t low line =
    let behind : text_behind b ≡ Some Text =
    cond-true (nat_lt b 128) _ _ (lt-ltb b 128 low) ∙ cond-true (is_line_byte b) _ _ line in
    ap (accepts_at (λ next. accepts next t)) behind

char_goes : (l : List ℕ) (y : ℕ) → (decoded l).char ≡ Some y
    → (y < 128 → is_line_byte y ≡ true)
    → Goes l (decoded l).size
char_goes l y found line =
    let b = slice_index l 0 in
    let c = slice_index l 1 in
    let d = slice_index l 2 in
    let e = slice_index l 3 in
    let char = λ (p : Decoded) (is : decoded l ≡ p).
    sym (ap (λ (q : Decoded). q.char) is) ∙ found in
    let size = λ (p : Decoded) (is : decoded l ≡ p).
    ap (λ (q : Decoded). drop q.size l) (sym is) in
    by-shape (length l) b c d e
    (λ h. let k = char _ h.1 in absurd (cc))
    (λ h. let k : Some b ≡ Some y = char _ h.2 in
    let same : b ≡ y = cc in
    let below : y < 128 = omega (arith, h.1) in
    ap (accepts Text) (first_of l h.0)
    ∙ char_1 b (drop 1 l) h.1 (ap is_line_byte same ∙ line below)
    ∙ ap (accepts Text) (size _ h.2))
    (λ h. let k = char _ h.3 in absurd (cc))
    (λ h. let k = char _ h.2 in absurd (cc))
    (λ h. let k = char _ h.4 in absurd (cc))
    (λ h. let k = char _ h.4 in absurd (cc))
    (λ h. ap (accepts Text) (two_of l h.0)
    ∙ char_2 b c (drop 2 l) h.1 h.2 h.3
    ∙ ap (accepts Text) (size _ h.4))
    (λ h. let k = char _ h.5 in absurd (cc))
    (λ h. let k = char _ h.5 in absurd (cc))
    (λ h. ap (accepts Text) (three_of l h.0)
    ∙ char_3 b c d (drop 3 l) h.1 h.2 h.3 h.4
    ∙ ap (accepts Text) (size _ h.5))
    (λ h. let k = char _ h.6 in absurd (cc))
    (λ h. let k = char _ h.6 in absurd (cc))
    (λ h. ap (accepts Text) (four_of l h.0)
    ∙ char_4 b c d e (drop 4 l) h.1 (omega (arith, h.2)) h.3 h.4 h.5
    ∙ ap (accepts Text) (size _ h.6))

chars_go : (cs : List ℕ) → scalars cs ≡ true
    → list_all is_line_byte (encode_utf8_all cs) ≡ true
    → accepts Text (encode_utf8_all cs) ≡ true
chars_go [] all lines = refl
chars_go (c ∷ cs) all lines =
    let both = and_parts (scalar c) (scalars cs) all in
    let first = encode_utf8 c in
    let later = encode_utf8_all cs in
    let on_line =
    and_parts (list_all is_line_byte first) (list_all is_line_byte later)
    (sym (list_all-append is_line_byte first later) ∙ lines) in
    let read : decoded (first ++ later) ≡ good c (length first) = decoded-encode c later both.0 in
    let line : c < 128 → is_line_byte c ≡ true =
    λ low.
    (and_parts (is_line_byte c) true
    (sym (ap (list_all is_line_byte) (encode_ascii c low)) ∙ on_line.0)).0 in
    char_goes (first ++ later) c (ap (λ (p : Decoded). p.char) read) line
    ∙ ap (λ (p : Decoded). accepts Text (drop p.size (first ++ later))) read
    ∙ ap (accepts Text) (drop_at first later (length first) refl)
    ∙ chars_go cs both.1 on_line.1

pub text_goes : (t : List ℕ) → is_text t ≡ true → accepts Text t ≡ true
text_goes t is =
    let both = and_parts (is_utf8 t) (list_all is_line_byte t) is in
    let utf8 = IsUtf8-from_is_utf8 t both.0 in
    ap (accepts Text) (sym utf8.1.1)
    ∙ chars_go utf8.0 utf8.1.0 (ap (list_all is_line_byte) utf8.1.1 ∙ both.1)

-- ---- what goes on is UTF-8

-- the byte behind a first byte, and what follows
second_byte : (b : ℕ) (t : List ℕ) → accepts (Second b) t ≡ true
    → (c : ℕ) × (u : List ℕ) × (t ≡ c ∷ u) × (second b c ≡ true)
    × (accepts (with_more (lead_len b - 2)) u ≡ true)
second_byte b [] h = absurd (cc)
second_byte b (c ∷ t) h = by_test (second b c) refl
  where
    by_test : (p : Bool) → second b c ≡ p
        → (x : ℕ) × (u : List ℕ) × (c ∷ t ≡ x ∷ u) × (second b x ≡ true)
        × (accepts (with_more (lead_len b - 2)) u ≡ true)
    by_test true is = (
      c,
      t,
      refl,
      is,
      sym (ap (λ p. accepts_at (λ next. accepts next t)
          (only_if p (with_more (lead_len b - 2)))) is) ∙ h,
    )
    by_test false is =
        let e = sym (ap (λ p. accepts_at (λ next. accepts next t)
        (only_if p (with_more (lead_len b - 2)))) is) ∙ h in
        absurd (cc)

next_byte : (n : ℕ) (t : List ℕ) → accepts (More n) t ≡ true
    → (c : ℕ) × (u : List ℕ) × (t ≡ c ∷ u) × (continues c ≡ true)
    × (accepts (with_more (n - 1)) u ≡ true)
next_byte n [] h = absurd (cc)
next_byte n (c ∷ t) h = by_test (continues c) refl
  where
    by_test : (p : Bool) → continues c ≡ p
        → (x : ℕ) × (u : List ℕ) × (c ∷ t ≡ x ∷ u) × (continues x ≡ true)
        × (accepts (with_more (n - 1)) u ≡ true)
    by_test true is = (
      c,
      t,
      refl,
      is,
      sym (ap (λ p. accepts_at (λ next. accepts next t)
          (only_if p (with_more (n - 1)))) is) ∙ h,
    )
    by_test false is =
        let e = sym (ap (λ p. accepts_at (λ next. accepts next t)
        (only_if p (with_more (n - 1)))) is) ∙ h in
        absurd (cc)

-- the byte with which a text begins
first_byte : (b : ℕ) (t : List ℕ) → accepts Text (b ∷ t) ≡ true
    → ((b < 128) × (is_line_byte b ≡ true) × (accepts Text t ≡ true))
    ⊎ ((0xC2 ≤ b) × (b < 0xF5) × (accepts (Second b) t ≡ true))
first_byte b t h = by_test (nat_lt b 128) (is_line_byte b) (lead_len b == 0) refl refl refl
  where
    by_test : (p q r : Bool) → nat_lt b 128 ≡ p → is_line_byte b ≡ q → (lead_len b == 0) ≡ r
        → ((b < 128) × (is_line_byte b ≡ true) × (accepts Text t ≡ true))
        ⊎ ((0xC2 ≤ b) × (b < 0xF5) × (accepts (Second b) t ≡ true))
    by_test true true r low line lead =
        let behind : text_behind b ≡ Some Text =
        cond-true (nat_lt b 128) _ _ low ∙ cond-true (is_line_byte b) _ _ line in
        inl (
          ltb-true b 128 low,
          line,
          sym (ap (accepts_at (λ next. accepts next t)) behind) ∙ h,
        )
    by_test true false r low line lead =
        let behind : text_behind b ≡ None =
        cond-true (nat_lt b 128) _ _ low ∙ cond-false (is_line_byte b) _ _ line in
        let e = sym (ap (accepts_at (λ next. accepts next t)) behind) ∙ h in
        absurd (cc)
    by_test false q true low line lead =
        let behind : text_behind b ≡ None =
        cond-false (nat_lt b 128) _ _ low
        ∙ cond-false (not (lead_len b == 0)) _ _ (ap not lead) in
        let e = sym (ap (accepts_at (λ next. accepts next t)) behind) ∙ h in
        absurd (cc)
    by_test false q false low line lead =
        let behind : text_behind b ≡ Some (Second b) =
        cond-false (nat_lt b 128) _ _ low
        ∙ cond-true (not (lead_len b == 0)) _ _ (ap not lead) in
        inr (
          grind (arith, nat_tests),
          grind (arith, nat_tests),
          sym (ap (accepts_at (λ next. accepts next t)) behind) ∙ h,
        )

ltb_low : (c : ℕ) → continues c ≡ true → 128 ≤ c
ltb_low c is = grind (arith, nat_tests)

second_continues : (b c : ℕ) → second b c ≡ true → continues c ≡ true
second_continues b c is = grind (arith, nat_tests)

high_line : (b : ℕ) → 128 ≤ b → is_line_byte b ≡ true
high_line b high = grind (arith, nat_tests)

-- a character and UTF-8 behind it
char_utf8 : (l t : List ℕ) (y n : ℕ) → decoded l ≡ good y n → drop n l ≡ t → IsUtf8 t → IsUtf8 l
char_utf8 l t y n read behind utf8 =
    let spells : SpellsChar l y (decoded l).size =
    SpellsChar-decoded l y (ap (λ (p : Decoded). p.char) read) in
    let rest : drop (decoded l).size l ≡ t =
    ap (λ (p : Decoded). drop p.size l) read ∙ behind in
    let whole : l ≡ encode_utf8 y ++ t =
    spells.bytes ∙ ap (λ (u : List ℕ). encode_utf8 y ++ u) rest in
    subst IsUtf8 (sym whole)
    (IsUtf8-append (encode_utf8 y) t (IsUtf8-encode y spells.scalar) utf8)

-- a text of UTF-8 on one line
record OnLine (t : List ℕ) : Type 0 where
  utf8 : IsUtf8 t
  lines : list_all is_line_byte t ≡ true

line_more : (b : ℕ) (t : List ℕ) → is_line_byte b ≡ true → list_all is_line_byte t ≡ true
    → list_all is_line_byte (b ∷ t) ≡ true
line_more b t first rest = and_from (is_line_byte b) (list_all is_line_byte t) first rest

ascii_text : (b : ℕ) (t : List ℕ) → b < 128 → is_line_byte b ≡ true → OnLine t → OnLine (b ∷ t)
ascii_text b t low line rest =
    let scalar : IsScalar b = grind (arith, nat_tests) in
    let one : IsUtf8 (b ∷ []) =
    subst IsUtf8 (encode_ascii b low) (IsUtf8-encode b scalar) in record {
      utf8 = IsUtf8-append (b ∷ []) t one rest.utf8;
      lines = line_more b t line rest.lines;
    }

wide_text : (b : ℕ) (t : List ℕ) → 0xC2 ≤ b → b < 0xF5 → accepts (Second b) t ≡ true
    → ((u : List ℕ) → length u < length t → accepts Text u ≡ true → OnLine u)
    → OnLine (b ∷ t)
wide_text b t low high h more =
    let p = second_byte b t h in
    let c = p.0 in
    let u = p.1 in
    let second_line = high_line c (omega (arith, ltb_low c (second_continues b c p.3))) in
    ⊎_elim
    (λ two.
    let go : accepts Text u ≡ true =
    sym (ap (λ k. accepts (with_more (k - 2)) u) (lead_2 b low two)) ∙ p.4 in
    let rest = more u (omega (arith, ap length p.2)) go in
    let l = b ∷ c ∷ u in
    let read : decoded l ≡ good (code_of_2 b c) 2 =
    value-6 (length l) b c (slice_index l 2) (slice_index l 3) (omega arith, low, two, p.3) in
    subst (λ (x : List ℕ). OnLine (b ∷ x)) (sym p.2) (record {
      utf8 = char_utf8 l u (code_of_2 b c) 2 read refl rest.utf8;
      lines = line_more b (c ∷ u) (high_line b (omega arith))
          (line_more c u second_line rest.lines);
    }))
    (λ above. ⊎_elim
    (λ three.
    let go : accepts (More 1) u ≡ true =
    sym (ap (λ k. accepts (with_more (k - 2)) u) (lead_3 b above three)) ∙ p.4 in
    let q = next_byte 1 u go in
    let d = q.0 in
    let v = q.1 in
    let rest = more v (omega (arith, ap length p.2, ap length q.2)) q.4 in
    let l = b ∷ c ∷ d ∷ v in
    let read : decoded l ≡ good (code_of_3 b c d) 3 =
    value-9 (length l) b c d (slice_index l 3) (omega arith, above, three, p.3, q.3) in
    let tail : t ≡ c ∷ d ∷ v = p.2 ∙ ap (λ (x : List ℕ). c ∷ x) q.2 in
    subst (λ (x : List ℕ). OnLine (b ∷ x)) (sym tail) (record {
      utf8 = char_utf8 l v (code_of_3 b c d) 3 read refl rest.utf8;
      lines = line_more b (c ∷ d ∷ v) (high_line b (omega arith))
          (line_more c (d ∷ v) second_line
          (line_more d v (high_line d (omega (arith, ltb_low d q.3))) rest.lines));
    }))
    (λ four.
    let go : accepts (More 2) u ≡ true =
    sym (ap (λ k. accepts (with_more (k - 2)) u) (lead_4 b four high)) ∙ p.4 in
    let q = next_byte 2 u go in
    let d = q.0 in
    let v = q.1 in
    let r = next_byte 1 v q.4 in
    let e = r.0 in
    let w = r.1 in
    let rest = more w (omega (arith, ap length p.2, ap length q.2, ap length r.2)) r.4 in
    let l = b ∷ c ∷ d ∷ e ∷ w in
    let read : decoded l ≡ good (code_of_4 b c d e) 4 =
    value-12 (length l) b c d e (omega arith, four, omega arith, p.3, q.3, r.3) in
    let tail : t ≡ c ∷ d ∷ e ∷ w =
    p.2 ∙ ap (λ (x : List ℕ). c ∷ x) (q.2 ∙ ap (λ (x : List ℕ). d ∷ x) r.2) in
    subst (λ (x : List ℕ). OnLine (b ∷ x)) (sym tail) (record {
      utf8 = char_utf8 l w (code_of_4 b c d e) 4 read refl rest.utf8;
      lines = line_more b (c ∷ d ∷ e ∷ w) (high_line b (omega arith))
          (line_more c (d ∷ e ∷ w) second_line
          (line_more d (e ∷ w) (high_line d (omega (arith, ltb_low d q.3)))
          (line_more e w (high_line e (omega (arith, ltb_low e r.3))) rest.lines)));
    }))
    (cases_lt b 0xF0))
    (cases_lt b 0xE0)

on_line_from : (n : ℕ) (t : List ℕ) → length t ≤ n → accepts Text t ≡ true → OnLine t
on_line_from n [] small h = record { utf8 = IsUtf8-nil; lines = refl }
on_line_from zero (b ∷ t) small h = absurd (omega arith)
on_line_from (suc n) (b ∷ t) small h = ⊎_elim
    (λ low. ascii_text b t low.0 low.1 (on_line_from n t (omega arith) low.2))
    (λ high. wide_text b t high.0 high.1 high.2
    (λ u less goes. on_line_from n u (omega arith) goes))
    (first_byte b t h)

pub goes_text : (t : List ℕ) → accepts Text t ≡ true → is_text t ≡ true
goes_text t h =
    let on = on_line_from (length t) t (omega arith) h in
    and_from (is_utf8 t) (list_all is_line_byte t) (is_utf8-from_IsUtf8 t on.utf8) on.lines
