-- Letters in unfolded fields, and the flags that a header block tells line by line.
use Rattle.std.proofs.Common.{◌≡◌, ◌+◌, ◌-◌, ◌<◌, ℕ, zero, suc, Bool, true, false, cond, ◌&&◌, ◌||◌}
use Rattle.std.proofs.Common.{◌==◌, List, [], ◌∷◌, ◌++◌, map, Option, Some, None, length, take}
use Rattle.std.proofs.Common.{drop, slice_index, unwrap_or, refl, sym, ap, ◌∙◌, arith}
use Rattle.std.specs.Prelude.{if◌then◌else◌, is_some, nat_lt, codes}
use Rattle.std.specs.List.{concat, list_any}
use Rattle.std.specs.Char.{to_ascii_lowercase}
use Rattle.std.specs.Str.{bytes_eq, str_eq_ignore_ascii_case, str_to_ascii_lowercase}
use Rattle.std.proofs.lemmas.Bool.{cond-true, cond-false}
use Rattle.std.proofs.lemmas.Bool.Decides.{nat_tests}
use Rattle.bstr.specs.Text.{without_terminator, no_cr}
use Rattle.mail_base.specs.declared.flags.Flags.{Flags}
use Rattle.mail_base.specs.Blanks.{is_blank, without_blanks}
use Rattle.mail_base.specs.Lines.{is_continuation, colon_of, behind_colon, unfolded, more_text}
use Rattle.mail_base.specs.Lines.{continuations, fields_of, PlainField}
use Rattle.folder_core.specs.Mbox.{holds, is_status_name, without_status}
use Rattle.mbox_text.specs.Status.{drops, has, lines_hold, starts_status, told_by, is_status}
use Rattle.mbox_text.specs.Status.{is_x_status}
use Rattle.mbox_text.specs.declared.status.StatusField.{StatusField}
use Rattle.mbox_text.specs.declared.status.Told.{Told}

-- the letter is no blank, no CR and no LF
pub record IsInk (letter : ℕ) : Type 0 where
  pub no_space : (32 == letter) ≡ false
  pub no_tab : (9 == letter) ≡ false
  pub no_cr : (13 == letter) ≡ false
  pub no_feed : (10 == letter) ≡ false

not-blank : (letter : ℕ) → IsInk letter → (b : ℕ) → is_blank b ≡ true → (b == letter) ≡ false
not-blank letter ink b e = grind (arith, nat_tests)

-- a line that begins a field, and one that begins none
fields_of-field : (line : List ℕ) (k : ℕ) (lines : List (List ℕ)) → colon_of line ≡ Some k
    → fields_of (line ∷ lines)
    ≡ record { name = take k line; value = unfolded line (continuations lines) } ∷ fields_of lines
fields_of-field line k lines e =
    cond-true _ _ _ (ap is_some e)
    ∙ ap (λ (o : Option ℕ). let f : PlainField =
    record { name = take (unwrap_or o 0) line; value = unfolded line (continuations lines) } in f
    ∷ fields_of lines) e

fields_of-more : (line : List ℕ) (lines : List (List ℕ)) → colon_of line ≡ None
    → fields_of (line ∷ lines) ≡ fields_of lines
fields_of-more line lines e = cond-false _ _ _ (ap is_some e)

continuations-field : (line : List ℕ) (k : ℕ) (lines : List (List ℕ)) → colon_of line ≡ Some k
    → continuations (line ∷ lines) ≡ []
continuations-field line k lines e = cond-true _ _ _ (ap is_some e)

continuations-more : (line : List ℕ) (lines : List (List ℕ)) → colon_of line ≡ None
    → continuations (line ∷ lines)
    ≡ (if is_continuation line then line ∷ continuations lines else continuations lines)
continuations-more line lines e = cond-false _ _ _ (ap is_some e)

or_left : (a b : Bool) → (a || b) ≡ false → a ≡ false
or_left true b e = e
or_left false b e = refl

or_right : (a b : Bool) → (a || b) ≡ false → b ≡ false
or_right true b e = absurd (cc)
or_right false b e = e

and_false : (t : Bool) → (t && false) ≡ false
and_false true = refl
and_false false = refl

or_assoc : (a b c : Bool) → (a || b) || c ≡ a || (b || c)
or_assoc true b c = refl
or_assoc false b c = refl

in_field : (before is here more rest : Bool)
    → (is && here) || ((is && more) || rest) ≡ (before && false) || ((is && (here || more)) || rest)
in_field true true here more rest = sym (or_assoc here more rest)
in_field true false here more rest = refl
in_field false true here more rest = sym (or_assoc here more rest)
in_field false false here more rest = refl

in_more : (is here more rest : Bool)
    → (is && here) || ((is && more) || rest) ≡ (is && (here || more)) || rest
in_more true here more rest = sym (or_assoc here more rest)
in_more false here more rest = refl

module _ (letter : ℕ) (ink : IsInk letter) where
  has-append : (a b : List ℕ) → has letter (a ++ b) ≡ has letter a || has letter b
  has-append [] b = refl
  has-append (x ∷ a) b = grind (arith, has-append a b)

  has-without_blanks : (text : List ℕ) → has letter (without_blanks text) ≡ has letter text
  has-without_blanks [] = refl
  has-without_blanks (b ∷ rest) = by_blank (is_blank b) refl (has-without_blanks rest)
    where
      by_blank : (t : Bool) → is_blank b ≡ t → has letter (without_blanks rest) ≡ has letter rest
          → has letter (if t then without_blanks rest else b ∷ rest) ≡ has letter (b ∷ rest)
      by_blank true e more = more ∙ ap (λ t. t || has letter rest) (sym (not-blank letter ink b e))
      by_blank false e more = refl

  -- all but a last byte that is another
  has-front : (n : ℕ) (text : List ℕ) → length text ≡ suc n → (slice_index text n == letter) ≡ false
      → has letter (take n text) ≡ has letter text
  has-front n [] e other = absurd (omega arith)
  has-front zero (b ∷ []) e other = sym (ap (λ t. t || false) other)
  has-front zero (b ∷ c ∷ rest) e other = absurd (omega arith)
  has-front (suc n) (b ∷ rest) e other =
      ap (λ t. (b == letter) || t) (has-front n rest (omega arith) other)

  -- the last byte is b, and is dropped
  has-last : (b : ℕ) (text : List ℕ) → (b == letter) ≡ false
      → (nat_lt 0 (length text) && slice_index text (length text - 1) == b) ≡ true
      → has letter (take (length text - 1) text) ≡ has letter text
  has-last b text other e =
      let some : 0 < length text = grind (arith, nat_tests) in
      let is : slice_index text (length text - 1) ≡ b = grind (arith, nat_tests) in
      has-front (length text - 1) text (omega arith) (ap (λ k. k == letter) is ∙ other)

  has-no_cr : (text : List ℕ) → has letter (no_cr text) ≡ has letter text
  has-no_cr text = by_cr (nat_lt 0 (length text) && slice_index text (length text - 1) == 13) refl
    where
      by_cr : (t : Bool) → (nat_lt 0 (length text) && slice_index text (length text - 1) == 13) ≡ t
          → has letter (cond t (take (length text - 1) text) text) ≡ has letter text
      by_cr true e = has-last 13 text ink.no_cr e
      by_cr false e = refl

  has-without_terminator : (text : List ℕ) → has letter (without_terminator text) ≡ has letter text
  has-without_terminator text =
      by_feed (nat_lt 0 (length text) && slice_index text (length text - 1) == 10) refl
    where
      by_feed : (t : Bool)
          → (nat_lt 0 (length text) && slice_index text (length text - 1) == 10) ≡ t
          → has letter (cond t (no_cr (take (length text - 1) text)) text) ≡ has letter text
      by_feed true e = has-no_cr (take (length text - 1) text) ∙ has-last 10 text ink.no_feed e
      by_feed false e = refl

  has-more : (more : List (List ℕ))
      → has letter (concat (map more_text more)) ≡ list_any (has letter) more
  has-more [] = refl
  has-more (line ∷ more) =
      let text = without_blanks (without_terminator line) in
      let rest = concat (map more_text more) in
      let same = has-without_blanks (without_terminator line) ∙ has-without_terminator line in
      has-append (more_text line) rest
      ∙ ap (λ t. (t || has letter text) || has letter rest) (ink.no_space)
      ∙ ap (λ t. t || has letter rest) same
      ∙ ap (λ t. has letter line || t) (has-more more)

  -- an unfolded value holds the letters of its lines
  has-unfolded : (line : List ℕ) (more : List (List ℕ))
      → has letter (unfolded line more) ≡ has letter (behind_colon line)
      || list_any (has letter) more
  has-unfolded line more =
      has-without_blanks _
      ∙ has-append (without_terminator (behind_colon line)) (concat (map more_text more))
      ∙ ap (λ t. t || has letter (concat (map more_text more)))
      (has-without_terminator (behind_colon line))
      ∙ ap (λ t. has letter (behind_colon line) || t) (has-more more)

  -- a line that begins a field
  pub lines_hold-field : (name line text : List ℕ) (k : ℕ) (lines : List (List ℕ))
      (before is : Bool)
      → colon_of line ≡ Some k → text ≡ drop (k + 1) line
      → is ≡ str_eq_ignore_ascii_case (take k line) name
      → (is && has letter text) || lines_hold is name letter lines
      ≡ lines_hold before name letter (line ∷ lines)
  lines_hold-field name line text k lines before is e t named =
      let here = has letter text in
      let more = list_any (has letter) (continuations lines) in
      let rest = holds name letter (fields_of lines) in
      let value : has letter (unfolded line (continuations lines)) ≡ here || more =
      has-unfolded line (continuations lines)
      ∙ ap (λ o. has letter (drop (unwrap_or o 0 + 1) line) || more) e
      ∙ ap (λ l. has letter l || more) (sym t) in
      in_field before is here more rest
      ∙ ap (λ m. (before && false) || ((m && (here || more)) || rest)) named
      ∙ ap (λ u. (before && false) || ((str_eq_ignore_ascii_case (take k line) name && u) || rest))
      (sym value)
      ∙ ap (λ fs. (before && false) || holds name letter fs) (sym (fields_of-field line k lines e))
      ∙ ap (λ cs. (before && list_any (has letter) cs)
      || holds name letter (fields_of (line ∷ lines)))
      (sym (continuations-field line k lines e))

-- a line that continues one
pub lines_hold-continued : (letter : ℕ) (name line : List ℕ) (lines : List (List ℕ))
    (continued : Bool)
    → colon_of line ≡ None → is_continuation line ≡ true
    → (continued && has letter line) || lines_hold continued name letter lines
    ≡ lines_hold continued name letter (line ∷ lines)
lines_hold-continued letter name line lines continued e c =
    let more = list_any (has letter) (continuations lines) in
    in_more continued (has letter line) more (holds name letter (fields_of lines))
    ∙ ap (λ fs. (continued && (has letter line || more)) || holds name letter fs)
    (sym (fields_of-more line lines e))
    ∙ ap (λ cs. (continued && list_any (has letter) cs)
    || holds name letter (fields_of (line ∷ lines)))
    (sym (continuations-more line lines e ∙ cond-true _ _ _ c))

-- a line that is skipped
pub lines_hold-skipped : (letter : ℕ) (name line : List ℕ) (lines : List (List ℕ))
    (continued : Bool)
    → colon_of line ≡ None → is_continuation line ≡ false
    → lines_hold continued name letter lines ≡ lines_hold continued name letter (line ∷ lines)
lines_hold-skipped letter name line lines continued e c =
    let more = list_any (has letter) (continuations lines) in
    ap (λ fs. (continued && more) || holds name letter fs) (sym (fields_of-more line lines e))
    ∙ ap (λ cs. (continued && list_any (has letter) cs)
    || holds name letter (fields_of (line ∷ lines)))
    (sym (continuations-more line lines e ∙ cond-false _ _ _ c))

-- flags and further ones
joined : Flags → Bool → Bool → Bool → Bool → Flags
joined f a b c d =
    record f {
      seen = f.seen || a;
      aged = f.aged || b;
      replied = f.replied || c;
      flagged = f.flagged || d;
    }

joined-joined : (f : Flags) (a b c d p q r s : Bool)
    → joined (joined f a b c d) p q r s ≡ joined f (a || p) (b || q) (c || r) (d || s)
unfolding joined
joined-joined f a b c d p q r s =
    let e1 = or_assoc f.seen a p in
    let e2 = or_assoc f.aged b q in
    let e3 = or_assoc f.replied c r in
    let e4 = or_assoc f.flagged d s in
    cc

joined-same : (f : Flags) → {a b c d p q r s : Bool} → a ≡ p → b ≡ q → c ≡ r → d ≡ s
    → joined f a b c d ≡ joined f p q r s
joined-same f {a} {b} {c} {d} {p} {q} {r} {s} e1 e2 e3 e4 =
    ap (λ x. joined f x b c d) e1 ∙ ap (λ x. joined f p x c d) e2 ∙ ap (λ x. joined f p q x d) e3
    ∙ ap (λ x. joined f p q r x) e4

-- where lines hold a letter by one line more
abbrev pub GoOn : Bool → Bool → List ℕ → List ℕ → List ℕ → List (List ℕ) → Type 0
GoOn before is name line text lines =
    (letter : ℕ) → IsInk letter → (is && has letter text) || lines_hold is name letter lines
    ≡ lines_hold before name letter (line ∷ lines)

-- what is told with one line more
pub told_by-line : (t u : Told) (field : StatusField) (line text : List ℕ) (lines : List (List ℕ))
    → u.field ≡ field
    → u.flags ≡ record t.flags {
      seen = t.flags.seen || (is_status field && has 82 text);
      aged = t.flags.aged || (is_status field && has 79 text);
      replied = t.flags.replied || (is_x_status field && has 65 text);
      flagged = t.flags.flagged || (is_x_status field && has 70 text);
    }
    → GoOn (is_status t.field) (is_status field) (codes "Status") line text lines
    → GoOn (is_x_status t.field) (is_x_status field) (codes "X-Status") line text lines
    → told_by u lines ≡ told_by t (line ∷ lines)
unfolding joined
told_by-line t u field line text lines same flags status x_status =
    let e82 = status 82 (record { no_space = refl; no_tab = refl; no_cr = refl; no_feed = refl }) in
    let e79 = status 79 (record { no_space = refl; no_tab = refl; no_cr = refl; no_feed = refl }) in
    let e65 =
    x_status 65 (record { no_space = refl; no_tab = refl; no_cr = refl; no_feed = refl }) in
    let e70 =
    x_status 70 (record { no_space = refl; no_tab = refl; no_cr = refl; no_feed = refl }) in
    ap (λ (f : StatusField). told_by (record { field = f; flags = u.flags }) lines) same
    ∙ ap (λ (f : Flags). told_by (record { field = field; flags = f }) lines) flags
    ∙ joined-joined t.flags (is_status field && has 82 text) (is_status field && has 79 text)
    (is_x_status field && has 65 text) (is_x_status field && has 70 text) _ _ _ _
    ∙ joined-same t.flags e82 e79 e65 e70

pub GoOn-field : (name line text : List ℕ) (k : ℕ) (lines : List (List ℕ)) (before is : Bool)
    → colon_of line ≡ Some k
    → text ≡ drop (k + 1) line → is ≡ str_eq_ignore_ascii_case (take k line) name
    → GoOn before is name line text lines
GoOn-field name line text k lines before is e t named =
    λ letter ink. lines_hold-field letter ink name line text k lines before is e t named

pub GoOn-continued : (name line : List ℕ) (lines : List (List ℕ)) (continued : Bool)
    → colon_of line ≡ None
    → is_continuation line ≡ true → GoOn continued continued name line line lines
GoOn-continued name line lines continued e c =
    λ letter ink. lines_hold-continued letter name line lines continued e c

-- Lines that begin no status field.

-- no status field begins with another byte
other_name : (b : ℕ) → (b == 83 || b == 115 || b == 88 || b == 120) ≡ false
    → ((to_ascii_lowercase b == 115) ≡ false) × ((to_ascii_lowercase b == 120) ≡ false)
other_name b other = (grind (arith, nat_tests), grind (arith, nat_tests))

pub NotNamed : List ℕ → List ℕ → Type 0
NotNamed name line = (k : ℕ) → str_eq_ignore_ascii_case (take k line) name ≡ false

not_status : (line : List ℕ) → starts_status line ≡ false → NotNamed (codes "Status") line
unfolding NotNamed
not_status [] other zero = refl
not_status [] other (suc k) = refl
not_status (b ∷ rest) other zero = refl
not_status (b ∷ rest) other (suc k) =
    ap (λ t. t && bytes_eq (str_to_ascii_lowercase (take k rest)) (codes "tatus"))
    (other_name b other).0

not_x_status : (line : List ℕ) → starts_status line ≡ false → NotNamed (codes "X-Status") line
unfolding NotNamed
not_x_status [] other zero = refl
not_x_status [] other (suc k) = refl
not_x_status (b ∷ rest) other zero = refl
not_x_status (b ∷ rest) other (suc k) =
    ap (λ t. t && bytes_eq (str_to_ascii_lowercase (take k rest)) (codes "-status"))
    (other_name b other).1

holds-passed : (letter : ℕ) (name line : List ℕ) (lines : List (List ℕ)) → NotNamed name line
    → holds name letter (fields_of lines) ≡ holds name letter (fields_of (line ∷ lines))
unfolding NotNamed
holds-passed letter name line lines other = by_colon (colon_of line) refl
  where
    by_colon : (o : Option ℕ) → colon_of line ≡ o
        → holds name letter (fields_of lines) ≡ holds name letter (fields_of (line ∷ lines))
    by_colon None e = ap (holds name letter) (sym (fields_of-more line lines e))
    by_colon (Some k) e =
        sym (ap (holds name letter) (fields_of-field line k lines e)
        ∙ ap (λ t. (t && has letter (unfolded line (continuations lines)))
        || holds name letter (fields_of lines))
        (other k))

lines_hold-passed : (letter : ℕ) (name line : List ℕ) (lines : List (List ℕ)) (continued : Bool)
    → continued ≡ false
    → NotNamed name line
    → lines_hold continued name letter lines ≡ lines_hold continued name letter (line ∷ lines)
lines_hold-passed letter name line lines continued ends other =
    ap (λ c. lines_hold c name letter lines) ends ∙ holds-passed letter name line lines other
    ∙ ap (λ c. lines_hold c name letter (line ∷ lines)) (sym ends)

-- what is told past a line that begins and continues no status field
pub told_by-passed : (t : Told) (line : List ℕ) (lines : List (List ℕ)) → drops t ≡ false
    → starts_status line ≡ false
    → told_by t lines ≡ told_by t (line ∷ lines)
unfolding joined
told_by-passed t line lines ends other =
    let status : is_status t.field ≡ false = or_left _ _ ends in
    let x_status : is_x_status t.field ≡ false = or_right _ _ ends in
    let first =
    λ (letter : ℕ). lines_hold-passed letter (codes "Status") line lines (is_status t.field)
    status
    (not_status line other) in
    let second =
    λ (letter : ℕ). lines_hold-passed letter (codes "X-Status") line lines (is_x_status t.field)
    x_status
    (not_x_status line other) in
    joined-same t.flags (first 82) (first 79) (second 65) (second 70)

-- and it stays
pub without_status-passed : (dropped : Bool) (line : List ℕ) (lines : List (List ℕ))
    → dropped ≡ false
    → starts_status line ≡ false
    → without_status dropped (line ∷ lines) ≡ line ∷ without_status dropped lines
unfolding NotNamed
without_status-passed dropped line lines ends other =
    ap (λ d. without_status d (line ∷ lines)) ends ∙ by_colon (colon_of line) refl
    ∙ ap (λ d. line ∷ without_status d lines) (sym ends)
  where
    by_colon : (o : Option ℕ) → colon_of line ≡ o
        → without_status false (line ∷ lines) ≡ line ∷ without_status false lines
    by_colon None e =
        ap (λ (o : Option ℕ). if is_some o
        then (if is_status_name (take (unwrap_or o 0) line) then without_status true lines
        else line ∷ without_status false lines)
        else (if is_continuation line && false then without_status false lines
        else line ∷ without_status false lines)) e
        ∙ ap (λ t. if t then without_status false lines else line ∷ without_status false lines)
        (and_false (is_continuation line))
    by_colon (Some k) e =
        ap (λ (o : Option ℕ). if is_some o
        then (if is_status_name (take (unwrap_or o 0) line) then without_status true lines
        else line ∷ without_status false lines)
        else (if is_continuation line && false then without_status false lines
        else line ∷ without_status false lines)) e
        ∙ ap (λ t. if t || str_eq_ignore_ascii_case (take k line) (codes "X-Status")
        then without_status true lines
        else line ∷ without_status false lines) (not_status line other k)
        ∙ ap (λ t. if t then without_status true lines else line ∷ without_status false lines)
        (not_x_status line other k)
