-- Lines cut at one of those among them that begin with two dashes.
use Rattle.std.proofs.Common.{◌≡◌, ℕ, ◌+◌, ◌-◌, ◌≤◌, Bool, true, false, ◌||◌, List, [], ◌∷◌, ◌++◌}
use Rattle.std.proofs.Common.{length, take, drop, Option, Some, None, refl, sym, ap, ◌∙◌, arith}
use Rattle.std.proofs.Common.{length-append, append_assoc, length-drop, cond, not, nat_lt, map}
use Rattle.std.proofs.Common.{position}
use Rattle.std.specs.List.{concat, list_any, position_or_len}
use Rattle.std.proofs.Math.Seq.{take-append_seam}
use Rattle.std.proofs.lemmas.List.{append-nil, length-map}
use Rattle.std.proofs.lemmas.List.Folds.{concat-append}
use Rattle.bstr.specs.Text.{lines_of, without_terminator}
use Rattle.bstr.proofs.lemmas.RestLemmas.{concat-lines_of}
use Rattle.mail_base.specs.Fronts.{◌>>=◌, behind_text}
use Rattle.mail_base.specs.Lines.{behind_first, behind_line, first_line}
use Rattle.mail_base.proofs.LinesLemmas.{back_lines, back_whole, front_lines}
use Rattle.mime_tree.specs.declared.delimiter.LineKind.{LineKind}
use Rattle.mime_tree.specs.declared.delimiter.LineKind.TheVariants.{Text, Delimiter, Closing}
use Rattle.mime_tree.specs.Delimiter.{is_delimiter, kind_behind, kind_of}
use Rattle.mime_tree.specs.Section.{PlainSection, section_at, section_text, sections, sections_with}
use Rattle.mime_tree.specs.DashLines.{DashLine, behind_dashes, dash_kind, dash_lines}
use Rattle.mime_tree.specs.DashLines.{dash_lines_with, dash_starts, delimits, delimits_at}
use Rattle.mime_tree.proofs.LineEndLemmas.{dash_lines_without}

-- lines at a place, split at one that begins with two dashes
pub record Split (at : ℕ) (lines : List (List ℕ)) (before : List DashLine) (found : DashLine)
    (after : List DashLine)
    : Type 0 where
  pub front : List (List ℕ)
  pub line : List ℕ
  pub back : List (List ℕ)
  pub whole : lines ≡ front ++ line ∷ back
  pub before_is : dash_lines at front ≡ before
  pub place : found.start ≡ at + length (concat front)
  pub text : behind_dashes line ≡ Some found.text
  pub after_is : dash_lines (found.start + length line) back ≡ after

abbrev dash_at : ℕ → List ℕ → DashLine
dash_at at text = record { start = at; text = text }

same_parts : (x y : DashLine) (xs ys : List DashLine) → x ∷ xs ≡ y ∷ ys → (x ≡ y) × (xs ≡ ys)
same_parts x y xs ys e = ((cc), (cc))

split_next : (at : ℕ) (line : List ℕ) (lines : List (List ℕ)) (o : Option (List ℕ))
    (before : List DashLine)
    (found : DashLine) (after : List DashLine)
    → behind_dashes line ≡ o
    → ((less : List DashLine) → dash_lines (at + length line) lines ≡ less ++ found ∷ after
    → Split (at + length line) lines less found after)
    → dash_lines_with at o (dash_lines (at + length line) lines) ≡ before ++ found ∷ after
    → Split at (line ∷ lines) before found after
split_next at line lines None before found after o more e =
    let s = more before e in record {
      front = line ∷ s.front;
      line = s.line;
      back = s.back;
      whole = ap (λ ls. line ∷ ls) s.whole;
      before_is =
          ap (λ t. dash_lines_with at t (dash_lines (at + length line) s.front)) o ∙ s.before_is;
      place = omega (arith, s.place, length-append line (concat s.front));
      text = s.text;
      after_is = s.after_is;
    }
split_next at line lines (Some text) [] found after o more e =
    let same = same_parts (dash_at at text) found (dash_lines (at + length line) lines) after e in
    let start : at ≡ found.start = ap (λ d. d.start) same.0 in
    record {
      front = [];
      line = line;
      back = lines;
      whole = refl;
      before_is = refl;
      place = omega (arith, start);
      text = o ∙ ap (λ d. Some d.text) same.0;
      after_is = ap (λ n. dash_lines (n + length line) lines) (sym start) ∙ same.1;
    }
split_next at line lines (Some text) (d ∷ before) found after o more e =
    let same =
    same_parts (dash_at at text) d (dash_lines (at + length line) lines)
    (before ++ found ∷ after) e in
    let s = more before same.1 in record {
      front = line ∷ s.front;
      line = s.line;
      back = s.back;
      whole = ap (λ ls. line ∷ ls) s.whole;
      before_is = ap (λ t. dash_lines_with at t (dash_lines (at + length line) s.front)) o
          ∙ ap (λ ds. dash_at at text ∷ ds) s.before_is
          ∙ ap (λ x. x ∷ before) same.0;
      place = omega (arith, s.place, length-append line (concat s.front));
      text = s.text;
      after_is = s.after_is;
    }

pub split_lines : (at : ℕ) (lines : List (List ℕ)) (before : List DashLine) (found : DashLine)
    (after : List DashLine)
    → dash_lines at lines ≡ before ++ found ∷ after → Split at lines before found after
split_lines at [] [] found after e = absurd (cc)
split_lines at [] (d ∷ before) found after e = absurd (cc)
split_lines at (line ∷ lines) before found after e =
    split_next at line lines (behind_dashes line) before found after refl
    (λ less. split_lines (at + length line) lines less found after)
    e

any_next : (boundary : List ℕ) (at : ℕ) (o : Option (List ℕ)) (t : Bool) (more : List DashLine)
    → t ≡ list_any (delimits boundary) more
    → (is_delimiter (kind_behind (o >>= behind_text boundary)) || t)
    ≡ list_any (delimits boundary) (dash_lines_with at o more)
any_next boundary at None t more e = e
any_next boundary at (Some text) t more e = ap (λ x. is_delimiter (dash_kind boundary text) || x) e

-- a delimiter line begins with two dashes
pub any_delimiter : (boundary : List ℕ) (at : ℕ) (lines : List (List ℕ))
    → list_any (λ line. is_delimiter (kind_of boundary line)) lines
    ≡ list_any (delimits boundary) (dash_lines at lines)
any_delimiter boundary at [] = refl
any_delimiter boundary at (line ∷ lines) =
    any_next boundary at (behind_dashes line) _ (dash_lines (at + length line) lines)
    (any_delimiter boundary (at + length line) lines)

-- the line of a text that starts behind others
delimits_here : (boundary text : List ℕ) (front : List (List ℕ)) (line : List ℕ)
    (lines : List (List ℕ))
    → lines_of text ≡ front ++ line ∷ lines → (o : Option (List ℕ)) → behind_dashes line ≡ o
    → delimits_at boundary text (length (concat front))
    ≡ is_delimiter (kind_behind (o >>= behind_text boundary))
delimits_here boundary text front line lines whole o e =
    ap (λ ls. is_delimiter (kind_of boundary (first_line ls)))
    (back_lines text front (line ∷ lines) whole)
    ∙ ap (λ p. is_delimiter (kind_behind (p >>= behind_text boundary))) e

starts_same : (boundary text : List ℕ) (start at : ℕ) (front lines : List (List ℕ))
    → lines_of text ≡ front ++ lines
    → at ≡ start + length (concat front)
    → position_or_len (λ place. delimits_at boundary text (place - start)) (dash_starts at lines)
    ≡ position_or_len (delimits boundary) (dash_lines at lines)
starts_same boundary text start at front [] whole is = refl
starts_same boundary text start at front (line ∷ lines) whole is =
    by_line (behind_dashes line) refl
    (starts_same boundary text start (at + length line) (front ++ line ∷ []) lines
    (whole ∙ sym (append_assoc front (line ∷ []) lines))
    (omega (
      arith,
      is,
      ap length (concat-append front (line ∷ [])),
      length-append (concat front) (line ++ []),
      length-append line [],
    )))
  where
    by_line : (o : Option (List ℕ)) → behind_dashes line ≡ o
        → position_or_len (λ place. delimits_at boundary text (place - start))
        (dash_starts (at + length line) lines)
        ≡ position_or_len (delimits boundary) (dash_lines (at + length line) lines)
        → position_or_len (λ place. delimits_at boundary text (place - start))
        (map (λ d. d.start) (dash_lines_with at o (dash_lines (at + length line) lines)))
        ≡ position_or_len (delimits boundary)
        (dash_lines_with at o (dash_lines (at + length line) lines))
    by_line None e more = more
    by_line (Some found) e more =
        let place : at - start ≡ length (concat front) = omega (arith, is) in
        let here : delimits_at boundary text (at - start)
        ≡ is_delimiter (dash_kind boundary found) =
        ap (delimits_at boundary text) place
        ∙ delimits_here boundary text front line lines whole (Some found) e in
        ap (λ t. cond (not t)
        (1 + position_or_len (λ place. delimits_at boundary text (place - start))
        (dash_starts (at + length line) lines)) 0) here
        ∙ ap (λ n. cond (not (is_delimiter (dash_kind boundary found))) (1 + n) 0) more

-- the places show which of the lines is the first delimiter line
pub position-starts : (boundary text : List ℕ) (start : ℕ)
    → position (λ place. delimits_at boundary text (place - start))
    (dash_starts start (lines_of text))
    ≡ position (delimits boundary) (dash_lines start (lines_of text))
position-starts boundary text start =
    let all = dash_lines start (lines_of text) in
    let same : start ≡ start + length (concat []) = omega arith in
    ap (λ n. cond (nat_lt n (length (dash_starts start (lines_of text)))) (Some n) None)
    (starts_same boundary text start start [] (lines_of text) refl same)
    ∙ ap (λ n. cond (nat_lt (position_or_len (delimits boundary) all) n)
    (Some (position_or_len (delimits boundary) all)) None) (length-map all (λ d. d.start))

-- no line is a delimiter line
abbrev pub HasNone : List ℕ → List (List ℕ) → Type 0
HasNone boundary lines = list_any (λ line. is_delimiter (kind_of boundary line)) lines ≡ false

neither : (a b : Bool) → (a || b) ≡ false → (a ≡ false) × (b ≡ false)
neither true b h = absurd (cc)
neither false b h = (refl, h)

none_first : (boundary line : List ℕ) (lines : List (List ℕ)) → HasNone boundary (line ∷ lines)
    → (is_delimiter (kind_of boundary line) ≡ false) × HasNone boundary lines
none_first boundary line lines none = neither _ _ none

text_line : (boundary front line : List ℕ) (lines : List (List ℕ))
    → is_delimiter (kind_of boundary line) ≡ false
    → section_text boundary front (line ∷ lines) ≡ section_text boundary (front ++ line) lines
text_line boundary front line lines h = rw h refl

text_end : (boundary front line : List ℕ) (lines : List (List ℕ))
    → is_delimiter (kind_of boundary line) ≡ true
    → section_text boundary front (line ∷ lines) ≡ without_terminator front
text_end boundary front line lines h = rw h refl

-- a part ends before the first delimiter line
pub text_before : (boundary front : List ℕ) (lines : List (List ℕ)) (line : List ℕ)
    (back : List (List ℕ))
    → HasNone boundary lines → is_delimiter (kind_of boundary line) ≡ true
    → section_text boundary front (lines ++ line ∷ back)
    ≡ without_terminator (front ++ concat lines)
text_before boundary front [] line back none ends =
    text_end boundary front line back ends ∙ ap without_terminator (sym (append-nil front))
text_before boundary front (l ∷ lines) line back none ends =
    let both = none_first boundary l lines none in
    text_line boundary front l (lines ++ line ∷ back) both.0
    ∙ text_before boundary (front ++ l) lines line back both.1 ends
    ∙ ap without_terminator (append_assoc front l (concat lines))

-- or at the end
pub text_whole : (boundary front : List ℕ) (lines : List (List ℕ)) → HasNone boundary lines
    → section_text boundary front lines ≡ front ++ concat lines
text_whole boundary front [] none = sym (append-nil front)
text_whole boundary front (l ∷ lines) none =
    let both = none_first boundary l lines none in
    text_line boundary front l lines both.0
    ∙ text_whole boundary (front ++ l) lines both.1
    ∙ append_assoc front l (concat lines)

skip_text : (kind : LineKind) (first : PlainSection) (more : List PlainSection)
    → is_delimiter kind ≡ false
    → sections_with kind first more ≡ more
skip_text Text first more h = refl
skip_text Delimiter first more h = absurd (cc)
skip_text Closing first more h = absurd (cc)

-- no part begins in lines of which none is a delimiter line
pub sections_from : (boundary : List ℕ) (in_digest : Bool) (at : ℕ) (lines more : List (List ℕ))
    → HasNone boundary lines
    → sections boundary in_digest at (lines ++ more)
    ≡ sections boundary in_digest (at + length (concat lines)) more
sections_from boundary in_digest at [] more none =
    let same : at ≡ at + 0 = omega arith in
    ap (λ n. sections boundary in_digest n more) same
sections_from boundary in_digest at (l ∷ lines) more none =
    let both = none_first boundary l lines none in
    let same : at + length l + length (concat lines) ≡ at + length (concat (l ∷ lines)) =
    omega (arith, length-append l (concat lines)) in
    skip_text (kind_of boundary l) _ _ both.0
    ∙ sections_from boundary in_digest (at + length l) lines more both.1
    ∙ ap (λ n. sections boundary in_digest n more) same

pub sections_none : (boundary : List ℕ) (in_digest : Bool) (at : ℕ) (lines : List (List ℕ))
    → HasNone boundary lines
    → sections boundary in_digest at lines ≡ []
sections_none boundary in_digest at lines none =
    ap (sections boundary in_digest at) (sym (append-nil lines))
    ∙ sections_from boundary in_digest at lines [] none

-- what a section is cut to at one of its lines that begin with two dashes
module _ (s : PlainSection) (before : List DashLine) (found : DashLine) (after : List DashLine)
    (marked : dash_lines s.start (lines_of s.text) ≡ before ++ found ∷ after) where
  abbrev pub size : ℕ
  size = found.start - s.start

  abbrev pub tail : List ℕ
  tail = behind_line (drop size s.text)

  abbrev pub next : ℕ
  next = found.start + (length (drop size s.text) - length tail)

  cut : Split s.start (lines_of s.text) before found after
  cut = split_lines s.start (lines_of s.text) before found after marked

  size_is : size ≡ length (concat cut.front)
  size_is = omega (arith, cut.place)

  pub low : s.start ≤ found.start
  low = omega (arith, cut.place)

  whole_is : s.text ≡ concat cut.front ++ concat (cut.line ∷ cut.back)
  whole_is =
      sym (concat-lines_of s.text) ∙ ap concat cut.whole
      ∙ concat-append cut.front (cut.line ∷ cut.back)

  pub high : size ≤ length s.text
  high =
      omega (
        arith,
        size_is,
        ap length whole_is,
        length-append (concat cut.front)
            (concat (cut.line ∷ cut.back)),
      )

  front_is : take size s.text ≡ concat cut.front
  front_is =
      ap (λ n. take n s.text) size_is
      ∙ ap (take (length (concat cut.front))) whole_is
      ∙ take-append_seam (concat cut.front) (concat (cut.line ∷ cut.back))

  behind_is : lines_of (drop size s.text) ≡ cut.line ∷ cut.back
  behind_is =
      ap (λ n. lines_of (drop n s.text)) size_is
      ∙ back_lines s.text cut.front (cut.line ∷ cut.back) cut.whole

  tail_is : tail ≡ concat cut.back
  tail_is = ap (λ l. concat (behind_first l)) behind_is

  line_on : drop size s.text ≡ cut.line ++ tail
  line_on =
      sym (concat-lines_of (drop size s.text)) ∙ ap concat behind_is
      ∙ ap (λ t. cut.line ++ t) (sym tail_is)

  tail_lines : lines_of tail ≡ cut.back
  tail_lines =
      ap lines_of tail_is ∙ back_whole (drop size s.text) (cut.line ∷ []) cut.back behind_is

  next_is : next ≡ found.start + length cut.line
  next_is = omega (arith, ap length line_on, length-append cut.line tail)

  pub next_fits : next + length tail ≡ s.start + length s.text
  next_fits =
      omega (
        arith,
        next_is,
        low,
        high,
        ap length line_on,
        length-append cut.line tail,
        length-drop size
            s.text,
      )

  pub front_marked : before ≡ dash_lines s.start (lines_of (without_terminator (take size s.text)))
  front_marked =
      sym cut.before_is
      ∙ ap (dash_lines s.start) (sym (front_lines s.text cut.front cut.line cut.back cut.whole))
      ∙ ap (λ t. dash_lines s.start (lines_of t)) (sym front_is)
      ∙ sym (dash_lines_without s.start (take size s.text))

  pub rest_marked : after ≡ dash_lines next (lines_of tail)
  rest_marked =
      sym cut.after_is
      ∙ ap (λ n. dash_lines n cut.back) (sym next_is)
      ∙ ap (dash_lines next) (sym tail_lines)

  kind_is : (boundary : List ℕ) → kind_of boundary cut.line ≡ dash_kind boundary found.text
  kind_is boundary = ap (λ o. kind_behind (o >>= behind_text boundary)) cut.text

  pub kind_on : (boundary : List ℕ)
      → kind_of boundary (first_line (lines_of (drop size s.text))) ≡ dash_kind boundary found.text
  kind_on boundary = ap (λ ls. kind_of boundary (first_line ls)) behind_is ∙ kind_is boundary

  front_none : (boundary : List ℕ) → list_any (delimits boundary) before ≡ false
      → HasNone boundary cut.front
  front_none boundary none =
      any_delimiter boundary s.start cut.front ∙ ap (list_any (delimits boundary)) cut.before_is
      ∙ none

  pub front_text : (boundary : List ℕ) → list_any (delimits boundary) before ≡ false
      → delimits boundary found ≡ true
      → section_text boundary [] (lines_of s.text) ≡ without_terminator (take size s.text)
  front_text boundary none ends =
      ap (section_text boundary []) cut.whole
      ∙ text_before boundary [] cut.front cut.line cut.back (front_none boundary none)
      (ap is_delimiter (kind_is boundary) ∙ ends)
      ∙ ap without_terminator (sym front_is)

  pub rest_sections : (boundary : List ℕ) (in_digest : Bool)
      → list_any (delimits boundary) before ≡ false
      → sections boundary in_digest s.start (lines_of s.text)
      ≡ sections_with (dash_kind boundary found.text)
      (section_at boundary in_digest next (lines_of tail))
      (sections boundary in_digest next (lines_of tail))
  rest_sections boundary in_digest none =
      ap (sections boundary in_digest s.start) cut.whole
      ∙ sections_from boundary in_digest s.start cut.front (cut.line ∷ cut.back)
      (front_none boundary none)
      ∙ ap (λ n. sections boundary in_digest n (cut.line ∷ cut.back)) (sym cut.place)
      ∙ ap (λ n. sections_with (kind_of boundary cut.line)
      (section_at boundary in_digest n cut.back)
      (sections boundary in_digest n cut.back)) (sym next_is)
      ∙ ap (λ l. sections_with (kind_of boundary cut.line) (section_at boundary in_digest next l)
      (sections boundary in_digest next l)) (sym tail_lines)
      ∙ ap (λ k. sections_with k (section_at boundary in_digest next (lines_of tail))
      (sections boundary in_digest next (lines_of tail))) (kind_is boundary)
