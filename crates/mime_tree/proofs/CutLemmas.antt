-- A section cut at its first delimiter line, which is the one of a place among those of its lines
-- that begin with two dashes.
use Rattle.std.proofs.Common.{◌≡◌, ℕ, zero, suc, ◌+◌, ◌-◌, ◌<◌, ◌≤◌, ◌==◌, Bool, true, false, ◌&&◌}
use Rattle.std.proofs.Common.{List, [], ◌∷◌, ◌++◌, length, take, drop, map, get_or, slice_index}
use Rattle.std.proofs.Common.{Option, Some, None, nat_lt, refl, sym, ap, ◌∙◌, arith}
use Rattle.std.proofs.Common.{take-append-drop, drop-cons, add-one, length-drop, get_or-take}
use Rattle.std.proofs.Common.{position}
use Rattle.std.specs.Prelude.{is_some, if◌then◌else◌}
use Rattle.std.proofs.Common.{append_assoc, codes, cond}
use Rattle.std.specs.List.{concat, list_any}
use Rattle.std.proofs.Common.{⊎_elim, min}
use Rattle.std.proofs.lemmas.Bool.{cases_lt, false_from_ne_true}
use Rattle.std.proofs.lemmas.Bool.Decides.{nat_tests}
use Rattle.std.proofs.lemmas.List.{append-nil, get_or-map, drop_all, get_or_default, length-map}
use Rattle.std.proofs.lemmas.List.{length-take, take_all}
use Rattle.std.proofs.lemmas.List.Folds.{list_any_at, list_any_none}
use Rattle.std.proofs.lemmas.List.Quantifiers.{position-Some}
use Rattle.std.proofs.lemmas.List.Sums.{fails_before_first}
use Rattle.bstr.specs.Text.{lines_of, no_cr, without_terminator}
use Rattle.bstr.proofs.lemmas.RestLemmas.{concat-lines_of}
use Rattle.mail_base.specs.Fronts.{◌>>=◌, behind_text}
use Rattle.mail_base.specs.Lines.{behind_first, behind_line, first_line}
use Rattle.mail_base.proofs.FrontsLemmas.{behind_text-append}
use Rattle.mail_base.proofs.PlacesLemmas.{place_none}
use Rattle.mime_tree.specs.declared.delimiter.LineKind.{LineKind}
use Rattle.mime_tree.specs.declared.delimiter.LineKind.TheVariants.{Text, Delimiter, Closing}
use Rattle.mime_tree.specs.Delimiter.{is_closing, is_cut, is_delimiter, kind_behind, kind_of}
use Rattle.mime_tree.specs.Section.{PlainSection, section_at, section_text, sections, sections_with}
use Rattle.mime_tree.specs.DashLines.{DashLine, dash_kind, dash_lines, dash_starts, delimits}
use Rattle.mime_tree.specs.DashLines.{delimits_at, may_delimit}
use Rattle.mime_tree.proofs.DashLinesLemmas as dashes
use Rattle.mime_tree.proofs.SectionLemmas.{take_short, without_terminator_short}

-- the first of a list, where there is none
abbrev none_there : DashLine
none_there = record { start = 0; text = [] }

map-take : {X Y : Type 0} (f : X → Y) (k : ℕ) (xs : List X) → map f (take k xs) ≡ take k (map f xs)
map-take f zero xs = refl
map-take f (suc k) [] = refl
map-take f (suc k) (x ∷ xs) = ap (λ l. f x ∷ l) (map-take f k xs)

map-drop : {X Y : Type 0} (f : X → Y) (k : ℕ) (xs : List X) → map f (drop k xs) ≡ drop k (map f xs)
map-drop f zero xs = refl
map-drop f (suc k) [] = refl
map-drop f (suc k) (x ∷ xs) = map-drop f k xs

-- lines of which none is a delimiter line
none_delimits : (boundary : List ℕ) (lines : List DashLine)
    → position (delimits boundary) lines ≡ None
    → list_any (delimits boundary) lines ≡ false
none_delimits boundary lines e =
    let past = place_none (delimits boundary) lines e in
    list_any_none (delimits boundary) lines
    (λ k d less. fails_before_first (delimits boundary) lines k d (omega (arith, past, less)))

-- the pieces of a section that is cut at the line of a place
pub record IsCut (boundary : List ℕ) (s : PlainSection) (places : List ℕ) (k : ℕ)
    (front line_on tail : List ℕ)
    : Type 0 where
  pub marked : places ≡ dash_starts s.start (lines_of s.text)
  pub first : position (λ at. delimits_at boundary s.text (at - s.start)) places ≡ Some k
  pub front_is : front ≡ take (slice_index places k - s.start) s.text
  pub line_on_is : line_on ≡ drop (slice_index places k - s.start) s.text
  pub tail_is : tail ≡ behind_line line_on

by_closing : (kind : LineKind) (first : PlainSection) (more : List PlainSection)
    → is_delimiter kind ≡ true
    → sections_with kind first more ≡ (if is_closing kind then [] else first ∷ more)
by_closing Text first more e = absurd (cc)
by_closing Delimiter first more e = refl
by_closing Closing first more e = refl

-- the place of a delimiter line among the places
first_line_of : (boundary : List ℕ) (s : PlainSection) (places : List ℕ) (o : Option ℕ)
    → places ≡ dash_starts s.start (lines_of s.text)
    → position (λ at. delimits_at boundary s.text (at - s.start)) places ≡ o
    → position (delimits boundary) (dash_lines s.start (lines_of s.text)) ≡ o
first_line_of boundary s places o marked first =
    sym (dashes.position-starts boundary s.text s.start)
    ∙ ap (position (λ at. delimits_at boundary s.text (at - s.start))) (sym marked)
    ∙ first

module _ {boundary : List ℕ} {s : PlainSection} {places : List ℕ} {k : ℕ}
    {front line_on tail : List ℕ}
    (is : IsCut boundary s places k front line_on tail) where
  abbrev all : List DashLine
  all = dash_lines s.start (lines_of s.text)

  abbrev found : DashLine
  found = get_or all k none_there

  abbrev before : List DashLine
  before = take k all

  abbrev after : List DashLine
  after = drop (k + 1) all

  passes : (k < length all) × (delimits boundary found ≡ true) ×
      ((i : ℕ) → i < k → delimits boundary (get_or all i none_there) ≡ false)
  passes =
      position-Some (delimits boundary) all k none_there
      (first_line_of boundary s places (Some k) is.marked is.first)

  split : all ≡ before ++ found ∷ after
  split =
      sym (take-append-drop k all)
      ∙ ap (λ t. take k all ++ t) (drop-cons all k none_there passes.0)
      ∙ ap (λ n. take k all ++ found ∷ drop n all) (sym (add-one k))

  many : length places ≡ length all
  many = ap length is.marked ∙ length-map all (λ d. d.start)

  at_is : slice_index places k ≡ found.start
  at_is = ap (λ l. slice_index l k) is.marked
      ∙ get_or-map (λ d. d.start) all k none_there 0 passes.0

  abbrev pub next : ℕ
  next = slice_index places k + (length line_on - length tail)

  none : list_any (delimits boundary) before ≡ false
  none =
      list_any_none (delimits boundary) before
      (λ i d less.
      let size = length-take k all in
      let below : i < k = omega (arith, size, less) in
      let within : i < length all = omega (arith, below, passes.0) in
      ap (delimits boundary)
      (get_or-take k all i d below ∙ get_or_default all i d none_there within)
      ∙ passes.2 i below)

  front_same : front ≡ take (found.start - s.start) s.text
  front_same = is.front_is ∙ ap (λ n. take (n - s.start) s.text) at_is

  line_on_same : line_on ≡ drop (found.start - s.start) s.text
  line_on_same = is.line_on_is ∙ ap (λ n. drop (n - s.start) s.text) at_is

  tail_same : tail ≡ dashes.tail s before found after split
  tail_same = is.tail_is ∙ ap behind_line line_on_same

  next_same : next ≡ dashes.next s before found after split
  next_same =
      ap (λ n. n + (length line_on - length tail)) at_is
      ∙ ap (λ t. found.start + (length t - length tail)) line_on_same
      ∙ ap (λ t. found.start + (length (drop (found.start - s.start) s.text) - length t)) tail_same

  low : s.start ≤ slice_index places k
  low = omega (arith, at_is, dashes.low s before found after split)

  high : slice_index places k - s.start ≤ length s.text
  high = omega (arith, at_is, dashes.high s before found after split)

  pub front_marked : take k places ≡ dash_starts s.start (lines_of (without_terminator front))
  front_marked =
      ap (take k) is.marked
      ∙ sym (map-take (λ d. d.start) k all)
      ∙ ap (map (λ d. d.start)) (dashes.front_marked s before found after split)
      ∙ ap (λ t. dash_starts s.start (lines_of (without_terminator t))) (sym front_same)

  pub front_fits : s.start + length (without_terminator front) ≤ s.start + length s.text
  front_fits =
      omega (
        arith,
        without_terminator_short front,
        ap length front_same,
        take_short
            (found.start - s.start) s.text,
      )

  pub rest_marked : take (length places - (k + 1)) (drop (k + 1) places)
      ≡ dash_starts next (lines_of tail)
  rest_marked =
      take_all _ _ (omega (arith, length-drop (k + 1) places))
      ∙ ap (drop (k + 1)) is.marked
      ∙ sym (map-drop (λ d. d.start) (k + 1) all)
      ∙ ap (map (λ d. d.start)) (dashes.rest_marked s before found after split)
      ∙ ap (λ n. dash_starts n (lines_of (dashes.tail s before found after split))) (sym next_same)
      ∙ ap (λ t. dash_starts next (lines_of t)) (sym tail_same)

  pub rest_fits : next + length tail ≡ s.start + length s.text
  rest_fits =
      omega (arith, next_same, ap length tail_same, dashes.next_fits s before found after split)

  pub front_text : section_text boundary [] (lines_of s.text) ≡ without_terminator front
  front_text =
      dashes.front_text s before found after split boundary none passes.1
      ∙ ap without_terminator (sym front_same)

  pub rest_sections : (in_digest closes : Bool)
      → closes ≡ is_closing (kind_of boundary (first_line (lines_of line_on)))
      → sections boundary in_digest s.start (lines_of s.text)
      ≡ (if closes then []
      else section_at boundary in_digest next (lines_of tail)
      ∷ sections boundary in_digest next (lines_of tail))
  rest_sections in_digest closes e =
      dashes.rest_sections s before found after split boundary in_digest none
      ∙ by_closing (dash_kind boundary found.text) _ _ passes.1
      ∙ ap (λ t. if t then [] else behind start text) (sym closes_is)
      ∙ ap (λ n. if closes then [] else behind n text) (sym next_same)
      ∙ ap (λ t. if closes then [] else behind next t) (sym tail_same)
    where
      start : ℕ
      start = dashes.next s before found after split

      text : List ℕ
      text = dashes.tail s before found after split

      closes_is : closes ≡ is_closing (dash_kind boundary found.text)
      closes_is =
          e
          ∙ ap (λ t. is_closing (kind_of boundary (first_line (lines_of t)))) line_on_same
          ∙ ap is_closing (dashes.kind_on s before found after split boundary)

      behind : ℕ → List ℕ → List PlainSection
      behind at text =
          section_at boundary in_digest at (lines_of text)
          ∷ sections boundary in_digest at (lines_of text)

some_delimits : (boundary : List ℕ) (lines : List DashLine) (o : Option ℕ)
    → position (delimits boundary) lines ≡ o
    → is_some o ≡ list_any (delimits boundary) lines
some_delimits boundary lines None e = sym (none_delimits boundary lines e)
some_delimits boundary lines (Some k) e =
    let passes = position-Some (delimits boundary) lines k none_there e in
    sym (list_any_at (delimits boundary) lines k none_there passes.0 passes.1)

above_zero : (n : ℕ) → (n == 0) ≡ false → nat_lt 0 n ≡ true
above_zero zero h = absurd (cc)
above_zero (suc n) h = grind (arith, nat_tests)

-- the places show whether the boundary of a multipart occurs
pub delimits_is_cut : (boundary : List ℕ) (s : PlainSection) (places : List ℕ)
    → (length boundary == 0) ≡ false
    → places ≡ dash_starts s.start (lines_of s.text)
    → is_some (position (λ at. delimits_at boundary s.text (at - s.start)) places)
    ≡ is_cut boundary s.text
delimits_is_cut boundary s places some marked =
    let o = position (λ at. delimits_at boundary s.text (at - s.start)) places in
    some_delimits boundary (dash_lines s.start (lines_of s.text)) o
    (first_line_of boundary s places o marked refl)
    ∙ sym (dashes.any_delimiter boundary s.start (lines_of s.text))
    ∙ ap (λ t. t && list_any (λ line. is_delimiter (kind_of boundary line)) (lines_of s.text))
    (sym (above_zero (length boundary) some))

-- no line of a section is a delimiter line
pub none_in : (boundary : List ℕ) (s : PlainSection) (places : List ℕ)
    → places ≡ dash_starts s.start (lines_of s.text)
    → position (λ at. delimits_at boundary s.text (at - s.start)) places ≡ None
    → dashes.HasNone boundary (lines_of s.text)
none_in boundary s places marked none =
    dashes.any_delimiter boundary s.start (lines_of s.text)
    ∙ none_delimits boundary (dash_lines s.start (lines_of s.text))
    (first_line_of boundary s places None marked none)

-- the place of the first delimiter line is in the section
pub place_within : (boundary : List ℕ) (s : PlainSection) (places : List ℕ) (k : ℕ)
    → places ≡ dash_starts s.start (lines_of s.text)
    → position (λ at. delimits_at boundary s.text (at - s.start)) places ≡ Some k
    → (s.start ≤ slice_index places k) × (slice_index places k - s.start ≤ length s.text)
place_within boundary s places k marked first =
    let size = slice_index places k - s.start in
    let cut : IsCut boundary s places k (take size s.text) (drop size s.text)
    (behind_line (drop size s.text)) = record {
      marked = marked;
      first = first;
      front_is = refl;
      line_on_is = refl;
      tail_is = refl;
    } in
    (low cut, high cut)

-- behind the end of a text nothing stands
pub drop_min : (n : ℕ) (s : List ℕ) → drop (min n (length s)) s ≡ drop n s
drop_min n s = ⊎_elim
    (λ less. let same : min n (length s) ≡ n = omega arith in ap (λ k. drop k s) same)
    (λ past.
    let same : min n (length s) ≡ length s = omega arith in
    ap (λ k. drop k s) same ∙ drop_all (length s) s (omega arith) ∙ sym (drop_all n s past))
    (cases_lt n (length s))

-- a text without its line end stands at its front
no_cr_front : (s : List ℕ) → (end : List ℕ) × (s ≡ no_cr s ++ end)
no_cr_front s = by_cr (nat_lt 0 (length s) && slice_index s (length s - 1) == 13)
  where
    by_cr : (t : Bool) → (end : List ℕ) × (s ≡ cond t (take (length s - 1) s) s ++ end)
    by_cr true = (drop (length s - 1) s, sym (take-append-drop (length s - 1) s))
    by_cr false = ([], sym (append-nil s))

terminator_front : (s : List ℕ) → (end : List ℕ) × (s ≡ without_terminator s ++ end)
terminator_front s = by_feed (nat_lt 0 (length s) && slice_index s (length s - 1) == 10)
  where
    by_feed : (t : Bool) → (end : List ℕ) × (s ≡ cond t (no_cr (take (length s - 1) s)) s ++ end)
    by_feed true =
        let text = take (length s - 1) s in
        let rest = drop (length s - 1) s in
        let cut = no_cr_front text in (
          cut.0 ++ rest,
          sym (take-append-drop (length s - 1) s) ∙ ap (λ l. l ++ rest) cut.1
              ∙ append_assoc (no_cr text) cut.0 rest,
        )
    by_feed false = ([], sym (append-nil s))

first_of : (lines : List (List ℕ)) → concat lines ≡ first_line lines ++ concat (behind_first lines)
first_of [] = refl
first_of (line ∷ lines) = refl

-- the first line of a text, without its line end, stands at its front
line_front : (text : List ℕ)
    → (more : List ℕ) × (text ≡ without_terminator (first_line (lines_of text)) ++ more)
line_front text =
    let line = first_line (lines_of text) in
    let rest = concat (behind_first (lines_of text)) in
    let cut = terminator_front line in (
      cut.0 ++ rest,
      sym (concat-lines_of text) ∙ first_of (lines_of text) ∙ ap (λ l. l ++ rest) cut.1
          ∙ append_assoc (without_terminator line) cut.0 rest,
    )

starts_more : (boundary s more : List ℕ) (o : Option (List ℕ)) → behind_text (codes "--") s ≡ o
    → (p : Option (List ℕ)) → (o >>= behind_text boundary) ≡ p
    → is_some p ≡ true → may_delimit boundary (s ++ more) ≡ true
starts_more boundary s more None e p f some = absurd (cc)
starts_more boundary s more (Some tail) e None f some = absurd (cc)
starts_more boundary s more (Some tail) e (Some rest) f some =
    ap (λ o. is_some (o >>= behind_text boundary)) (behind_text-append (codes "--") s tail more e)
    ∙ ap is_some (behind_text-append boundary tail rest more f)

delimiter_some : (o : Option (List ℕ)) → is_delimiter (kind_behind o) ≡ true → is_some o ≡ true
delimiter_some None e = cc
delimiter_some (Some s) e = refl

-- a delimiter line begins with two dashes and the boundary
may_delimit-true : (boundary text : List ℕ) → delimits_at boundary text 0 ≡ true
    → may_delimit boundary text ≡ true
may_delimit-true boundary text e =
    let line = without_terminator (first_line (lines_of text)) in
    let front = line_front text in
    ap (may_delimit boundary) front.1
    ∙ starts_more boundary line front.0 (behind_text (codes "--") line) refl
    (behind_text (codes "--") line >>= behind_text boundary) refl
    (delimiter_some (behind_text (codes "--") line >>= behind_text boundary) e)

pub delimits_at-false : (boundary text : List ℕ) → may_delimit boundary text ≡ false
    → delimits_at boundary text 0 ≡ false
delimits_at-false boundary text none =
    false_from_ne_true (delimits_at boundary text 0)
    (λ e. let some = may_delimit-true boundary text e in cc)
