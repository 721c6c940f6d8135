-- No range that is read or made is upside down.
use Rattle.std.proofs.Common.{◌≡◌, ◌==◌, ℕ, Bool, true, false, nat_le, List, [], ◌∷◌, ◌++◌, map}
use Rattle.std.proofs.Common.{Option, Some, None, refl, sym, subst, ◌∙◌, arith, if◌then◌else◌}
use Rattle.std.proofs.Common.{codes, unwrap_or}
use Rattle.std.specs.List.{list_all}
use Rattle.std.specs.Str.{byte}
use Rattle.std.proofs.lemmas.Bool.{and_parts, and_from}
use Rattle.std.proofs.lemmas.Bool.Decides.{nat_tests}
use Rattle.std.proofs.lemmas.List.Folds.{list_all-append}
use Rattle.mail_base.specs.Blanks.{is_blank}
use Rattle.mail_base.specs.Fronts.{◌>>=◌}
use Rattle.mail_base.specs.Places.{split_once}
use Rattle.mh_sequences.specs.declared.range.Range.{Range}
use Rattle.mh_sequences.specs.Laws.{are_upright, has_upright, is_upright, StaysUpright}
use Rattle.folder_core.specs.MhNumbers.{number_of}
use Rattle.mh_sequences.specs.Ranges.{added_to, between, in_order, is_before, joined}
use Rattle.mh_sequences.specs.Ranges.{one, parts, range_by, range_of}
use Rattle.mh_sequences.specs.Ranges.{with_range, without}
use Rattle.mh_sequences.specs.SequenceLine.{PlainLine, Kept, Named, empty_line, has_name}
use Rattle.mh_sequences.specs.SequenceLine.{is_name, line_of, named_by}
use Rattle.mh_sequences.specs.SequenceLine.{named_line, ranges_from, with_word}
use Rattle.mh_sequences.specs.SequenceLine.{with_number as line_with}
use Rattle.mh_sequences.specs.SequenceLine.{without_number as line_without}
use Rattle.mh_sequences.specs.Sequences.{any_has_name, holds, line_without_member, lines_from, put}
use Rattle.mh_sequences.specs.Sequences.{with_member, with_name, without_member}
use Rattle.mh_sequences.proofs.HoldingLemmas.{joined_upright, one_upright}

abbrev pub all_upright : List Range → Bool
all_upright ranges = list_all is_upright ranges

with_upright : (new : Range) (ranges : List Range) → is_upright new ≡ true
    → all_upright ranges ≡ true
    → all_upright (with_range new ranges) ≡ true
with_upright new [] up all = and_from (is_upright new) true up refl
with_upright new (r ∷ ranges) up all =
    let both = and_parts (is_upright r) (all_upright ranges) all in
    by_place (is_before new r) (is_before r new) both.0 both.1
    (λ x up_x. with_upright x ranges up_x both.1)
  where
    by_place : (s t : Bool) → is_upright r ≡ true → all_upright ranges ≡ true
        → ((x : Range) → is_upright x ≡ true → all_upright (with_range x ranges) ≡ true)
        → all_upright (if s then new ∷ r ∷ ranges
        else (if t then r ∷ with_range new ranges else with_range (joined new r) ranges)) ≡ true
    by_place true t up_r up_all more = and_from (is_upright new) _ up
        (and_from (is_upright r) _ up_r up_all)
    by_place false true up_r up_all more = and_from (is_upright r) _ up_r (more new up)
    by_place false false up_r up_all more = more (joined new r) (joined_upright new r up up_r)

parts_upright : (n : ℕ) (r : Range) → is_upright r ≡ true → all_upright (parts n r) ≡ true
parts_upright n r up = grind (arith, nat_tests)

without_upright : (n : ℕ) (ranges : List Range) → all_upright ranges ≡ true
    → all_upright (without n ranges) ≡ true
without_upright n [] all = refl
without_upright n (r ∷ ranges) all =
    let both = and_parts (is_upright r) (all_upright ranges) all in
    list_all-append is_upright (parts n r) (without n ranges)
    ∙ and_from (all_upright (parts n r)) _ (parts_upright n r both.0)
    (without_upright n ranges both.1)

-- ranges in order are upright where all were
pub ordered_upright : (ranges : List Range) → all_upright ranges ≡ true
    → all_upright (added_to [] ranges) ≡ true
ordered_upright [] all = refl
ordered_upright (r ∷ ranges) all =
    let both = and_parts (is_upright r) (all_upright ranges) all in
    with_upright r (added_to [] ranges) both.0 (ordered_upright ranges both.1)

-- the range, if there is one, is upright
abbrev pub upright_or_none : Option Range → Bool
upright_or_none None = true
upright_or_none (Some r) = is_upright r

between_upright : (first last : ℕ) → upright_or_none (between first last) ≡ true
between_upright first last = by_test (nat_le first last) refl
  where
    by_test : (t : Bool) → nat_le first last ≡ t
        → upright_or_none (if t then Some (record { first = first; last = last }) else None) ≡ true
    by_test true e = e
    by_test false e = refl

read_between : (a b : Option ℕ)
    → upright_or_none (a >>= λ first. b >>= λ last. between first last) ≡ true
read_between None b = refl
read_between (Some first) None = refl
read_between (Some first) (Some last) = between_upright first last

read_one : (a : Option ℕ) → upright_or_none (a >>= λ n. Some (one n)) ≡ true
read_one None = refl
read_one (Some n) = one_upright n

range_upright : (word : List ℕ) (o : Option (List ℕ × List ℕ))
    → upright_or_none (range_by word o) ≡ true
range_upright word None = read_one (number_of word)
range_upright word (Some p) = read_between (number_of p.0) (number_of p.1)

-- the ranges, if there are such, are upright
abbrev pub uprights_or_none : Option (List Range) → Bool
uprights_or_none None = true
uprights_or_none (Some ranges) = all_upright ranges

pushed_upright : (ranges : List Range) (o : Option Range) → all_upright ranges ≡ true
    → upright_or_none o ≡ true → uprights_or_none (o >>= λ r. Some (ranges ++ r ∷ [])) ≡ true
pushed_upright ranges None all up = refl
pushed_upright ranges (Some r) all up =
    list_all-append is_upright ranges (r ∷ [])
    ∙ and_from (all_upright ranges) _ all (and_from (is_upright r) true up refl)

word_upright : (ranges : List Range) (word : List ℕ) → all_upright ranges ≡ true
    → uprights_or_none (with_word ranges word) ≡ true
word_upright ranges [] all = all
word_upright ranges (b ∷ word) all =
    pushed_upright ranges (range_of (b ∷ word)) all
    (range_upright (b ∷ word) (split_once (byte "-") (b ∷ word)))

read_upright : (ranges : List Range) (word text : List ℕ) → all_upright ranges ≡ true
    → uprights_or_none (ranges_from ranges word text) ≡ true
read_upright ranges word [] all = word_upright ranges word all
read_upright ranges word (b ∷ rest) all =
    by_blank (is_blank b) (with_word ranges word) (word_upright ranges word all)
    (λ more all_more. read_upright more [] rest all_more)
    (read_upright ranges (word ++ b ∷ []) rest all)
  where
    by_blank : (t : Bool) (o : Option (List Range)) → uprights_or_none o ≡ true
        → ((more : List Range) → all_upright more ≡ true
        → uprights_or_none (ranges_from more [] rest) ≡ true)
        → uprights_or_none (ranges_from ranges (word ++ b ∷ []) rest) ≡ true
        → uprights_or_none (if t then o >>= (λ more. ranges_from more [] rest)
        else ranges_from ranges (word ++ b ∷ []) rest) ≡ true
    by_blank true None up more else_up = refl
    by_blank true (Some read) up more else_up = more read up
    by_blank false o up more else_up = else_up

-- ranges that are read are upright
pub ranges_upright : (text : List ℕ) (ranges : List Range) → Some ranges ≡ ranges_from [] [] text
    → list_all is_upright ranges ≡ true
ranges_upright text ranges is =
    subst (λ (o : Option (List Range)). uprights_or_none o ≡ true) (sym is)
    (read_upright [] [] text refl)

abbrev pub line_or_none : Option PlainLine → Bool
line_or_none None = true
line_or_none (Some line) = has_upright line

by_ranges : (name : List ℕ) (o : Option (List Range)) → uprights_or_none o ≡ true
    → line_or_none (o >>= (λ ranges. Some (Named name (in_order ranges)))) ≡ true
by_ranges name None up = refl
by_ranges name (Some ranges) up = ordered_upright ranges up

named_upright : (o : Option (List ℕ × List ℕ)) → line_or_none (o >>= named_by) ≡ true
named_upright None = refl
named_upright (Some p) = by_name (is_name p.0)
  where
    by_name : (t : Bool) → line_or_none (if t
        then ranges_from [] [] p.1 >>=
        (λ ranges. Some (Named p.0 (in_order ranges))) else None) ≡ true
    by_name true = by_ranges p.0 (ranges_from [] [] p.1) (read_upright [] [] p.1 refl)
    by_name false = refl

line_upright : (text : List ℕ) → has_upright (line_of text) ≡ true
line_upright text = by_line (named_line text) (named_upright (split_once (byte ":") text))
  where
    by_line : (o : Option PlainLine) → line_or_none o ≡ true
        → has_upright (unwrap_or o (Kept text)) ≡ true
    by_line None up = refl
    by_line (Some line) up = up

lines_upright : (so_far text : List ℕ) → are_upright (lines_from so_far text) ≡ true
lines_upright [] [] = refl
lines_upright (b ∷ so_far) [] = and_from _ true (line_upright (b ∷ so_far)) refl
lines_upright so_far (b ∷ rest) =
    by_end (b == 10) (lines_upright [] rest) (lines_upright (so_far ++ b ∷ []) rest)
  where
    by_end : (t : Bool) → are_upright (lines_from [] rest) ≡ true
        → are_upright (lines_from (so_far ++ b ∷ []) rest) ≡ true
        → are_upright (if t then line_of so_far ∷ lines_from [] rest
        else lines_from (so_far ++ b ∷ []) rest) ≡ true
    by_end true more other = and_from _ _ (line_upright so_far) more
    by_end false more other = other

named_lines_upright : (name : List ℕ) (lines : List PlainLine) → are_upright lines ≡ true
    → are_upright (with_name name lines) ≡ true
named_lines_upright name lines all = by_name (any_has_name name lines)
  where
    by_name : (t : Bool) → are_upright (if t then lines else lines ++ empty_line name ∷ []) ≡ true
    by_name true = all
    by_name false = list_all-append has_upright lines (empty_line name ∷ [])
        ∙ and_from _ true all refl

line_with_upright : (n : ℕ) (line : PlainLine) → has_upright line ≡ true
    → has_upright (line_with n line) ≡ true
line_with_upright n (Named name ranges) up = with_upright (one n) ranges (one_upright n) up
line_with_upright n (Kept text) up = refl

line_without_upright : (n : ℕ) (line : PlainLine) → has_upright line ≡ true
    → has_upright (line_without n line) ≡ true
line_without_upright n (Named name ranges) up = without_upright n ranges up
line_without_upright n (Kept text) up = refl

member_upright : (name : List ℕ) (n : ℕ) (lines : List PlainLine) → are_upright lines ≡ true
    → are_upright (with_member name n lines) ≡ true
member_upright name n [] all = and_from _ true (line_with_upright n (empty_line name) refl) refl
member_upright name n (line ∷ lines) all =
    let both = and_parts (has_upright line) (are_upright lines) all in
    by_name (has_name name line) both.0 both.1 (member_upright name n lines both.1)
  where
    by_name : (t : Bool) → has_upright line ≡ true → are_upright lines ≡ true
        → are_upright (with_member name n lines) ≡ true
        → are_upright (if t then line_with n line ∷ lines else line ∷ with_member name n lines)
        ≡ true
    by_name true up more rest = and_from _ _ (line_with_upright n line up) more
    by_name false up more rest = and_from _ _ up rest

-- a change of each line
each_upright : (f : PlainLine → PlainLine)
    → ((line : PlainLine) → has_upright line ≡ true → has_upright (f line) ≡ true)
    → (lines : List PlainLine) → are_upright lines ≡ true → are_upright (map f lines) ≡ true
each_upright f keeps [] all = refl
each_upright f keeps (line ∷ lines) all =
    let both = and_parts (has_upright line) (are_upright lines) all in
    and_from _ _ (keeps line both.0) (each_upright f keeps lines both.1)

line_member_upright : (name : List ℕ) (n : ℕ) (line : PlainLine) → has_upright line ≡ true
    → has_upright (line_without_member name n line) ≡ true
line_member_upright name n line up = by_name (has_name name line)
  where
    by_name : (t : Bool) → has_upright (if t then line_without n line else line) ≡ true
    by_name true = line_without_upright n line up
    by_name false = up

put_upright : (lines : List PlainLine) (name : List ℕ) (n : ℕ) (member : Bool)
    → are_upright lines ≡ true → are_upright (put name n member lines) ≡ true
put_upright lines name n true all = by_held (holds name n lines)
  where
    by_held : (h : Bool) → are_upright (if h then lines else with_member name n lines) ≡ true
    by_held true = all
    by_held false = member_upright name n lines all
put_upright lines name n false all = by_held (holds name n lines)
  where
    by_held : (h : Bool) → are_upright (if h then without_member name n lines else lines) ≡ true
    by_held true = each_upright (line_without_member name n) (line_member_upright name n) lines all
    by_held false = all

read_lines_upright : (lines : List PlainLine) → are_upright lines ≡ true
    → are_upright (with_name (codes "replied") (with_name (codes "flagged")
    (with_name (codes "unseen") lines))) ≡ true
read_lines_upright lines all =
    let first = with_name (codes "unseen") lines in
    let second = with_name (codes "flagged") first in
    named_lines_upright (codes "replied") second
    (named_lines_upright (codes "flagged") first (named_lines_upright (codes "unseen") lines all))

pub stays_upright : StaysUpright
stays_upright = (
  (λ bytes. read_lines_upright (lines_from [] bytes) (lines_upright [] bytes)),
  put_upright,
  (λ lines n all. each_upright (line_without n) (line_without_upright n) lines all),
)
