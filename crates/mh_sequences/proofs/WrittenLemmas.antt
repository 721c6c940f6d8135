-- The numbers that a sequence holds are those of the ranges that its lines write.
use Rattle.std.proofs.Common.{◌≡◌, ◌==◌, ◌&&◌, ◌||◌, ℕ, Bool, true, false, nat_le, List, [], ◌∷◌}
use Rattle.std.proofs.Common.{◌++◌}
use Rattle.std.proofs.Common.{Option, Some, None, codes, if◌then◌else◌, refl, sym, ◌∙◌, ap}
use Rattle.std.specs.List.{list_any}
use Rattle.std.specs.Prelude.{option_map, unwrap_or}
use Rattle.std.specs.Str.{byte, bytes_eq}
use Rattle.std.proofs.lemmas.List.Folds.{list_any-append}
use Rattle.mail_base.specs.Blanks.{is_blank}
use Rattle.mail_base.specs.Fronts.{◌>>=◌}
use Rattle.mail_base.specs.Places.{split_once}
use Rattle.folder_core.specs.MhNumbers.{number_of}
use Rattle.folder_core.specs.MhSequences.{between_holds, line_has, range_by as word_by}
use Rattle.folder_core.specs.MhSequences.{range_holds as word_holds, ranges_hold, split_holds}
use Rattle.folder_core.specs.MhSequences.{text_lines, words_of}
use Rattle.mh_sequences.specs.declared.range.Range.{Range}
use Rattle.mh_sequences.specs.Laws.{HoldsWritten}
use Rattle.mh_sequences.specs.Ranges.{any_holds, between, holds as range_holds, in_order, one}
use Rattle.mh_sequences.specs.Ranges.{range_by, range_of}
use Rattle.mh_sequences.specs.SequenceLine.{Kept, Named, PlainLine, empty_line, is_name, line_holds}
use Rattle.mh_sequences.specs.SequenceLine.{line_of, named_by, ranges_from, with_word}
use Rattle.mh_sequences.specs.Sequences.{any_has_name, holds, lines_from, with_name}
use Rattle.mh_sequences.proofs.RisingLemmas.{ordered_holds}
use Rattle.mh_sequences.proofs.UprightLemmas.{ranges_upright}

-- One word.

between_same : (n first last : ℕ)
    → option_map (range_holds n) (between first last) ≡ between_holds n first last
between_same n first last = by_order (nat_le first last)
  where
    by_order : (t : Bool)
        → option_map (range_holds n)
        (if t then Some (record { first = first; last = last }) else None)
        ≡ (if t then Some (nat_le first n && nat_le n last) else None)
    by_order true = refl
    by_order false = refl

one_same : (n : ℕ) (number : Option ℕ)
    → option_map (range_holds n) (number >>= λ a. Some (one a))
    ≡ (number >>= λ a. Some (nat_le a n && nat_le n a))
one_same n None = refl
one_same n (Some a) = refl

ends_same : (n : ℕ) (first last : Option ℕ)
    → option_map (range_holds n) (first >>= λ a. last >>= λ b. between a b)
    ≡ (first >>= λ a. last >>= λ b. between_holds n a b)
ends_same n None last = refl
ends_same n (Some a) None = refl
ends_same n (Some a) (Some b) = between_same n a b

word_same : (n : ℕ) (word : List ℕ) (parts : Option (List ℕ × List ℕ))
    → option_map (range_holds n) (range_by word parts) ≡ word_by n word parts
word_same n word None = one_same n (number_of word)
word_same n word (Some ends) = ends_same n (number_of ends.0) (number_of ends.1)

range_same : (n : ℕ) (word : List ℕ)
    → option_map (range_holds n) (range_of word) ≡ word_holds n word
range_same n word = word_same n word (split_once (byte "-") word)

-- All words of a line.

-- whether some range holds the number, where they are there
abbrev any_of : ℕ → Option (List Range) → Option Bool
any_of n ranges = option_map (any_holds n) ranges

-- the same with what further words hold
abbrev or_more : Bool → Option Bool → Option Bool
or_more held more = more >>= λ m. Some (held || m)

or_false : (t : Bool) → t ≡ (t || false)
or_false true = refl
or_false false = refl

any_last : (n : ℕ) (ranges : List Range) (r : Range)
    → any_holds n (ranges ++ r ∷ []) ≡ (any_holds n ranges || range_holds n r)
any_last n ranges r =
    list_any-append (range_holds n) ranges (r ∷ [])
    ∙ ap (λ (t : Bool). any_holds n ranges || t) (sym (or_false (range_holds n r)))

or_assoc : (a b c : Bool) → ((a || b) || c) ≡ (a || (b || c))
or_assoc true b c = refl
or_assoc false b c = refl

-- a word more, and what stands behind it
more_words : (n : ℕ) (ranges : List Range) (range : Option Range) (held rest : Option Bool)
    (behind : List Range → Option (List Range)) → option_map (range_holds n) range ≡ held
    → ((more : List Range) → any_of n (behind more) ≡ or_more (any_holds n more) rest)
    → any_of n ((range >>= λ r. Some (ranges ++ r ∷ [])) >>= behind)
    ≡ or_more (any_holds n ranges) (held >>= λ h. rest >>= λ m. Some (h || m))
more_words n ranges None held rest behind is more =
    ap (λ (h : Option Bool). or_more (any_holds n ranges) (h >>= λ h. rest >>= λ m. Some (h || m)))
    is
more_words n ranges (Some r) held rest behind is more =
    more (ranges ++ r ∷ []) ∙ by_rest rest
    ∙ ap (λ (h : Option Bool). or_more (any_holds n ranges)
    (h >>= λ h. rest >>= λ m. Some (h || m))) is
  where
    by_rest : (rest : Option Bool) → or_more (any_holds n (ranges ++ r ∷ [])) rest
        ≡ or_more (any_holds n ranges) (Some (range_holds n r) >>= λ h. rest >>= λ m. Some (h || m))
    by_rest None = refl
    by_rest (Some m) =
        ap (λ (t : Bool). Some (t || m)) (any_last n ranges r)
        ∙ ap Some (or_assoc (any_holds n ranges) (range_holds n r) m)

-- a word that may be empty
some_word : (n : ℕ) (ranges : List Range) (word : List ℕ) (words : List (List ℕ))
    (behind : List Range → Option (List Range))
    → ((more : List Range)
    → any_of n (behind more) ≡ or_more (any_holds n more) (ranges_hold n words))
    → any_of n (with_word ranges word >>= behind)
    ≡ or_more (any_holds n ranges) (ranges_hold n (word ∷ words))
some_word n ranges [] words behind more = more ranges
some_word n ranges (b ∷ word) words behind more =
    more_words n ranges (range_of (b ∷ word)) (word_holds n (b ∷ word)) (ranges_hold n words) behind
    (range_same n (b ∷ word)) more

bind_some : (ranges : Option (List Range)) → ranges ≡ (ranges >>= λ r. Some r)
bind_some None = refl
bind_some (Some r) = refl

ranges_same : (n : ℕ) (ranges : List Range) (word text : List ℕ)
    → any_of n (ranges_from ranges word text)
    ≡ or_more (any_holds n ranges) (ranges_hold n (words_of word text))
ranges_same n ranges word [] =
    ap (any_of n) (bind_some (with_word ranges word))
    ∙ some_word n ranges word [] (λ r. Some r) (λ more. ap Some (or_false (any_holds n more)))
ranges_same n ranges word (b ∷ rest) =
    by_blank (is_blank b) (λ more. ranges_same n more [] rest)
    (ranges_same n ranges (word ++ b ∷ []) rest)
  where
    by_blank : (t : Bool)
        → ((more : List Range) → any_of n (ranges_from more [] rest)
        ≡ or_more (any_holds n more) (ranges_hold n (words_of [] rest)))
        → any_of n (ranges_from ranges (word ++ b ∷ []) rest)
        ≡ or_more (any_holds n ranges) (ranges_hold n (words_of (word ++ b ∷ []) rest))
        → any_of n (if t then with_word ranges word >>= (λ more. ranges_from more [] rest)
        else ranges_from ranges (word ++ b ∷ []) rest)
        ≡ or_more (any_holds n ranges) (ranges_hold n (if t then word ∷ words_of [] rest
        else words_of (word ++ b ∷ []) rest))
    by_blank true again same =
        some_word n ranges word (words_of [] rest) (λ more. ranges_from more [] rest) again
    by_blank false again same = same

-- One line.

no_or : (held : Option Bool) → or_more false held ≡ held
no_or None = refl
no_or (Some h) = refl

-- what a line holds by its ranges
abbrev line_by : List ℕ → Option (List Range) → Option PlainLine
line_by own ranges = ranges >>= (λ r. Some (Named own (in_order r)))

by_ranges : (name own text line : List ℕ) (n : ℕ) (ranges : Option (List Range))
    (held : Option Bool)
    → ranges ≡ ranges_from [] [] text → any_of n ranges ≡ held
    → line_holds name n (unwrap_or (line_by own ranges) (Kept line))
    ≡ (bytes_eq own name && unwrap_or held false)
by_ranges name own text line n None held from is =
    and_false (bytes_eq own name)
    ∙ ap (λ (h : Option Bool). bytes_eq own name && unwrap_or h false) is
  where
    and_false : (t : Bool) → false ≡ (t && false)
    and_false true = refl
    and_false false = refl
by_ranges name own text line n (Some ranges) held from is =
    ap (λ (t : Bool). bytes_eq own name && t)
    (ordered_holds n ranges (ranges_upright text ranges from))
    ∙ ap (λ (h : Option Bool). bytes_eq own name && unwrap_or h false) is

by_parts : (name line : List ℕ) (n : ℕ) (parts : Option (List ℕ × List ℕ))
    → line_holds name n (unwrap_or (parts >>= named_by) (Kept line)) ≡ split_holds name n parts
by_parts name line n None = refl
by_parts name line n (Some parts) = by_name (is_name parts.0)
  where
    by_name : (t : Bool)
        → line_holds name n
        (unwrap_or (if t then line_by parts.0 (ranges_from [] [] parts.1) else None)
        (Kept line))
        ≡ (t && bytes_eq parts.0 name && unwrap_or (ranges_hold n (words_of [] parts.1)) false)
    by_name false = refl
    by_name true =
        by_ranges name parts.0 parts.1 line n (ranges_from [] [] parts.1)
        (ranges_hold n (words_of [] parts.1)) refl
        (ranges_same n [] [] parts.1 ∙ no_or (ranges_hold n (words_of [] parts.1)))

line_same : (name line : List ℕ) (n : ℕ) → line_holds name n (line_of line) ≡ line_has name n line
line_same name line n = by_parts name line n (split_once (byte ":") line)

-- All lines.

lines_same : (name so_far bytes : List ℕ) (n : ℕ)
    → holds name n (lines_from so_far bytes) ≡ list_any (line_has name n) (text_lines so_far bytes)
lines_same name [] [] n = refl
lines_same name (b ∷ so_far) [] n =
    ap (λ (t : Bool). t || false) (line_same name (b ∷ so_far) n)
lines_same name so_far (b ∷ rest) n =
    by_end (b == 10) (lines_same name [] rest n) (lines_same name (so_far ++ b ∷ []) rest n)
  where
    by_end : (t : Bool)
        → holds name n (lines_from [] rest) ≡ list_any (line_has name n) (text_lines [] rest)
        → holds name n (lines_from (so_far ++ b ∷ []) rest)
        ≡ list_any (line_has name n) (text_lines (so_far ++ b ∷ []) rest)
        → holds name n
        (if t then line_of so_far ∷ lines_from [] rest else lines_from (so_far ++ b ∷ []) rest)
        ≡ list_any (line_has name n)
        (if t then so_far ∷ text_lines [] rest else text_lines (so_far ++ b ∷ []) rest)
    by_end true next same =
        ap (λ (t : Bool). t || holds name n (lines_from [] rest)) (line_same name so_far n)
        ∙ ap (λ (t : Bool). line_has name n so_far || t) next
    by_end false next same = same

-- a sequence without numbers holds none
named_same : (name new : List ℕ) (n : ℕ) (lines : List PlainLine)
    → holds name n (with_name new lines) ≡ holds name n lines
named_same name new n lines = by_there (any_has_name new lines)
  where
    none : (t : Bool) → ((t && false) || false) ≡ false
    none true = refl
    none false = refl

    by_there : (t : Bool)
        → holds name n (if t then lines else lines ++ empty_line new ∷ []) ≡ holds name n lines
    by_there true = refl
    by_there false =
        list_any-append (line_holds name n) lines (empty_line new ∷ [])
        ∙ ap (λ (t : Bool). holds name n lines || t) (none (bytes_eq new name))
        ∙ sym (or_false (holds name n lines))

pub holds_written : HoldsWritten
holds_written bytes name n =
    let lines = lines_from [] bytes in
    named_same name (codes "replied") n
    (with_name (codes "flagged") (with_name (codes "unseen") lines))
    ∙ named_same name (codes "flagged") n (with_name (codes "unseen") lines)
    ∙ named_same name (codes "unseen") n lines ∙ lines_same name [] bytes n
