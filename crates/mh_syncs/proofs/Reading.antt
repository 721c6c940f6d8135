-- Sequences that are read may be written.
use Rattle.std.proofs.Common.{◌≡◌, ◌≤◌, ◌==◌, ◌||◌, ◌++◌, ℕ, Bool, true}
use Rattle.std.proofs.Common.{false}
use Rattle.std.proofs.Common.{not, List, [], ◌∷◌, Option, Some, None, nat_le}
use Rattle.std.proofs.Common.{if◌then◌else◌, refl, sym, ◌∙◌, ap, arith, append_assoc}
use Rattle.std.proofs.Common.{append-nil}
use Rattle.std.proofs.lemmas.Bool.{and_from, and_parts}
use Rattle.std.proofs.lemmas.Bool.Decides.{nat_tests}
use Rattle.std.proofs.lemmas.List.Folds.{list_all-append, list_any-append}
use Rattle.std.specs.List.{list_any}
use Rattle.std.specs.Prelude.{codes, unwrap_or}
use Rattle.std.specs.Str.{byte, bytes_eq}
use Rattle.mail_base.specs.Blanks.{is_blank}
use Rattle.mail_base.specs.Fronts.{◌>>=◌}
use Rattle.mail_base.specs.Places.{split_once}
use Rattle.folder_core.specs.MhNumbers.{number_of}
use Rattle.folder_core.specs.MhSequences.{last_text}
use Rattle.folder_core.specs.MhSequences.{line_has}
use Rattle.folder_core.specs.MhSequences.{text_lines}
use Rattle.mh_sequences.specs.declared.range.Range.{Range}
use Rattle.mh_sequences.specs.Ranges.{added_to, between, in_order}
use Rattle.mh_sequences.specs.Ranges.{is_before, joined, one, range_by, range_of}
use Rattle.mh_sequences.specs.Ranges.{with_range}
use Rattle.mh_sequences.specs.SequenceLine.{Kept, Named, PlainLine, empty_line, is_name}
use Rattle.mh_sequences.specs.SequenceLine.{line_holds, line_of, named_by}
use Rattle.mh_sequences.specs.SequenceLine.{ranges_from, with_word}
use Rattle.mh_sequences.specs.Sequences.{any_has_name, holds, last_line}
use Rattle.mh_sequences.specs.Sequences.{lines_from, sequences_of, with_name}
use Rattle.mh_sequences.proofs.WrittenLemmas.{holds_written}
use Rattle.mh_syncs.proofs.Decimals.{number_writes}
use Rattle.mh_syncs.proofs.Cutting.{front_lacks, is_end, lacks}
use Rattle.mh_syncs.proofs.Writing.{AreGood, GoodLine, GoodName, GoodRange, GoodRanges, and_false}

true_false : ◌≡◌ {A = Bool} true false → ⊥
true_false e = cc

-- Lines that are read.

-- a line that is kept holds nothing
text_last : (so_far text : List ℕ) → lacks is_end text ≡ true
    → text_lines so_far text ≡ last_text (so_far ++ text)
text_last so_far [] none = ap last_text (sym (append-nil so_far))
text_last so_far (b ∷ text) none =
    let both = and_parts (not (is_end b)) (lacks is_end text) none in
    by (b == 10) both.0 (text_last (so_far ++ b ∷ []) text both.1)
  where
    by : (t : Bool) → not t ≡ true
        → text_lines (so_far ++ b ∷ []) text ≡ last_text ((so_far ++ b ∷ []) ++ text)
        → (if t then so_far ∷ text_lines [] text else text_lines (so_far ++ b ∷ []) text)
        ≡ last_text (so_far ++ b ∷ text)
    by true other again = absurd (true_false (sym other))
    by false other again = again ∙ ap last_text (append_assoc so_far (b ∷ []) text)

line_last : (so_far text : List ℕ) → lacks is_end text ≡ true
    → lines_from so_far text ≡ last_line (so_far ++ text)
line_last so_far [] none = ap last_line (sym (append-nil so_far))
line_last so_far (b ∷ text) none =
    let both = and_parts (not (is_end b)) (lacks is_end text) none in
    by (b == 10) both.0 (line_last (so_far ++ b ∷ []) text both.1)
  where
    by : (t : Bool) → not t ≡ true
        → lines_from (so_far ++ b ∷ []) text ≡ last_line ((so_far ++ b ∷ []) ++ text)
        → (if t then line_of so_far ∷ lines_from [] text else lines_from (so_far ++ b ∷ []) text)
        ≡ last_line (so_far ++ b ∷ text)
    by true other again = absurd (true_false (sym other))
    by false other again = again ∙ ap last_line (append_assoc so_far (b ∷ []) text)

or_false : (t : Bool) → (t || false) ≡ t
or_false true = refl
or_false false = refl

named_same : (w new : List ℕ) (n : ℕ) (lines : List PlainLine)
    → holds w n (with_name new lines) ≡ holds w n lines
named_same w new n lines = by (any_has_name new lines)
  where
    by : (t : Bool)
        → holds w n (if t then lines else lines ++ empty_line new ∷ []) ≡ holds w n lines
    by true = refl
    by false =
        list_any-append (line_holds w n) lines (empty_line new ∷ [])
        ∙ ap (λ (t : Bool). holds w n lines || (t || false)) (and_false (bytes_eq new w))
        ∙ or_false (holds w n lines)

line_is : (text w : List ℕ) (n : ℕ) → lacks is_end text ≡ true
    → line_has w n text ≡ line_holds w n (line_of text)
line_is [] w n none = refl
line_is (b ∷ text) w n none =
    sym (or_false (line_has w n (b ∷ text)))
    ∙ sym (ap (list_any (line_has w n)) (text_last [] (b ∷ text) none))
    ∙ sym (holds_written (b ∷ text) w n)
    ∙ named_same w (codes "replied") n (with_name (codes "flagged") (with_name (codes "unseen")
    (lines_from [] (b ∷ text))))
    ∙ named_same w (codes "flagged") n (with_name (codes "unseen") (lines_from [] (b ∷ text)))
    ∙ named_same w (codes "unseen") n (lines_from [] (b ∷ text))
    ∙ ap (holds w n) (line_last [] (b ∷ text) none)
    ∙ or_false (line_holds w n (line_of (b ∷ text)))

-- Ranges that are read.

pub good_one : (n : ℕ) → 1 ≤ n → n ≤ 4294967295 → GoodRange (one n)
good_one n low high = record { low = low; on = omega arith; high = high }

abbrev GoodOrNone : Option Range → Type 0
GoodOrNone None = Unit {0}
GoodOrNone (Some r) = GoodRange r

abbrev AllOrNone : Option (List Range) → Type 0
AllOrNone None = Unit {0}
AllOrNone (Some ranges) = GoodRanges ranges

good_between : (a b : ℕ) → 1 ≤ a → b ≤ 4294967295 → GoodOrNone (between a b)
good_between a b low high = by (nat_le a b) refl
  where
    by : (t : Bool) → nat_le a b ≡ t
        → GoodOrNone (if t then Some (record { first = a; last = b }) else None)
    by false is = tt
    by true is = record { low = low; on = grind (arith, nat_tests, is); high = high }

good_range : (w : List ℕ) (cut : Option (List ℕ × List ℕ)) → GoodOrNone (range_by w cut)
good_range w None = by (number_of w) refl
  where
    by : (o : Option ℕ) → number_of w ≡ o → GoodOrNone (o >>= λ n. Some (one n))
    by None is = tt
    by (Some n) is = let x = number_writes w n is in good_one n x.low x.high
good_range w (Some p) = by (number_of p.0) (number_of p.1) refl refl
  where
    by : (a b : Option ℕ) → number_of p.0 ≡ a → number_of p.1 ≡ b
        → GoodOrNone (a >>= λ first. b >>= λ last. between first last)
    by None b is also = tt
    by (Some a) None is also = tt
    by (Some a) (Some b) is also =
        good_between a b (number_writes p.0 a is).low (number_writes p.1 b also).high

pub good_append : (a b : List Range) → GoodRanges a → GoodRanges b → GoodRanges (a ++ b)
good_append [] b first next = next
good_append (r ∷ a) b first next = (first.0, good_append a b first.1 next)

good_pushed : (ranges : List Range) (o : Option Range) → GoodRanges ranges → GoodOrNone o
    → AllOrNone (o >>= λ r. Some (ranges ++ r ∷ []))
good_pushed ranges None all is = tt
good_pushed ranges (Some r) all is = good_append ranges (r ∷ []) all (is, tt)

good_word : (ranges : List Range) (w : List ℕ) → GoodRanges ranges → AllOrNone (with_word ranges w)
good_word ranges [] all = all
good_word ranges (b ∷ w) all =
    good_pushed ranges (range_of (b ∷ w)) all (good_range (b ∷ w) (split_once (byte "-") (b ∷ w)))

good_from : (ranges : List Range) (w text : List ℕ) → GoodRanges ranges
    → AllOrNone (ranges_from ranges w text)
good_from ranges w [] all = good_word ranges w all
good_from ranges w (b ∷ rest) all =
    by (is_blank b) (with_word ranges w) (good_word ranges w all)
    (λ more good. good_from more [] rest good) (good_from ranges (w ++ b ∷ []) rest all)
  where
    by : (t : Bool) (o : Option (List Range)) → AllOrNone o
        → ((more : List Range) → GoodRanges more → AllOrNone (ranges_from more [] rest))
        → AllOrNone (ranges_from ranges (w ++ b ∷ []) rest)
        → AllOrNone (if t then o >>= (λ more. ranges_from more [] rest)
        else ranges_from ranges (w ++ b ∷ []) rest)
    by true None good again other = tt
    by true (Some more) good again other = again more good
    by false o good again other = other

good_joined : (r s : Range) → GoodRange r → GoodRange s → GoodRange (joined r s)
good_joined r s a b = record {
  low = omega (arith, a.low, b.low);
  on = omega (arith, a.on, b.on);
  high = omega (arith, a.high, b.high);
}

pub good_with : (new : Range) (ranges : List Range) → GoodRange new → GoodRanges ranges
    → GoodRanges (with_range new ranges)
good_with new [] good all = (good, tt)
good_with new (r ∷ ranges) good all =
    by (is_before new r) (is_before r new) (good_with new ranges good all.1)
    (good_with (joined new r) ranges (good_joined new r good all.0) all.1)
  where
    by : (s t : Bool) → GoodRanges (with_range new ranges)
        → GoodRanges (with_range (joined new r) ranges)
        → GoodRanges (if s then new ∷ r ∷ ranges
        else (if t then r ∷ with_range new ranges else with_range (joined new r) ranges))
    by true t behind both = (good, all)
    by false true behind both = (all.0, behind)
    by false false behind both = both

good_order : (ranges : List Range) → GoodRanges ranges → GoodRanges (in_order ranges)
good_order [] all = tt
good_order (r ∷ ranges) all = good_with r (added_to [] ranges) all.0 (good_order ranges all.1)

-- Lines that are read are good.

good_line : (text : List ℕ) → lacks is_end text ≡ true → GoodLine (line_of text)
good_line text none = by (split_once 58 text) refl
  where
    kept : line_of text ≡ Kept text → GoodLine (Kept text)
    kept is = (none, λ w n. line_is text w n none ∙ ap (line_holds w n) is)

    by : (cut : Option (List ℕ × List ℕ)) → split_once 58 text ≡ cut
        → GoodLine (unwrap_or (cut >>= named_by) (Kept text))
    by None is = kept (ap (λ (o : Option (List ℕ × List ℕ)). unwrap_or (o >>= named_by) (Kept text))
        is)
    by (Some cut) is = by_name (is_name cut.0) refl
      where
        by_name : (t : Bool) → is_name cut.0 ≡ t
            → GoodLine (unwrap_or (if t
            then ranges_from [] [] cut.1 >>= (λ ranges. Some (Named cut.0 (in_order ranges)))
            else None) (Kept text))
        by_name false named =
            kept (ap (λ (o : Option (List ℕ × List ℕ)). unwrap_or (o >>= named_by) (Kept text)) is
            ∙ ap (λ (t : Bool). unwrap_or (if t
            then ranges_from [] [] cut.1 >>= (λ ranges. Some (Named cut.0 (in_order ranges)))
            else None) (Kept text)) named)
        by_name true named =
            by_ranges (ranges_from [] [] cut.1) refl (good_from [] [] cut.1 tt)
          where
            by_ranges : (o : Option (List Range)) → ranges_from [] [] cut.1 ≡ o → AllOrNone o
                → GoodLine (unwrap_or (o >>= (λ ranges. Some (Named cut.0 (in_order ranges))))
                (Kept text))
            by_ranges None from good =
                kept (ap (λ (o : Option (List ℕ × List ℕ)). unwrap_or (o >>= named_by) (Kept text))
                is
                ∙ ap (λ (t : Bool). unwrap_or (if t
                then ranges_from [] [] cut.1 >>= (λ ranges. Some (Named cut.0 (in_order ranges)))
                else None) (Kept text)) named
                ∙ ap (λ (o : Option (List Range)). unwrap_or (o >>= (λ ranges.
                Some (Named cut.0 (in_order ranges)))) (Kept text)) from)
            by_ranges (Some ranges) from good =
                let lack = front_lacks 58 is_end text cut is none in
                (record { named = named; colon = lack.0; ends = lack.1 }, good_order ranges good)

good_last : (text : List ℕ) → lacks is_end text ≡ true → AreGood (last_line text)
good_last [] none = tt
good_last (b ∷ text) none = (good_line (b ∷ text) none, tt)

good_lines : (so_far bytes : List ℕ) → lacks is_end so_far ≡ true
    → AreGood (lines_from so_far bytes)
good_lines so_far [] none = good_last so_far none
good_lines so_far (b ∷ rest) none =
    by (b == 10) refl (good_lines [] rest refl) (λ more. good_lines (so_far ++ b ∷ []) rest more)
  where
    by : (t : Bool) → (b == 10) ≡ t → AreGood (lines_from [] rest)
        → (lacks is_end (so_far ++ b ∷ []) ≡ true → AreGood (lines_from (so_far ++ b ∷ []) rest))
        → AreGood (if t then line_of so_far ∷ lines_from [] rest
        else lines_from (so_far ++ b ∷ []) rest)
    by true is next more = (good_line so_far none, next)
    by false is next more =
        more (list_all-append (λ x. not (is_end x)) so_far (b ∷ [])
        ∙ and_from (lacks is_end so_far) _ none
        (and_from (not (is_end b)) true (ap not is) refl))

good_lines_append : (a b : List PlainLine) → AreGood a → AreGood b → AreGood (a ++ b)
good_lines_append [] b first next = next
good_lines_append (line ∷ a) b first next = (first.0, good_lines_append a b first.1 next)

good_named : (name : List ℕ) (lines : List PlainLine) → GoodName name → AreGood lines
    → AreGood (with_name name lines)
good_named name lines good all = by (any_has_name name lines)
  where
    by : (t : Bool) → AreGood (if t then lines else lines ++ empty_line name ∷ [])
    by true = all
    by false = good_lines_append lines (empty_line name ∷ []) all ((good, tt), tt)

pub unseen_good : GoodName (codes "unseen")
unseen_good = record { named = refl; colon = refl; ends = refl }

pub flagged_good : GoodName (codes "flagged")
flagged_good = record { named = refl; colon = refl; ends = refl }

pub replied_good : GoodName (codes "replied")
replied_good = record { named = refl; colon = refl; ends = refl }

pub read_good : (bytes : List ℕ) → AreGood (sequences_of bytes)
read_good bytes =
    good_named (codes "replied")
    (with_name (codes "flagged") (with_name (codes "unseen") (lines_from [] bytes))) replied_good
    (good_named (codes "flagged") (with_name (codes "unseen") (lines_from [] bytes)) flagged_good
    (good_named (codes "unseen") (lines_from [] bytes) unseen_good (good_lines [] bytes refl)))
