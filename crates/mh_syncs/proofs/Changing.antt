-- Sequences that are changed may be written.
use Rattle.std.proofs.Common.{◌≡◌, ◌≤◌, ◌<◌, ◌+◌, ◌-◌, ◌&&◌, ◌++◌, ℕ, Bool, true}
use Rattle.std.proofs.Common.{false}
use Rattle.std.proofs.Common.{not, List, [], ◌∷◌, Option, Some, None, nat_lt, nat_le}
use Rattle.std.proofs.Common.{if◌then◌else◌, refl, sym, arith}
use Rattle.std.proofs.Common.{is_some}
use Rattle.std.proofs.lemmas.Bool.{and_parts}
use Rattle.std.proofs.lemmas.Bool.Decides.{nat_tests}
use Rattle.std.specs.Prelude.{codes, unwrap_or}
use Rattle.index_items.specs.Changes.{Alters, Changed, Discards, PlainChange}
use Rattle.folder_letters.specs.Letters.{Mail}
use Rattle.folder_core.specs.Keeping.{mail_of}
use Rattle.folder_core.specs.Mh.{is_number, number_at}
use Rattle.folder_core.specs.MhNumbers.{number_of}
use Rattle.folder_drivers.specs.MhSync.{flags_wanted, with_change, with_changes}
use Rattle.mh_sequences.specs.declared.range.Range.{Range}
use Rattle.mh_sequences.specs.Ranges.{one, parts}
use Rattle.mh_sequences.specs.Ranges.{without}
use Rattle.mh_sequences.specs.SequenceLine.{Kept, Named, PlainLine, empty_line, has_name}
use Rattle.mh_sequences.specs.SequenceLine.{with_number as line_with}
use Rattle.mh_sequences.specs.SequenceLine.{without_number as line_without}
use Rattle.mh_sequences.specs.Sequences.{holds}
use Rattle.mh_sequences.specs.Sequences.{put, with_member}
use Rattle.mh_sequences.specs.Sequences.{without_member, without_number}
use Rattle.mh_syncs.specs.Numbers.{AreNumbers}
use Rattle.mh_syncs.proofs.Decimals.{number_writes}
use Rattle.mh_syncs.proofs.Writing.{AreGood, GoodLine, GoodName, GoodRange, GoodRanges}
use Rattle.mh_syncs.proofs.Reading.{flagged_good, good_append, good_one, good_with, replied_good}
use Rattle.mh_syncs.proofs.Reading.{unseen_good}

true_false : ◌≡◌ {A = Bool} true false → ⊥
true_false e = cc

-- Lines that are changed are good.

good_parts : (n : ℕ) (r : Range) → GoodRange r → GoodRanges (parts n r)
good_parts n r good =
    by (nat_le r.first n && nat_le n r.last) (nat_lt r.first n) (nat_lt n r.last) refl refl refl
  where
    by : (t a b : Bool) → (nat_le r.first n && nat_le n r.last) ≡ t → nat_lt r.first n ≡ a
        → nat_lt n r.last ≡ b
        → GoodRanges (if t
        then (if a then record r { last = n - 1 } ∷ [] else [])
        ++ (if b then record r { first = n + 1 } ∷ [] else [])
        else r ∷ [])
    by false a b is above below = (good, tt)
    by true a b is above below = by_ends a b above below
      where
        held : (r.first ≤ n) × (n ≤ r.last)
        held = let both = and_parts (nat_le r.first n) (nat_le n r.last) is in (
          (let h = both.0 in grind (arith, nat_tests)),
          (let h = both.1 in grind (arith, nat_tests)),
        )

        front : nat_lt r.first n ≡ true → GoodRange (record r { last = n - 1 })
        front is = let less : r.first < n = grind (arith, nat_tests, is) in record {
          low = good.low;
          on = omega (arith, less);
          high = omega (arith, less, held.1, good.high);
        }

        back : nat_lt n r.last ≡ true → GoodRange (record r { first = n + 1 })
        back is = let less : n < r.last = grind (arith, nat_tests, is) in record {
          low = omega arith;
          on = omega (arith, less);
          high = good.high;
        }

        by_ends : (a b : Bool) → nat_lt r.first n ≡ a → nat_lt n r.last ≡ b
            → GoodRanges ((if a then record r { last = n - 1 } ∷ [] else [])
            ++ (if b then record r { first = n + 1 } ∷ [] else []))
        by_ends true true above below = (front above, (back below, tt))
        by_ends true false above below = (front above, tt)
        by_ends false true above below = (back below, tt)
        by_ends false false above below = tt

good_without : (n : ℕ) (ranges : List Range) → GoodRanges ranges → GoodRanges (without n ranges)
good_without n [] all = tt
good_without n (r ∷ ranges) all =
    good_append (parts n r) (without n ranges) (good_parts n r all.0) (good_without n ranges all.1)

good_line_without : (n : ℕ) (line : PlainLine) → GoodLine line → GoodLine (line_without n line)
good_line_without n (Named name ranges) good = (good.0, good_without n ranges good.1)
good_line_without n (Kept text) good = good

good_line_with : (n : ℕ) (line : PlainLine) → GoodRange (one n) → GoodLine line
    → GoodLine (line_with n line)
good_line_with n (Named name ranges) number good = (good.0, good_with (one n) ranges number good.1)
good_line_with n (Kept text) number good = good

good_dropped : (n : ℕ) (lines : List PlainLine) → AreGood lines → AreGood (without_number n lines)
good_dropped n [] all = tt
good_dropped n (line ∷ lines) all = (good_line_without n line all.0, good_dropped n lines all.1)

good_member_out : (name : List ℕ) (n : ℕ) (lines : List PlainLine) → AreGood lines
    → AreGood (without_member name n lines)
good_member_out name n [] all = tt
good_member_out name n (line ∷ lines) all =
    (by (has_name name line), good_member_out name n lines all.1)
  where
    by : (t : Bool) → GoodLine (if t then line_without n line else line)
    by true = good_line_without n line all.0
    by false = all.0

good_member : (name : List ℕ) (n : ℕ) (lines : List PlainLine) → GoodName name
    → GoodRange (one n) → AreGood lines → AreGood (with_member name n lines)
good_member name n [] named number all =
    (good_line_with n (empty_line name) number (named, tt), tt)
good_member name n (line ∷ lines) named number all =
    by (has_name name line) (good_member name n lines named number all.1)
  where
    by : (t : Bool) → AreGood (with_member name n lines)
        → AreGood (if t then line_with n line ∷ lines else line ∷ with_member name n lines)
    by true behind = (good_line_with n line number all.0, all.1)
    by false behind = (all.0, behind)

good_put : (name : List ℕ) (n : ℕ) (member : Bool) (lines : List PlainLine) → GoodName name
    → GoodRange (one n) → AreGood lines → AreGood (put name n member lines)
good_put name n true lines named number all = by (holds name n lines)
  where
    by : (t : Bool) → AreGood (if t then lines else with_member name n lines)
    by true = all
    by false = good_member name n lines named number all
good_put name n false lines named number all = by (holds name n lines)
  where
    by : (t : Bool) → AreGood (if t then without_member name n lines else lines)
    by true = good_member_out name n lines all
    by false = all

number_good : (name : List ℕ) → is_number name ≡ true → GoodRange (one (number_at name))
number_good name is = by (number_of name) refl is
  where
    by : (o : Option ℕ) → number_of name ≡ o → is_some o ≡ true
        → GoodRange (one (unwrap_or o 0))
    by None at is = absurd (true_false (sym is))
    by (Some n) at is = let x = number_writes name n at in good_one n x.low x.high

good_change : (sequences : List ℕ) (n : ℕ) (change : PlainChange) (lines : List PlainLine)
    → GoodRange (one n) → AreGood lines → AreGood (with_change sequences n change lines)
good_change sequences n (Alters added cleared) lines number all =
    let flags = flags_wanted sequences (Some (Alters added cleared)) n in
    good_put (codes "replied") n flags.replied
    (put (codes "flagged") n flags.flagged (put (codes "unseen") n (not flags.seen) lines))
    replied_good number
    (good_put (codes "flagged") n flags.flagged (put (codes "unseen") n (not flags.seen) lines)
    flagged_good number
    (good_put (codes "unseen") n (not flags.seen) lines unseen_good number all))
good_change sequences n Discards lines number all = good_dropped n lines all

pub changed_good : (sequences : List ℕ) (mails : List Mail) (changes : List Changed)
    (lines : List PlainLine) → AreNumbers mails changes → AreGood lines
    → AreGood (with_changes sequences mails changes lines)
changed_good sequences mails [] lines numbers all = all
changed_good sequences mails (changed ∷ changes) lines numbers all =
    changed_good sequences mails changes
    (with_change sequences (number_at (mail_of mails changed.id.0).key) changed.change lines)
    numbers.1
    (good_change sequences (number_at (mail_of mails changed.id.0).key) changed.change lines
    (number_good (mail_of mails changed.id.0).key numbers.0) all)
