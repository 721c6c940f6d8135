-- Ranges of numbers (mh-sequence(5)).
use Rattle.std.specs.Prelude.{◌+◌, ◌-◌, ◌&&◌, ℕ, Bool, true, false, nat_le, nat_lt, min, max}
use Rattle.std.specs.Prelude.{List, [], ◌∷◌, ◌++◌, Option, Some, None, if◌then◌else◌}
use Rattle.std.specs.Fmt.{decimal}
use Rattle.std.specs.List.{list_any, flat_map}
use Rattle.std.specs.Str.{byte}
use Rattle.mail_base.specs.Fronts.{◌>>=◌}
use Rattle.mail_base.specs.Places.{split_once}
use Rattle.mh_sequences.specs.declared.range.Range.{Range}
use Rattle.folder_core.specs.MhNumbers.{number_of}

-- the range of one number
abbrev pub one : ℕ → Range
one n = record { first = n; last = n }

-- upside down it is none
abbrev pub between : ℕ → ℕ → Option Range
between first last =
    if nat_le first last then Some (record { first = first; last = last }) else None

-- the range that a word writes, if it is one
abbrev pub range_by : List ℕ → Option (List ℕ × List ℕ) → Option Range
range_by word None = number_of word >>= λ n. Some (one n)
range_by word (Some parts) =
    number_of parts.0 >>= λ first. number_of parts.1 >>= λ last. between first last

-- a word of the form `n` or `n-m`
abbrev pub range_of : List ℕ → Option Range
range_of word = range_by word (split_once (byte "-") word)

-- a range holds a number
abbrev pub holds : ℕ → Range → Bool
holds n r = nat_le r.first n && nat_le n r.last

-- one of the ranges holds a number
abbrev pub any_holds : ℕ → List Range → Bool
any_holds n ranges = list_any (holds n) ranges

-- the range, if there is one, begins at the number or before it
abbrev pub begins_by : ℕ → Option Range → Bool
begins_by n None = false
begins_by n (Some r) = nat_le r.first n

-- it ends before the other begins, with a number between them
abbrev pub is_before : Range → Range → Bool
is_before r s = nat_lt (r.last + 1) s.first

-- the range of both and what is between them
abbrev pub joined : Range → Range → Range
joined r s = record { first = min r.first s.first; last = max r.last s.last }

-- ranges in rising order with one more, which is joined with those that it meets
abbrev pub with_range : Range → List Range → List Range
with_range new [] = new ∷ []
with_range new (r ∷ ranges) =
    if is_before new r then new ∷ r ∷ ranges
    else (if is_before r new then r ∷ with_range new ranges else with_range (joined new r) ranges)

-- what is left of a range without a number
abbrev pub parts : ℕ → Range → List Range
parts n r =
    if holds n r
    then (if nat_lt r.first n then record r { last = n - 1 } ∷ [] else [])
    ++ (if nat_lt n r.last then record r { first = n + 1 } ∷ [] else [])
    else r ∷ []

-- ranges without a number
abbrev pub without : ℕ → List Range → List Range
without n ranges = flat_map (parts n) ranges

-- each range stands before the next
abbrev pub is_rising : List Range → Bool
is_rising [] = true
is_rising (r ∷ []) = true
is_rising (r ∷ s ∷ ranges) = is_before r s && is_rising (s ∷ ranges)

-- each range begins at this number or behind it, and with a number between it and the one before
abbrev pub rises_from : ℕ → List Range → Bool
rises_from k [] = true
rises_from k (r ∷ ranges) = nat_le k r.first && rises_from (r.last + 2) ranges

-- ranges added to others, the last one first
abbrev pub added_to : List Range → List Range → List Range
added_to made [] = made
added_to made (r ∷ ranges) = with_range r (added_to made ranges)

-- in rising order, with no two that meet
abbrev pub in_order : List Range → List Range
in_order ranges = added_to [] ranges

-- a range and those behind it, in rising order of their first numbers, joined where they meet
abbrev pub joined_behind : Range → List Range → List Range
joined_behind r [] = r ∷ []
joined_behind r (s ∷ ranges) =
    if is_before r s then r ∷ joined_behind s ranges else joined_behind (joined r s) ranges

-- the same of ranges that may be none
abbrev pub joined_sorted : List Range → List Range
joined_sorted [] = []
joined_sorted (r ∷ ranges) = joined_behind r ranges

-- a blank, and the range as it is written
abbrev pub text_of : Range → List ℕ
text_of r =
    byte " " ∷ decimal r.first ++ (if nat_lt r.first r.last then byte "-" ∷ decimal r.last else [])
