-- Laws of sequences.
use Rattle.std.specs.Prelude.{◌≡◌, ◌==◌, ◌&&◌, ℕ, Bool, true, not, nat_le, List}
use Rattle.std.specs.Prelude.{if◌then◌else◌}
use Rattle.std.specs.List.{list_all}
use Rattle.std.specs.Str.{bytes_eq}
use Rattle.folder_core.specs.MhSequences.{in_sequence}
use Rattle.mh_sequences.specs.declared.range.Range.{Range}
use Rattle.mh_sequences.specs.SequenceLine.{PlainLine, Kept, Named}
use Rattle.mh_sequences.specs.Sequences.{holds, put, sequences_of, without_number}

-- it is not upside down
abbrev pub is_upright : Range → Bool
is_upright r = nat_le r.first r.last

-- no range of a line is upside down
abbrev pub has_upright : PlainLine → Bool
has_upright (Named name ranges) = list_all is_upright ranges
has_upright (Kept text) = true

-- no range of the lines is upside down
abbrev pub are_upright : List PlainLine → Bool
are_upright lines = list_all has_upright lines

-- what is put changes that number of that sequence, and no other
abbrev pub PutChangesOne : Type 0
PutChangesOne =
    (lines : List PlainLine) (name other : List ℕ) (n m : ℕ) (member : Bool)
    → are_upright lines ≡ true
    → holds other m (put name n member lines)
    ≡ (if bytes_eq name other && m == n then member else holds other m lines)

-- a number that goes is in no sequence, and no other changes
abbrev pub DropTakesOne : Type 0
DropTakesOne =
    (lines : List PlainLine) (other : List ℕ) (n m : ℕ)
    → holds other m (without_number n lines) ≡ (not (m == n) && holds other m lines)

-- no range that is read is upside down, and no change makes one so
abbrev pub StaysUpright : Type 0
StaysUpright =
    ((bytes : List ℕ) → are_upright (sequences_of bytes) ≡ true)
    × ((lines : List PlainLine) (name : List ℕ) (n : ℕ) (member : Bool)
    → are_upright lines ≡ true → are_upright (put name n member lines) ≡ true)
    × ((lines : List PlainLine) (n : ℕ)
    → are_upright lines ≡ true → are_upright (without_number n lines) ≡ true)

-- a number is in a sequence that is read exactly where a range of the file writes it there
abbrev pub HoldsWritten : Type 0
HoldsWritten =
    (bytes name : List ℕ) (n : ℕ) → holds name n (sequences_of bytes) ≡ in_sequence name n bytes
