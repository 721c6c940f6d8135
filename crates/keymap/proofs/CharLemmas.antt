-- How characters stand at the front of a text.
use Rattle.std.proofs.Common.{ℕ, ◌<◌, ◌≤◌, List, length}
use Rattle.bstr.specs.Utf8.{decoded}
use Rattle.bstr.proofs.lemmas.PieceLemmas.{piece-bounds}

-- a character or a malformed part takes at least a byte, and no more than there are
pub record Sized (text : List ℕ) : Type 0 where
  pub some : 1 ≤ (decoded text).size
  pub within : (decoded text).size ≤ length text

pub decoded_sized : (text : List ℕ) → 0 < length text → Sized text
decoded_sized text some =
    let bounds = piece-bounds text some in record { some = bounds.0; within = bounds.2 }
