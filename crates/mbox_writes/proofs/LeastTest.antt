-- The least test of locks.
use Rattle.std.proofs.Common.{Bool, List, false, refl, ℕ, [], ◌∷◌, ◌≡◌}
use Rattle.std.specs.Prelude.{◌||◌}
use Rattle.std.specs.Str.{bytes_eq}
use Rattle.std.proofs.lemmas.Bool.{or_from, or_left, or_right}
use Rattle.folder_stops.proofs.Words.{same}
use Rattle.folder_tails.specs.Tails.{is_owners, line_of}
use Rattle.folder_tails.proofs.Locks.{empty_line}
use Rattle.folder_drivers.specs.MboxLocked.{Passes}

-- the test that passes no more than it must
abbrev pub least_test : List ℕ → List ℕ → Bool
least_test owner line = is_owners owner line || bytes_eq line (line_of owner)

no_line : (owner : List ℕ) → bytes_eq [] (line_of owner) ≡ false
no_line [] = refl
no_line (byte ∷ owner) = refl

pub least_passes : (owner : List ℕ) → Passes owner (least_test owner)
least_passes owner = record {
  knows = record {
    passes = λ line is. or_left (is_owners owner line) _ is;
    empty = or_from (is_owners owner []) (bytes_eq [] (line_of owner)) (empty_line owner)
        (no_line owner);
  };
  line = or_right (is_owners owner (line_of owner)) _ (same (line_of owner));
}
