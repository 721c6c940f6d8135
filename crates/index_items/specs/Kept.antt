-- Lists of which some are kept.
use Rattle.std.specs.Prelude.{Bool, List, [], ◌∷◌}
use Rattle.std.specs.Prelude.{if◌then◌else◌}

-- those that are marked, and those that no mark stands for
abbrev pub kept : {X : Type 0} → List Bool → List X → List X
kept [] xs = xs
kept (mark ∷ marks) [] = []
kept (mark ∷ marks) (x ∷ xs) = if mark then x ∷ kept marks xs else kept marks xs
