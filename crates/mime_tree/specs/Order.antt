-- How the parts of a message stand in one another and behind one another.
use Rattle.std.specs.Prelude.{◌≤◌, ℕ, Bool, true, false, nat_lt, List, [], ◌∷◌}
use Rattle.mime_tree.specs.declared.part.Part.{Part}
use Rattle.mime_tree.specs.Part.{PlainPart}

-- a part that stands in the body of another
abbrev pub IsInside : PlainPart → PlainPart → Type 0
IsInside p q = (p.body_at ≤ q.body_at) × (q.body_end ≤ p.body_end)

-- parts that stand behind a part
abbrev pub AreBehind : PlainPart → List PlainPart → Type 0
AreBehind p [] = Unit {0}
AreBehind p (q ∷ rest) = (p.body_end ≤ q.body_at) × AreBehind p rest

-- the first where the test passes, else the second
abbrev pub OneOf : Bool → Type 0 → Type 0 → Type 0
OneOf true First Second = First
OneOf false First Second = Second

-- the parts that follow a part: those that nest deeper stand in it, and from the first other on
-- they stand behind it
abbrev pub Follow : PlainPart → List PlainPart → Type 0
Follow p [] = Unit {0}
Follow p (q ∷ rest) =
    OneOf (nat_lt p.nesting q.nesting) (IsInside p q × Follow p rest) (AreBehind p (q ∷ rest))

-- parts in the order of reading: each before those in it, and those in it before those behind it,
-- without overlapping
abbrev pub AreInOrder : List PlainPart → Type 0
AreInOrder [] = Unit {0}
AreInOrder (p ∷ rest) = Follow p rest × AreInOrder rest

-- a part whose body stands within a text of so many bytes
abbrev pub StandsWithin : ℕ → Part → Type 0
StandsWithin size p = (p.body_at ≤ p.body_end) × (p.body_end ≤ size)
