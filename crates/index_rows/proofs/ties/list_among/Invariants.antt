use Rattle.std.proofs.Common.{◌≡◌, length, map}
use Rattle.headers.specs.Person.{plain_person}
use Rattle.index_rows.specs.Ties.{list_among}
use Rattle.index_rows.proofs.ties.list_among.Given as goal

-- fewer persons are left
abbrev pub decreases-loop-left : goal.decreases-loop-left
decreases-loop-left l = length l.left

-- the tables are as before, and the list is the one among those who are left
abbrev pub invariant-loop-left : goal.invariant-loop-left
invariant-loop-left l = (l.people ≡ l.fn.people)
    × (list_among l.fn.people (map plain_person l.left)
    ≡ list_among l.fn.people (map plain_person l.persons))
