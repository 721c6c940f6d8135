use Rattle.std.proofs.Common.{◌≡◌, map}
use Rattle.std.specs.List.{list_any}
use Rattle.bstr.specs.Text.{lines_of, without_terminator}
use Rattle.patterns_match.specs.Sought.{sought_found}
use Rattle.patterns_match.proofs.body.raw_found.Given as goal

-- it is found in a line that is left or nowhere
abbrev pub invariant-loop-line : goal.invariant-loop-line
invariant-loop-line l =
    list_any (sought_found l.sought) l.line-iterator
    ≡ list_any (sought_found l.sought) (map without_terminator (lines_of l.fn.body))
