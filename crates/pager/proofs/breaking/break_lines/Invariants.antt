use Rattle.std.proofs.Common.{◌≡◌, ◌++◌, true, length, drop, map}
use Rattle.std.specs.List.{list_all}
use Rattle.pager.specs.Broken.{is_shown}
use Rattle.pager.specs.Inner.{fresh, unquoted_places}
use Rattle.pager.specs.Pager.{broken_lines}
use Rattle.pager.proofs.breaking.break_lines.Given as goal

-- what was added, and what the lines that are left add
abbrev pub invariant-loop-line : goal.invariant-loop-line
invariant-loop-line l =
    let cols = l.initial.breaker.cols in
    let left = map (λ line. line.items) (drop l.line-index l.lines) in
    record {
      fresh : l.breaker ≡ fresh cols l.breaker.done;
      shown : list_all (is_shown cols) l.breaker.done ≡ true;
      pieces : l.breaker.done ++ broken_lines cols left
          ≡ l.initial.breaker.done ++ broken_lines cols (map (λ line. line.items) l.lines);
      places : l.unquoted.items ++ unquoted_places cols (length l.breaker.done) left
          ≡ l.initial.unquoted.items ++ unquoted_places cols (length l.initial.breaker.done)
          (map (λ line. line.items) l.lines);
    }
