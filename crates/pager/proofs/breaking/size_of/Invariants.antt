use Rattle.std.proofs.Common.{◌≡◌, ◌≤◌, ◌+◌, ◌-◌, ◌^◌, drop, map, min}
use Rattle.pager.specs.Inner.{size_in}
use Rattle.pager.proofs.PagerLemmas.{bytes_in}
use Rattle.pager.proofs.breaking.size_of.Given as goal

-- what was counted, and what the lines that are left have
abbrev pub invariant-loop-line : goal.invariant-loop-line
invariant-loop-line l = record {
  fits : l.size ≤ 2 ^ 64 - 1;
  counted : min (l.size + bytes_in (drop l.line-index l.lines)) (2 ^ 64 - 1)
      ≡ size_in (map (λ line. line.items) l.lines);
}
