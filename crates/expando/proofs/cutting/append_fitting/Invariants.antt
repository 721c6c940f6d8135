use Rattle.std.proofs.Common.{◌≡◌, ◌++◌, length, drop, map}
use Rattle.std.specs.Str.{chars, encode_utf8_all}
use Rattle.expando.specs.Columns.{shown_char}
use Rattle.expando.specs.Cut.{cut, fitting}
use Rattle.expando.proofs.cutting.append_fitting.Given as goal

-- what was added, and what the characters that are left add
abbrev pub invariant-loop-c : goal.invariant-loop-c
invariant-loop-c l =
    l.line.items ++ encode_utf8_all
    (fitting l.left (map shown_char (drop (length l.yielded) (chars l.text))))
    ≡ l.initial.line.items ++ cut l.cols l.text
