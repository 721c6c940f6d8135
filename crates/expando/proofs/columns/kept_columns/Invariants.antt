use Rattle.std.proofs.Common.{◌≡◌, ◌+◌, ◌-◌, ◌≤◌, length, drop}
use Rattle.std.specs.Str.{chars}
use Rattle.expando.specs.Columns.{columns_in, kept, shown_text}
use Rattle.expando.proofs.ColumnsLemmas.{kept_from}
use Rattle.expando.proofs.columns.kept_columns.Given as goal

-- the columns that were counted, and those of the characters that are left
abbrev pub invariant-loop-c : goal.invariant-loop-c
invariant-loop-c l = record {
  counted : l.limit - l.left + columns_in
      (kept_from l.left (drop (length l.yielded) (chars l.text)))
      ≡ columns_in (kept l.limit (shown_text l.text));
  within : l.left ≤ l.limit;
}
