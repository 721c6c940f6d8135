use Rattle.std.proofs.Common.{◌≡◌, ◌++◌, [], true, take, drop, replicate}
use Rattle.std.specs.List.{list_all}
use Rattle.mail_base.specs.Series.{plain_texts}
use Rattle.pager.specs.Broken.{is_shown}
use Rattle.pager.specs.Pager.{numbered}
use Rattle.pager.proofs.pager.Pager.push_rows.Given as goal

abbrev pub invariant-loop-row : goal.invariant-loop-row
invariant-loop-row l = record {
  rows : plain_texts l.lines
      ≡ take l.row (drop l.self.top (numbered l.self) ++ replicate l.rows []);
  shown : list_all (is_shown l.self.cols) (plain_texts l.lines) ≡ true;
}
