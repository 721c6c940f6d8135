use Rattle.std.proofs.Common.{drop}
use Rattle.mail_base.specs.Series.{plain_texts}
use Rattle.pager.specs.Pager.{numbered}
use Rattle.pager.proofs.PagerLemmas.{plain_push, rows_turn, shown_push}
use Rattle.pager.proofs.ShownLemmas.{shown_utf8}
use Rattle.pager.proofs.pager.Pager.push_rows.Goals as goal

pub copy_of-requires : goal.copy_of-requires
copy_of-requires c = shown_utf8 c.args.self.now.cols c.row.result.now c.row.ensures.shown

pub loop-row-preserved : goal.loop-row-preserved
loop-row-preserved c =
    let pager = c.args.self.now in
    let more = plain_push c.loop-row.lines.items c.push.new.self.items _ c.row.result.now
    c.in_ok-push.ensures.ok c.in_ok-copy_of.ensures in
    record {
      rows = rows_turn (plain_texts c.loop-row.lines) (plain_texts c.push.new.self)
          (drop pager.top (numbered pager)) c.args.rows c.loop-row.row c.row.result.now more
          c.row.ensures.text c.loop-row-test.true c.loop-row.invariant.rows;
      shown = shown_push pager.cols (plain_texts c.loop-row.lines) (plain_texts c.push.new.self)
          c.row.result.now more c.loop-row.invariant.shown c.row.ensures.shown;
    }
