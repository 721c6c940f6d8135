use Rattle.std.proofs.Common.{◌∙◌}
use Rattle.mh_appends.proofs.Leaving.{counts_gone, gone_anyway, not_gone, taken, takes_none}
use Rattle.mh_appends.proofs.Leaving.{takes_removed}
use Rattle.mh_appends.proofs.leftovers.take_away.Goals as goal

pub returns-in_err-at-clause-takes : goal.returns-in_err-at-clause-takes
returns-in_err-at-clause-takes g c = takes_none c.args.path.now _

pub returns-in-Ok-clause-takes : goal.returns-in-Ok-clause-takes
returns-in-Ok-clause-takes g c =
    takes_removed c.args.path.now c.args.word.now c.requires
    (c.as_str.ensures.value ∙ c.in_ok-at.ensures) c.in-Ok.ensures.called

pub returns-in-Ok-clause-taken : goal.returns-in-Ok-clause-taken
returns-in-Ok-clause-taken g c =
    taken c.args.path.now c.args.word.now c.requires (c.as_str.ensures.value ∙ c.in_ok-at.ensures)
    c.in-Ok.ensures.called

pub returns : goal.returns
returns g c = record {
  takes = takes_removed c.args.path.now c.args.word.now c.requires
      (c.as_str.ensures.value ∙ c.in_ok-at.ensures) c.in-Err.ensures.called;
  taken = gone_anyway c.args.path.now c.args.word.now c.in-Err.why c.unless_missing.result
      c.unless_missing.ensures (c.as_str.ensures.value ∙ c.in_ok-at.ensures)
      c.in-Err.ensures.called;
  fails = not_gone c.args.path.now c.args.word.now c.in-Err.why c.unless_missing.result
      c.unless_missing.ensures (c.as_str.ensures.value ∙ c.in_ok-at.ensures)
      c.in-Err.ensures.called;
  counts = counts_gone c.args.path.now c.in-Err.why c.unless_missing.result
      c.unless_missing.ensures c.in-Err.ensures.counts;
}
