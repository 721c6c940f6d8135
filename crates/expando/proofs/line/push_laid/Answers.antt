use Rattle.expando.proofs.LineLemmas.{gap_turn, rest_turn}
use Rattle.expando.proofs.line.push_laid.Goals as goal

pub loop-rest-preserved-in_ok-push_filled-in-Gap : goal.loop-rest-preserved-in_ok-push_filled-in-Gap
loop-rest-preserved-in_ok-push_filled-in-Gap c =
    gap_turn c.loop-rest.line.items c.push_filled.new.line.items _ c.loop-rest.rest.now _ c.in-Gap.c
    c.loop-rest.gap
    c.loop-rest.left c.min-columns.result c.in-len1-up.len_at_least c.in-Gap.is
    c.min-columns.ensures
    c.in_ok-push_filled-in-Gap.ensures c.loop-rest.invariant

pub loop-rest-preserved : goal.loop-rest-preserved
loop-rest-preserved c =
    rest_turn c.loop-rest.line.items c.push_filled-in-Rest.new.line.items _ c.loop-rest.rest.now _
    c.in-Rest.c
    c.loop-rest.gap c.loop-rest.left c.in-len1-up.len_at_least c.in-Rest.is
    c.in_ok-push_filled-in-Rest.ensures c.loop-rest.invariant
