use Rattle.std.proofs.Common.{◌∙◌, ap}
use Rattle.pager.specs.Inner.{put}
use Rattle.pager.proofs.BreakerLemmas.{blanks_next}
use Rattle.pager.proofs.breaker.Breaker.put_blanks.Goals as goal

pub loop-i-preserved : goal.loop-i-preserved
loop-i-preserved c =
    c.in_ok-put.ensures ∙ ap (λ l. put l 32) c.loop-i.invariant
    ∙ blanks_next c.args.self.now c.loop-i._i
