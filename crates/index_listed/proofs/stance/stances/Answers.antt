use Rattle.std.proofs.Common.{◌≡◌, arith, subst, sym}
use Rattle.std.proofs.lemmas.Grind.{common_steps}
use Rattle.index_listed.specs.Sight.{AreFirst, stances}
use Rattle.index_listed.proofs.SightLemmas.{first_stances}
use Rattle.index_listed.proofs.stance.stances.Goals as goal

pub returns-clause-first : goal.returns-clause-first
returns-clause-first c first =
    let value : c.loop-left.all.items ≡ stances c.args.threaded c.args.threads.now
    c.args.listed.now c.args.order.now = grind (arith, common_steps) in
    subst AreFirst (sym value) (first_stances c.args.threaded c.args.threads.now
    c.args.listed.now c.args.order.now first)
