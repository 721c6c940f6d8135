use Rattle.people.proofs.JudgedLemmas.{pushed_distinct}
use Rattle.people.proofs.verdicts.Kept.add.Goals as goal

pub invariant_of-self : goal.invariant_of-self
invariant_of-self c =
    pushed_distinct c.push.result c.self.inside.list.items c.push.new.self.items c.args.self.now
    c.args.judged
    c.self.view_is c.push.ensures.ok c.push.ensures.err c.self.invariant c.requires
