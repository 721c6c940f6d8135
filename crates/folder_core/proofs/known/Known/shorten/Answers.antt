use Rattle.std.proofs.Common.{arith, subst, sym, take}
use Rattle.std.proofs.lemmas.List.{take_min}
use Rattle.folder_core.specs.Known.{KnownFolder}
use Rattle.folder_core.specs.Right.{Right}
use Rattle.folder_core.proofs.ShortenedLemmas.{front_count, front_take, right_shortened}
use Rattle.folder_core.proofs.known.Known.shorten.Goals as goal

pub shorten-requires : goal.shorten-requires
shorten-requires c = grind (arith, front_count)

pub returns-clause-shortened : goal.returns-clause-shortened
returns-clause-shortened c = grind (arith, front_take, take_min)

pub returns-clause-right : goal.returns-clause-right
returns-clause-right c mails told few right =
    subst (λ (k : KnownFolder). Right c.args.self.now.kind (take c.args.letters mails) k told)
    (sym (returns-clause-shortened c))
    (right_shortened c.args.letters mails c.args.self.now told few right)
