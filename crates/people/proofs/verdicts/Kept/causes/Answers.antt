use Rattle.std.proofs.Common.{subst}
use Rattle.std.specs.List.{All}
use Rattle.people.specs.Judged.{IsCaused}
use Rattle.people.proofs.JudgedLemmas.{all_caused}
use Rattle.people.proofs.verdicts.Kept.causes.Goals as goal

pub returns : goal.returns
returns c = subst (All IsCaused) c.self.view_is (all_caused c.self.inside.list.items)
