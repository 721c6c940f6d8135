use Rattle.std.proofs.Common.{map, subst, sym}
use Rattle.folder_letters.specs.Letters.{plain_letter}
use Rattle.index_view.specs.View.{IsOf}
use Rattle.session.proofs.core_state.Core.act.Goals as goal

pub returns-in-Unbound-clause-over : goal.returns-in-Unbound-clause-over
returns-in-Unbound-clause-over g c = record {
  is_of = subst (IsOf (map plain_letter c.args.archive.now.items)) (sym c.say.ensures.view)
      c.requires.over.is_of;
  reads = c.requires.over.reads;
}

pub returns-in-Loop-clause-over : goal.returns-in-Loop-clause-over
returns-in-Loop-clause-over g c = record {
  is_of = subst (IsOf (map plain_letter c.args.archive.now.items)) (sym c.say-in-Loop.ensures.view)
      c.requires.over.is_of;
  reads = c.requires.over.reads;
}
