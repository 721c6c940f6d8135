use Rattle.std.proofs.Common.{map, subst, sym}
use Rattle.folder_letters.specs.Letters.{plain_letter}
use Rattle.index_view.specs.View.{IsOf}
use Rattle.session.proofs.core_state.Core.type_key.Goals as goal

pub heed-requires-clause-over : goal.heed-requires-clause-over
heed-requires-clause-over g c = record {
  is_of = subst (IsOf (map plain_letter c.args.archive.now.items)) (sym c.type_key.ensures.view)
      c.requires.over.is_of;
  reads = c.requires.over.reads;
}
