use Rattle.std.proofs.Common.{map, subst, sym}
use Rattle.folder_letters.specs.Letters.{plain_letter}
use Rattle.index_view.specs.View.{IsOf}
use Rattle.session_index.proofs.desk.Desk.do_matching.Goals as goal

pub act_on-requires : goal.act_on-requires
act_on-requires c = subst (IsOf (map plain_letter c.args.archive.now.items))
    (sym c.in_ok-ids.ensures.same.0) c.requires
