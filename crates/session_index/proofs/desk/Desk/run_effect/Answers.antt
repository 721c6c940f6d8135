use Rattle.std.proofs.Common.{map, subst, sym}
use Rattle.folder_letters.specs.Letters.{plain_letter}
use Rattle.index_view.specs.View.{IsOf}
use Rattle.session_index.proofs.desk.Desk.run_effect.Goals as goal

pub returns-in_default : goal.returns-in_default
returns-in_default c =
    let mails = map plain_letter c.args.archive.now.items in
    record {
      is_of = subst (IsOf mails) (sym c.put.ensures.view) c.requires.is_of;
      same = c.put.ensures.desk c.args.rule mails;
    }
