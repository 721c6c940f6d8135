use Rattle.std.proofs.Common.{◌∙◌, ap, map, subst, sym}
use Rattle.folder_letters.specs.Letters.{plain_letter}
use Rattle.index_order.specs.Order.{is_threads}
use Rattle.index_order.specs.declared.view_options.ViewOptions.{ViewOptions}
use Rattle.index_view.specs.View.{IsOf}
use Rattle.session_index.proofs.desk.Desk.fold.Goals as goal

pub returns-then-not-is_threads : goal.returns-then-not-is_threads
returns-then-not-is_threads c =
    let mails = map plain_letter c.args.archive.now.items in
    let threads = ap (λ (o : ViewOptions). is_threads o.sort) (sym c.options.ensures)
    ∙ sym c.is_threads.ensures ∙ c.if-not-is_threads.true in
    record {
      is_of = subst (IsOf mails) (sym c.say.ensures.view) c.requires;
      same = rw threads c.say.ensures.desk;
    }
