use Rattle.std.proofs.Common.{◌∙◌, Option, ap, map, subst, sym}
use Rattle.folder_letters.specs.Letters.{plain_letter}
use Rattle.index_view.specs.View.{IsOf}
use Rattle.session_index.specs.Desk.{plain_desk}
use Rattle.session_index.specs.Effects.{said}
use Rattle.session_index.specs.Opening.{said_if, taken_if}
use Rattle.index_functions.specs.declared.notice.Notice.{Notice}
use Rattle.session_index.proofs.desk.Desk.check_in.Goals as goal

pub returns-in-Some-clause-ok : goal.returns-in-Some-clause-ok
returns-in-Some-clause-ok c =
    let mails = map plain_letter c.args.archive.now.items in
    let found = c.args.found.now in
    let taken = taken_if mails found found.gone.items found.reflagged.items found.came.items
    (plain_desk c.args.self.now) in
    record {
      is_of = subst (IsOf mails) (sym c.say.ensures.view) c.in_ok-take_quietly.ensures.ok.is_of;
      same = c.say.ensures.desk ∙ ap (said c.in-Some.notice) c.in_ok-take_quietly.ensures.ok.same
          ∙ ap (λ (o : Option Notice). said_if o taken)
          (sym c.in-Some.is ∙ c.found_notice.ensures);
    }
