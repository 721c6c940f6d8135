use Rattle.std.proofs.Common.{◌∙◌, ap, map, sym}
use Rattle.folder_letters.specs.Letters.{plain_letter}
use Rattle.rc_lang.specs.declared.quad.Quad.{Quad}
use Rattle.session_index.specs.Desk.{plain_desk}
use Rattle.session_index.specs.Syncing.{quit_by}
use Rattle.session_index.proofs.DeskLemmas.{beside_holds}
use Rattle.session_index.proofs.desk.Desk.begin_quit.Goals as goal

pub returns-in-No : goal.returns-in-No
returns-in-No c =
    let mails = map plain_letter c.args.archive.now.items in
    let d = c.args.self.now in
    beside_holds mails d c.say.new.self _ c.requires c.say.ensures.view (c.say.ensures.desk
    ∙ ap (λ (quit : Quad). quit_by quit c.args.rule mails (plain_desk d)) (sym c.in-No.is))

pub returns-in-AskYes : goal.returns-in-AskYes
returns-in-AskYes c =
    let mails = map plain_letter c.args.archive.now.items in
    let d = c.args.self.now in
    beside_holds mails d c.ask.new.self _ c.requires c.ask.ensures.view (c.ask.ensures.desk
    ∙ ap (λ (quit : Quad). quit_by quit c.args.rule mails (plain_desk d)) (sym c.in-AskYes.is))

pub returns-in-AskNo : goal.returns-in-AskNo
returns-in-AskNo c =
    let mails = map plain_letter c.args.archive.now.items in
    let d = c.args.self.now in
    let says = c.ask-in-AskNo in
    beside_holds mails d says.new.self _ c.requires says.ensures.view (says.ensures.desk
    ∙ ap (λ (quit : Quad). quit_by quit c.args.rule mails (plain_desk d)) (sym c.in-AskNo.is))
