use Rattle.std.proofs.Common.{◌∙◌, ℕ, ap, false, map, sym, true}
use Rattle.folder_letters.specs.Letters.{plain_letter}
use Rattle.prompts.specs.declared.asking.Asking.TheVariants.{Purge}
use Rattle.rc_lang.specs.declared.quad.Quad.{Quad}
use Rattle.session_index.specs.Desk.{asked, plain_desk}
use Rattle.session_index.specs.Syncing.{purge_by}
use Rattle.session_index.proofs.DeskLemmas.{beside_holds}
use Rattle.session_index.proofs.desk.Desk.purge_by.Goals as goal

pub returns-in-AskYes : goal.returns-in-AskYes
returns-in-AskYes c =
    let mails = map plain_letter c.args.archive.now.items in
    let d = c.args.self.now in
    let quits = c.args.quits in
    beside_holds mails d c.ask.new.self _ c.requires c.ask.ensures.view (c.ask.ensures.desk
    ∙ ap (λ (n : ℕ). asked (Purge n true quits) (plain_desk d)) c.deleted_count-count.ensures
    ∙ ap (λ (delete : Quad). purge_by delete c.args.rule mails quits (plain_desk d))
    (sym c.in-AskYes.is))

pub returns-in-AskNo : goal.returns-in-AskNo
returns-in-AskNo c =
    let mails = map plain_letter c.args.archive.now.items in
    let d = c.args.self.now in
    let quits = c.args.quits in
    let says = c.ask-in-AskNo in
    beside_holds mails d says.new.self _ c.requires says.ensures.view (says.ensures.desk
    ∙ ap (λ (n : ℕ). asked (Purge n false quits) (plain_desk d)) c.deleted_count-count.ensures
    ∙ ap (λ (delete : Quad). purge_by delete c.args.rule mails quits (plain_desk d))
    (sym c.in-AskNo.is))
