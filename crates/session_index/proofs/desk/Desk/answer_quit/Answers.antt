use Rattle.std.proofs.Common.{◌∙◌, ap, map}
use Rattle.std.proofs.lemmas.Result.{on_ok_weaker}
use Rattle.folder_letters.specs.Letters.{plain_letter}
use Rattle.session_index.specs.Syncing.{aged_if, ended}
use Rattle.session_index.proofs.DeskLemmas.{beside_holds}
use Rattle.session_index.proofs.desk.Desk.answer_quit.Goals as goal

pub returns : goal.returns
returns c =
    let mails = map plain_letter c.args.archive.now.items in
    let rule = c.args.rule in
    let before = ap (aged_if mails rule.mark_old) c.in_ok-drop_unless.ensures.same in
    let aged = c.in_ok-age_if.ensures in
    on_ok_weaker c.end.result (λ ends. beside_holds mails c.age_if.new.self c.end.new.self _
    aged.is_of c.end.ensures.view
    (ends ∙ ap (ended rule.kind c.args.purge) (aged.same ∙ before))) c.end.ensures.desk
