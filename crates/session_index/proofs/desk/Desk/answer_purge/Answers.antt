use Rattle.std.proofs.Common.{◌∙◌, Bool, ap, map, sym}
use Rattle.std.proofs.lemmas.Result.{on_ok_weaker}
use Rattle.folder_letters.specs.Letters.{plain_letter}
use Rattle.session_index.specs.Desk.{plain_desk}
use Rattle.session_index.specs.Syncing.{purge_answered}
use Rattle.session_index.proofs.DeskLemmas.{beside_holds}
use Rattle.session_index.proofs.desk.Desk.answer_purge.Goals as goal

pub returns : goal.returns
returns c =
    let mails = map plain_letter c.args.archive.now.items in
    let d = c.args.self.now in
    let syncs = ap (λ (quits : Bool). purge_answered c.args.rule mails c.args.purge quits
    (plain_desk d)) (sym c.if-quits.false) in
    on_ok_weaker c.answer_sync.result (λ answers. beside_holds mails d c.answer_sync.new.self _
    c.requires c.answer_sync.ensures.view (answers ∙ syncs)) c.answer_sync.ensures.desk
