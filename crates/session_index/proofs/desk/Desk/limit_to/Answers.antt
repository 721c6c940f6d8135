use Rattle.std.proofs.Common.{map}
use Rattle.std.proofs.lemmas.Result.{on_ok_weaker}
use Rattle.folder_letters.specs.Letters.{plain_letter}
use Rattle.session_index.proofs.DeskLemmas.{shown_holds}
use Rattle.session_index.proofs.IndexLemmas.{turned_shows}
use Rattle.session_index.proofs.desk.Desk.limit_to.Goals as goal

pub returns : goal.returns
returns c =
    let mails = map plain_letter c.args.archive.now.items in
    let d = c.args.self.now in
    let v = c.set_limit.new.self in
    on_ok_weaker c.set_limit.result (λ turned. shown_holds mails d _ v
    (turned_shows mails d.view v _ c.requires turned)) c.set_limit.ensures.ok
