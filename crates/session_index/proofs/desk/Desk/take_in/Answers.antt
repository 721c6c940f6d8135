use Rattle.std.proofs.Common.{map}
use Rattle.std.proofs.lemmas.Result.{on_ok_weaker}
use Rattle.folder_letters.specs.Letters.{plain_letter}
use Rattle.session_index.proofs.DeskLemmas.{shown_holds}
use Rattle.session_index.proofs.IndexLemmas.{turned_shows}
use Rattle.session_index.proofs.JoinedLemmas.{took_turned}
use Rattle.session_index.proofs.desk.Desk.take_in.Goals as goal

pub returns-clause-ok : goal.returns-clause-ok
returns-clause-ok c =
    let mails = map plain_letter c.args.archive.now.items in
    let d = c.args.self.now in
    let v = c.take_delta.new.self in
    on_ok_weaker c.take_delta.result (λ took. shown_holds mails d _ v
    (turned_shows mails d.view v _ c.requires.is_of
    (took_turned mails c.args.found.now d.view v took))) c.take_delta.ensures.ok
