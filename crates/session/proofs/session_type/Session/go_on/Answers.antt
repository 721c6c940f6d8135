use Rattle.std.proofs.Common.{◌∙◌, List, ap, map, sym}
use Rattle.std.proofs.lemmas.Result.{on_ok_weaker}
use Rattle.folder_letters.specs.Letters.{Mail, plain_letter}
use Rattle.session.specs.Core.{CoreState, plain_core}
use Rattle.session.specs.Runs.{acting, plain_session, with_core}
use Rattle.session.specs.Showing.{resumed}
use Rattle.session.proofs.ReadingLemmas.{goes_later, goes_now}
use Rattle.session.proofs.session_type.Session.go_on.Goals as goal

pub returns-then-waits_for_file-clause-on : goal.returns-then-waits_for_file-clause-on
returns-then-waits_for_file-clause-on g c given is notes =
    goes_later given (plain_core c.args.self.now.core).frames (plain_session c.args.self.now notes)
    (c.waits_for_file.ensures.some c.if-waits_for_file.true)

pub returns-clause-on : goal.returns-clause-on
returns-clause-on g c =
    let mails : List Mail = map plain_letter c.args.archive.now.items in
    on_ok_weaker c.settle.result (λ acts given is notes. acts given is notes
    ∙ ap (λ (d : CoreState). acting given (with_core d (plain_session c.args.self.now notes)))
    (c.in_ok-resume.ensures.core
    ∙ ap (λ (m : List Mail). resumed m (plain_core c.args.self.now.core)) (sym is.mails_are))
    ∙ goes_now given (plain_core c.args.self.now.core).frames
    (plain_session c.args.self.now notes)
    (c.waits_for_file.ensures.none c.if-waits_for_file.false)) c.settle.ensures.acting
