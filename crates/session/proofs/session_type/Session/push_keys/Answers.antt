use Rattle.std.proofs.Common.{◌∙◌, ◌++◌, List, ap, map, sym}
use Rattle.std.proofs.lemmas.List.{append-nil}
use Rattle.std.proofs.lemmas.Result.{on_ok_weaker}
use Rattle.folder_letters.specs.Letters.{Mail, plain_letter}
use Rattle.keymap.specs.declared.key.Key.{Key}
use Rattle.session_index.specs.Desk.{plain_desk}
use Rattle.session_index.specs.Opening.{begun}
use Rattle.session_state.specs.Rules.{put_all}
use Rattle.session.specs.Core.{plain_core}
use Rattle.session.specs.Runs.{acting, plain_session}
use Rattle.session.proofs.ReadingLemmas.{begins_later, begins_now, with_begun}
use Rattle.session.proofs.session_type.Session.push_keys.Goals as goal

pub returns-then-waits_for_file-clause-pushed : goal.returns-then-waits_for_file-clause-pushed
returns-then-waits_for_file-clause-pushed g c given is notes =
    begins_later given (plain_core c.args.self.now.core).frames
    (plain_session c.args.self.now notes)
    (c.waits_for_file.ensures.some c.if-waits_for_file.true)

pub returns-clause-pushed : goal.returns-clause-pushed
returns-clause-pushed g c =
    let mails : List Mail = map plain_letter c.args.archive.now.items in
    let d = plain_desk c.args.self.now.core.desk in
    let put = put_all c.args.self.now.core.rules.put in
    let keys = c.in_ok-put_into.ensures.keys ∙ ap (λ (l : List Key). put ++ l) c.new.ensures.items
    ∙ append-nil put in
    let none = c.in_ok-put_into.ensures.replaced ∙ c.new.ensures.replaced in
    let begins = c.begin.ensures mails c.requires.is_of in
    on_ok_weaker c.settle.result (λ acts given is notes.
    let desk = begins.same ∙ ap (λ (m : List Mail). begun m d) (sym is.mails_are) in
    acts given is notes
    ∙ (λ i. acting given (with_begun (desk i) (keys i) (none i)
    (c.in_ok-put_into.ensures.rules i) (plain_session c.args.self.now notes)))
    ∙ begins_now given (plain_core c.args.self.now.core).frames
    (plain_session c.args.self.now notes)
    (c.waits_for_file.ensures.none c.if-waits_for_file.false)) c.settle.ensures.acting
