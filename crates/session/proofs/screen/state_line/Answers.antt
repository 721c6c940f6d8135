use Rattle.std.proofs.Common.{◌≡◌, ◌∙◌, List, None, Option, Some, ap, map}
use Rattle.std.proofs.lemmas.Result.{IfOk-weaker}
use Rattle.folder_letters.specs.Letters.{plain_letter}
use Rattle.mail_base.specs.declared.kind.Id.{Id}
use Rattle.rc_lang.specs.Values.{PlainValue}
use Rattle.session_pager.specs.Reader.{shown_id}
use Rattle.session_screen.specs.PagerStatus.{pager_line}
use Rattle.session_screen.specs.Status.{plain_banner, status_line as line_of_status}
use Rattle.session.specs.Core.{plain_core}
use Rattle.session.specs.Screen.{banner_of, plain_place, status_in, status_line}
use Rattle.session.proofs.ShownLemmas.{pager_shown, status_shown}
use Rattle.session.proofs.screen.state_line.Goals as goal

pub returns-in-Some : goal.returns-in-Some
returns-in-Some c =
    let mails = map plain_letter c.args.archive.now.items in
    let view = c.args.core.now.desk.view in
    let core = plain_core c.args.core.now in
    let window = c.args.window in
    let folder = plain_place c.args.place in
    let id = c.in-Some.id in
    let settings = c.settings-settings.result.now in
    let is : Some id ≡ shown_id core.reader = c.in-Some.ensures in
    let rest : pager_line mails settings window view id ≡ status_line mails window folder core =
    ap (λ (vs : List PlainValue). pager_line mails vs window view id) c.settings-settings.ensures
    ∙ pager_shown mails view core.rules.settings window id c.requires.over.is_of
    ∙ ap (λ (o : Option Id). status_in mails window folder o core) is in
    IfOk-weaker c.pager_line.result _
    (λ line. line.items ≡ status_line mails window folder core) (λ line shown. shown ∙ rest)
    c.pager_line.ensures

pub returns-in-None : goal.returns-in-None
returns-in-None c =
    let mails = map plain_letter c.args.archive.now.items in
    let view = c.args.core.now.desk.view in
    let core = plain_core c.args.core.now in
    let window = c.args.window in
    let folder = plain_place c.args.place in
    let settings = c.settings-settings.ensures in
    let banner : plain_banner c.banner.result ≡ banner_of folder core = c.banner.ensures in
    let is : None ≡ shown_id core.reader = c.in-None.ensures in
    let rest : line_of_status window c.settings-settings.result.now (plain_banner c.banner.result)
    view ≡ status_line mails window folder core =
    (λ i. line_of_status window (settings i) (banner i) view)
    ∙ status_shown mails view core.rules.settings window (banner_of folder core)
    c.requires.over.is_of
    ∙ ap (λ (o : Option Id). status_in mails window folder o core) is in
    IfOk-weaker c.status_line.result _
    (λ line. line.items ≡ status_line mails window folder core) (λ line shown. shown ∙ rest)
    c.status_line.ensures
