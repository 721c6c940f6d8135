use Rattle.std.proofs.Common.{◌≡◌, ◌∙◌, List, ap, map}
use Rattle.std.proofs.lemmas.Result.{IfOk-weaker}
use Rattle.folder_letters.specs.Letters.{plain_letter}
use Rattle.keymap.specs.declared.menu.Menu.{Menu}
use Rattle.keymap.specs.declared.menu.Menu.TheVariants as menu
use Rattle.mail_base.specs.Series.{plain_texts}
use Rattle.rc_lang.specs.Values.{PlainValue}
use Rattle.session_screen.specs.Screen.{page_lines as lines_of_page}
use Rattle.session_state.specs.Rules.{weeding_of}
use Rattle.session.specs.Core.{plain_core, shown_menu}
use Rattle.session.specs.Screen.{lines_in, page_lines}
use Rattle.session.proofs.ShownLemmas.{index_lines, lines_shown}
use Rattle.session.proofs.screen.body_lines.Goals as goal

pub returns-in-Attach : goal.returns-in-Attach
returns-in-Attach c =
    let mails = map plain_letter c.args.archive.now.items in
    let core = plain_core c.args.core.now in
    let window = c.args.window in
    let is : menu.Attach ≡ shown_menu core = c.in-Attach.ensures in
    let rest : lines_in mails window menu.Attach core ≡ page_lines mails window core =
    ap (λ (m : Menu). lines_in mails window m core) is in
    IfOk-weaker c.part_lines.result _ (λ lines. plain_texts lines ≡ page_lines mails window core)
    (λ lines told. told mails window.cols (weeding_of core.rules) c.requires.over.reads ∙ rest)
    c.part_lines.ensures.value

pub returns-in_default : goal.returns-in_default
returns-in_default c =
    let mails = map plain_letter c.args.archive.now.items in
    let view = c.args.core.now.desk.view in
    let core = plain_core c.args.core.now in
    let window = c.args.window in
    let settings = c.settings.result.now in
    let is : c.menu.result ≡ shown_menu core = c.menu.ensures in
    let rest : lines_of_page mails settings window view ≡ page_lines mails window core =
    ap (λ (vs : List PlainValue). lines_of_page mails vs window view) c.settings.ensures
    ∙ lines_shown mails view core.rules.settings window c.requires.over.is_of
    ∙ index_lines mails window c.menu.result core c.in_default.not-Pager c.in_default.not-Attach
    ∙ ap (λ (m : Menu). lines_in mails window m core) is in
    IfOk-weaker c.page_lines-in_default.result _
    (λ lines. plain_texts lines ≡ page_lines mails window core) (λ lines shown. shown ∙ rest)
    c.page_lines-in_default.ensures
