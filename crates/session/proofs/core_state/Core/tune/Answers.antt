use Rattle.std.proofs.Common.{◌≡◌, ◌∙◌, ap, map}
use Rattle.std.proofs.lemmas.Result.{on_ok_weaker}
use Rattle.folder_letters.specs.Letters.{plain_letter}
use Rattle.index_order.specs.declared.view_options.ViewOptions.{ViewOptions}
use Rattle.session_index.specs.Desk.{plain_desk}
use Rattle.session_index.specs.Opening.{tuned}
use Rattle.session_screen.specs.Tuning.{options_of}
use Rattle.session.specs.Core.{plain_core, with_desk}
use Rattle.session.proofs.CoreLemmas.{stands_as, stands_by}
use Rattle.session.proofs.core_state.Core.tune.Goals as goal

pub returns : goal.returns
returns c =
    let mails = map plain_letter c.args.archive.now.items in
    let core = c.args.self.now in
    let is : c.options_of-options.result ≡ options_of core.rules.settings =
    c.options_of-options.ensures ∙ ap options_of c.settings.ensures in
    on_ok_weaker c.tune.result (λ holds. stands_as mails _ _ _
    (ap (λ (o : ViewOptions). with_desk (tuned mails o (plain_desk core.desk)) (plain_core core))
    is)
    (stands_by mails core c.tune.new.self _ holds)) c.tune.ensures
