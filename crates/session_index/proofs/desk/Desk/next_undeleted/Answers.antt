use Rattle.std.proofs.Common.{◌∙◌, ap, map, subst}
use Rattle.folder_letters.specs.Letters.{plain_letter}
use Rattle.session_index.specs.Desk.{Holds, plain_desk}
use Rattle.session_index.specs.Effects.{went_quietly}
use Rattle.session_index.specs.Viewing.{leads}
use Rattle.index_functions.specs.declared.motion.Motion.TheVariants.{NextUndeleted}
use Rattle.index_functions.specs.declared.way.Way.{Way}
use Rattle.session_index.proofs.DeskLemmas.{motion_leads, quiet_holds}
use Rattle.session_index.proofs.ViewingLemmas.{silent_leads}
use Rattle.session_index.proofs.desk.Desk.next_undeleted.Goals as goal

pub returns-clause-found : goal.returns-clause-found
returns-clause-found c =
    let mails = map plain_letter c.args.archive.now.items in
    silent_leads _ _ c.in_ok-notice.notice c.is_none.ensures c.in_ok-notice.ensures.way
    ∙ ap leads (motion_leads mails c.args.self.now c.requires.is_of c.args.rule NextUndeleted)

pub returns-clause-moved : goal.returns-clause-moved
returns-clause-moved c =
    let mails = map plain_letter c.args.archive.now.items in
    let d = c.args.self.now in
    let is = c.requires.is_of in
    subst (λ (w : Way). Holds mails (went_quietly mails w (plain_desk d))
    (record d { view = c.go.new.view })) (motion_leads mails d is c.args.rule NextUndeleted)
    (quiet_holds mails d is _ c.go.new.view c.in_ok-notice.ensures.gone)
