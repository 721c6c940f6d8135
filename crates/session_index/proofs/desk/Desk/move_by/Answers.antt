use Rattle.std.proofs.Common.{◌∙◌, map, subst, sym}
use Rattle.folder_letters.specs.Letters.{plain_letter}
use Rattle.session_index.specs.Desk.{Holds, plain_desk}
use Rattle.session_index.specs.Effects.{went}
use Rattle.index_functions.specs.declared.way.Way.{Way}
use Rattle.session_index.proofs.DeskLemmas.{motion_leads, quiet_holds, silent_holds, spoken_holds}
use Rattle.session_index.proofs.desk.Desk.move_by.Goals as goal

pub returns-in-Some : goal.returns-in-Some
returns-in-Some c =
    let mails = map plain_letter c.args.archive.now.items in
    let d = c.args.self.now in
    let is = c.requires.is_of in
    subst (λ (w : Way). Holds mails (went mails w (plain_desk d)) c.say.new.self)
    (motion_leads mails d is c.args.rule c.args.motion)
    (spoken_holds mails _ (plain_desk d) _
    (quiet_holds mails d is _ c.go.new.view c.in_ok-notice.ensures.gone) c.in-Some.notice
    c.say.new.self (sym c.in-Some.is ∙ c.in_ok-notice.ensures.way) c.say.ensures.desk
    c.say.ensures.view)

pub returns-in_default : goal.returns-in_default
returns-in_default c =
    let mails = map plain_letter c.args.archive.now.items in
    let d = c.args.self.now in
    let is = c.requires.is_of in
    subst (λ (w : Way). Holds mails (went mails w (plain_desk d))
    (record d { view = c.go.new.view })) (motion_leads mails d is c.args.rule c.args.motion)
    (silent_holds mails _ (plain_desk d) _
    (quiet_holds mails d is _ c.go.new.view c.in_ok-notice.ensures.gone)
    (sym c.in_default.is ∙ c.in_ok-notice.ensures.way))
