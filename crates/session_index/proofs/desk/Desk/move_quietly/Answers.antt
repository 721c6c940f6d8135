use Rattle.std.proofs.Common.{map, subst}
use Rattle.folder_letters.specs.Letters.{plain_letter}
use Rattle.session_index.specs.Desk.{Holds, plain_desk}
use Rattle.session_index.specs.Effects.{went_quietly}
use Rattle.index_functions.specs.declared.way.Way.{Way}
use Rattle.session_index.proofs.DeskLemmas.{motion_leads, quiet_holds}
use Rattle.session_index.proofs.desk.Desk.move_quietly.Goals as goal

pub returns : goal.returns
returns c =
    let mails = map plain_letter c.args.archive.now.items in
    let d = c.args.self.now in
    let is = c.requires.is_of in
    subst (λ (w : Way). Holds mails (went_quietly mails w (plain_desk d))
    (record d { view = c.go.new.view })) (motion_leads mails d is c.args.rule c.args.motion)
    (quiet_holds mails d is _ c.go.new.view c.in_ok-go.ensures.gone)
