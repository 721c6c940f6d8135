use Rattle.std.proofs.Common.{◌∙◌, Some, map, sym}
use Rattle.folder_letters.specs.Letters.{plain_letter}
use Rattle.session_index.specs.declared.desk.Desk.{Desk}
use Rattle.session_index.proofs.DeskLemmas.{holds_as, quiet_holds, searches_first, silent_holds}
use Rattle.session_index.proofs.DeskLemmas.{spoken_holds}
use Rattle.session_index.proofs.desk.Desk.search_for.Goals as goal

pub returns-in-Some : goal.returns-in-Some
returns-in-Some c =
    let mails = map plain_letter c.args.archive.now.items in
    let d = c.args.self.now in
    let is = c.requires in
    let keeping : Desk = record d { search = Some c.search.new.pattern } in
    holds_as mails c.say.new.self _ _
    (searches_first mails d is _ c.args.pattern c.in_ok-notice.ensures.pattern)
    (spoken_holds mails _ _ _
    (quiet_holds mails keeping is _ c.search.new.view c.in_ok-notice.ensures.gone)
    c.in-Some.notice c.say.new.self (sym c.in-Some.is ∙ c.in_ok-notice.ensures.way)
    c.say.ensures.desk c.say.ensures.view)

pub returns-in_default : goal.returns-in_default
returns-in_default c =
    let mails = map plain_letter c.args.archive.now.items in
    let d = c.args.self.now in
    let is = c.requires in
    let keeping : Desk = record d { search = Some c.search.new.pattern } in
    holds_as mails _ _ _
    (searches_first mails d is _ c.args.pattern c.in_ok-notice.ensures.pattern)
    (silent_holds mails _ _ _
    (quiet_holds mails keeping is _ c.search.new.view c.in_ok-notice.ensures.gone)
    (sym c.in_default.is ∙ c.in_ok-notice.ensures.way))
