use Rattle.std.proofs.Common.{◌∙◌, Option, Some, ap, map, subst, sym}
use Rattle.std.specs.Prelude.{option_map}
use Rattle.folder_letters.specs.Letters.{plain_letter}
use Rattle.patterns_match.specs.Pattern.{plain_pattern}
use Rattle.index_view.specs.View.{IsOf}
use Rattle.patterns_match.specs.declared.pattern.Pattern.{Pattern}
use Rattle.session_index.specs.Desk.{plain_desk}
use Rattle.session_index.specs.Effects.{searched}
use Rattle.session_index.specs.declared.desk.Desk.{Desk}
use Rattle.session_index.proofs.DeskLemmas.{holds_as, quiet_holds, searches_again, silent_holds}
use Rattle.session_index.proofs.DeskLemmas.{spoken_holds}
use Rattle.session_index.proofs.desk.Desk.search_again.Goals as goal

pub returns-in_default : goal.returns-in_default
returns-in_default c =
    let mails = map plain_letter c.args.archive.now.items in
    let d = c.args.self.now in
    record {
      is_of = subst (IsOf mails) (sym c.ask.ensures.view) c.requires;
      same = c.ask.ensures.desk ∙ ap (λ (s : Option Pattern). searched mails
          (option_map plain_pattern s) (plain_desk d)) (sym c.in_default.is);
    }

pub returns-in-Some-2 : goal.returns-in-Some-2
returns-in-Some-2 c =
    let mails = map plain_letter c.args.archive.now.items in
    let d = c.args.self.now in
    let is = c.requires in
    let keeping : Desk = record d { search = Some c.search.new.pattern } in
    holds_as mails c.say.new.self _ _
    (searches_again mails d is _ c.in-Some.pattern c.in_ok-notice.ensures.pattern c.in-Some.is)
    (spoken_holds mails _ _ _
    (quiet_holds mails keeping is _ c.search.new.view c.in_ok-notice.ensures.gone)
    c.in-Some-2.notice c.say.new.self (sym c.in-Some-2.is ∙ c.in_ok-notice.ensures.way)
    c.say.ensures.desk c.say.ensures.view)

pub returns-in_default-2 : goal.returns-in_default-2
returns-in_default-2 c =
    let mails = map plain_letter c.args.archive.now.items in
    let d = c.args.self.now in
    let is = c.requires in
    let keeping : Desk = record d { search = Some c.search.new.pattern } in
    holds_as mails _ _ _
    (searches_again mails d is _ c.in-Some.pattern c.in_ok-notice.ensures.pattern c.in-Some.is)
    (silent_holds mails _ _ _
    (quiet_holds mails keeping is _ c.search.new.view c.in_ok-notice.ensures.gone)
    (sym c.in_default-2.is ∙ c.in_ok-notice.ensures.way))
