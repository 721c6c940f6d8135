use Rattle.std.proofs.Common.{◌≡◌, ◌∙◌, List, ap, option_map, subst}
use Rattle.std.specs.Prelude.{IfOk}
use Rattle.index_listed.specs.Seen.{PlainSight, sight}
use Rattle.index_listed.specs.declared.mark.Mark.{Mark}
use Rattle.index_view.specs.Limit.{all_within}
use Rattle.patterns_match.specs.Pattern.{plain_pattern}
use Rattle.index_view.specs.Marks.{marks_of}
use Rattle.index_view.proofs.answers.sight_of.Goals as goal

pub returns-clause-value : goal.returns-clause-value
returns-clause-value c =
    let people = c.args.tables.now.people in
    let limit = option_map plain_pattern c.args.tables.now.limit in
    let rows = c.args.rows.now in
    let stances = c.args.stances.now in
    let within = c.deref.ensures.value ∙ c.in_ok-within.ensures.value
    ∙ ap (all_within people limit) c.messages_of-messages.ensures in
    subst (λ (m : List Mark). IfOk c.new.result
    (λ (s : PlainSight). s ≡ sight m c.args.order.items stances))
    (c.deref-2.ensures.value ∙ c.in_ok-marks.ensures ∙ ap (marks_of rows) within)
    c.new.ensures
