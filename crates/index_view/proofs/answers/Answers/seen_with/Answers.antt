use Rattle.std.proofs.Common.{◌≡◌, ◌∙◌, ap, map, option_map, subst}
use Rattle.std.specs.Prelude.{IfOk}
use Rattle.index_listed.specs.Listed.{plain_listed}
use Rattle.index_listed.specs.Seen.{PlainSight, sight}
use Rattle.index_view.specs.Answers.{PlainAnswers}
use Rattle.index_view.specs.Limit.{all_within}
use Rattle.patterns_match.specs.Pattern.{plain_pattern}
use Rattle.index_view.specs.Marks.{marks_of}
use Rattle.index_view.specs.Tables.{table}
use Rattle.index_view.proofs.answers.Answers.seen_with.Goals as goal

pub returns-clause-value : goal.returns-clause-value
returns-clause-value c =
    let ls = map plain_listed c.args.listed.now in
    let people = c.args.tables.now.people in
    let limit = option_map plain_pattern c.args.tables.now.limit in
    let a = c.args.self.now in
    let is = c.self.view_is in
    let rows = c.args.rows.now in
    let links : c.deref.result.now ≡ a.links = c.deref.ensures.value
    ∙ ap (λ (z : PlainAnswers). z.links) is in
    let stances : c.deref-2.result.now ≡ a.stances = c.deref-2.ensures.value
    ∙ ap (λ (z : PlainAnswers). z.stances) is in
    let order : c.from_vec-order.result.items ≡ a.sight.order = c.from_vec-order.ensures
    ∙ c.in_ok-to_vec.ensures.items_if_clones_equal (λ x y same. same) ∙ c.as_slice.ensures
    ∙ c.order.ensures ∙ ap (λ (z : PlainAnswers). z.sight.order) is in
    subst (λ (z : PlainSight). IfOk c.sight_of.result (λ (s : PlainSight). s ≡ z))
    (λ i. sight (marks_of rows (all_within people limit (table ls rows (links i))))
    (order i) (stances i)) c.sight_of.ensures.value
