use Rattle.std.proofs.Common.{◌∙◌, ap, false}
use Rattle.std.specs.List.{list_all}
use Rattle.patterns_match.specs.Asked.{asked_operations}
use Rattle.patterns_match.specs.Leaves.{leaf_may_score, passes}
use Rattle.patterns_match.specs.Pattern.{pattern_tree}
use Rattle.patterns_match.proofs.AskingLemmas.{every_code}
use Rattle.patterns_match.proofs.may_score.may_score.Goals as goal

pub returns : goal.returns
returns c =
    c.all_may_score.ensures
    ∙ ap (λ ops. list_all (passes leaf_may_score false) (asked_operations ops))
    c.as_slice.ensures.value
    ∙ ap (list_all (passes leaf_may_score false)) c.args.pattern.now.code
    ∙ every_code leaf_may_score false (pattern_tree c.args.pattern.now)
