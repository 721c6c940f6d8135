use Rattle.std.proofs.Common.{◌∙◌, ap, false}
use Rattle.std.specs.List.{list_all}
use Rattle.patterns_match.specs.Asked.{asked_operations}
use Rattle.patterns_match.specs.Leaves.{passes}
use Rattle.patterns_match.specs.Pattern.{pattern_tree}
use Rattle.patterns_match.proofs.AskingLemmas.{every_code}
use Rattle.session_index.specs.Hiding.{any_leaf}
use Rattle.session_index.proofs.hiding.is_alone.Goals as goal

pub returns : goal.returns
returns c =
    c.ask_no_other.ensures
    ∙ ap (λ ops. list_all (passes any_leaf false) (asked_operations ops)) c.as_slice.ensures.value
    ∙ ap (list_all (passes any_leaf false)) c.args.pattern.now.code
    ∙ every_code any_leaf false (pattern_tree c.args.pattern.now)
