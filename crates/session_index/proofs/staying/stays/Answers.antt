use Rattle.std.proofs.Common.{◌∙◌, ap, true}
use Rattle.std.specs.List.{list_all}
use Rattle.patterns_match.specs.Asked.{asked_operations}
use Rattle.patterns_match.specs.Leaves.{passes}
use Rattle.patterns_match.specs.Pattern.{pattern_tree}
use Rattle.patterns_match.proofs.AskingLemmas.{every_code}
use Rattle.index_view.specs.Staying.{leaf_stays}
use Rattle.session_index.specs.Touched.{plain_touched}
use Rattle.session_index.proofs.staying.stays.Goals as goal

pub returns : goal.returns
returns c =
    c.all_stay.ensures
    ∙ ap (λ ops. list_all (passes (leaf_stays (plain_touched c.args.touched)) true) (asked_operations ops))
    c.as_slice.ensures.value
    ∙ ap (list_all (passes (leaf_stays (plain_touched c.args.touched)) true)) c.args.pattern.now.code
    ∙ every_code (leaf_stays (plain_touched c.args.touched)) true (pattern_tree c.args.pattern.now)
