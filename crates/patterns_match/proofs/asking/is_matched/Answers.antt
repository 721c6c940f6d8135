use Rattle.std.proofs.Common.{◌∙◌, ap, true}
use Rattle.std.specs.List.{list_all}
use Rattle.patterns_match.specs.Asked.{asked_operations}
use Rattle.patterns_match.specs.Leaves.{passes, takes_none}
use Rattle.patterns_match.specs.Pattern.{pattern_tree}
use Rattle.patterns_match.proofs.AskingLemmas.{every_code}
use Rattle.patterns_match.proofs.asking.is_matched.Goals as goal

pub returns-clause-memory : goal.returns-clause-memory
returns-clause-memory g c = λ free.
    c.answer.ensures.memory
    (ap (λ ops. list_all (passes takes_none true) (asked_operations ops)) c.as_slice.ensures.value
    ∙ ap (list_all (passes takes_none true)) c.args.pattern.now.code
    ∙ every_code takes_none true (pattern_tree c.args.pattern.now) ∙ free)
