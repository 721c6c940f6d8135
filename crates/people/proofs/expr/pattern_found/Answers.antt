use Rattle.std.proofs.Common.{◌∙◌, ap, is_some}
use Rattle.regex.specs.Patterns.{find_str}
use Rattle.regex.specs.Strings.{regex_source}
use Rattle.people.proofs.PatternLemmas.{built_found}
use Rattle.people.proofs.expr.pattern_found.Goals as goal

pub returns : goal.returns
returns c =
    c.is_match.ensures.found
    ∙ ap (λ p. is_some (find_str p c.args.text.now 0)) c.in_ok-matcher.ensures.pattern
    ∙ built_found (regex_source c.args.regex.now) c.args.regex.now c.args.text.now c.requires
    (λ k. (c.type_inv.text k).fits)
