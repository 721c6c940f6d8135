use Rattle.std.proofs.Common.{ℕ, List, ◌++◌, ap, sym, ◌∙◌}
use Rattle.std.specs.Prelude.{encode_utf8}
use Rattle.pager.proofs.PrintableLemmas.{char_turn}
use Rattle.pager.proofs.breaker.Breaker.put_first.Goals as goal

pub returns-clause-put : goal.returns-clause-put
returns-clause-put c =
    char_turn c.args.self.now c.put_shown.new.self c.in-Some.c c.args.text.now c.as_str.result.now
    c.utf8.text
    (sym c.chars-left.ensures.rest ∙ c.in-Some.ensures.steps.0
    ∙ ap (λ (t : List ℕ). encode_utf8 c.in-Some.c ++ t) (sym c.as_str.ensures))
    c.in_ok-put_shown.ensures
