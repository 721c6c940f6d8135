use Rattle.std.proofs.Common.{sym, ◌∙◌}
use Rattle.pager.proofs.PrintableLemmas.{printable_before, printable_whole}
use Rattle.pager.proofs.breaker.run_len.Goals as goal

pub returns-in-Some-clause-printable : goal.returns-in-Some-clause-printable
returns-in-Some-clause-printable c =
    printable_before c.args.text.now c.in-Some.at
    (sym c.unprintable_at.ensures.value ∙ c.in-Some.is)

pub returns-in-None-clause-printable : goal.returns-in-None-clause-printable
returns-in-None-clause-printable c =
    printable_whole c.args.text.now (sym c.unprintable_at.ensures.value ∙ c.in-None.is)
