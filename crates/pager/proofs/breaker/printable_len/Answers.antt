use Rattle.std.proofs.Common.{ap, sym, ◌∙◌}
use Rattle.std.specs.List.{list_all}
use Rattle.pager.specs.Inner.{is_printable}
use Rattle.pager.proofs.breaker.printable_len.Goals as goal

pub returns-then-is_printable-clause-printable : goal.returns-then-is_printable-clause-printable
returns-then-is_printable-clause-printable c =
    ap (list_all is_printable) (sym c.front_of-run.ensures.front)
    ∙ sym c.is_printable.ensures ∙ c.if-is_printable.true
