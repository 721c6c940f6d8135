use Rattle.std.proofs.Common.{sym, ap, ◌∙◌}
use Rattle.headers.specs.AddressByte.{has}
use Rattle.headers.specs.declared.address_byte.Role.TheVariants.{AngleEnd}
use Rattle.mail_base.proofs.PlacesLemmas.{before_first_none, before_first_some, after_first_none}
use Rattle.mail_base.proofs.PlacesLemmas.{after_first_some}
use Rattle.headers.proofs.people.split_brackets.Goals as goal

pub returns-in-Some-clause-inside : goal.returns-in-Some-clause-inside
returns-in-Some-clause-inside c =
    ap (λ p. p.0) c.split_around.ensures.value
    ∙ sym (before_first_some (has AngleEnd) c.args.bytes.now c.in-Some.place
    (sym c.first_with.ensures.value ∙ c.in-Some.is))

pub returns-in-Some-clause-behind : goal.returns-in-Some-clause-behind
returns-in-Some-clause-behind c =
    ap (λ p. p.1) c.split_around.ensures.value
    ∙ sym (after_first_some (has AngleEnd) c.args.bytes.now c.in-Some.place
    (sym c.first_with.ensures.value ∙ c.in-Some.is))

pub returns-in-None-clause-inside : goal.returns-in-None-clause-inside
returns-in-None-clause-inside c =
    sym (before_first_none (has AngleEnd) c.args.bytes.now
    (sym c.first_with.ensures.value ∙ c.in-None.is))

pub returns-in-None-clause-behind : goal.returns-in-None-clause-behind
returns-in-None-clause-behind c =
    sym (after_first_none (has AngleEnd) c.args.bytes.now
    (sym c.first_with.ensures.value ∙ c.in-None.is))
