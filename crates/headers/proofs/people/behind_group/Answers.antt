use Rattle.std.proofs.Common.{sym, ap, ◌∙◌}
use Rattle.headers.specs.AddressByte.{has}
use Rattle.headers.specs.declared.address_byte.Role.TheVariants.{GroupEnd}
use Rattle.mail_base.proofs.PlacesLemmas.{after_last_none, after_last_some}
use Rattle.headers.proofs.people.behind_group.Goals as goal

pub returns-in-Some : goal.returns-in-Some
returns-in-Some c =
    ap (λ p. p.1) c.split_around.ensures.value
    ∙ sym (after_last_some (has GroupEnd) c.args.bytes.now c.in-Some.place c.in-Some.ensures.value)

pub returns-in-None : goal.returns-in-None
returns-in-None c = sym (after_last_none (has GroupEnd) c.args.bytes.now c.in-None.ensures.value)
