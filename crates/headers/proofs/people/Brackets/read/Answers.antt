use Rattle.std.proofs.Common.{refl, sym, ap}
use Rattle.headers.specs.AddressByte.{has}
use Rattle.headers.specs.declared.address_byte.Role.TheVariants.{AngleStart}
use Rattle.mail_base.proofs.PlacesLemmas.{after_last_some, before_last_some, list_any_last_none}
use Rattle.mail_base.proofs.PlacesLemmas.{list_any_last_some}
use Rattle.headers.proofs.people.Brackets.read.Goals as goal

pub returns-in-Some : goal.returns-in-Some
returns-in-Some c =
    let bytes = c.args.bytes.now in
    let place = c.in-Some.place in
    let last = c.in-Some.ensures.value in
    let before = sym (ap (λ p. p.0) c.split_around.ensures.value) in
    let behind = sym (ap (λ p. p.1) c.split_around.ensures.value) in
    rw (
      list_any_last_some (has AngleStart) bytes place last,
      before_last_some (has AngleStart) bytes place last,
      after_last_some (has AngleStart) bytes place last,
      before,
      behind,
      ← c.split_brackets.ensures.inside,
      ← c.split_brackets.ensures.behind,
    ) refl

pub returns-in-None : goal.returns-in-None
returns-in-None c =
    rw (list_any_last_none (has AngleStart) c.args.bytes.now c.in-None.ensures.value) refl
