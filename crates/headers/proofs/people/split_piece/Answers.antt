use Rattle.std.proofs.Common.{List, ◌∷◌, sym, ap, ◌∙◌}
use Rattle.std.specs.List.{slice_split}
use Rattle.headers.specs.AddressByte.{has}
use Rattle.headers.specs.declared.address_byte.AddressByte.{AddressByte}
use Rattle.headers.specs.declared.address_byte.Role.TheVariants.{Separator}
use Rattle.mail_base.proofs.PlacesLemmas.{slice_split_first_none, slice_split_first_some}
use Rattle.headers.proofs.people.split_piece.Goals as goal

pub returns-in-Some-clause-some : goal.returns-in-Some-clause-some
returns-in-Some-clause-some c =
    let found = sym c.first_with.ensures.value ∙ c.in-Some.is in
    slice_split_first_some (has Separator) c.args.bytes.now c.in-Some.place found
    ∙ ap (λ (p : List AddressByte × List AddressByte). p.0 ∷ slice_split (has Separator) p.1)
    (sym c.split_around.ensures.value)

pub returns-in-None-clause-none : goal.returns-in-None-clause-none
returns-in-None-clause-none c =
    slice_split_first_none (has Separator) c.args.bytes.now
    (sym c.first_with.ensures.value ∙ c.in-None.is)
