use Rattle.std.proofs.Common.{sym, ap, ◌∙◌}
use Rattle.headers.specs.AddressByte.{has}
use Rattle.headers.specs.declared.address_byte.Role.TheVariants.{CommentEnd}
use Rattle.mail_base.proofs.PlacesLemmas.{before_first_none, before_first_some}
use Rattle.headers.proofs.people.before_comment_end.Goals as goal

pub returns-in-Some : goal.returns-in-Some
returns-in-Some c =
    ap (λ p. p.0) c.split_around.ensures.value
    ∙ sym (before_first_some (has CommentEnd) c.args.bytes.now c.in-Some.place
    (sym c.first_with.ensures.value ∙ c.in-Some.is))

pub returns-in-None : goal.returns-in-None
returns-in-None c =
    sym (before_first_none (has CommentEnd) c.args.bytes.now
    (sym c.first_with.ensures.value ∙ c.in-None.is))
