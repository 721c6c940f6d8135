use Rattle.std.proofs.Common.{refl, sym, ap, ◌∙◌}
use Rattle.std.specs.List.{before_first}
use Rattle.headers.specs.AddressByte.{has}
use Rattle.headers.specs.declared.address_byte.Role.TheVariants.{CommentStart, CommentEnd}
use Rattle.mail_base.proofs.PlacesLemmas.{after_first_none, after_first_some}
use Rattle.headers.proofs.people.first_comment.Goals as goal

pub returns-in-Some : goal.returns-in-Some
returns-in-Some c =
    let found = sym c.first_with.ensures.value ∙ c.in-Some.is in
    let tail = after_first_some (has CommentStart) c.args.bytes.now c.in-Some.place found in
    c.before_comment_end.ensures
    ∙ ap (before_first (has CommentEnd)) (ap (λ p. p.1) c.split_around.ensures.value ∙ sym tail)

pub returns-in-None : goal.returns-in-None
returns-in-None c =
    rw (after_first_none (has CommentStart) c.args.bytes.now
    (sym c.first_with.ensures.value ∙ c.in-None.is)) refl
