use Rattle.std.proofs.Common.{◌≡◌, ◌∙◌, Some, None, false, true, length, ap, refl, sym}
use Rattle.folder_drivers.specs.MboxFront.{first_difference, too_many}
use Rattle.mbox_writes.proofs.FrontLemmas.{as_known, counted, refused_by}
use Rattle.mbox_writes.proofs.front.known_front.Goals as goal

pub returns-then-are_too_many-clause-refused : goal.returns-then-are_too_many-clause-refused
returns-then-are_too_many-clause-refused c =
    let bytes = c.args.bytes.now in
    let count = c.len-count.result in
    let many : too_many bytes ≡ Some count =
    counted bytes count true (c.in-Ok.ensures.mailbox refl)
    (c.len-count.ensures ∙ ap length c.in-Ok.ensures.cut)
    (sym c.are_too_many.ensures ∙ c.if-are_too_many.true) in
    refused_by c.args.known.now bytes (Some count) (first_difference c.args.known.now bytes) many
    refl

pub returns-in-None-clause-front : goal.returns-in-None-clause-front
returns-in-None-clause-front c = record {
  cut = c.in-Ok.ensures.cut;
  cover = c.in-Ok.ensures.cover;
  begins = c.in-Ok.ensures.mailbox refl;
  as_known = as_known c.args.known.now c.args.bytes.now
      (sym c.in_ok-difference.ensures ∙ c.in-None.is);
}

pub returns-in-None-clause-known : goal.returns-in-None-clause-known
returns-in-None-clause-known c =
    let bytes = c.args.bytes.now in
    let few : too_many bytes ≡ None =
    counted bytes c.len-count.result false (c.in-Ok.ensures.mailbox refl)
    (c.len-count.ensures ∙ ap length c.in-Ok.ensures.cut)
    (sym c.are_too_many.ensures ∙ c.if-are_too_many.false) in
    refused_by c.args.known.now bytes None None few
    (sym c.in_ok-difference.ensures ∙ c.in-None.is)

pub returns-in-Some-clause-refused : goal.returns-in-Some-clause-refused
returns-in-Some-clause-refused c =
    let bytes = c.args.bytes.now in
    let few : too_many bytes ≡ None =
    counted bytes c.len-count.result false (c.in-Ok.ensures.mailbox refl)
    (c.len-count.ensures ∙ ap length c.in-Ok.ensures.cut)
    (sym c.are_too_many.ensures ∙ c.if-are_too_many.false) in
    refused_by c.args.known.now bytes None (Some c.in-Some.place) few
    (sym c.in_ok-difference.ensures ∙ c.in-Some.is)
