use Rattle.std.proofs.Common.{◌∙◌, ◌-◌, ◌<◌, Some, ap, arith, length, option_map, sym}
use Rattle.threads.specs.Message.{PlainMessage}
use Rattle.threads.specs.declared.message.Message.{Message}
use Rattle.threads.proofs.FirstsLemmas.{at_place, bytes_same}
use Rattle.threads.proofs.links.previous_with.Goals as goal

pub returns-in-Some : goal.returns-in-Some
returns-in-Some c =
    let messages = c.args.messages.now in
    let place = c.args.place in
    let first = c.if-place-eq0.false in
    let lt : place - 1 < length messages = omega (arith, c.requires) in (
      omega (arith, first),
      ap (λ (q : PlainMessage). q.message_id)
          (at_place messages c.index-messages-previous.result (place - 1) lt
          c.index-messages-previous.is)
          ∙ ap (λ (x : Message). option_map (λ id. id.items) x.message_id)
          c.index-messages-previous.is
          ∙ ap (option_map (λ id. id.items)) c.in-Some.is
          ∙ ap Some (sym c.as_slice.ensures
          ∙ bytes_same c.as_slice.result.now c.args.id.now (sym c.if-eq.ensures)),
    )
