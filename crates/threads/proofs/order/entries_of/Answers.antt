use Rattle.std.proofs.Common.{◌∙◌, ◌++◌, ◌∷◌, [], ap, map, sym, arith, get_or}
use Rattle.std.specs.List.{range_with_len}
use Rattle.std.proofs.lemmas.List.{get_or-map}
use Rattle.std.proofs.lemmas.List.FromFn.{map-range_with_len_more}
use Rattle.threads.specs.Families.{entry_at}
use Rattle.threads.specs.Message.{PlainMessage, no_message, plain_message, plain_messages}
use Rattle.threads.proofs.order.entries_of.Goals as goal

pub loop-place-preserved : goal.loop-place-preserved
loop-place-preserved c =
    let messages = c.args.messages.now in
    let place = c.loop-place.place in
    let f = entry_at (plain_messages messages) in
    c.in_ok-push.ensures.items
    ∙ ap (λ l. l
    ++ record { place = place; id = (get_or messages place c.index-messages-place.result).id }
    ∷ [])
    c.loop-place.invariant
    ∙ ap (λ (m : PlainMessage). map f (range_with_len 0 place)
    ++ record { place = place; id = m.id } ∷ [])
    (sym (get_or-map plain_message messages place c.index-messages-place.result no_message
    c.loop-place-test.true))
    ∙ sym (map-range_with_len_more f 0 place place (omega arith))
