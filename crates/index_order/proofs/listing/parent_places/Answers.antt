use Rattle.std.proofs.Common.{◌∙◌, ◌++◌, ◌∷◌, [], IsSome, ap, map, refl, subst, sym}
use Rattle.std.proofs.lemmas.List.{map_push}
use Rattle.threads.specs.Links.{target}
use Rattle.threads.specs.Subjects.{parents}
use Rattle.threads.specs.Threads.{place_of}
use Rattle.index_order.specs.Inner.{parent_place}
use Rattle.index_order.proofs.IdLemmas.{parent_place_is, place_held, read_id}
use Rattle.index_order.proofs.SortedLemmas.{range_next}
use Rattle.index_order.proofs.listing.parent_places.Goals as goal

pub parent_place-requires-clause-held : goal.parent_place-requires-clause-held
parent_place-requires-clause-held c =
    let keys = c.args.keys.now in
    let threads = c.args.threads.now in
    let i = c.loop-message.message-index in
    let lt = c.loop-message-test.true in
    let id = c.id.ensures ∙ read_id keys i c.message-item.result lt c.message-item.is in
    subst IsSome (sym (ap (place_of threads.messages) id
    ∙ place_held keys threads c.requires.threads i lt)) refl

pub loop-message-preserved : goal.loop-message-preserved
loop-message-preserved c =
    let keys = c.args.keys.now in
    let threads = c.args.threads.now in
    let i = c.loop-message.message-index in
    let lt = c.loop-message-test.true in
    let target_at = target (parents threads.options threads.messages) in
    c.in_ok-push.ensures.items
    ∙ ap (λ o. c.loop-message.places.items ++ o ∷ []) (c.parent_place.ensures
    ∙ ap (λ l. parent_place l threads c.id.result) c.requires.numbers
    ∙ ap (parent_place _ threads)
    (c.id.ensures ∙ read_id keys i c.message-item.result lt c.message-item.is)
    ∙ parent_place_is keys threads c.requires.threads i lt)
    ∙ ap (λ l. l ++ target_at i ∷ []) c.loop-message.invariant
    ∙ sym (ap (map target_at) (range_next i) ∙ map_push target_at _ i)
