use Rattle.std.proofs.Common.{◌∙◌, ◌++◌, ◌∷◌, [], ap, if◌then◌else◌, nat_eq}
use Rattle.std.specs.List.{list_any}
use Rattle.index_order.proofs.IdLemmas.{number_next, read_id}
use Rattle.index_order.proofs.listing.numbers_of.Goals as goal

pub loop-message-preserved : goal.loop-message-preserved
loop-message-preserved c =
    let keys = c.args.keys.now in
    let i = c.loop-message.message-index in
    let lt = c.loop-message-test.true in
    let id = c.id.result.0 in
    c.in_ok-insert.ensures.keys
    ∙ ap (λ l. if list_any (nat_eq id) l then l else l ++ id ∷ []) c.loop-message.invariant
    ∙ number_next keys c.requires i id lt (ap (λ d. d.0)
    (c.id.ensures ∙ read_id keys i c.message-item.result lt c.message-item.is))
