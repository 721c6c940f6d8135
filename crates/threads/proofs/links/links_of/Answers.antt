use Rattle.std.proofs.Common.{◌≡◌, ◌∙◌, ◌++◌, ◌∷◌, [], length, map, ap, sym}
use Rattle.std.proofs.Common.{arith}
use Rattle.std.specs.List.{range_with_len}
use Rattle.std.proofs.lemmas.List.{length-map}
use Rattle.std.proofs.lemmas.List.FromFn.{map-range_with_len_more}
use Rattle.threads.specs.Links.{link_by, link_of}
use Rattle.threads.specs.Message.{at, plain_message, plain_messages}
use Rattle.threads.proofs.links.links_of.Goals as goal

pub loop-place-preserved : goal.loop-place-preserved
loop-place-preserved c =
    let ms = plain_messages c.args.messages.now in
    let place = c.loop-place.place in
    c.in_ok-push.ensures.items
    ∙ ap (λ l. l ++ c.link_of.result ∷ []) c.loop-place.invariant
    ∙ ap (λ s. map (link_of c.args.options ms) (range_with_len 0 place) ++ s ∷ [])
    (c.link_of.ensures
    ∙ ap (λ f. link_by f c.args.options (at ms place) place) c.in_ok-holders.ensures.table)
    ∙ sym (map-range_with_len_more (link_of c.args.options ms) 0 place place (omega arith))

pub returns : goal.returns
returns c =
    let messages = c.args.messages.now in
    let all : c.loop-place.place ≡ length messages = omega arith in
    c.loop-place.invariant
    ∙ ap (λ n. map (link_of c.args.options (plain_messages messages)) (range_with_len 0 n))
    (all ∙ sym (length-map messages plain_message))
