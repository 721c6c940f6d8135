use Rattle.std.proofs.Common.{◌≡◌, ◌∙◌, List, None, ℕ, Some, ap, arith, option_map, sym}
use Rattle.threads.specs.Links.{has_id}
use Rattle.threads.specs.Message.{PlainMessage, at, is_listed_before, plain_messages}
use Rattle.threads.specs.declared.message.Message.{Message}
use Rattle.threads.proofs.FirstsLemmas.{at_place, first_below}
use Rattle.threads.proofs.OwnLemmas.{own_more, own_put}
use Rattle.threads.proofs.links.add_holder.Goals as goal

pub add_first-requires-clause-below : goal.add_first-requires-clause-below
add_first-requires-clause-below c = λ text first e.
    let ms = plain_messages c.args.messages.now in
    omega (
      arith,
      c.requires.within,
      first_below (is_listed_before ms) (has_id ms text) c.args.place first
          (sym (c.requires.before text) ∙ e),
    )

pub returns-in-Some-clause-own : goal.returns-in-Some-clause-own
returns-in-Some-clause-own c =
    let messages = c.args.messages.now in
    let m = c.index-messages-place.result in
    let text = c.as_slice.result.now in
    let here : (at (plain_messages messages) c.args.place).message_id ≡ Some text =
    ap (λ (q : PlainMessage). q.message_id)
    (at_place messages m c.args.place c.requires.within c.index-messages-place.is)
    ∙ ap (λ (x : Message). option_map (λ id. id.items) x.message_id) c.index-messages-place.is
    ∙ ap (option_map (λ id. id.items)) c.in-Some.is ∙ ap Some (sym c.as_slice.ensures) in
    own_put messages c.args.holders.now c.add_first.new.firsts c.args.place
    (is_listed_before (plain_messages messages)) text c.add_first.result c.add_first.ensures.again
    c.add_first.ensures.first here

no_id : (id : List ℕ) → None ≡ Some id → ⊥
no_id id e = cc

pub returns-in-None-clause-own : goal.returns-in-None-clause-own
returns-in-None-clause-own c = λ no.
    let messages = c.args.messages.now in
    let here : (at (plain_messages messages) c.args.place).message_id ≡ None =
    ap (λ (q : PlainMessage). q.message_id)
    (at_place messages c.index-messages-place.result c.args.place c.requires.within
    c.index-messages-place.is)
    ∙ ap (λ (x : Message). option_map (λ id. id.items) x.message_id) c.index-messages-place.is
    ∙ ap (option_map (λ id. id.items)) c.in-None.is in
    own_more messages c.args.holders.now c.args.holders.now c.args.place
    (λ id is. absurd (no_id id (sym here ∙ is))) (λ id p e. e)
