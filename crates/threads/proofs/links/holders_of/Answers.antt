use Rattle.std.proofs.Common.{◌≡◌, ◌∙◌, ap, sym, length, arith}
use Rattle.std.proofs.lemmas.List.{length-map}
use Rattle.threads.specs.Firsts.{first_of}
use Rattle.threads.specs.Links.{has_id}
use Rattle.threads.specs.Message.{is_listed_before, plain_message, plain_messages}
use Rattle.threads.proofs.links.holders_of.Goals as goal

pub returns-clause-table : goal.returns-clause-table
returns-clause-table c = λ i text.
    let messages = c.args.messages.now in
    let ms = plain_messages messages in
    let all : c.loop-place.place ≡ length messages = omega arith in
    (c.loop-place.invariant.0 text
    ∙ ap (first_of (is_listed_before ms) (has_id ms text))
    (all ∙ sym (length-map messages plain_message))) i
