use Rattle.std.proofs.Common.{◌≡◌, ◌∙◌, ap, sym, length, arith}
use Rattle.std.proofs.lemmas.List.{length-map}
use Rattle.threads.specs.Firsts.{first_of}
use Rattle.threads.specs.Subjects.{begins_subject}
use Rattle.threads.specs.Message.{is_sent_before, plain_message, plain_messages}
use Rattle.threads.proofs.subjects.firsts_of.Goals as goal

pub returns : goal.returns
returns c = λ i text.
    let messages = c.args.messages.now in
    let ms = plain_messages messages in
    let all : c.loop-place.place ≡ length messages = omega arith in
    (c.loop-place.invariant text
    ∙ ap (first_of (is_sent_before ms) (begins_subject ms c.args.parents.now text))
    (all ∙ sym (length-map messages plain_message))) i
