use Rattle.std.proofs.Common.{◌≡◌, ◌∙◌, length, map, ap, subst, sym, arith}
use Rattle.std.proofs.lemmas.List.{length-map}
use Rattle.std.proofs.lemmas.Result.{IfOk-weaker}
use Rattle.threads.specs.Message.{is_listed_before, plain_message, plain_messages}
use Rattle.threads.specs.Walk.{AreEnds, AreFollowed, root_in}
use Rattle.threads.proofs.EndsLemmas.{all_end}
use Rattle.threads.proofs.walk.ends_of.Goals as goal

pub returns : goal.returns
returns c =
    let ms = c.args.messages.now in
    let before = is_listed_before (plain_messages ms) in
    let size : length c.args.links.now ≡ length ms = c.requires.long
    ∙ length-map ms plain_message in
    let all : c.loop-start.start ≡ length ms = omega arith in
    let done : AreFollowed before c.args.links.now c.loop-start.marks.items
    (length c.args.links.now) =
    subst (AreFollowed before c.args.links.now c.loop-start.marks.items) (all ∙ sym size)
    c.loop-start.invariant.done in
    IfOk-weaker c.roots_in.result _ (λ r. AreEnds before c.args.links.now r.items)
    (λ r e. subst (AreEnds before c.args.links.now)
    (sym (e ∙ ap (map root_in) c.deref.ensures.value))
    (all_end before c.args.links.now c.loop-start.marks.items done))
    c.roots_in.ensures
