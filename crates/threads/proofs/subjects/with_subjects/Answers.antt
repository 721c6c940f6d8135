use Rattle.std.proofs.Common.{◌∙◌, ◌++◌, ◌∷◌, [], None, map, ap, get_or, sym, arith}
use Rattle.std.specs.List.{range_with_len}
use Rattle.std.specs.Option.{option_or}
use Rattle.std.proofs.lemmas.List.FromFn.{map-range_with_len_more}
use Rattle.threads.specs.Subjects.{first_with, followed, parent_of}
use Rattle.threads.specs.Message.{plain_message, plain_messages}
use Rattle.threads.proofs.FirstsLemmas.{at_place}
use Rattle.threads.proofs.subjects.with_subjects.Goals as goal

pub loop-place-preserved : goal.loop-place-preserved
loop-place-preserved c =
    let messages = c.args.messages.now in
    let ms = plain_messages messages in
    let parents = c.args.parents.now in
    let place = c.loop-place.place in
    let own = get_or parents place None in
    c.in_ok-push.ensures.items
    ∙ ap (λ l. l ++ c.parent_of.result ∷ []) c.loop-place.invariant
    ∙ ap (λ s. map (parent_of c.args.options ms parents) (range_with_len 0 place) ++ s ∷ [])
    (c.parent_of.ensures
    ∙ ap (λ f. option_or own (followed f c.args.options
    (plain_message c.index-messages-place.result) place))
    c.in_ok-firsts.ensures
    ∙ ap (λ m. option_or own (followed (first_with ms parents) c.args.options m place))
    (sym (at_place messages c.index-messages-place.result place c.loop-place-test.true
    c.index-messages-place.is)))
    ∙ sym (map-range_with_len_more (parent_of c.args.options ms parents) 0 place place
    (omega arith))
