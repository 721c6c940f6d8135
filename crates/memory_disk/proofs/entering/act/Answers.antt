use Rattle.std.proofs.Common.{◌≡◌, ◌<◌, ◌++◌, ◌∷◌, ◌∙◌, [], ap, sym, map, drop, length, List, refl}
use Rattle.std.proofs.lemmas.List.{map-append}
use Rattle.memory_disk.specs.Entering.{is_due}
use Rattle.disk_state.specs.Plain.{plain_action}
use Rattle.memory_disk.specs.Plain.{plain_planned, plain_scene}
use Rattle.disk_state.specs.declared.action.Action.{Action}
use Rattle.memory_disk.specs.declared.script.Foreign.{Foreign}
use Rattle.memory_disk.proofs.Acting.{acts_more, first_item, same_first}
use Rattle.memory_disk.proofs.entering.act.Goals as goal

pub loop-alloc-preserved : goal.loop-alloc-preserved
loop-alloc-preserved c =
    let some : 0 < length c.loop-alloc.plan.items =
    rw c.as_slice.ensures.value at (c.loop-alloc-test.ensures.some refl) in
    let here : c.loop-alloc.plan.items ≡ c.remove-foreign.result ∷ drop 1 c.loop-alloc.plan.items =
    first_item c.loop-alloc.plan.items c.remove-foreign.result some
    c.remove-foreign.ensures.value in
    let taken : c.loop-alloc.plan.items ≡ c.index.result.now ∷ drop 1 c.loop-alloc.plan.items =
    first_item c.loop-alloc.plan.items c.index.result.now some c.index.ensures in
    acts_more c.args.call _ (plain_scene c.loop-alloc.state c.loop-alloc.waiting c.loop-alloc.plan)
    _
    (plain_planned c.index.result.now) c.loop-alloc.invariant
    (ap (map plain_planned) taken
    ∙ ap (λ (l : List Foreign). plain_planned c.index.result.now ∷ map plain_planned l)
    (sym c.remove-foreign.ensures.items))
    (sym (c.is_due.ensures.due
    ∙ ap (λ (l : List Foreign). is_due c.args.call (map plain_planned l)) c.as_slice.ensures.value)
    ∙ c.loop-alloc-test.true)
    c.in_ok-follow_others.ensures.ok
    (ap (map plain_action) (c.push_reserved.ensures.items
    ∙ ap (λ (l : List Action). l ++ c.remove-foreign.result.action ∷ []) c.reserve.ensures.items)
    ∙ map-append plain_action c.loop-alloc.waiting.items (c.remove-foreign.result.action ∷ [])
    ∙ ap (λ (f : Foreign). map plain_action c.loop-alloc.waiting.items ++ plain_action f.action
    ∷ [])
    (same_first c.remove-foreign.result c.index.result.now (drop 1 c.loop-alloc.plan.items)
    (sym here ∙ taken)))
