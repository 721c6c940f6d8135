use Rattle.std.proofs.Common.{◌∙◌, ap, map, ℕ, List}
use Rattle.std.specs.List.{insert}
use Rattle.memory_disk.specs.Plan.{place_before}
use Rattle.memory_disk.specs.Plain.{plain_planned}
use Rattle.memory_disk.specs.declared.script.Foreign.{Foreign}
use Rattle.disk_state.proofs.Inserting.{map-insert}
use Rattle.memory_disk.proofs.plan.put.Goals as goal

pub returns : goal.returns
returns c =
    ap (map plain_planned) c.in_ok-insert.ensures.items
    ∙ map-insert plain_planned c.args.plan.now.items c.place_in-place.result c.args.foreign
    ∙ ap (λ (place : ℕ). insert (map plain_planned c.args.plan.now.items) place
    (plain_planned c.args.foreign))
    (c.place_in-place.ensures.place
    ∙ ap (λ (l : List Foreign). place_before c.args.foreign.before_call (map plain_planned l))
    c.as_slice.ensures.value)
