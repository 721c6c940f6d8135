use Rattle.std.proofs.Common.{◌∙◌, Bool, List, ap, map, slice_index, sym, if◌then◌else◌}
use Rattle.disk_model.specs.Images.{is_touched}
use Rattle.disk_state.specs.Plain.{plain_patch}
use Rattle.disk_state.specs.declared.file.Patch.{Patch}
use Rattle.disk_state.proofs.Places.{nothing_there}
use Rattle.disk_state.proofs.images.filled_byte.Goals as goal

pub returns-in-None : goal.returns-in-None
returns-in-None c =
    sym (ap (λ (b : Bool). if b then c.args.byte
    else slice_index c.args.file.now.bytes.items c.args.place)
    (sym (c.if-is_touched.ensures
    ∙ ap (λ (l : List Patch). is_touched (map plain_patch l) c.args.place)
    c.as_slice.ensures.value))
    ∙ nothing_there c.args.file.now.bytes.items c.args.place c.in-None.ensures)
