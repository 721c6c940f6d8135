use Rattle.std.proofs.Common.{ap, ◌∙◌}
use Rattle.folder_drivers.specs.MhAppend.{sequences_with}
use Rattle.mh_appends.proofs.Putting.{sequences_failed, sequences_not_put, sequences_put}
use Rattle.mh_appends.proofs.put.put_sequences.Goals as goal

pub returns-in_err-replace_file-clause-puts : goal.returns-in_err-replace_file-clause-puts
returns-in_err-replace_file-clause-puts g c =
    sequences_failed c.args.places.now c.args.flags c.from_residual-in_err-replace_file.result _
    c.from_residual-in_err-replace_file.ensures.1
    (λ told is. sequences_not_put c.args.places.now c.args.flags c.as_str-sequences.ensures.value
    c.as_str-side.ensures.value
    (c.as_slice-2.ensures ∙ c.in_ok-new.ensures
    ∙ ap (sequences_with c.args.places.now.number c.args.flags) c.as_slice.ensures)
    c.in_ok-old.ensures.reads told is c.in_err-replace_file.ensures.replaces)

pub returns-clause-puts : goal.returns-clause-puts
returns-clause-puts g c =
    sequences_put c.args.places.now c.args.flags c.as_str-sequences.ensures.value
    c.as_str-side.ensures.value
    (c.as_slice-2.ensures ∙ c.in_ok-new.ensures
    ∙ ap (sequences_with c.args.places.now.number c.args.flags) c.as_slice.ensures)
    c.in_ok-old.ensures.reads c.in_ok-replace_file.ensures.replaces
