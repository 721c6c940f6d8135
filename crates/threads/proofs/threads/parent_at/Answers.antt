use Rattle.std.proofs.Common.{◌∙◌, None, ap, sym, option_map, slice_index_or}
use Rattle.threads.specs.declared.step.Step.{Step}
use Rattle.threads.proofs.threads.parent_at.Goals as goal

pub id_at-requires : goal.id_at-requires
id_at-requires c = c.requires.leads c.args.place c.in-Some.step.place
    (ap (option_map (λ (s : Step). s.place)) (sym (c.in-Some.ensures
    ∙ ap (λ l. slice_index_or l c.args.place None) c.as_slice.ensures.value)))
