use Rattle.std.proofs.Common.{ap, length, sym, ◌∙◌}
use Rattle.std.proofs.lemmas.List.{length-map}
use Rattle.folder_core.specs.Mbox.{regions}
use Rattle.folder_core.proofs.Messages.{in_region, map-regions}
use Rattle.mbox_writes.proofs.appending.count_messages.Goals as goal

pub returns-in-Ok-clause-count : goal.returns-in-Ok-clause-count
returns-in-Ok-clause-count c =
    c.len.ensures ∙ ap length c.in-Ok.ensures.cut
    ∙ sym (length-map (regions c.args.bytes.now) (in_region c.args.bytes.now))
    ∙ ap length (map-regions c.args.bytes.now)
