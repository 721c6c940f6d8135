use Rattle.std.proofs.Common.{◌∙◌}
use Rattle.mh_syncs.proofs.Meeting.{read_none, read_whole}
use Rattle.mh_syncs.proofs.sequences.read_sequences.Goals as goal

pub returns-clause-at : goal.returns-clause-at
returns-clause-at g c = c.not_looked.ensures.at c.args.path.now

pub returns-in-Ok-NoFile-clause-reads : goal.returns-in-Ok-NoFile-clause-reads
returns-in-Ok-NoFile-clause-reads g c =
    read_none c.args.path.now c.as_str.result.now _ _ c.in-Ok-NoFile.field-0
    c.new.result.items _ _ c.in-Ok-NoFile.field-0-is c.new.ensures
    (c.as_str.ensures.value ∙ c.in-Ok.ensures) c.in-Ok-NoFile.ensures.looked.saw

pub returns-in-Ok-Whole-clause-reads : goal.returns-in-Ok-Whole-clause-reads
returns-in-Ok-Whole-clause-reads g c =
    read_whole c.args.path.now c.as_str.result.now _ _ c.in-Ok-Whole.field-0
    c.in-Ok-Whole.read _ _ c.in-Ok-Whole.field-0-is
    (c.as_str.ensures.value ∙ c.in-Ok.ensures) c.in-Ok-Whole.ensures.looked.saw
