use Rattle.std.proofs.Common.{◌∙◌}
use Rattle.rc_lang.specs.Variables.{rows}
use Rattle.rc_lang.proofs.TableLemmas.{same_position}
use Rattle.rc_lang.proofs.variable.find_variable.Goals as goal

pub returns-clause-value : goal.returns-clause-value
returns-clause-value c =
    c.position_of.ensures.value ∙ same_position c.table.result.now rows c.args.name.now
    c.table.ensures.table
