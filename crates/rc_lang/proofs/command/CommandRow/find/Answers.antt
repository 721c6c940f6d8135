use Rattle.std.proofs.Common.{◌∙◌, ap, option_map}
use Rattle.rc_lang.specs.Commands.{plain_row}
use Rattle.rc_lang.proofs.TableLemmas.{same_command}
use Rattle.rc_lang.proofs.command.CommandRow.find.Goals as goal

pub returns : goal.returns
returns c = ap (option_map plain_row) c.find_in.ensures
    ∙ same_command c.commands.result.now c.args.name.now c.commands.ensures
