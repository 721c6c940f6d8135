use Rattle.std.proofs.Common.{◌≡◌, ◌++◌, length, map}
use Rattle.hooks.specs.Fields.{plain_folder_hook}
use Rattle.hooks.specs.Hooks.{commands_for, plain_command}
use Rattle.hooks.proofs.hooks.add_commands.Given as goal

-- what was added, and then what is left to be added, is all
abbrev pub invariant-loop-left : goal.invariant-loop-left
invariant-loop-left l =
    map plain_command l.commands.items ++ commands_for l.path (map plain_folder_hook l.left)
    ≡ map plain_command l.fn.commands.items ++ commands_for l.path (map plain_folder_hook l.hooks)

abbrev pub decreases-loop-left : goal.decreases-loop-left
decreases-loop-left l = length l.left
