use Rattle.std.proofs.Common.{◌≡◌, ◌++◌, length}
use Rattle.std.specs.List.{filter_map}
use Rattle.rc_lang_words.specs.Words.{commands_from, command_line, lines_of, plain_lines}
use Rattle.rc_lang_words.proofs.rc_line.read_rc.Given as goal

abbrev pub invariant-loop-left : goal.invariant-loop-left
invariant-loop-left l =
    plain_lines l.lines ++ filter_map command_line (commands_from l.command.items l.left)
    ≡ lines_of l.fn.text

abbrev pub decreases-loop-left : goal.decreases-loop-left
decreases-loop-left l = length l.left
