use Rattle.std.proofs.Common.{◌≡◌, ◌++◌}
use Rattle.maildir_names.specs.MaildirName.{letters_below}
use Rattle.maildir_names.proofs.maildir_name.append_below.Given as goal

abbrev pub invariant-loop-letter : goal.invariant-loop-letter
invariant-loop-letter l = l.name.items ≡ l.fn.name.items ++ letters_below l.letter l.letters
