use Rattle.std.proofs.Common.{◌≡◌, ◌++◌, length}
use Rattle.std.specs.List.{filter}
use Rattle.maildir_names.specs.MaildirName.{is_other}
use Rattle.maildir_names.proofs.maildir_name.other_letters.Given as goal

abbrev pub invariant-loop-left : goal.invariant-loop-left
invariant-loop-left l = l.others.items ++ filter is_other l.left ≡ filter is_other l.letters

abbrev pub decreases-loop-left : goal.decreases-loop-left
decreases-loop-left l = length l.left
