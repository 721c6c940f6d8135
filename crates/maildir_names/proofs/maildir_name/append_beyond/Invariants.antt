use Rattle.std.proofs.Common.{◌≡◌, ◌++◌, length}
use Rattle.std.specs.List.{filter}
use Rattle.maildir_names.specs.MaildirName.{is_beyond}
use Rattle.maildir_names.proofs.maildir_name.append_beyond.Given as goal

abbrev pub invariant-loop-left : goal.invariant-loop-left
invariant-loop-left l =
    l.name.items ++ filter is_beyond l.left ≡ l.fn.name.items ++ filter is_beyond l.letters

abbrev pub decreases-loop-left : goal.decreases-loop-left
decreases-loop-left l = length l.left
