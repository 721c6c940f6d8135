use Rattle.std.proofs.Common.{◌≡◌, ◌+◌, ◌≤◌, length, option_map, IfSome}
use Rattle.std.specs.Option.{option_or}
use Rattle.maildir_names.specs.MaildirName.{last_letters as letters_behind}
use Rattle.maildir_names.proofs.maildir_name.last_letters.Given as goal

abbrev pub invariant-loop-left : goal.invariant-loop-left
invariant-loop-left l =
    (option_or (letters_behind l.left) (option_map (λ r. r.now) l.found) ≡ letters_behind l.name)
    × (length l.left ≤ length l.name)
    × IfSome l.found (λ r. length r.now + 3 ≤ length l.name)

abbrev pub decreases-loop-left : goal.decreases-loop-left
decreases-loop-left l = length l.left
