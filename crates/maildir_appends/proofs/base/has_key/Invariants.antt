use Rattle.std.proofs.Common.{◌≡◌, length}
use Rattle.folder_drivers.specs.MaildirAppend as spec
use Rattle.maildir_appends.specs.Taken.{letter_keys}
use Rattle.maildir_appends.proofs.base.has_key.Given as goal

-- the letters that are left tell as all of them
abbrev pub invariant-loop-left : goal.invariant-loop-left
invariant-loop-left l =
    spec.has_key (letter_keys l.left) l.base
    ≡ spec.has_key (letter_keys l.fn.archive) l.fn.base

abbrev pub decreases-loop-left : goal.decreases-loop-left
decreases-loop-left l = length l.left
