use Rattle.std.proofs.Common.{◌≡◌, length, map}
use Rattle.folder_drivers.specs.MaildirAppend as spec
use Rattle.maildir_appends.proofs.base.has_base.Given as goal

-- the names that are left tell as all of them
abbrev pub invariant-loop-left : goal.invariant-loop-left
invariant-loop-left l = spec.has_base (map (λ name. name.items) l.left) l.base
    ≡ spec.has_base (map (λ name. name.items) l.fn.names) l.fn.base

abbrev pub decreases-loop-left : goal.decreases-loop-left
decreases-loop-left l = length l.left
