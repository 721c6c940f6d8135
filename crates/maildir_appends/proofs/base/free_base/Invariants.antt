use Rattle.std.proofs.Common.{◌≡◌, ◌<◌, ℕ, true}
use Rattle.folder_drivers.specs.MaildirAppend as spec
use Rattle.maildir_appends.specs.Taken.{is_taken}
use Rattle.maildir_appends.proofs.base.free_base.Given as goal

-- the numbers that were tried are taken
abbrev pub invariant-loop-number : goal.invariant-loop-number
invariant-loop-number l = (other : ℕ) → other < l.number
    → is_taken l.fn.present l.fn.archive (spec.base_at l.fn.moment other) ≡ true
