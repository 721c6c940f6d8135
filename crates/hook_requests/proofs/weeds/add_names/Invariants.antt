use Rattle.std.proofs.Common.{◌≡◌, ◌++◌, length}
use Rattle.mail_base.specs.Series.{plain_texts}
use Rattle.rc_lang.specs.Settings.{plain_names}
use Rattle.hook_requests.proofs.weeds.add_names.Given as goal

-- what was added, and then what is left to be added, is all
abbrev pub invariant-loop-name : goal.invariant-loop-name
invariant-loop-name l =
    plain_texts l.names ++ plain_names l.left ≡ plain_texts l.initial.names ++ plain_names l.more

abbrev pub decreases-loop-name : goal.decreases-loop-name
decreases-loop-name l = length l.left
