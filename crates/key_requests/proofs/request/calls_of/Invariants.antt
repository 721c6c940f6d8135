use Rattle.std.proofs.Common.{◌≡◌, length}
use Rattle.rc_lang.specs.Expansion.{before_all}
use Rattle.rc_lang.specs.Settings.{plain_names}
use Rattle.key_requests.specs.Requests.{calls_of}
use Rattle.key_requests.proofs.request.calls_of.Given as goal

abbrev pub invariant-loop-name : goal.invariant-loop-name
invariant-loop-name l =
    before_all l.calls.items (calls_of (plain_names l.left)) ≡ calls_of (plain_names l.names)

abbrev pub decreases-loop-name : goal.decreases-loop-name
decreases-loop-name l = length l.left
