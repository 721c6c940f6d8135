use Rattle.std.proofs.Common.{◌≡◌, ◌++◌, length}
use Rattle.rc_lang.specs.Settings.{plain_names}
use Rattle.hook_requests.specs.Words.{joined, with_blanks}
use Rattle.hook_requests.proofs.words.joined.Given as goal

abbrev pub invariant-loop-word : goal.invariant-loop-word
invariant-loop-word l =
    l.text.items ++ with_blanks (plain_names l.left) ≡ joined (plain_names l.words)

abbrev pub decreases-loop-word : goal.decreases-loop-word
decreases-loop-word l = length l.left
