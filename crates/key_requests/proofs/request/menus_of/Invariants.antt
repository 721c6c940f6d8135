use Rattle.std.proofs.Common.{◌≡◌, length}
use Rattle.rc_lang.specs.Expansion.{before_all}
use Rattle.key_requests.specs.Requests.{menus_in, names_in}
use Rattle.key_requests.proofs.request.menus_of.Given as goal

abbrev pub invariant-loop-name : goal.invariant-loop-name
invariant-loop-name l =
    before_all l.menus.items (menus_in l.word (names_in l.left)) ≡ menus_in l.word (names_in l.word)

abbrev pub decreases-loop-name : goal.decreases-loop-name
decreases-loop-name l = length l.left
