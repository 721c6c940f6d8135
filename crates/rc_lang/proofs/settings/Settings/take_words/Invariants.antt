use Rattle.std.proofs.Common.{◌≡◌, ◌++◌, ℕ, List, None, Ok, length}
use Rattle.rc_lang.specs.Settings.{plain_names, plain_shown, run_words}
use Rattle.rc_lang.proofs.settings.Settings.take_words.Given as goal

abbrev pub invariant-loop-word : goal.invariant-loop-word
invariant-loop-word l =
    (front : List (List ℕ)) × (plain_names l.words ≡ front ++ plain_names l.left)
    × (run_words l.command l.initial.self None front
    ≡ record { values = l.self; answer = Ok (plain_shown l.shown) })

abbrev pub decreases-loop-word : goal.decreases-loop-word
decreases-loop-word l = length l.left
