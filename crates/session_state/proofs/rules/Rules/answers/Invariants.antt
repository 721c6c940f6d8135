use Rattle.std.proofs.Common.{◌≡◌, ◌++◌, length, map}
use Rattle.mail_base.specs.Series.{plain_texts}
use Rattle.session_state.specs.Rules.{answer_line}
use Rattle.session_state.proofs.rules.Rules.answers.Given as goal

abbrev pub invariant-loop-name : goal.invariant-loop-name
invariant-loop-name l =
    plain_texts l.lines
    ++ map (answer_line l.self.settings) (map (λ name. name.items) l.left)
    ≡ map (answer_line l.self.settings) (map (λ name. name.items) l.names)

abbrev pub decreases-loop-name : goal.decreases-loop-name
decreases-loop-name l = length l.left
