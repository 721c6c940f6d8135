use Rattle.std.proofs.Common.{◌≡◌, arith, rules}
use Rattle.patterns_match.specs.Asked.{plain_asked}
use Rattle.patterns_match.specs.Operations.{operation_map}
use Rattle.patterns_match.specs.Trees.{Tells}
use Rattle.patterns_match.specs.declared.letter.Mark.TheVariants.{Childless}
use Rattle.patterns_match.specs.declared.operation.Operation.TheVariants.{Ask}
use Rattle.patterns_match.proofs.AllLemmas.{turn_childless}
use Rattle.patterns_match.proofs.all.next_turn.Goals as goal

pub returns-in-Ask-Tells-Childless-clause-next : goal.returns-in-Ask-Tells-Childless-clause-next
returns-in-Ask-Tells-Childless-clause-next g c =
    let is : operation_map plain_asked c.args.operation.now ≡ Ask (Tells Childless) =
    search rules in
    turn_childless c.args.people.now c.args.offset (g.T.Table.messages c.args.table.now)
    c.args.place (operation_map plain_asked c.args.operation.now) c.args.turn c.args.found
    is (omega (arith, c.if-skip-gt0.false)) c.requires
