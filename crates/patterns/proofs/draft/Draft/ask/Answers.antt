use Rattle.std.proofs.Common.{ap}
use Rattle.patterns.proofs.DraftLemmas.{makes}
use Rattle.patterns.specs.Needs.{plain_need}
use Rattle.patterns.specs.Needs.{plain_operations}
use Rattle.patterns_match.specs.Trees.{Asks}
use Rattle.patterns.proofs.draft.Draft.ask.Goals as goal

pub invariant_of-result : goal.invariant_of-result
invariant_of-result c = record {
  code = (makes c.in_ok-operations.operations.items (Asks (plain_need c.args.need))
      (ap plain_operations (rw c.new.ensures.items at c.in_ok-operations.ensures))).is_code;
}

pub returns : goal.returns
returns c =
    (makes c.in_ok-operations.operations.items (Asks (plain_need c.args.need))
    (ap plain_operations (rw c.new.ensures.items at c.in_ok-operations.ensures))).tree_is
