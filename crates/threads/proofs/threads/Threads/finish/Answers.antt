use Rattle.std.proofs.Common.{◌≡◌, Some, subst}
use Rattle.threads.specs.Forest.{IsForest}
use Rattle.threads.specs.Found.{IsFound}
use Rattle.threads.specs.Message.{plain_messages}
use Rattle.threads.specs.Subjects.{parents}
use Rattle.threads.specs.declared.threads.Found.{Found}
use Rattle.threads.proofs.threads.Threads.finish.Goals as goal

same_found : (a b : Found) → Some a ≡ Some b → a ≡ b
same_found a b e = cc

pub invariant_of-self : goal.invariant_of-self
invariant_of-self c = record {
  the_numbers = c.self.invariant.the_numbers;
  distinct = c.self.invariant.distinct;
  worked_out = λ f e. subst (IsFound c.self.inside.options
      (plain_messages c.self.inside.messages.items))
      (same_found c.in_ok-found.found f e)
      (subst (λ l. IsFound c.self.inside.options
      (plain_messages l) c.in_ok-found.found) c.as_slice.ensures.value
      c.in_ok-found.ensures.found);
}

pub returns-clause-forest : goal.returns-clause-forest
returns-clause-forest c =
    subst (λ t. IsForest (parents t.options t.messages)) c.self.view_is
    (subst (λ l. IsForest (parents c.self.inside.options
    (plain_messages l))) c.as_slice.ensures.value
    c.in_ok-found.ensures.forest)
