use Rattle.std.proofs.Common.{◌∙◌, sym, ap}
use Rattle.people.specs.People.{is_in}
use Rattle.people.proofs.PeopleLemmas.{person_found}
use Rattle.people.proofs.people.People.holds_any.Goals as goal

pub returns-then-branch : goal.returns-then-branch
returns-then-branch c =
    sym (person_found c.args.self.now c.args.table c.args.persons.now c.loop-person.person-index
    c.person-item.result
    c.loop-person-test.true c.person-item.is
    (ap (is_in c.args.self.now c.args.table) (sym c.as_slice.ensures) ∙ sym c.in_ok-holds.ensures
    ∙ c.if-branch.true))
