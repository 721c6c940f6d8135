use Rattle.std.proofs.Common.{arith, refl, rules}
use Rattle.patterns_match.specs.Listings.{Message}
use Rattle.index_listed.specs.declared.links.Links.{Links}
use Rattle.index_view.proofs.TableLemmas.{in_links, leads, told_links}
use Rattle.index_view.proofs.asked.MessagesTable.parent.Goals as goal

pub offset_bounds-self-place : goal.offset_bounds-self-place
offset_bounds-self-place c =
    let low = in_links c.args.self.now c.args.place c.requires in
    omega arith

pub bounds-self-place : goal.bounds-self-place
bounds-self-place c = in_links c.args.self.now c.args.place c.requires

pub returns-clause-value : goal.returns-clause-value
returns-clause-value c = told_links c.args.self.now (λ (o : Message). o.parent)
    (λ (l : Links). l.parent) (λ _. refl) c.args.place c.requires

pub returns-clause-within : goal.returns-clause-within
returns-clause-within c =
    let within = (leads c.args.self.now c.args.place c.requires).1 in
    search rules
