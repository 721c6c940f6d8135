use Rattle.std.proofs.Common.{◌∙◌, ap, option_map}
use Rattle.people.specs.People.{PlainPeople, alias_of}
use Rattle.people.proofs.PeopleLemmas.{alias_found, value_of_copied}
use Rattle.people.proofs.people.People.expand_alias.Goals as goal

pub returns : goal.returns
returns c =
    value_of_copied c.get.result ∙ ap (option_map (λ v. v.items)) c.get.ensures.value
    ∙ alias_found c.self.inside.aliases.entries c.args.name.now
    ∙ ap (λ (p : PlainPeople). alias_of p.aliases c.args.name.now) c.self.view_is
