use Rattle.std.proofs.Common.{◌∙◌, ap, map, List}
use Rattle.people.specs.People.{Alias, PlainPeople, plain_alias, with_alias}
use Rattle.people.proofs.PeopleLemmas.{alias_entries}
use Rattle.people.proofs.people.People.alias.Goals as goal

pub returns-clause-ok : goal.returns-clause-ok
returns-clause-ok c =
    let people = c.self.inside in
    let entries = people.aliases.entries in
    let put = ap (map plain_alias) c.in_ok-insert.ensures.entries
    ∙ alias_entries entries c.in_ok-name.name c.in_ok-value.value
    ∙ ap (λ n. with_alias (map plain_alias entries) n c.in_ok-value.value.items)
    c.in_ok-name.ensures.items
    ∙ ap (with_alias (map plain_alias entries) c.args.name.now) c.in_ok-value.ensures in
    let with_aliases : List Alias → PlainPeople = λ l. record {
      lists = people.lists.items;
      subscribed = people.subscribed.items;
      mine = people.mine.items;
      aliases = l;
    } in
    ap with_aliases put
    ∙ ap (λ (p : PlainPeople). record p
    { aliases = with_alias p.aliases c.args.name.now c.args.value.now })
    c.self.view_is
