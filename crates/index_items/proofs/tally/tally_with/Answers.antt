use Rattle.std.proofs.Common.{◌∙◌, rules}
use Rattle.index_items.specs.Items.{plain_item}
use Rattle.index_items.proofs.ItemsLemmas.{has_room, is_counted, is_exchanged}
use Rattle.index_items.proofs.tally.tally_with.Goals as goal

pub exchanged-requires-clause-counted : goal.exchanged-requires-clause-counted
exchanged-requires-clause-counted c =
    is_counted c.args.items.now c.args.place c.index-items-place.result c.requires.place
    c.index-items-place.is c.args.tally c.requires.tally

pub exchanged-requires-clause-room : goal.exchanged-requires-clause-room
exchanged-requires-clause-room c =
    has_room c.args.items.now c.args.place c.index-items-place.result c.requires.place
    c.index-items-place.is c.args.tally c.requires.tally (search rules)

pub returns : goal.returns
returns c = c.exchanged.ensures
    ∙ is_exchanged c.args.items.now c.args.place c.index-items-place.result c.requires.place
    c.index-items-place.is c.args.tally (plain_item c.args.item) c.requires.tally
