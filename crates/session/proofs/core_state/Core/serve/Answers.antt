use Rattle.std.proofs.Common.{map}
use Rattle.folder_letters.specs.Letters.{plain_letter}
use Rattle.session.proofs.CoreLemmas.{over_still}
use Rattle.session.proofs.core_state.Core.serve.Goals as goal

pub display_at_cursor-requires-clause-over : goal.display_at_cursor-requires-clause-over
display_at_cursor-requires-clause-over g c =
    over_still (map plain_letter c.args.archive.now.items) c.args.window c.args.self.now
    c.take_wanted.new.self c.take_wanted.ensures.rest c.take_wanted.ensures.view c.requires.over

pub list_parts-requires : goal.list_parts-requires
list_parts-requires g c =
    over_still (map plain_letter c.args.archive.now.items) c.args.window c.args.self.now
    c.take_wanted-in-ToList.new.self c.take_wanted-in-ToList.ensures.rest
    c.take_wanted-in-ToList.ensures.view
    c.requires.over
