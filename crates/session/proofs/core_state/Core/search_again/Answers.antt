use Rattle.std.proofs.Common.{map, subst, sym}
use Rattle.folder_letters.specs.Letters.{plain_letter}
use Rattle.session_state.specs.Rules.{weeding_of}
use Rattle.session.specs.Core.{Reads}
use Rattle.session.proofs.core_state.Core.search_again.Goals as goal

pub returns-in-Some-clause-reads : goal.returns-in-Some-clause-reads
returns-in-Some-clause-reads c =
    let mails = map plain_letter c.args.archive.now.items in
    subst (Reads mails c.args.window) (sym c.tell_found.ensures.rest)
    (c.in_ok-is_found.ensures.moved mails c.args.window.cols
    (weeding_of c.args.self.now.rules) c.requires).is_read

pub returns-in-None-clause-reads : goal.returns-in-None-clause-reads
returns-in-None-clause-reads c =
    let mails = map plain_letter c.args.archive.now.items in
    subst (Reads mails c.args.window) (sym c.ask_search.ensures.rest)
    (c.in_ok-is_found.ensures.moved mails c.args.window.cols
    (weeding_of c.args.self.now.rules) c.requires).is_read
