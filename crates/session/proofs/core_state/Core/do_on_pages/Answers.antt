use Rattle.std.proofs.Common.{◌∙◌, ap, map, sym}
use Rattle.folder_letters.specs.Letters.{plain_letter}
use Rattle.session_pager.specs.Reader.{PlainReader}
use Rattle.session_pager.specs.declared.pager_functions.PagerDeed.{PagerDeed}
use Rattle.session_state.specs.Rules.{weeding_of}
use Rattle.session.specs.Acting.{page_done}
use Rattle.session.specs.Core.{plain_core, with_reader}
use Rattle.session.proofs.core_state.Core.do_on_pages.Goals as goal

pub returns-in-Leave-clause-core : goal.returns-in-Leave-clause-core
returns-in-Leave-clause-core c =
    let mails = map plain_letter c.args.archive.now.items in
    let old = plain_core c.args.self.now in
    ap (λ (r : PlainReader). with_reader r old)
    (c.close.ensures mails c.args.window.cols (weeding_of old.rules)).same
    ∙ ap (λ (deed : PagerDeed). page_done mails c.args.window deed old) (sym c.in-Leave.is)

pub returns-in-Leave-clause-reads : goal.returns-in-Leave-clause-reads
returns-in-Leave-clause-reads c = (c.close.ensures (map plain_letter c.args.archive.now.items)
    c.args.window.cols (weeding_of c.args.self.now.rules)).is_read

pub returns-in-Turn-clause-reads : goal.returns-in-Turn-clause-reads
returns-in-Turn-clause-reads c = (c.turn.ensures (map plain_letter c.args.archive.now.items)
    c.args.window.cols (weeding_of c.args.self.now.rules) c.requires.reads).is_read
