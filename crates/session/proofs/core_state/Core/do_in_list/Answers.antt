use Rattle.std.proofs.Common.{◌∙◌, ap, map, sym}
use Rattle.folder_letters.specs.Letters.{plain_letter}
use Rattle.session_pager.specs.Reader.{PlainReader}
use Rattle.session_pager.specs.declared.attach_functions.AttachDeed.{AttachDeed}
use Rattle.session_state.specs.Rules.{weeding_of}
use Rattle.session.specs.Acting.{attach_done}
use Rattle.session.specs.Core.{plain_core, with_reader}
use Rattle.session.proofs.core_state.Core.do_in_list.Goals as goal

pub returns-in_ok-open_part-in-OpenPart-clause-core :
    goal.returns-in_ok-open_part-in-OpenPart-clause-core
returns-in_ok-open_part-in-OpenPart-clause-core c =
    let mails = map plain_letter c.args.archive.now.items in
    let old = plain_core c.args.self.now in
    ap (λ (r : PlainReader). with_reader r old)
    (c.in_ok-open_part-in-OpenPart.ensures.ok (weeding_of old.rules) c.requires.reads).same
    ∙ ap (λ (deed : AttachDeed). attach_done mails c.args.window deed old) (sym c.in-OpenPart.is)

pub returns-in_ok-open_part-in-OpenPart-clause-reads :
    goal.returns-in_ok-open_part-in-OpenPart-clause-reads
returns-in_ok-open_part-in-OpenPart-clause-reads c =
    (c.in_ok-open_part-in-OpenPart.ensures.ok (weeding_of c.args.self.now.rules)
    c.requires.reads).is_read

pub returns-in-Leave-clause-core : goal.returns-in-Leave-clause-core
returns-in-Leave-clause-core c =
    let mails = map plain_letter c.args.archive.now.items in
    let old = plain_core c.args.self.now in
    ap (λ (r : PlainReader). with_reader r old)
    (c.close.ensures mails c.args.window.cols (weeding_of old.rules)).same
    ∙ ap (λ (deed : AttachDeed). attach_done mails c.args.window deed old) (sym c.in-Leave.is)

pub returns-in-Leave-clause-reads : goal.returns-in-Leave-clause-reads
returns-in-Leave-clause-reads c = (c.close.ensures (map plain_letter c.args.archive.now.items)
    c.args.window.cols (weeding_of c.args.self.now.rules)).is_read
