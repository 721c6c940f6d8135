use Rattle.std.proofs.Common.{map, refl}
use Rattle.folder_letters.specs.Letters.{plain_letter}
use Rattle.session_pager.specs.declared.stepped.Stepped.TheVariants as step
use Rattle.session_state.specs.Rules.{weeding_of}
use Rattle.session.specs.Core.{plain_core}
use Rattle.session.proofs.PagingLemmas.{stepping_done}
use Rattle.session.proofs.core_state.Core.step.Goals as goal

pub returns-in-First-clause-core : goal.returns-in-First-clause-core
returns-in-First-clause-core c =
    let mails = map plain_letter c.args.archive.now.items in
    let cols = c.args.window.cols in
    let weeding = weeding_of c.args.self.now.rules in
    let steps = c.in-First.ensures in
    stepping_done mails c.args.window c.args.down (plain_core c.args.self.now) step.First _ _
    c.say.ensures.desk (steps.met mails cols weeding c.requires.reads)
    (steps.moved mails cols weeding c.requires.reads).same

pub returns-in-First-clause-reads : goal.returns-in-First-clause-reads
returns-in-First-clause-reads c = (c.step.ensures.moved (map plain_letter c.args.archive.now.items)
    c.args.window.cols (weeding_of c.args.self.now.rules) c.requires.reads).is_read

pub returns-in-Last-clause-core : goal.returns-in-Last-clause-core
returns-in-Last-clause-core c =
    let mails = map plain_letter c.args.archive.now.items in
    let cols = c.args.window.cols in
    let weeding = weeding_of c.args.self.now.rules in
    let steps = c.in-Last.ensures in
    stepping_done mails c.args.window c.args.down (plain_core c.args.self.now) step.Last _ _
    c.say-in-Last.ensures.desk (steps.met mails cols weeding c.requires.reads)
    (steps.moved mails cols weeding c.requires.reads).same

pub returns-in-Last-clause-reads : goal.returns-in-Last-clause-reads
returns-in-Last-clause-reads c = (c.step.ensures.moved (map plain_letter c.args.archive.now.items)
    c.args.window.cols (weeding_of c.args.self.now.rules) c.requires.reads).is_read

pub returns-in_default-clause-core : goal.returns-in_default-clause-core
returns-in_default-clause-core c =
    let mails = map plain_letter c.args.archive.now.items in
    let cols = c.args.window.cols in
    let weeding = weeding_of c.args.self.now.rules in
    let steps = c.in_default.ensures in
    stepping_done mails c.args.window c.args.down (plain_core c.args.self.now) step.Moved _ _
    refl (steps.met mails cols weeding c.requires.reads)
    (steps.moved mails cols weeding c.requires.reads).same

pub returns-in_default-clause-reads : goal.returns-in_default-clause-reads
returns-in_default-clause-reads c =
    (c.step.ensures.moved (map plain_letter c.args.archive.now.items)
    c.args.window.cols (weeding_of c.args.self.now.rules) c.requires.reads).is_read
