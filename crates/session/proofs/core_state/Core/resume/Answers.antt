use Rattle.std.proofs.Common.{◌≡◌, ◌∙◌, None, Option, ap, map}
use Rattle.std.proofs.lemmas.Result.{on_ok_weaker}
use Rattle.folder_letters.specs.Letters.{plain_letter}
use Rattle.mail_base.specs.declared.kind.Id.{Id}
use Rattle.session_pager.specs.Reader.{PlainReader, with_awaited}
use Rattle.session_pager.specs.Reads.{plain_reader}
use Rattle.session_state.specs.Rules.{weeding_of}
use Rattle.session.specs.Core.{plain_core, with_reader}
use Rattle.session.specs.Showing.{displaying, resumed_by}
use Rattle.session.proofs.ShowingLemmas.{resumed_shown}
use Rattle.session.proofs.core_state.Core.resume.Goals as goal

pub show_message-requires-clause-over : goal.show_message-requires-clause-over
show_message-requires-clause-over c = record {
  is_of = c.requires.over.is_of;
  reads = (c.take_awaited.ensures.none (map plain_letter c.args.archive.now.items)
      c.args.window.cols (weeding_of c.args.self.now.rules) c.requires.over.reads).is_read;
}

pub returns-in-Some-clause-core : goal.returns-in-Some-clause-core
returns-in-Some-clause-core c =
    let mails = map plain_letter c.args.archive.now.items in
    let old = plain_core c.args.self.now in
    let taken = c.take_awaited.ensures.none mails c.args.window.cols (weeding_of old.rules)
    c.requires.over.reads in
    let rest = resumed_shown mails c.in-Some.id old (plain_reader c.take_awaited.new.self)
    taken.same c.in-Some.ensures.awaited in
    on_ok_weaker c.show_message.result (λ (is : plain_core c.show_message.new.self
    ≡ displaying mails c.in-Some.id (with_reader (plain_reader c.take_awaited.new.self) old)).
    is ∙ rest) c.show_message.ensures.core

pub returns-in-None-clause-core : goal.returns-in-None-clause-core
returns-in-None-clause-core c =
    let mails = map plain_letter c.args.archive.now.items in
    let old = plain_core c.args.self.now in
    let waits : None ≡ old.reader.awaited = c.in-None.ensures.awaited in
    let taken = c.take_awaited.ensures.none mails c.args.window.cols (weeding_of old.rules)
    c.requires.over.reads in
    ap (λ (r : PlainReader). with_reader r old) taken.same
    ∙ ap (λ (o : Option Id). with_reader (with_awaited o old.reader) old) waits
    ∙ ap (λ (o : Option Id). resumed_by mails o old) waits

pub returns-in-None-clause-over : goal.returns-in-None-clause-over
returns-in-None-clause-over c = record {
  is_of = c.requires.over.is_of;
  reads = (c.take_awaited.ensures.none (map plain_letter c.args.archive.now.items)
      c.args.window.cols (weeding_of c.args.self.now.rules) c.requires.over.reads).is_read;
}
