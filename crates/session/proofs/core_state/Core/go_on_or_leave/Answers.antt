use Rattle.std.proofs.Common.{◌∙◌, ap, map, sym}
use Rattle.folder_letters.specs.Letters.{plain_letter}
use Rattle.session_index.specs.Desk.{PlainDesk, plain_desk}
use Rattle.session_pager.specs.Reader.{PlainReader, index_shown}
use Rattle.session_state.specs.Rules.{weeding_of}
use Rattle.session.specs.Core.{ground_of, plain_core, with_desk, with_reader}
use Rattle.session.proofs.ActingLemmas.{leaves}
use Rattle.session.proofs.core_state.Core.go_on_or_leave.Goals as goal

pub returns-clause-core : goal.returns-clause-core
returns-clause-core g c = λ later keeps.
    let mails = map plain_letter c.args.archive.now.items in
    let core = c.args.self.now in
    let closed = c.close.ensures mails c.args.window.cols (weeding_of core.rules) in
    let moved = c.in_ok-next_undeleted.ensures.moved in
    ap (λ (r : PlainReader). with_reader r (with_desk (plain_desk c.next_undeleted.new.self)
    (plain_core core))) closed.same
    ∙ ap (λ (d : PlainDesk). with_reader (index_shown (plain_core core).reader)
    (with_desk d (plain_core core))) moved.same
    ∙ leaves (ground_of mails later c.args.window c.args.moment.0) c.args.rule (plain_core core)
    (sym c.in_ok-next_undeleted.ensures.found ∙ c.if-branch.false)

pub returns-clause-over : goal.returns-clause-over
returns-clause-over g c = record {
  is_of = c.in_ok-next_undeleted.ensures.moved.is_of;
  reads = (c.close.ensures (map plain_letter c.args.archive.now.items) c.args.window.cols
      (weeding_of c.args.self.now.rules)).is_read;
}
