use Rattle.std.proofs.Common.{◌≡◌, ◌∙◌, List, ap, map, sym}
use Rattle.std.proofs.lemmas.Result.{on_ok_weaker}
use Rattle.folder_letters.specs.Letters.{plain_letter}
use Rattle.session_pager.specs.Reader.{PlainReader}
use Rattle.session_state.specs.Frames.{PlainFrame}
use Rattle.session_state.specs.Rules.{weeding_of}
use Rattle.session.specs.Core.{plain_core, with_reader}
use Rattle.session.specs.Showing.{displaying, displaying_behind, once_hooked}
use Rattle.session.proofs.ShowingLemmas.{kept_waiting}
use Rattle.session.proofs.core_state.Core.show_unless_waiting.Goals as goal

pub returns-then-waits_for_file-clause-core : goal.returns-then-waits_for_file-clause-core
returns-then-waits_for_file-clause-core c =
    let mails = map plain_letter c.args.archive.now.items in
    let old = plain_core c.args.self.now in
    ap (λ (r : PlainReader). with_reader r old)
    (c.await_message.ensures mails c.args.window.cols (weeding_of old.rules)
    c.requires.over.reads).same
    ∙ kept_waiting mails c.args.id old.frames old
    (c.waits_for_file.ensures.some c.if-waits_for_file.true)

pub returns-then-waits_for_file-clause-over : goal.returns-then-waits_for_file-clause-over
returns-then-waits_for_file-clause-over c = record {
  is_of = c.requires.over.is_of;
  reads = (c.await_message.ensures (map plain_letter c.args.archive.now.items)
      c.args.window.cols (weeding_of c.args.self.now.rules) c.requires.over.reads).is_read;
}

pub returns-clause-core : goal.returns-clause-core
returns-clause-core c =
    let mails = map plain_letter c.args.archive.now.items in
    let old = plain_core c.args.self.now in
    let none = c.waits_for_file.ensures.none c.if-waits_for_file.false in
    let rest : displaying mails c.args.id old ≡ once_hooked mails c.args.id old =
    ap (λ (frames : List PlainFrame). displaying_behind mails c.args.id frames old) (sym none) in
    on_ok_weaker c.show_message.result (λ (is : plain_core c.show_message.new.self
    ≡ displaying mails c.args.id old). is ∙ rest) c.show_message.ensures.core
