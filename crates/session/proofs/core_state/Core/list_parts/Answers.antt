use Rattle.std.proofs.Common.{◌∙◌, Option, ap, map, sym}
use Rattle.std.proofs.lemmas.Result.{on_ok_weaker}
use Rattle.folder_letters.specs.Letters.{plain_letter}
use Rattle.mail_base.specs.declared.kind.Id.{Id}
use Rattle.session_pager.specs.Reader.{PlainReader}
use Rattle.session_state.specs.Rules.{weeding_of}
use Rattle.session.specs.Core.{plain_core, with_reader}
use Rattle.session.specs.Showing.{listed_at}
use Rattle.session.proofs.core_state.Core.list_parts.Goals as goal

pub returns-in-Some-clause-core : goal.returns-in-Some-clause-core
returns-in-Some-clause-core c =
    let old = plain_core c.args.self.now in
    on_ok_weaker c.list.result (λ reads.
    ap (λ (r : PlainReader). with_reader r old)
    (reads c.args.window.cols (weeding_of old.rules) c.requires.reads).same
    ∙ ap (λ (o : Option Id). listed_at (map plain_letter c.args.archive.now.items) o old)
    (sym c.in-Some.is ∙ c.cursor.ensures.value)) c.list.ensures.ok

pub returns-in-Some-clause-over : goal.returns-in-Some-clause-over
returns-in-Some-clause-over c = on_ok_weaker c.list.result (λ reads. record {
  is_of = c.requires.is_of;
  reads = (reads c.args.window.cols (weeding_of c.args.self.now.rules) c.requires.reads).is_read;
}) c.list.ensures.ok
