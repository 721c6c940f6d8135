use Rattle.std.proofs.Common.{◌∙◌, ap, map, refl}
use Rattle.folder_letters.specs.Letters.{plain_letter}
use Rattle.session_index.specs.Desk.{PlainDesk, plain_desk}
use Rattle.session_pager.specs.Reader.{PlainReader}
use Rattle.session_state.specs.Rules.{weeding_of}
use Rattle.session.specs.Core.{plain_core, with_desk, with_reader}
use Rattle.session.specs.Reading.{left}
use Rattle.session.proofs.session_type.Session.take_synced.Goals as goal

pub returns-clause-takes : goal.returns-clause-takes
returns-clause-takes c =
    let mails = map plain_letter c.args.archive.now.items in
    let core = plain_core c.args.self.now.core in
    let holds = c.in_ok-synced.ensures.ok in
    let closes = c.close.ensures mails 0 (weeding_of c.args.self.now.core.rules) in record {
      is_of = holds.is_of;
      core_is = ap (λ (r : PlainReader). with_reader r
          (with_desk (plain_desk c.synced.new.self) core)) closes.same
          ∙ ap (λ (d : PlainDesk). left (with_desk d core)) holds.same;
      same = refl;
    }
