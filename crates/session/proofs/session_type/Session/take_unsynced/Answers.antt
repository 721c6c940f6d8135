use Rattle.std.proofs.Common.{◌∙◌, ℕ, List, ap, map, refl}
use Rattle.folder_letters.specs.Letters.{plain_letter}
use Rattle.session_events.specs.Events.{plain_refusal}
use Rattle.session_pager.specs.Reader.{PlainReader}
use Rattle.session_state.specs.Rules.{weeding_of}
use Rattle.session.specs.Core.{plain_core, with_desk, with_reader}
use Rattle.session.specs.Reading.{left}
use Rattle.session.specs.Syncing.{unsynced_core}
use Rattle.session.proofs.session_type.Session.take_unsynced.Goals as goal

pub returns-clause-takes : goal.returns-clause-takes
returns-clause-takes c =
    let mails = map plain_letter c.args.archive.now.items in
    let core = plain_core c.args.self.now.core in
    let closes = c.close.ensures mails 0 (weeding_of c.args.self.now.core.rules) in record {
      is_of = c.requires;
      core_is = ap (λ (r : PlainReader). with_reader r
          (with_desk (record core.desk { message = c.in_ok-line.line.items }) core)) closes.same
          ∙ ap (λ (text : List ℕ). left (with_desk (record core.desk { message = text }) core))
          c.in_ok-line.ensures
          ∙ ap (λ (path : List ℕ). unsynced_core path (plain_refusal c.args.why.now) core)
          c.path-path.ensures;
      same = refl;
    }
