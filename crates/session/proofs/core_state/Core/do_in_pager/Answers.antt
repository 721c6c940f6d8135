use Rattle.std.proofs.Common.{◌∙◌, ap, map}
use Rattle.std.proofs.lemmas.Result.{on_ok_weaker}
use Rattle.folder_letters.specs.Letters.{plain_letter}
use Rattle.session_pager.specs.declared.pager_functions.PagerDeed.{PagerDeed}
use Rattle.session.specs.Acting.{pager_done}
use Rattle.session.specs.Core.{ground_of, plain_core}
use Rattle.session.proofs.ActingLemmas.{over_fresh, paged}
use Rattle.session.proofs.GivenLemmas.{keeps_same}
use Rattle.session.proofs.core_state.Core.do_in_pager.Goals as goal

pub returns-in_default : goal.returns-in_default
returns-in_default g c =
    let mails = map plain_letter c.args.archive.now.items in
    let old = plain_core c.args.self.now in
    record {
      keeps = keeps_same c.args.verdicts.now.kept;
      core = on_ok_weaker c.do_on_pages.result (λ is later keeps.
          let ground = ground_of mails later c.args.window c.args.moment.0 in
          is ∙ paged ground c.args.function c.pager_deed.result old c.in_default.not-Follow
          c.in_default.not-AsInIndex c.in_default.not-DeleteOn
          ∙ ap (λ (deed : PagerDeed). pager_done ground c.args.function deed old)
          c.pager_deed.ensures) c.do_on_pages.ensures.core;
      over = on_ok_weaker c.do_on_pages.result (λ reads. over_fresh mails c.args.window
          c.args.self.now.desk.view c.do_on_pages.new.self c.do_on_pages.ensures.view
          c.requires.over.is_of reads) c.do_on_pages.ensures.reads;
    }
