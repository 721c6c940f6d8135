use Rattle.std.proofs.Common.{◌∙◌, ap, map, subst, sym}
use Rattle.std.proofs.lemmas.Result.{on_ok_weaker}
use Rattle.folder_letters.specs.Letters.{plain_letter}
use Rattle.index_view.specs.View.{IsOf}
use Rattle.session_index.specs.Desk.{plain_wanted}
use Rattle.session.specs.Core.{ground_of, plain_core}
use Rattle.session.proofs.ActingLemmas.{over_fresh, put_back}
use Rattle.session.proofs.CoreLemmas.{over_still, wanting}
use Rattle.session.proofs.GivenLemmas.{keeps_same}
use Rattle.session.proofs.core_state.Core.heed.Goals as goal

pub take_text-requires-clause-over : goal.take_text-requires-clause-over
take_text-requires-clause-over g c =
    over_still (map plain_letter c.args.archive.now.items) c.args.window c.args.self.now
    c.take_wanted.new.self c.take_wanted.ensures.rest c.take_wanted.ensures.view c.requires.over

pub take_choice-requires-clause-is_of : goal.take_choice-requires-clause-is_of
take_choice-requires-clause-is_of g c = subst (IsOf (map plain_letter c.args.archive.now.items))
    (sym c.take_wanted.ensures.view) c.requires.over.is_of

pub returns-in_ok-take_choice-in-ToChoose-clause-over :
    goal.returns-in_ok-take_choice-in-ToChoose-clause-over
returns-in_ok-take_choice-in-ToChoose-clause-over g c =
    on_ok_weaker c.refresh.result (λ reads. over_fresh
    (map plain_letter c.args.archive.now.items) c.args.window c.take_choice.new.self.desk.view
    c.refresh.new.self c.refresh.ensures.view c.in_ok-take_choice-in-ToChoose.ensures.is_of reads)
    c.refresh.ensures.reads

pub returns-in_default : goal.returns-in_default
returns-in_default g c =
    let mails = map plain_letter c.args.archive.now.items in
    let window = c.args.window in
    let old = c.args.self.now in
    let stays = over_still mails window old c.take_wanted.new.self c.take_wanted.ensures.rest
    c.take_wanted.ensures.view c.requires.over in
    record {
      keeps = keeps_same c.args.verdicts.now.kept;
      core = λ later keeps. ap (wanting (plain_wanted c.take_wanted.result))
          c.take_wanted.ensures.core
          ∙ put_back (ground_of mails later window c.args.moment.0) c.take_wanted.result
          (plain_core old) c.in_default.not-ToAnswer c.in_default.not-ToChoose
          c.take_wanted.ensures.wanted;
      over = record { is_of = stays.is_of; reads = stays.reads };
    }
