use Rattle.std.proofs.Common.{◌∙◌, List, ap, length, map, subst, sym}
use Rattle.folder_letters.specs.Letters.{plain_letter}
use Rattle.folder_letters.specs.Listings.{ids_from}
use Rattle.folder_letters.specs.declared.listing.Listed.{Listed}
use Rattle.index_items.specs.Items.{PlainItem}
use Rattle.index_view.specs.View.{MayTake}
use Rattle.session_index.specs.Desk.{PlainDesk, plain_desk}
use Rattle.session_index.specs.Index.{index_of}
use Rattle.session_pager.specs.Reader.{PlainReader}
use Rattle.session_state.specs.Rules.{weeding_of}
use Rattle.session.specs.Answers.{tuned}
use Rattle.session.specs.Core.{CoreState, plain_core, with_desk, with_reader}
use Rattle.session.specs.Reading.{left}
use Rattle.session.specs.Opening.{found_in, opened}
use Rattle.session.proofs.LearningLemmas.{lessons_items}
use Rattle.session.proofs.OpeningLemmas.{may_open, taken_first}
use Rattle.session.proofs.core_state.Core.open.Goals as goal

pub learn-requires : goal.learn-requires
learn-requires c = c.requires.empty.is_of _

pub tune-requires : goal.tune-requires
tune-requires c = c.in_ok-learn.ensures.is_of

pub take_in-requires-clause-found : goal.take_in-requires-clause-found
take_in-requires-clause-found c =
    let mails = map plain_letter c.args.archive.now.items in
    let found = c.in_ok-found.found in
    let came = c.in_ok-found.ensures.came in
    let none = ap (λ (s : CoreState). s.desk.index.facts.items) c.in_ok-tune.ensures.same
    ∙ ap (λ (s : CoreState). s.desk.index.facts.items) c.in_ok-learn.ensures.same
    ∙ lessons_items mails c.args.self.now.rules.lessons (index_of c.args.self.now.desk.view)
    ∙ c.requires.empty.none in
    subst (λ (items : List PlainItem). MayTake mails items found) (sym none)
    (may_open c.first_folder_is_taken.ensures mails found c.in_ok-found.ensures.gone
    c.in_ok-found.ensures.reflagged
    (ap (λ (l : List Listed). map (λ (listed : Listed). listed.id) l) came ∙ c.requires.fresh.0
    ∙ sym (ap (ids_from 0) came))
    (c.requires.fresh.1 ∙ sym (ap length came)))

pub returns-clause-core : goal.returns-clause-core
unfolding opened
returns-clause-core c =
    let mails = map plain_letter c.args.archive.now.items in
    let t = plain_core c.tune.new.self in
    let came = c.args.came.now.items in
    let holds = c.in_ok-take_in.ensures.ok in
    let closes = c.close.ensures mails 0 (weeding_of c.args.self.now.rules) in
    let desk_is = holds.same ∙ taken_first mails c.in_ok-found.found came
    c.in_ok-found.ensures.gone c.in_ok-found.ensures.reflagged c.in_ok-found.ensures.came
    (plain_desk c.tune.new.self.desk) in record {
      is_of = holds.is_of;
      same = ap (λ (r : PlainReader). with_reader r (with_desk (plain_desk c.take_in.new.self) t))
          closes.same
          ∙ ap (λ (d : PlainDesk). left (with_desk d t)) desk_is
          ∙ ap (λ (s : CoreState). left (found_in mails came s))
          (c.in_ok-tune.ensures.same ∙ ap (tuned mails) c.in_ok-learn.ensures.same);
    }

pub returns-clause-reads : goal.returns-clause-reads
returns-clause-reads c = λ mails window.
    (c.close.ensures mails window.cols (weeding_of c.tune.new.self.rules)).is_read
