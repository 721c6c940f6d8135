use Rattle.std.proofs.Common.{◌≡◌, ◌∙◌, ◌&&◌, [], ◌∷◌, ap, map, not, sym}
use Rattle.std.proofs.lemmas.Result.{on_ok_weaker}
use Rattle.std.specs.Prelude.{if◌then◌else◌}
use Rattle.folder_letters.specs.Letters.{plain_letter}
use Rattle.index_items.specs.declared.act.Act.TheVariants.{Clear}
use Rattle.index_items.specs.declared.act.Mark.TheVariants.{New}
use Rattle.index_view.specs.Answers.{PlainAnswers}
use Rattle.session_index.specs.Desk.{plain_desk}
use Rattle.session_index.specs.Effects.{done_to}
use Rattle.session_index.specs.Shown.{shows}
use Rattle.session_index.specs.Viewing.{viewed}
use Rattle.session_index.specs.declared.sought.Sought.TheVariants.{Unread}
use Rattle.session_index.proofs.DeskLemmas.{holds_as, shown_holds}
use Rattle.session_index.proofs.desk.Desk.see.Goals as goal

pub returns : goal.returns
returns c =
    let mails = map plain_letter c.args.archive.now.items in
    let d = c.args.self.now in
    let id = c.args.id in
    let seen = done_to mails (Clear New) (id ∷ []) (plain_desk d) in
    let unread = ap (λ (a : PlainAnswers). shows Unread a id) (sym c.requires.answered)
    ∙ sym c.shows.ensures ∙ c.if-not-shows.false in
    let is : viewed mails id (plain_desk d) ≡ seen =
    λ k. if not (c.if-self.false k) && unread k then seen else plain_desk d in
    on_ok_weaker c.act_on.result (λ shown. holds_as mails _ _ _ (sym is)
    (shown_holds mails d _ c.act_on.new.view shown)) c.act_on.ensures.acted
