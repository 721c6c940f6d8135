use Rattle.std.proofs.Common.{◌∙◌, ap, map, subst, sym}
use Rattle.folder_letters.specs.Letters.{plain_letter}
use Rattle.index_items.specs.Acts.{acted_all}
use Rattle.index_view.specs.Acting.{RowsShow, bare_row, with_unread}
use Rattle.index_view.specs.View.{PlainView, Turned, facts_of}
use Rattle.index_view.proofs.RemarkLemmas.{acted_turned, listed_show}
use Rattle.index_view.proofs.view.View.act_still.Goals as goal

pub act_in_place-requires-clause-shown : goal.act_in_place-requires-clause-shown
act_in_place-requires-clause-shown c =
    subst (λ (w : PlainView). RowsShow w.items w.answers.rows) (sym c.self.view_is)
    (listed_show (map plain_letter c.args.archive.now.items) c.args.self.now c.requires.is_of)

pub returns : goal.returns
returns c =
    let mails = map plain_letter c.args.archive.now.items in
    let v = c.args.self.now in
    let act = c.args.act in
    let ids = c.args.ids.now in
    let rows = c.act_in_place.new.answers.rows in
    let is = c.self.view_is in
    let facts = record (facts_of v) { items = acted_all act ids v.items } in
    let items = c.act_in_place.ensures.items
    ∙ ap (λ (w : PlainView). acted_all act ids w.items) is in
    let answers = c.tell_unread.ensures ∙ ap with_unread c.act_in_place.ensures.others
    ∙ ap (λ (w : PlainView). with_unread (record w.answers { rows = rows })) is in
    let alike = c.act_in_place.ensures.alike
    ∙ ap (λ (w : PlainView). map bare_row w.answers.rows) is in
    let show = subst (λ l. RowsShow l rows) items c.act_in_place.ensures.shown in
    subst (λ (w : PlainView). Turned mails v w facts)
    (sym (λ k. record (is k) { items = items k; answers = answers k }))
    (acted_turned mails v act ids rows c.requires.is_of c.requires.still alike show)
