use Rattle.std.proofs.Common.{◌≡◌, ◌∙◌, map, refl, subst, sym}
use Rattle.folder_letters.specs.Letters.{plain_letter}
use Rattle.index_items.specs.Items.{plain_items}
use Rattle.index_view.specs.View.{PlainView, Turned, answers_over, facts_of, turned}
use Rattle.index_view.proofs.ViewLemmas.{turned_over}
use Rattle.index_view.proofs.view.View.put.Goals as goal

pub returns-clause-ok : goal.returns-clause-ok
returns-clause-ok c =
    let mails = map plain_letter c.args.archive.now.items in
    let old = c.args.self.now in
    let items = plain_items c.args.items.items in
    let all = c.in_ok-answers.answers in
    let new : PlainView = record old { items = items } in
    let before = c.self.view_is ∙ c.in_ok-answers.ensures.same in
    let now : c.turn.new.self ≡ turned new all =
    c.turn.ensures ∙ (λ i. turned (record (before i) { items = c.from_vec.ensures i }) all) in
    subst (λ (v : PlainView). Turned mails old v (facts_of new)) (sym now)
    (turned_over mails old new all c.requires.heads c.requires.within c.requires.apart
    (c.in_ok-answers.ensures.value ∙ (λ i. answers_over mails
    (record (facts_of old) { items = plain_items (c.deref.ensures.value i) }))) refl refl refl)
