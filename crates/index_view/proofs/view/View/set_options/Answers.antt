use Rattle.std.proofs.Common.{◌≡◌, ◌∙◌, map, refl, subst, sym}
use Rattle.folder_letters.specs.Letters.{plain_letter}
use Rattle.index_view.specs.Answers.{facts}
use Rattle.index_view.specs.View.{PlainView, Turned, answers_over, facts_of, turned}
use Rattle.index_view.specs.contracts.view.View.{the_view}
use Rattle.index_view.proofs.ViewLemmas.{turned_over}
use Rattle.index_view.proofs.view.View.set_options.Goals as goal

pub returns-clause-ok : goal.returns-clause-ok
returns-clause-ok c =
    let mails = map plain_letter c.args.archive.now.items in
    let old = c.args.self.now in
    let options = c.args.options in
    let all = c.in_ok-answers.answers in
    let new : PlainView = record old { options = options } in
    let now : c.turn.new.self ≡ turned new all =
    c.turn.ensures
    ∙ (λ i. turned (the_view (record c.self.inside {
      options = options;
      tables = c.in_ok-answers.ensures.same i;
    })) all)
    ∙ (λ i. turned (record (c.self.view_is i) { options = options }) all) in
    subst (λ (v : PlainView). Turned mails old v (facts_of new)) (sym now)
    (turned_over mails old new all c.requires.heads c.requires.within c.requires.apart
    (c.in_ok-answers.ensures.value
    ∙ (λ i. answers_over mails
    (record (facts options c.as_slice.result.now c.self.inside.tables)
    { items = c.as_slice.ensures i }))
    ∙ (λ i. answers_over mails (record (facts_of (c.self.view_is i)) { options = options })))
    refl refl refl)
