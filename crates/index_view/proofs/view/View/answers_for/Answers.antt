use Rattle.std.proofs.Common.{◌≡◌, map, subst}
use Rattle.std.specs.Prelude.{IfOk}
use Rattle.folder_letters.specs.Letters.{plain_letter}
use Rattle.index_items.specs.Items.{plain_items}
use Rattle.index_view.specs.Answers.{PlainAnswers}
use Rattle.index_view.specs.View.{PlainView, answers_over, facts_of}
use Rattle.index_view.proofs.view.View.answers_for.Goals as goal

pub returns-clause-value : goal.returns-clause-value
returns-clause-value c = subst (λ (v : PlainView). IfOk c.answers_over.result
    (λ (a : PlainAnswers). a ≡ answers_over (map plain_letter c.args.archive.now.items)
    (record (facts_of v) { items = plain_items c.args.items.now })))
    c.self.view_is c.answers_over.ensures.value
