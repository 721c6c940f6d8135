use Rattle.std.proofs.Common.{◌∙◌, ap, length}
use Rattle.std.proofs.lemmas.Result.{IfOk-weaker}
use Rattle.index_items.specs.Changes.{changes_of}
use Rattle.index_view.specs.View.{PlainView}
use Rattle.index_view.proofs.ItemLemmas.{changes_below}
use Rattle.index_view.proofs.JoinLemmas.{all_below}
use Rattle.index_view.proofs.view.View.changes.Goals as goal

pub returns-clause-below : goal.returns-clause-below
returns-clause-below c mails of =
    let v = c.args.self.now in
    let kind = c.args.kind in
    let purge = c.args.purge in
    IfOk-weaker c.changes.result _ _ (λ changes are.
    changes_below (length mails) kind purge v.items changes.items (all_below mails v of)
    (are ∙ ap (changes_of kind purge) c.as_slice.ensures
    ∙ ap (λ (w : PlainView). changes_of kind purge w.items) c.self.view_is)) c.changes.ensures
