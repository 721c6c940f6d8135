use Rattle.std.proofs.Common.{◌∙◌, ap}
use Rattle.index_items.specs.Alteration.{alter_at, altered_by}
use Rattle.index_items.specs.Items.{numbers}
use Rattle.index_view.specs.View.{PlainView}
use Rattle.index_items.specs.declared.alteration.Alteration.TheVariants.{Shut}
use Rattle.index_view.proofs.ViewLemmas.{same_numbers}
use Rattle.index_view.proofs.view.View.collapse.Goals as goal

pub put_folded-requires-clause-same : goal.put_folded-requires-clause-same
put_folded-requires-clause-same c =
    let alteration = Shut c.args.shut in
    let items = c.as_slice.ensures ∙ ap (λ (v : PlainView). v.items) c.self.view_is in
    ap numbers (c.in_ok-items.ensures ∙ ap (alter_at c.args.root (altered_by alteration)) items)
    ∙ same_numbers alteration c.args.root c.args.self.now.items
