use Rattle.std.proofs.Common.{◌∙◌, ap}
use Rattle.index_items.specs.Items.{numbers}
use Rattle.index_view.specs.Shutting.{all_shut}
use Rattle.index_view.specs.View.{PlainView}
use Rattle.index_view.proofs.ViewLemmas.{shut_numbers}
use Rattle.index_view.proofs.view.View.collapse_all.Goals as goal

pub put_folded-requires-clause-same : goal.put_folded-requires-clause-same
put_folded-requires-clause-same c =
    let items = c.as_slice.ensures ∙ ap (λ (v : PlainView). v.items) c.self.view_is in
    ap numbers (c.in_ok-items.ensures
    ∙ ap (all_shut c.args.shut c.self.inside.answers) items)
    ∙ shut_numbers c.args.shut c.self.inside.answers c.args.self.now.items
