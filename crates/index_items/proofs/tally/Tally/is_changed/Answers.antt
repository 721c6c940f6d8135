use Rattle.std.proofs.Common.{◌∙◌, ap}
use Rattle.std.specs.Prelude.{not, ◌==◌}
use Rattle.index_items.specs.Tally.{of_kind}
use Rattle.index_items.specs.declared.tally.Tally.{Tally}
use Rattle.index_items.proofs.TallyLemmas.{changed_where}
use Rattle.index_items.proofs.tally.Tally.is_changed.Goals as goal

pub returns : goal.returns
returns c = λ items is.
    ap (λ n. not (n == 0))
    (c.of_kind.ensures ∙ ap (λ (t : Tally). of_kind c.args.kind t.unsynced) is)
    ∙ changed_where c.args.kind items
