use Rattle.std.proofs.Common.{◌∙◌, ◌<◌, subst, sym}
use Rattle.std.proofs.lemmas.List.{take_all}
use Rattle.index_items.specs.Changes.{HasChanges}
use Rattle.index_items.proofs.ByIdLemmas.{long_put, next_first}
use Rattle.index_items.proofs.ChangeLemmas.{tells_changes}
use Rattle.index_items.proofs.change.table_of.Goals as goal

pub loop-place-preserved : goal.loop-place-preserved
loop-place-preserved c = (
  long_put c.loop-place.table c.put.new.self _ _ c.put.ensures ∙ c.loop-place.invariant.0,
  next_first (λ c. c.id.0) (λ c. c.change) c.loop-place.table c.put.new.self c.args.changes.now
      c.loop-place.place c.index-changes-place.result c.loop-place-test.true
      c.index-changes-place.is (rw c.loop-place.invariant.0
      (subst (λ x. x.id.0 < c.args.bound) (sym c.index-changes-place.is)
      (c.requires c.loop-place.place c.index-changes-place.result c.loop-place-test.true)))
      c.put.ensures c.loop-place.invariant.1,
)

pub returns : goal.returns
returns c = tells_changes c.loop-place.table c.args.changes.now
    (subst (λ xs. HasChanges c.loop-place.table xs)
    (take_all c.loop-place.place c.args.changes.now c.loop-place-test.false)
    c.loop-place.invariant.1)
