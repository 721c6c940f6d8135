use Rattle.std.proofs.Common.{◌∙◌, subst}
use Rattle.std.proofs.lemmas.List.{take_all}
use Rattle.index_items.specs.Found.{HasGone}
use Rattle.index_items.proofs.ByIdLemmas.{long_put, next_at}
use Rattle.index_items.proofs.found.gone_table.Goals as goal

pub loop-place-preserved : goal.loop-place-preserved
loop-place-preserved c = (
  long_put c.loop-place.table c.put.new.self _ _ c.put.ensures ∙ c.loop-place.invariant.0,
  next_at (λ id. id.0) (λ id. id) c.loop-place.table c.put.new.self c.args.gone.now
      c.loop-place.place _
      c.loop-place-test.true
      (rw c.loop-place.invariant.0 (c.requires c.loop-place.place _ c.loop-place-test.true))
      c.put.ensures c.loop-place.invariant.1,
)

pub returns : goal.returns
returns c = subst (λ xs. HasGone c.loop-place.table xs)
    (take_all c.loop-place.place c.args.gone.now c.loop-place-test.false)
    c.loop-place.invariant.1
