use Rattle.std.proofs.Common.{◌∙◌, subst}
use Rattle.std.proofs.lemmas.List.{take_all}
use Rattle.index_items.specs.Found.{HasFlags}
use Rattle.index_items.proofs.ByIdLemmas.{long_put, next_at}
use Rattle.index_items.proofs.found.flags_table.Goals as goal

pub loop-place-preserved : goal.loop-place-preserved
loop-place-preserved c = (
  long_put c.loop-place.table c.put.new.self _ _ c.put.ensures ∙ c.loop-place.invariant.0,
  next_at (λ l. l.id.0) (λ l. l.flags) c.loop-place.table c.put.new.self c.args.listed.now
      c.loop-place.place _
      c.loop-place-test.true
      (rw c.loop-place.invariant.0 (c.requires c.loop-place.place _ c.loop-place-test.true))
      c.put.ensures c.loop-place.invariant.1,
)

pub returns : goal.returns
returns c = subst (λ xs. HasFlags c.loop-place.table xs)
    (take_all c.loop-place.place c.args.listed.now c.loop-place-test.false)
    c.loop-place.invariant.1
