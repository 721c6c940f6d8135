use Rattle.std.proofs.Common.{◌∙◌, ◌<◌, ◌++◌, ◌∷◌, Bool, List, ap, arith, drop, length, sym, take}
use Rattle.std.proofs.lemmas.Bool.Decides.{nat_tests}
use Rattle.index_items.specs.Kept.{kept}
use Rattle.index_items.proofs.KeptLemmas.{kept_next}
use Rattle.index_items.proofs.kept.keep.Goals as goal

pub loop-mark-preserved-then-mark : goal.loop-mark-preserved-then-mark
loop-mark-preserved-then-mark g c =
    let place = c.loop-mark.place in
    let items = c.loop-mark.items.items in
    let rest = c.in-Some.rest.now in
    let within : place < length items =
    grind (arith, nat_tests, c.len.ensures, c.if-place-len.false) in
    record {
      within = omega (arith, within);
      whole = kept_next items place rest within
          ∙ ap (λ (m : Bool). take place items ++ kept (m ∷ rest) (drop place items))
          (sym c.if-mark.true)
          ∙ ap (λ (l : List Bool). take place items ++ kept l (drop place items))
          (sym c.in-Some.ensures.cases.0)
          ∙ c.loop-mark.invariant.whole;
    }
