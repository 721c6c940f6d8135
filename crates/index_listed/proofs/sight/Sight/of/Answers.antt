use Rattle.std.proofs.Common.{◌≡◌, ◌∙◌, nat_eq, subst, sym}
use Rattle.std.specs.List.{IsDistinct}
use Rattle.index_listed.specs.Places.{numbers}
use Rattle.index_listed.specs.Sight.{visible}
use Rattle.index_listed.proofs.SightLemmas.{seen_apart}
use Rattle.index_listed.proofs.sight.Sight.of.Goals as goal

pub places_of-requires-2 : goal.places_of-requires-2
places_of-requires-2 c =
    let ids = c.args.order.items in
    let entries = c.args.entries.items in
    let seen : c.as_slice-3.result.now ≡ visible ids entries = c.as_slice-3.ensures
    ∙ c.in_ok-visible.ensures
    ∙ (λ k. visible (c.as_slice.ensures k) (c.deref.ensures.value k)) in
    subst (λ l. IsDistinct nat_eq (numbers l)) (sym seen)
    (seen_apart ids entries c.requires.long c.requires.apart)
