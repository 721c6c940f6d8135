use Rattle.std.proofs.Common.{◌∙◌, ◌<◌, ℕ, suc, ap, length, subst, sym}
use Rattle.std.specs.Option.{option_map_or}
use Rattle.index_order.specs.Inner.{IsFilling, link_at, without_value}
use Rattle.index_order.proofs.FillLemmas.{filled_all, filled_more, next_is}
use Rattle.index_order.proofs.LinkLemmas.{height, next_falls}
use Rattle.index_order.proofs.greatest.fill.Goals as goal

pub loop-here-smaller : goal.loop-here-smaller
loop-here-smaller c =
    let above = c.args.above.now in
    let here = c.in-Some.here in
    let filling = c.loop-here.invariant in
    let now = next_is c.loop-here.values.items c.loop-here.next here
    (ap (λ l. without_value l c.loop-here.next) (sym c.deref.ensures.value)
    ∙ sym c.without_value.ensures ∙ c.in-Some.is) in
    let more = λ (p : ℕ). suc (height (link_at above) (length above) p) in
    subst (λ o. option_map_or more (link_at above here) 0 < option_map_or more o 0) (sym now.0)
    (next_falls above c.requires.forest here (filling.within here now.0))

pub loop-here-preserved : goal.loop-here-preserved
loop-here-preserved c =
    let above = c.args.above.now in
    let here = c.in-Some.here in
    let old = c.args.values.now.items in
    let values = c.loop-here.values.items in
    let now = next_is values c.loop-here.next here
    (ap (λ l. without_value l c.loop-here.next) (sym c.deref.ensures.value)
    ∙ sym c.without_value.ensures ∙ c.in-Some.is) in
    filled_more above old values c.args.place here c.requires.forest
    (subst (IsFilling above old values c.args.place) now.0 c.loop-here.invariant) now.1

pub returns : goal.returns
returns c =
    filled_all c.args.above.now c.args.values.now.items c.loop-here.values.items c.args.place
    c.loop-here.next c.loop-here.invariant
    (ap (λ l. without_value l c.loop-here.next) (sym c.deref.ensures.value)
    ∙ sym c.without_value.ensures ∙ c.in_default.is)
