use Rattle.std.proofs.Common.{◌∙◌, ap, is_lt, sym}
use Rattle.index_order.specs.Inner.{numbers, place_in, stands_cmp}
use Rattle.index_order.proofs.IdLemmas.{ids_by_places}
use Rattle.index_order.proofs.standing.Standing.comes_before.Goals as goal

pub returns-in-Some-Some : goal.returns-in-Some-Some
returns-in-Some-Some c =
    let s = c.args.self.now in
    c.is_lt.ensures ∙ ap is_lt (c.compare.ensures
    ∙ sym (ids_by_places (stands_cmp s) (place_in (numbers s.keys)) c.args.a c.args.b
    c.in-Some-Some.place c.in-Some-Some.other
    (sym c.place_of.ensures.value ∙ c.in-Some-Some.is-0)
    (sym c.place_of-2.ensures.value ∙ c.in-Some-Some.is-1)))
