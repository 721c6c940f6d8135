use Rattle.std.proofs.Common.{◌∙◌, ap, arith, length}
use Rattle.index_listed.specs.Visibility.{hides}
use Rattle.index_listed.proofs.SightLemmas.{told_long, told_read}
use Rattle.index_listed.proofs.sight.Sight.hides.Goals as goal

pub index-requires : goal.index-requires
index-requires c =
    let all = c.self.inside.tree in
    let long = told_long (hides all) (length all) _ c.self.invariant.hiding_are in
    let same = ap (λ s. length s.entries) c.self.view_is in
    omega (arith, c.self.inside.hiding.ok.0)

pub returns : goal.returns
returns c =
    let all = c.self.inside.tree in
    let same = ap (λ s. length s.entries) c.self.view_is in
    told_read (hides all) (length all) _ c.self.invariant.hiding_are c.args.place
    (omega arith) c.index.result.now c.index.ensures
    ∙ ap (λ s. hides s.entries c.args.place) c.self.view_is
