use Rattle.std.proofs.Common.{◌∙◌, ap, sym}
use Rattle.session_index.specs.Neighbours.{root_of, roots_behind, with_number}
use Rattle.session_index.proofs.neighbours.roots_of.Goals as goal

pub loop-first-preserved : goal.loop-first-preserved
loop-first-preserved c =
    let root = root_of c.args.view.now.answers in
    let known = c.loop-first.roots.keys in
    ap (λ ks. roots_behind root ks c.in-Some.rest.now)
    (c.in_ok-insert.ensures.keys ∙ ap (with_number known) c.root_of.ensures)
    ∙ ap (roots_behind root known) (sym c.in-Some.ensures.cases.0) ∙ c.loop-first.invariant
