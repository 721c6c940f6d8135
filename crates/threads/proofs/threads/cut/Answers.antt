use Rattle.std.proofs.Common.{◌∙◌, ◌++◌, ◌∷◌, ◌==◌, ℕ, [], None, map, ap, sym, arith, slice_index}
use Rattle.std.proofs.Common.{slice_index_or}
use Rattle.std.specs.Prelude.{if◌then◌else◌}
use Rattle.std.specs.List.{range_with_len}
use Rattle.std.proofs.lemmas.List.FromFn.{map-range_with_len_more}
use Rattle.threads.proofs.threads.cut.Goals as goal

pub loop-place-preserved : goal.loop-place-preserved
loop-place-preserved c =
    let place = c.loop-place.place in
    let f = λ (p : ℕ). if slice_index c.args.roots.now p == p then None else slice_index_or
    c.args.links.now p None in
    c.in_ok-push.ensures.items
    ∙ ap (λ l. l ++ c.cut_at.result ∷ []) c.loop-place.invariant
    ∙ ap (λ s. map f (range_with_len 0 place) ++ s ∷ []) c.cut_at.ensures
    ∙ sym (map-range_with_len_more f 0 place place (omega arith))
