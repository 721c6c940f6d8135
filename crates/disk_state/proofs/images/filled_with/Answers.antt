use Rattle.std.proofs.Common.{◌∷◌, ◌++◌, ◌∙◌, [], ℕ, List, ap, arith, map, sym}
use Rattle.std.proofs.lemmas.List.FromFn.{map-range_with_len_more}
use Rattle.std.specs.List.{range_with_len}
use Rattle.disk_model.specs.Fills.{filled_byte}
use Rattle.disk_state.specs.Plain.{plain_file}
use Rattle.disk_state.proofs.images.filled_with.Goals as goal

pub loop-place-preserved : goal.loop-place-preserved
loop-place-preserved c =
    c.in_ok-push.ensures.ok
    ∙ ap (λ (l : List ℕ). l ++ c.filled_byte.result ∷ []) c.loop-place.invariant
    ∙ ap (λ (b : ℕ). map (filled_byte (plain_file c.args.file.now) c.args.byte)
    (range_with_len 0 c.loop-place.place) ++ b ∷ [])
    c.filled_byte.ensures
    ∙ sym (map-range_with_len_more (filled_byte (plain_file c.args.file.now) c.args.byte) 0
    c.loop-place.place
    c.loop-place.place (omega arith))
