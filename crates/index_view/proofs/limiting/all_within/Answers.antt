use Rattle.std.proofs.Common.{◌∙◌, length, sym, true}
use Rattle.std.specs.List.{range_with_len}
use Rattle.std.proofs.lemmas.List.FromFn.{length-range_with_len}
use Rattle.std.proofs.lemmas.Simd.{splat_is_map}
use Rattle.index_view.specs.Tables.{seen_of}
use Rattle.index_view.proofs.limiting.all_within.Goals as goal

-- with no limit each message is within it
pub returns-in_ok-vec-in-None-clause-value : goal.returns-in_ok-vec-in-None-clause-value
returns-in_ok-vec-in-None-clause-value c =
    let count = length (seen_of c.args.messages.now) in
    rw c.in-None.is
    (c.in_ok-vec-in-None.ensures.items_if_clones_equal (λ y same. same)
    ∙ splat_is_map (range_with_len 0 count) c.len.result true
    (length-range_with_len 0 count ∙ sym c.len.ensures))
