use Rattle.std.proofs.Common.{◌++◌, ◌∷◌, [], ◌∙◌, Bool, ap, sym, length, false, if◌then◌else◌}
use Rattle.std.specs.List.{filter, range_with_len}
use Rattle.index_listed.specs.Visibility.{is_visible}
use Rattle.index_listed.proofs.EntriesLemmas.{filter_next, told_read}
use Rattle.index_listed.proofs.visibility.visible.Goals as goal

pub loop-place-preserved : goal.loop-place-preserved
loop-place-preserved c =
    let es = c.args.entries.now in
    let n = c.loop-place.place in
    c.in_ok-put_where.ensures
    ∙ ap (λ l. l ++ (if c.index.result.now then n ∷ [] else [])) c.loop-place.invariant
    ∙ ap (λ (b : Bool). filter (is_visible es) (range_with_len 0 n) ++ (if b then n ∷ [] else []))
    (told_read false (is_visible es) (length es) c.in_ok-flags.flags.items c.in_ok-flags.ensures n
    c.loop-place-test.true c.index.result.now c.index.ensures)
    ∙ sym (filter_next (is_visible es) n)
