use Rattle.std.proofs.Common.{◌++◌, ◌∷◌, [], ◌&&◌, ◌∙◌, Bool, ap, arith, map, sym, length, false}
use Rattle.std.proofs.lemmas.List.{get_or_read_under}
use Rattle.std.specs.List.{range_with_len}
use Rattle.std.proofs.lemmas.List.FromFn.{map-range_with_len_more}
use Rattle.index_listed.specs.Entries.{at}
use Rattle.index_listed.specs.Visibility.{hides, is_visible}
use Rattle.index_listed.proofs.EntriesLemmas.{told_read}
use Rattle.index_listed.proofs.visibility.hiding.Goals as goal

pub loop-place-preserved : goal.loop-place-preserved
loop-place-preserved c =
    let es = c.args.entries.now in
    let n = c.loop-place.place in
    let lt = c.loop-place-test.true in
    c.in_ok-push.ensures.items
    ∙ ap (λ l. l ++ c.hides.result ∷ []) c.loop-place.invariant
    ∙ ap (λ (b : Bool). map (hides es) (range_with_len 0 n) ++ b ∷ [])
    (c.hides.ensures
    ∙ ap (λ (b : Bool). b && ((at es n).is_shut && c.index-in-loop-place.result.now))
    (told_read false (is_visible es) (length es) c.in_ok-flags.flags.items c.in_ok-flags.ensures
    n lt
    c.index.result.now c.index.ensures)
    ∙ ap (λ (b : Bool). is_visible es n && ((at es n).is_shut && b))
    (get_or_read_under c.in_ok-hidden.hidden.items (at es n).root (length es)
    c.index-in-loop-place.result.now false c.index-in-loop-place.ensures (c.requires n lt)
    (sym c.in_ok-hidden.ensures.long)
    ∙ c.in_ok-hidden.ensures.marked (at es n).root (c.requires n lt)))
    ∙ sym (map-range_with_len_more (hides es) 0 n n (omega arith))
