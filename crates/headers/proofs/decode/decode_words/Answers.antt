use Rattle.std.proofs.Common.{◌≡◌, ◌<◌, length, Some, option_map, sym, ap, ◌∙◌, arith, append_assoc}
use Rattle.headers.specs.Decode.{first_word}
use Rattle.headers.specs.Decode.{plain_found_word}
use Rattle.headers.proofs.DecodeLemmas.{decoded_from-found}
use Rattle.headers.proofs.decode.decode_words.Goals as goal

pub loop-line-preserved : goal.loop-line-preserved
loop-line-preserved c =
    let found = c.in-Some.found in
    let left = c.loop-line.left.now in
    let inv = c.loop-line.invariant in
    let some : first_word left ≡ Some (plain_found_word found) =
    sym c.in_ok-found.ensures.value ∙ ap (option_map plain_found_word) c.in-Some.is in
    let shorter : length found.word.rest.now < length left =
    rw c.in-Some.is at c.in_ok-found.ensures.shorter in
    let next =
    decoded_from-found inv.0 c.loop-line.after_word left (plain_found_word found) inv.1 shorter
    some in (
      next.0,
      next.1,
      grind (
        arith,
        append_assoc,
        next.2,
        inv.2,
        c.in_ok-append_before.ensures,
        c.in_ok-append_to.ensures,
      ),
    )
