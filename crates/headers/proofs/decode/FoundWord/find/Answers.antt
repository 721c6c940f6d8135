use Rattle.std.proofs.Common.{◌≡◌, ◌+◌, ◌-◌, ◌<◌, length, take, drop, None, option_map, sym, ap}
use Rattle.std.proofs.Common.{◌∙◌, subst, arith, add_assoc, length-drop}
use Rattle.std.proofs.lemmas.List.{take_all}
use Rattle.headers.specs.EncodedWord.{encoded_word}
use Rattle.headers.specs.EncodedWord.{plain_decoded_word}
use Rattle.headers.proofs.DecodeLemmas.{LooksFrom, looks_further, looks_behind}
use Rattle.headers.proofs.decode.FoundWord.find.Goals as goal

pub loop-step-preserved : goal.loop-step-preserved
loop-step-preserved c =
    let text = c.args.text.now in
    let at = c.loop-step.at in
    let step = c.in-Some.step in
    let tail : take (length text - at) (drop at text) ≡ drop at text =
    take_all (length text - at) (drop at text) (omega (arith, length-drop at text)) in
    let some = rw tail at c.in-Some.ensures.some in
    let within = rw tail at c.in-Some.ensures.within in
    let fits : at + step < length text = omega (arith, length-drop at text, within) in
    let here : LooksFrom text (at + step) =
    looks_further text at step c.loop-step.invariant.same some in
    let none : encoded_word (drop (at + step) text) ≡ None =
    ap encoded_word (sym c.split_at.ensures.back) ∙ sym c.in_ok-word.ensures.value
    ∙ ap (option_map plain_decoded_word) c.in_default-2.is in
    record {
      within = omega arith;
      same = subst (LooksFrom text) (add_assoc at step 1) (looks_behind text (at + step) here none);
    }
