use Rattle.std.proofs.Common.{◌≡◌, Some, None, arith, sym}
use Rattle.std.proofs.lemmas.Grind.{common_steps}
use Rattle.rc_lang_words.specs.Words.{found_view, name_at, plain_pieces}
use Rattle.rc_lang_words.proofs.WordLemmas.{variable_step, byte_step}
use Rattle.rc_lang_words.proofs.word.RcWord.read.Goals as goal

pub loop-sign-preserved-in-Some-name_at : goal.loop-sign-preserved-in-Some-name_at
loop-sign-preserved-in-Some-name_at c =
    let found : name_at c.in-Some.sign.now c.in-Some.rest.now
    ≡ Some (found_view c.in-Some-name_at.found) =
    sym c.in-Some-name_at.ensures.value in
    let step = variable_step (plain_pieces c.loop-sign.pieces) c.loop-sign.text.items
    c.in-Some.sign.now
    c.in-Some.rest.now (found_view c.in-Some-name_at.found) found in
    grind (arith, common_steps, step)

pub loop-sign-preserved : goal.loop-sign-preserved
loop-sign-preserved c =
    let none : name_at c.in-Some.sign.now c.in-Some.rest.now ≡ None = sym c.in-None.ensures.value in
    let step = byte_step (plain_pieces c.loop-sign.pieces) c.loop-sign.text.items c.in-Some.sign.now
    c.in-Some.rest.now none in
    grind (arith, common_steps, step)
