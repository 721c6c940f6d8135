use Rattle.std.proofs.Common.{Err, subst}
use Rattle.rc_lang_words.specs.Faults.{IsError}
use Rattle.rc_lang.specs.Requests.{bare_name, request_of}
use Rattle.rc_lang.specs.Settings.{IsAnswered, answer_of}
use Rattle.rc_lang.proofs.RunLemmas.{taken_error}
use Rattle.rc_lang.proofs.settings.Settings.take_word.Goals as goal

pub returns : goal.returns
returns c =
    let old = c.args.self.now in
    let new = c.answer.new.self in
    let word = c.args.word.now in
    taken_error old new (answer_of old (request_of c.args.command word)) c.in-Err.fault c.new.result
    (bare_name word)
    (subst (λ r. IsAnswered old new (Err c.in-Err.fault)
    (answer_of old r)) c.read.ensures c.in-Err.ensures)
    (subst (λ w. IsError c.in-Err.fault w c.new.result) c.bare_name.ensures c.new.ensures)
