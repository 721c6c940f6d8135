use Rattle.std.proofs.Common.{◌≡◌, ◌∙◌, ◌∷◌, ◌++◌, [], Ok, Err, sym, ap, subst, append_assoc}
use Rattle.std.proofs.lemmas.Result.{err_from_is_err_and}
use Rattle.rc_lang.specs.Requests.{bare_name, request_of}
use Rattle.rc_lang.specs.Settings.{IsTaken, answer_of, plain_names, plain_shown}
use Rattle.rc_lang.proofs.RunLemmas.{run_more, run_error}
use Rattle.rc_lang.proofs.settings.Settings.take_words.Goals as goal

pub returns-in_err-line : goal.returns-in_err-line
returns-in_err-line c =
    let p = err_from_is_err_and c.from_residual.result c.from_residual.ensures.1 in
    let inv = c.loop-word.invariant in
    let left : plain_names c.loop-word.left.now
    ≡ c.in-Some.word.now.items ∷ plain_names c.in-Some.rest.now =
    ap plain_names c.in-Some.ensures.cases.0 in
    rw (p.1, p.2)
    (run_error c.args.command c.args.self.now c.loop-word.self c.take_word.new.self
    (plain_shown c.loop-word.shown) inv.0
    (plain_names c.in-Some.rest.now) (plain_names c.args.words.now) c.in-Some.word.now.items
    c.in_err-line.field-0.0
    (inv.1 ∙ ap (λ l. inv.0 ++ l) left) inv.2
    (subst (λ w. IsTaken c.loop-word.self c.take_word.new.self (Err c.in_err-line.field-0.0)
    (answer_of c.loop-word.self (request_of c.args.command w))
    (bare_name w)) c.as_slice.ensures c.in_err-line.ensures))

pub loop-word-preserved : goal.loop-word-preserved
loop-word-preserved c =
    let inv = c.loop-word.invariant in
    let word = c.in-Some.word.now.items in
    let rest = plain_names c.in-Some.rest.now in
    let left : plain_names c.loop-word.left.now
    ≡ word ∷ rest = ap plain_names c.in-Some.ensures.cases.0 in
    let new = c.take_word.new.self in (
      inv.0 ++ word ∷ [],
      inv.1 ∙ ap (λ l. inv.0 ++ l) left ∙ sym (append_assoc inv.0 (word ∷ []) rest),
      run_more c.args.command c.args.self.now c.loop-word.self
          (plain_shown c.loop-word.shown) inv.0 word
          (record { values = new; shown = plain_shown c.in_ok-line.line }) inv.2
          (ap (λ w. answer_of c.loop-word.self (request_of c.args.command w))
          (sym c.as_slice.ensures) ∙ c.in_ok-line.ensures)
          ∙ ap (λ s. record { values = new; answer = Ok s }) (sym c.later_line-shown.ensures),
    )
