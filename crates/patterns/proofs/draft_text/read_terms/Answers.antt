use Rattle.std.proofs.Common.{◌≡◌, ◌∙◌, ◌+◌, ◌-◌, ◌≤◌, length, length-drop, Ok, ◌∷◌, drop}
use Rattle.std.proofs.Common.{sym, ap, arith, rules}
use Rattle.std.proofs.lemmas.Result.{err_from_is_err_and}
use Rattle.patterns.proofs.ReadLemmas.{fails_stop, read_step}
use Rattle.patterns.specs.Dates.{days_of}
use Rattle.patterns.specs.Patterns.{at_first, read_from}
use Rattle.patterns.specs.States.{plain_state}
use Rattle.patterns.proofs.draft_text.read_terms.Goals as goal

pub returns-in_err-next : goal.returns-in_err-next
returns-in_err-next c =
    let place = length c.args.text.now - length c.loop-first.left.now in
    let days = days_of c.args.today in
    let state = plain_state c.loop-first.state in
    let p = err_from_is_err_and c.from_residual.result c.from_residual.ensures.1 in
    let whole = c.loop-first.invariant.read in
    let at : read_from days 0 place (Ok state) (c.in-Some.first.now ∷ c.in-Some.rest.now)
    ≡ read_from days 0 0 (Ok at_first) c.args.text.now =
    ap (read_from days 0 place (Ok state)) (sym c.in-Some.ensures.cases.0) ∙ whole in
    rw (p.1, p.2)
    (fails_stop c.in_err-next.field-0.0 days place state c.in-Some.first.now c.in-Some.rest.now
    (read_from days 0 0 (Ok at_first) c.args.text.now) (sym c.if-is_blank.ensures)
    c.in_err-next.ensures.value at)

pub loop-first-preserved : goal.loop-first-preserved
loop-first-preserved c =
    let place = length c.args.text.now - length c.loop-first.left.now in
    let days = days_of c.args.today in
    let state = plain_state c.loop-first.state in
    let next = plain_state c.in_ok-next.next in
    let left = c.in-Some.ensures.cases in
    let e = c.in_ok-next.ensures in
    let rest = c.in-Some.rest.now in
    let more = c.in_ok-next.more in
    let i = c.loop-first.invariant.within in
    let long : length (drop more rest) ≡ length rest - more = length-drop more rest in
    let behind : place + 1 + more ≡ length c.args.text.now - length (drop more rest) =
    omega (arith, left.1, e.within) in
    let tail : c.split_at.result.1.now ≡ drop more rest = search rules in
    let within : c.in_ok-next.next.side.nots + length (drop more rest)
    ≤ length c.args.text.now = omega (arith, left.1, e.within, e.nots) in
    let read : read_from days 0 (length c.args.text.now - length (drop more rest)) (Ok next)
    (drop more rest) ≡ read_from days 0 0 (Ok at_first) c.args.text.now =
    ap (λ n. read_from days 0 n (Ok next) (drop more rest)) (sym behind)
    ∙ sym (read_step days place state next c.in-Some.first.now rest more
    (sym c.if-is_blank.ensures) e.value e.more e.within)
    ∙ ap (read_from days 0 place (Ok state)) (sym left.0)
    ∙ c.loop-first.invariant.read in
    rw tail (record { within = within; read = read })
