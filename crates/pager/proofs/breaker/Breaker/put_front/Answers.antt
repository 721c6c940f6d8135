use Rattle.std.proofs.Common.{◌≡◌, ◌≤◌, ◌∙◌, ap, subst, arith}
use Rattle.std.specs.Prelude.{IfOk}
use Rattle.std.specs.Str.{chars}
use Rattle.pager.specs.Inner.{PlainBreaker, put_all, put_text}
use Rattle.pager.proofs.PrintableLemmas.{front_turn}
use Rattle.pager.proofs.breaker.Breaker.put_front.Goals as goal

pub returns-clause-put : goal.returns-clause-put
returns-clause-put c =
    let line = c.args.self.now in
    let wide : 2 ≤ line.cols =
    subst (λ (l : PlainBreaker). 2 ≤ l.cols) c.self.view_is c.self.invariant.1 in
    let turn = front_turn line c.put_printable.new.self c.split_printable.result.0.now
    c.split_printable.result.1.now c.args.text.now c.split_printable.ensures.printable
    (omega arith) c.split_printable.ensures.whole
    (c.in_ok-put_printable.ensures ∙ ap (put_all line) c.as_bytes.ensures.value) in
    subst (λ (l : PlainBreaker). IfOk c.put_first.result
    (λ rest. put_text c.put_first.new.self (chars rest.now) ≡ l)) turn c.put_first.ensures.put
