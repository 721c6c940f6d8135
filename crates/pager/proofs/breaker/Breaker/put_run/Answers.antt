use Rattle.std.proofs.Common.{◌≡◌, ℕ, ◌+◌, ◌-◌, ◌%◌, ◌≤◌, ◌<◌, ◌++◌, ◌∙◌, ap, subst, arith}
use Rattle.pager.specs.Inner.{PlainBreaker, put_all, with_room}
use Rattle.pager.specs.contracts.breaker.Breaker.{the_view}
use Rattle.pager.proofs.PrintableLemmas.{run_put, run_turn, with_room-cols, with_run}
use Rattle.pager.proofs.breaker.Breaker.put_run.Goals as goal

pub returns-clause-put : goal.returns-clause-put
returns-clause-put c =
    let line = c.args.self.now in
    let text = c.args.text.now in
    let b = c.self.inside in
    let count = c.min-count.result in
    let room = with_room line in
    let is : the_view b ≡ room = c.self.view_is ∙ c.in_ok-make_room.ensures in
    let wide : 2 ≤ line.cols =
    subst (λ (n : ℕ). 2 ≤ n) (ap (λ (l : PlainBreaker). l.cols) is ∙ with_room-cols line)
    c.self.invariant.1 in
    let small : room.past < 8 = subst (λ (l : PlainBreaker). l.past < 8) is c.self.invariant.0 in
    let left : b.left ≡ room.left = ap (λ (l : PlainBreaker). l.left) is in
    let new = run_put (the_view b) room c.append.new.self c.split_at.result.0.now count
    c.in_ok-append.ensures is
    ∙ ap (λ run. with_run room (room.current ++ run) (room.left - count) ((room.past + count) % 8))
    c.split_at.ensures.front in
    ap (put_all _) c.split_at.ensures.back
    ∙ run_turn line _ text count c.requires.printable c.requires.some (omega arith) (omega arith)
    (omega arith) small new
