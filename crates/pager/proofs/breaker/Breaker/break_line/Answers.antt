use Rattle.std.proofs.Common.{◌≤◌, subst}
use Rattle.pager.specs.Inner.{PlainBreaker}
use Rattle.pager.proofs.BreakerLemmas.{line_broken}
use Rattle.pager.proofs.ShownLemmas.{broken_shown}
use Rattle.pager.proofs.breaker.Breaker.break_line.Goals as goal

pub returns-in_err-put_text-clause-shown : goal.returns-in_err-put_text-clause-shown
returns-in_err-put_text-clause-shown c =
    broken_shown c.args.self.now.cols c.args.line.now
    (subst (λ (l : PlainBreaker). 2 ≤ l.cols) c.self.view_is c.self.invariant.1) c.utf8.line

pub returns-in_err-end_line-clause-shown : goal.returns-in_err-end_line-clause-shown
returns-in_err-end_line-clause-shown c =
    broken_shown c.args.self.now.cols c.args.line.now
    (subst (λ (l : PlainBreaker). 2 ≤ l.cols) c.self.view_is c.self.invariant.1) c.utf8.line

pub returns-clause-pieces : goal.returns-clause-pieces
returns-clause-pieces c =
    line_broken c.args.self.now c.put_text.new.self _ c.args.line.now c.requires
    c.in_ok-put_text.ensures c.in_ok-end_line.ensures

pub returns-clause-shown : goal.returns-clause-shown
returns-clause-shown c =
    broken_shown c.args.self.now.cols c.args.line.now
    (subst (λ (l : PlainBreaker). 2 ≤ l.cols) c.self.view_is c.self.invariant.1) c.utf8.line
