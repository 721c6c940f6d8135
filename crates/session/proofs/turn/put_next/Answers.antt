use Rattle.std.proofs.Common.{◌∙◌, ◌++◌, List, ap, subst, sym}
use Rattle.keymap.specs.declared.key.Key.{Key}
use Rattle.session_state.specs.Rules.{PlainRules}
use Rattle.session.specs.Core.{CoreState, Reads, plain_core}
use Rattle.session.specs.declared.core_state.Core.{Core}
use Rattle.session.proofs.TurnLemmas.{few_left, put_on, same_queue}
use Rattle.session.proofs.turn.put_next.Goals as goal

pub returns-then-not-count_one-clause-steps : goal.returns-then-not-count_one-clause-steps
returns-then-not-count_one-clause-steps c = λ g. c.drop_keys.ensures.dropped g
    ∙ same_queue g (plain_core c.args.core.now) c.args.queue.now c.count_one.new.self
    c.count_one.ensures.items (rw c.if-not-count_one.true at c.count_one.ensures.counted)

pub returns-in_ok-put_before-in-Some-clause-over :
    goal.returns-in_ok-put_before-in-Some-clause-over
returns-in_ok-put_before-in-Some-clause-over c = λ mails window over. record {
  is_of = over.is_of;
  reads = subst (λ (r : PlainRules). let next : Core = record c.args.core.now { rules = r } in
      Reads mails window next) (sym c.in-Some.ensures.same) over.reads;
}

pub returns-in_ok-put_before-in-Some-clause-steps :
    goal.returns-in_ok-put_before-in-Some-clause-steps
returns-in_ok-put_before-in-Some-clause-steps c = λ g.
    put_on g
    (plain_core c.args.core.now) _ c.args.queue.now c.put_before.new.self c.in-Some.keys.items
    c.take_put.new.self.put
    (few_left c.count_one.result c.args.queue.now.replaced c.if-not-count_one.false
    c.count_one.ensures.full.1 c.requires.few)
    c.in-Some.ensures.keys
    (ap (λ (r : PlainRules). let next : CoreState = record (plain_core c.args.core.now) {
      rules = r;
    } in next) c.in-Some.ensures.same)
    (c.in_ok-put_before-in-Some.ensures.ok
    ∙ ap (λ (keys : List Key). c.in-Some.keys.items ++ keys) c.count_one.ensures.items)
    (c.put_before.ensures.replaced ∙ (rw c.if-not-count_one.false at c.count_one.ensures.counted))
