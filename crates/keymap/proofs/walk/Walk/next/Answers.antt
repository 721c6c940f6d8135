use Rattle.std.proofs.Common.{◌∙◌, ◌+◌, ◌++◌, ◌∷◌, sym, ap, drop, arith}
use Rattle.keymap.proofs.PressLemmas.{got}
use Rattle.keymap.proofs.walk.Walk.next.Goals as goal

pub returns-clause-key : goal.returns-clause-key
returns-clause-key c =
    let items = c.args.queue.now.items in
    let n = c.args.self.now.taken in
    let there = got items n c.in_ok-key.key.now (sym c.in_ok-key.ensures) in
    ap (λ l. l ++ drop n items) c.in_default.ensures.items.0 ∙ there.rest
    ∙ ap (λ l. c.in_ok-key.key.now ∷ l ++ drop (n + 1) items) (sym c.in_default.ensures.items.1)

pub returns-clause-kept : goal.returns-clause-kept
returns-clause-kept c =
    let there = got c.args.queue.now.items c.args.self.now.taken c.in_ok-key.key.now
    (sym c.in_ok-key.ensures) in
    record { taken = omega (arith, there.within); replaced = c.take_first.ensures.replaced }
