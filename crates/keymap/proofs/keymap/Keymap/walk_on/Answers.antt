use Rattle.std.proofs.Common.{◌≡◌, ◌∙◌, ◌+◌, ◌-◌, ◌++◌, [], sym, ap, drop, suc, arith, append_assoc}
use Rattle.keymap.specs.Press.{Replaced, plain_reached, pressed, reached}
use Rattle.keymap.specs.Walk.{waiting_on}
use Rattle.keymap.specs.Queue.{most_replacements}
use Rattle.keymap.proofs.PressLemmas.{replaced_once}
use Rattle.keymap.proofs.keymap.Keymap.walk_on.Goals as goal

pub loop-turn-preserved : goal.loop-turn-preserved
loop-turn-preserved c =
    let map = c.args.self.now in
    let menu = c.args.menu in
    let queue = c.args.queue.now in
    let turn = c.loop-turn._turn in
    let further = most_replacements - (turn + 1) in
    let first = c.loop-turn.walk in
    let before = c.reach.new.walk in
    let after = c.replace.new.self in
    let done = c.in_ok-replace-in-Text.ensures in
    let text = c.in-Text.text.now.items in
    let some : most_replacements - turn ≡ suc further = omega arith in
    let comes : Replaced text (waiting_on before queue)
    ≡ reached map menu first.begun.items (waiting_on first queue) =
    ap (λ r. plain_reached r before queue) (sym c.in-Text.is) ∙ c.in_ok-press.ensures.reached in
    let waits : waiting_on after queue ≡ text ++ waiting_on before queue =
    ap (λ l. l ++ drop after.taken queue.items) done.ahead
    ∙ ap (λ n. (text ++ before.ahead.items) ++ drop n queue.items) done.taken
    ∙ append_assoc text before.ahead.items (drop before.taken queue.items) in
    record {
      pressed = ap (λ b. pressed map menu further (turn + 1) b (waiting_on after queue)) done.begun
          ∙ ap (pressed map menu further (turn + 1) []) waits
          ∙ sym (replaced_once map menu (most_replacements - turn) further turn first.begun.items
          (waiting_on first queue) text (waiting_on before queue) some comes)
          ∙ c.loop-turn.invariant.pressed;
      turn = omega (
        arith,
        done.replaced,
        c.in_ok-press.ensures.kept.replaced,
        c.loop-turn.invariant.turn,
      );
      within = omega arith;
      taken = omega (arith, done.taken, c.in_ok-press.ensures.kept.taken);
    }
