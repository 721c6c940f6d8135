use Rattle.std.proofs.Common.{◌≡◌, true, arith}
use Rattle.keymap.specs.Stream.{is_open}
use Rattle.keymap.proofs.ReaderLemmas.{filled_more}
use Rattle.keymap.proofs.key_reader.KeyReader.fill.Goals as goal

pub loop-turn-preserved : goal.loop-turn-preserved
loop-turn-preserved g c =
    let before = c.loop-turn.self in
    let open_is : is_open before.pending ≡ true = grind arith in
    record {
      filled = filled_more c.args.self.now before c.add.new.self (g.K.Source.left c.args.keys.now)
          (g.K.Source.left c.loop-turn.keys) (g.K.Source.left c.next_byte.new.self)
          c.in-Ok-Some.byte
          c.loop-turn.invariant.filled open_is (omega arith)
          (rw c.in-Ok-Some.field-0-is at c.in-Ok-Some.ensures.byte) c.add.ensures.pending
          c.add.ensures.taken;
      turn = omega arith;
      within = omega arith;
      later = omega (arith, c.next_byte.ensures.later);
    }
