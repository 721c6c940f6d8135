use Rattle.std.proofs.Common.{List, ap, arith, length, ℕ, ◌+◌, ◌<◌, ◌^◌, ◌∙◌}
use Rattle.folder_tails.specs.Tails.{read_tail}
use Rattle.folder_tails.proofs.Texts.{text_read}
use Rattle.folder_tails.proofs.Writes.{not_written, unwritten, was_written}
use Rattle.folder_tails.proofs.write.write_tail_on.Goals as goal

below : (at : ℕ) (tail : List ℕ) → at + length tail < 2 ^ 64 → at < 2 ^ 64
below at tail fits = omega (arith, fits)

pub returns-in-Err : goal.returns-in-Err
returns-in-Err g c = unwritten c.args.path.now c.args.at c.args.tail.now c.args.held.now _

pub returns-in-Err-tail_text : goal.returns-in-Err-tail_text
returns-in-Err-tail_text g c =
    unwritten c.args.path.now c.args.at c.args.tail.now c.args.held.now _

pub make_steps-requires-clause-text : goal.make_steps-requires-clause-text
make_steps-requires-clause-text g c =
    ap read_tail (c.as_slice.ensures ∙ c.in-Ok-tail_text.ensures)
    ∙ text_read c.args.head.now c.args.at c.args.tail.now c.requires.head
    (below c.args.at c.args.tail.now c.requires.fits)

pub returns-in-Ok-make_steps : goal.returns-in-Ok-make_steps
returns-in-Ok-make_steps g c =
    was_written c.args.path.now _ c.args.at c.args.tail.now c.make_steps.new.held _ _
    c.in-Ok.ensures.path c.in-Ok-make_steps.ensures.stays c.in-Ok-make_steps.ensures.ok
    c.in-Ok-make_steps.ensures.counts c.in-Ok-make_steps.ensures.given_back

pub returns : goal.returns
returns g c =
    not_written c.args.path.now _ c.args.at c.args.tail.now c.make_steps.new.held _
    c.tail_error.result _ _ c.in-Ok.ensures.path c.tail_error.ensures
    c.in-Err-make_steps.ensures.stays c.in-Err-make_steps.ensures.counts
