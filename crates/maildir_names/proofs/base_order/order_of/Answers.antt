use Rattle.std.proofs.Common.{◌≡◌, true, arith}
use Rattle.std.specs.Char.{is_ascii_digit}
use Rattle.std.proofs.Common.{slice_index_or}
use Rattle.std.proofs.lemmas.Grind.{common_steps}
use Rattle.maildir_names.proofs.OrderLemmas.{digit_step}
use Rattle.maildir_names.proofs.base_order.order_of.Goals as goal

pub loop-left-preserved : goal.loop-left-preserved
loop-left-preserved c =
    let text = c.loop-left.left.now in
    let digit : is_ascii_digit (slice_index_or text 0 0) ≡ true = grind (arith, common_steps) in
    let step = digit_step c.loop-left.order text c.in-len1-up.len_at_least digit in
    grind (arith, common_steps, step)
