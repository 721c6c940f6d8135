use Rattle.std.proofs.Common.{◌∙◌, ap, arith, take, length}
use Rattle.people.proofs.LiteralLemmas.{folded_at}
use Rattle.people.proofs.literal.stands_folded_at.Goals as goal

pub returns : goal.returns
returns c =
    let text = c.args.text.now in
    let literal = c.args.literal.now in
    c.is_same_name.ensures
    ∙ folded_at literal text c.split_at-2.result.0.now c.args.at
    (omega (arith, c.split_at.ensures.back_len))
    (c.split_at-2.ensures.front ∙ ap (take (length literal)) c.split_at.ensures.back)
