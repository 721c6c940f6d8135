use Rattle.std.proofs.Common.{◌∙◌, sym, arith}
use Rattle.std.specs.Char.{to_ascii_lowercase}
use Rattle.std.specs.Str.{str_to_ascii_lowercase}
use Rattle.std.proofs.lemmas.List.{length-map}
use Rattle.people.proofs.LiteralLemmas.{stands_at, stands_nowhere}
use Rattle.people.proofs.literal.stands_folded.Goals as goal

pub returns-then-stands_folded_at : goal.returns-then-stands_folded_at
returns-then-stands_folded_at c =
    sym (stands_at (str_to_ascii_lowercase c.args.literal.now)
    (str_to_ascii_lowercase c.args.text.now) c.loop-at.at
    (omega (arith, length-map c.args.text.now to_ascii_lowercase))
    (sym c.stands_folded_at.ensures ∙ c.if-stands_folded_at.true))

pub returns : goal.returns
returns c =
    sym (stands_nowhere (str_to_ascii_lowercase c.args.literal.now)
    (str_to_ascii_lowercase c.args.text.now)
    (λ k within. c.loop-at.invariant k
    (omega (arith, length-map c.args.text.now to_ascii_lowercase))))
