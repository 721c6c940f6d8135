use Rattle.std.proofs.Common.{List, subst, sym, ap, ◌∙◌}
use Rattle.mh_sequences.specs.declared.range.Range.{Range}
use Rattle.mh_sequences.specs.Ranges.{any_holds}
use Rattle.mh_sequences.proofs.MembersLemmas.{Rise, ordered}
use Rattle.mh_sequences.proofs.RisingLemmas.{ordered_holds}
use Rattle.mh_sequences.proofs.members.Members.of.Goals as goal

pub invariant_of-result : goal.invariant_of-result
invariant_of-result c =
    let made : Rise c.in_ok-in_order.field-0.items =
    subst Rise (sym c.in_ok-in_order.ensures) (ordered c.args.ranges.items c.requires) in
    record { upright = made.upright; rises = made.rises }

pub returns : goal.returns
returns c =
    λ n.
    ap (λ (l : List Range). any_holds n l) c.in_ok-in_order.ensures
    ∙ ordered_holds n c.args.ranges.items c.requires
