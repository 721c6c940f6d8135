use Rattle.std.proofs.Common.{codes, ap, ◌∙◌}
use Rattle.mh_sequences.specs.Sequences.{holds}
use Rattle.mh_sequences.proofs.MarksLemmas.{marked, read_upright}
use Rattle.mh_sequences.proofs.marks.Marks.read.Goals as goal

pub members-requires : goal.members-requires
members-requires c =
    read_upright c.args.bytes.now c.in_ok-sequences.sequences c.in_ok-sequences.ensures

pub members-requires-2 : goal.members-requires-2
members-requires-2 c =
    read_upright c.args.bytes.now c.in_ok-sequences.sequences c.in_ok-sequences.ensures

pub members-requires-3 : goal.members-requires-3
members-requires-3 c =
    read_upright c.args.bytes.now c.in_ok-sequences.sequences c.in_ok-sequences.ensures

pub returns : goal.returns
returns c =
    marked c.args.bytes.now (record {
      unseen = c.in_ok-members.field-0;
      flagged = c.in_ok-members-2.field-0;
      replied = c.in_ok-members-3.field-0;
    })
    (λ n. c.in_ok-members.ensures n ∙ ap (holds (codes "unseen") n) c.in_ok-sequences.ensures)
    (λ n. c.in_ok-members-2.ensures n ∙ ap (holds (codes "flagged") n) c.in_ok-sequences.ensures)
    (λ n. c.in_ok-members-3.ensures n ∙ ap (holds (codes "replied") n) c.in_ok-sequences.ensures)
