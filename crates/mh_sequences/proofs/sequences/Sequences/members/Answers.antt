use Rattle.std.proofs.Common.{ap, ◌∙◌}
use Rattle.std.specs.List.{list_all}
use Rattle.mh_sequences.specs.Laws.{is_upright}
use Rattle.mh_sequences.specs.Ranges.{any_holds}
use Rattle.mh_sequences.specs.Sequences.{plain_lines, ranges_of}
use Rattle.mh_sequences.proofs.MarksLemmas.{ranges_hold, ranges_up}
use Rattle.mh_sequences.proofs.sequences.Sequences.members.Goals as goal

pub of-requires : goal.of-requires
of-requires c =
    ap (list_all is_upright) (c.in_ok-ranges.ensures
    ∙ ap (λ l. ranges_of c.args.name.now (plain_lines l)) c.as_slice.ensures
    ∙ ap (ranges_of c.args.name.now) c.self.view_is)
    ∙ ranges_up c.args.name.now c.args.self.now c.requires

pub returns : goal.returns
returns c =
    λ n.
    c.in_ok-of.ensures n
    ∙ ap (any_holds n) (c.in_ok-ranges.ensures
    ∙ ap (λ l. ranges_of c.args.name.now (plain_lines l)) c.as_slice.ensures
    ∙ ap (ranges_of c.args.name.now) c.self.view_is)
    ∙ ranges_hold n c.args.name.now c.args.self.now
