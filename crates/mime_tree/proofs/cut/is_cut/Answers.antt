use Rattle.std.proofs.Common.{sym, ap, ◌∙◌}
use Rattle.std.specs.Prelude.{is_some}
use Rattle.mime_tree.specs.Section.{plain_section}
use Rattle.mime_tree.proofs.CutLemmas.{delimits_is_cut}
use Rattle.mime_tree.proofs.cut.is_cut.Goals as goal

pub returns-then-not-is_empty : goal.returns-then-not-is_empty
returns-then-not-is_empty c =
    c.is_some.ensures
    ∙ ap is_some c.next_delimiter.ensures.value
    ∙ delimits_is_cut c.args.boundary.now (plain_section c.args.body) c.args.body.dashes.now
    (sym c.is_empty.ensures ∙ c.if-not-is_empty.true)
    c.args.body.marked
