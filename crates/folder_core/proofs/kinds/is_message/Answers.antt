use Rattle.std.proofs.Common.{ap, not, sym, ◌∙◌}
use Rattle.std.specs.Prelude.{is_some}
use Rattle.folder_core.specs.Directory.{path_in}
use Rattle.folder_core.specs.Mh.{is_number}
use Rattle.folder_core.proofs.KindsLemmas.{no_number, stat_number, tells_message}
use Rattle.folder_core.proofs.kinds.is_message.Goals as goal

pub returns-then-is_none-clause-numbers : goal.returns-then-is_none-clause-numbers
returns-then-is_none-clause-numbers g c =
    no_number c.args.name.now.items c.args.path.now _
    (ap is_number (sym c.as_slice.ensures) ∙ ap is_some (sym c.read_number.ensures)
    ∙ c.is_none.ensures ∙ ap not c.if-is_none.true)

pub returns-in-Some-clause-numbers : goal.returns-in-Some-clause-numbers
returns-in-Some-clause-numbers g c =
    stat_number c.in_ok-stat.field-0 _ c.args.name.now.items c.args.path.now c.as_str.result.now _ _
    (c.as_str.ensures.value ∙ c.in_ok-file.ensures
    ∙ ap (path_in c.args.path.now) (c.in-Ok.ensures.cases.0 ∙ c.as_slice-2.ensures))
    (ap is_number (sym c.as_slice.ensures) ∙ ap is_some (sym c.read_number.ensures)
    ∙ c.is_none.ensures ∙ ap not c.if-is_none.false)
    (c.is_filled.ensures ∙ ap tells_message (sym c.in-Some.is)) c.in_ok-stat.ensures.looked.saw
