use Rattle.std.proofs.Common.{map}
use Rattle.folder_letters.specs.Letters.{plain_letter}
use Rattle.index_view.specs.View.{IsOf}
use Rattle.rows_view.proofs.view_cases.play_all.Given as goal

abbrev pub invariant-loop-entry : goal.invariant-loop-entry
invariant-loop-entry l = IsOf (map plain_letter l.scene.archive.now.items) l.view
