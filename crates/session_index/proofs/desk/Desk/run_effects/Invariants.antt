use Rattle.std.proofs.Common.{◌≡◌, length, map}
use Rattle.folder_letters.specs.Letters.{plain_letter}
use Rattle.index_view.specs.View.{IsOf}
use Rattle.session_index.specs.Desk.{plain_desk}
use Rattle.session_index.specs.Effects.{run_effects}
use Rattle.session_index.proofs.desk.Desk.run_effects.Given as goal

abbrev pub invariant-loop-left : goal.invariant-loop-left
invariant-loop-left l = IsOf (map plain_letter l.archive.items) l.self.view
    × (run_effects l.rule (map plain_letter l.archive.items) l.left (plain_desk l.self)
    ≡ run_effects l.rule (map plain_letter l.archive.items) l.effects (plain_desk l.initial.self))

abbrev pub decreases-loop-left : goal.decreases-loop-left
decreases-loop-left l = length l.left
