use Rattle.std.proofs.Common.{◌≡◌, length, map}
use Rattle.folder_letters.specs.Letters.{plain_letter}
use Rattle.index_view.specs.View.{IsOf}
use Rattle.session.specs.Answers.{learnt}
use Rattle.session.specs.Core.{plain_core}
use Rattle.session.proofs.core_state.Core.learn.Given as goal

abbrev pub invariant-loop-lesson : goal.invariant-loop-lesson
invariant-loop-lesson l = record {
  is_of : IsOf (map plain_letter l.archive.items) l.self.desk.view;
  went : learnt (map plain_letter l.archive.items) (plain_core l.self)
      ≡ learnt (map plain_letter l.archive.items) (plain_core l.initial.self);
}

abbrev pub decreases-loop-lesson : goal.decreases-loop-lesson
decreases-loop-lesson l = length l.self.rules.lessons
