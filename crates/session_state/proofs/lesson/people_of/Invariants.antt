use Rattle.std.proofs.Common.{◌≡◌, List, length, map}
use Rattle.patterns.specs.Causes.{Keeps}
use Rattle.people.specs.Judged.{PlainJudged}
use Rattle.rc_lang.specs.Expansion.{before_all}
use Rattle.rc_lang.specs.Settings.{plain_names}
use Rattle.session_state.specs.Lessons.{people_of, plain_lesson}
use Rattle.session_state.proofs.lesson.people_of.Given as goal

abbrev pub invariant-loop-word : goal.invariant-loop-word
invariant-loop-word g l = record {
  keeps : Keeps l.initial.verdicts.kept l.verdicts.kept;
  went : (later : List PlainJudged) → Keeps l.verdicts.kept later
      → before_all (map plain_lesson l.lessons.items)
      (people_of later l.table (plain_names l.left))
      ≡ people_of later l.table (plain_names l.words);
}

abbrev pub decreases-loop-word : goal.decreases-loop-word
decreases-loop-word g l = length l.left
