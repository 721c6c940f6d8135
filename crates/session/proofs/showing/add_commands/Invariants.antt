use Rattle.std.proofs.Common.{◌≡◌, ◌++◌, List, length, map}
use Rattle.folder_letters.specs.Letters.{plain_letter}
use Rattle.hooks.specs.Hooks.{plain_pattern_hook}
use Rattle.patterns.specs.Causes.{Keeps}
use Rattle.people.specs.Judged.{PlainJudged}
use Rattle.rc_lang.specs.Settings.{plain_names}
use Rattle.session_index.specs.Desk.{plain_desk}
use Rattle.session.specs.Showing.{commands_in}
use Rattle.session.proofs.showing.add_commands.Given as goal

-- the commands so far, and those of the hooks that are left, are all
abbrev pub invariant-loop-left : goal.invariant-loop-left
invariant-loop-left g l = record {
  same : l.desk ≡ l.initial.desk;
  keeps : Keeps l.initial.verdicts.kept l.verdicts.kept;
  went : (later : List PlainJudged) → Keeps l.verdicts.kept later
      → plain_names l.commands.items
      ++ commands_in later l.time (map plain_letter l.archive.items) l.id
      (plain_desk l.initial.desk) (map plain_pattern_hook l.left)
      ≡ plain_names l.initial.commands.items
      ++ commands_in later l.time (map plain_letter l.archive.items) l.id
      (plain_desk l.initial.desk) (map plain_pattern_hook l.hooks);
}

abbrev pub decreases-loop-left : goal.decreases-loop-left
decreases-loop-left g l = length l.left
