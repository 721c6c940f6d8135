use Rattle.std.proofs.Common.{false}
use Rattle.index_listed.specs.Entries.{Tells}
use Rattle.index_listed.specs.Visibility.{AreThreadsWith, is_visible, satisfies}
use Rattle.index_listed.proofs.visibility.visible_flags.Given as goal

abbrev pub invariant-loop-place : goal.invariant-loop-place
invariant-loop-place l = record {
  met : AreThreadsWith (satisfies l.entries) l.entries l.place l.met.items;
  flags : Tells false (is_visible l.entries) l.place l.flags.items;
}
