use Rattle.std.proofs.Common.{◌≡◌, ◌∙◌, ap, length, subst, sym}
use Rattle.std.proofs.lemmas.List.{length-map}
use Rattle.index_listed.specs.Entries.{ParentsFirst, RootsWithin}
use Rattle.index_listed.specs.Sight.{entry_of}
use Rattle.index_listed.proofs.SightLemmas.{parents_first, roots_within, told_long}
use Rattle.index_listed.proofs.sight.Sight.new.Goals as goal
use Rattle.index_listed.proofs.sight.Sight.new.Goals.{In_ok-entries}

roots : (c : In_ok-entries) → RootsWithin c.in_ok-entries.entries.items
roots c = subst RootsWithin (sym c.in_ok-entries.ensures)
    (roots_within c.args.marks.now c.args.stances.now c.requires.first)

parents : (c : In_ok-entries) → ParentsFirst c.in_ok-entries.entries.items
parents c = subst ParentsFirst (sym c.in_ok-entries.ensures)
    (parents_first c.args.marks.now c.args.stances.now c.requires.first)

long : (c : In_ok-entries) → length c.in_ok-entries.entries.items ≡ length c.args.order.items
long c = ap length c.in_ok-entries.ensures
    ∙ length-map c.args.stances.now (entry_of c.args.marks.now)
    ∙ c.requires.long

pub unread_threads-requires-clause-within : goal.unread_threads-requires-clause-within
unread_threads-requires-clause-within c = subst RootsWithin (sym c.deref.ensures.value)
    (roots (goal.at.unread_threads-requires-clause-within c).In_ok-entries)

pub unread_threads-requires-2-clause-within : goal.unread_threads-requires-2-clause-within
unread_threads-requires-2-clause-within c = subst RootsWithin (sym c.deref-2.ensures.value)
    (roots (goal.at.unread_threads-requires-2-clause-within c).In_ok-entries)

pub of-requires-clause-long : goal.of-requires-clause-long
of-requires-clause-long c = long (goal.at.of-requires-clause-long c).In_ok-entries

pub of-requires-clause-roots : goal.of-requires-clause-roots
of-requires-clause-roots c = roots (goal.at.of-requires-clause-roots c).In_ok-entries

pub of-requires-clause-parents : goal.of-requires-clause-parents
of-requires-clause-parents c = parents (goal.at.of-requires-clause-parents c).In_ok-entries

pub of-requires-clause-new_long : goal.of-requires-clause-new_long
of-requires-clause-new_long c =
    told_long _ _ _ c.in_ok-new_threads.ensures ∙ ap length c.deref.ensures.value

pub of-requires-clause-old_long : goal.of-requires-clause-old_long
of-requires-clause-old_long c =
    told_long _ _ _ c.in_ok-old_threads.ensures ∙ ap length c.deref-2.ensures.value
