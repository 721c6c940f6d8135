use Rattle.std.proofs.Common.{◌≡◌, false, true}
use Rattle.index_listed.specs.Seen.{marked_before}
use Rattle.index_view.specs.Acting.{unread_in}
use Rattle.index_view.proofs.answers.tell_unread.Given as goal

abbrev pub invariant-loop-place : goal.invariant-loop-place
invariant-loop-place l = l.sight ≡ record l.initial.sight {
  new_threads = marked_before l.initial.sight.entries (unread_in false l.rows l.stances) l.place;
  old_threads = marked_before l.initial.sight.entries (unread_in true l.rows l.stances) l.place;
}
