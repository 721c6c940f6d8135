use Rattle.std.proofs.Common.{length, take_all, ap, arith, rules, true}
use Rattle.std.proofs.lemmas.List.{nil_from_length}
use Rattle.std.proofs.lemmas.List.Elements.{All-rest}
use Rattle.folder_core.proofs.ReadsLemmas.{left_same, left_then, left_then_failed}
use Rattle.folder_core.proofs.SeenLemmas.{first_and_rest, front_then, meets_later, only_same}
use Rattle.folder_core.proofs.SeenLemmas.{only_then}
use Rattle.mh_folder.specs.NumberedName.{IsNumbered, plain_names}
use Rattle.mh_folder.specs.Walk.{kept_of}
use Rattle.mh_folder.proofs.TakeLemmas.{visit_later}
use Rattle.mh_folder.proofs.WalkLemmas.{stepped, walking_done, walking_first}
use Rattle.mh_folder.proofs.walk.Walk.take_all.Goals as goal

pub loop-left-init : goal.loop-left-init
loop-left-init g c = record {
  each = c.requires.each;
  count = omega (arith, c.requires.empty.store.count);
  fresh = omega (arith, c.requires.empty.store.fresh);
  front = take_all (length c.args.archive.now.items) c.args.archive.now.items (omega arith);
  only = only_same _;
  reads = left_same true c.args.self.now.so_far.bytes _;
  walked = λ course is. walking_first course (plain_names c.args.files.now)
      (kept_of c.args.self.now c.args.archive.now.items) _ c.requires.empty c.requires.rises;
}

pub returns-in-Err-clause-walks : goal.returns-in-Err-clause-walks
returns-in-Err-clause-walks g c = record {
  meets = meets_later c.in-Err.why _ _ _ c.loop-left.invariant.only c.in-Err.ensures.walks.meets;
  reads = left_then_failed true c.args.self.now.so_far.bytes c.loop-left.self.so_far.bytes _ _ _
      c.loop-left.invariant.reads c.in-Err.ensures.walks.reads;
}

pub returns-clause-walks : goal.returns-clause-walks
returns-clause-walks g c = record { meets = search rules; reads = c.loop-left.invariant.reads }

pub loop-left-preserved : goal.loop-left-preserved
loop-left-preserved g c =
    let inv = c.loop-left.invariant in
    let whole = first_and_rest c.loop-left.left.now _ c.file-item.result c.file-item.is
    c.in-len1-up.len_at_least in
    record {
      each = All-rest IsNumbered c.file-item.result _ c.loop-left.left.now whole inv.each;
      count = omega (arith, inv.count, c.in-Ok.ensures.count.count, c.in-len1-up.len_at_least);
      fresh = omega (arith, inv.fresh, c.in-Ok.ensures.count.fresh, c.in-len1-up.len_at_least);
      front = front_then c.args.archive.now.items c.loop-left.archive.items _ inv.front
          c.in-Ok.ensures.front;
      only = only_then _ _ _ inv.only c.in-Ok.ensures.walks.meets.only;
      reads = left_then true (tt {0}) true c.args.self.now.so_far.bytes
          c.loop-left.self.so_far.bytes _ _ _ _ inv.reads c.in-Ok.ensures.walks.reads;
      walked = λ course is. stepped course
          (plain_names c.args.files.now) c.loop-left.left.now _
          c.file-item.result _ (kept_of c.loop-left.self c.loop-left.archive.items) _ _ _ _ whole
          inv.each
          inv.only.looks c.in-Ok.ensures.walks.meets.only.looks (inv.walked course is)
          (c.in-Ok.ensures.taken course
          (visit_later c.args.path.now c.args.visit.now course _ _ inv.only.looks is));
    }

pub returns-clause-walked : goal.returns-clause-walked
returns-clause-walked g c =
    λ course is.
    walking_done course (plain_names c.args.files.now)
    (plain_names c.loop-left.left.now) (kept_of c.args.self.now c.args.archive.now.items)
    (kept_of c.loop-left.self c.loop-left.archive.items) _ _
    (ap plain_names (nil_from_length c.loop-left.left.now (omega (arith, c.in_default.len_below))))
    (c.loop-left.invariant.walked course is)
