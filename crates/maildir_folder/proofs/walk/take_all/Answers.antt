use Rattle.std.proofs.Common.{ap, map, take_all, arith, length, rules, true}
use Rattle.std.proofs.lemmas.List.Elements.{All-rest}
use Rattle.folder_core.proofs.SeenLemmas.{first_and_rest, front_then, meets_later, none_left}
use Rattle.folder_core.proofs.SeenLemmas.{only_same, only_then}
use Rattle.maildir_folder.specs.Candidates.{IsCandidate, plain_file}
use Rattle.folder_core.specs.ListedSoFar.{store_of}
use Rattle.folder_core.proofs.ReadsLemmas.{left_same, left_then, left_then_failed}
use Rattle.maildir_folder.proofs.Walking.{walking_first}
use Rattle.maildir_folder.proofs.WalkSteps.{fresh_left, next_first, room_left, search_now}
use Rattle.maildir_folder.proofs.WalkSteps.{stepped_left, stepped_taken}
use Rattle.maildir_folder.proofs.Walking.{walking_done}
use Rattle.folder_letters.specs.Letters.{plain_letter}
use Rattle.maildir_folder.proofs.walk.take_all.Goals as goal

pub loop-left-init : goal.loop-left-init
loop-left-init g c = record {
  each = c.requires.each;
  rises = c.requires.rises;
  room = omega (arith, c.requires.empty.count);
  few = omega (arith, c.requires.empty.count, c.requires.empty.fresh);
  front = take_all (length c.args.archive.now.items) c.args.archive.now.items (omega arith);
  only = only_same _;
  reads = left_same true c.args.so_far.now.bytes _;
  walked = walking_first (map plain_letter c.args.archive.now.items) c.args.known.now
      (map plain_file c.args.files.now)
      (store_of c.args.so_far.now c.args.archive.now.items) _ c.requires.empty;
}

pub returns-in-Err-clause-walks : goal.returns-in-Err-clause-walks
returns-in-Err-clause-walks g c = record {
  meets = meets_later c.in-Err.why _ _ _ c.loop-left.invariant.only c.in-Err.ensures.walks.meets;
  reads = left_then_failed true c.args.so_far.now.bytes c.loop-left.so_far.bytes _ _ _
      c.loop-left.invariant.reads c.in-Err.ensures.walks.reads;
}

pub returns-clause-walks : goal.returns-clause-walks
returns-clause-walks g c = record {
  meets = search rules;
  reads = c.loop-left.invariant.reads;
}

pub loop-left-preserved-then-taken : goal.loop-left-preserved-then-taken
loop-left-preserved-then-taken g c =
    let inv = c.loop-left.invariant in
    let whole = first_and_rest c.loop-left.left.now _ c.file-item.result c.file-item.is
    c.in-len1-up.len_at_least in
    let taken = next_first c.args.archive.now.items c.loop-left.archive.items c.args.known.now _
    (plain_file c.file-item.result) c.in-Ok.taken _ _ _ _ inv.front c.requires.known
    c.in-Ok.ensures.taken in
    let step = stepped_taken (map plain_letter c.args.archive.now.items) c.args.known.now
    (map plain_file c.args.files.now) c.loop-left.left.now
    _ c.file-item.result c.as_slice.result.now c.in-Ok.taken whole c.if-taken.true
    c.as_slice.ensures.value
    inv.each inv.rises
    inv.only.looks c.in-Ok.ensures.walks.meets.only.looks inv.walked taken in
    record {
      each = All-rest IsCandidate c.file-item.result _ c.loop-left.left.now whole inv.each;
      rises = step.rises;
      room = room_left c.loop-left.left.now _ c.file-item.result
          (length c.args.files.now) whole taken inv.room;
      few = fresh_left taken inv.few;
      front = front_then c.args.archive.now.items c.loop-left.archive.items _ inv.front
          c.in-Ok.ensures.front;
      only = only_then _ _ _ inv.only c.in-Ok.ensures.walks.meets.only;
      reads = left_then true c.in-Ok.taken true c.args.so_far.now.bytes
          c.loop-left.so_far.bytes _ _ _ _ inv.reads c.in-Ok.ensures.walks.reads;
      walked = step.walked;
    }

pub loop-left-preserved : goal.loop-left-preserved
loop-left-preserved g c =
    let inv = c.loop-left.invariant in
    let whole = first_and_rest c.loop-left.left.now _ c.file-item.result c.file-item.is
    c.in-len1-up.len_at_least in
    let taken = next_first c.args.archive.now.items c.loop-left.archive.items c.args.known.now _
    (plain_file c.file-item.result) c.in-Ok.taken _ _ _ _ inv.front c.requires.known
    c.in-Ok.ensures.taken in
    let step = stepped_left (map plain_letter c.args.archive.now.items) c.args.known.now
    (map plain_file c.args.files.now) c.loop-left.left.now _
    c.file-item.result c.in-Ok.taken whole c.if-taken.false inv.each inv.rises
    inv.only.looks c.in-Ok.ensures.walks.meets.only.looks inv.walked taken in
    record {
      each = All-rest IsCandidate c.file-item.result _ c.loop-left.left.now whole inv.each;
      rises = step.rises;
      room = room_left c.loop-left.left.now _ c.file-item.result
          (length c.args.files.now) whole taken inv.room;
      few = fresh_left taken inv.few;
      front = front_then c.args.archive.now.items c.loop-left.archive.items _ inv.front
          c.in-Ok.ensures.front;
      only = only_then _ _ _ inv.only c.in-Ok.ensures.walks.meets.only;
      reads = left_then true c.in-Ok.taken true c.args.so_far.now.bytes
          c.loop-left.so_far.bytes _ _ _ _ inv.reads c.in-Ok.ensures.walks.reads;
      walked = step.walked;
    }

pub take_next-requires-clause-known : goal.take_next-requires-clause-known
take_next-requires-clause-known g c =
    search_now c.args.archive.now.items c.loop-left.archive.items c.args.known.now.listing
    c.loop-left.invariant.front c.requires.known

pub returns-clause-walked : goal.returns-clause-walked
returns-clause-walked g c =
    walking_done (map plain_letter c.args.archive.now.items) c.args.known.now
    (map plain_file c.args.files.now) (map plain_file c.loop-left.left.now) _
    (store_of c.args.so_far.now c.args.archive.now.items)
    (store_of c.loop-left.so_far c.loop-left.archive.items) _ _
    (ap (map plain_file) (none_left c.loop-left.left.now c.in_default.len_below))
    c.loop-left.invariant.walked
