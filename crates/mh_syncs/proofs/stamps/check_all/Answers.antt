use Rattle.std.proofs.Common.{◌<◌, ap, length, map}
use Rattle.std.proofs.lemmas.List.Elements.{All-rest}
use Rattle.folder_letters.specs.Letters.{plain_letter}
use Rattle.index_items.specs.Changes.{plain_changed, plain_changes}
use Rattle.folder_core.proofs.SeenLemmas.{first_and_rest, none_left}
use Rattle.folder_changes.proofs.ServingLemmas.{serves_first, serves_then}
use Rattle.disk_model.proofs.Looking.{looks_then}
use Rattle.mh_syncs.proofs.Leaving.{error_left}
use Rattle.mh_syncs.proofs.Meeting.{checked_bears, checked_first, checked_next, checked_numbers}
use Rattle.mh_syncs.proofs.Causing.{unlike_left}
use Rattle.mh_syncs.proofs.stamps.check_all.Goals as goal

pub loop-left-init : goal.loop-left-init
loop-left-init g c = record {
  within = c.requires;
  serves = serves_first _;
  so_far = checked_first c.args.known.now (map plain_letter c.args.archive.now)
      (plain_changes c.args.changes.now) _;
}

pub loop-left-preserved : goal.loop-left-preserved
loop-left-preserved g c =
    let whole = first_and_rest c.loop-left.left.now _ c.changed-item.result c.changed-item.is
    c.in-len1-up.len_at_least in
    record {
      within = All-rest (λ changed. changed.id.0 < length c.args.archive.now)
          c.changed-item.result _ c.loop-left.left.now whole c.loop-left.invariant.within;
      serves = serves_then tt _ _ _ _ c.loop-left.invariant.serves c.in-Ok.ensures.serves;
      so_far = checked_next c.args.known.now (map plain_letter c.args.archive.now)
          (plain_changes c.args.changes.now) (plain_changed c.changed-item.result) _
          (plain_changes c.loop-left.left.now) _ _ _ (ap plain_changes whole)
          c.loop-left.invariant.so_far c.in-Ok.ensures.looks c.in-Ok.ensures.bears
          c.in-Ok.ensures.number;
    }

pub returns-clause-bears : goal.returns-clause-bears
returns-clause-bears g c =
    checked_bears c.args.known.now (map plain_letter c.args.archive.now)
    (plain_changes c.args.changes.now) (plain_changes c.loop-left.left.now) _ _
    (ap plain_changes (none_left c.loop-left.left.now c.in_default.len_below))
    c.loop-left.invariant.so_far

pub returns-clause-numbers : goal.returns-clause-numbers
returns-clause-numbers g c =
    checked_numbers c.args.known.now (map plain_letter c.args.archive.now)
    (plain_changes c.args.changes.now) (plain_changes c.loop-left.left.now) _ _
    (ap plain_changes (none_left c.loop-left.left.now c.in_default.len_below))
    c.loop-left.invariant.so_far

pub returns-in-Err-clause-names : goal.returns-in-Err-clause-names
returns-in-Err-clause-names g c =
    let whole = first_and_rest c.loop-left.left.now _ c.changed-item.result c.changed-item.is
    c.in-len1-up.len_at_least in
    error_left c.args.known.now (map plain_letter c.args.archive.now)
    (plain_changes c.args.changes.now) (plain_changed c.changed-item.result) _
    (plain_changes c.loop-left.left.now) c.in-Err.why (ap plain_changes whole)
    c.loop-left.invariant.so_far.among c.in-Err.ensures.at

pub returns-in-Err-clause-looks : goal.returns-in-Err-clause-looks
returns-in-Err-clause-looks g c =
    looks_then _ _ _ c.loop-left.invariant.so_far.looks c.in-Err.ensures.looks

pub returns-in-Err-clause-cause : goal.returns-in-Err-clause-cause
returns-in-Err-clause-cause g c =
    let whole = first_and_rest c.loop-left.left.now _ c.changed-item.result c.changed-item.is
    c.in-len1-up.len_at_least in
    unlike_left c.args.known.now (map plain_letter c.args.archive.now)
    (plain_changes c.args.changes.now) (plain_changed c.changed-item.result) _
    (plain_changes c.loop-left.left.now) c.in-Err.why _ _ _ (ap plain_changes whole)
    c.loop-left.invariant.so_far.among c.loop-left.invariant.serves.grows c.in-Err.ensures.at
    c.in-Err.ensures.cause
