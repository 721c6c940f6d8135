use Rattle.std.proofs.Common.{◌<◌, ap, length, map}
use Rattle.std.proofs.lemmas.List.Elements.{All-rest}
use Rattle.folder_letters.specs.Letters.{plain_letter}
use Rattle.index_items.specs.Changes.{plain_changed, plain_changes}
use Rattle.folder_core.specs.Keeping.{mail_of}
use Rattle.folder_changes.specs.Asked.{discarded}
use Rattle.folder_core.proofs.SeenLemmas.{first_and_rest, none_left}
use Rattle.folder_changes.proofs.ServingLemmas.{serves_first, serves_then}
use Rattle.mh_syncs.proofs.Leaving.{away_end, away_failed, away_first, away_next, error_left}
use Rattle.mh_syncs.proofs.Leaving.{held_first, held_next}
use Rattle.mh_syncs.proofs.Keys.{error_as}
use Rattle.mh_syncs.proofs.Taking.{all_taken, take_cause, taken_end, taken_first, taken_next}
use Rattle.mh_syncs.proofs.away.take_all.Goals as goal

pub loop-left-init : goal.loop-left-init
loop-left-init g c = record {
  within = c.requires.within;
  serves = serves_first _;
  so_far = away_first c.args.purge c.args.path.now (map plain_letter c.args.archive.now)
      (plain_changes c.args.changes.now) _ c.requires.apart;
  holds = held_first c.args.path.now (map plain_letter c.args.archive.now)
      (plain_changes c.args.changes.now) _;
  taken = taken_first c.args.path.now (map plain_letter c.args.archive.now)
      (plain_changes c.args.changes.now) _ c.requires.apart;
}

pub loop-left-preserved : goal.loop-left-preserved
loop-left-preserved g c =
    let whole = first_and_rest c.loop-left.left.now _ c.changed-item.result c.changed-item.is
    c.in-len1-up.len_at_least in
    let mails = map plain_letter c.args.archive.now in
    record {
      within = All-rest (λ changed. changed.id.0 < length c.args.archive.now)
          c.changed-item.result _ c.loop-left.left.now whole c.loop-left.invariant.within;
      serves = serves_then tt _ _ _ _ c.loop-left.invariant.serves c.in-Ok.ensures.serves;
      so_far = away_next c.args.purge c.args.path.now mails
          (plain_changes c.args.changes.now) (plain_changed c.changed-item.result) _
          (plain_changes c.loop-left.left.now) _ _ _ (ap plain_changes whole)
          c.loop-left.invariant.so_far
          c.in-Ok.ensures.takes;
      holds = held_next c.args.path.now
          (discarded mails (plain_changes c.args.changes.now)) mails
          (plain_changed c.changed-item.result) _ (plain_changes c.loop-left.left.now) _ _ _
          (ap plain_changes whole) c.loop-left.invariant.holds
          c.in-Ok.ensures.holds;
      taken = taken_next c.args.path.now mails (plain_changed c.changed-item.result) _
          (plain_changes c.loop-left.left.now) _ _ _ (ap plain_changes whole)
          c.loop-left.invariant.taken c.in-Ok.ensures.calls;
    }

pub returns-clause-takes : goal.returns-clause-takes
returns-clause-takes g c =
    away_end c.args.purge c.args.path.now (map plain_letter c.args.archive.now)
    (plain_changes c.args.changes.now) (plain_changes c.loop-left.left.now) _ _
    (ap plain_changes (none_left c.loop-left.left.now c.in_default.len_below))
    c.loop-left.invariant.so_far

pub returns-clause-holds : goal.returns-clause-holds
returns-clause-holds g c = c.loop-left.invariant.holds.held

pub returns-in-Err-clause-takes : goal.returns-in-Err-clause-takes
returns-in-Err-clause-takes g c =
    let whole = first_and_rest c.loop-left.left.now _ c.changed-item.result c.changed-item.is
    c.in-len1-up.len_at_least in
    away_failed c.args.purge c.args.path.now (map plain_letter c.args.archive.now)
    (plain_changes c.args.changes.now) (plain_changed c.changed-item.result) _
    (plain_changes c.loop-left.left.now) c.in-Err.why _ _ _ (ap plain_changes whole)
    c.loop-left.invariant.so_far
    c.in-Err.ensures.takes

pub returns-in-Err-clause-holds : goal.returns-in-Err-clause-holds
returns-in-Err-clause-holds g c =
    let whole = first_and_rest c.loop-left.left.now _ c.changed-item.result c.changed-item.is
    c.in-len1-up.len_at_least in
    let mails = map plain_letter c.args.archive.now in
    let held = held_next c.args.path.now
    (discarded mails (plain_changes c.args.changes.now)) mails
    (plain_changed c.changed-item.result) _ (plain_changes c.loop-left.left.now) _ _ _
    (ap plain_changes whole) c.loop-left.invariant.holds
    c.in-Err.ensures.holds in
    held.held

pub returns-in-Err-clause-names : goal.returns-in-Err-clause-names
returns-in-Err-clause-names g c known is =
    let whole = first_and_rest c.loop-left.left.now _ c.changed-item.result c.changed-item.is
    c.in-len1-up.len_at_least in
    error_left known (map plain_letter c.args.archive.now)
    (plain_changes c.args.changes.now) (plain_changed c.changed-item.result) _
    (plain_changes c.loop-left.left.now) c.in-Err.why (ap plain_changes whole)
    c.loop-left.invariant.so_far.among
    (error_as (mail_of (map plain_letter c.args.archive.now) c.changed-item.result.id.0).key
    c.in-Err.why c.args.path.now known.path is c.in-Err.ensures.at)

pub returns-clause-calls : goal.returns-clause-calls
returns-clause-calls g c =
    taken_end c.args.path.now (map plain_letter c.args.archive.now)
    (plain_changes c.loop-left.left.now) _ _ c.loop-left.invariant.taken

pub returns-in-Err-clause-calls : goal.returns-in-Err-clause-calls
returns-in-Err-clause-calls g c =
    let whole = first_and_rest c.loop-left.left.now _ c.changed-item.result c.changed-item.is
    c.in-len1-up.len_at_least in
    all_taken c.args.path.now (map plain_letter c.args.archive.now)
    (plain_changed c.changed-item.result) _ (plain_changes c.loop-left.left.now) _ _ _
    (ap plain_changes whole) c.loop-left.invariant.taken c.in-Err.ensures.calls

pub returns-in-Err-clause-cause : goal.returns-in-Err-clause-cause
returns-in-Err-clause-cause g c =
    let whole = first_and_rest c.loop-left.left.now _ c.changed-item.result c.changed-item.is
    c.in-len1-up.len_at_least in
    take_cause c.args.path.now (map plain_letter c.args.archive.now)
    (plain_changed c.changed-item.result) _ (plain_changes c.loop-left.left.now) _ _ _
    (ap plain_changes whole) c.loop-left.invariant.taken (plain_changes c.args.changes.now)
    c.in-Err.why c.loop-left.invariant.so_far.among c.in-Err.ensures.serves.grows
    c.in-Err.ensures.at c.in-Err.ensures.cause
