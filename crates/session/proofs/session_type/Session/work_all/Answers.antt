use Rattle.std.proofs.Common.{refl}
use Rattle.session.proofs.GivenLemmas.{keeps_same}
use Rattle.session.proofs.WorksLemmas.{whole_read, whole_still, whole_then, works_read, works_still}
use Rattle.session.proofs.WorksLemmas.{works_then}
use Rattle.session.proofs.session_type.Session.work_all.Goals as goal

pub loop-turn-init : goal.loop-turn-init
loop-turn-init g c = record {
  works = works_still _ c.args.self.now _ _ _ _ refl refl (keeps_same _) refl c.requires.known;
  whole = whole_still c.args.self.now _ _ refl refl refl c.requires.fits;
  settled = λ h. h;
}

pub source_all-requires : goal.source_all-requires
source_all-requires g c = c.loop-turn.invariant.whole.fits

pub sync_next-requires-clause-known : goal.sync_next-requires-clause-known
sync_next-requires-clause-known g c =
    (works_read _ _ _ _ _ _ _ c.source_all.ensures.reads c.loop-turn.invariant.works.known).known

pub loop-turn-preserved : goal.loop-turn-preserved
loop-turn-preserved g c =
    let reads = works_read _ _ _ _ _ _ _ c.source_all.ensures.reads
    c.loop-turn.invariant.works.known in
    let read = works_then c.loop-turn.invariant.works c.loop-turn.invariant.whole reads in
    let whole = whole_then c.loop-turn.invariant.works c.loop-turn.invariant.whole reads
    (whole_read c.in_ok-source_all.ensures.whole) in
    record {
      works = works_then read whole c.sync_next.ensures.works;
      whole = whole_then read whole c.sync_next.ensures.works c.in_ok-sync_next.ensures.whole;
      settled = λ h. c.in_ok-sync_next.ensures.settled
          (c.in_ok-source_all.ensures.whole.settled (c.loop-turn.invariant.settled h));
    }

pub returns-in_err-source_all-clause-works : goal.returns-in_err-source_all-clause-works
returns-in_err-source_all-clause-works g c =
    works_then c.loop-turn.invariant.works c.loop-turn.invariant.whole
    (works_read _ _ _ _ _ _ _ c.source_all.ensures.reads c.loop-turn.invariant.works.known)

pub returns-in_err-sync_next-clause-works : goal.returns-in_err-sync_next-clause-works
returns-in_err-sync_next-clause-works g c =
    let reads = works_read _ _ _ _ _ _ _ c.source_all.ensures.reads
    c.loop-turn.invariant.works.known in
    let read = works_then c.loop-turn.invariant.works c.loop-turn.invariant.whole reads in
    let whole = whole_then c.loop-turn.invariant.works c.loop-turn.invariant.whole reads
    (whole_read c.in_ok-source_all.ensures.whole) in
    works_then read whole c.sync_next.ensures.works

pub returns-then-not-branch-clause-works : goal.returns-then-not-branch-clause-works
returns-then-not-branch-clause-works g c =
    let reads = works_read _ _ _ _ _ _ _ c.source_all.ensures.reads
    c.loop-turn.invariant.works.known in
    let read = works_then c.loop-turn.invariant.works c.loop-turn.invariant.whole reads in
    let whole = whole_then c.loop-turn.invariant.works c.loop-turn.invariant.whole reads
    (whole_read c.in_ok-source_all.ensures.whole) in
    works_then read whole c.sync_next.ensures.works

pub returns-then-not-branch-clause-whole : goal.returns-then-not-branch-clause-whole
returns-then-not-branch-clause-whole g c =
    let reads = works_read _ _ _ _ _ _ _ c.source_all.ensures.reads
    c.loop-turn.invariant.works.known in
    let read = works_then c.loop-turn.invariant.works c.loop-turn.invariant.whole reads in
    let whole = whole_then c.loop-turn.invariant.works c.loop-turn.invariant.whole reads
    (whole_read c.in_ok-source_all.ensures.whole) in
    whole_then read whole c.sync_next.ensures.works c.in_ok-sync_next.ensures.whole
