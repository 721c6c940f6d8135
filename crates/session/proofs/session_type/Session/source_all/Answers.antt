use Rattle.std.proofs.Common.{refl}
use Rattle.session.proofs.CallsLemmas.{still_reads, still_whole, then_reads, then_whole}
use Rattle.session.proofs.GivenLemmas.{keeps_same}
use Rattle.session.proofs.session_type.Session.source_all.Goals as goal

pub loop-turn-init : goal.loop-turn-init
loop-turn-init g c = record {
  reads = still_reads c.args.self.now _ _ _ _ refl refl (keeps_same _) refl;
  whole = still_whole c.args.self.now _ _ refl refl refl c.requires;
}

pub loop-turn-preserved : goal.loop-turn-preserved
loop-turn-preserved g c = record {
  reads = then_reads c.loop-turn.invariant.reads c.loop-turn.invariant.whole
      c.source_next.ensures.reads;
  whole = then_whole c.loop-turn.invariant.reads c.loop-turn.invariant.whole
      c.source_next.ensures.reads c.in_ok-source_next.ensures.whole;
}

pub source_next-requires : goal.source_next-requires
source_next-requires g c = c.loop-turn.invariant.whole.fits

pub returns-in_err-source_next-clause-reads : goal.returns-in_err-source_next-clause-reads
returns-in_err-source_next-clause-reads g c =
    then_reads c.loop-turn.invariant.reads c.loop-turn.invariant.whole c.source_next.ensures.reads

pub returns-then-not-branch-clause-reads : goal.returns-then-not-branch-clause-reads
returns-then-not-branch-clause-reads g c =
    then_reads c.loop-turn.invariant.reads c.loop-turn.invariant.whole c.source_next.ensures.reads

pub returns-then-not-branch-clause-whole : goal.returns-then-not-branch-clause-whole
returns-then-not-branch-clause-whole g c =
    then_whole c.loop-turn.invariant.reads c.loop-turn.invariant.whole
    c.source_next.ensures.reads c.in_ok-source_next.ensures.whole

pub returns-clause-reads : goal.returns-clause-reads
returns-clause-reads g c = c.loop-turn.invariant.reads
