use Rattle.std.proofs.Common.{arith, FitsSigned, w64}
use Rattle.std.proofs.lemmas.Int.{ints as signed_arith}
use Rattle.std.proofs.Math.Facts.{to_z-of_z}
use Rattle.session_state.specs.Instants.{IsMoment}
use Rattle.session.proofs.GivenLemmas.{given_here}
use Rattle.mutt_run.proofs.CompleteLemmas.{completes}
use Rattle.mutt_run.proofs.EndLemmas.{chosen_told, clocked, disk_told, ends_told, keys_told}
use Rattle.mutt_run.proofs.EndLemmas.{notes_told, out_told, prints_told}
use Rattle.mutt_run.proofs.reader.run.Goals as goal

pub returns-clause-words : goal.returns-clause-words
returns-clause-words g c =
    chosen_told (c.obey_words-status.ensures.reads _ (given_here _ _)) c.tell_end.ensures.cause

pub returns-clause-runs : goal.returns-clause-runs
returns-clause-runs g c =
    let cause = c.tell_end.ensures.cause in
    let fits : FitsSigned w64 c.now-moment.result =
    omega (arith, signed_arith, c.now-moment.ensures.range) in
    let is : IsMoment c.now-moment.result =
    record { low = c.now-moment.ensures.range.0; high = c.now-moment.ensures.range.1 } in (
      _,
      λ given h. let reads = c.obey_words-status.ensures.reads given h in record {
        run = reads.run;
        ends = ends_told reads cause;
        moment = rw (to_z-of_z fits) is;
        opened = reads.start_is;
        clocked = clocked reads _ _ c.now-moment.ensures.gives
            (to_z-of_z fits);
        out = prints_told cause reads.printed reads.but;
        errs = notes_told _ _ _ _ _ _ _ c.obey_words-status.ensures.faults.later
            c.tell_end.ensures.later c.looked_for.result.now c.obey_words-status.result
            c.tell_end.result c.looked_for.ensures (reads.ends, reads.chosen) reads.noted
            c.tell_end.ensures.tells cause;
        whole = reads.whole;
        told = reads.told;
        complete = λ readable quiet. completes _ reads c.obey_words-status.ensures.faults cause
            c.tell_end.ensures.later readable quiet.0 quiet.1 quiet.2 quiet.3;
      },
    )

pub returns-clause-keys : goal.returns-clause-keys
returns-clause-keys g c = record {
  reader = (c.obey_words-status.ensures.reads _ (given_here _ _)).reader;
  takes = (c.obey_words-status.ensures.reads _ (given_here _ _)).takes;
}

pub returns-clause-listed : goal.returns-clause-listed
returns-clause-listed g c = c.obey_words-status.ensures.met

pub returns-clause-disk_cause : goal.returns-clause-disk_cause
returns-clause-disk_cause g c =
    disk_told c.tell_end.ensures.cause
    (c.obey_words-status.ensures.reads _ (given_here _ _)).fault

pub returns-clause-keys_cause : goal.returns-clause-keys_cause
returns-clause-keys_cause g c =
    keys_told c.tell_end.ensures.cause c.obey_words-status.ensures.faults.keys

pub returns-clause-out_cause : goal.returns-clause-out_cause
returns-clause-out_cause g c =
    out_told c.obey_words-status.ensures.faults.later c.tell_end.ensures.later
    c.tell_end.ensures.cause c.obey_words-status.ensures.faults.out
