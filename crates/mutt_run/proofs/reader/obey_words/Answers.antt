use Rattle.std.proofs.Common.{ap, refl}
use Rattle.std.proofs.lemmas.Int.{to_z-of_z}
use Rattle.session_events.specs.Events.{plain_events}
use Rattle.mutt_run.proofs.WordsLemmas.{memory_reads, nothing_owed, owed, quiet_counts}
use Rattle.mutt_run.proofs.WordsLemmas.{reads_chosen, usage_reads}
use Rattle.mutt_run.proofs.reader.obey_words.Goals as goal

pub returns-in-Ok-clause-reads : goal.returns-in-Ok-clause-reads
returns-in-Ok-clause-reads g c = λ given h.
    reads_chosen (simp (to_z-of_z, c.ranges.moment)) c.in-Ok.ensures.ok
    (c.obey.ensures.reads given h)

pub returns-in-Ok-clause-unopened : goal.returns-in-Ok-clause-unopened
returns-in-Ok-clause-unopened g c = nothing_owed _ _ c.in-Ok.ensures.ok

pub returns-in-Err-Usage-clause-reads : goal.returns-in-Err-Usage-clause-reads
returns-in-Err-Usage-clause-reads g c = λ given h.
    rw c.in-Err-Usage.field-0-is
    (usage_reads _ _ _ _ _ _ _ (ap plain_events c.requires.events) refl refl refl refl refl
    c.in-Err-Usage.word
    (rw c.in-Err-Usage.field-0-is at c.in-Err-Usage.ensures.err))

pub returns-in-Err-Usage-clause-unopened : goal.returns-in-Err-Usage-clause-unopened
returns-in-Err-Usage-clause-unopened g c = owed _ _ (ap plain_events c.requires.events)

pub returns-in-Err-Usage-clause-faults : goal.returns-in-Err-Usage-clause-faults
returns-in-Err-Usage-clause-faults g c = quiet_counts _ _ _ _ tt

pub returns-in-Err-NoMemory-clause-reads : goal.returns-in-Err-NoMemory-clause-reads
returns-in-Err-NoMemory-clause-reads g c = λ given h.
    memory_reads _ _ _ _ _ _ _ (ap plain_events c.requires.events) refl refl refl refl refl

pub returns-in-Err-NoMemory-clause-unopened : goal.returns-in-Err-NoMemory-clause-unopened
returns-in-Err-NoMemory-clause-unopened g c = owed _ _ (ap plain_events c.requires.events)

pub returns-in-Err-NoMemory-clause-faults : goal.returns-in-Err-NoMemory-clause-faults
returns-in-Err-NoMemory-clause-faults g c = quiet_counts _ _ _ _ tt
