use Rattle.std.proofs.Common.{refl}
use Rattle.std.proofs.lemmas.Int.{to_z-of_z}
use Rattle.mutt_run.proofs.ReadsLemmas.{fails_fault, fails_memory, fails_refused, starts_here}
use Rattle.mutt_run.proofs.task.read.Goals as goal

pub returns-in-Err-NotOpened-clause-reads : goal.returns-in-Err-NotOpened-clause-reads
returns-in-Err-NotOpened-clause-reads g c = λ o is skips task given h.
    fails_refused o _ _ _ _ _ _ _ _ (simp (to_z-of_z, c.ranges.moment)) is task refl refl refl
    _ _ _ ((rw c.in-Err-NotOpened.field-0-is at c.in-Err-NotOpened.ensures.err) given h)
    c.refuse.ensures.told

pub returns-in-Err-DiskFault-clause-reads : goal.returns-in-Err-DiskFault-clause-reads
returns-in-Err-DiskFault-clause-reads g c = λ o is skips task given h.
    fails_fault o _ _ _ _ _ _ _ _ (simp (to_z-of_z, c.ranges.moment)) is task refl refl refl
    _ _ ((rw c.in-Err-DiskFault.field-0-is at c.in-Err-DiskFault.ensures.err) given h)
    c.refuse-in-Err-DiskFault.ensures.told

pub returns-in-Err-NoMemory-clause-reads : goal.returns-in-Err-NoMemory-clause-reads
returns-in-Err-NoMemory-clause-reads g c = λ o is skips task given h.
    fails_memory o _ _ _ _ _ _ _ _ (simp (to_z-of_z, c.ranges.moment)) is task refl refl refl
    _ refl ((rw c.in-Err-NoMemory.field-0-is at c.in-Err-NoMemory.ensures.err) given h)

pub returns-in-Ok-clause-reads : goal.returns-in-Ok-clause-reads
returns-in-Ok-clause-reads g c = λ o is skips task.
    c.read_on.ensures.reads o skips task _ _ (λ given h.
    starts_here o _ _ _ given _ _ _ _ _ _ (simp (to_z-of_z, c.ranges.moment)) is
    (c.in-Ok.ensures.ok given h))
