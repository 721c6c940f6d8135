-- What the whole call promises, by what its steps do.
use Rattle.std.proofs.Common.{Bool, Err, List, Ok, false, length, refl, replicate, subst, sym, ℕ}
use Rattle.std.proofs.Common.{◌≡◌}
use Rattle.std.proofs.lemmas.List.{length-replicate}
use Rattle.disk_model.specs.Judge.{Counted}
use Rattle.disk_model.specs.Seen.{Seen}
use Rattle.disk_model.specs.declared.answers.DiskError.{DiskError}
use Rattle.disk_model.specs.declared.answers.DiskError.TheVariants.{Exists, Fault as DiskFault}
use Rattle.disk_model.specs.declared.answers.DiskError.TheVariants.{Long, Missing as NotThere}
use Rattle.disk_model.specs.declared.answers.DiskError.TheVariants.{NoMemory as NoRoom, WrongNode}
use Rattle.folder_tails.specs.Calls.{IsEnd, IsWriteError, WritesEnd}
use Rattle.folder_tails.specs.Serving.{tail_error}
use Rattle.folder_tails.specs.Stages.{AnyState, Ended, Job, JobLeads, JobStays, Staging}
use Rattle.folder_tails.specs.declared.error.TailError.{TailError}
use Rattle.folder_tails.specs.declared.error.TailError.TheVariants.{Fault, NoMemory}
use Rattle.folder_tails.proofs.Jobs.{begin, forget, staging}
use Rattle.folder_tails.proofs.Serving.{leads_grows, serves_none, serves_ok, serves_tail}

-- any end of that length
some_job : (at : ℕ) (tail : List ℕ) → (job : Job) × IsEnd at tail job
some_job at tail = (
  record { ours = λ line. false; front = zeros at; end = tail },
  record { behind = sized at; bytes = refl },
)
  where
    zeros : ℕ → List ℕ
    zeros n = replicate n 0

    sized : (n : ℕ) → n ≡ length (zeros n)
    sized n = sym (length-replicate n 0)

write_error : (why : DiskError) → IsWriteError (tail_error why)
write_error NotThere = tt
write_error WrongNode = tt
write_error Exists = tt
write_error (Long size) = tt
write_error DiskFault = tt
write_error NoRoom = tt

-- memory ran out before the first call
pub unwritten : (path : List ℕ) (at : ℕ) (tail : List ℕ) (held : Bool) (s : Seen)
    → WritesEnd path at tail held (Err NoMemory) s s
unwritten path at tail held s = record {
  stays = λ job end. forget path job (begin path job (staging path job) s.told) (staging path job);
  ends = tt;
  serves = serves_none Fault (Err NoMemory) s (λ is. absurd (cc));
  refused = tt;
  given_back = tt;
}

pub not_written : (path home : List ℕ) (at : ℕ) (tail : List ℕ) (held : Bool) (why : DiskError)
    (told : TailError) (old new : Seen) → home ≡ path → told ≡ tail_error why
    → ((job : Job) → IsEnd at tail job → JobStays home job old.told new.told
    (Staging home job AnyState))
    → Counted {A = Unit {0}} (Err why) old new
    → WritesEnd path at tail held (Err told) old new
not_written path home at tail held why told old new here e stays counted =
    let some = some_job at tail in
    subst (λ (p : List ℕ). WritesEnd p at tail held (Err told) old new) here
    (subst (λ (t : TailError). WritesEnd home at tail held (Err t) old new) (sym e)
    (record {
      stays = stays;
      ends = tt;
      serves = serves_tail why old new (leads_grows (stays some.0 some.1)) counted;
      refused = write_error why;
      given_back = tt;
    }))

pub was_written : (path home : List ℕ) (at : ℕ) (tail : List ℕ) (held : Bool) (old new : Seen)
    → home ≡ path
    → ((job : Job) → IsEnd at tail job → JobStays home job old.told new.told
    (Staging home job AnyState))
    → ((job : Job) → IsEnd at tail job
    → JobLeads home job old.told new.told (Staging home job AnyState) (Ended home job))
    → Counted {A = Unit {0}} (Ok tt) old new → held ≡ false
    → WritesEnd path at tail held (Ok tt) old new
was_written path home at tail held old new here stays ends counted is =
    let some = some_job at tail in
    subst (λ (p : List ℕ). WritesEnd p at tail held (Ok tt) old new) here
    (record {
      stays = stays;
      ends = ends;
      serves = serves_ok Fault old new (leads_grows (stays some.0 some.1)) counted;
      refused = tt;
      given_back = is;
    })
