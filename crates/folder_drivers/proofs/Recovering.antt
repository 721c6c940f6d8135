-- What a recovery keeps, and where it changes something, whatever the kind of the folder.
use Rattle.std.proofs.Common.{◌≡◌, ◌⊎◌, ◌∙◌, ℕ, Bool, true, false, List, [], ◌∷◌, None, Result, Ok}
use Rattle.std.proofs.Common.{Err, ap, arith, inl, inr, codes, refl, subst, sym}
use Rattle.std.specs.Prelude.{IsErrOf, is_some}
use Rattle.mail_base.specs.Faults.{Rose}
use Rattle.mail_base.specs.declared.kind.Kind.{Kind}
use Rattle.mail_base.specs.declared.kind.Kind.TheVariants.{Maildir, Mbox, Mh, Mmdf}
use Rattle.disk_model.specs.Journal.{Answer, Call, Done, Entry, Others, Own, Refused, Remove}
use Rattle.disk_model.specs.Journal.{StatPath}
use Rattle.disk_model.specs.Seen.{Seen}
use Rattle.disk_model.proofs.Looking.{grows_same}
use Rattle.folder_core.specs.Directory.{front_of, path_in}
use Rattle.folder_core.specs.declared.error.ScanError.{ScanError}
use Rattle.folder_core.specs.declared.error.ScanError.TheVariants.{ArchiveFull, Fault}
use Rattle.folder_shapes.proofs.Nodes.{behind_there}
use Rattle.folder_shapes.specs.Mh.{mh_shape, number_in}
use Rattle.folder_stops.proofs.Along.{grown_map}
use Rattle.folder_stops.proofs.Does.{does_none}
use Rattle.folder_stops.specs.Does.{AllOwn, Does, IfChanged, IsOurs, IsWithin, MakesAt}
use Rattle.folder_tails.specs.Serving.{Serves}
use Rattle.folder_tails.specs.Tails.{is_owners}
use Rattle.folder_drivers.proofs.MboxTouching.{leads_does}
use Rattle.folder_drivers.specs.MhNames.{IsSidePath, append_path, new_sequences_path}
use Rattle.folder_drivers.specs.Recovered.{IsIdle, IsLeftCall, RecoversAs, TakesLeft, TakesSide}
use Rattle.folder_drivers.specs.Synced.{sync_row}

-- What it keeps.

idle_serves : (result : Result (Unit {0}) ScanError) (old new : Seen) → IsIdle result old new
    → Serves Fault result old new
idle_serves result old new is =
    subst (λ (s : Seen). Serves Fault result old s) (sym is.same) (record {
      grows = grows_same old.told;
      marks = omega arith;
      faults = omega arith;
      cause = λ failed. absurd (let done : result ≡ Ok tt = is.done in cc);
    })

left_serves : (path : List ℕ) (result : Result (Unit {0}) ScanError) (old new : Seen)
    → TakesLeft path result old new → Serves Fault result old new
left_serves path result old new takes = record {
  grows = takes.grows;
  marks = takes.marks;
  faults = takes.faults;
  cause = takes.cause;
}

-- a past only grows, neither marks nor faults fall, and a fault is answered only where they rose
pub recovery_serves : (kind : Kind) (path owner : List ℕ) (held new_held : Bool)
    (result : Result (Unit {0}) ScanError) (old new : Seen)
    → RecoversAs kind path owner held new_held result old new → Serves Fault result old new
recovery_serves Mbox path owner held new_held result old new is = is.serves
recovery_serves Maildir path owner held new_held result old new is = idle_serves result old new is
recovery_serves Mh path owner held new_held result old new is = left_serves path result old new is
recovery_serves Mmdf path owner held new_held result old new is = idle_serves result old new is

-- an archive that is full is no refusal of a recovery
pub recovery_full : (kind : Kind) (path owner : List ℕ) (held new_held : Bool) (old new : Seen)
    → RecoversAs kind path owner held new_held (Err ArchiveFull) old new → ⊥
recovery_full Mbox path owner held new_held old new is = is.refused
recovery_full Maildir path owner held new_held old new is =
    (let done : ◌≡◌ {A = Result (Unit {0}) ScanError} (Err ArchiveFull) (Ok tt) = is.done in cc)
recovery_full Mh path owner held new_held old new is = is.may_be
recovery_full Mmdf path owner held new_held old new is =
    (let done : ◌≡◌ {A = Result (Unit {0}) ScanError} (Err ArchiveFull) (Ok tt) = is.done in cc)

-- Where it changes something.

idle_does : (home : List ℕ → Bool) (result : Result (Unit {0}) ScanError) (old new : Seen)
    → IsIdle result old new → Does home (λ at. None) None old.told new.told
idle_does home result old new is =
    subst (λ (s : Seen). Does home (λ at. None) None old.told s.told) (sym is.same)
    (does_none home (λ at. None) None old.told)

module _ (path : List ℕ) where
  inside : (name : List ℕ) → (mh_shape path).home (path_in path name) ≡ true
  inside name = ap is_some (behind_there (front_of path) name)

  side_inside : (at : List ℕ) → IsSidePath path at → (mh_shape path).home at ≡ true
  side_inside at (inl is) = ap (mh_shape path).home is ∙ inside (codes ".mh_sequences.new")
  side_inside at (inr is) = ap (mh_shape path).home is ∙ inside (codes ".mutt_append")

  left_within : (call : Call) → IsLeftCall path call → IsWithin (mh_shape path).home call
  left_within (StatPath at) is = tt
  left_within (Remove at) is = side_inside at is
  left_within _ is = absurd is

  left_makes : (call : Call) (answer : Answer) → IsLeftCall path call
      → MakesAt (number_in path) None answer call
  left_makes call (Refused why wrote) is = tt
  left_makes (StatPath at) Done is = tt
  left_makes (Remove at) Done is = tt
  left_makes _ Done is = absurd is

  left_changed : (answer : Answer) (P : Type 0) → P → IfChanged answer P
  left_changed Done P is = is
  left_changed (Refused why wrote) P is = λ some. is

  all_left : (entries : List Entry) → AllOwn (TakesSide path) entries
      → AllOwn (IsOurs (mh_shape path).home (number_in path) None) entries
  all_left [] are = tt
  all_left (Own call answer ∷ entries) are = (
    (
      left_changed answer (IsWithin (mh_shape path).home call) (left_within call are.0),
      left_makes call answer are.0,
    ),
    all_left entries are.1,
  )
  all_left (Others action ∷ entries) are = all_left entries are

  left_does : (result : Result (Unit {0}) ScanError) (old new : Seen)
      → TakesLeft path result old new
      → Does (mh_shape path).home (number_in path) None old.told new.told
  left_does result old new takes = record {
    grown = grown_map old.told new.told _ _ takes.here (λ s es are. all_left es are);
  }

-- in the folder alone
pub recovery_does : (kind : Kind) (path owner : List ℕ) (held new_held : Bool)
    (result : Result (Unit {0}) ScanError) (old new : Seen)
    → RecoversAs kind path owner held new_held result old new
    → Does ((sync_row kind).home path) ((sync_row kind).making path) None old.told new.told
recovery_does Mbox path owner held new_held result old new is =
    leads_does path 0 old.told new.told (is.stays (is_owners owner) (λ line own. own))
recovery_does Maildir path owner held new_held result old new is =
    subst (λ (s : Seen). Does ((sync_row Maildir).home path) ((sync_row Maildir).making path) None
    old.told s.told) (sym is.same)
    (does_none ((sync_row Maildir).home path) ((sync_row Maildir).making path) None old.told)
recovery_does Mh path owner held new_held result old new is = left_does path result old new is
recovery_does Mmdf path owner held new_held result old new is =
    idle_does (λ other. false) result old new is
