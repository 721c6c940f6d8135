-- What is known of a folder in which what was left over was taken away.
use Rattle.std.proofs.Common.{◌≡◌, ℕ, List, Result, refl, subst}
use Rattle.mail_base.specs.declared.kind.Kind.TheVariants.{Mh}
use Rattle.disk_model.specs.Seen.{Seen}
use Rattle.folder_core.specs.Known.{KnownFolder}
use Rattle.folder_core.specs.declared.error.ScanError.{ScanError}
use Rattle.folder_drivers.specs.Recovered.{Recovers, TakesLeft}
use Rattle.mh_syncs.proofs.Stamping.{still_right}

-- the folder at a path is the one that is known
pub recovers_at : {result : Result (Unit {0}) ScanError} {old new : Seen} (known : KnownFolder)
    (path : List ℕ) → path ≡ known.path → TakesLeft path result old new
    → (owner : List ℕ) → Recovers Mh owner known known result old new
recovers_at {result} {old} {new} known path is takes owner = record {
  does = subst (λ (p : List ℕ). TakesLeft p result old new) is takes;
  known_is = refl;
  right = λ mails right. still_right mails known old.told new.told takes.grows right;
}
