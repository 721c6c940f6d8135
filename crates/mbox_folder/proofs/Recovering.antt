-- What was left over beside a mailbox was finished or taken away.
use Rattle.std.proofs.Common.{ap, sym, subst, Bool, List, Result, ◌∙◌, ◌≡◌, ℕ}
use Rattle.mail_base.specs.declared.kind.Kind.TheVariants.{Mbox}
use Rattle.disk_model.specs.Seen.{Seen}
use Rattle.folder_core.specs.Known.{KnownFolder}
use Rattle.folder_core.specs.Right.{Right}
use Rattle.folder_core.specs.declared.error.ScanError.{ScanError}
use Rattle.folder_drivers.specs.Recovered.{Recovers}
use Rattle.folder_tails.specs.Calls.{Finishes}
use Rattle.mbox_writes.proofs.Ending.{right_held}

-- by this owner, whatever was held before and behind it
pub recovers : (owner path : List ℕ) (known new_known : KnownFolder) (was held : Bool)
    (result : Result (Unit {0}) ScanError) (old new : Seen) → path ≡ known.path
    → was ≡ known.held → new_known ≡ record known { held = held }
    → Finishes path owner was held result old new
    → Recovers Mbox owner known new_known result old new
recovers owner path known new_known was held result old new here kept is finishes =
    let now : held ≡ new_known.held = sym (ap (λ (k : KnownFolder). k.held) is) in
    record {
      does = subst (λ (h : Bool). Finishes known.path owner known.held h result old new) now
          (subst (λ (h : Bool). Finishes known.path owner h held result old new) kept
          (subst (λ (p : List ℕ). Finishes p owner was held result old new) here finishes));
      known_is = is ∙ (λ i. record known { held = now i });
      right = λ mails right. subst (λ (k : KnownFolder). Right Mbox mails k new.told) (sym is)
          (right_held mails known held old.told new.told finishes.serves.grows right);
    }
