-- What looks under a lock met, while the past goes on.
use Rattle.std.proofs.Common.{◌≡◌, ◌⊎◌, Bool, List, [], ℕ, Option, arith, inl, inr, ⊎_elim}
use Rattle.disk_model.specs.Journal.{Past}
use Rattle.disk_model.specs.Judge.{GoesOn, Grows, IsLonger}
use Rattle.folder_tails.specs.Causes.{HadTail, IsNotOurs, IsTailUnder, MadeLock, MetForeign}
use Rattle.folder_tails.specs.Causes.{MetUnder, NotOwned, SeenAt, WasSeen}
use Rattle.folder_tails.proofs.Causes.{at_before, at_later, goes_before, goes_both, goes_later}
use Rattle.folder_tails.proofs.Causes.{goes_map, seen_later}

pub met_later : (path owner : List ℕ) (p q r : Past) → IsLonger p q → MetForeign path owner q r
    → MetForeign path owner p r
unfolding at_later
met_later path owner p q r first met = record {
  tail = at_later p q r first met.tail;
  lock = ⊎_elim (λ none. inl none) (λ look. inr (at_later p q r first look.0, look.1)) met.lock;
}

met_look : (path owner : List ℕ) (p q r : Past) → IsLonger p q × SeenAt (NotOwned path owner) p q
    → IsLonger q r × SeenAt (HadTail path) q r → MetForeign path owner p r
unfolding at_later at_before
met_look path owner p q r first next = record {
  tail = at_later p q r first.0 next.1;
  lock = inr (at_before p q r first.1 next.0, omega (arith, first.1.to, next.1.from));
}

-- a tail file was met under a lock that is not the owner's
pub met_foreign : (path owner : List ℕ) (a b c : Option Past) → Grows a b → Grows b c
    → (owner ≡ []) ⊎ WasSeen (NotOwned path owner) a b → WasSeen (HadTail path) b c
    → GoesOn (MetForeign path owner) a c
met_foreign path owner a b c first next (inl none) tail =
    goes_map (SeenAt (HadTail path)) (MetForeign path owner) a c
    (λ p r seen. record { tail = seen; lock = inl none }) (seen_later first tail).goes
met_foreign path owner a b c first next (inr look) tail =
    goes_before (λ p q. IsLonger p q × SeenAt (NotOwned path owner) p q)
    (λ q r. IsLonger q r × SeenAt (HadTail path) q r) (MetForeign path owner) a b c
    (met_look path owner) (goes_both IsLonger (SeenAt (NotOwned path owner)) a b first look.goes)
    (goes_both IsLonger (SeenAt (HadTail path)) b c next tail.goes)

pub not_ours_later : {a b c : Option Past} (path owner : List ℕ) (held : Bool) → Grows a b
    → IsNotOurs path owner held b c → IsNotOurs path owner held a c
not_ours_later path owner held grows free =
    (free.0, ⊎_elim (λ none. inl none) (λ look. inr (seen_later grows look)) free.1)

under : (path : List ℕ) (p q r : Past) → IsLonger p q × SeenAt (MadeLock path) p q
    → IsLonger q r × SeenAt (HadTail path) q r → MetUnder path p r
unfolding at_later at_before
under path p q r first next = record {
  made = at_before p q r first.1 next.0;
  tail = at_later p q r first.0 next.1;
  behind = omega (arith, first.1.to, next.1.from);
}

-- one was met under a lock that we had made
pub met_under : (path : List ℕ) (a b c : Option Past) → Grows a b → Grows b c
    → WasSeen (MadeLock path) a b → WasSeen (HadTail path) b c → IsTailUnder path a c
met_under path a b c first next made tail =
    goes_before (λ p q. IsLonger p q × SeenAt (MadeLock path) p q)
    (λ q r. IsLonger q r × SeenAt (HadTail path) q r) (MetUnder path) a b c
    (under path) (goes_both IsLonger (SeenAt (MadeLock path)) a b first made.goes)
    (goes_both IsLonger (SeenAt (HadTail path)) b c next tail.goes)

later_under : (path : List ℕ) (p q r : Past) → IsLonger p q → MetUnder path q r → MetUnder path p r
unfolding at_later
later_under path p q r first met = record {
  made = at_later p q r first met.made;
  tail = at_later p q r first met.tail;
  behind = met.behind;
}

pub under_later : (path : List ℕ) (a b c : Option Past) → Grows a b → IsTailUnder path b c
    → IsTailUnder path a c
under_later path a b c first met = goes_later (MetUnder path) a b c (later_under path) first met
