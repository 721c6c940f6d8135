-- What the looks of an opening have seen, as its last journal shows it.
use Rattle.std.proofs.Common.{◌≡◌, ◌∙◌, ℕ, false, List, [], inl, inr, Option, Some, None, Result}
use Rattle.std.proofs.Common.{Ok, Err, ap, length, subst, sym, take, ◌⊎◌}
use Rattle.std.proofs.Math.Seq.{take-length}
use Rattle.mail_base.specs.declared.kind.Kind.{Kind}
use Rattle.disk_model.specs.Journal.{Past}
use Rattle.disk_model.specs.Judge.{GoesOn, IsLonger}
use Rattle.disk_model.specs.Looking.{LooksOnly}
use Rattle.disk_model.specs.Seen.{Seen}
use Rattle.disk_model.proofs.Looking.{looked_longer}
use Rattle.folder_core.specs.Kinds.{KindSeen}
use Rattle.folder_core.specs.Known.{KnownFolder, nothing_known}
use Rattle.folder_core.specs.Right.{Right}
use Rattle.folder_core.specs.declared.error.ScanError.{ScanError}
use Rattle.folder_core.specs.declared.error.ScanError.TheVariants.{Missing, NotMailbox, TooMany}
use Rattle.folder_core.specs.declared.error.ScanError.TheVariants.{TooLarge, Unfinished}
use Rattle.folder_core.specs.declared.error.ScanError.TheVariants.{ArchiveFull, Fault, NoMemory}
use Rattle.folder_core.proofs.SeenLemmas.{goes_as}
use Rattle.folder_drivers.specs.Synced.{sync_row}
use Rattle.folder_letters.specs.Letters.{Mail}
use Rattle.folder_letters.specs.declared.listing.Found.{Found}
use Rattle.folder_letters.specs.declared.listing.Listed.{Listed}
use Rattle.folder_stops.proofs.Does.{does_looked, does_then}
use Rattle.session_events.specs.Happened.{Standing, WasNotListed, WasOpened, WasRefused}
use Rattle.session_events.specs.Visits.{TouchesAlone, VisitSaw}
use Rattle.session_events.specs.declared.event.OpenFault.{OpenFault}
use Rattle.session_events.specs.declared.event.OpenFault.TheVariants.{Folder}

-- what was seen behind looks
looked_then : {P Q R : Past → Past → Type 0} (a b c : Option Past)
    → ((p q r : Past) → IsLonger p q → P p q → Q q r → R p r) → LooksOnly a b → GoesOn P a b
    → GoesOn Q b c → GoesOn R a c
looked_then {P} {Q} {R} None b c both looks first next =
    subst (λ (o : Option Past). GoesOn Q o c) looks next
looked_then (Some p) None c both looks first next = absurd looks
looked_then (Some p) (Some q) None both looks first next = absurd next
looked_then (Some p) (Some q) (Some r) both looks first next =
    both p q r (looked_longer p q looks) first next

-- a cause of the tree, or a fault or want of memory
refused_by : (Has : Kind → Type 0) (empty : Kind) (owner path : List ℕ) (why : ScanError)
    (p q : Past) → KindSeen (Err why) empty path p q ⊎ WasNotListed Has empty owner path why p q
    → WasRefused Has empty owner path (Folder why) p q
refused_by Has empty owner path Fault p q was = tt
refused_by Has empty owner path NoMemory p q was = tt
refused_by Has empty owner path Missing p q was = was
refused_by Has empty owner path (NotMailbox place) p q was = was
refused_by Has empty owner path (TooMany count) p q was = was
refused_by Has empty owner path (TooLarge bytes) p q was = was
refused_by Has empty owner path Unfinished p q was = was
refused_by Has empty owner path ArchiveFull p q was = was

-- the path was no folder
pub no_kind_told : (Has : Kind → Type 0) (empty : Kind) (owner path : List ℕ) (why : ScanError)
    (old new : Option Past) → GoesOn (KindSeen (Err why) empty path) old new
    → GoesOn (WasRefused Has empty owner path (Folder why)) old new
no_kind_told Has empty owner path why old new seen =
    goes_as old new (λ p q k. refused_by Has empty owner path why p q (inl k)) seen

-- memory ran out behind the looks, of which nothing is told
pub starved_told : (empty : Kind) (path : List ℕ) (kind : Kind) (old new : Option Past)
    → GoesOn (KindSeen (Ok kind) empty path) old new → GoesOn (λ p q. Unit {0}) old new
starved_told empty path kind old new seen = goes_as old new (λ p q k. tt) seen

-- A folder of a kind was visited, of which nothing was known.
module _ (empty : Kind) (owner path : List ℕ) (kind : Kind) (before archive : List Mail)
    (known new_known : KnownFolder) (old mid new : Option Past) (no_letters : before ≡ [])
    (none : known ≡ nothing_known path kind false)
    (seen : GoesOn (KindSeen (Ok kind) empty path) old mid) (looks : LooksOnly old mid) where
  -- what it saw, of nothing that was known
  visit_seen : (result : Result Found ScanError) (p q : Past)
      → VisitSaw known.kind owner before archive known new_known result p q
      → VisitSaw kind owner [] archive (nothing_known path kind false) new_known result p q
  visit_seen result p q saw =
      subst (λ (l : List Mail). VisitSaw kind owner l archive (nothing_known path kind false)
      new_known result p q) no_letters
      (subst (λ (k : KnownFolder). VisitSaw k.kind owner before archive k new_known result p q)
      none saw)

  pub found_told : (found : Found) (came : List Listed) → new_known.path ≡ path
      → new_known.listing ≡ came
      → GoesOn (VisitSaw known.kind owner before archive known new_known (Ok found)) mid new
      → GoesOn (WasOpened empty owner archive path kind came) old new
  found_told found came at listed saw =
      looked_then old mid new (λ p q r on k s. record {
        looked = q;
        kind_is = k;
        on = on;
        known = new_known;
        at = at;
        listed = listed;
        visited = visit_seen (Ok found) q r s;
      }) looks seen saw

  pub refused_told : (Has : Kind → Type 0) (why : ScanError) → Has kind
      → GoesOn (VisitSaw known.kind owner before archive known new_known (Err why)) mid new
      → GoesOn (WasRefused Has empty owner path (Folder why)) old new
  refused_told Has why has saw =
      looked_then old mid new (λ p q r on k s. refused_by Has empty owner path why p r
      (inr (record {
        kind = kind;
        looked = q;
        kind_is = k;
        on = on;
        driver = has;
        refused = visit_seen (Err why) q r s;
      }))) looks seen saw

  pub unread_told : (result : Result Found ScanError)
      → GoesOn (VisitSaw known.kind owner before archive known new_known result) mid new
      → GoesOn (λ p q. Unit {0}) old new
  unread_told result saw = looked_then old mid new (λ p q r on k s. tt) looks seen saw

-- what is known of it is right, by its own kind
pub right_kind : {kind : Kind} {mails : List Mail} {known : KnownFolder} {told : Option Past}
    → known.kind ≡ kind → Right kind mails known told → Right known.kind mails known told
right_kind {kind} {mails} {known} {told} same right =
    subst (λ (k : Kind). Right k mails known told) (sym same) right

-- our calls changed it alone
pub touches_read : (path : List ℕ) (kind : Kind) (known : KnownFolder) {old mid new : Option Past}
    → known ≡ nothing_known path kind false → LooksOnly old mid
    → TouchesAlone known.kind known.path mid new → TouchesAlone kind path old new
touches_read path kind known {old} {mid} {new} none looks here =
    does_then ((sync_row kind).home path) ((sync_row kind).making path) None
    (does_looked ((sync_row kind).home path) ((sync_row kind).making path) None looks)
    (subst (λ (k : KnownFolder). TouchesAlone k.kind k.path mid new) none here)

-- The events of an opening, by what stood before it.

pub opened_told : (at : Standing) (empty : Kind) (owner : List ℕ) (letters : List Mail)
    (path name : List ℕ) (kind : Kind) (came : List Listed) (old new : Option Past)
    → at.empty ≡ empty → at.owner ≡ owner → name ≡ path → length letters ≡ length came
    → GoesOn (WasOpened empty owner letters path kind came) old new
    → GoesOn (WasOpened at.empty at.owner (take (length came) letters) name kind came) old new
opened_told at empty owner letters path name kind came old new same by named each went =
    goes_as old new (λ p q was.
    subst (λ (l : List Mail). WasOpened at.empty at.owner l name kind came p q)
    (sym (ap (λ (n : ℕ). take n letters) (sym each) ∙ take-length letters))
    (subst (λ (k : Kind). WasOpened k at.owner letters name kind came p q) (sym same)
    (subst (λ (o : List ℕ). WasOpened empty o letters name kind came p q) (sym by)
    (subst (λ (n : List ℕ). WasOpened empty owner letters n kind came p q) (sym named) was)))) went

pub unopened_told : (Has : Kind → Type 0) (at : Standing) (empty : Kind)
    (owner path name : List ℕ) (why : OpenFault) (old new : Option Past) → at.empty ≡ empty
    → at.owner ≡ owner → name ≡ path
    → GoesOn (WasRefused Has empty owner path why) old new
    → GoesOn (WasRefused Has at.empty at.owner name why) old new
unopened_told Has at empty owner path name why old new same by named went =
    goes_as old new (λ p q was.
    subst (λ (k : Kind). WasRefused Has k at.owner name why p q) (sym same)
    (subst (λ (o : List ℕ). WasRefused Has empty o name why p q) (sym by)
    (subst (λ (n : List ℕ). WasRefused Has empty owner n why p q) (sym named) was))) went
