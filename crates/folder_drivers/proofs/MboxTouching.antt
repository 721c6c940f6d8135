-- Calls of ours by which a mailbox in one file is written or recovered change it and the names
-- beside it alone.
use Rattle.std.proofs.Common.{Bool, List, Option, None, ap, inl, inr, refl, sym, true}
use Rattle.std.proofs.Common.{ℕ, [], ◌∷◌, ◌∙◌, ◌≡◌, ◌⊎◌}
use Rattle.std.specs.Prelude.{◌||◌}
use Rattle.std.specs.Str.{bytes_eq}
use Rattle.std.proofs.lemmas.Bool.{or_left, or_right}
use Rattle.disk_model.specs.Journal.{Answer, Call, Create, Cut, Done, Entry, ListDir, MakeDir}
use Rattle.disk_model.specs.Journal.{Others}
use Rattle.disk_model.specs.Journal.{Own, Past, ReadAll, ReadFront, Refused, Remove, Rename}
use Rattle.disk_model.specs.Journal.{StatPath}
use Rattle.disk_model.specs.Journal.{Sync, SyncDir, WriteAt}
use Rattle.disk_model.specs.State.{State}
use Rattle.folder_stops.specs.Does.{AllOwn, Does, IfChanged, IsOurs, IsWithin, MakesAt}
use Rattle.folder_stops.proofs.Along.{grown_map, grown_then}
use Rattle.folder_stops.proofs.Does.{own_append}
use Rattle.folder_stops.proofs.Words.{same}
use Rattle.folder_tails.specs.Sides.{IsSide, lock_of, tail_of}
use Rattle.folder_tails.specs.Stages.{IsAllowed, Leads}
use Rattle.folder_drivers.specs.MboxSync.{is_home}

module _ (path : List ℕ) (from : ℕ) where
  -- a name beside the mailbox is one of the folder's
  side_home : (at : List ℕ) → IsSide path at → is_home path at ≡ true
  side_home at (inl is) = or_right (bytes_eq at path) _
      (or_left (bytes_eq at (lock_of path)) _ (ap (bytes_eq at) (sym is) ∙ same at))
  side_home at (inr (inl is)) = or_right (bytes_eq at path) _
      (or_right (bytes_eq at (lock_of path)) _
      (or_left (bytes_eq at (tail_of path)) _ (ap (bytes_eq at) (sym is) ∙ same at)))
  side_home at (inr (inr is)) = or_right (bytes_eq at path) _
      (or_right (bytes_eq at (lock_of path)) _
      (or_right (bytes_eq at (tail_of path)) _ (ap (bytes_eq at) (sym is) ∙ same at)))

  -- so is the mailbox
  mail_home : (at : List ℕ) → at ≡ path → is_home path at ≡ true
  mail_home at is = or_left (bytes_eq at path) _ (ap (bytes_eq at) (sym is) ∙ same at)

  either_home : {A : Type 0} (at : List ℕ) → IsSide path at ⊎ ((at ≡ path) × A)
      → is_home path at ≡ true
  either_home at (inl side) = side_home at side
  either_home at (inr mail) = mail_home at mail.0

  synced_home : (at : List ℕ) → IsSide path at ⊎ (at ≡ path) → is_home path at ≡ true
  synced_home at (inl side) = side_home at side
  synced_home at (inr mail) = mail_home at mail

  within : (call : Call) → IsAllowed path from call → IsWithin (is_home path) call
  within (ListDir dir) is = tt
  within (StatPath at) is = tt
  within (ReadFront at size) is = tt
  within (ReadAll at limit) is = tt
  within (Create at) is = side_home at is
  within (WriteAt at place piece) is = either_home at is
  within (Cut at size) is = either_home at is
  within (Sync at) is = synced_home at is
  within (Rename at to) is = (side_home at is.0, side_home to is.1)
  within (Remove at) is = side_home at is
  within (SyncDir dir) is = tt
  within (MakeDir at) is = absurd is

  if_changed : (answer : Answer) (P : Type 0) → P → IfChanged answer P
  if_changed Done P is = is
  if_changed (Refused why wrote) P is = λ some. is

  makes : (call : Call) (answer : Answer) → MakesAt (λ at. None) None answer call
  makes call (Refused why wrote) = tt
  makes (Create at) Done = inl refl
  makes (ListDir dir) Done = tt
  makes (StatPath at) Done = tt
  makes (ReadFront at size) Done = tt
  makes (ReadAll at limit) Done = tt
  makes (WriteAt at place piece) Done = tt
  makes (Cut at size) Done = tt
  makes (Sync at) Done = tt
  makes (Rename at to) Done = tt
  makes (Remove at) Done = tt
  makes (SyncDir dir) Done = tt
  makes (MakeDir at) Done = tt

  all_ours : (es : List Entry) → AllOwn (λ call answer. IsAllowed path from call) es
      → AllOwn (IsOurs (is_home path) (λ at. None) None) es
  all_ours [] is = tt
  all_ours (Own call answer ∷ es) is =
      ((if_changed answer _ (within call is.0), makes call answer), all_ours es is.1)
  all_ours (Others action ∷ es) is = all_ours es is

  -- so do calls that lead from stage to stage
  pub leads_does : {P X Y : (List ℕ → Bool) → State → Type 0} (a b : Option Past)
      → Leads path from P a b X Y → Does (is_home path) (λ at. None) None a b
  leads_does a b so_far = record {
    grown = grown_map a b _ _ so_far.grown (λ s es is. all_ours es is.0);
  }

-- one behind another
pub does_then : (path : List ℕ) (a b c : Option Past) → Does (is_home path) (λ at. None) None a b
    → Does (is_home path) (λ at. None) None b c → Does (is_home path) (λ at. None) None a c
does_then path a b c first next = record {
  grown = grown_then a b c _ _ _ first.grown next.grown
      (λ s xs ys p q. own_append (IsOurs (is_home path) (λ at. None) None) xs ys p q);
}
