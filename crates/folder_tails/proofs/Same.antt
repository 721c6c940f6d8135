-- What a change leaves of the mailbox and of the names beside it.
use Rattle.std.proofs.Common.{Bool, List, None, Option, Some, ap, false, if◌then◌else◌, inl}
use Rattle.std.proofs.Common.{inr, refl, subst, sym, true, ℕ, ◌+◌, ◌∙◌}
use Rattle.std.proofs.Common.{◌≡◌, ◌⊎◌}
use Rattle.disk_model.specs.Journal.{Action, Appends, Puts, Removes, Renames, Writes}
use Rattle.disk_model.specs.State.{File, Name, State, after_action, can_make, can_take}
use Rattle.disk_model.specs.State.{changed, file_at, is_file, moved, name_at}
use Rattle.folder_stops.specs.Others.{SparesPath}
use Rattle.folder_stops.specs.Rows.{IsDurable}
use Rattle.folder_stops.proofs.Sides.{IsSameAt, spared}
use Rattle.folder_stops.proofs.Sounds.{sound_less, sound_made, sound_moved, sound_set}
use Rattle.folder_stops.proofs.Words.{found}
use Rattle.folder_tails.specs.Sides.{lock_of, tail_of}
use Rattle.folder_tails.specs.Rows.{At, HasNoTail, IsForeign, IsLock, IsSound, IsTailFile}
use Rattle.folder_tails.specs.Rows.{IsTailed, KeepsFront, MayRow, Row}

-- a path has the same file, of the same bytes
pub record IsSameIn (path : List ℕ) (files : List File) (names : List Name) (files' : List File)
    (names' : List Name) : Type 0 where
  pub name : name_at names' path ≡ name_at names path
  pub file : (n : ℕ) → name_at names path ≡ Some (Some n) → file_at files' n ≡ file_at files n

pub same_in : (path : List ℕ) (s t : State) → IsSameAt path s t
    → IsSameIn path s.files s.names t.files t.names
same_in path s t same = record { name = same.name; file = same.file }

pub at_same : (path : List ℕ) (Is : File → Type 0) (files : List File) (names : List Name)
    (files' : List File) (names' : List Name) → IsSameIn path files names files' names'
    → At path Is files names → At path Is files' names'
at_same path Is files names files' names' same at =
    (at.0, same.name ∙ at.1, subst Is (sym (same.file at.0 at.1)) at.2)

-- the mailbox, its tail file and its lock are the same
pub record IsKept (path : List ℕ) (files : List File) (names : List Name) (files' : List File)
    (names' : List Name) : Type 0 where
  pub mail : IsSameIn path files names files' names'
  pub tail : IsSameIn (tail_of path) files names files' names'
  pub lock : IsSameIn (lock_of path) files names files' names'

pub no_tail_same : (path : List ℕ) (files : List File) (names : List Name) (files' : List File)
    (names' : List Name) → IsSameIn (tail_of path) files names files' names'
    → HasNoTail path names → HasNoTail path names'
no_tail_same path files names files' names' same none = ap is_file same.name ∙ none

module _ (path : List ℕ) (ours : List ℕ → Bool) (files : List File) (names : List Name)
    (files' : List File) (names' : List Name) where
  pub foreign_same : IsSameIn (lock_of path) files names files' names'
      → IsForeign path ours files names → IsForeign path ours files' names'
  foreign_same same (inl is) = inl (ap is_file same.name ∙ is)
  foreign_same same (inr is) =
      inr (at_same (lock_of path) (IsLock ours false) files names files' names' same is)

  idle_same : IsKept path files names files' names'
      → HasNoTail path names ⊎ IsForeign path ours files names
      → HasNoTail path names' ⊎ IsForeign path ours files' names'
  idle_same kept (inl none) = inl (no_tail_same path files names files' names' kept.tail none)
  idle_same kept (inr foreign) = inr (foreign_same kept.lock foreign)

  pub tailed_same : (front end : List ℕ) → IsKept path files names files' names'
      → IsTailed path ours front end files names → IsTailed path ours front end files' names'
  tailed_same front end kept is = record {
    mail = at_same path (KeepsFront front) files names files' names' kept.mail is.mail;
    tail = at_same (tail_of path) (IsTailFile front end) files names files' names' kept.tail
        is.tail;
    lock = at_same (lock_of path) (IsLock ours true) files names files' names' kept.lock is.lock;
  }

  pub row_same : (bytes : List ℕ) → IsKept path files names files' names'
      → Row path ours bytes files names → Row path ours bytes files' names'
  row_same bytes kept (inl is) = inl (record {
    mail = at_same path (IsDurable bytes) files names files' names' kept.mail is.mail;
    idle = idle_same kept is.idle;
  })
  row_same bytes kept (inr is) = inr (is.0, is.1, is.2, tailed_same is.0 is.1 kept is.3)

  pub may_same : (may : List ℕ → Bool) → IsKept path files names files' names'
      → MayRow path ours may files names → MayRow path ours may files' names'
  may_same may kept row = (row.0, row.1, row_same row.0 kept row.2)

-- Numbers of files.

sound_if : (b : Bool) (s t : State) → IsSound s → IsSound t → IsSound (if b then s else t)
sound_if true s t one two = one
sound_if false s t one two = two

pub sound_changed : (at : Option (Option ℕ)) (change : ℕ → File → File) (s : State) → IsSound s
    → IsSound (changed at change s)
sound_changed None change s sound = sound
sound_changed (Some None) change s sound = sound
sound_changed (Some (Some n)) change s sound =
    sound_set (λ path. false) n (change s.clock (file_at s.files n)) (s.clock + 1) s sound

pub sound_renamed : (at : Option (Option ℕ)) (from to : List ℕ) (s : State)
    → name_at s.names from ≡ at → IsSound s → IsSound (moved at from to s)
sound_renamed None from to s is sound = sound
sound_renamed (Some None) from to s is sound = sound
sound_renamed (Some (Some n)) from to s is sound =
    sound_moved (λ path. false) from to n s (found from s.names n is) refl sound

pub sound_action : (action : Action) (s : State) → IsSound s → IsSound (after_action action s)
sound_action (Appends path piece) s sound = sound_changed (name_at s.names path) _ s sound
sound_action (Writes path bytes) s sound = sound_changed (name_at s.names path) _ s sound
sound_action (Puts path bytes) s sound =
    sound_if (can_make s.names path) _ _ (sound_made (λ path. false) path bytes s sound) sound
sound_action (Renames from to) s sound =
    sound_if (can_take s.names to) _ _
    (sound_renamed (name_at s.names from) from to s refl sound) sound
sound_action (Removes path) s sound =
    sound_if (is_file (name_at s.names path)) _ _ (sound_less (λ path. false) path s sound) sound

-- others leave a path alone
pub same_action : (path : List ℕ) (action : Action) (s : State) → SparesPath path action
    → IsSound s → IsSameIn path s.files s.names (after_action action s).files
    (after_action action s).names
same_action path action s spares sound =
    same_in path s (after_action action s) (spared (λ path. false) path action s spares sound)
