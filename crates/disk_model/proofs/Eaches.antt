-- What holds of each item of a list.
use Rattle.std.proofs.Common.{◌++◌, ◌∷◌, [], ℕ, zero, suc, Bool, true, false, List, slice_index_or}
use Rattle.std.proofs.Common.{slice_set, if◌then◌else◌}
use Rattle.std.specs.Str.{bytes_eq}
use Rattle.disk_model.specs.State.{Name, without}
use Rattle.disk_model.specs.Laws.{Each}

pub each_more : {A : Type 0} (P Q : A → Type 0) → ((x : A) → P x → Q x) → (xs : List A) → Each P xs
    → Each Q xs
each_more P Q more [] h = tt
each_more P Q more (x ∷ xs) h = (more x h.0, each_more P Q more xs h.1)

pub each_append : {A : Type 0} (P : A → Type 0) (xs ys : List A) → Each P xs → Each P ys
    → Each P (xs ++ ys)
each_append P [] ys h m = m
each_append P (x ∷ xs) ys h m = (h.0, each_append P xs ys h.1 m)

pub each_at : {A : Type 0} (P : A → Type 0) (xs : List A) (place : ℕ) (none : A) → P none
    → Each P xs
    → P (slice_index_or xs place none)
each_at P [] place none past h = past
each_at P (x ∷ xs) zero none past h = h.0
each_at P (x ∷ xs) (suc place) none past h = each_at P xs place none past h.1

-- one of them is changed
pub each_set : {A : Type 0} (P : A → Type 0) (xs : List A) (place : ℕ) (none y : A)
    → (P (slice_index_or xs place none) → P y) → Each P xs → Each P (slice_set xs place y)
each_set P [] place none y new h = tt
each_set P (x ∷ xs) zero none y new h = (new h.0, h.1)
each_set P (x ∷ xs) (suc place) none y new h = (h.0, each_set P xs place none y new h.1)

each_if : (P : Name → Type 0) (b : Bool) (name : Name) (rest : List Name) → P name → Each P rest
    → Each P (if b then rest else name ∷ rest)
each_if P true name rest here more = more
each_if P false name rest here more = (here, more)

-- the names at a path are taken away
pub each_without : (P : Name → Type 0) (path : List ℕ) (names : List Name) → Each P names
    → Each P (without path names)
each_without P path [] h = tt
each_without P path (name ∷ names) h =
    each_if P (bytes_eq name.path path) name (without path names) h.0
    (each_without P path names h.1)
