-- The directories of a Maildir that is made.
use Rattle.std.proofs.Common.{◌≡◌, ◌∷◌, ◌∙◌, [], ℕ, Bool, true, false, List, Result}
use Rattle.std.proofs.Common.{Ok, Err, ap, codes, inl, inr, refl, subst}
use Rattle.std.proofs.Common.{sym, ◌⊎◌}
use Rattle.std.proofs.lemmas.Slice.Eq.{bytes_eq-Decides}
use Rattle.std.specs.Str.{bytes_eq}
use Rattle.disk_model.specs.Journal.{Call, Create, Cut, ListDir, MakeDir, ReadAll, ReadFront}
use Rattle.disk_model.specs.Journal.{Remove}
use Rattle.disk_model.specs.Journal.{Rename, StatPath, Sync, SyncDir, WriteAt}
use Rattle.disk_model.specs.Names.{name_of}
use Rattle.disk_model.specs.Seen.{Seen}
use Rattle.folder_core.specs.Directory.{is_name, path_in}
use Rattle.folder_core.proofs.NamesIn.{path_is_in}
use Rattle.folder_changes.specs.declared.sync_error.SyncError.{SyncError}
use Rattle.folder_drivers.proofs.MhCalls.{no_folder}
use Rattle.folder_makes.specs.Parts.{IsAt, IsIn, IsPart, NeedsEither, NeedsIn, NeedsKept, Nowhere}
use Rattle.folder_makes.specs.Parts.{maildir_names}
use Rattle.folder_makes.proofs.Calling.{IsFresh, IsQuiet}
use Rattle.folder_makes.proofs.Parting.{kept_quiet, part_as, part_then}
use Rattle.folder_drivers.specs.Refusing.{IsAny, IsMake}

true_false : ◌≡◌ {A = Bool} true false → ⊥
true_false e = cc

-- two names have two paths
other_path : (path a b : List ℕ) → is_name a ≡ true → is_name b ≡ true → bytes_eq a b ≡ false
    → path_in path a ≡ path_in path b → ⊥
other_path path a b one two other same =
    true_false (sym ((bytes_eq-Decides a b).1 (sym (path_is_in path a one).name_is
    ∙ ap name_of same ∙ (path_is_in path b two).name_is)) ∙ other)

-- a directory that others do not make
fresh_at : (D : List ℕ → Type 0) (p : List ℕ) → ((d : List ℕ) → D d → d ≡ p → ⊥)
    → IsFresh D Nowhere p
fresh_at D p apart = record {
  dirs = apart;
  files = λ f is. absurd is;
  around = λ f is. absurd is;
}

make_quiet : (D : List ℕ → Type 0) (p : List ℕ) → ((d : List ℕ) → D d → d ≡ p → ⊥)
    → (call : Call) → IsMake p call → IsQuiet D Nowhere call
make_quiet D p apart call is = subst (IsQuiet D Nowhere) (sym is) (fresh_at D p apart)

needs_in : (dir : List ℕ) (names : List (List ℕ)) (p : List ℕ) → IsIn dir names p → (call : Call)
    → IsMake p call → NeedsIn dir names call
needs_in dir names p is call same = subst (NeedsIn dir names) (sym same) is

-- one directory is made
pub made_in : (path name : List ℕ) (result : Result (Unit {0}) SyncError) {old new : Seen}
    → IsIn path maildir_names (path_in path name)
    → IsPart (IsAt (path_in path name)) Nowhere (IsMake (path_in path name)) result old new
    → IsPart (IsIn path maildir_names) Nowhere (NeedsIn path maildir_names) result old new
made_in path name result is part =
    part_as (IsAt (path_in path name)) Nowhere (IsIn path maildir_names) Nowhere
    (IsMake (path_in path name)) (NeedsIn path maildir_names) result
    (λ p same. subst (IsIn path maildir_names) (sym same) is) (λ p is. is)
    (needs_in path maildir_names (path_in path name) is) part

-- and another one behind it
pub made_two : (path a b : List ℕ) (result : Result (Unit {0}) SyncError) {given : Unit {0}}
    {old mid new : Seen} → IsIn path maildir_names (path_in path a)
    → IsIn path maildir_names (path_in path b)
    → is_name a ≡ true → is_name b ≡ true → bytes_eq a b ≡ false
    → IsPart (IsAt (path_in path a)) Nowhere (IsMake (path_in path a)) (Ok given) old mid
    → IsPart (IsAt (path_in path b)) Nowhere (IsMake (path_in path b)) result mid new
    → IsPart (IsIn path maildir_names) Nowhere (NeedsIn path maildir_names) result old new
made_two path a b result {given} is_a is_b one two other part next =
    part_then (IsAt (path_in path a)) Nowhere (IsAt (path_in path b)) Nowhere
    (IsIn path maildir_names) Nowhere (IsMake (path_in path a)) (IsMake (path_in path b))
    (NeedsIn path maildir_names) given result
    (λ p same. subst (IsIn path maildir_names) (sym same) is_a) (λ p is. is)
    (λ p same. subst (IsIn path maildir_names) (sym same) is_b) (λ p is. is)
    (make_quiet (IsAt (path_in path a)) (path_in path b)
    (λ d at same. other_path path a b one two other (sym at ∙ same)))
    (needs_in path maildir_names (path_in path b) is_b) part next

-- the first two
abbrev IsFirstTwo : List ℕ → List ℕ → Type 0
IsFirstTwo path = IsIn path (codes "tmp" ∷ codes "new" ∷ [])

first_two : (path p : List ℕ) → IsFirstTwo path p → IsIn path maildir_names p
first_two path p (inl is) = inl is
first_two path p (inr (inl is)) = inr (inl is)
first_two path p (inr (inr none)) = absurd none

not_cur : (path d : List ℕ) → IsFirstTwo path d → d ≡ path_in path (codes "cur") → ⊥
not_cur path d (inl is) same =
    other_path path (codes "tmp") (codes "cur") refl refl refl (sym is ∙ same)
not_cur path d (inr (inl is)) same =
    other_path path (codes "new") (codes "cur") refl refl refl (sym is ∙ same)
not_cur path d (inr (inr none)) same = none

-- all three are made
pub made_three : (path : List ℕ) (result : Result (Unit {0}) SyncError) {one two : Unit {0}}
    {a b c d : Seen}
    → IsPart (IsAt (path_in path (codes "tmp"))) Nowhere (IsMake (path_in path (codes "tmp")))
    (Ok one) a b
    → IsPart (IsAt (path_in path (codes "new"))) Nowhere (IsMake (path_in path (codes "new")))
    (Ok two) b c
    → IsPart (IsAt (path_in path (codes "cur"))) Nowhere (IsMake (path_in path (codes "cur")))
    result c d
    → IsPart (IsIn path maildir_names) Nowhere (NeedsIn path maildir_names) result a d
made_three path result {one} {two} first next last =
    part_then (IsFirstTwo path) Nowhere (IsAt (path_in path (codes "cur"))) Nowhere
    (IsIn path maildir_names) Nowhere IsAny (IsMake (path_in path (codes "cur")))
    (NeedsIn path maildir_names) two result (first_two path) (λ p is. is)
    (λ p same. inr (inr (inl same))) (λ p is. is)
    (make_quiet (IsFirstTwo path) (path_in path (codes "cur")) (not_cur path))
    (needs_in path maildir_names (path_in path (codes "cur")) (inr (inr (inl refl))))
    (part_then (IsAt (path_in path (codes "tmp"))) Nowhere (IsAt (path_in path (codes "new")))
    Nowhere (IsFirstTwo path) Nowhere (IsMake (path_in path (codes "tmp")))
    (IsMake (path_in path (codes "new"))) IsAny one (Ok two) (λ p same. inl same) (λ p is. is)
    (λ p same. inr (inl same)) (λ p is. is)
    (make_quiet (IsAt (path_in path (codes "tmp"))) (path_in path (codes "new"))
    (λ d at same. other_path path (codes "tmp") (codes "new") refl refl refl (sym at ∙ same)))
    (λ call is. tt) first next) last

-- Behind it they are put on the disk.

pub finished_then : (path : List ℕ) (result : Result (Unit {0}) SyncError) {given : Unit {0}}
    {old mid new : Seen}
    → IsPart (IsIn path maildir_names) Nowhere (NeedsIn path maildir_names) (Ok given) old mid
    → IsPart Nowhere Nowhere NeedsKept result mid new
    → IsPart (IsIn path maildir_names) Nowhere
    (NeedsEither (NeedsIn path maildir_names) NeedsKept) result old new
finished_then path result {given} part next =
    part_then (IsIn path maildir_names) Nowhere Nowhere Nowhere (IsIn path maildir_names) Nowhere
    (NeedsIn path maildir_names) NeedsKept (NeedsEither (NeedsIn path maildir_names) NeedsKept)
    given result (λ p is. is) (λ p is. is) (λ p is. absurd is) (λ p is. is)
    (kept_quiet (IsIn path maildir_names)) (λ call is. inr is) part next

pub finished_not : (path : List ℕ) (why : SyncError) {old new : Seen}
    → IsPart (IsIn path maildir_names) Nowhere (NeedsIn path maildir_names) {A = Unit {0}} (Err why)
    old new
    → IsPart (IsIn path maildir_names) Nowhere
    (NeedsEither (NeedsIn path maildir_names) NeedsKept) {A = Unit {0}} (Err why) old new
finished_not path why part =
    part_as (IsIn path maildir_names) Nowhere (IsIn path maildir_names) Nowhere
    (NeedsIn path maildir_names) (NeedsEither (NeedsIn path maildir_names) NeedsKept) (Err why)
    (λ p is. is) (λ p is. is) (λ call is. inl is) part

-- Behind the first look.

-- a name's path is not that of its folder
not_path : (path d : List ℕ) → d ≡ path → IsIn path maildir_names d → ⊥
not_path path d at (inl is) = no_folder path (codes "tmp") refl (sym is ∙ at)
not_path path d at (inr (inl is)) = no_folder path (codes "new") refl (sym is ∙ at)
not_path path d at (inr (inr (inl is))) = no_folder path (codes "cur") refl (sym is ∙ at)
not_path path d at (inr (inr (inr none))) = none

words_quiet : (path : List ℕ) (call : Call) → NeedsIn path maildir_names call
    → IsQuiet (IsAt path) Nowhere call
words_quiet path (MakeDir p) needs =
    fresh_at (IsAt path) p (λ d at same. not_path path p (sym same ∙ at) needs)
words_quiet path (ListDir dir) needs = absurd needs
words_quiet path (StatPath at) needs = absurd needs
words_quiet path (ReadFront at size) needs = absurd needs
words_quiet path (ReadAll at limit) needs = absurd needs
words_quiet path (Create at) needs = absurd needs
words_quiet path (WriteAt at from piece) needs = absurd needs
words_quiet path (Cut at size) needs = absurd needs
words_quiet path (Sync at) needs = absurd needs
words_quiet path (Rename from to) needs = absurd needs
words_quiet path (Remove at) needs = absurd needs
words_quiet path (SyncDir dir) needs = absurd needs

-- the path, or that of one of its directories
abbrev pub IsOfMaildir : List ℕ → List ℕ → Type 0
IsOfMaildir path p = IsAt path p ⊎ IsIn path maildir_names p

pub whole_then : {A : Type 0} (path : List ℕ) (result : Result (Unit {0}) SyncError) {given : A}
    {old mid new : Seen} → IsPart (IsAt path) Nowhere IsAny (Ok given) old mid
    → IsPart (IsIn path maildir_names) Nowhere
    (NeedsEither (NeedsIn path maildir_names) NeedsKept) result mid new
    → IsPart (IsOfMaildir path) Nowhere IsAny result old new
whole_then path result {given} part next =
    part_then (IsAt path) Nowhere (IsIn path maildir_names) Nowhere (IsOfMaildir path) Nowhere IsAny
    (NeedsEither (NeedsIn path maildir_names) NeedsKept) IsAny given result (λ p is. inl is)
    (λ p is. is) (λ p is. inr is) (λ p is. is) quiet (λ call is. tt) part next
  where
    quiet : (call : Call) → NeedsEither (NeedsIn path maildir_names) NeedsKept call
        → IsQuiet (IsAt path) Nowhere call
    quiet call (inl is) = words_quiet path call is
    quiet call (inr is) = kept_quiet (IsAt path) call is

pub whole_first : {A : Type 0} (path : List ℕ) (result : Result A SyncError) {old new : Seen}
    → IsPart (IsAt path) Nowhere IsAny result old new
    → IsPart (IsOfMaildir path) Nowhere IsAny result old new
whole_first path result part =
    part_as (IsAt path) Nowhere (IsOfMaildir path) Nowhere IsAny IsAny result (λ p is. inl is)
    (λ p is. is) (λ call is. is) part
