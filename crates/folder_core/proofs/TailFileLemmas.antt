-- What the first look and the look at the tail file have told of a kind.
use Rattle.std.proofs.Common.{◌≡◌, ◌⊎◌, ℕ, Bool, true, false, List, [], ◌∷◌, Option, Some, None}
use Rattle.std.proofs.Common.{Result, Ok, Err, codes, if◌then◌else◌, inl, inr, refl, sym, ◌∙◌, ap}
use Rattle.std.proofs.Common.{subst, length}
use Rattle.std.specs.Prelude.{IfErr}
use Rattle.std.specs.Str.{bytes_eq}
use Rattle.mail_base.specs.Series.{Held}
use Rattle.mail_base.specs.declared.kind.Kind.{Kind}
use Rattle.mail_base.specs.declared.kind.Kind.TheVariants.{Mbox, Mmdf}
use Rattle.disk_model.specs.Journal.{Call, Past, ReadFront}
use Rattle.disk_model.specs.Judge.{GoesOn}
use Rattle.disk_model.specs.Looking.{LooksOnly}
use Rattle.disk_model.proofs.Looking.{looks_then}
use Rattle.folder_core.specs.FirstLook.{FindsFirst, TellsMissing}
use Rattle.folder_core.specs.Kinds.{DirectorySeen, IsDirectoryError, IsKindError, IsKindSeen}
use Rattle.folder_core.specs.Kinds.{IsRuleSeen, KindSeen, RuleSeen, front_kind}
use Rattle.folder_core.specs.Looked.{IsFrontOf, SawAt, has_front}
use Rattle.folder_core.specs.TailFile.{HadNoTail, tail_kind, tail_path}
use Rattle.folder_core.specs.declared.error.ScanError.{ScanError}
use Rattle.folder_core.specs.declared.error.ScanError.TheVariants.{Missing, NotMailbox, TooMany}
use Rattle.folder_core.specs.declared.error.ScanError.TheVariants.{TooLarge, Unfinished}
use Rattle.folder_core.specs.declared.error.ScanError.TheVariants.{ArchiveFull, Fault, NoMemory}
use Rattle.folder_core.specs.declared.looks.Front.{Front}
use Rattle.folder_core.specs.declared.looks.Front.TheVariants.{Free, Directory, Begins}
use Rattle.folder_core.proofs.FirstLookLemmas.{stood_later, tells_there}
use Rattle.folder_core.proofs.KindsLemmas.{directory_seen, front_seen}
use Rattle.folder_core.proofs.SeenLemmas.{goes_as, goes_both, sees_earlier, sees_later}

-- what a look told of the tail file
abbrev pub TailSeen : Option Kind → List ℕ → Past → Past → Type 0
TailSeen found path = SawAt (ReadFront (tail_path path) 5) (λ tree. found ≡ tail_kind tree path)

-- a tail file told the kind
pub begun_seen : (kind empty : Kind) (path : List ℕ) (found : Option Kind) (a b c : Option Past)
    → found ≡ Some kind → LooksOnly a b → LooksOnly b c → GoesOn (TailSeen found path) b c
    → GoesOn (KindSeen (Ok kind) empty path) a c
begun_seen kind empty path found a b c is first next saw =
    goes_as a c (λ p q saw. inl (record {
      mark = saw.mark;
      from = saw.from;
      to = saw.to;
      is = sym saw.tells ∙ is;
    })) (sees_earlier (ReadFront (tail_path path) 5) (λ tree. found ≡ tail_kind tree path) a b c
    first next saw)

-- the rest of the rule, where no tail file told the kind
by_rule : (result : Result Kind ScanError) (empty : Kind) (path : List ℕ) (m n : ℕ) (past : Past)
    → HadNoTail path m n past → IsRuleSeen result empty path m n past
    → IsKindSeen result empty path m n past
by_rule (Ok kind) empty path m n past none rule = inr (rule, none)
by_rule (Err Fault) empty path m n past none rule = tt
by_rule (Err NoMemory) empty path m n past none rule = tt
by_rule (Err (NotMailbox place)) empty path m n past none rule = (rule, none)
by_rule (Err Missing) empty path m n past none rule = rule
by_rule (Err (TooMany count)) empty path m n past none rule = rule
by_rule (Err (TooLarge bytes)) empty path m n past none rule = rule
by_rule (Err Unfinished) empty path m n past none rule = rule
by_rule (Err ArchiveFull) empty path m n past none rule = rule

rule_seen : (result : Result Kind ScanError) (empty : Kind) (path : List ℕ) (found : Option Kind)
    (a b : Option Past) → found ≡ None → GoesOn (TailSeen found path) a b
    → GoesOn (RuleSeen result empty path) a b → GoesOn (KindSeen result empty path) a b
rule_seen result empty path found a b is saw rule =
    goes_both a b
    (λ p q saw rule. by_rule result empty path (length p.journal) (length q.journal) q (record {
      mark = saw.mark;
      from = saw.from;
      to = saw.to;
      none = sym saw.tells ∙ is;
    }) rule) saw rule

no_kind : (found : Option Kind) → ((kind : Kind) → found ≡ Some kind → ⊥) → found ≡ None
no_kind None never = refl
no_kind (Some kind) never = absurd (never kind refl)

-- a file was seen, and no tail file
pub file_seen : (result : Result Kind ScanError) (front : Front) (begins : Held ℕ) (call : Call)
    (empty : Kind) (path : List ℕ) (found : Option Kind) (a b c : Option Past)
    → result ≡ front_kind empty begins.items → front ≡ Begins begins
    → ((kind : Kind) → found ≡ Some kind → ⊥) → LooksOnly a b → LooksOnly b c
    → GoesOn (SawAt call (λ tree. IsFrontOf front tree path)) a b
    → GoesOn (TailSeen found path) b c → GoesOn (KindSeen result empty path) a c
file_seen result front begins call empty path found a b c told is never first next saw tail =
    let met : GoesOn (SawAt call (λ tree. IsFrontOf (Begins begins) tree path)) a b =
    subst (λ (f : Front). GoesOn (SawAt call (λ tree. IsFrontOf f tree path)) a b) is saw in
    rule_seen result empty path found a c (no_kind found never)
    (sees_earlier (ReadFront (tail_path path) 5) (λ tree. found ≡ tail_kind tree path) a b c first
    next tail)
    (front_seen result empty path begins.items call a c told
    (sees_later call (λ tree. IsFrontOf (Begins begins) tree path) a b c first next met))

-- a directory was seen, then no tail file, and then its kind
pub folder_seen : (result : Result Kind ScanError) (front : Front) (call : Call) (empty : Kind)
    (path : List ℕ) (found : Option Kind) (a b c d : Option Past) → front ≡ Directory
    → ((kind : Kind) → found ≡ Some kind → ⊥) → LooksOnly a b → LooksOnly b c → LooksOnly c d
    → GoesOn (SawAt call (λ tree. IsFrontOf front tree path)) a b
    → GoesOn (TailSeen found path) b c → GoesOn (DirectorySeen result empty path) c d
    → GoesOn (KindSeen result empty path) a d
folder_seen result front call empty path found a b c d is never first next last saw tail told =
    let both : LooksOnly a c = looks_then a b c first next in
    rule_seen result empty path found a d (no_kind found never)
    (sees_later (ReadFront (tail_path path) 5) (λ tree. found ≡ tail_kind tree path) a c d both last
    (sees_earlier (ReadFront (tail_path path) 5) (λ tree. found ≡ tail_kind tree path) a b c first
    next tail))
    (directory_seen result front call empty path a c d is both last
    (sees_later call (λ tree. IsFrontOf front tree path) a b c first next saw) told)

-- what is not free and no file is a directory
pub is_directory : (front : Front) → (front ≡ Free → ⊥) → (front ≡ Free) ⊎ (front ≡ Directory)
    → front ≡ Directory
is_directory front there (inl free) = absurd (there free)
is_directory front there (inr is) = is

-- What the first look has found, where something stood there.

front_there : (front : Front) → (front ≡ Free → ⊥) → has_front front ≡ true
front_there Free there = absurd (there refl)
front_there Directory there = refl
front_there (Begins begins) there = refl

pub there_first : (result : Result Kind ScanError) (path : List ℕ) (front : Front)
    (a b c : Option Past) → (front ≡ Free → ⊥) → (result ≡ Err Missing → ⊥) → LooksOnly a b
    → LooksOnly b c → GoesOn (FindsFirst has_front (Ok front) path) a b
    → GoesOn (TellsMissing result path) a c
there_first result path front a b c there other first next found =
    tells_there result path a c other
    (stood_later path a b c first next
    (goes_as a b (λ p q f. f ∙ ap Some (front_there front there)) found))

-- A fault or want of memory behind the first look.

pub failed_seen : (why : ScanError) (empty : Kind) (path : List ℕ) (a b c : Option Past)
    → (why ≡ Fault) ⊎ (why ≡ NoMemory) → LooksOnly a b → LooksOnly b c
    → GoesOn (KindSeen (Err why) empty path) a c
failed_seen why empty path a b c failed first next =
    goes_as a c (λ p q looked. by_why why failed (length p.journal) (length q.journal) q)
    (looks_then a b c first next)
  where
    by_why : (why : ScanError) → (why ≡ Fault) ⊎ (why ≡ NoMemory) → (m n : ℕ) (past : Past)
        → IsKindSeen (Err why) empty path m n past
    by_why why (inl is) m n past =
        subst (λ (e : ScanError). IsKindSeen (Err e) empty path m n past) (sym is) tt
    by_why why (inr is) m n past =
        subst (λ (e : ScanError). IsKindSeen (Err e) empty path m n past) (sym is) tt

pub failed_error : (why : ScanError) → (why ≡ Fault) ⊎ (why ≡ NoMemory) → IsKindError why
failed_error why (inl is) = subst IsKindError (sym is) tt
failed_error why (inr is) = subst IsKindError (sym is) tt

pub failed_other : (why : ScanError) → (why ≡ Fault) ⊎ (why ≡ NoMemory)
    → ◌≡◌ {A = Result Kind ScanError} (Err why) (Err Missing) → ⊥
failed_other why (inl is) missing = cc
failed_other why (inr is) missing = cc

-- Refusals of a file.

-- the refusals of a file
abbrev pub IsFileError : ScanError → Type 0
IsFileError (NotMailbox place) = place ≡ 0
IsFileError why = ⊥

front_error : (empty : Kind) (front : List ℕ) → IfErr (front_kind empty front) IsFileError
front_error empty [] = tt
front_error empty (b ∷ bytes) = by_from (bytes_eq (b ∷ bytes) (codes "From "))
    (bytes_eq (b ∷ bytes) (1 ∷ 1 ∷ 1 ∷ 1 ∷ 10 ∷ []))
  where
    by_from : (from ones : Bool) → IfErr (if from then Ok Mbox
        else (if ones then Ok Mmdf else Err (NotMailbox 0))) IsFileError
    by_from true ones = tt
    by_from false true = tt
    by_from false false = refl

pub file_errors : (result : Result Kind ScanError) (empty : Kind) (front : List ℕ)
    → result ≡ front_kind empty front → IfErr result IsFileError
file_errors result empty front is =
    subst (λ (r : Result Kind ScanError). IfErr r IsFileError) (sym is) (front_error empty front)

file_error : (why : ScanError) → IsFileError why → IsDirectoryError why
file_error Missing error = absurd error
file_error (NotMailbox place) error = error
file_error (TooMany count) error = absurd error
file_error (TooLarge bytes) error = absurd error
file_error Unfinished error = absurd error
file_error ArchiveFull error = absurd error
file_error Fault error = absurd error
file_error NoMemory error = absurd error

-- a file's refusal is one that a directory may have
pub as_directory : (result : Result Kind ScanError) → IfErr result IsFileError
    → IfErr result IsDirectoryError
as_directory (Ok kind) errors = tt
as_directory (Err why) errors = file_error why errors

-- it is no fault
pub no_fault : (result : Result Kind ScanError) → IfErr result IsFileError → result ≡ Err Fault → ⊥
no_fault result errors is =
    subst (λ (r : Result Kind ScanError). IfErr r IsFileError) is errors
