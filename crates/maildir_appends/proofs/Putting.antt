-- Why a message was not put in its place.
use Rattle.std.proofs.Common.{◌≡◌, ◌⊎◌, ◌∙◌, ℕ, false, List, Option, Result, Ok, Err}
use Rattle.std.proofs.Common.{ap, inl, inr, refl, subst, sym}
use Rattle.std.specs.Prelude.{IfErr}
use Rattle.std.specs.Result.{IsErrAnd}
use Rattle.disk_model.specs.Journal.{Call, Create, Cut, ListDir, MakeDir, Past, ReadAll}
use Rattle.disk_model.specs.Journal.{ReadFront, Remove, Rename, StatPath, Sync, SyncDir, WriteAt}
use Rattle.disk_model.specs.Judge.{Called, GoesOn, StepBy, done_by}
use Rattle.disk_model.specs.Tree.{TreeNode, folder_of, is_root}
use Rattle.disk_model.specs.declared.answers.DiskError.{DiskError}
use Rattle.folder_changes.specs.Calls.{GoesBy}
use Rattle.folder_changes.specs.Refused.{IsBetween, refused_by, refuses}
use Rattle.folder_changes.proofs.TraceLemmas.{IsUnmade, calls_one}
use Rattle.folder_drivers.specs.Refusing.{RefusedFor}
use Rattle.maildir_appends.specs.Causes.{AreApart, IsPut}
use Rattle.folder_drivers.proofs.Causing.{call_for, for_earlier}
use Rattle.maildir_appends.proofs.Freeing.{calls_grow}
use Rattle.folder_drivers.proofs.NodeLemmas.{KeepsFile, Leaves, created_file, created_leaves}
use Rattle.folder_drivers.proofs.NodeLemmas.{file_left, file_unmade, folder_left, folder_unmade}
use Rattle.folder_drivers.proofs.NodeLemmas.{kept_leaves, moved_leaves, rename_unmade}
use Rattle.folder_drivers.proofs.NodeLemmas.{synced_leaves, written_leaves}

-- a call that makes a file, writes it or puts it on the disk
abbrev pub IsFill : List ℕ → Call → Type 0
IsFill beside (Create at) = at ≡ beside
IsFill beside (WriteAt at from piece) = at ≡ beside
IsFill beside (Sync at) = at ≡ beside
IsFill beside call = ⊥

fill_keeps : (beside : List ℕ) → is_root beside ≡ false → (call : Call) → IsFill beside call
    → KeepsFile call beside
fill_keeps beside no_root (Create at) is =
    subst (λ (p : List ℕ). KeepsFile (Create p) beside) (sym is) (created_file beside no_root)
fill_keeps beside no_root (WriteAt at from piece) is =
    file_left (WriteAt at from piece) beside (written_leaves at from piece beside)
fill_keeps beside no_root (Sync at) is = file_left (Sync at) beside (synced_leaves at beside)
fill_keeps beside no_root (ListDir dir) is = absurd is
fill_keeps beside no_root (StatPath at) is = absurd is
fill_keeps beside no_root (ReadFront at size) is = absurd is
fill_keeps beside no_root (ReadAll at limit) is = absurd is
fill_keeps beside no_root (Cut at size) is = absurd is
fill_keeps beside no_root (Rename from to) is = absurd is
fill_keeps beside no_root (Remove at) is = absurd is
fill_keeps beside no_root (SyncDir dir) is = absurd is
fill_keeps beside no_root (MakeDir dir) is = absurd is

put_leaves : (beside place new cur q : List ℕ) → (beside ≡ q → ⊥) → (place ≡ q → ⊥)
    → (call : Call) → IsPut beside place new cur call → Leaves call q
put_leaves beside place new cur q one other (Create at) is =
    created_leaves at q (λ same. one (sym is ∙ same))
put_leaves beside place new cur q one other (WriteAt at from piece) is =
    written_leaves at from piece q
put_leaves beside place new cur q one other (Sync at) is = synced_leaves at q
put_leaves beside place new cur q one other (Rename from to) is =
    moved_leaves from to q (λ same. one (sym is.0 ∙ same)) (λ same. other (sym is.1 ∙ same))
put_leaves beside place new cur q one other (SyncDir dir) is = kept_leaves dir q
put_leaves beside place new cur q one other (ListDir dir) is = absurd is
put_leaves beside place new cur q one other (StatPath at) is = absurd is
put_leaves beside place new cur q one other (ReadFront at size) is = absurd is
put_leaves beside place new cur q one other (ReadAll at limit) is = absurd is
put_leaves beside place new cur q one other (Cut at size) is = absurd is
put_leaves beside place new cur q one other (Remove at) is = absurd is
put_leaves beside place new cur q one other (MakeDir dir) is = absurd is

fill_leaves : (beside q : List ℕ) → (beside ≡ q → ⊥) → (call : Call) → IsFill beside call
    → Leaves call q
fill_leaves beside q one (Create at) is = created_leaves at q (λ same. one (sym is ∙ same))
fill_leaves beside q one (WriteAt at from piece) is = written_leaves at from piece q
fill_leaves beside q one (Sync at) is = synced_leaves at q
fill_leaves beside q one (ListDir dir) is = absurd is
fill_leaves beside q one (StatPath at) is = absurd is
fill_leaves beside q one (ReadFront at size) is = absurd is
fill_leaves beside q one (ReadAll at limit) is = absurd is
fill_leaves beside q one (Cut at size) is = absurd is
fill_leaves beside q one (Rename from to) is = absurd is
fill_leaves beside q one (Remove at) is = absurd is
fill_leaves beside q one (SyncDir dir) is = absurd is
fill_leaves beside q one (MakeDir dir) is = absurd is

-- the calls of one that was done
pub one_called : (Is : Call → Type 0) {A : Type 0} {result : Result A DiskError} {call : Call}
    {wanted : List TreeNode → Result A DiskError} {a b : Option Past} → Is call
    → Called result call wanted a b → GoesOn (GoesBy Is) a b
one_called Is {result = result} {call = call} {wanted = wanted} {a = a} {b = b} is took =
    calls_one Is result call wanted a b is took.goes

-- a refusal that is handed on
put_if : (Needs : Call → Type 0) (result : Result (Unit {0}) DiskError) (why : DiskError)
    (old new : Option Past) → IsErrAnd result (λ e. e ≡ why)
    → IsBetween (RefusedFor Needs (refused_by why)) old new
    → IfErr result (λ e. IsBetween (RefusedFor Needs (refused_by e)) old new)
put_if Needs (Ok done) why old new is cause = tt
put_if Needs (Err e) why old new is cause =
    subst (λ (w : DiskError). IsBetween (RefusedFor Needs (refused_by w)) old new) (sym is) cause

module _ (beside place new cur : List ℕ) (apart : AreApart beside place new cur) where
  abbrev puts : Call → Type 0
  puts call = IsPut beside place new cur call

  not_folder : beside ≡ folder_of place → ⊥
  not_folder same = by apart.folder
    where
      by : (folder_of place ≡ new) ⊎ (folder_of place ≡ cur) → ⊥
      by (inl is) = apart.beside_new (same ∙ is)
      by (inr is) = apart.beside_cur (same ∙ is)

  -- a call that was refused behind calls that do not bring that about
  traced_call : (Is : Call → Type 0) (call : Call) (why : DiskError) (a b c : Option Past)
      → IsUnmade Is (refuses call) → puts call → GoesOn (GoesBy Is) a b
      → GoesOn (StepBy {A = Unit {0}} (Err why) call (done_by call)) b c
      → IsBetween (RefusedFor puts (refused_by why)) a c
  traced_call Is call why a b c unmade needs calls step =
      for_earlier Is (λ other. other ≡ call) puts (refused_by why) a b c
      (λ other is. subst (λ (x : Call). IsUnmade Is (refuses x)) (sym is) unmade)
      (λ other is. subst puts (sym is) needs) calls
      (calls_grow (λ other. other ≡ call) b c (calls_one (λ other. other ≡ call) (Err why) call
      (done_by call) b c refl step))
      (call_for (λ other. other ≡ call) (λ tree. tt {0}) why call (refused_by why) b c refl refl
      step)

  pub begun_for : (at : List ℕ) (why : DiskError) (result : Result (Unit {0}) DiskError)
      (a b : Option Past) → at ≡ beside → IsErrAnd result (λ e. e ≡ why)
      → GoesOn (StepBy {A = Unit {0}} (Err why) (Create at) (done_by (Create at))) a b
      → IfErr result (λ e. IsBetween (RefusedFor puts (refused_by e)) a b)
  begun_for at why result a b same is step =
      put_if puts result why a b is
      (call_for puts (λ tree. tt {0}) why (Create at) (refused_by why) a b same refl step)

  file_still : (at : List ℕ) → at ≡ beside → (call : Call) → IsFill beside call
      → KeepsFile call at
  file_still at same call is =
      subst (KeepsFile call) (sym same) (fill_keeps beside apart.no_root call is)

  pub written_for : (at text : List ℕ) (from : ℕ) (why : DiskError)
      (result : Result (Unit {0}) DiskError) (a b c : Option Past) → at ≡ beside
      → IsErrAnd result (λ e. e ≡ why) → GoesOn (GoesBy (IsFill beside)) a b
      → GoesOn (StepBy {A = Unit {0}} (Err why) (WriteAt at from text)
      (done_by (WriteAt at from text))) b c
      → IfErr result (λ e. IsBetween (RefusedFor puts (refused_by e)) a c)
  written_for at text from why result a b c same is calls step =
      put_if puts result why a c is (traced_call (IsFill beside) (WriteAt at from text) why a b c
      (λ call answer state fill not. file_unmade call at (file_still at same call fill) answer state
      not) same calls step)

  pub synced_for : (at : List ℕ) (why : DiskError) (result : Result (Unit {0}) DiskError)
      (a b c : Option Past) → at ≡ beside → IsErrAnd result (λ e. e ≡ why)
      → GoesOn (GoesBy (IsFill beside)) a b
      → GoesOn (StepBy {A = Unit {0}} (Err why) (Sync at) (done_by (Sync at))) b c
      → IfErr result (λ e. IsBetween (RefusedFor puts (refused_by e)) a c)
  synced_for at why result a b c same is calls step =
      put_if puts result why a c is (traced_call (IsFill beside) (Sync at) why a b c
      (λ call answer state fill not. file_unmade call at (file_still at same call fill) answer state
      not) same calls step)

  pub moved_for : (at to : List ℕ) (why : DiskError) (result : Result (Unit {0}) DiskError)
      (a b c : Option Past) → at ≡ beside → to ≡ place → IsErrAnd result (λ e. e ≡ why)
      → GoesOn (GoesBy (IsFill beside)) a b
      → GoesOn (StepBy {A = Unit {0}} (Err why) (Rename at to) (done_by (Rename at to))) b c
      → IfErr result (λ e. IsBetween (RefusedFor puts (refused_by e)) a c)
  moved_for at to why result a b c same goes is calls step =
      put_if puts result why a c is (traced_call (IsFill beside) (Rename at to) why a b c
      (λ call answer state fill not. rename_unmade call at to (file_still at same call fill)
      (folder_left call (folder_of to) (fill_leaves beside (folder_of to)
      (λ e. not_folder (e ∙ ap folder_of goes)) call fill))
      (fill_leaves beside to (λ e. apart.other_place (e ∙ goes)) call fill) answer state not)
      (same, goes) calls step)

  dir_apart : (dir : List ℕ) → (dir ≡ new) ⊎ (dir ≡ cur)
      → (beside ≡ dir → ⊥) × (place ≡ dir → ⊥)
  dir_apart dir (inl is) = (λ e. apart.beside_new (e ∙ is), λ e. apart.place_new (e ∙ is))
  dir_apart dir (inr is) = (λ e. apart.beside_cur (e ∙ is), λ e. apart.place_cur (e ∙ is))

  kept_by : (dir : List ℕ) (why : DiskError) (a b c : Option Past)
      → (dir ≡ new) ⊎ (dir ≡ cur) → GoesOn (GoesBy puts) a b
      → GoesOn (StepBy {A = Unit {0}} (Err why) (SyncDir dir) (done_by (SyncDir dir))) b c
      → IsBetween (RefusedFor puts (refused_by why)) a c
  kept_by dir why a b c one calls step =
      traced_call puts (SyncDir dir) why a b c
      (λ call answer state put not. folder_unmade call dir (folder_left call dir
      (put_leaves beside place new cur dir (dir_apart dir one).0 (dir_apart dir one).1 call put))
      answer state not) one calls step

  pub kept_for : (dir : List ℕ) (why : DiskError) (result : Result (Unit {0}) DiskError)
      (a b c : Option Past) → (dir ≡ new) ⊎ (dir ≡ cur) → IsErrAnd result (λ e. e ≡ why)
      → GoesOn (GoesBy puts) a b
      → GoesOn (StepBy {A = Unit {0}} (Err why) (SyncDir dir) (done_by (SyncDir dir))) b c
      → IfErr result (λ e. IsBetween (RefusedFor puts (refused_by e)) a c)
  kept_for dir why result a b c one is calls step =
      put_if puts result why a c is (kept_by dir why a b c one calls step)

  pub last_for : (dir : List ℕ) (result : Result (Unit {0}) DiskError) (a b c : Option Past)
      → (dir ≡ new) ⊎ (dir ≡ cur) → GoesOn (GoesBy puts) a b
      → GoesOn (StepBy {A = Unit {0}} result (SyncDir dir) (done_by (SyncDir dir))) b c
      → IfErr result (λ e. IsBetween (RefusedFor puts (refused_by e)) a c)
  last_for dir (Ok done) a b c one calls step = tt
  last_for dir (Err why) a b c one calls step = kept_by dir why a b c one calls step
