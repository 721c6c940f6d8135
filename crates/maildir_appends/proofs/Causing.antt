-- Why an append was refused.
use Rattle.std.proofs.Common.{◌≡◌, ◌∙◌, ℕ, Bool, true, false, List}
use Rattle.std.proofs.Common.{Option, ap, codes, inl, inr}
use Rattle.std.proofs.Common.{refl, subst, sym}
use Rattle.std.proofs.lemmas.Slice.Eq.{bytes_eq-Decides}
use Rattle.std.specs.Str.{bytes_eq}
use Rattle.disk_model.specs.Journal.{Call, MakeDir, Past}
use Rattle.disk_model.specs.Tree.{folder_of}
use Rattle.folder_core.specs.Directory.{path_in}
use Rattle.folder_core.specs.Maildir.{directory}
use Rattle.folder_core.proofs.NamesIn.{path_is_in}
use Rattle.folder_changes.specs.Refused.{IsBetween, refuses}
use Rattle.folder_changes.specs.declared.sync_error.SyncError.{SyncError}
use Rattle.folder_changes.specs.declared.sync_error.SyncError.TheVariants.{Changed, Fault, Locked}
use Rattle.folder_changes.specs.declared.sync_error.SyncError.TheVariants.{NoMemory, NotFolder}
use Rattle.folder_changes.specs.declared.sync_error.SyncError.TheVariants.{TooLarge, TooMany}
use Rattle.folder_changes.specs.declared.sync_error.SyncError.TheVariants.{Unfinished}
use Rattle.folder_changes.proofs.TraceLemmas.{IsUnmade, between_as}
use Rattle.folder_drivers.specs.MaildirAppend.{MaildirAppendRefused}
use Rattle.folder_drivers.proofs.Causing.{one_unmade}
use Rattle.folder_drivers.specs.Refusing.{IsAny, IsMake}
use Rattle.maildir_appends.specs.Causes.{IsListOrMake}
use Rattle.folder_drivers.specs.Refusing.{RefusedFor}
use Rattle.folder_drivers.proofs.NodeLemmas.{Unmakes, folder_unmade, made_keeps, made_leaves}
use Rattle.folder_drivers.proofs.NodeLemmas.{make_unmade}
use Rattle.disk_model.specs.Names.{name_of}

true_false : ◌≡◌ {A = Bool} true false → ⊥
true_false e = cc

-- a cause of any call is one of the whole
pub for_append : (path : List ℕ) (e : SyncError) (old new : Option Past)
    → IsBetween (RefusedFor IsAny e) old new → IsBetween (MaildirAppendRefused path e) old new
for_append path e old new cause =
    between_as (RefusedFor IsAny e) (MaildirAppendRefused path e) old new
    (λ m n past c. by e m n past c) cause
  where
    by : (e : SyncError) (m n : ℕ) (past : Past) → RefusedFor IsAny e m n past
        → MaildirAppendRefused path e m n past
    by (Changed spot) m n past c = absurd c
    by Locked m n past c = c
    by Unfinished m n past c = c
    by (TooMany count) m n past c = c
    by (TooLarge bytes) m n past c = c
    by Fault m n past c = tt
    by NoMemory m n past c = tt
    by NotFolder m n past c = c

-- The directories that are made.

new_tmp : (path : List ℕ) → directory false path ≡ path_in path (codes "tmp") → ⊥
new_tmp path same =
    true_false (sym ((bytes_eq-Decides (codes "new") (codes "tmp")).1
    (sym (path_is_in path (codes "new") refl).name_is ∙ ap name_of same
    ∙ (path_is_in path (codes "tmp") refl).name_is)) ∙ other)
  where
    other : bytes_eq (codes "new") (codes "tmp") ≡ false
    other = refl

-- that `new` was made is no cause for `tmp`
pub tmp_unmade : (path : List ℕ) (call : Call) → IsListOrMake (path_in path (codes "tmp")) call
    → IsUnmade (IsMake (directory false path)) (refuses call)
tmp_unmade path call needs =
    one_unmade (MakeDir (directory false path)) (refuses call) (by needs)
  where
    tmp : List ℕ
    tmp = path_in path (codes "tmp")

    by : IsListOrMake tmp call → Unmakes (MakeDir (directory false path)) (refuses call)
    by (inl is) = subst (λ (c : Call). Unmakes (MakeDir (directory false path)) (refuses c))
        (sym is) (folder_unmade (MakeDir (directory false path)) tmp
        (made_keeps (directory false path) tmp))
    by (inr is) = subst (λ (c : Call). Unmakes (MakeDir (directory false path)) (refuses c))
        (sym is) (make_unmade (MakeDir (directory false path)) tmp
        (made_keeps (directory false path) (folder_of tmp))
        (made_leaves (directory false path) tmp (new_tmp path)))
