-- What the directories that an append makes do not bring about.
use Rattle.std.proofs.Common.{◌≡◌, ◌∙◌, ℕ, Bool, true, false, List, ap, codes, inl}
use Rattle.std.proofs.Common.{inr, length, refl, sym, ◌≤◌, ◌∷◌, [], ◌++◌}
use Rattle.std.proofs.Common.{arith, if◌then◌else◌, length-append}
use Rattle.std.proofs.lemmas.Bool.{and_parts}
use Rattle.disk_model.specs.Journal.{Call, MakeDir, Own}
use Rattle.disk_model.specs.State.{after_entry, tree_of}
use Rattle.disk_model.specs.Tree.{folder_of, is_root}
use Rattle.folder_core.specs.Directory.{path_in}
use Rattle.folder_core.specs.Maildir.{directory}
use Rattle.folder_core.proofs.NamesIn.{path_is_in}
use Rattle.folder_changes.proofs.TraceLemmas.{IsUnmade}
use Rattle.folder_drivers.specs.MaildirAppend.{IsBase, beside_at, is_there}
use Rattle.maildir_appends.specs.Causes.{IsMakeIn}
use Rattle.maildir_appends.proofs.Naming.{base_shown}
use Rattle.folder_drivers.proofs.NodeLemmas.{made_leaves, there_unmade}

-- the path of a directory in a folder is longer than that of the folder
pub tmp_long : (path : List ℕ) → path_in path (codes "tmp") ≡ path → ⊥
tmp_long path same = by (is_root path) refl
  where
    long : (front : List ℕ) → length path ≤ length front → front ++ codes "tmp" ≡ path → ⊥
    long front low is =
        omega (arith, low, ap length is, length-append front (codes "tmp"))

    by : (root : Bool) → is_root path ≡ root → ⊥
    by true is = long path (omega arith)
        (ap (λ (b : Bool). (if b then path else path ++ 47 ∷ []) ++ codes "tmp") (sym is) ∙ same)
    by false is = long (path ++ 47 ∷ []) (omega (arith, length-append path (47 ∷ [])))
        (ap (λ (b : Bool). (if b then path else path ++ 47 ∷ []) ++ codes "tmp") (sym is) ∙ same)

-- a file in `tmp` stands in neither directory's place
pub beside_in : (path base : List ℕ) → IsBase base
    → folder_of (beside_at path base) ≡ path_in path (codes "tmp")
beside_in path base is =
    (path_is_in (path_in path (codes "tmp")) base (and_parts _ _ (base_shown base is)).0).folder

pub new_not_beside : (path base : List ℕ) → IsBase base → directory false path ≡ beside_at path base
    → ⊥
new_not_beside path base is same =
    tmp_long path (sym (beside_in path base is) ∙ ap folder_of (sym same)
    ∙ (path_is_in path (codes "new") refl).folder)

pub tmp_not_beside : (path base : List ℕ) → IsBase base
    → path_in path (codes "tmp") ≡ beside_at path base → ⊥
tmp_not_beside path base is same =
    tmp_long path (sym (beside_in path base is) ∙ ap folder_of (sym same)
    ∙ (path_is_in path (codes "tmp") refl).folder)

-- so the file of a base in `tmp` is made by neither
pub beside_unmade : (path base : List ℕ) → IsBase base
    → IsUnmade (IsMakeIn path) (is_there (beside_at path base))
beside_unmade path base is call answer state (inl new) free =
    ap (λ (c : Call). is_there (beside_at path base) (tree_of (after_entry state (Own c answer))))
    new
    ∙ there_unmade (MakeDir (directory false path)) (beside_at path base)
    (made_leaves (directory false path) (beside_at path base) (new_not_beside path base is)) answer
    state free
beside_unmade path base is call answer state (inr tmp) free =
    ap (λ (c : Call). is_there (beside_at path base) (tree_of (after_entry state (Own c answer))))
    tmp
    ∙ there_unmade (MakeDir (path_in path (codes "tmp"))) (beside_at path base)
    (made_leaves (path_in path (codes "tmp")) (beside_at path base) (tmp_not_beside path base is))
    answer state free
