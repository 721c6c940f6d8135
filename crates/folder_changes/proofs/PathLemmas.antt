-- Paths of the files of a Maildir.
use Rattle.std.proofs.Common.{◌≡◌, ◌<◌, ◌≤◌, ◌+◌, ℕ, Bool, true, false, List, [], ◌∷◌, ◌++◌, length}
use Rattle.std.proofs.Common.{refl, sym, ◌∙◌, ap, arith, if◌then◌else◌, length-append}
use Rattle.std.proofs.Common.{ltb-true}
use Rattle.std.proofs.lemmas.Bool.{and_parts}
use Rattle.std.proofs.lemmas.Slice.Eq.{bytes_eq-Decides}
use Rattle.std.specs.Prelude.{codes}
use Rattle.std.specs.Str.{bytes_eq}
use Rattle.disk_model.specs.Names.{name_of}
use Rattle.disk_model.specs.Tree.{folder_of, is_root}
use Rattle.folder_core.specs.Directory.{front_of, is_name, path_in}
use Rattle.folder_core.specs.Maildir.{MaildirFile, directory, is_shown, path_of}
use Rattle.folder_core.proofs.NamesIn.{IsIn, path_is_in}

-- a path in a directory is longer than that of the directory
front_long : (dir : List ℕ) → length dir ≤ length (front_of dir)
front_long dir = by (is_root dir)
  where
    by : (b : Bool) → length dir ≤ length (if b then dir else dir ++ 47 ∷ [])
    by true = omega arith
    by false = omega (arith, length-append dir (47 ∷ []))

in_long : (dir name : List ℕ) → length dir + length name ≤ length (path_in dir name)
in_long dir name = omega (arith, front_long dir, length-append (front_of dir) name)

directory_name : (in_cur : Bool) → is_name (if in_cur then codes "cur" else codes "new") ≡ true
directory_name true = refl
directory_name false = refl

directory_in : (in_cur : Bool) (path : List ℕ)
    → IsIn path (if in_cur then codes "cur" else codes "new") (directory in_cur path)
directory_in in_cur path =
    path_is_in path (if in_cur then codes "cur" else codes "new") (directory_name in_cur)

directory_long : (in_cur : Bool) (path : List ℕ)
    → length path < length (directory in_cur path)
directory_long true path = omega (arith, in_long path (codes "cur"))
directory_long false path = omega (arith, in_long path (codes "new"))

shown_name : (name : List ℕ) → is_shown name ≡ true → is_name name ≡ true
shown_name name shown = (and_parts _ _ shown).0

name_long : (name : List ℕ) → is_name name ≡ true → 0 < length name
name_long name named = ltb-true 0 (length name) (and_parts _ _ named).0

file_in : (path : List ℕ) (file : MaildirFile) → is_shown file.name ≡ true
    → IsIn (directory file.in_cur path) file.name (path_of path file)
file_in path file shown =
    path_is_in (directory file.in_cur path) file.name (shown_name file.name shown)

-- the path of a file is none of a root
pub path_no_root : (path : List ℕ) (file : MaildirFile) → is_shown file.name ≡ true
    → is_root (path_of path file) ≡ false
path_no_root path file shown = (file_in path file shown).no_root

cur_new : codes "cur" ≡ codes "new" → ⊥
cur_new same = true_false (sym ((bytes_eq-Decides (codes "cur") (codes "new")).1 same) ∙ other)
  where
    true_false : ◌≡◌ {A = Bool} true false → ⊥
    true_false e = cc

    other : bytes_eq (codes "cur") (codes "new") ≡ false
    other = refl

same_directory : (path : List ℕ) (a b : Bool) → directory a path ≡ directory b path → a ≡ b
same_directory path true true same = refl
same_directory path false false same = refl
same_directory path true false same = absurd (cur_new
    (sym (directory_in true path).name_is ∙ ap name_of same ∙ (directory_in false path).name_is))
same_directory path false true same = absurd (cur_new
    (sym (directory_in true path).name_is ∙ ap name_of (sym same)
    ∙ (directory_in false path).name_is))

-- files with one path are one
pub path_once : (path : List ℕ) (a b : MaildirFile) → is_shown a.name ≡ true
    → is_shown b.name ≡ true → path_of path a ≡ path_of path b → a ≡ b
path_once path a b shown_a shown_b same =
    let in_a = file_in path a shown_a in
    let in_b = file_in path b shown_b in
    let name : a.name ≡ b.name = sym in_a.name_is ∙ ap name_of same ∙ in_b.name_is in
    let cur : a.in_cur ≡ b.in_cur = same_directory path a.in_cur b.in_cur
    (sym in_a.folder ∙ ap folder_of same ∙ in_b.folder) in
    λ i. record { in_cur = cur i; name = name i }

-- the path of a file is not that of the folder
pub path_no_folder : (path : List ℕ) (file : MaildirFile) → is_shown file.name ≡ true
    → path_of path file ≡ path → ⊥
path_no_folder path file shown same =
    let longer = in_long (directory file.in_cur path) file.name in
    let one = name_long file.name (shown_name file.name shown) in
    omega (arith, longer, one, directory_long file.in_cur path, ap length same)

-- nor that of one of its directories
pub path_no_directory : (path : List ℕ) (file : MaildirFile) (in_cur : Bool)
    → is_shown file.name ≡ true → path_of path file ≡ directory in_cur path → ⊥
path_no_directory path file in_cur shown same =
    let above : directory file.in_cur path ≡ path =
    sym (file_in path file shown).folder ∙ ap folder_of same ∙ (directory_in in_cur path).folder in
    omega (arith, directory_long file.in_cur path, ap length above)

-- a directory of a folder is not the folder
pub directory_no_folder : (in_cur : Bool) (path : List ℕ) → directory in_cur path ≡ path → ⊥
directory_no_folder in_cur path same = omega (arith, directory_long in_cur path, ap length same)

-- and the two directories are not one
pub directories_differ : (path : List ℕ) → directory false path ≡ directory true path → ⊥
directories_differ path same = new_cur (same_directory path false true same)
  where
    new_cur : ◌≡◌ {A = Bool} false true → ⊥
    new_cur e = cc
