-- One file among the files of a disk.
use Rattle.std.proofs.Common.{◌≡◌, ◌<◌, ◌≤◌, ◌∷◌, [], ◌∙◌, ℕ, zero, suc, List, map, length, get_or}
use Rattle.std.proofs.Common.{slice_set, Result, Ok, Err, OnErr, refl, sym, ap, arith}
use Rattle.std.proofs.Math.ListN.{set}
use Rattle.std.proofs.Math.Seq.{map-set_same}
use Rattle.std.proofs.lemmas.List.{map-set, get_or-map}
use Rattle.disk_model.specs.State.{durable, file_at, File as PlainFile}
use Rattle.disk_state.specs.Plain.{plain_file}
use Rattle.disk_state.specs.declared.file.File.{File}

-- the file of a number that is there
file_at-map : (files : List File) (number : ℕ) (old : File) → number < length files
    → old ≡ get_or files number old
    → file_at (map plain_file files) number ≡ plain_file old
file_at-map files number old there is =
    get_or-map plain_file files number old (durable [] 0) there ∙ ap plain_file (sym is)

-- it is changed
pub files_changed : (files : List File) (number : ℕ) (old new : File)
    (change : PlainFile → PlainFile)
    → number < length files → old ≡ get_or files number old
    → plain_file new ≡ change (plain_file old)
    → map plain_file (set files number new)
    ≡ slice_set (map plain_file files) number (change (file_at (map plain_file files) number))
files_changed files number old new change there is changed =
    map-set plain_file files number new
    ∙ ap (λ (f : PlainFile). slice_set (map plain_file files) number f)
    (changed ∙ ap change (sym (file_at-map files number old there is)))

-- it stays as it was
pub files_same : (files : List File) (number : ℕ) (old new : File) → old ≡ get_or files number old
    → plain_file new ≡ plain_file old → map plain_file (set files number new) ≡ map plain_file files
files_same files number old new is same =
    map-set_same plain_file files number new old (same ∙ ap plain_file is)

-- what holds whatever the result holds where it is an error
pub OnErr-all : {A E : Type 0} (r : Result A E) (P : Type 0) → P → OnErr r P
OnErr-all (Ok value) P h = tt
OnErr-all (Err e) P h = h

-- a number past the files changes none
pub files_missing : (files : List File) (number : ℕ) (file : PlainFile) → length files ≤ number
    → map plain_file files ≡ slice_set (map plain_file files) number file
files_missing [] number file past = refl
files_missing (f ∷ files) zero file past = absurd (omega arith)
files_missing (f ∷ files) (suc number) file past =
    ap (λ (l : List PlainFile). plain_file f ∷ l) (files_missing files number file (omega arith))
