-- What reading the messages of a folder costs.
use Rattle.std.specs.Prelude.{◌≡◌, ◌≤◌, ◌+◌, ℕ, List, [], ◌∷◌, Option, Some, None, drop, length}
use Rattle.folder_letters.specs.Letters.{Mail}

-- where the number of bytes read is told, it stays told and rises by no more than this
abbrev pub RaisesAtMost : Option ℕ → Option ℕ → ℕ → Type 0
RaisesAtMost None new most = new ≡ None
RaisesAtMost (Some old) None most = ⊥
RaisesAtMost (Some old) (Some new) most = new ≤ old + most

-- the cores of letters together
abbrev pub cores_together : List Mail → ℕ
cores_together [] = 0
cores_together (mail ∷ mails) = length mail.core + cores_together mails

-- the letters behind those of an archive
abbrev pub letters_behind : List Mail → List Mail → List Mail
letters_behind archive new_archive = drop (length archive) new_archive
