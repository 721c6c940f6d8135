-- The file of a message, by its base.
use Rattle.std.specs.Prelude.{ℕ, List, Option, Some, None, if◌then◌else◌}
use Rattle.std.specs.List.{find}
use Rattle.std.specs.Ordering.{is_lt, nat_cmp, ordering_then}
use Rattle.std.specs.Prelude.{Bool}
use Rattle.std.specs.Cmp.Lexicographic.{slice_cmp}
use Rattle.std.specs.Str.{bytes_eq}
use Rattle.folder_core.specs.Maildir.{MaildirFile, base_of}
use Rattle.maildir_folder.specs.declared.candidates.Candidate.{Candidate}

-- the first of these files with a base
abbrev pub file_named : List MaildirFile → List ℕ → Option MaildirFile
file_named files base = find (λ file. bytes_eq (base_of file) base) files

-- For the code alone.

-- a file, where it has this base
abbrev pub file_if : List ℕ → Option Candidate → Option Candidate
file_if base None = None
file_if base (Some file) = if bytes_eq file.base.items base then Some file else None

-- the base of a file stands before one with this number
abbrev pub is_before : Candidate → ℕ → List ℕ → Bool
is_before file order base =
    is_lt (ordering_then (nat_cmp file.order order) (slice_cmp nat_cmp file.base.items base))
