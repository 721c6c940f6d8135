-- The files of a folder that may be messages, in the order of their messages.
use Rattle.std.specs.Prelude.{◌≡◌, ℕ, true, false, not, List, [], ◌∷◌, ◌++◌, Option, Some, None}
use Rattle.std.specs.Prelude.{map}
use Rattle.std.specs.Ordering.{is_lt}
use Rattle.std.specs.Str.{IsUtf8}
use Rattle.std.specs.List.{All}
use Rattle.folder_core.specs.Maildir.{MaildirFile, base_of, comes_before, files_in, is_shown}
use Rattle.folder_core.specs.MaildirNames.{order_of}
use Rattle.mail_base.specs.Ordered.{in_order_by}
use Rattle.folder_shapes.specs.Maildir.{base_cmp}
use Rattle.maildir_folder.specs.declared.candidates.Candidate.{Candidate}

-- a candidate by its directory and its name
abbrev pub plain_file : Candidate → MaildirFile
plain_file c = record { in_cur = not c.is_new; name = c.name.items }

-- order and base are those of the name, which is text that a message may have as its name
pub record IsCandidate (c : Candidate) : Type 0 where
  pub order : c.order ≡ order_of (base_of (plain_file c))
  pub base : c.base.items ≡ base_of (plain_file c)
  pub text : IsUtf8 c.name.items
  pub shown : is_shown c.name.items ≡ true

-- a base does not stand before another one, where there is one
abbrev pub NotBefore : Option (List ℕ) → List ℕ → Type 0
NotBefore None base = Unit {0}
NotBefore (Some last) base = is_lt (base_cmp base last) ≡ false

-- no base stands before the one in front of it, nor the first before this one
abbrev pub Rises : Option (List ℕ) → List MaildirFile → Type 0
Rises last [] = Unit {0}
Rises last (file ∷ files) = NotBefore last (base_of file) × Rises (Some (base_of file)) files

-- The files with these names in `cur` and in `new`, in order.
pub record AreInOrder (cur new : List (List ℕ)) (files : List Candidate) : Type 0 where
  pub each : All IsCandidate files
  pub rises : Rises None (map plain_file files)
  pub sorted : map plain_file files
      ≡ in_order_by comes_before (files_in true cur ++ files_in false new)
