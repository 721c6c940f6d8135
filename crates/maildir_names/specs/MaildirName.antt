-- Names of the files of a folder (maildir(5)): a base, and behind the last `:2,` the letters.
use Rattle.std.specs.Prelude.{◌==◌, ◌&&◌, ℕ, zero, suc, Bool, not, nat_le, nat_lt}
use Rattle.std.specs.Prelude.{List, [], ◌∷◌, ◌++◌, length, codes, Option, Some, None}
use Rattle.std.specs.Prelude.{is_none, if◌then◌else◌}
use Rattle.std.specs.List.{filter}
use Rattle.std.specs.Str.{byte}
use Rattle.mail_base.specs.declared.flags.Flags.{Flags}
pub use Rattle.folder_core.specs.MaildirNames.{
  begins_dot,
  flags_of,
  has_letter,
  last_letters,
  mark,
  split_at_mark,
}
pub use Rattle.folder_core.specs.MaildirNames.{split_name}
use Rattle.maildir_names.specs.declared.maildir_name.MaildirName.{MaildirName}

-- what a name tells: the letters that stand for no flag are the others
pub record PlainName : Type 0 where
  pub base : List ℕ
  pub flags : Flags
  pub others : List ℕ

-- the name of a file as contracts see it
abbrev pub plain_name : MaildirName → PlainName
plain_name n = record { base = n.base.items; flags = n.flags; others = n.others.items }

-- a letter that stands for no flag
abbrev pub is_other : ℕ → Bool
is_other letter = not (has_letter (codes "DFPRST") letter)

-- a name that was cut at its mark
abbrev pub parts_read : Bool → List ℕ × List ℕ → PlainName
parts_read in_cur parts =
    record { base = parts.0; flags = flags_of in_cur parts.1; others = filter is_other parts.1 }

-- what a name tells, if it does not begin with a dot
abbrev pub name_read : Bool → List ℕ → Option PlainName
name_read in_cur name =
    if begins_dot name then None else Some (parts_read in_cur (split_name name))

-- a letter, where its flag is set
abbrev pub letter_if : Bool → ℕ → List ℕ
letter_if is_set letter = if is_set then letter ∷ [] else []

-- the letters of flags, and the others
abbrev pub all_letters : Flags → List ℕ → List ℕ
all_letters flags others =
    letter_if flags.draft (byte "D") ++ letter_if flags.flagged (byte "F")
    ++ letter_if flags.passed (byte "P") ++ letter_if flags.replied (byte "R")
    ++ letter_if flags.seen (byte "S") ++ letter_if flags.trashed (byte "T") ++ others

-- those of the letters that are below a number, in their order, each once
unfoldable pub letters_below : ℕ → List ℕ → List ℕ
letters_below zero letters = []
letters_below (suc n) letters = letters_below n letters ++ letter_if (has_letter letters n) n

-- not ASCII
abbrev pub is_beyond : ℕ → Bool
is_beyond b = nat_le 128 b

-- the ASCII letters in their order, each once, and then what is not ASCII, as it stands
abbrev pub in_order : List ℕ → List ℕ
in_order letters = letters_below 128 letters ++ filter is_beyond letters

-- the base alone is read as itself, and is the name of a file
abbrev pub is_whole_name : List ℕ → Bool
is_whole_name base = nat_lt 0 (length base) && is_none (last_letters base)

-- messages that are neither seen nor aged stand in `new`
abbrev pub is_new : Flags → Bool
is_new flags = not flags.seen && not flags.aged

-- there are no letters
abbrev pub no_letters : List ℕ → Bool
no_letters letters = length letters == 0

-- the name of a base with flags and letters
abbrev pub name_with : List ℕ → Flags → List ℕ → List ℕ
name_with base flags letters =
    if is_new flags && no_letters letters && is_whole_name base then base
    else base ++ mark ++ in_order letters

-- the name: the base, the mark and all letters; in `new` without letters the base alone
abbrev pub name_of : PlainName → List ℕ
name_of n = name_with n.base n.flags (all_letters n.flags n.others)
