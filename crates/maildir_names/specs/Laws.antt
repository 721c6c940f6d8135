-- Laws of the names of files.
use Rattle.std.specs.Prelude.{◌≡◌}
use Rattle.maildir_names.specs.MaildirName.{PlainName, all_letters, in_order, name_of, split_name}

-- the base of a name that is made is read back, and its letters are those of the flags and the
-- others, in order
abbrev pub MadeIsSplit : Type 0
MadeIsSplit =
    (n : PlainName)
    → split_name (name_of n) ≡ (n.base, in_order (all_letters n.flags n.others))
