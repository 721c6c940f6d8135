-- Bases that a message that is added may not have.
use Rattle.std.specs.Prelude.{ℕ, Bool, List, map}
use Rattle.folder_letters.specs.Letters.{plain_letter}
use Rattle.folder_letters.specs.declared.letter.Letter.{Letter}
use Rattle.folder_drivers.specs.MetNames.{plain_names}
use Rattle.folder_drivers.specs.MaildirAppend.{is_taken as is_taken_by, keys_of}
use Rattle.maildir_appends.specs.declared.listing.Present.{Present}

-- the keys of letters
abbrev pub letter_keys : List Letter → List (List ℕ)
letter_keys letters = keys_of (map plain_letter letters)

-- a name in one of the directories has the base, or a letter has it as its key
abbrev pub is_taken : Present → List Letter → List ℕ → Bool
is_taken present letters base =
    is_taken_by (plain_names present.cur) (plain_names present.new) (plain_names present.tmp)
    (letter_keys letters) base
