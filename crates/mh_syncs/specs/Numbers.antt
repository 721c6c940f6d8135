-- The numbers of messages that change.
use Rattle.std.specs.Prelude.{◌≡◌, ◌∷◌, [], true, List}
use Rattle.index_items.specs.Changes.{Changed}
use Rattle.folder_letters.specs.Letters.{Mail}
use Rattle.folder_core.specs.Keeping.{mail_of}
use Rattle.folder_core.specs.Mh.{is_number}

-- the key of each message that changes is a number
abbrev pub AreNumbers : List Mail → List Changed → Type 0
AreNumbers mails [] = Unit {0}
AreNumbers mails (changed ∷ changes) =
    (is_number (mail_of mails changed.id.0).key ≡ true) × AreNumbers mails changes
