-- The listed messages with their letters.
use Rattle.std.specs.Prelude.{List}
use Rattle.folder_letters.specs.Letters.{Mail}
use Rattle.index_items.specs.Items.{PlainItem, ids_of}
use Rattle.index_listed.specs.Listed.{PlainListed, all_listed as with_letters}

-- the messages with the letters of their ids
abbrev pub all_listed : List Mail → List PlainItem → List PlainListed
all_listed mails items = with_letters mails (ids_of items)
