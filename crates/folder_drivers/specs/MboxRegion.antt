-- What a message that is added is in a mailbox (mbox(5)).
use Rattle.std.specs.Prelude.{ℕ, ℤ, Bool, false, ◌&&◌, List, [], ◌∷◌, ◌++◌, codes}
use Rattle.std.specs.Prelude.{if◌then◌else◌}
use Rattle.std.specs.List.{concat}
use Rattle.bstr.specs.Text.{lines_of}
use Rattle.mail_base.specs.Flags.{stored}
use Rattle.mail_base.specs.declared.kind.Kind.TheVariants.{Mbox}
use Rattle.mail_base.specs.Lines.{is_empty_line}
use Rattle.folder_core.specs.Mbox as mbox
use Rattle.folder_core.specs.Mbox.{is_postmark, with_feed}
use Rattle.folder_changes.specs.declared.item.Item.{Item}
use Rattle.mbox_text.specs.WithStatus.{with_status}
use Rattle.folder_drivers.specs.MboxFeeds.{feeds_before}
use Rattle.folder_drivers.specs.MboxPostmark.{postmark_line}

-- a line with the LF that it may lack, and with `>` in front where it would begin a message
abbrev pub quoted_line : Bool → List ℕ → List ℕ
quoted_line begins line = if begins then 62 ∷ with_feed line else with_feed line

-- lines of a text, each so; `empty` tells of the line before them
abbrev pub quoted : Bool → List (List ℕ) → List (List ℕ)
quoted empty [] = []
quoted empty (line ∷ lines) =
    quoted_line (empty && is_postmark line) line ∷ quoted (is_empty_line line) lines

-- a text behind a postmark
abbrev pub quoted_text : List ℕ → List ℕ
quoted_text text = concat (quoted false (lines_of text))

-- a message without its flags: its postmark, its text, and the empty line that ends it
unfoldable pub plain_region : List ℕ → ℤ → List ℕ → List ℕ
plain_region address moment text =
    (postmark_line address moment ++ quoted_text text) ++ codes "\n"

-- a message with its flags
unfoldable pub item_region : Item → List ℕ
item_region item =
    with_status (stored Mbox item.flags)
    (plain_region item.sender.items item.moment item.text.items)

-- the core of a message, which does not hang on its flags
abbrev pub saved : Item → List ℕ
saved item = mbox.core (plain_region item.sender.items item.moment item.text.items)

-- the bytes of a mailbox behind the addition
abbrev pub appended : List ℕ → Item → List ℕ
appended bytes item = bytes ++ (feeds_before bytes ++ item_region item)
