-- A message that is added to a mailbox, and the mailbox behind it.
use Rattle.std.specs.Prelude.{◌≡◌, ℕ, true, List, [], ◌∷◌, ◌++◌, map}
use Rattle.bstr.specs.Text.{lines_of}
use Rattle.mail_base.specs.Flags.{stored}
use Rattle.mail_base.specs.declared.kind.Kind.TheVariants.{Mbox}
use Rattle.folder_core.specs.Mbox as mbox
use Rattle.folder_core.specs.Mbox.{begins_mailbox, core, raw_messages, status}
use Rattle.folder_changes.specs.declared.item.Item.{Item}
use Rattle.folder_drivers.specs.MboxFeeds.{end_empty, feeds_before}
use Rattle.folder_drivers.specs.MboxRegion.{appended, item_region, saved}

-- the bytes are one message, which ends with an empty line and tells what the item does
pub record IsOneMessage (item : Item) (region : List ℕ) : Type 0 where
  pub begins : begins_mailbox region ≡ true
  pub ends : end_empty (lines_of region) ≡ true
  pub messages : raw_messages region ≡ region ∷ []
  pub core : mbox.core region ≡ saved item
  pub status : mbox.status region ≡ stored Mbox item.flags
  pub received : mbox.received region ≡ item.moment

-- messages of which the last has more at its end
abbrev pub with_more : List ℕ → List (List ℕ) → List (List ℕ)
with_more more [] = []
with_more more (raw ∷ []) = (raw ++ more) ∷ []
with_more more (raw ∷ next ∷ raws) = raw ∷ with_more more (next ∷ raws)

-- The mailbox has one message more, and nothing has to go in front of the next. All others stay,
-- but for LF at the end of the last, and have the same cores and flags.
pub record HasOneMore (bytes : List ℕ) (item : Item) : Type 0 where
  pub begins : begins_mailbox (appended bytes item) ≡ true
  pub ready : feeds_before (appended bytes item) ≡ []
  pub messages : raw_messages (appended bytes item)
      ≡ with_more (feeds_before bytes) (raw_messages bytes) ++ item_region item ∷ []
  pub cores : map core (raw_messages (appended bytes item))
      ≡ map core (raw_messages bytes) ++ saved item ∷ []
  pub statuses : map status (raw_messages (appended bytes item))
      ≡ map status (raw_messages bytes) ++ stored Mbox item.flags ∷ []

-- so it is with each mailbox
abbrev pub AppendedMailboxesRead : Type 0
AppendedMailboxesRead = (bytes : List ℕ) (item : Item) → begins_mailbox bytes ≡ true
    → HasOneMore bytes item
