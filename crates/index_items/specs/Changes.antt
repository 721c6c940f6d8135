-- What a sync is to do, and what it leaves of the listed messages.
use Rattle.std.specs.Prelude.{◌≡◌, ◌<◌, ◌&&◌, ◌∷◌, [], ℕ, Bool, List, map}
use Rattle.std.specs.Prelude.{Option, Some, None, option_map, slice_index_or, if◌then◌else◌}
use Rattle.std.specs.List.{All, flat_map}
use Rattle.std.specs.Bool.{beq}
use Rattle.mail_base.specs.Flags.{applied, stored}
use Rattle.mail_base.specs.declared.flags.Flags.{Flags}
use Rattle.mail_base.specs.declared.kind.Id.{Id}
use Rattle.mail_base.specs.declared.kind.Kind.{Kind}
use Rattle.folder_letters.specs.declared.change.Change.{Change}
use Rattle.folder_letters.specs.declared.change.Change.TheVariants.{Alter, Discard}
use Rattle.folder_letters.specs.declared.change.Changed1.{Changed1}
use Rattle.index_items.specs.ById.{HasFirsts, first_of}
use Rattle.index_items.specs.Items.{PlainItem, shown_flags}
use Rattle.index_items.specs.Pending.{left_by}

-- what is to become of a message: flags are added and cleared, or it is taken away
pub data PlainChange : Type 0 where
  Alters : Flags → Flags → PlainChange
  Discards : PlainChange

-- a message, and what is to become of it
pub record Changed : Type 0 where
  pub id : Id
  pub change : PlainChange

-- both have the same flags
abbrev pub same_flags : Flags → Flags → Bool
same_flags f g =
    beq f.seen g.seen && (beq f.aged g.aged && (beq f.replied g.replied
    && (beq f.flagged g.flagged && (beq f.passed g.passed
    && (beq f.draft g.draft && beq f.trashed g.trashed)))))

-- what a sync is to do with a message: one that is marked deleted goes where that is wished, and
-- flags are written where the folder would hold others than it does
abbrev pub change_of : Kind → Bool → PlainItem → Option PlainChange
change_of kind purge i =
    if i.pending.deleted && purge then Some Discards
    else (if same_flags (stored kind (shown_flags i)) i.flags then None
    else Some (Alters i.pending.added i.pending.cleared))

-- a message and what is to become of it, if anything
abbrev pub changed_item : PlainItem → Option PlainChange → List Changed
changed_item i None = []
changed_item i (Some change) = record { id = i.id; change = change } ∷ []

-- what a sync is to do, message by message
abbrev pub changes_of : Kind → Bool → List PlainItem → List Changed
changes_of kind purge items = flat_map (λ i. changed_item i (change_of kind purge i)) items

-- what becomes of the message with this number, the first that is said of it
abbrev pub change_for : List Changed → ℕ → Option PlainChange
change_for changes number = first_of (λ c. c.id.0) (λ c. c.change) changes number

-- a message once its folder holds these flags
abbrev pub holding : Flags → PlainItem → PlainItem
holding held i = record i { flags = held; pending = left_by held i.pending }

-- what a sync leaves of a message
abbrev pub settled_item : Kind → PlainItem → Option PlainChange → List PlainItem
settled_item kind i None = i ∷ []
settled_item kind i (Some (Alters added cleared)) =
    holding (stored kind (applied i.flags added cleared)) i ∷ []
settled_item kind i (Some Discards) = []

-- what a sync leaves of the messages
abbrev pub settled : Kind → List Changed → List PlainItem → List PlainItem
settled kind changes items =
    flat_map (λ i. settled_item kind i (change_for changes i.id.0)) items

-- For the code alone.

-- what is to become of a message, as contracts see it
abbrev pub plain_change : Change → PlainChange
plain_change (Alter delta) = Alters delta.added delta.cleared
plain_change Discard = Discards

-- a change as contracts see it
abbrev pub plain_changed : Changed1 → Changed
plain_changed c = record { id = c.id; change = plain_change c.change }

-- changes as contracts see them
abbrev pub plain_changes : List Changed1 → List Changed
plain_changes changes = map plain_changed changes

-- the numbers of the messages that change are below a bound
abbrev pub AreBelow : ℕ → List Changed1 → Type 0
AreBelow bound changes = All (λ c. c.id.0 < bound) changes

-- a table has the first change of each number
abbrev pub HasChanges : List (Option Change) → List Changed1 → Type 0
HasChanges table changes = HasFirsts (λ c. c.id.0) (λ c. c.change) table changes

-- a table tells what becomes of each number
abbrev pub Tells : List (Option Change) → List Changed → Type 0
Tells table changes = (number : ℕ) → option_map plain_change (slice_index_or table number None)
    ≡ change_for changes number
