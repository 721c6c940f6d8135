-- The listed messages.
use Rattle.std.specs.Prelude.{ℕ, Bool, false, List, map, slice_index_or}
use Rattle.mail_base.specs.declared.flags.Flags.{Flags}
use Rattle.mail_base.specs.declared.kind.Id.{Id}
use Rattle.index_items.specs.Pending.{PlainPending, no_flags, nothing, plain_pending, shown}
use Rattle.index_items.specs.declared.item.Item.{Item}

-- a message: its flags in the folder, what the user changed of it, its tag, and whether the thread
-- of which it is the root is shut
pub record PlainItem : Type 0 where
  pub id : Id
  pub flags : Flags
  pub pending : PlainPending
  pub tagged : Bool
  pub shut : Bool

-- a listed message as contracts see it
abbrev pub plain_item : Item → PlainItem
plain_item i = record {
  id = i.id;
  flags = i.flags;
  pending = plain_pending i.pending;
  tagged = i.tagged;
  shut = i.shut;
}

-- listed messages as contracts see them
abbrev pub plain_items : List Item → List PlainItem
plain_items items = map plain_item items

-- a message as it comes
abbrev pub listed : Id → Flags → PlainItem
listed id flags = record {
  id = id;
  flags = flags;
  pending = nothing;
  tagged = false;
  shut = false;
}

-- what stands at a place where there is no message
abbrev pub no_item : PlainItem
no_item = listed (record { 0 = 0 }) no_flags

-- the message at a place
abbrev pub item_at : List PlainItem → ℕ → PlainItem
item_at items place = slice_index_or items place no_item

-- the flags of a message as they are shown
abbrev pub shown_flags : PlainItem → Flags
shown_flags i = shown i.flags i.pending

-- the numbers of the messages' ids
abbrev pub numbers : List PlainItem → List ℕ
numbers items = map (λ i. i.id.0) items

-- their ids
abbrev pub ids_of : List PlainItem → List Id
ids_of items = map (λ i. i.id) items
