-- What a scan leaves of the listed messages.
use Rattle.std.specs.Prelude.{◌<◌, ◌++◌, ◌∷◌, [], ℕ, Bool, List, map, is_some}
use Rattle.std.specs.Prelude.{Option, Some, None, slice_get, if◌then◌else◌}
use Rattle.std.specs.Cmp.Lexicographic.{slice_cmp}
use Rattle.std.specs.List.{All, flat_map}
use Rattle.std.specs.List.Sorted.{IsPermutation, IsSortedBy}
use Rattle.std.specs.Option.{option_map_or}
use Rattle.std.specs.Ordering.{is_lt, nat_cmp, ordering_then}
use Rattle.std.specs.declared.cmp.Ordering.{Ordering}
use Rattle.mail_base.specs.declared.flags.Flags.{Flags}
use Rattle.mail_base.specs.declared.kind.Id.{Id}
use Rattle.folder_letters.specs.Letters.{Mail}
use Rattle.folder_letters.specs.declared.listing.Found.{Found}
use Rattle.folder_letters.specs.declared.listing.Listed.{Listed}
use Rattle.index_items.specs.ById.{HasFirsts, first_of}
use Rattle.index_items.specs.Items.{PlainItem, listed}

-- the message is gone
abbrev pub is_gone : List Id → ℕ → Bool
is_gone gone number = is_some (first_of (λ id. id.0) (λ id. id) gone number)

-- the flags that a scan found of a message, where they are others than before
abbrev pub flags_for : List Listed → ℕ → Option Flags
flags_for reflagged number = first_of (λ l. l.id.0) (λ l. l.flags) reflagged number

-- a message with the flags that were found
abbrev pub reflagged_item : PlainItem → Option Flags → PlainItem
reflagged_item i None = i
reflagged_item i (Some flags) = record i { flags = flags }

-- what is left of a message
abbrev pub kept_item : Bool → Option Flags → PlainItem → List PlainItem
kept_item gone flags i = if gone then [] else reflagged_item i flags ∷ []

-- what is left of the messages
abbrev pub kept_items : Found → List PlainItem → List PlainItem
kept_items found items = flat_map (λ i. kept_item (is_gone found.gone.items i.id.0)
    (flags_for found.reflagged.items i.id.0) i) items

-- the messages that came
abbrev pub came_items : List Listed → List PlainItem
came_items came = map (λ l. listed l.id l.flags) came

-- the place of a message in its folder, and what tells it from others there
abbrev pub order_at : List Mail → ℕ → ℕ
order_at mails number = option_map_or (λ mail. mail.order) (slice_get mails number) 0

-- the key of the letter of a number
abbrev pub key_at : List Mail → ℕ → List ℕ
key_at mails number = option_map_or (λ mail. mail.key) (slice_get mails number) []

-- listing order: by the place in the folder, bytes of the key and id
abbrev pub listing_cmp : List Mail → PlainItem → PlainItem → Ordering
listing_cmp mails a b =
    ordering_then (ordering_then (nat_cmp (order_at mails a.id.0) (order_at mails b.id.0))
    (slice_cmp nat_cmp (key_at mails a.id.0) (key_at mails b.id.0))) (nat_cmp a.id.0 b.id.0)

-- a message stands before another in listing order
abbrev pub is_listed_before : List Mail → PlainItem → PlainItem → Bool
is_listed_before mails a b = is_lt (listing_cmp mails a b)

-- messages are what a scan leaves of others and what came, in listing order
pub record IsJoined (mails : List Mail) (found : Found) (items more : List PlainItem)
    : Type 0 where
  pub same : IsPermutation (kept_items found items ++ came_items found.came.items) more
  pub sorted : IsSortedBy (is_listed_before mails) more

-- For the code alone.

-- ids are those of so many letters
abbrev pub AreIdsBelow : ℕ → List Id → Type 0
AreIdsBelow bound ids = All (λ id. id.0 < bound) ids

-- listed messages have ids of so many letters
abbrev pub AreListedBelow : ℕ → List Listed → Type 0
AreListedBelow bound listed = All (λ l. l.id.0 < bound) listed

-- the messages that are gone or have other flags are among so many
abbrev pub IsFoundBelow : ℕ → Found → Type 0
IsFoundBelow bound found =
    AreIdsBelow bound found.gone.items × AreListedBelow bound found.reflagged.items

-- a table tells of each number whether its message is gone
abbrev pub HasGone : List (Option Id) → List Id → Type 0
HasGone table gone = HasFirsts (λ id. id.0) (λ id. id) table gone

-- a table tells of each number the flags that were found
abbrev pub HasFlags : List (Option Flags) → List Listed → Type 0
HasFlags table listed = HasFirsts (λ l. l.id.0) (λ l. l.flags) table listed
