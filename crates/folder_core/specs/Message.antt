-- A message of a folder as it stands there.
use Rattle.std.specs.Prelude.{◌≡◌, ◌+◌, ◌&&◌, ℕ, Bool, true, List, [], ◌∷◌, length}
use Rattle.std.specs.Cmp.Lexicographic.{slice_cmp}
use Rattle.std.specs.List.{list_any}
use Rattle.std.specs.Ordering.{is_lt, nat_cmp, ordering_then}
use Rattle.std.specs.Str.{bytes_eq}
use Rattle.mail_base.specs.declared.flags.Flags.{Flags}

-- Its place among the folder's messages, what tells it from others at the same place, its flags and
-- its bytes. The messages of an mbox have the order of the file alone, so that place and key say
-- nothing there.
pub record Message : Type 0 where
  pub order : ℕ
  pub key : List ℕ
  pub flags : Flags
  pub raw : List ℕ

-- a message of these has the key
abbrev pub has_key : List ℕ → List Message → Bool
has_key key messages = list_any (λ message. bytes_eq message.key key) messages

-- the bytes of messages together
abbrev pub bytes_together : List Message → ℕ
bytes_together [] = 0
bytes_together (message ∷ messages) = length message.raw + bytes_together messages

-- the place of each message is the one that its key gives, as it is in a directory
abbrev pub ArePlaced : (List ℕ → ℕ) → List Message → Type 0
ArePlaced order_of [] = Unit {0}
ArePlaced order_of (message ∷ messages) =
    (message.order ≡ order_of message.key) × ArePlaced order_of messages

-- one message stands before another in its folder: by its place, and by its key where that is the
-- same
abbrev pub stands_before : Message → Message → Bool
stands_before a b = is_lt (ordering_then (nat_cmp a.order b.order) (slice_cmp nat_cmp a.key b.key))

-- each message stands before the next
abbrev pub are_in_order : List Message → Bool
are_in_order [] = true
are_in_order (a ∷ []) = true
are_in_order (a ∷ b ∷ messages) = stands_before a b && are_in_order (b ∷ messages)
