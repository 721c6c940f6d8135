-- What a reader of keys takes and gives.
use Rattle.std.specs.Prelude.{◌≡◌, ◌≤◌, ◌<◌, ◌+◌, ℕ, true, List, [], ◌∷◌, ◌++◌, drop, length}
use Rattle.std.specs.Prelude.{Option}
use Rattle.std.specs.Prelude.{Some, None, Result, Ok, Err, option_to_list}
use Rattle.std.specs.Io.KnownBytes.{Consumes, IsAtEnd}
use Rattle.keymap.specs.Stream.{first_key, is_open, keys_of}
use Rattle.keymap.specs.declared.key.Key.{Key}
use Rattle.keymap.specs.declared.key_reader.KeyFault.{KeyFault}
use Rattle.keymap.specs.declared.key_reader.KeyFault.TheVariants.{ReadFault, TooManyKeys}

-- the most bytes that a reader takes
abbrev pub most_bytes : ℕ
most_bytes = 16_777_216

-- the bytes that were taken and wait for more, and how many were taken
pub record PlainReader : Type 0 where
  pub pending : List ℕ
  pub taken : ℕ

-- each of these bytes was needed: those before it did not tell their first key
abbrev pub AreNeeded : List ℕ → List ℕ → Type 0
AreNeeded before [] = Unit {0}
AreNeeded before (b ∷ more) = (is_open before ≡ true) × AreNeeded (before ++ b ∷ []) more

-- these bytes were taken, and none that was not needed
pub record Takes (old new : PlainReader) (left left' : Option (List ℕ))
    (more : List ℕ) : Type 0 where
  pub taken : Consumes left left' more
  pub counted : new.taken ≡ old.taken + length more
  pub needed : AreNeeded old.pending more
  pub within : new.taken ≤ most_bytes

-- the key is the first of these bytes, and that is what stands behind it
abbrev pub IsFirst : Option Key → List ℕ → List ℕ → Type 0
IsFirst None bytes rest = (bytes ≡ []) × (rest ≡ [])
IsFirst (Some key) bytes rest =
    (0 < length bytes) × (key ≡ (first_key bytes).value)
    × (rest ≡ drop (first_key bytes).more (drop 1 bytes))

-- what the stream holds from here on, where the source tells it: the key, and then what it holds
-- after
abbrev pub Begins : Option Key → List ℕ → Option (List ℕ) → List ℕ → Option (List ℕ) → Type 0
Begins key pending None pending' left' = Unit {0}
Begins key pending (Some left) pending' None = ⊥
Begins key pending (Some left) pending' (Some left') =
    keys_of (pending ++ left) ≡ option_to_list key ++ keys_of (pending' ++ left')

-- a key was given, or none at the end of the stream
pub record Gives (key : Option Key) (old new : PlainReader) (left left' : Option
    (List ℕ)) : Type 0 where
  pub more : List ℕ
  pub takes : Takes old new left left' more
  pub first : IsFirst key (old.pending ++ more) new.pending
  pub ended : is_open (old.pending ++ more) ≡ true → IsAtEnd left' × (new.taken < most_bytes)
  pub begins : Begins key old.pending left new.pending left'

-- a further byte is needed, and the limit stands there, or a fault
abbrev pub IsCause : KeyFault → PlainReader → Type 0
IsCause ReadFault reader = (is_open reader.pending ≡ true) × (reader.taken < most_bytes)
IsCause TooManyKeys reader = (is_open reader.pending ≡ true) × (reader.taken ≡ most_bytes)

-- no key was given: what was taken waits
pub record Stops (fault : KeyFault) (old new : PlainReader) (left left' : Option
    (List ℕ)) : Type 0 where
  pub more : List ℕ
  pub takes : Takes old new left left' more
  pub pending : new.pending ≡ old.pending ++ more
  pub cause : IsCause fault new

-- how the taking of bytes ended: they tell their first key, or none are left, or there is a fault
abbrev pub Ends : Result (Unit {0}) KeyFault → PlainReader → Option (List ℕ) → Type 0
Ends (Ok _) reader left = is_open reader.pending ≡ true → IsAtEnd left × (reader.taken < most_bytes)
Ends (Err fault) reader left = IsCause fault reader

-- bytes were taken behind those that waited
pub record Filled (old new : PlainReader) (left left' : Option (List ℕ)) : Type 0 where
  pub more : List ℕ
  pub takes : Takes old new left left' more
  pub pending : new.pending ≡ old.pending ++ more
