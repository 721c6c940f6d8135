-- The messages that a folder is to hold, in the order of their keys.
use Rattle.std.specs.Prelude.{◌≡◌, ◌≢◌, ℕ, Bool, true, false, ◌||◌, List, [], ◌∷◌, map}
use Rattle.std.specs.Prelude.{if◌then◌else◌}
use Rattle.std.specs.Str.{bytes_eq}
use Rattle.folder_stops.specs.Words.{Among, has}

-- a message by its key and its bytes, which a folder must hold, or which may be gone
pub record StoredMessage : Type 0 where
  pub key : List ℕ
  pub core : List ℕ
  pub may_go : Bool

-- it must stay
abbrev pub Must : StoredMessage → Type 0
Must m = m.may_go ≡ false

-- no two messages that must stay have one key
abbrev pub IsSingle : List StoredMessage → Type 0
IsSingle [] = Unit {0}
IsSingle (m ∷ all) =
    ((n : StoredMessage) → Among n all → Must m → Must n → m.key ≢ n.key) × IsSingle all

-- no key stands before an earlier one; keys may come again
abbrev pub IsInOrder : (List ℕ → List ℕ → Bool) → List StoredMessage → Type 0
IsInOrder before [] = Unit {0}
IsInOrder before (m ∷ all) =
    ((n : StoredMessage) → Among n all → before n.key m.key ≡ false) × IsInOrder before all

-- it may go where its key is one of these
abbrev pub loosen : List (List ℕ) → StoredMessage → StoredMessage
loosen keys m = record { key = m.key; core = m.core; may_go = m.may_go || has keys m.key }

-- the messages with these keys may go
abbrev pub loosened : List (List ℕ) → List StoredMessage → List StoredMessage
loosened keys all = map (loosen keys) all

-- those with these keys may go already
abbrev pub IsLoose : List (List ℕ) → List StoredMessage → Type 0
IsLoose keys all = (m : StoredMessage) → Among m all → has keys m.key ≡ true → m.may_go ≡ true

-- a message that came, behind those with its key
abbrev pub with_message : (List ℕ → List ℕ → Bool) → StoredMessage → List StoredMessage
    → List StoredMessage
with_message before m [] = m ∷ []
with_message before m (n ∷ all) =
    if before m.key n.key then m ∷ n ∷ all else n ∷ with_message before m all

-- those with another key
abbrev pub taken : List ℕ → List StoredMessage → List StoredMessage
taken key [] = []
taken key (m ∷ all) = if bytes_eq m.key key then taken key all else m ∷ taken key all

-- a message that came while those with these keys are taken away
abbrev pub arrived : List (List ℕ) → List ℕ → List ℕ → StoredMessage
arrived keys key core = record { key = key; core = core; may_go = has keys key }

-- the same messages, of which no fewer may go
abbrev pub IsLooser : List StoredMessage → List StoredMessage → Type 0
IsLooser [] [] = Unit {0}
IsLooser [] (n ∷ more) = ⊥
IsLooser (m ∷ all) [] = ⊥
IsLooser (m ∷ all) (n ∷ more) =
    (m.key ≡ n.key) × (m.core ≡ n.core) × (Must n → Must m) × IsLooser all more
