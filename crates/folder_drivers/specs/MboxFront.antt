-- A file as it was read, against the bytes that are known of it: others put mail behind these, or
-- wrote something else.
use Rattle.std.specs.Prelude.{◌≡◌, ◌+◌, ◌==◌, ◌&&◌, ℕ, Bool, true, false, List, [], ◌∷◌, Option}
use Rattle.std.specs.Prelude.{Some, None, length, map, nat_lt, take, if◌then◌else◌}
use Rattle.std.specs.Str.{bytes_eq}
use Rattle.folder_core.specs.Known.{KnownFolder}
use Rattle.folder_core.specs.Limits.{most_messages}
use Rattle.folder_core.specs.Mbox.{begins_mailbox, core, raw_messages}

-- how many bytes two texts have alike, from their start on
abbrev pub common_length : List ℕ → List ℕ → ℕ
common_length [] bytes = 0
common_length (a ∷ known) [] = 0
common_length (a ∷ known) (b ∷ bytes) = if a == b then common_length known bytes + 1 else 0

-- what stays of each message of a file
abbrev pub cores : List ℕ → List (List ℕ)
cores bytes = map core (raw_messages bytes)

-- texts begin with those of a front
abbrev pub begin_with : List (List ℕ) → List (List ℕ) → Bool
begin_with [] texts = true
begin_with (text ∷ front) [] = false
begin_with (text ∷ front) (other ∷ texts) = bytes_eq text other && begin_with front texts

-- the messages of a file begin with those of known bytes, by what stays of each; a file that is no
-- mailbox has no list of messages, and begins with none
abbrev pub messages_begin : List ℕ → List ℕ → Bool
messages_begin known bytes = begins_mailbox bytes && begin_with (cores known) (cores bytes)

-- where a file is first another one than is known: at the first byte that differs or that it lacks,
-- or behind the known bytes, where with what stands there the known messages are others
abbrev pub first_difference : List ℕ → List ℕ → Option ℕ
first_difference known bytes =
    if nat_lt (common_length known bytes) (length known) then Some (common_length known bytes)
    else (if messages_begin known bytes then None else Some (length known))

-- how many messages a file has, where they are more than are listed
abbrev pub too_many : List ℕ → Option ℕ
too_many bytes =
    if begins_mailbox bytes && nat_lt most_messages (length (raw_messages bytes))
    then Some (length (raw_messages bytes))
    else None

-- A file begins with known bytes, and its messages begin with theirs, by what stays of each.
pub record BeginsAs (known bytes : List ℕ) : Type 0 where
  pub front : take (length known) bytes ≡ known
  pub messages : take (length (cores known)) (cores bytes) ≡ cores known

-- The file is the one that is known, with what others put behind it.
pub record IsAsKnown (known : KnownFolder) (bytes : List ℕ) : Type 0 where
  pub begins : BeginsAs known.bytes bytes
  pub mailbox : begins_mailbox bytes ≡ true
  pub few : too_many bytes ≡ None
  pub same : first_difference known.bytes bytes ≡ None
