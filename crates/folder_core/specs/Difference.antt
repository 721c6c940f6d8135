-- What the code of the difference of two listings keeps.
use Rattle.std.specs.Prelude.{ℕ, Bool, false, not, List, [], ◌∷◌, Option, Some, None, is_none}
use Rattle.std.specs.Prelude.{slice_index_or, slice_set}
use Rattle.mail_base.specs.declared.flags.Flags.{Flags}
use Rattle.folder_core.specs.Keeping.{same_flags}
use Rattle.folder_letters.specs.declared.listing.Listed.{Listed}

-- a table in whose place the flags of a listed message stand
abbrev pub with_flags : List (Option Flags) → Listed → List (Option Flags)
with_flags table listed = slice_set table listed.id.0 (Some listed.flags)

-- a table into which the flags of these were put
abbrev pub filled : List (Option Flags) → List Listed → List (Option Flags)
filled table [] = table
filled table (listed ∷ listing) = filled (with_flags table listed) listing

-- the flags in a place
abbrev pub flags_at : List (Option Flags) → ℕ → Option Flags
flags_at table id = slice_index_or table id None

-- a listed message is not in the table
abbrev pub is_new : List (Option Flags) → Listed → Bool
is_new table listed = is_none (flags_at table listed.id.0)

-- there are flags, and others than these
abbrev pub are_others : Option Flags → Flags → Bool
are_others None flags = false
are_others (Some others) flags = not (same_flags others flags)

-- a listed message has other flags in the table
abbrev pub has_others : List (Option Flags) → Listed → Bool
has_others table listed = are_others (flags_at table listed.id.0) listed.flags
