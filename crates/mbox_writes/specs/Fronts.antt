-- Why a file is not the one that is known, and its messages where it is.
use Rattle.std.specs.Prelude.{◌≡◌, ◌≤◌, true, List, ℕ, Option, Some, length, map, option_map}
use Rattle.std.specs.Prelude.{slice_range}
use Rattle.folder_core.specs.Mbox.{Cover, begins_mailbox, core, first_some}
use Rattle.folder_core.specs.Mbox.{regions as regions_of}
use Rattle.folder_core.specs.declared.region.Region.{Region}
use Rattle.folder_drivers.specs.MboxFront.{BeginsAs, first_difference, too_many}
use Rattle.mbox_text.specs.Rewriting.{raws_in}
use Rattle.mbox_writes.specs.declared.front.FrontError.{FrontError}
use Rattle.mbox_writes.specs.declared.front.FrontError.TheVariants.{Differs, TooMany, NoMemory}

-- why a file is not the known one with what was put behind it: its messages are counted first
abbrev pub front_refusal : List ℕ → List ℕ → Option FrontError
front_refusal known bytes =
    first_some (option_map (λ count. TooMany count) (too_many bytes))
    (option_map (λ place. Differs place) (first_difference known bytes))

-- the cause is the one that is due, where it is no want of memory
abbrev pub IsCause : FrontError → Option FrontError → Type 0
IsCause NoMemory due = Unit {0}
IsCause why due = due ≡ Some why

-- The regions are those of a mailbox that begins as it is known.
pub record IsFront (known bytes : List ℕ) (regions : List Region) : Type 0 where
  pub cut : regions ≡ regions_of bytes
  pub cover : Cover 0 (length bytes) regions
  pub begins : begins_mailbox bytes ≡ true
  pub as_known : BeginsAs known bytes

-- For the code alone.

-- a region lies in a text of this length
abbrev pub IsWithin : ℕ → Region → Type 0
IsWithin end region = (region.start ≤ region.end) × (region.end ≤ end)

-- what stays of the message in a region
abbrev pub core_in : List ℕ → Region → List ℕ
core_in bytes region = core (slice_range bytes region.start region.end)

-- what stays of the messages in regions
abbrev pub cores_in : List ℕ → List Region → List (List ℕ)
cores_in bytes regions = map core (raws_in bytes regions)
