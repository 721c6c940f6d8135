-- For the code alone: what was read of a message while it is asked.
use Rattle.std.specs.Prelude.{◌≡◌, ℕ, List, [], Option, Some, None, All, IfSome, length, map}
use Rattle.std.specs.Prelude.{slice_get}
use Rattle.std.specs.Prelude.{take, unwrap_or}
use Rattle.mail_base.specs.Series.{Held, plain_texts}
use Rattle.mime_tree.specs.Order.{StandsWithin}
use Rattle.mime_tree.specs.Part.{PlainPart, plain_parts}
use Rattle.mime_tree.specs.Parts.{parts_of}
use Rattle.patterns_match.specs.Listings.{Message, part_lines}
use Rattle.patterns_match.specs.declared.kept.Kept.{Kept}
use Rattle.patterns_match.specs.declared.kept.KeptParts.{KeptParts}
use Rattle.patterns_match.specs.declared.kept.KeptParts.TheVariants as kept

-- the parts, where they were read and do not nest too deep
abbrev pub known : KeptParts → Option (List PlainPart)
known kept.Unread = None
known kept.TooDeep = None
known (kept.Read parts) = Some (plain_parts parts)

-- they are those of the message
abbrev pub AreParts : List ℕ → KeptParts → Type 0
AreParts raw kept.Unread = Unit {0}
AreParts raw kept.TooDeep = parts_of raw ≡ None
AreParts raw (kept.Read parts) =
    (parts_of raw ≡ Some (plain_parts parts)) × All (StandsWithin (length raw)) parts.items

-- the lines of each of some parts
abbrev pub lines_in : List (Held (Held ℕ)) → List (List (List ℕ))
lines_in decoded = map plain_texts decoded

-- they are those of the first parts
abbrev pub AreFirst : List ℕ → List PlainPart → List (Held (Held ℕ)) → Type 0
AreFirst raw parts decoded = lines_in decoded ≡ map (part_lines raw) (take (length decoded) parts)

-- what was read is that of the message
pub record IsKept (raw : List ℕ) (k : Kept) : Type 0 where
  pub parts : AreParts raw k.parts
  pub first : AreFirst raw (unwrap_or (known k.parts) []) k.decoded.items

-- the same of the message at a place
abbrev pub IsKeptAt : List Message → ℕ → Kept → Type 0
IsKeptAt listing place k = IfSome (slice_get listing place) (λ m. IsKept m.raw k)
