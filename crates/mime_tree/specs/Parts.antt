-- The parts of a message (RFC 2045, section 5; RFC 2046, section 5).
use Rattle.std.specs.Prelude.{◌+◌, ℕ, zero, suc, false, List, [], ◌∷◌, ◌++◌, Option, Some, None}
use Rattle.std.specs.Prelude.{option_map}
use Rattle.mail_base.specs.Fronts.{◌>>=◌}
use Rattle.mime_tree.specs.Entity.{children_of, part_of}
use Rattle.mime_tree.specs.Part.{PlainPart}
use Rattle.mime_tree.specs.Section.{PlainSection}

-- the parts of sections, one behind the other, unless those of one nest too deep
abbrev pub all_parts : (PlainSection → Option (List PlainPart)) → List PlainSection
    → Option (List PlainPart)
all_parts parts [] = Some []
all_parts parts (s ∷ rest) = do
  first ← parts s
  more ← all_parts parts rest
  Some (first ++ more)

-- the part of a section and behind it those that stand in it, which may be so many levels deep with
-- itself
unfoldable pub parts_in : ℕ → ℕ → PlainSection → Option (List PlainPart)
parts_in zero nesting s = None
parts_in (suc levels) nesting s =
    option_map (λ more. part_of nesting s ∷ more)
    (all_parts (parts_in levels (nesting + 1)) (children_of s))

-- a whole message
abbrev pub whole : List ℕ → PlainSection
whole raw = record { start = 0; text = raw; in_digest = false }

-- the parts of a message in the order of reading, unless they nest more than 32 deep
abbrev pub parts_of : List ℕ → Option (List PlainPart)
parts_of raw = parts_in 33 0 (whole raw)
