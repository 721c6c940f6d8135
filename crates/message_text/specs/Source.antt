-- For the code alone: parts by their places in the message.
use Rattle.std.specs.Prelude.{◌+◌, ℕ, Bool, List, [], ◌∷◌, drop, map, Option, Some, None, codes}
use Rattle.std.specs.Prelude.{option_map}
use Rattle.std.specs.Str.{bytes_eq}
use Rattle.mime_tree.specs.Part.{PlainPart, plain_part}
use Rattle.message_text.specs.Branch.{branch_lines, children, content_of}
use Rattle.message_text.specs.Look.{is_text}
use Rattle.message_text.specs.Weeding.{plain_weeding}
use Rattle.message_text.specs.declared.parts.TextKind.{TextKind}
use Rattle.message_text.specs.declared.parts.TextKind.TheVariants as kind
use Rattle.message_text.specs.declared.source.Source.{Source}

-- the parts that stand directly in a part of the nesting, of which the first is at a place
abbrev pub children_at : ℕ → List PlainPart → Option ℕ → List (List PlainPart)
children_at nesting parts None = []
children_at nesting parts (Some at) = drop at parts ∷ children nesting (drop (at + 1) parts)

-- a part by its place
abbrev pub branch_at : List PlainPart → Option ℕ → Option (List PlainPart)
branch_at parts place = option_map (λ at. drop at parts) place

-- a part of the kind of text
abbrev pub is_of_kind : TextKind → List PlainPart → Bool
is_of_kind kind.Plain branch = bytes_eq (content_of branch) (codes "text/plain")
is_of_kind kind.Any branch = is_text (content_of branch)

-- the parts of a message
abbrev pub parts_of_source : Source → List PlainPart
parts_of_source s = map plain_part s.parts.now

-- a part in which others may stand so many levels deep with itself
abbrev pub lines_of_branch : ℕ → Source → List PlainPart → List (List ℕ)
lines_of_branch levels s branch = branch_lines levels (plain_weeding s.weed.now) s.raw.now branch
