-- The bytes of a draft: fields, an empty line and the lines of its body.
use Rattle.std.specs.Prelude.{ℕ, List, [], ◌∷◌, ◌++◌, Option, Some, None, codes}
use Rattle.std.specs.List.{flat_map, join_with_byte}
use Rattle.std.specs.Str.{byte}
use Rattle.drafts.specs.PlainDraft.{PlainDraft}

-- a text and the LF that ends its line
abbrev pub ended : List ℕ → List ℕ
ended text = text ++ byte "\n" ∷ []

-- the line of a field, from its name on
abbrev pub field_line : List ℕ → List ℕ → List ℕ
field_line name text = name ++ ended text

-- the line of the id that is answered, where there is one
abbrev pub reply_line : Option (List ℕ) → List ℕ
reply_line None = []
reply_line (Some id) = field_line (codes "In-Reply-To: ") id

-- the line of the ids before, where there are any, with one blank between each two
abbrev pub references_line : List (List ℕ) → List ℕ
references_line [] = []
references_line (id ∷ ids) =
    field_line (codes "References: ") (join_with_byte (byte " ") (id ∷ ids))

-- the fields of a draft, with the mark that it is one and the empty line
abbrev pub head_bytes : PlainDraft → List ℕ
head_bytes d =
    field_line (codes "To: ") d.to
    ++ (field_line (codes "Subject: ") d.subject
    ++ (reply_line d.in_reply_to
    ++ (references_line d.references ++ codes "X-Mutt-Draft: 1\n\n")))

-- the bytes of a draft
abbrev pub draft_bytes : PlainDraft → List ℕ
draft_bytes d = head_bytes d ++ flat_map ended d.body
