-- What a line is to a boundary (RFC 2046, section 5.1.1).
use Rattle.std.specs.Prelude.{◌&&◌, ℕ, Bool, true, false, nat_lt, List, length, Option, Some, None}
use Rattle.std.specs.Prelude.{codes, if◌then◌else◌}
use Rattle.std.specs.List.{list_any}
use Rattle.bstr.specs.Text.{lines_of, without_terminator}
use Rattle.mail_base.specs.Blanks.{is_all_blank}
use Rattle.mail_base.specs.Fronts.{◌>>=◌, behind_text}
use Rattle.mime_tree.specs.declared.delimiter.LineKind.{LineKind}
use Rattle.mime_tree.specs.declared.delimiter.LineKind.TheVariants.{Text, Delimiter, Closing}

-- two dashes and blanks close the multipart
abbrev pub closing_behind : Option (List ℕ) → LineKind
closing_behind None = Text
closing_behind (Some rest) = if is_all_blank rest then Closing else Text

-- what a line is by what stands behind its dashes and the boundary
abbrev pub kind_behind : Option (List ℕ) → LineKind
kind_behind None = Text
kind_behind (Some rest) =
    if is_all_blank rest then Delimiter else closing_behind (behind_text (codes "--") rest)

-- what a line is in a multipart of the boundary
abbrev pub kind_of : List ℕ → List ℕ → LineKind
kind_of boundary line =
    kind_behind (behind_text (codes "--") (without_terminator line) >>= behind_text boundary)

-- a delimiter line, be it the closing one
abbrev pub is_delimiter : LineKind → Bool
is_delimiter Text = false
is_delimiter Delimiter = true
is_delimiter Closing = true

-- the delimiter line that ends the multipart
abbrev pub is_closing : LineKind → Bool
is_closing Text = false
is_closing Delimiter = false
is_closing Closing = true

-- the boundary is not empty, and it occurs
abbrev pub is_cut : List ℕ → List ℕ → Bool
is_cut boundary body =
    nat_lt 0 (length boundary)
    && list_any (λ line. is_delimiter (kind_of boundary line)) (lines_of body)
