-- Quotes in a structured field (RFC 2045, section 5.1).
use Rattle.std.specs.Prelude.{◌==◌, ◌&&◌, ℕ, Bool, true, false, List, [], ◌∷◌, Option, Some, None}
use Rattle.std.specs.Prelude.{if◌then◌else◌}
use Rattle.std.specs.Str.{byte}
use Rattle.mime_tree.specs.declared.quotes.Quotes.{Quotes}
use Rattle.mime_tree.specs.declared.quotes.Quotes.TheVariants.{Outside, Inside, Escaped}

-- whether the byte that follows stands in quotes; there a backslash takes its meaning from the byte
-- behind it
abbrev pub quotes_behind : Quotes → ℕ → Quotes
quotes_behind Outside b = if b == byte "\"" then Inside else Outside
quotes_behind Inside b =
    if b == byte "\"" then Outside else (if b == byte "\\" then Escaped else Inside)
quotes_behind Escaped b = Inside

-- whether it stands outside quotes
abbrev pub is_outside : Quotes → Bool
is_outside Outside = true
is_outside Inside = false
is_outside Escaped = false

-- what stands behind the next semicolon outside quotes
abbrev pub behind_semicolon : Quotes → List ℕ → Option (List ℕ)
behind_semicolon q [] = None
behind_semicolon q (b ∷ rest) =
    if is_outside q && b == byte ";" then Some rest else behind_semicolon (quotes_behind q b) rest
