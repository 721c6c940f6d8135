-- Parameters of a structured field (RFC 2045, section 5.1).
use Rattle.std.specs.Prelude.{◌==◌, ◌||◌, ℕ, zero, suc, Bool, true, false, List, [], ◌∷◌, length}
use Rattle.std.specs.Prelude.{take, drop, Option, Some, None, option_map, if◌then◌else◌}
use Rattle.std.specs.List.{find, position_or_len}
use Rattle.std.specs.Str.{byte, str_eq_ignore_ascii_case}
use Rattle.mail_base.specs.Blanks.{is_blank, without_blanks}
use Rattle.mail_base.specs.Fronts.{◌>>=◌, behind}
use Rattle.mail_base.specs.Tokens.{token_len}
use Rattle.mime_tree.specs.Quotes.{behind_semicolon}
use Rattle.mime_tree.specs.declared.parameter.Parameter.{Parameter}
use Rattle.mime_tree.specs.declared.parameter.Value.{Value}
use Rattle.mime_tree.specs.declared.quotes.Quotes.TheVariants.{Outside}

-- the value of a parameter, and what stands behind it
pub record PlainValue : Type 0 where
  pub bytes : List ℕ
  pub rest : List ℕ

-- a value with one more byte at its front
abbrev pub with_byte : ℕ → PlainValue → PlainValue
with_byte b v = record v { bytes = b ∷ v.bytes }

-- a quoted string behind its first quote; a backslash gives the byte behind it
abbrev pub quoted_value : Bool → List ℕ → Option PlainValue
quoted_value escaped [] = None
quoted_value true (b ∷ rest) = option_map (with_byte b) (quoted_value false rest)
quoted_value false (b ∷ rest) =
    if b == byte "\"" then Some (record { bytes = []; rest = rest })
    else (if b == byte "\\" then quoted_value true rest
    else option_map (with_byte b) (quoted_value false rest))

-- how many bytes stand before the next blank or semicolon
abbrev pub plain_len : List ℕ → ℕ
plain_len s = position_or_len (λ b. is_blank b || b == byte ";") s

-- what stands behind the first quote, where there is one; else the bytes up to the next blank or
-- semicolon
abbrev pub value_at : Option (List ℕ) → List ℕ → Option PlainValue
value_at (Some inside) s = quoted_value false inside
value_at None s = Some (record { bytes = take (plain_len s) s; rest = drop (plain_len s) s })

-- the value with which a text begins, if it is of the form
abbrev pub value : List ℕ → Option PlainValue
value s = value_at (behind (byte "\"") s) s

-- a parameter, and what stands behind it
pub record PlainParameter : Type 0 where
  pub name : List ℕ
  pub value : PlainValue

-- a value behind a name
abbrev pub named_value : List ℕ → List ℕ → Option PlainParameter
named_value name s = option_map (λ v. record { name = name; value = v }) (value s)

-- a name and a value with an equals sign and blanks between them
abbrev pub parameter_at : List ℕ → Option PlainParameter
parameter_at s = do
  rest ← behind (byte "=") (without_blanks (drop (token_len s) s))
  if token_len s == 0 then None else named_value (take (token_len s) s) (without_blanks rest)

-- the parameter behind a semicolon
abbrev pub parameter : List ℕ → Option PlainParameter
parameter s = parameter_at (without_blanks s)

-- a parameter and those behind it; what is none is skipped
abbrev pub parameters_with : (List ℕ → List PlainParameter) → List ℕ → Option PlainParameter
    → List PlainParameter
parameters_with more s None = more s
parameters_with more s (Some p) = p ∷ more p.value.rest

-- the parameters behind a semicolon, where there is one
abbrev pub parameters_behind : (List ℕ → List PlainParameter) → Option (List ℕ)
    → List PlainParameter
parameters_behind more None = []
parameters_behind more (Some s) = parameters_with more s (parameter s)

-- the parameters of a text; the number is at least its length
abbrev pub parameters_from : ℕ → List ℕ → List PlainParameter
parameters_from zero s = []
parameters_from (suc n) s = parameters_behind (parameters_from n) (behind_semicolon Outside s)

-- the parameters of the value of a field
abbrev pub parameters : List ℕ → List PlainParameter
parameters s = parameters_from (length s) s

-- names are compared without regard to ASCII case
abbrev pub is_named : List ℕ → PlainParameter → Bool
is_named name p = str_eq_ignore_ascii_case p.name name

-- the value of the first parameter of the name
abbrev pub value_of : List ℕ → List PlainParameter → Option (List ℕ)
value_of name ps = option_map (λ p. p.value.bytes) (find (is_named name) ps)

-- a value as contracts see it
abbrev pub plain_value : Value → PlainValue
plain_value v = record { bytes = v.bytes.items; rest = v.rest.now }

-- a parameter as contracts see it
abbrev pub plain_parameter : Parameter → PlainParameter
plain_parameter p = record { name = p.name.now; value = plain_value p.value }
