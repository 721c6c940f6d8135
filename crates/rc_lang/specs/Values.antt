-- Values of variables, and how they are printed.
use Rattle.std.specs.Prelude.{ℕ, ℤ, Bool, List, [], ◌∷◌, ◌++◌, codes, if◌then◌else◌}
use Rattle.std.specs.Fmt.{signed_decimal}
use Rattle.rc_lang.specs.declared.quad.Quad.{Quad as FourWay}
use Rattle.rc_lang.specs.declared.value.Value.{Value}
use Rattle.rc_lang.specs.declared.value.Value.TheVariants as value
use Rattle.rc_lang.specs.Quads.{quad_text}
use Rattle.mail_base.specs.Shown.{utf8_text}

-- the value of a variable
pub data PlainValue : Type 0 where
  Flag : Bool → PlainValue
  Number : ℤ → PlainValue
  Text : List ℕ → PlainValue
  Quad : FourWay → PlainValue

-- a value, without the room of its text
abbrev pub plain_value : Value → PlainValue
plain_value (value.Flag flag) = Flag flag
plain_value (value.Number number) = Number number
plain_value (value.Text text) = Text text.items
plain_value (value.Quad quad) = Quad quad

-- the text that `$name` gives
abbrev pub value_text : PlainValue → List ℕ
value_text (Flag flag) = if flag then codes "yes" else codes "no"
value_text (Number number) = signed_decimal number
value_text (Text text) = text
value_text (Quad quad) = quad_text quad

-- what stands on both sides of a printed value: a text stands in double quotes
abbrev pub quote_of : PlainValue → List ℕ
quote_of (Flag flag) = []
quote_of (Number number) = []
quote_of (Text text) = 34 ∷ []
quote_of (Quad quad) = []

-- `name=value`, as a query prints it
abbrev pub printed_line : List ℕ → PlainValue → List ℕ
printed_line name value = (((name ++ 61 ∷ []) ++ quote_of value) ++ value_text value) ++ quote_of
    value

-- the line that a query of the variable prints
abbrev pub shown_line : List ℕ → PlainValue → List ℕ
shown_line name value = utf8_text (printed_line name value)
