-- What a change makes of a value.
use Rattle.std.specs.Prelude.{◌≡◌, ◌⊎◌, ℕ, pos, true, false, not, List, Option, Some, None}
use Rattle.std.specs.Prelude.{Result, Ok, Err, ok_or, option_map, if◌then◌else◌}
use Rattle.rc_lang_words.specs.declared.fault.RcFault.{RcFault}
use Rattle.rc_lang_words.specs.declared.fault.RcFault.TheVariants.{BadValue, WrongKind, NoMemory}
use Rattle.rc_lang.specs.declared.quad.Quad.TheVariants.{Yes, No}
use Rattle.rc_lang.specs.declared.value.Value.{Value}
use Rattle.rc_lang.specs.Numbers.{number_within}
use Rattle.rc_lang.specs.Quads.{quad_of, opposite_quad}
use Rattle.rc_lang.specs.Requests as change
use Rattle.rc_lang.specs.Rules.{allows, refusal_of}
use Rattle.rc_lang.specs.Values.{PlainValue, Flag, Number, Text, Quad, plain_value}
use Rattle.rc_lang.specs.Variables as kind

-- the value, or its fault, or want of memory
abbrev pub Gives : Result Value RcFault → Result PlainValue RcFault → Type 0
Gives (Ok value) expected = expected ≡ Ok (plain_value value)
Gives (Err fault) expected = (expected ≡ Err fault) ⊎ (fault ≡ NoMemory)

-- the default
abbrev pub default_of : kind.PlainKind → PlainValue
default_of (kind.Flag flag) = Flag flag
default_of (kind.Number number most) = Number (pos number)
default_of (kind.Quad quad) = Quad quad
default_of (kind.Text rule text) = Text text

-- `set`: booleans and four-way values say yes
abbrev pub set_value : PlainValue → Option PlainValue
set_value (Flag flag) = Some (Flag true)
set_value (Number number) = None
set_value (Text text) = None
set_value (Quad quad) = Some (Quad Yes)

-- `unset`: they say no
abbrev pub unset_value : PlainValue → Option PlainValue
unset_value (Flag flag) = Some (Flag false)
unset_value (Number number) = None
unset_value (Text text) = None
unset_value (Quad quad) = Some (Quad No)

-- `toggle`: yes and no are exchanged
abbrev pub toggled_value : PlainValue → Option PlainValue
toggled_value (Flag flag) = Some (Flag (not flag))
toggled_value (Number number) = None
toggled_value (Text text) = None
toggled_value (Quad quad) = Some (Quad (opposite_quad quad))

-- the value that a text names: a boolean takes none
abbrev pub value_named : kind.PlainKind → List ℕ → Result PlainValue RcFault
value_named (kind.Flag flag) text = Err WrongKind
value_named (kind.Number number most) text =
    ok_or (option_map (λ n. Number (pos n)) (number_within most text)) BadValue
value_named (kind.Quad quad) text = ok_or (option_map Quad (quad_of text)) BadValue
value_named (kind.Text rule default) text =
    if allows rule text then Ok (Text text) else Err (refusal_of rule)

-- what a change makes of a value of the kind
abbrev pub changed_value : kind.PlainKind → change.PlainChange → PlainValue
    → Result PlainValue RcFault
changed_value kind change.Set value = ok_or (set_value value) WrongKind
changed_value kind change.Unset value = ok_or (unset_value value) WrongKind
changed_value kind change.Toggle value = ok_or (toggled_value value) WrongKind
changed_value kind change.Reset value = Ok (default_of kind)
changed_value kind (change.Assign text) value = value_named kind text
