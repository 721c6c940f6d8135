-- Fields, without the rooms of their lists.
use Rattle.std.specs.Prelude.{List, map}
use Rattle.mail_base.specs.Lines.{PlainField}
use Rattle.mail_base.specs.Series.{Held}
use Rattle.headers.specs.declared.field.Field.{Field}

-- a field without the rooms of its texts
abbrev pub plain_field : Field → PlainField
plain_field f = record { name = f.name.items; value = f.value.items }

-- fields without the rooms of their texts
abbrev pub plain_fields : Held Field → List PlainField
plain_fields fields = map plain_field fields.items
