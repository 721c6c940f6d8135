-- What the variables say of checks.
use Rattle.std.specs.Prelude.{◌+ℤ◌, ℤ, pos, Bool, List, Option, Some, int_le}
use Rattle.rc_lang.specs.Settings.{value_of}
use Rattle.rc_lang.specs.Values.{PlainValue, Number}
use Rattle.rc_lang.specs.declared.variable.Variable.TheVariants.{MailCheck}

-- the number of a value
abbrev pub number_in : Option PlainValue → ℤ
number_in (Some (Number number)) = number
number_in _ = pos 0

-- a moment is as many seconds behind the last check as `$mail_check` says (Mutt's manual,
-- "mail_check")
abbrev pub is_over : List PlainValue → ℤ → ℤ → Bool
is_over values checked moment =
    int_le (checked +ℤ number_in (value_of values MailCheck)) moment
