-- The date of a message (RFC 5322, section 3.3, as jiff reads it).
use Rattle.std.specs.Prelude.{ℕ, ℤ, pos, false, List, Option, Some, None, Result, Ok, Err, int_div}
use Rattle.jiff_core.specs.declared.error.Error.{Error}
use Rattle.jiff_fmt.specs.Rfc2822.{timestamp_with_offset}
use Rattle.headers.specs.declared.sent_date.SentDate.{SentDate}

-- an instant in nanoseconds and an offset in seconds, if they were read
abbrev pub date_of : Result (ℤ × ℤ) Error → Option SentDate
date_of (Ok p) = Some (record { seconds = int_div p.0 (pos 1_000_000_000); offset = p.1 })
date_of (Err e) = None

-- the date that a field's value gives, whose weekday must be right
abbrev pub sent_date : List ℕ → Option SentDate
sent_date value = date_of (timestamp_with_offset false value)
