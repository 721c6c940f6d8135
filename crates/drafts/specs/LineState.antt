-- How the lines of a draft are read byte by byte: where a line stands behind some of its bytes.
-- UTF-8 is read by Table 3-7 of the Unicode Standard.
use Rattle.std.specs.Prelude.{◌-◌, ◌==◌, ℕ, zero, suc, Bool, true, false, not, nat_lt, Option}
use Rattle.std.specs.Prelude.{Some, None, if◌then◌else◌}
use Rattle.std.specs.Str.{byte}
use Rattle.bstr.specs.Utf8.{continues, lead_len, second}
use Rattle.mail_base.specs.Written.{is_line_byte}
use Rattle.drafts.specs.PlainDraft.{is_id_byte}
use Rattle.drafts.specs.declared.line_state.LineState.{LineState}
use Rattle.drafts.specs.declared.line_state.LineState.TheVariants.{Text, Second, More, NoId, Id}
use Rattle.drafts.specs.declared.line_state.LineState.TheVariants.{NextId, Ids}

-- in a character of which so many bytes are to come
abbrev pub with_more : ℕ → LineState
with_more zero = Text
with_more (suc n) = More (suc n)

-- the state, where the test passed
abbrev pub only_if : Bool → LineState → Option LineState
only_if passes state = if passes then Some state else None

-- behind a byte with which a character begins, unless none does
abbrev pub text_behind : ℕ → Option LineState
text_behind b =
    if nat_lt b 128 then only_if (is_line_byte b) Text
    else only_if (not (lead_len b == 0)) (Second b)

-- behind a byte of an id of several, or behind the blank between two of them
abbrev pub ids_behind : ℕ → Option LineState
ids_behind b = if b == byte " " then Some NextId else only_if (is_id_byte b) Ids

-- behind one more byte, unless no line of the sort has it there
abbrev pub step : LineState → ℕ → Option LineState
step Text b = text_behind b
step (Second a) b = only_if (second a b) (with_more (lead_len a - 2))
step (More n) b = only_if (continues b) (with_more (n - 1))
step NoId b = only_if (is_id_byte b) Id
step Id b = only_if (is_id_byte b) Id
step NextId b = only_if (is_id_byte b) Ids
step Ids b = ids_behind b

-- the line may end
abbrev pub may_end : LineState → Bool
may_end Text = true
may_end (Second a) = false
may_end (More n) = false
may_end NoId = false
may_end Id = true
may_end NextId = false
may_end Ids = true
