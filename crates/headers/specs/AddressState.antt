-- What the bytes of an address list are: text, quotes, comments, brackets, separators (RFC 5322,
-- sections 3.2, 3.4).
use Rattle.std.specs.Prelude.{◌+◌, ◌-◌, ◌==◌, ◌||◌, ℕ, Bool, true, false, not, nat_le, List, []}
use Rattle.std.specs.Prelude.{◌∷◌, if◌then◌else◌}
use Rattle.std.specs.Str.{byte}
use Rattle.headers.specs.declared.address_byte.AddressByte.{AddressByte}
use Rattle.headers.specs.declared.address_byte.Role.{Role}
use Rattle.headers.specs.declared.address_byte.Role.TheVariants.{Text, Quote, CommentStart}
use Rattle.headers.specs.declared.address_byte.Role.TheVariants.{CommentText, CommentEnd}
use Rattle.headers.specs.declared.address_byte.Role.TheVariants.{AngleStart, AngleEnd, GroupEnd}
use Rattle.headers.specs.declared.address_byte.Role.TheVariants.{Separator}
use Rattle.headers.specs.declared.address_state.AddressState.{AddressState}
use Rattle.headers.specs.declared.address_state.Within.{Within}
use Rattle.headers.specs.declared.address_state.Within.TheVariants.{Plain, Quotes, QuotedPair}
use Rattle.headers.specs.declared.address_state.Within.TheVariants.{Comment, CommentPair}

-- where in an address list a byte stands
abbrev pub state_in : Bool → Within → AddressState
state_in in_angle within = record { in_angle = in_angle; within = within }

-- outside quotes and comments
abbrev pub plain_step : Bool → ℕ → Role × AddressState
plain_step in_angle b =
    if b == byte "\"" then (Quote, state_in in_angle Quotes)
    else (if b == byte "(" then (CommentStart, state_in in_angle (Comment 1))
    else (if in_angle
    then (if b == byte ">" then (AngleEnd, state_in false Plain)
    else (Text, state_in true Plain))
    else (if b == byte "<" then (AngleStart, state_in true Plain)
    else (if b == byte ":" then (GroupEnd, state_in false Plain)
    else (if b == byte "," || b == byte ";" then (Separator, state_in false Plain)
    else (Text, state_in false Plain))))))

-- in quotes a backslash makes the byte behind it text (section 3.2.4)
abbrev pub quotes_step : ℕ → Role × Within
quotes_step b =
    if b == byte "\"" then (Quote, Plain)
    else (if b == byte "\\" then (Quote, QuotedPair) else (Text, Quotes))

-- comments may stand in comments (section 3.2.2)
abbrev pub comment_step : ℕ → ℕ → Role × Within
comment_step depth b =
    if b == byte "\\" then (CommentText, CommentPair depth)
    else (if b == byte "(" then (CommentText, Comment (depth + 1))
    else (if b == byte ")"
    then (if nat_le depth 1 then (CommentEnd, Plain) else (CommentText, Comment (depth - 1)))
    else (CommentText, Comment depth)))

-- in brackets or not as before
abbrev pub with_angle : Bool → Role × Within → Role × AddressState
with_angle in_angle p = (p.0, state_in in_angle p.1)

-- what a byte is by where it stands, and where the next one does
abbrev pub step_at : Bool → Within → ℕ → Role × AddressState
step_at in_angle Plain b = plain_step in_angle b
step_at in_angle Quotes b = with_angle in_angle (quotes_step b)
step_at in_angle QuotedPair b = with_angle in_angle (Text, Quotes)
step_at in_angle (Comment depth) b = with_angle in_angle (comment_step depth b)
step_at in_angle (CommentPair depth) b = with_angle in_angle (CommentText, Comment depth)

-- what a byte is, and the state behind it
abbrev pub step : AddressState → ℕ → Role × AddressState
step s b = step_at s.in_angle s.within b

-- how many comments are open
abbrev pub depth_at : Within → ℕ
depth_at Plain = 0
depth_at Quotes = 0
depth_at QuotedPair = 0
depth_at (Comment depth) = depth
depth_at (CommentPair depth) = depth

-- the bytes behind a state, each with what it is
abbrev pub bytes_from : AddressState → List ℕ → List AddressByte
bytes_from s [] = []
bytes_from s (b ∷ rest) = record { byte = b; role = (step s b).0 } ∷ bytes_from (step s b).1 rest

-- the bytes of an address list, each with what it is
abbrev pub address_bytes : List ℕ → List AddressByte
address_bytes value = bytes_from (state_in false Plain) value

-- For the code alone.

-- a byte that is text wherever it stands outside quotes and comments
abbrev pub is_common : ℕ → Bool
is_common b =
    not (b == byte "\"" || b == byte "(" || b == byte "," || b == byte ":" || b == byte ";"
    || b == byte "<" || b == byte ">")
