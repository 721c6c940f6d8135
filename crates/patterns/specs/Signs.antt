-- The letter of what a term asks.
use Rattle.std.specs.Prelude.{ℕ}
use Rattle.std.specs.Str.{byte}
use Rattle.patterns_match.specs.declared.letter.Day.{Day}
use Rattle.patterns_match.specs.declared.letter.Day.TheVariants.{Sent, Received}
use Rattle.patterns_match.specs.declared.letter.Field.{Field}
use Rattle.patterns_match.specs.declared.letter.Field.TheVariants.{Body, Whole, Header, Cc}
use Rattle.patterns_match.specs.declared.letter.Field.TheVariants.{Recipients}
use Rattle.patterns_match.specs.declared.letter.Field.TheVariants.{To, From, Sender, Anyone, Id}
use Rattle.patterns_match.specs.declared.letter.Field.TheVariants.{Subject}
use Rattle.patterns_match.specs.declared.letter.Field.TheVariants.{References, Label, ContentType}
use Rattle.patterns_match.specs.declared.letter.Mark.{Mark}
use Rattle.patterns_match.specs.declared.letter.Mark.TheVariants.{All, Deleted, Flagged, New, Old}
use Rattle.patterns_match.specs.declared.letter.Mark.TheVariants.{Replied, Read, Tagged, Unread}
use Rattle.patterns_match.specs.declared.letter.Mark.TheVariants.{KnownList, Subscribed, ToMe}
use Rattle.patterns_match.specs.declared.letter.Mark.TheVariants.{FromMe}
use Rattle.patterns_match.specs.declared.letter.Mark.TheVariants.{Collapsed, Duplicate, Childless}
use Rattle.patterns_match.specs.declared.letter.Number.{Number}
use Rattle.patterns_match.specs.declared.letter.Number.TheVariants.{Place, Score, Attachments}
use Rattle.patterns_match.specs.declared.letter.Number.TheVariants.{Bytes}

-- the letter without an argument that tells a mark
abbrev pub mark_sign : Mark → ℕ
mark_sign All = byte "A"
mark_sign Deleted = byte "D"
mark_sign Flagged = byte "F"
mark_sign New = byte "N"
mark_sign Old = byte "O"
mark_sign Replied = byte "Q"
mark_sign Read = byte "R"
mark_sign Tagged = byte "T"
mark_sign Unread = byte "U"
mark_sign KnownList = byte "l"
mark_sign Subscribed = byte "u"
mark_sign ToMe = byte "p"
mark_sign FromMe = byte "P"
mark_sign Collapsed = byte "v"
mark_sign Duplicate = byte "="
mark_sign Childless = byte "$"

-- the letter that searches in a field
abbrev pub field_sign : Field → ℕ
field_sign Body = byte "b"
field_sign Whole = byte "B"
field_sign Header = byte "h"
field_sign Cc = byte "c"
field_sign Recipients = byte "C"
field_sign To = byte "t"
field_sign From = byte "f"
field_sign Sender = byte "e"
field_sign Anyone = byte "L"
field_sign Id = byte "i"
field_sign Subject = byte "s"
field_sign References = byte "x"
field_sign Label = byte "y"
field_sign ContentType = byte "M"

-- the letter of a date
abbrev pub day_sign : Day → ℕ
day_sign Sent = byte "d"
day_sign Received = byte "r"

-- the letter of a number
abbrev pub number_sign : Number → ℕ
number_sign Place = byte "m"
number_sign Score = byte "n"
number_sign Attachments = byte "X"
number_sign Bytes = byte "z"
