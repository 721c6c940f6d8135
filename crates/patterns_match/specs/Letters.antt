-- The letters of patterns (Mutt's manual, "Pattern Modifier").
use Rattle.std.specs.Prelude.{◌==◌, ℕ, List, [], ◌∷◌, Option, find, option_map}
use Rattle.std.specs.Str.{byte}
use Rattle.patterns_match.specs.declared.letter.Letter.{Letter}
use Rattle.patterns_match.specs.declared.letter.Letter.TheVariants.{Tells, Searches, Dated, Counts}
use Rattle.patterns_match.specs.declared.letter.Mark.TheVariants.{All, Deleted, Flagged, New, Old}
use Rattle.patterns_match.specs.declared.letter.Mark.TheVariants.{Replied, Read, Tagged, Unread}
use Rattle.patterns_match.specs.declared.letter.Mark.TheVariants.{KnownList, Subscribed, ToMe}
use Rattle.patterns_match.specs.declared.letter.Mark.TheVariants.{FromMe, Collapsed, Duplicate}
use Rattle.patterns_match.specs.declared.letter.Mark.TheVariants.{Childless}
use Rattle.patterns_match.specs.declared.letter.Field.TheVariants.{Body, Whole, Header, Cc}
use Rattle.patterns_match.specs.declared.letter.Field.TheVariants.{Recipients, To, From, Sender}
use Rattle.patterns_match.specs.declared.letter.Field.TheVariants.{Anyone, Id, Subject, References}
use Rattle.patterns_match.specs.declared.letter.Field.TheVariants.{Label, ContentType}
use Rattle.patterns_match.specs.declared.letter.Day.TheVariants.{Sent, Received}
use Rattle.patterns_match.specs.declared.letter.Number.TheVariants.{Place, Score, Attachments}
use Rattle.patterns_match.specs.declared.letter.Number.TheVariants.{Bytes}

-- a letter, and what it stands for
pub record Row : Type 0 where
  pub sign : ℕ
  pub letter : Letter

-- a line of the table
abbrev pub row : ℕ → Letter → Row
row sign letter = record { sign = sign; letter = letter }

-- the table of letters
unfoldable pub rows : List Row
rows =
    row (byte "A") (Tells All)
    ∷ row (byte "b") (Searches Body)
    ∷ row (byte "B") (Searches Whole)
    ∷ row (byte "h") (Searches Header)
    ∷ row (byte "c") (Searches Cc)
    ∷ row (byte "C") (Searches Recipients)
    ∷ row (byte "t") (Searches To)
    ∷ row (byte "f") (Searches From)
    ∷ row (byte "e") (Searches Sender)
    ∷ row (byte "L") (Searches Anyone)
    ∷ row (byte "d") (Dated Sent)
    ∷ row (byte "r") (Dated Received)
    ∷ row (byte "D") (Tells Deleted)
    ∷ row (byte "F") (Tells Flagged)
    ∷ row (byte "N") (Tells New)
    ∷ row (byte "O") (Tells Old)
    ∷ row (byte "Q") (Tells Replied)
    ∷ row (byte "R") (Tells Read)
    ∷ row (byte "T") (Tells Tagged)
    ∷ row (byte "U") (Tells Unread)
    ∷ row (byte "i") (Searches Id)
    ∷ row (byte "s") (Searches Subject)
    ∷ row (byte "x") (Searches References)
    ∷ row (byte "y") (Searches Label)
    ∷ row (byte "l") (Tells KnownList)
    ∷ row (byte "u") (Tells Subscribed)
    ∷ row (byte "p") (Tells ToMe)
    ∷ row (byte "P") (Tells FromMe)
    ∷ row (byte "m") (Counts Place)
    ∷ row (byte "n") (Counts Score)
    ∷ row (byte "X") (Counts Attachments)
    ∷ row (byte "z") (Counts Bytes)
    ∷ row (byte "M") (Searches ContentType)
    ∷ row (byte "v") (Tells Collapsed)
    ∷ row (byte "=") (Tells Duplicate)
    ∷ row (byte "$") (Tells Childless)
    ∷ []

-- what a letter stands for, if it is one
unfoldable pub letter_of : ℕ → Option Letter
letter_of sign = option_map (λ r. r.letter) (find (λ r. r.sign == sign) rows)
