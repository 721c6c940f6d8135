-- The tokens of a pattern, each read at the front of a text that stands at a place.
use Rattle.std.specs.Prelude.{◌==◌, ◌||◌, ◌&&◌, ◌+◌, ◌-◌, ℕ, Bool, true, false, not, List, [], ◌∷◌}
use Rattle.std.specs.Prelude.{length, Option}
use Rattle.std.specs.Prelude.{Some, None, Ok, Err, if◌then◌else◌}
use Rattle.std.specs.Borrow.{Bor}
use Rattle.std.specs.Str.{byte}
use Rattle.mail_base.specs.Blanks.{without_blanks}
use Rattle.patterns.specs.Arguments.{argument_at, is_quote}
use Rattle.patterns.specs.Faults.{◌>>?◌, BadDate, BadRange, Empty, Fault, Reading, Unbalanced}
use Rattle.patterns.specs.Faults.{UnknownLetter}
use Rattle.patterns_match.specs.Letters.{letter_of}
use Rattle.patterns_match.specs.Ranges.{range_map}
use Rattle.patterns.specs.RangeTexts.{range_of}
use Rattle.jiff_core.specs.Date.{epoch_day}
use Rattle.patterns.specs.declared.token.Leaf.{Leaf as HeldLeaf}
use Rattle.patterns.specs.declared.token.Leaf.TheVariants as held
use Rattle.patterns.specs.declared.token.Token.{Token as HeldToken}
use Rattle.patterns.specs.declared.token.Token.TheVariants as token
use Rattle.patterns_match.specs.Trees.{Days, Leaf, Tells, Searches, Dated, Counts}
use Rattle.patterns_match.specs.declared.letter.Letter.{Letter}
use Rattle.patterns_match.specs.declared.letter.Letter.TheVariants as letter
use Rattle.patterns_match.specs.declared.letter.Number.{Number}
use Rattle.patterns_match.specs.declared.letter.Number.TheVariants.{Place, Score, Attachments}
use Rattle.patterns_match.specs.declared.letter.Number.TheVariants.{Bytes}
use Rattle.patterns.specs.declared.range_text.Measure.{Measure}
use Rattle.patterns.specs.declared.range_text.Measure.TheVariants.{Count, Size}
use Rattle.patterns_match.specs.declared.relation.Relation.{Relation}
use Rattle.patterns_match.specs.declared.relation.Relation.TheVariants.{Thread, Parent, Child}

-- what stands next in a pattern, but blanks
pub data Token : Type 0 where
  Open : Option Relation → Token
  Close : Token
  Bar : Token
  Bang : Token
  Term : Leaf → Token

-- how the numbers of a range are written
abbrev pub measure_of : Number → Measure
measure_of Place = Count
measure_of Score = Count
measure_of Attachments = Count
measure_of Bytes = Size

-- no quote stands at the front
abbrev pub begins_no_quote : List ℕ → Bool
begins_no_quote [] = true
begins_no_quote (b ∷ rest) = not (is_quote b)

-- a value, or the fault where there is none
abbrev pub or_fault : {X : Type 0} → Fault → Option X → Reading X
or_fault fault None = Err fault
or_fault fault (Some x) = Ok x

-- an argument that is missing: nothing stands there, not even quotes
abbrev pub is_missing : List ℕ → List ℕ → Bool
is_missing [] text = begins_no_quote text
is_missing (b ∷ argument) text = false

-- the fault of a letter whose argument, at this place, is missing
abbrev pub missing_fault : Letter → ℕ → Fault
missing_fault (letter.Tells mark) place = Empty
missing_fault (letter.Searches field) place = Empty
missing_fault (letter.Dated day) place = BadDate place
missing_fault (letter.Counts number) place = BadRange place

-- The term of a letter and its argument, which stands at this place. Dates are read by a function
-- of their text; `plain` tells that what is searched for is no expression.
abbrev pub leaf_of : (List ℕ → Option Days) → Bool → Letter → ℕ → List ℕ → Reading Leaf
leaf_of days plain (letter.Tells mark) place text = Ok (Tells mark)
leaf_of days plain (letter.Searches field) place text = Ok (Searches field plain text)
leaf_of days plain (letter.Dated day) place text =
    or_fault (BadDate place) (days text) >>? (λ range. Ok (Dated day range))
leaf_of days plain (letter.Counts number) place text =
    or_fault (BadRange place) (range_of (measure_of number) text)
    >>? (λ range. Ok (Counts number range))

-- the term of a letter whose argument stands at the front of a text
abbrev pub with_argument : (List ℕ → Option Days) → Bool → Letter → ℕ → List ℕ
    → Reading (Token × List ℕ)
with_argument days plain letter place text =
    or_fault (Unbalanced place) (argument_at text)
    >>? (λ p. (if is_missing p.0 text then Err (missing_fault letter place)
    else leaf_of days plain letter place p.0)
    >>? (λ leaf. Ok (Term leaf, p.1)))

-- the term of a letter, behind which a text stands at a place
abbrev pub term_of : (List ℕ → Option Days) → Bool → Letter → ℕ → List ℕ
    → Reading (Token × List ℕ)
term_of days plain (letter.Tells mark) place text = Ok (Term (Tells mark), text)
term_of days plain letter place text =
    let argument = without_blanks text in
    with_argument days plain letter (place + (length text - length argument)) argument

-- the parenthesis of a relation, and what follows it
abbrev pub relation_at : List ℕ → Option (Relation × List ℕ)
relation_at [] = None
relation_at (b ∷ []) = if b == byte "(" then Some (Thread, []) else None
relation_at (b ∷ c ∷ rest) =
    if b == byte "(" then Some (Thread, c ∷ rest)
    else (if b == byte "<" && c == byte "(" then Some (Parent, rest)
    else (if b == byte ">" && c == byte "(" then Some (Child, rest) else None))

-- what stands behind `~` or `=` at a place, which has no relation
abbrev pub letter_at : (List ℕ → Option Days) → Bool → ℕ → List ℕ → Reading (Token × List ℕ)
letter_at days plain place [] = Err (UnknownLetter place)
letter_at days plain place (b ∷ rest) =
    or_fault (UnknownLetter place) (letter_of b)
    >>? (λ letter. term_of days plain letter (place + 1) rest)

-- the parenthesis of a relation, if one stands there, or else a letter
abbrev pub sign_at : (List ℕ → Option Days) → Bool → ℕ → List ℕ → Option (Relation × List ℕ)
    → Reading (Token × List ℕ)
sign_at days plain place text None = letter_at days plain place text
sign_at days plain place text (Some (relation, rest)) = Ok (Open (Some relation), rest)

-- the token at the front of a text without a blank there
abbrev pub token_at : (List ℕ → Option Days) → ℕ → ℕ → List ℕ → Reading (Token × List ℕ)
token_at days place b rest =
    if b == byte "(" then Ok (Open None, rest)
    else (if b == byte ")" then Ok (Close, rest)
    else (if b == byte "|" then Ok (Bar, rest)
    else (if b == byte "!" then Ok (Bang, rest)
    else (if b == byte "~" || b == byte "="
    then sign_at days (b == byte "=") (place + 1) rest (relation_at rest)
    else Err (UnknownLetter place)))))

-- For the code alone: tokens as they are held.

-- a term with its text and days as they are seen
abbrev pub plain_leaf : HeldLeaf → Leaf
plain_leaf (held.Tells mark) = Tells mark
plain_leaf (held.Searches field plain text) = Searches field plain text.now
plain_leaf (held.Dated day range) = Dated day (range_map epoch_day range)
plain_leaf (held.Counts number range) = Counts number range

-- a token with its term so
abbrev pub plain_token : HeldToken → Token
plain_token (token.Open relation) = Open relation
plain_token token.Close = Close
plain_token token.Bar = Bar
plain_token token.Bang = Bang
plain_token (token.Term leaf) = Term (plain_leaf leaf)

-- a token with what follows it
abbrev pub plain_read : HeldToken × Bor (List ℕ) → Token × List ℕ
plain_read p = (plain_token p.0, p.1.now)
