-- Patterns as they are written, and which can be.
use Rattle.std.specs.Prelude.{◌==◌, ◌&&◌, ◌||◌, ◌++◌, ◌-◌, ℕ, Bool, true, false, not, nat_le}
use Rattle.std.specs.Prelude.{nat_lt}
use Rattle.std.specs.Prelude.{List, [], ◌∷◌, if◌then◌else◌}
use Rattle.std.specs.Fmt.{decimal}
use Rattle.std.specs.List.{list_all}
use Rattle.std.specs.Str.{byte}
use Rattle.patterns.specs.Arguments.{is_end, is_quote}
use Rattle.patterns.specs.Numbers.{greatest}
use Rattle.patterns.specs.Patterns.{most_open}
use Rattle.patterns.specs.Signs.{day_sign, field_sign, mark_sign, number_sign}
use Rattle.patterns_match.specs.Leaves.{every}
use Rattle.patterns_match.specs.Trees.{Days, Leaf, Tells, Searches, Dated, Counts, is_term}
use Rattle.patterns_match.specs.Trees.{Tree, Asks, Not, And, Or, Group, Related}
use Rattle.patterns_match.specs.declared.range.Range.{Range}
use Rattle.patterns_match.specs.declared.range.Range.TheVariants as range
use Rattle.patterns_match.specs.declared.relation.Relation.{Relation}
use Rattle.patterns_match.specs.declared.relation.Relation.TheVariants.{Thread, Parent, Child}

-- Written.

-- a range of numbers, without units
abbrev pub printed_range : Range ℕ → List ℕ
printed_range (range.Exactly n) = decimal n
printed_range (range.Between low high) = decimal low ++ byte "-" ∷ decimal high
printed_range (range.UpTo high) = byte "-" ∷ decimal high
printed_range (range.From low) = decimal low ++ byte "-" ∷ []
printed_range (range.Below n) = byte "<" ∷ decimal n
printed_range (range.Above n) = byte ">" ∷ decimal n

-- the byte does not stand in the text
abbrev pub lacks : ℕ → List ℕ → Bool
lacks b text = list_all (λ x. not (x == b)) text

-- an argument that needs no quotes
abbrev pub is_bare : List ℕ → Bool
is_bare [] = false
is_bare (b ∷ rest) = not (is_quote b) && list_all (λ x. not (is_end x)) (b ∷ rest)

-- a text in quotes of one kind
abbrev pub quoted : ℕ → List ℕ → List ℕ
quoted quote text = quote ∷ (text ++ quote ∷ [])

-- an argument, in quotes where it needs them
abbrev pub printed_argument : List ℕ → List ℕ
printed_argument text =
    if is_bare text then text
    else (if lacks (byte "\"") text then quoted (byte "\"") text else quoted (byte "'") text)

-- what begins a search
abbrev pub search_sign : Bool → ℕ
search_sign plain = if plain then byte "=" else byte "~"

-- a term, where ranges of days are written so
abbrev pub printed_leaf : (Days → List ℕ) → Leaf → List ℕ
printed_leaf write (Tells mark) = byte "~" ∷ mark_sign mark ∷ []
printed_leaf write (Searches field plain text) =
    search_sign plain ∷ field_sign field ∷ byte " " ∷ printed_argument text
printed_leaf write (Dated day days) = byte "~" ∷ day_sign day ∷ byte " " ∷ write days
printed_leaf write (Counts number r) = byte "~" ∷ number_sign number ∷ byte " " ∷ printed_range r

-- the parenthesis of a relation
abbrev pub opening : Relation → List ℕ
opening Thread = byte "~" ∷ byte "(" ∷ []
opening Parent = byte "~" ∷ byte "<" ∷ byte "(" ∷ []
opening Child = byte "~" ∷ byte ">" ∷ byte "(" ∷ []

-- a pattern as it is written, where ranges of days are written so
abbrev pub printed : (Days → List ℕ) → Tree → List ℕ
printed write (Asks leaf) = printed_leaf write leaf
printed write (Not tree) = byte "!" ∷ printed write tree
printed write (And a b) = printed write a ++ byte " " ∷ printed write b
printed write (Or a b) = printed write a ++ byte " " ∷ byte "|" ∷ byte " " ∷ printed write b
printed write (Group tree) = byte "(" ∷ (printed write tree ++ byte ")" ∷ [])
printed write (Related relation tree) = opening relation ++ (printed write tree ++ byte ")" ∷ [])

-- Can be written.

-- the numbers of a range are not past the greatest
abbrev pub can_write_range : Range ℕ → Bool
can_write_range (range.Exactly n) = nat_le n greatest
can_write_range (range.Between low high) = nat_le low greatest && nat_le high greatest
can_write_range (range.UpTo high) = nat_le high greatest
can_write_range (range.From low) = nat_le low greatest
can_write_range (range.Below n) = nat_le n greatest
can_write_range (range.Above n) = nat_le n greatest

-- a text that needs no quotes, or has not both of them in it
abbrev pub can_write_text : List ℕ → Bool
can_write_text text = is_bare text || lacks (byte "\"") text || lacks (byte "'") text

-- a term, where these ranges of days can be written
abbrev pub can_write_leaf : (Days → Bool) → Leaf → Bool
can_write_leaf can (Tells mark) = true
can_write_leaf can (Searches field plain text) = can_write_text text
can_write_leaf can (Dated day days) = can days
can_write_leaf can (Counts number r) = can_write_range r

-- terms side by side, or one of them
abbrev pub is_terms : Tree → Bool
is_terms (Or a b) = false
is_terms _ = true

-- Each part of a pattern is what its place asks for: terms behind an exclamation mark and on the
-- right side of `And`, terms side by side on its left side and on the right side of `Or`.
abbrev pub is_placed : Tree → Bool
is_placed (Asks leaf) = true
is_placed (Not tree) = is_term tree && is_placed tree
is_placed (And a b) = is_terms a && is_term b && is_placed a && is_placed b
is_placed (Or a b) = is_terms b && is_placed a && is_placed b
is_placed (Group tree) = is_placed tree
is_placed (Related relation tree) = is_placed tree

-- at most so many parentheses are open in it at once
abbrev pub nests_in : Tree → ℕ → Bool
nests_in (Asks leaf) n = true
nests_in (Not tree) n = nests_in tree n
nests_in (And a b) n = nests_in a n && nests_in b n
nests_in (Or a b) n = nests_in a n && nests_in b n
nests_in (Group tree) n = nat_lt 0 n && nests_in tree (n - 1)
nests_in (Related relation tree) n = nat_lt 0 n && nests_in tree (n - 1)

-- a pattern, where these ranges of days can be written
abbrev pub can_write : (Days → Bool) → Tree → Bool
can_write can tree =
    is_placed tree && every (can_write_leaf can) true tree && nests_in tree most_open
