-- How a pattern is read: term by term, with the parentheses that are open.
use Rattle.std.specs.Prelude.{◌==◌, ◌+◌, ◌-◌, ℕ, zero, suc, Bool, ◌||◌, false, nat_lt, List, []}
use Rattle.std.specs.Prelude.{◌∷◌, length}
use Rattle.std.specs.Prelude.{Option, Some, None, Ok, Err, not, if◌then◌else◌}
use Rattle.std.specs.List.{list_any}
use Rattle.std.specs.Str.{byte}
use Rattle.mail_base.specs.Blanks.{is_blank}
use Rattle.patterns.specs.Faults.{◌>>?◌, Empty, Reading, TooDeep, Unbalanced}
use Rattle.patterns.specs.Tokens.{Token, Open, Close, Bar, Bang, Term, token_at}
use Rattle.patterns_match.specs.Trees.{Days, Tree, Asks, And, Or, Group, Related, Searches, negated}
use Rattle.patterns_match.specs.declared.letter.Field.TheVariants.{From, Subject}
use Rattle.patterns_match.specs.declared.relation.Relation.{Relation}
use Rattle.patterns_match.specs.declared.relation.Relation.TheVariants.{Thread, Parent, Child}

-- What was read of a pattern, or of what is in a parenthesis: the alternatives before the last bar,
-- the terms behind it, and the exclamation marks behind these.
pub record Side : Type 0 where
  pub either : Option Tree
  pub both : Option Tree
  pub nots : ℕ

-- nothing was read yet
abbrev pub nothing_read : Side
nothing_read = record { either = None; both = None; nots = 0 }

-- an open parenthesis: its place, the relation before it, and what was read before that
pub record Opened : Type 0 where
  pub place : ℕ
  pub relation : Option Relation
  pub before : Side

-- how many parentheses may be open
abbrev pub most_open : ℕ
most_open = 64

-- what was read so far, with the parentheses that are open, the last one first
pub record State : Type 0 where
  pub side : Side
  pub opened : List Opened

-- the state before the first token
abbrev pub at_first : State
at_first = record { side = nothing_read; opened = [] }

-- a tree beside those before it
abbrev pub joined : (Tree → Tree → Tree) → Option Tree → Tree → Tree
joined join None tree = tree
joined join (Some before) tree = join before tree

-- a further term
abbrev pub with_term : Side → Tree → Side
with_term side term = record side {
  both = Some (joined And side.both (negated side.nots term));
  nots = 0;
}

-- what a side has behind its last bar, where that is something
abbrev pub whole_of : ℕ → Option Tree → Option Tree → Reading Tree
whole_of (suc n) either both = Err Empty
whole_of zero either None = Err Empty
whole_of zero either (Some both) = Ok (joined Or either both)

-- a side as a tree
abbrev pub tree_of : Side → Reading Tree
tree_of side = whole_of side.nots side.either side.both

-- a parenthesis with what is in it
abbrev pub closed : Option Relation → Tree → Tree
closed None tree = Group tree
closed (Some relation) tree = Related relation tree

-- the parenthesis at a place is closed
abbrev pub close : ℕ → Side → List Opened → Reading State
close place side [] = Err (Unbalanced place)
close place side (o ∷ opened) =
    tree_of side >>? (λ tree. Ok (record {
      side = with_term o.before (closed o.relation tree);
      opened = opened;
    }))

-- the place of the parenthesis of a token, which stands behind the sign of a relation
abbrev pub parenthesis_at : ℕ → Option Relation → ℕ
parenthesis_at place None = place
parenthesis_at place (Some Thread) = place + 1
parenthesis_at place (Some Parent) = place + 2
parenthesis_at place (Some Child) = place + 2

-- a token at a place
abbrev pub step : ℕ → State → Token → Reading State
step place state (Open relation) =
    if nat_lt (length state.opened) most_open then Ok (record {
      side = nothing_read;
      opened = record {
        place = parenthesis_at place relation;
        relation = relation;
        before = state.side;
      } ∷ state.opened;
    })
    else Err TooDeep
step place state Close = close place state.side state.opened
step place state Bar =
    tree_of state.side >>? (λ tree. Ok (record state {
      side = record { either = Some tree; both = None; nots = 0 };
    }))
step place state Bang =
    Ok (record state { side = record state.side { nots = state.side.nots + 1 } })
step place state (Term leaf) = Ok (record state { side = with_term state.side (Asks leaf) })

-- the first parenthesis that is open
abbrev pub first_opened : Opened → List Opened → ℕ
first_opened o [] = o.place
first_opened o (p ∷ opened) = first_opened p opened

-- the end of the text
abbrev pub ended : Side → List Opened → Reading Tree
ended side [] = tree_of side
ended side (o ∷ opened) = Err (Unbalanced (first_opened o opened))

-- the bytes that a token takes behind its first
abbrev pub more_of : {X : Type 0} → List ℕ → Reading (X × List ℕ) → ℕ
more_of rest (Ok (token, left)) = length rest - length left
more_of rest (Err fault) = 0

-- a token and what follows it, in a state
abbrev pub stepped : ℕ → State → Reading (Token × List ℕ) → Reading State
stepped place state found = found >>? (λ p. step place state p.0)

-- Reads a text that stands at a place, behind so many bytes of it.
abbrev pub read_from : (List ℕ → Option Days) → ℕ → ℕ → Reading State → List ℕ → Reading Tree
read_from days n place state [] = state >>? (λ s. ended s.side s.opened)
read_from days (suc n) place state (b ∷ rest) = read_from days n (place + 1) state rest
read_from days zero place state (b ∷ rest) =
    if is_blank b then read_from days 0 (place + 1) state rest
    else read_from days (more_of rest (token_at days place b rest)) (place + 1)
    (state >>? (λ s. stepped place s (token_at days place b rest))) rest

-- a byte of those that begin a term
abbrev pub begins_term : ℕ → Bool
begins_term b = b == byte "~" || b == byte "=" || b == byte "%"

-- a text without these is searched for in From and Subject
abbrev pub is_simple : List ℕ → Bool
is_simple text = not (list_any begins_term text)

-- a text that is searched for in From and Subject
abbrev pub simple : List ℕ → Tree
simple text =
    Or (Asks (Searches From false text)) (Asks (Searches Subject false text))

-- the pattern that a text is, where dates are read so
abbrev pub pattern_of : (List ℕ → Option Days) → List ℕ → Reading Tree
pattern_of days [] = Err Empty
pattern_of days (b ∷ rest) =
    if is_simple (b ∷ rest) then Ok (simple (b ∷ rest))
    else read_from days 0 0 (Ok at_first) (b ∷ rest)
