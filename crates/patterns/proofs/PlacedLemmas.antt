-- Each part of a pattern that is read is what its place asks for.
use Rattle.std.proofs.Common.{◌≡◌, ◌∙◌, ◌+◌, ◌-◌, ◌<◌, ◌≤◌, ◌&&◌, ℕ, zero, suc, Bool, true, false}
use Rattle.std.proofs.Common.{List, [], ◌∷◌, Option, Some, None, Ok, Err, length, nat_lt, refl}
use Rattle.std.proofs.Common.{sym, ap}
use Rattle.std.proofs.Common.{arith}
use Rattle.std.proofs.lemmas.Bool.{and_from, and_parts, false≢true}
use Rattle.std.proofs.lemmas.Bool.Decides.{nat_tests}
use Rattle.std.specs.Prelude.{if◌then◌else◌}
use Rattle.mail_base.specs.Blanks.{is_blank}
use Rattle.patterns.specs.Faults.{◌>>?◌, Reading, TooDeep}
use Rattle.patterns.specs.Laws.{ReadPatternsArePlaced}
use Rattle.patterns.specs.Patterns.{Opened, Side, State, at_first, close, closed, ended, is_simple}
use Rattle.patterns.specs.Patterns.{joined, parenthesis_at}
use Rattle.patterns.specs.Patterns.{more_of, most_open, nothing_read, pattern_of, read_from}
use Rattle.patterns.specs.Patterns.{simple, step}
use Rattle.patterns.specs.Patterns.{stepped, tree_of, whole_of, with_term}
use Rattle.patterns.specs.Printed.{is_placed, is_terms, nests_in}
use Rattle.patterns.specs.Tokens.{Token, Open, Close, Bar, Bang, Term, token_at}
use Rattle.patterns_match.specs.Trees.{Days, Tree, Asks, And, Or, is_term, negated}
use Rattle.patterns_match.specs.declared.relation.Relation.{Relation}

-- a tree in which so many parentheses are open at once
abbrev fits_in : ℕ → Tree → Bool
fits_in k tree = is_placed tree && nests_in tree k

-- the same of terms side by side
abbrev is_operand : ℕ → Tree → Bool
is_operand k tree = is_terms tree && fits_in k tree

abbrev if_some : (Tree → Bool) → Option Tree → Bool
if_some p None = true
if_some p (Some tree) = p tree

abbrev if_read : (Tree → Bool) → Reading Tree → Bool
if_read p (Ok tree) = p tree
if_read p (Err fault) = true

record IsGood (k : ℕ) (s : Side) : Type 0 where
  either : if_some (fits_in k) s.either ≡ true
  both : if_some (is_operand k) s.both ≡ true

abbrev AreGood : List Opened → Type 0
AreGood [] = Unit {0}
AreGood (o ∷ opened) = IsGood (64 - length opened) o.before × AreGood opened

record IsGoodState (s : State) : Type 0 where
  side : IsGood (64 - length s.opened) s.side
  opened : AreGood s.opened
  few : length s.opened ≤ 64

abbrev IsGoodReading : Reading State → Type 0
IsGoodReading (Ok s) = IsGoodState s
IsGoodReading (Err fault) = Unit {0}

-- Terms.

term_terms : (tree : Tree) → is_term tree ≡ true → is_terms tree ≡ true
term_terms (Or a b) is = absurd (false≢true is)
term_terms _ is = refl

negated_term : (n : ℕ) (tree : Tree) → is_term tree ≡ true → is_term (negated n tree) ≡ true
negated_term zero tree is = is
negated_term (suc n) tree is = negated_term n tree is

negated_fits : (k n : ℕ) (tree : Tree) → is_term tree ≡ true → fits_in k tree ≡ true
    → fits_in k (negated n tree) ≡ true
negated_fits k zero tree is fits = fits
negated_fits k (suc n) tree is fits =
    let below = negated n tree in
    let parts = and_parts (is_placed below) (nests_in below k) (negated_fits k n tree is fits) in
    and_from _ _ (and_from _ _ (negated_term n tree is) parts.0) parts.1

joined_good : (k : ℕ) (both : Option Tree) (tree : Tree) → is_term tree ≡ true
    → fits_in k tree ≡ true → if_some (is_operand k) both ≡ true
    → is_operand k (joined And both tree) ≡ true
joined_good k None tree is fits good = and_from _ _ (term_terms tree is) fits
joined_good k (Some before) tree is fits good =
    let here = and_parts (is_placed tree) (nests_in tree k) fits in
    let left = and_parts (is_terms before) (fits_in k before) good in
    let there = and_parts (is_placed before) (nests_in before k) left.1 in
    and_from _ _ (and_from _ _ (and_from _ _ (and_from _ _ left.0 is) there.0) here.0)
    (and_from _ _ there.1 here.1)

with_term_good : (k : ℕ) (s : Side) (tree : Tree) → is_term tree ≡ true → fits_in k tree ≡ true
    → IsGood k s → IsGood k (with_term s tree)
with_term_good k s tree is fits good = record {
  either = good.either;
  both = joined_good k s.both (negated s.nots tree) (negated_term s.nots tree is)
      (negated_fits k s.nots tree is fits) good.both;
}

whole_good : (k nots : ℕ) (either both : Option Tree) → if_some (fits_in k) either ≡ true
    → if_some (is_operand k) both ≡ true → if_read (fits_in k) (whole_of nots either both) ≡ true
whole_good k (suc n) either both left right = refl
whole_good k zero either None left right = refl
whole_good k zero None (Some both) left right =
    (and_parts (is_terms both) (fits_in k both) right).1
whole_good k zero (Some before) (Some both) left right =
    let here = and_parts (is_terms both) (fits_in k both) right in
    let there = and_parts (is_placed both) (nests_in both k) here.1 in
    let first = and_parts (is_placed before) (nests_in before k) left in
    and_from _ _ (and_from _ _ (and_from _ _ here.0 first.0) there.0)
    (and_from _ _ first.1 there.1)

-- Tokens.

closed_term : (relation : Option Relation) (tree : Tree) → is_term (closed relation tree) ≡ true
closed_term None tree = refl
closed_term (Some relation) tree = refl

closed_fits : (relation : Option Relation) (k : ℕ) (tree : Tree) → 0 < k
    → fits_in (k - 1) tree ≡ true → fits_in k (closed relation tree) ≡ true
closed_fits None k tree some fits =
    let parts = and_parts (is_placed tree) (nests_in tree (k - 1)) fits in
    let room : nat_lt 0 k ≡ true = grind (arith, nat_tests) in
    and_from _ _ parts.0 (and_from _ _ room parts.1)
closed_fits (Some relation) k tree some fits =
    let parts = and_parts (is_placed tree) (nests_in tree (k - 1)) fits in
    let room : nat_lt 0 k ≡ true = grind (arith, nat_tests) in
    and_from _ _ parts.0 (and_from _ _ room parts.1)

close_good : (o : Opened) (opened : List Opened) (found : Reading Tree)
    → length (o ∷ opened) ≤ 64 → if_read (fits_in (64 - length (o ∷ opened))) found ≡ true
    → IsGood (64 - length opened) o.before → AreGood opened
    → IsGoodReading (found >>? (λ tree. Ok (record {
      side = with_term o.before (closed o.relation tree);
      opened = opened;
    })))
close_good o opened (Err fault) few fits before rest = tt
close_good o opened (Ok tree) few fits before rest =
    let less : 64 - length (o ∷ opened) ≡ 64 - length opened - 1 = omega arith in
    record {
      side = with_term_good (64 - length opened) o.before (closed o.relation tree)
          (closed_term o.relation tree)
          (closed_fits o.relation (64 - length opened) tree (omega arith)
          (ap (λ k. fits_in k tree) (sym less) ∙ fits)) before;
      opened = rest;
      few = omega arith;
    }

bar_good : (opened : List Opened) (found : Reading Tree) → length opened ≤ 64
    → if_read (fits_in (64 - length opened)) found ≡ true → AreGood opened
    → IsGoodReading (found >>? (λ tree. Ok (record {
      side = record { either = Some tree; both = None; nots = 0 };
      opened = opened;
    })))
bar_good opened (Err fault) few fits rest = tt
bar_good opened (Ok tree) few fits rest = record {
  side = record { either = fits; both = refl };
  opened = rest;
  few = few;
}

open_good : (s t : State) (room : Bool) → nat_lt (length s.opened) most_open ≡ room
    → (length s.opened < 64 → IsGoodState t) → IsGoodReading (if room then Ok t else Err TooDeep)
open_good s t true is good = good (grind (arith, nat_tests))
open_good s t false is good = tt

step_good : (place : ℕ) (s : State) (token : Token) → IsGoodState s
    → IsGoodReading (step place s token)
step_good place s (Open relation) good =
    open_good s (record {
      side = nothing_read;
      opened = record {
        place = parenthesis_at place relation;
        relation = relation;
        before = s.side;
      } ∷ s.opened;
    }) (nat_lt (length s.opened) most_open) refl
    (λ room. record {
      side = record { either = refl; both = refl };
      opened = (good.side, good.opened);
      few = omega arith;
    })
step_good place s Close good = by_opened s.opened s.side good.side good.opened good.few
  where
    by_opened : (opened : List Opened) (side : Side) → IsGood (64 - length opened) side
        → AreGood opened → length opened ≤ 64 → IsGoodReading (close place side opened)
    by_opened [] side here rest few = tt
    by_opened (o ∷ opened) side here rest few =
        close_good o opened (tree_of side) few
        (whole_good (64 - length (o ∷ opened)) side.nots side.either side.both here.either
        here.both)
        rest.0 rest.1
step_good place s Bar good =
    let here = good.side in
    bar_good s.opened (tree_of s.side) good.few
    (whole_good (64 - length s.opened) s.side.nots s.side.either s.side.both here.either here.both)
    good.opened
step_good place s Bang good =
    let here = good.side in record {
      side = record { either = here.either; both = here.both };
      opened = good.opened;
      few = good.few;
    }
step_good place s (Term leaf) good = record {
  side = with_term_good (64 - length s.opened) s.side (Asks leaf) refl refl good.side;
  opened = good.opened;
  few = good.few;
}

-- Texts.

stepped_good : (place : ℕ) (s : State) (found : Reading (Token × List ℕ)) → IsGoodState s
    → IsGoodReading (stepped place s found)
stepped_good place s (Err fault) good = tt
stepped_good place s (Ok p) good = step_good place s p.0 good

then_good : (state : Reading State) (place : ℕ) (found : Reading (Token × List ℕ))
    → IsGoodReading state → IsGoodReading (state >>? (λ s. stepped place s found))
then_good (Err fault) place found good = tt
then_good (Ok s) place found good = stepped_good place s found good

ended_good : (side : Side) (opened : List Opened) → IsGood (64 - length opened) side
    → if_read (fits_in 64) (ended side opened) ≡ true
ended_good side [] good = whole_good 64 side.nots side.either side.both good.either good.both
ended_good side (o ∷ opened) good = refl

end_good : (state : Reading State) → IsGoodReading state
    → if_read (fits_in 64) (state >>? (λ s. ended s.side s.opened)) ≡ true
end_good (Err fault) good = refl
end_good (Ok s) good = ended_good s.side s.opened good.side

either_read : (p : Tree → Bool) (t : Bool) (x y : Reading Tree) → if_read p x ≡ true
    → if_read p y ≡ true → if_read p (if t then x else y) ≡ true
either_read p true x y first second = first
either_read p false x y first second = second

read_good : (days : List ℕ → Option Days) (n place : ℕ) (state : Reading State) (text : List ℕ)
    → IsGoodReading state → if_read (fits_in 64) (read_from days n place state text) ≡ true
read_good days n place state [] good = end_good state good
read_good days (suc n) place state (b ∷ rest) good =
    read_good days n (place + 1) state rest good
read_good days zero place state (b ∷ rest) good =
    let found = token_at days place b rest in
    either_read (fits_in 64) (is_blank b) (read_from days 0 (place + 1) state rest)
    (read_from days (more_of rest found) (place + 1) (state >>? (λ s. stepped place s found)) rest)
    (read_good days 0 (place + 1) state rest good)
    (read_good days (more_of rest found) (place + 1) (state >>? (λ s. stepped place s found)) rest
    (then_good state place found good))

pattern_good : (days : List ℕ → Option Days) (text : List ℕ)
    → if_read (fits_in 64) (pattern_of days text) ≡ true
pattern_good days [] = refl
pattern_good days (b ∷ rest) =
    either_read (fits_in 64) (is_simple (b ∷ rest)) (Ok (simple (b ∷ rest)))
    (read_from days 0 0 (Ok at_first) (b ∷ rest)) refl
    (read_good days 0 0 (Ok at_first) (b ∷ rest) (record {
      side = record { either = refl; both = refl };
      opened = tt;
      few = omega arith;
    }))

pub patterns_are_placed : ReadPatternsArePlaced
patterns_are_placed days text tree is =
    sym (ap (if_read (fits_in 64)) is) ∙ pattern_good days text
