-- Patterns that are written are read as themselves.
use Rattle.std.proofs.Common.{◌≡◌, ◌==◌, ◌+◌, ◌-◌, ◌<◌, ◌≤◌, ◌&&◌, ◌||◌, ◌++◌, ℕ, zero, suc, Bool}
use Rattle.std.proofs.Common.{true}
use Rattle.std.proofs.Common.{false, not, List, [], ◌∷◌, Option, Some, None, Ok, Err, drop, take}
use Rattle.std.proofs.Common.{length}
use Rattle.std.proofs.Common.{nat_lt, refl, sym, ap, subst, ◌∙◌, arith, append_assoc, length-append}
use Rattle.std.proofs.Math.Seq.{drop-append_seam, take-append_seam}
use Rattle.std.proofs.lemmas.Bool.{and_parts, false≢true}
use Rattle.std.proofs.lemmas.Bool.Decides.{nat_tests}
use Rattle.std.proofs.lemmas.List.{append-nil}
use Rattle.std.proofs.lemmas.List.Folds.{list_any-append}
use Rattle.std.specs.List.{list_all, list_any, position_or_len}
use Rattle.std.specs.Prelude.{if◌then◌else◌}
use Rattle.mail_base.specs.Blanks.{is_blank, without_blanks}
use Rattle.mail_base.specs.Places.{split_once}
use Rattle.mail_base.proofs.RoundPlaces.{prefix_all, prefix_stop}
use Rattle.patterns.specs.Arguments.{argument_at, is_end, is_quote, plain_argument}
use Rattle.patterns.specs.Faults.{◌>>?◌, BadDate, BadRange, Reading, TooDeep, Unbalanced}
use Rattle.patterns.specs.Faults.{UnknownLetter}
use Rattle.patterns.specs.Dates.{days_of}
use Rattle.patterns.specs.Laws.{PatternsAreRead}
use Rattle.patterns.specs.Patterns.{Opened, Side, State, at_first, begins_term, closed}
use Rattle.patterns.specs.Patterns.{joined, simple}
use Rattle.patterns.specs.Patterns.{more_of, parenthesis_at}
use Rattle.patterns.specs.Patterns.{most_open, nothing_read, pattern_of, read_from, step, stepped}
use Rattle.patterns.specs.Patterns.{tree_of, with_term}
use Rattle.patterns.specs.Printed.{can_write_leaf, can_write_text, is_bare, is_placed, is_terms}
use Rattle.patterns.specs.Printed.{lacks}
use Rattle.patterns.specs.Printed.{nests_in, printed, printed_argument, printed_leaf}
use Rattle.patterns.specs.Printed.{printed_range}
use Rattle.patterns.specs.Printed.{quoted, search_sign}
use Rattle.patterns.specs.Signs.{day_sign, field_sign, mark_sign, number_sign}
use Rattle.patterns.specs.Tokens.{Token, Open, Close, Bar, Bang, Term, is_missing, leaf_of}
use Rattle.patterns.specs.Tokens.{measure_of, missing_fault, or_fault, relation_at, sign_at}
use Rattle.patterns.specs.Tokens.{term_of, token_at}
use Rattle.patterns.specs.Tokens.{with_argument}
use Rattle.patterns_match.specs.Leaves.{every}
use Rattle.patterns_match.specs.Letters.{letter_of, rows}
use Rattle.patterns_match.specs.Trees.{Days, Leaf, Tells, Searches, Dated, Counts, is_term, negated}
use Rattle.patterns_match.specs.Trees.{Tree, Asks, Not, And, Or, Group, Related}
use Rattle.patterns_match.specs.declared.letter.Day.{Day}
use Rattle.patterns_match.specs.declared.letter.Day.TheVariants as day
use Rattle.patterns_match.specs.declared.letter.Field.{Field}
use Rattle.patterns_match.specs.declared.letter.Field.TheVariants as field
use Rattle.patterns_match.specs.declared.letter.Letter.{Letter}
use Rattle.patterns_match.specs.declared.letter.Letter.TheVariants as letter
use Rattle.patterns_match.specs.declared.letter.Mark.{Mark}
use Rattle.patterns_match.specs.declared.letter.Mark.TheVariants as mark
use Rattle.patterns_match.specs.declared.letter.Number.{Number}
use Rattle.patterns_match.specs.declared.letter.Number.TheVariants as number
use Rattle.patterns_match.specs.declared.relation.Relation.{Relation}
use Rattle.patterns_match.specs.declared.relation.Relation.TheVariants.{Thread, Parent, Child}
use Rattle.patterns.proofs.PlaceLemmas.{split_read}
use Rattle.patterns.proofs.RangeLemmas.{ranges_are_bare, ranges_are_read}
use Rattle.patterns.proofs.ReadLemmas.{read_step}
use Rattle.patterns.proofs.PrintedDaysLemmas.{IsReadDays, days_read}
use Rattle.patterns.specs.PrintedDays.{can_write_days, printed_days}

-- Arguments.

-- an argument without quotes could end there
abbrev ends : List ℕ → Bool
ends [] = true
ends (b ∷ rest) = is_end b

-- what is written for an argument is read as that, whatever follows
record IsArgument (written text rest : List ℕ) : Type 0 where
  led : without_blanks (written ++ rest) ≡ written ++ rest
  found : argument_at (written ++ rest) ≡ Some (text, rest)
  given : is_missing text (written ++ rest) ≡ false

bare_len : (text rest : List ℕ) → list_all (λ x. not (is_end x)) text ≡ true → ends rest ≡ true
    → position_or_len is_end (text ++ rest) ≡ length text
bare_len text [] all end =
    ap (position_or_len is_end) (append-nil text) ∙ prefix_all (λ x. not (is_end x)) text all
bare_len text (b ∷ rest) all end =
    prefix_stop (λ x. not (is_end x)) text b rest all (ap not end)

bare_argument : (text rest : List ℕ) → list_all (λ x. not (is_end x)) text ≡ true
    → ends rest ≡ true → plain_argument (text ++ rest) ≡ (text, rest)
bare_argument text rest all end =
    ap (λ n. (take n (text ++ rest), drop n (text ++ rest))) (bare_len text rest all end)
    ∙ ap (λ l. (l, drop (length text) (text ++ rest))) (take-append_seam text rest)
    ∙ ap (λ l. (text, l)) (drop-append_seam text rest)

lt_from : {n : ℕ} → nat_lt 0 n ≡ true → 0 < n
lt_from {n} e = grind (arith, nat_tests)

not_false : (t : Bool) → not t ≡ true → t ≡ false
not_false true e = absurd (false≢true e)
not_false false e = refl

no_blank : (b : ℕ) → is_end b ≡ false → is_blank b ≡ false
no_blank b e = grind (arith, nat_tests)

bare_is : (text rest : List ℕ) → is_bare text ≡ true → ends rest ≡ true
    → IsArgument text text rest
bare_is [] rest bare end = absurd (false≢true bare)
bare_is (b ∷ text) rest bare end =
    let parts = and_parts (not (is_quote b)) (list_all (λ x. not (is_end x)) (b ∷ text)) bare in
    let first = (and_parts (not (is_end b)) (list_all (λ x. not (is_end x)) text) parts.1).0 in
    record {
      led = ap (λ t. if t then without_blanks (text ++ rest) else b ∷ (text ++ rest))
          (no_blank b (not_false (is_end b) first));
      found = ap (λ t. if t then split_once b (text ++ rest)
          else Some (plain_argument (b ∷ (text ++ rest))))
          (not_false (is_quote b) parts.0)
          ∙ ap Some (bare_argument (b ∷ text) rest parts.1 end);
      given = refl;
    }

-- a quote is no blank
quote_leads : (q : ℕ) → is_quote q ≡ true → is_blank q ≡ false
quote_leads q is = grind (arith, nat_tests)

missing_quoted : (q : ℕ) (text rest : List ℕ) → is_quote q ≡ true
    → is_missing text (q ∷ rest) ≡ false
missing_quoted q [] rest is = ap not is
missing_quoted q (b ∷ text) rest is = refl

quoted_is : (q : ℕ) (text rest : List ℕ) → is_quote q ≡ true → lacks q text ≡ true
    → IsArgument (quoted q text) text rest
quoted_is q text rest is none =
    let behind = (text ++ q ∷ []) ++ rest in
    record {
      led = ap (λ t. if t then without_blanks behind else q ∷ behind) (quote_leads q is);
      found = ap (λ t. if t then split_once q behind else Some (plain_argument (q ∷ behind))) is
          ∙ ap (split_once q) (append_assoc text (q ∷ []) rest) ∙ split_read q text rest none;
      given = missing_quoted q text behind is;
    }

-- a written argument
written_is : (text rest : List ℕ) → can_write_text text ≡ true → ends rest ≡ true
    → IsArgument (printed_argument text) text rest
written_is text rest can end = by_tests (is_bare text) (lacks 34 text) refl refl
  where
    by_tests : (bare double : Bool) → is_bare text ≡ bare → lacks 34 text ≡ double
        → IsArgument (if bare then text else (if double then quoted 34 text else quoted 39 text))
        text rest
    by_tests true double is_it lacks_it = bare_is text rest is_it end
    by_tests false true is_it lacks_it = quoted_is 34 text rest refl lacks_it
    by_tests false false is_it lacks_it =
        let single : lacks 39 text ≡ true =
        sym (ap (λ b. b || lacks 34 text || lacks 39 text) is_it
        ∙ ap (λ b. false || b || lacks 39 text) lacks_it) ∙ can in
        quoted_is 39 text rest refl single

-- Tokens.

-- a token with what it takes
token_read : (days : List ℕ → Option Days) (place : ℕ) (s t : State) (b : ℕ)
    (taken left : List ℕ) (token : Token) → is_blank b ≡ false
    → token_at days place b (taken ++ left) ≡ Ok (token, left) → step place s token ≡ Ok t
    → read_from days 0 place (Ok s) (b ∷ (taken ++ left))
    ≡ read_from days 0 (place + 1 + length taken) (Ok t) left
token_read days place s t b taken left token no_blank is steps =
    let long = length-append taken left in
    let size : length taken ≡ length (taken ++ left) - length left = omega (arith, long) in
    read_step days place s t b (taken ++ left) (length taken) no_blank
    (ap (stepped place s) is ∙ steps)
    (size ∙ sym (ap (more_of (taken ++ left)) is)) (omega (arith, long))
    ∙ ap (read_from days 0 (place + 1 + length taken) (Ok t)) (drop-append_seam taken left)

-- no letter begins a relation
letter_alone : (sign : ℕ) (rest : List ℕ) → (sign == 40) ≡ false → (sign == 60) ≡ false
    → (sign == 62) ≡ false → relation_at (sign ∷ rest) ≡ None
letter_alone sign [] paren less more = rw paren refl
letter_alone sign (c ∷ rest) paren less more = rw (paren, less, more) refl

-- a sign of the table that begins no relation
record IsSign (sign : ℕ) (letter : Letter) : Type 0 where
  known : letter_of sign ≡ Some letter
  paren : (sign == 40) ≡ false
  less : (sign == 60) ≡ false
  more : (sign == 62) ≡ false

mark_known : (m : Mark) → IsSign (mark_sign m) (letter.Tells m)
unfolding letter_of rows
mark_known mark.All = record { known = refl; paren = refl; less = refl; more = refl }
mark_known _ = record { known = refl; paren = refl; less = refl; more = refl }

field_known : (f : Field) → IsSign (field_sign f) (letter.Searches f)
unfolding letter_of rows
field_known field.Body = record { known = refl; paren = refl; less = refl; more = refl }
field_known _ = record { known = refl; paren = refl; less = refl; more = refl }

day_known : (d : Day) → IsSign (day_sign d) (letter.Dated d)
unfolding letter_of rows
day_known day.Sent = record { known = refl; paren = refl; less = refl; more = refl }
day_known _ = record { known = refl; paren = refl; less = refl; more = refl }

number_known : (n : Number) → IsSign (number_sign n) (letter.Counts n)
unfolding letter_of rows
number_known number.Place = record { known = refl; paren = refl; less = refl; more = refl }
number_known _ = record { known = refl; paren = refl; less = refl; more = refl }

-- a letter behind its sign
lettered : (days : List ℕ → Option Days) (place : ℕ) (plain : Bool) (sign : ℕ) (l : Letter)
    (tail : List ℕ) (result : Reading (Token × List ℕ)) → IsSign sign l
    → term_of days plain l (place + 1 + 1) tail ≡ result
    → token_at days place (search_sign plain) (sign ∷ tail) ≡ result
lettered days place true sign l tail result is reads =
    ap (sign_at days true (place + 1) (sign ∷ tail))
    (letter_alone sign tail is.paren is.less is.more)
    ∙ ap (λ k. or_fault (UnknownLetter (place + 1)) k
    >>? (λ m. term_of days true m (place + 1 + 1) tail)) is.known ∙ reads
lettered days place false sign l tail result is reads =
    ap (sign_at days false (place + 1) (sign ∷ tail))
    (letter_alone sign tail is.paren is.less is.more)
    ∙ ap (λ k. or_fault (UnknownLetter (place + 1)) k
    >>? (λ m. term_of days false m (place + 1 + 1) tail)) is.known ∙ reads

-- an argument, and the term that it makes
argument_read : (days : List ℕ → Option Days) (plain : Bool) (l : Letter) (p : ℕ)
    (written text rest : List ℕ) (leaf : Leaf) → IsArgument written text rest
    → ((at : ℕ) → leaf_of days plain l at text ≡ Ok leaf)
    → with_argument days plain l p (without_blanks (written ++ rest)) ≡ Ok (Term leaf, rest)
argument_read days plain l p written text rest leaf is reads =
    ap (with_argument days plain l p) is.led
    ∙ ap (λ a. or_fault (Unbalanced p) a >>? (λ q. (if is_missing q.0 (written ++ rest)
    then Err (missing_fault l p) else leaf_of days plain l p q.0)
    >>? (λ made. Ok (Term made, q.1)))) is.found
    ∙ ap (λ t. (if t then Err (missing_fault l p) else leaf_of days plain l p text)
    >>? (λ made. Ok (Term made, rest))) is.given
    ∙ ap (λ r. r >>? (λ made. Ok (Term made, rest))) (reads p)

-- Texts.

-- a side without exclamation marks at its end
abbrev side : Option Tree → Option Tree → Side
side either both = record { either = either; both = both; nots = 0 }

-- what a whole pattern leaves
abbrev side_of : Tree → Side
side_of (Or a b) = side (Some a) (Some b)
side_of tree = side None (Some tree)

abbrev at : Side → List Opened → State
at s opened = record { side = s; opened = opened }

-- reading a text comes to another state and the rest
record Arrives (days : List ℕ → Option Days) (place : ℕ) (s : State) (text : List ℕ) (t : State)
    (rest : List ℕ) : Type 0 where
  behind : ℕ
  is : read_from days 0 place (Ok s) text ≡ read_from days 0 behind (Ok t) rest

-- the text of a tree leads from one side to another, whatever follows
abbrev Leads : (List ℕ → Option Days) → List ℕ → Tree → Side → Side → Type 0
Leads days text tree from to =
    (opened : List Opened) (n : ℕ) → nests_in tree n ≡ true → length opened + n ≤ 64
    → (place : ℕ) (rest : List ℕ) → ends rest ≡ true
    → Arrives days place (at from opened) (text ++ rest) (at to opened) rest

-- a tree is read in each place where it can stand
record Reads (days : List ℕ → Option Days) (write : Days → List ℕ) (tree : Tree) : Type 0 where
  term : is_term tree ≡ true → (from : Side)
      → Leads days (printed write tree) tree from (with_term from tree)
  terms : is_terms tree ≡ true → (either : Option Tree)
      → Leads days (printed write tree) tree (side either None) (side either (Some tree))
  whole : Leads days (printed write tree) tree nothing_read (side_of tree)

whole_side : (tree : Tree) → tree_of (side_of tree) ≡ Ok tree
whole_side (Or a b) = refl
whole_side _ = refl

negated_more : (n : ℕ) (tree : Tree) → negated (suc n) tree ≡ negated n (Not tree)
negated_more zero tree = refl
negated_more (suc n) tree = ap Not (negated_more n tree)

negated_once : (n : ℕ) (tree : Tree) → negated (n + 1) tree ≡ negated n (Not tree)
negated_once n tree =
    let more : n + 1 ≡ suc n = omega arith in
    ap (λ k. negated k tree) more ∙ negated_more n tree

module _ (days : List ℕ → Option Days) where
  -- a relation behind its sign
  thread_at : (rest : List ℕ) → relation_at (40 ∷ rest) ≡ Some (Thread, rest)
  thread_at [] = refl
  thread_at (c ∷ rest) = refl

  -- what stands in a parenthesis, which leads to a further term
  enclosed : (relation : Option Relation) (lead : ℕ) (taken text : List ℕ) (tree made : Tree)
      → is_blank lead ≡ false → closed relation tree ≡ made
      → ((place : ℕ) (left : List ℕ)
      → token_at days place lead (taken ++ left) ≡ Ok (Open relation, left))
      → ((n : ℕ) → nests_in made n ≡ (nat_lt 0 n && nests_in tree (n - 1)))
      → Leads days text tree nothing_read (side_of tree)
      → (from : Side) → Leads days (lead ∷ (taken ++ (text ++ 41 ∷ []))) made from
      (with_term from made)
  enclosed relation lead taken text tree made no_blank makes opens nests leads from opened n fits
      few place rest end =
      let parts = and_parts (nat_lt 0 n) (nests_in tree (n - 1)) (sym (nests n) ∙ fits) in
      let some : 0 < n = lt_from parts.0 in
      let room : nat_lt (length opened) most_open ≡ true = grind (arith, nat_tests) in
      let last : Opened = record {
        place = parenthesis_at place relation;
        relation = relation;
        before = from;
      } in
      let inner : List Opened = last ∷ opened in
      let behind : List ℕ = text ++ 41 ∷ rest in
      let first = token_read days place (at from opened) (at nothing_read inner) lead taken behind
      (Open relation) no_blank (opens place behind)
      (ap (λ t. if t then Ok (at nothing_read inner) else Err TooDeep) room) in
      let next = leads inner (n - 1) parts.1 (omega arith) (place + 1 + length taken) (41 ∷ rest)
      refl in
      let shut = token_read days next.behind (at (side_of tree) inner)
      (at (with_term from (closed relation tree)) opened) 41 [] rest Close refl refl
      (ap (λ r. r >>? (λ whole. Ok (at (with_term from (closed relation whole)) opened)))
      (whole_side tree)) in
      record {
        behind = next.behind + 1 + 0;
        is = ap (λ l. read_from days 0 place (Ok (at from opened)) (lead ∷ l))
            (append_assoc taken (text ++ 41 ∷ []) rest
            ∙ ap (λ l. taken ++ l) (append_assoc text (41 ∷ []) rest))
            ∙ first ∙ next.is ∙ shut
            ∙ ap (λ m. read_from days 0 (next.behind + 1 + 0)
            (Ok (at (with_term from m) opened)) rest)
            makes;
      }

module _ (days : List ℕ → Option Days) (write : Days → List ℕ) (can : Days → Bool)
    (back : (range : Days) → can range ≡ true → IsReadDays days write range) where
  -- a term behind its first byte
  leaf_token : (leaf : Leaf) (lead : ℕ) (taken : List ℕ) → printed_leaf write leaf ≡ lead ∷ taken
      → is_blank lead ≡ false → ((place : ℕ) (rest : List ℕ) → ends rest ≡ true
      → token_at days place lead (taken ++ rest) ≡ Ok (Term leaf, rest))
      → (from : Side) → Leads days (printed_leaf write leaf) (Asks leaf) from
      (with_term from (Asks leaf))
  leaf_token leaf lead taken is no_blank reads from opened n fits few place rest end =
      record {
        behind = place + 1 + length taken;
        is = ap (λ l. read_from days 0 place (Ok (at from opened)) (l ++ rest)) is
            ∙ token_read days place (at from opened) (at (with_term from (Asks leaf)) opened) lead
            taken rest (Term leaf) no_blank (reads place rest end) refl;
      }

  search_leads : (plain : Bool) → is_blank (search_sign plain) ≡ false
  search_leads true = refl
  search_leads false = refl

  leaf_read : (leaf : Leaf) → can_write_leaf can leaf ≡ true → (from : Side)
      → Leads days (printed_leaf write leaf) (Asks leaf) from (with_term from (Asks leaf))
  leaf_read (Tells mark) is =
      leaf_token (Tells mark) 126 (mark_sign mark ∷ []) refl refl
      (λ place rest end. lettered days place false (mark_sign mark) (letter.Tells mark) rest
      (Ok (Term (Tells mark), rest)) (mark_known mark) refl)
  leaf_read (Searches field plain text) is =
      leaf_token (Searches field plain text) (search_sign plain)
      (field_sign field ∷ 32 ∷ printed_argument text) refl (search_leads plain)
      (λ place rest end. lettered days place plain (field_sign field) (letter.Searches field)
      (32 ∷ (printed_argument text ++ rest)) (Ok (Term (Searches field plain text), rest))
      (field_known field)
      (argument_read days plain (letter.Searches field) _ (printed_argument text) text rest
      (Searches field plain text) (written_is text rest is end) (λ p. refl)))
  leaf_read (Dated day range) is =
      let readable = back range is in
      leaf_token (Dated day range) 126 (day_sign day ∷ 32 ∷ write range) refl refl
      (λ place rest end. lettered days place false (day_sign day) (letter.Dated day)
      (32 ∷ (write range ++ rest)) (Ok (Term (Dated day range), rest)) (day_known day)
      (argument_read days false (letter.Dated day) _ (write range) (write range) rest
      (Dated day range) (bare_is (write range) rest readable.bare end)
      (λ p. ap (λ r. or_fault (BadDate p) r >>? (λ found. Ok (Dated day found))) readable.is_read)))
  leaf_read (Counts number range) is =
      let text = printed_range range in
      leaf_token (Counts number range) 126 (number_sign number ∷ 32 ∷ text) refl refl
      (λ place rest end. lettered days place false (number_sign number) (letter.Counts number)
      (32 ∷ (text ++ rest)) (Ok (Term (Counts number range), rest)) (number_known number)
      (argument_read days false (letter.Counts number) _ text text rest
      (Counts number range) (bare_is text rest (ranges_are_bare range is) end)
      (λ p. ap (λ r. or_fault (BadRange p) r >>? (λ found. Ok (Counts number found)))
      (ranges_are_read (measure_of number) range is))))

  -- a term, which is not more than one
  alone : (tree : Tree) → side_of tree ≡ side None (Some tree)
      → ((from : Side) → Leads days (printed write tree) tree from (with_term from tree))
      → Reads days write tree
  alone tree is leads = record {
    term = λ _. leads;
    terms = λ _ either. leads (side either None);
    whole = subst (λ s. Leads days (printed write tree) tree nothing_read s) (sym is)
        (leads nothing_read);
  }

  not_leads : (tree : Tree)
      → ((from : Side) → Leads days (printed write tree) tree from (with_term from tree))
      → (from : Side) → Leads days (printed write (Not tree)) (Not tree) from
      (with_term from (Not tree))
  not_leads tree leads from opened n fits few place rest end =
      let more : Side = record from { nots = from.nots + 1 } in
      let first = token_read days place (at from opened) (at more opened) 33 []
      (printed write tree ++ rest) Bang refl refl refl in
      let next = leads more opened n fits few (place + 1 + 0) rest end in
      record {
        behind = next.behind;
        is = first ∙ next.is
            ∙ ap (λ t. read_from days 0 next.behind
            (Ok (at (record from { both = Some (joined And from.both t); nots = 0 }) opened)) rest)
            (negated_once from.nots tree);
      }

  and_leads : (a b : Tree) (either : Option Tree)
      → Leads days (printed write a) a (side either None) (side either (Some a))
      → Leads days (printed write b) b (side either (Some a)) (with_term (side either (Some a)) b)
      → Leads days (printed write (And a b)) (And a b) (side either None)
      (side either (Some (And a b)))
  and_leads a b either left right opened n fits few place rest end =
      let parts = and_parts (nests_in a n) (nests_in b n) fits in
      let first = left opened n parts.0 few place (32 ∷ (printed write b ++ rest)) refl in
      let next = right opened n parts.1 few (first.behind + 1) rest end in
      record {
        behind = next.behind;
        is = ap (read_from days 0 place (Ok (at (side either None) opened)))
            (append_assoc (printed write a) (32 ∷ printed write b) rest)
            ∙ first.is ∙ next.is;
      }

  or_leads : (a b : Tree)
      → Leads days (printed write a) a nothing_read (side_of a)
      → Leads days (printed write b) b (side (Some a) None) (side (Some a) (Some b))
      → Leads days (printed write (Or a b)) (Or a b) nothing_read (side (Some a) (Some b))
  or_leads a b left right opened n fits few place rest end =
      let parts = and_parts (nests_in a n) (nests_in b n) fits in
      let behind : List ℕ = printed write b ++ rest in
      let first = left opened n parts.0 few place (32 ∷ 124 ∷ 32 ∷ behind) refl in
      let bar = token_read days (first.behind + 1) (at (side_of a) opened)
      (at (side (Some a) None) opened) 124 [] (32 ∷ behind) Bar refl refl
      (ap (λ r. r >>? (λ whole. Ok (at (side (Some whole) None) opened))) (whole_side a)) in
      let next = right opened n parts.1 few (first.behind + 1 + 1 + 0 + 1) rest end in
      record {
        behind = next.behind;
        is = ap (read_from days 0 place (Ok (at nothing_read opened)))
            (append_assoc (printed write a) (32 ∷ 124 ∷ 32 ∷ printed write b) rest)
            ∙ first.is ∙ bar ∙ next.is;
      }

  related_leads : (relation : Relation) (tree : Tree)
      → Leads days (printed write tree) tree nothing_read (side_of tree)
      → (from : Side) → Leads days (printed write (Related relation tree)) (Related relation tree)
      from (with_term from (Related relation tree))
  related_leads Thread tree =
      enclosed days (Some Thread) 126 (40 ∷ []) (printed write tree) tree (Related Thread tree)
      refl refl
      (λ place left. ap (sign_at days false (place + 1) (40 ∷ left)) (thread_at days left))
      (λ n. refl)
  related_leads Parent tree =
      enclosed days (Some Parent) 126 (60 ∷ 40 ∷ []) (printed write tree) tree (Related Parent tree)
      refl refl (λ place left. refl) (λ n. refl)
  related_leads Child tree =
      enclosed days (Some Child) 126 (62 ∷ 40 ∷ []) (printed write tree) tree (Related Child tree)
      refl refl (λ place left. refl) (λ n. refl)

  tree_read : (tree : Tree) → is_placed tree ≡ true → every (can_write_leaf can) true tree ≡ true
      → Reads days write tree
  tree_read (Asks leaf) placed all = alone (Asks leaf) refl (leaf_read leaf all)
  tree_read (Not tree) placed all =
      let parts = and_parts (is_term tree) (is_placed tree) placed in
      alone (Not tree) refl (not_leads tree ((tree_read tree parts.1 all).term parts.0))
  tree_read (And a b) placed all =
      let last = and_parts (is_terms a && is_term b && is_placed a) (is_placed b) placed in
      let more = and_parts (is_terms a && is_term b) (is_placed a) last.0 in
      let kinds = and_parts (is_terms a) (is_term b) more.0 in
      let each = and_parts (every (can_write_leaf can) true a) (every (can_write_leaf can) true b)
      all in
      let left = tree_read a more.1 each.0 in
      let right = tree_read b last.1 each.1 in
      let leads = λ (either : Option Tree). and_leads a b either (left.terms kinds.0 either)
      (right.term kinds.1 (side either (Some a))) in
      record {
        term = λ is. absurd (false≢true is);
        terms = λ is either. leads either;
        whole = leads None;
      }
  tree_read (Or a b) placed all =
      let last = and_parts (is_terms b && is_placed a) (is_placed b) placed in
      let first = and_parts (is_terms b) (is_placed a) last.0 in
      let each = and_parts (every (can_write_leaf can) true a) (every (can_write_leaf can) true b)
      all in
      let left = tree_read a first.1 each.0 in
      let right = tree_read b last.1 each.1 in
      record {
        term = λ is. absurd (false≢true is);
        terms = λ is either. absurd (false≢true is);
        whole = or_leads a b left.whole (right.terms first.0 (Some a));
      }
  tree_read (Group tree) placed all =
      alone (Group tree) refl (enclosed days None 40 [] (printed write tree) tree (Group tree)
      refl refl (λ place left. refl) (λ n. refl) (tree_read tree placed all).whole)
  tree_read (Related relation tree) placed all =
      alone (Related relation tree) refl
      (related_leads relation tree (tree_read tree placed all).whole)

  -- A written pattern has a term.

  any_front : (xs ys : List ℕ) → list_any begins_term xs ≡ true
      → list_any begins_term (xs ++ ys) ≡ true
  any_front xs ys any =
      list_any-append begins_term xs ys ∙ ap (λ t. t || list_any begins_term ys) any

  leaf_begins : (leaf : Leaf) → list_any begins_term (printed_leaf write leaf) ≡ true
  leaf_begins (Tells mark) = refl
  leaf_begins (Searches field true text) = refl
  leaf_begins (Searches field false text) = refl
  leaf_begins (Dated day range) = refl
  leaf_begins (Counts number range) = refl

  has_term : (tree : Tree) → list_any begins_term (printed write tree) ≡ true
  has_term (Asks leaf) = leaf_begins leaf
  has_term (Not tree) = has_term tree
  has_term (And a b) = any_front (printed write a) (32 ∷ printed write b) (has_term a)
  has_term (Or a b) = any_front (printed write a) (32 ∷ 124 ∷ 32 ∷ printed write b) (has_term a)
  has_term (Group tree) = any_front (printed write tree) (41 ∷ []) (has_term tree)
  has_term (Related Thread tree) = refl
  has_term (Related Parent tree) = refl
  has_term (Related Child tree) = refl

-- a text with a term is read by terms
with_terms : (days : List ℕ → Option Days) (text : List ℕ) → list_any begins_term text ≡ true
    → pattern_of days text ≡ read_from days 0 0 (Ok at_first) text
with_terms days [] any = absurd (false≢true any)
with_terms days (b ∷ rest) any =
    ap (λ t. if not t then Ok (simple (b ∷ rest))
    else read_from days 0 0 (Ok at_first) (b ∷ rest)) any

pub patterns_are_read : PatternsAreRead
patterns_are_read today date_of tree is =
    let days = days_of today in
    let write = printed_days today date_of in
    let can = can_write_days today date_of in
    let back = days_read today date_of in
    let last = and_parts (is_placed tree && every (can_write_leaf can) true tree)
    (nests_in tree most_open) is in
    let first = and_parts (is_placed tree) (every (can_write_leaf can) true tree) last.0 in
    let text = printed write tree in
    let read = (tree_read days write can back tree first.0 first.1).whole [] 64 last.1
    (omega arith) 0 [] refl in
    with_terms days text (has_term days write can back tree)
    ∙ ap (read_from days 0 0 (Ok at_first)) (sym (append-nil text)) ∙ read.is ∙ whole_side tree
