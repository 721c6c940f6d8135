-- Patterns that are asked of all messages at once.
use Rattle.std.proofs.Common.{◌≡◌, ◌∙◌, ◌||◌, ◌&&◌, ◌<◌, ◌≤◌, ◌+◌, ◌++◌, ◌⊎◌, inl, inr, ℕ, zero}
use Rattle.std.proofs.Common.{suc, ℤ, Bool, true, false, not, List, [], ◌∷◌, Option, Some, None}
use Rattle.std.proofs.Common.{length, map, refl, sym, ap, subst, arith, slice_index_or, replicate}
use Rattle.std.proofs.Common.{take, zero-add}
use Rattle.std.specs.Prelude.{slice_get}
use Rattle.std.specs.Option.{option_map_or}
use Rattle.std.specs.List.{list_any, range_with_len}
use Rattle.std.proofs.Math.Bool.{and-false, and-true, or-false, or_assoc}
use Rattle.std.proofs.lemmas.Bool.{cases_lt}
use Rattle.std.proofs.lemmas.List.{get_or-replicate, get_or_append_left, get_or_push, length-map}
use Rattle.std.proofs.lemmas.List.{length-replicate, length_push}
use Rattle.std.proofs.lemmas.List.FromFn.{fill_by_all, get_or-map-range_with_len}
use Rattle.std.proofs.lemmas.List.FromFn.{map-range_with_len_more}
use Rattle.people.specs.People.{PlainPeople}
use Rattle.patterns_match.specs.All.{AreFound, AreMarks, AreNext, AreRelated, Lead, Marks, behind}
use Rattle.patterns_match.specs.All.{is_marked, others_at, points, points_at, turn_at}
use Rattle.patterns_match.specs.Asked.{asked_operations}
use Rattle.patterns_match.specs.Listings.{Message}
use Rattle.patterns_match.specs.Operations.{IsCode, tree_of}
use Rattle.patterns_match.specs.Satisfies.{all_satisfying, are_related, has_child, is_place}
use Rattle.patterns_match.specs.Satisfies.{is_related, passes, satisfies, some_related}
use Rattle.patterns_match.specs.Trees.{Leaf, Tells, Tree}
use Rattle.patterns_match.specs.declared.all.Turn.{Turn}
use Rattle.patterns_match.specs.declared.asked.Asked.{Asked}
use Rattle.patterns_match.specs.declared.letter.Mark.TheVariants.{Childless}
use Rattle.patterns_match.specs.declared.operation.Operation.{Operation}
use Rattle.patterns_match.specs.declared.operation.Operation.TheVariants as op
use Rattle.patterns_match.specs.declared.relation.Relation.{Relation}
use Rattle.patterns_match.specs.declared.relation.Relation.TheVariants.{Thread, Parent, Child}
use Rattle.patterns_match.proofs.AskingLemmas.{ordered}
use Rattle.patterns_match.proofs.ListingLemmas.{parentless}

-- Searches among the first numbers.

-- one more number, behind those from another one on
any_last : (test : ℕ → Bool) (from n : ℕ)
    → list_any test (range_with_len from (suc n))
    ≡ (list_any test (range_with_len from n) || test (from + n))
any_last test from zero = or-false (test from) ∙ ap test (omega arith)
any_last test from (suc n) =
    ap (λ b. test from || b) (any_last test (from + 1) n)
    ∙ sym (or_assoc (test from) (list_any test (range_with_len (from + 1) n)) (test (from + 1 + n)))
    ∙ ap (λ k. (test from || list_any test (range_with_len (from + 1) n)) || test k) (omega arith)

-- one more number
any_more : (test : ℕ → Bool) (n : ℕ)
    → list_any test (range_with_len 0 (n + 1)) ≡ (list_any test (range_with_len 0 n) || test n)
any_more test n =
    ap (λ (k : ℕ). list_any test (range_with_len 0 k)) {y = suc n} (omega arith)
    ∙ any_last test 0 n ∙ ap (λ k. list_any test (range_with_len 0 n) || test k) (zero-add n)

-- by tests that are the same of these numbers
any_same : (test other : ℕ → Bool) (n : ℕ) → ((k : ℕ) → k < n → test k ≡ other k)
    → list_any test (range_with_len 0 n) ≡ list_any other (range_with_len 0 n)
any_same test other zero same = refl
any_same test other (suc n) same =
    let earlier = any_same test other n (λ k low. same k (omega (arith, low))) in
    let last : test (0 + n) ≡ other (0 + n) = same (0 + n) (omega arith) in
    any_last test 0 n ∙ (λ i. earlier i || last i) ∙ sym (any_last other 0 n)

-- a message among all of them
any_message : (test : Message → Bool) (listing : List Message)
    → list_any (λ k. passes test (slice_get listing k)) (range_with_len 0 (length listing))
    ≡ list_any test listing
any_message test [] = refl
any_message test (m ∷ listing) =
    ap (λ b. test m || b)
    (shifted (λ k. passes test (slice_get (m ∷ listing) k)) 0 (length listing)
    ∙ any_message test listing)
  where
    shifted : (other : ℕ → Bool) (from n : ℕ) → list_any other (range_with_len (suc from) n)
        ≡ list_any (λ k. other (suc k)) (range_with_len from n)
    shifted other from zero = refl
    shifted other from (suc n) =
        ap (λ b. other (suc from) || b)
        (ap (λ (k : ℕ). list_any other (range_with_len k n)) {y = suc (from + 1)} (omega arith)
        ∙ shifted other (from + 1) n)

-- Marks.

-- the next message does not satisfy the pattern
pub marks_same : (listing : List Message) (relation : Relation) (answers marked : List Bool)
    (n : ℕ) → slice_index_or answers n false ≡ false
    → AreMarks listing relation answers n marked → AreMarks listing relation answers (n + 1) marked
marks_same listing relation answers marked n not_here are = record {
  long = are.long;
  each = λ at.
      let before = list_any (λ place. points_at listing relation at place
      && slice_index_or answers place false) (range_with_len 0 n) in
      are.each at
      ∙ sym (any_more (λ place. points_at listing relation at place
      && slice_index_or answers place false) n
      ∙ ap (λ b. before || (points_at listing relation at n && b)) not_here
      ∙ ap (λ b. before || b) (and-false (points_at listing relation at n))
      ∙ or-false before);
}

-- it does, and marks
pub marks_more : (listing : List Message) (relation : Relation) (answers marked new : List Bool)
    (n : ℕ) → slice_index_or answers n false ≡ true → Marks listing relation n marked new
    → AreMarks listing relation answers n marked → AreMarks listing relation answers (n + 1) new
marks_more listing relation answers marked new n here marks are = record {
  long = marks.long ∙ are.long;
  each = λ at.
      let before = list_any (λ place. points_at listing relation at place
      && slice_index_or answers place false) (range_with_len 0 n) in
      marks.each at
      ∙ ap (λ b. b || points_at listing relation at n) (are.each at)
      ∙ sym (any_more (λ place. points_at listing relation at place
      && slice_index_or answers place false) n
      ∙ ap (λ b. before || (points_at listing relation at n && b)) here
      ∙ ap (λ b. before || b) (and-true (points_at listing relation at n)));
}

-- a message stands at each place of a listing
message_at : (listing : List Message) (place : ℕ) → place < length listing
    → (m : Message) × (slice_get listing place ≡ Some m)
message_at [] place low = absurd (omega (arith, low))
message_at (m ∷ listing) zero low = (m, refl)
message_at (m ∷ listing) (suc place) low = message_at listing place (omega (arith, low))

-- by tests that are the same of each message
passes_same : (o : Option Message) (test other : Message → Bool)
    → ((m : Message) → test m ≡ other m) → passes test o ≡ passes other o
passes_same None test other same = refl
passes_same (Some m) test other same = same m

module _ (listing : List Message) (answers marked : List Bool) (place : ℕ) (m : Message)
    (is : slice_get listing place ≡ Some m) where
  abbrev test : ℕ → Bool
  test other = slice_index_or answers other false

  -- a place is marked where a message that is so related satisfies the pattern, if those point to
  -- it
  met : (relation : Relation) (at : ℕ) → AreMarks listing relation answers (length listing) marked
      → ((other : ℕ) (n : Message)
      → points relation at other n ≡ is_related relation place m other n)
      → slice_index_or marked at false ≡ some_related listing relation place test
  met relation at are same =
      are.each at
      ∙ any_same (λ other. points_at listing relation at other && test other)
      (λ other. are_related listing relation place other && test other) (length listing)
      (λ other low. ap (λ b. b && test other)
      (passes_same (slice_get listing other) (points relation at other)
      (is_related relation place m other) (same other)
      ∙ sym (ap (λ (o : Option Message).
      passes (λ x. passes (is_related relation place x other) (slice_get listing other)) o) is)))

  -- so what a message looks at tells what it asks of others
  marked_related : (relation : Relation)
      → AreMarks listing relation answers (length listing) marked
      → is_marked listing relation marked place ≡ some_related listing relation place test
  marked_related Thread are =
      ap (passes (λ x. slice_index_or marked x.root false)) is
      ∙ met Thread m.root are (λ other n. refl)
  marked_related Child are = met Child place are (λ other n. refl)
  marked_related Parent are =
      ap (passes (λ x. option_map_or (λ p. slice_index_or marked p false) x.parent false)) is
      ∙ by_parent m.parent refl
    where
      by_parent : (o : Option ℕ) → m.parent ≡ o
          → option_map_or (λ p. slice_index_or marked p false) o false
          ≡ some_related listing Parent place test
      by_parent None parent = sym (parentless listing place test m (sym is) (sym parent))
      by_parent (Some p) parent =
          met Parent p are (λ other n. sym (ap (is_place other) parent))

-- Lists that grow.

-- what is so of the elements before a number and of the next one is so of all up to it
each_more : {X : Type 0} (d : X) (xs : List X) (x : X) (n : ℕ) (Is : ℕ → X → Type 0)
    → length xs ≡ n → ((k : ℕ) → k < n → Is k (slice_index_or xs k d)) → Is n x
    → (k : ℕ) → k < n + 1 → Is k (slice_index_or (xs ++ x ∷ []) k d)
each_more {X} d xs x n Is long each last k low = by_place (cases_lt k n)
  where
    by_place : (k < n) ⊎ (n ≤ k) → Is k (slice_index_or (xs ++ x ∷ []) k d)
    by_place (inl less) = subst (Is k)
        (sym (get_or_append_left xs (x ∷ []) d k (omega (arith, less, long)))) (each k less)
    by_place (inr more) =
        let same : k ≡ n = omega (arith, low, more) in
        subst (Is k) (sym (get_or_push xs x d k (omega (arith, long, same))))
        (subst (λ (j : ℕ). Is j x) (sym same) last)

-- what others tell one more message
pub related_more : (listing : List Message) (relation : Relation)
    (answers marked there found pushed : List Bool) (n : ℕ) (here : Bool)
    → there ≡ marked → pushed ≡ found ++ here ∷ [] → n < length listing
    → AreMarks listing relation answers (length listing) marked
    → here ≡ is_marked listing relation there n
    → AreRelated listing relation answers n found
    → AreRelated listing relation answers (n + 1) pushed
related_more listing relation answers marked there found pushed n here same items low are is
    so_far =
    subst (AreRelated listing relation answers (n + 1)) (sym items) (record {
      long = length_push found here ∙ ap (λ k. k + 1) so_far.long;
      each = each_more false found here n
          (λ (k : ℕ) (b : Bool). b ≡ some_related listing relation k
          (λ other. slice_index_or answers other false))
          so_far.long so_far.each
          (is ∙ ap (λ (bs : List Bool). is_marked listing relation bs n) same
          ∙ marked_related listing answers marked n message.0 message.1 relation are);
    })
  where
    message : (m : Message) × (slice_get listing n ≡ Some m)
    message = message_at listing n low

-- What an operation asks of others.

-- by the answers of its pattern
pub found_others : (people : PlainPeople) (offset : ℤ) (listing : List Message)
    (relation : Relation) (n : ℕ) (rest : List (Operation Leaf)) (tree : Tree)
    (turns : List Turn) (answers there found : List Bool) → tree_of (take n rest) ≡ tree
    → there ≡ answers → answers ≡ all_satisfying people offset listing tree
    → AreRelated listing relation there (length listing) found
    → AreFound people offset listing (op.Others relation n) rest turns found
found_others people offset listing relation n rest tree turns answers there found is same are told
    place low asked =
    told.each place low
    ∙ any_same (λ k. are_related listing relation place k && slice_index_or there k false)
    (λ k. are_related listing relation place k && satisfies people offset listing tree k)
    (length listing)
    (λ k inside. ap (λ (b : Bool). are_related listing relation place k && b)
    (ap (λ (bs : List Bool). slice_index_or bs k false) (same ∙ are)
    ∙ get_or-map-range_with_len (satisfies people offset listing tree) 0 (length listing) k k false
    inside (zero-add k)))
    ∙ ap (λ (t : Tree). some_related listing relation place (satisfies people offset listing t))
    (sym is)

-- or that a message has a child, where each is taken to satisfy a pattern
pub found_children : (people : PlainPeople) (offset : ℤ) (listing : List Message)
    (rest : List (Operation Leaf)) (n : ℕ) (turns : List Turn) (answers there found : List Bool)
    → n ≡ length listing → answers ≡ replicate n true → there ≡ answers
    → AreRelated listing Child there (length listing) found
    → AreFound people offset listing (op.Ask (Tells Childless)) rest turns found
found_children people offset listing rest n turns answers there found long all same are place low
    asked =
    let m = message_at listing place low in
    are.each place low
    ∙ any_same (λ k. are_related listing Child place k && slice_index_or there k false)
    (λ k. passes is_child (slice_get listing k)) (length listing) (λ k inside.
    ap (λ (bs : List Bool). are_related listing Child place k && slice_index_or bs k false)
    (same ∙ all)
    ∙ ap (λ (b : Bool). are_related listing Child place k && b)
    (get_or-replicate n k true false (omega (arith, long, inside)))
    ∙ and-true (are_related listing Child place k)
    ∙ ap (passes (λ x. passes (is_related Child place x k) (slice_get listing k))) m.1)
    ∙ any_message is_child listing
  where
    is_child : Message → Bool
    is_child n = is_place place n.parent

-- Turns.

-- the turn before the first operation
abbrev first_turn : Turn
first_turn = record { held = false; skip = 0 }

-- the turn behind the letter of messages without children
pub turn_childless : (people : PlainPeople) (offset : ℤ) (listing : List Message) (place : ℕ)
    (operation : Operation Leaf) (turn : Turn) (found : Bool)
    → operation ≡ op.Ask (Tells Childless) → turn.skip ≡ 0 → place < length listing
    → (rest : List (Operation Leaf))
    → (turn.skip ≡ 0 → found ≡ others_at people offset listing operation rest place)
    → behind people offset listing place turn (operation ∷ rest)
    ≡ behind people offset listing place (record { held = not found; skip = 0 }) rest
turn_childless people offset listing place operation turn found is asked low rest told =
    ap (λ (o : Operation Leaf). behind people offset listing place turn (o ∷ rest)) is
    ∙ ap (λ (k : ℕ). behind people offset listing place (record { held = turn.held; skip = k })
    (op.Ask (Tells Childless) ∷ rest)) asked
    ∙ ap (λ (b : Bool). behind people offset listing place (record { held = b; skip = 0 }) rest)
    (ap (passes (λ x. not (has_child listing place))) (message_at listing place low).1
    ∙ ap not (sym (told asked ∙ ap (λ (o : Operation Leaf).
    others_at people offset listing o rest place) is)))

-- before the first operation each message's turn leads to its answer
pub lead_first : (people : PlainPeople) (offset : ℤ) (listing : List Message)
    (operations : List (Operation Leaf)) (n : ℕ) (turns : List Turn)
    → n ≡ length listing → turns ≡ replicate n first_turn → IsCode operations
    → Lead people offset listing (tree_of operations) turns operations
lead_first people offset listing operations n turns long is code =
    subst (λ (ts : List Turn). Lead people offset listing (tree_of operations) ts operations)
    (sym is) (record {
      long = length-replicate n first_turn ∙ long;
      each = λ place low.
          ap (λ (turn : Turn). behind people offset listing place turn operations)
          (get_or-replicate n place first_turn first_turn (omega (arith, long, low)))
          ∙ ordered people offset listing place operations code;
    })

-- the answer so far at a place
held_at : (turns : List Turn) (place : ℕ)
    → slice_index_or (map (λ (t : Turn). t.held) turns) place false ≡ (turn_at turns place).held
held_at [] place = refl
held_at (turn ∷ turns) zero = refl
held_at (turn ∷ turns) (suc place) = held_at turns place

-- behind the last one it is the answer
pub lead_last : (people : PlainPeople) (offset : ℤ) (listing : List Message) (tree : Tree)
    (turns : List Turn) (left : List (Operation Asked)) (held : List Bool) → length left ≡ 0
    → held ≡ map (λ (t : Turn). t.held) turns
    → Lead people offset listing tree turns (asked_operations left)
    → held ≡ all_satisfying people offset listing tree
lead_last people offset listing tree turns left held none is lead =
    let done : Lead people offset listing tree turns [] =
    subst (λ (os : List (Operation Asked)).
    Lead people offset listing tree turns (asked_operations os)) (empty left none) lead in
    is
    ∙ fill_by_all (satisfies people offset listing tree) (map (λ (t : Turn). t.held) turns)
    (length listing) false (length-map turns (λ (t : Turn). t.held) ∙ done.long)
    (λ place low. held_at turns place
    ∙ last (turn_at turns place).skip (turn_at turns place).held place
    ∙ done.each place low)
  where
    empty : (os : List (Operation Asked)) → length os ≡ 0 → os ≡ []
    empty [] none = refl
    empty (o ∷ os) none = absurd (omega (arith, none))

    last : (skip : ℕ) (answer : Bool) (place : ℕ)
        → answer ≡ behind people offset listing place (record { held = answer; skip = skip }) []
    last zero answer place = refl
    last (suc skip) answer place = refl

-- an operation that was asked of the first messages is asked of one more
pub next_more : (people before : PlainPeople) (offset : ℤ) (listing : List Message)
    (operation : Operation Leaf) (found : List Bool) (turns next pushed : List Turn) (turn : Turn)
    (n : ℕ) (here : Bool) → before ≡ people → pushed ≡ next ++ turn ∷ []
    → here ≡ slice_index_or found n false → n < length listing → length next ≡ n
    → ((rest : List (Operation Leaf))
    → ((turn_at turns n).skip ≡ 0 → here ≡ others_at before offset listing operation rest n)
    → behind before offset listing n (turn_at turns n) (operation ∷ rest)
    ≡ behind before offset listing n turn rest)
    → AreNext people offset listing operation found turns next n
    → AreNext people offset listing operation found turns pushed (n + 1)
next_more people before offset listing operation found turns next pushed turn n here same items is
    low long step are = λ rest related.
    subst (λ (all : List Turn). (k : ℕ) → k < n + 1
    → behind people offset listing k (turn_at turns k) (operation ∷ rest)
    ≡ behind people offset listing k (turn_at all k) rest) (sym items)
    (each_more first_turn next turn n (λ (k : ℕ) (t : Turn).
    behind people offset listing k (turn_at turns k) (operation ∷ rest)
    ≡ behind people offset listing k t rest) long (are rest related)
    (subst (λ (p : PlainPeople). behind p offset listing n (turn_at turns n) (operation ∷ rest)
    ≡ behind p offset listing n turn rest) same (step rest (λ asked.
    is ∙ related n low asked
    ∙ ap (λ (p : PlainPeople). others_at p offset listing operation rest n) (sym same)))))

-- One after the other.

-- one more answer
pub answers_more : (f : ℕ → Bool) (n : ℕ) (answers pushed : List Bool) (answer : Bool)
    → pushed ≡ answers ++ answer ∷ [] → answers ≡ map f (range_with_len 0 n) → answer ≡ f n
    → pushed ≡ map f (range_with_len 0 (n + 1))
answers_more f n answers pushed answer items so_far is =
    items ∙ (λ i. so_far i ++ is i ∷ []) ∙ sym (map-range_with_len_more f 0 n n (zero-add n))
