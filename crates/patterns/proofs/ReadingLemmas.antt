-- Patterns with their expressions read.
use Rattle.std.proofs.Common.{◌≡◌, ◌∙◌, ◌++◌, ℕ, Bool, true, false, List, [], ◌∷◌, Some, None}
use Rattle.std.proofs.Common.{Result, Ok, Err, IsOk, length}
use Rattle.std.specs.Prelude.{OnErr, if◌then◌else◌}
use Rattle.std.specs.List.{list_all}
use Rattle.std.proofs.Common.{map, refl, sym, ap, subst, arith}
use Rattle.std.proofs.lemmas.List.{length-map, map-append}
use Rattle.people.specs.Judged.{PlainJudged}
use Rattle.patterns_match.specs.Asked.{asked_operations, asked_tree}
use Rattle.patterns.specs.Exprs.{asked, exprs, exprs_in, tree_map}
use Rattle.patterns.specs.Causes.{AreRead, Judges, Keeps, ReadsFront, is_good_on}
use Rattle.people.specs.declared.judged.Verdict.TheVariants.{Syntax, Size}
use Rattle.patterns.proofs.CauseLemmas.{found_kept, lost_kept}
use Rattle.patterns.specs.Errors.{is_fault, of_read_error}
use Rattle.patterns.specs.Faults.{Empty, UnknownLetter, Unbalanced, BadRange, BadDate, TooDeep}
use Rattle.patterns.specs.Faults.{Reading, reading_map}
use Rattle.patterns_match.specs.Operations.{IsCode, code, operation_map}
use Rattle.patterns.specs.Needs.{made, plain_operations}
use Rattle.patterns.specs.Readings.{IsAnswer, IsErrorOf, IsRead, IsReading, exprs_read}
use Rattle.patterns.specs.Readings.{reading_by}
use Rattle.patterns.specs.States.{Fails}
use Rattle.patterns_match.specs.Trees.{Leaf, Tree, Asks, Not, And, Or, Group, Related}
use Rattle.patterns_match.specs.declared.asked.Asked.{Asked}
use Rattle.patterns.specs.declared.need.Need.{Need}
use Rattle.patterns_match.specs.declared.operation.Operation.{Operation}
use Rattle.patterns_match.specs.declared.operation.Operation.TheVariants as operation
use Rattle.patterns.specs.declared.pattern_error.PatternError.{PatternError}
use Rattle.patterns.specs.declared.pattern_error.PatternError.TheVariants as error
use Rattle.patterns.specs.declared.read_error.ReadError.{ReadError}
use Rattle.patterns.specs.declared.read_error.ReadError.TheVariants as read
use Rattle.patterns_match.proofs.OperationLemmas.{is_code}

module _ (f : Leaf → Leaf) where
  one : (t : Tree) (o : Operation Leaf)
      → code (tree_map f t) ≡ map (operation_map f) (code t)
      → code (tree_map f t) ++ operation_map f o ∷ []
      ≡ map (operation_map f) (code t ++ o ∷ [])
  one t o is =
      ap (λ l. l ++ operation_map f o ∷ []) is
      ∙ sym (map-append (operation_map f) (code t) (o ∷ []))

  around : (xs ys : List (Operation Leaf)) (skip last : Operation Leaf)
      → map (operation_map f) (xs ++ skip ∷ [] ++ ys ++ last ∷ [])
      ≡ map (operation_map f) xs ++ operation_map f skip ∷ [] ++ map (operation_map f) ys
      ++ operation_map f last ∷ []
  around xs ys skip last = simp map-append

  long : (t : Tree) → code (tree_map f t) ≡ map (operation_map f) (code t)
      → length (code (tree_map f t)) ≡ length (code t)
  long t is = ap length is ∙ length-map (code t) (operation_map f)

  pub code_map : (t : Tree) → code (tree_map f t) ≡ map (operation_map f) (code t)
  code_map (Asks leaf) = refl
  code_map (Not t) = one t operation.Negate (code_map t)
  code_map (Group t) = one t operation.Group (code_map t)
  code_map (Related kind t) =
      let same = code_map t in
      ap (λ n. operation.Others kind n ∷ [] ++ code (tree_map f t) ++ operation.Related kind ∷ [])
      (long t same)
      ∙ ap (λ l. operation.Others kind (length (code t)) ∷ [] ++ l ++ operation.Related kind ∷ [])
      same
      ∙ sym (around [] (code t) (operation.Others kind (length (code t)))
      (operation.Related kind))
  code_map (And a b) =
      let left = code_map a in
      let right = code_map b in
      ap (λ n. code (tree_map f a) ++ operation.SkipUnless n ∷ [] ++ code (tree_map f b)
      ++ operation.Both ∷ []) (long b right)
      ∙ ap (λ l. l ++ operation.SkipUnless (length (code b)) ∷ [] ++ code (tree_map f b)
      ++ operation.Both ∷ []) left
      ∙ ap (λ l. map (operation_map f) (code a) ++ operation.SkipUnless (length (code b)) ∷ []
      ++ l ++ operation.Both ∷ []) right
      ∙ sym (around (code a) (code b) (operation.SkipUnless (length (code b))) operation.Both)
  code_map (Or a b) =
      let left = code_map a in
      let right = code_map b in
      ap (λ n. code (tree_map f a) ++ operation.SkipIf n ∷ [] ++ code (tree_map f b)
      ++ operation.Either ∷ []) (long b right)
      ∙ ap (λ l. l ++ operation.SkipIf (length (code b)) ∷ [] ++ code (tree_map f b)
      ++ operation.Either ∷ []) left
      ∙ ap (λ l. map (operation_map f) (code a) ++ operation.SkipIf (length (code b)) ∷ []
      ++ l ++ operation.Either ∷ []) right
      ∙ sym (around (code a) (code b) (operation.SkipIf (length (code b))) operation.Either)

-- the operations of a draft with their expressions read
pub asked_code : (needs : List (Operation Need)) (xs : List (Operation Asked))
    → IsCode (plain_operations needs)
    → asked_operations xs ≡ map (operation_map asked) (plain_operations needs)
    → (asked_tree xs ≡ tree_map asked (made needs)) × IsCode (asked_operations xs)
asked_code needs xs coded same =
    is_code (asked_operations xs) (tree_map asked (made needs))
    (same ∙ ap (map (operation_map asked)) coded ∙ sym (code_map asked (made needs)))

form_error : (expected : Reading Tree) (e : ReadError) → Fails e expected
    → IsErrorOf expected (of_read_error e)
form_error expected (read.Fault Empty) is = is
form_error expected (read.Fault (UnknownLetter place)) is = is
form_error expected (read.Fault (Unbalanced place)) is = is
form_error expected (read.Fault (BadRange place)) is = is
form_error expected (read.Fault (BadDate place)) is = is
form_error expected (read.Fault TooDeep) is = is
form_error expected read.NoMemory is = tt

no_syntax : (e : ReadError) → of_read_error e ≡ error.RegexSyntax → ⊥
no_syntax (read.Fault Empty) is = cc
no_syntax (read.Fault (UnknownLetter place)) is = cc
no_syntax (read.Fault (Unbalanced place)) is = cc
no_syntax (read.Fault (BadRange place)) is = cc
no_syntax (read.Fault (BadDate place)) is = cc
no_syntax (read.Fault TooDeep) is = cc
no_syntax read.NoMemory is = cc

no_size : (e : ReadError) → of_read_error e ≡ error.RegexSize → ⊥
no_size (read.Fault Empty) is = cc
no_size (read.Fault (UnknownLetter place)) is = cc
no_size (read.Fault (Unbalanced place)) is = cc
no_size (read.Fault (BadRange place)) is = cc
no_size (read.Fault (BadDate place)) is = cc
no_size (read.Fault TooDeep) is = cc
no_size read.NoMemory is = cc

same_error : {T : Type 0} (r : Result T PatternError) (e f : PatternError) → r ≡ Err e
    → r ≡ Err f → e ≡ f
same_error r e f is was = cc

-- one error of two results
same_fault : {S T : Type 0} (r : Result S PatternError) (s : Result T PatternError)
    (e f : PatternError) → r ≡ Err e → s ≡ Err e → r ≡ Err f → s ≡ Err f
same_fault r s e f is too was = too ∙ ap Err (same_error r e f is was)

where_all : (good : Bool) (x y : Tree) → good ≡ true → x ≡ y
    → (if good then Some x else None) ≡ Some y
where_all good x y is same = ap (λ b. if b then Some x else None) is ∙ ap Some same

where_lost : (good : Bool) (x : Tree) → good ≡ false → (if good then Some x else None) ≡ None
where_lost good x is = ap (λ b. if b then Some x else None) is

tree_is : (x y : Tree) → reading_map (tree_map asked) (Ok x) ≡ Ok y → tree_map asked x ≡ y
tree_is x y is = cc

-- an answer is the reading by each list that keeps the verdicts
answer_later : {T : Type 0} (view : T → Tree) (expected : Reading Tree)
    (result : Result T PatternError) {old new : List PlainJudged} {b a : ℕ}
    → IsAnswer view expected result
    → Judges (exprs_read expected) result old new b a
    → (list : List PlainJudged) → Keeps new list
    → IsReading view (reading_by list expected) result
answer_later view (Ok tree) (Ok pattern) {new = new} is j list kept =
    where_all (list_all (is_good_on list) (exprs tree)) (tree_map asked tree) (view pattern)
    (found_kept new list (exprs tree) kept j.found)
    (tree_is tree (view pattern) is)
answer_later view (Err fault) (Ok pattern) is j list kept = cc
answer_later view expected (Err error.Empty) is j list kept = ap (reading_by list) is
answer_later view expected (Err (error.UnknownLetter place)) is j list kept =
    ap (reading_by list) is
answer_later view expected (Err (error.Unbalanced place)) is j list kept = ap (reading_by list) is
answer_later view expected (Err (error.BadRange place)) is j list kept = ap (reading_by list) is
answer_later view expected (Err (error.BadDate place)) is j list kept = ap (reading_by list) is
answer_later view expected (Err error.TooDeep) is j list kept = ap (reading_by list) is
answer_later view (Ok tree) (Err error.RegexSyntax) {new = new} is j list kept =
    where_lost (list_all (is_good_on list) (exprs tree)) (tree_map asked tree)
    (lost_kept new list Syntax (exprs tree) kept refl (j.lost_syntax refl))
answer_later view (Err fault) (Err error.RegexSyntax) is j list kept = refl
answer_later view (Ok tree) (Err error.RegexSize) {new = new} is j list kept =
    where_lost (list_all (is_good_on list) (exprs tree)) (tree_map asked tree)
    (lost_kept new list Size (exprs tree) kept refl (j.lost_size refl))
answer_later view (Err fault) (Err error.RegexSize) is j list kept = refl
answer_later view expected (Err error.NoMemory) is j list kept = tt

-- where there are no texts none was read
none_read : (front rest : List (List ℕ)) {old new : List PlainJudged} {b a : ℕ}
    → front ++ rest ≡ [] → AreRead front old new b a → (new ≡ old) × (a ≡ b)
none_read [] rest parts read = read
none_read (t ∷ front) rest parts read = cc

unasked_at : (expected : Reading Tree) {old new : List PlainJudged} {b a : ℕ}
    → ReadsFront (exprs_read expected) old new b a → OnErr expected ((new ≡ old) × (a ≡ b))
unasked_at (Ok tree) so = tt
unasked_at (Err fault) so = none_read so.front so.rest so.parts so.read

is_read : {T : Type 0} (view : T → Tree) (expected : Reading Tree)
    (result : Result T PatternError) {old new : List PlainJudged} {b a : ℕ}
    → IsAnswer view expected result
    → Judges (exprs_read expected) result old new b a
    → IsRead view expected result old new b a
is_read view expected result is j = record {
  answer = is;
  judges = j;
  unasked = unasked_at expected j.reads;
  later = answer_later view expected result is j;
}

-- a text whose form is at fault
pub read_fails : {T : Type 0} (view : T → Tree) (e : ReadError) (expected : Reading Tree)
    (kept : List PlainJudged) (count : ℕ) → Fails e expected
    → IsRead view expected (Err (of_read_error e)) kept kept count count
read_fails {T = T} view e expected kept count fails =
    let cause : PatternError = of_read_error e in
    let result : Result T PatternError = Err cause in
    is_read view expected result (form_error expected e fails) (record {
      reads = record {
        front = [];
        rest = exprs_read expected;
        parts = refl;
        read = (refl, refl);
      };
      all = tt;
      keeps = record { stays = λ t v is. is };
      sizes = tt;
      later = omega arith;
      good = tt;
      syntax = λ is. absurd (no_syntax e (same_error result cause error.RegexSyntax refl is));
      size = λ is. absurd (no_size e (same_error result cause error.RegexSize refl is));
      found = tt;
      lost_syntax = λ is. absurd (no_syntax e (same_error result cause error.RegexSyntax refl is));
      lost_size = λ is. absurd (no_size e (same_error result cause error.RegexSize refl is));
    })

expr_error : (expected : Reading Tree) (e : PatternError) → is_fault e ≡ false → IsOk expected
    → IsErrorOf expected e
expr_error expected error.RegexSyntax sound ok = ok
expr_error expected error.RegexSize sound ok = ok
expr_error expected error.NoMemory sound ok = tt
expr_error expected error.Empty sound ok = cc
expr_error expected (error.UnknownLetter place) sound ok = cc
expr_error expected (error.Unbalanced place) sound ok = cc
expr_error expected (error.BadRange place) sound ok = cc
expr_error expected (error.BadDate place) sound ok = cc
expr_error expected error.TooDeep sound ok = cc

exprs_are : (needs : List (Operation Need)) (expected : Reading Tree)
    → IsCode (plain_operations needs) → expected ≡ Ok (made needs)
    → exprs_in (plain_operations needs) ≡ exprs_read expected
exprs_are needs expected coded is = ap exprs_in coded ∙ ap exprs_read (sym is)

module _ {S T : Type 0} (view : T → Tree) (needs : List (Operation Need))
    (expected : Reading Tree) (coded : IsCode (plain_operations needs))
    (is : expected ≡ Ok (made needs)) {old new : List PlainJudged} {b a : ℕ} where
  -- a text whose expressions are not read
  pub exprs_fail : (e : PatternError) → is_fault e ≡ false
      → Judges {T = S} (exprs_in (plain_operations needs)) (Err e) old new b a
      → IsRead view expected (Err e) old new b a
  exprs_fail e sound j =
      let before : Result S PatternError = Err e in
      let result : Result T PatternError = Err e in
      is_read view expected result (expr_error expected e sound (subst (λ r. IsOk r) (sym is) refl))
      (subst (λ l. Judges {T = T} l (Err e) old new b a) (exprs_are needs expected coded is)
      (record {
        reads = j.reads;
        all = tt;
        keeps = j.keeps;
        sizes = tt;
        later = j.later;
        good = tt;
        syntax = λ was. j.syntax (same_fault result before e error.RegexSyntax refl refl was);
        size = λ was. j.size (same_fault result before e error.RegexSize refl refl was);
        found = tt;
        lost_syntax =
            λ was. j.lost_syntax (same_fault result before e error.RegexSyntax refl refl was);
        lost_size = λ was. j.lost_size (same_fault result before e error.RegexSize refl refl was);
      }))

  pub exprs_read_on : (x : S) (y : T) → view y ≡ tree_map asked (made needs)
      → Judges (exprs_in (plain_operations needs)) (Ok x) old new b a
      → IsRead view expected (Ok y) old new b a
  exprs_read_on x y tree j =
      is_read view expected (Ok y) (ap (reading_map (tree_map asked)) is ∙ ap Ok (sym tree))
      (subst (λ l. Judges {T = T} l (Ok y) old new b a) (exprs_are needs expected coded is)
      (record {
        reads = j.reads;
        all = j.all;
        keeps = j.keeps;
        sizes = j.sizes;
        later = j.later;
        good = j.good;
        syntax = λ was. cc;
        size = λ was. cc;
        found = j.found;
        lost_syntax = λ was. cc;
        lost_size = λ was. cc;
      }))
