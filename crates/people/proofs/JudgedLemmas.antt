-- How verdicts are looked up and kept.
use Rattle.std.proofs.Common.{◌≡◌, ◌∙◌, ℕ, suc, ◌+◌, ◌<◌, ◌≤◌, ◌||◌, ◌^◌, Bool, true, false, cond}
use Rattle.std.proofs.Common.{List, [], ◌∷◌, ◌++◌, length}
use Rattle.std.proofs.Common.{drop, get_or, Option, Some, None, Result, Ok, Err, map}
use Rattle.std.proofs.Common.{option_map, refl, sym, ap}
use Rattle.std.proofs.Common.{add-one, drop-cons, is_some, ⊎_elim, inr, subst, not, nat_lt}
use Rattle.std.proofs.Common.{◌==◌, ◌⊎◌}
use Rattle.std.specs.List.{All}
use Rattle.std.specs.Prelude.{IfOk, IsErrOf, OnErr, OnOk, if◌then◌else◌}
use Rattle.std.proofs.lemmas.List.{map-append}
use Rattle.std.proofs.lemmas.List.Elements.{All-cons, All-nil}
use Rattle.std.specs.Str.{bytes_eq}
use Rattle.std.proofs.lemmas.Bool.{cases_Bool, eq-eqb, lt-ltb, false_from_ne_true, false≢true}
use Rattle.std.proofs.lemmas.Slice.Eq.{bytes_eq-Decides}
use Rattle.std.proofs.Math.ListN.{drop_of_length-le}
use Rattle.std.proofs.Math.Bool.{or-true}
use Rattle.mail_base.specs.Faults.{Rose}
use Rattle.regex.specs.declared.string.regex.Regex.{Regex}
use Rattle.people.specs.Answer.{Tells}
use Rattle.people.specs.Cause.{has_risen, is_caused, is_readable}
use Rattle.people.specs.Expr.{IsBuilt, is_folded, is_literal}
use Rattle.people.specs.Judged.{AreDistinct, IsCaused, PlainJudged, Reads, is_answered, is_refused}
use Rattle.people.specs.Judged.{judged_of, plain_judged, verdict_of, verdict_on, with_verdict}
use Rattle.people.specs.declared.answer.Answer.{Answer}
use Rattle.people.specs.declared.error.ExprError.{ExprError}
use Rattle.people.specs.declared.error.ExprError.TheVariants as error
use Rattle.people.specs.declared.judged.Judged.{Judged}
use Rattle.people.specs.declared.judged.Verdict.{Verdict}
use Rattle.people.specs.declared.judged.Verdict.TheVariants.{Good, Syntax, Size}
use Rattle.people.proofs.PatternLemmas.{built_pattern}

-- each verdict of a list has its cause
pub all_caused : (list : List Judged) → All IsCaused (map plain_judged list)
all_caused [] = All-nil IsCaused
all_caused (j ∷ list) =
    All-cons IsCaused (plain_judged j) (map plain_judged list) j.cause (all_caused list)

-- what is judged from a place on
abbrev pub judged_from : List Judged → ℕ → List ℕ → Option PlainJudged
judged_from list i text = judged_of (map plain_judged (drop i list)) text

pub judged_here : (list : List Judged) (i : ℕ) (j : Judged) (text : List ℕ) → i < length list
    → j ≡ get_or list i j
    → bytes_eq j.text.items text ≡ true → judged_from list i text ≡ Some (plain_judged j)
judged_here list i j text within is same =
    ap (λ l. judged_of (map plain_judged l) text) (drop-cons list i j within
    ∙ ap (λ x. x ∷ drop (suc i) list) (sym is))
    ∙ ap (λ b. cond b (Some (plain_judged j))
    (judged_of (map plain_judged (drop (suc i) list)) text)) same

pub judged_later : (list : List Judged) (i : ℕ) (j : Judged) (text : List ℕ) → i < length list
    → j ≡ get_or list i j
    → bytes_eq j.text.items text ≡ false → judged_from list i text ≡ judged_from list (i + 1) text
judged_later list i j text within is apart =
    ap (λ l. judged_of (map plain_judged l) text) (drop-cons list i j within
    ∙ ap (λ x. x ∷ drop (suc i) list) (sym is))
    ∙ ap (λ b. cond b (Some (plain_judged j))
    (judged_of (map plain_judged (drop (suc i) list)) text)) apart
    ∙ ap (λ n. judged_from list n text) (sym (add-one i))

pub judged_nowhere : (list : List Judged) (i : ℕ) (text : List ℕ) → length list ≤ i
    → judged_from list i text ≡ None
judged_nowhere list i text past =
    ap (λ l. judged_of (map plain_judged l) text) (drop_of_length-le list past)

some_none : (k : PlainJudged) → Some k ≡ None → ⊥
some_none k e = cc

not_true : (b : Bool) → not b ≡ true → b ≡ false
not_true true h = sym h
not_true false h = refl

judged_last : (list : List PlainJudged) (j : PlainJudged) (text : List ℕ)
    → judged_of list text ≡ None
    → judged_of (list ++ j ∷ []) text ≡ (if bytes_eq j.text text then Some j else None)
judged_last [] j text none = refl
judged_last (k ∷ list) j text none = ⊎_elim
    (λ same. absurd (some_none k (sym (ap (λ b. cond b (Some k) (judged_of list text)) same)
    ∙ none)))
    (λ apart.
    ap (λ b. cond b (Some k) (judged_of (list ++ j ∷ []) text)) apart
    ∙ judged_last list j text (sym (ap (λ b. cond b (Some k) (judged_of list text)) apart) ∙ none))
    (cases_Bool (bytes_eq k.text text))

same_bytes : (s : List ℕ) → bytes_eq s s ≡ true
same_bytes s = (bytes_eq-Decides s s).1 refl

-- a text that was not judged keeps the list distinct
pub distinct_more : (list : List PlainJudged) (j : PlainJudged) → AreDistinct list
    → judged_of list j.text ≡ None
    → AreDistinct (list ++ j ∷ [])
distinct_more [] j distinct none = (refl, tt)
distinct_more (k ∷ list) j distinct none = ⊎_elim
    (λ same. absurd (some_none k (sym (ap (λ b. cond b (Some k) (judged_of list j.text)) same)
    ∙ none)))
    (λ apart.
    let other : bytes_eq j.text k.text ≡ false = false_from_ne_true (bytes_eq j.text k.text)
    (λ is. false≢true (sym apart
    ∙ (bytes_eq-Decides k.text j.text).1 (sym ((bytes_eq-Decides j.text k.text).0 is)))) in (
      judged_last list j k.text distinct.0 ∙ ap (λ b. if b then Some j else None) other,
      distinct_more list j distinct.1 (sym (ap (λ b. cond b (Some k) (judged_of list j.text)) apart)
          ∙ none),
    ))
    (cases_Bool (bytes_eq k.text j.text))

rose_risen : (before after : ℕ) → Rose before after → has_risen before after ≡ true
rose_risen before after rose = ⊎_elim
    (λ more. ap (λ b. b || after + 1 == 2 ^ 64) (lt-ltb before after more))
    (λ last. ap (λ b. nat_lt before after || b) (eq-eqb (after + 1) (2 ^ 64) last)
    ∙ or-true (nat_lt before after))
    rose

same_verdict : (v w : Verdict) → Some v ≡ Some w → v ≡ w
same_verdict v w e = cc

-- an answer of a builder has its cause
pub caused : (text : List ℕ) (result : Result Regex ExprError) (verdict : Verdict)
    (before after : ℕ)
    → verdict_of result ≡ Some verdict → IfOk result (IsBuilt (is_folded text) text)
    → (IsErrOf result error.Syntax → is_readable text ≡ false)
    → (IsErrOf result error.Size → Rose before after) → is_caused verdict text before after ≡ true
caused text (Ok regex) verdict before after e built syntax size =
    ap (λ v. is_caused v text before after) (sym (same_verdict Good verdict e))
    ∙ built_pattern (is_folded text) text regex built
caused text (Err error.Syntax) verdict before after e built syntax size =
    ap (λ v. is_caused v text before after) (sym (same_verdict Syntax verdict e))
    ∙ ap not (syntax refl)
caused text (Err error.Size) verdict before after e built syntax size =
    ap (λ v. is_caused v text before after) (sym (same_verdict Size verdict e))
    ∙ rose_risen before after (size refl)
caused text (Err error.NoMemory) verdict before after e built syntax size = cc

-- what a call answers and leaves, by the verdict that it tells
pub answered_reads : {T : Type 0} (text : List ℕ) (result : Result T ExprError) (v : Verdict)
    (old new : List PlainJudged)
    (before after : ℕ) → verdict_of result ≡ Some v → verdict_on new text ≡ Some v
    → new ≡ with_verdict old text (Some v) before after
    → (is_answered old text ≡ true → after ≡ before) → before ≤ after
    → (v ≡ Good → is_literal text || is_readable text ≡ true)
    → (v ≡ Syntax → is_readable text ≡ false)
    → (v ≡ Size → (verdict_on old text ≡ Some Size) ⊎ Rose before after)
    → Reads text result old new before after
answered_reads text (Ok x) v old new before after e on judged asks later good syntax size = record {
  verdict = on ∙ sym e;
  judged = judged ∙ ap (λ o. with_verdict old text o before after) (sym e);
  asks = asks;
  later = later;
  ok = good (sym (same_verdict Good v e));
  syntax_cause = λ h. absurd cc;
  size_cause = λ h. absurd cc;
}
answered_reads text (Err error.Syntax) v old new before after e on judged asks later good syntax
    size = record {
      verdict = on ∙ sym e;
      judged = judged ∙ ap (λ o. with_verdict old text o before after) (sym e);
      asks = asks;
      later = later;
      ok = tt;
      syntax_cause = λ h. syntax (sym (same_verdict Syntax v e));
      size_cause = λ h. absurd cc;
    }
answered_reads text (Err error.Size) v old new before after e on judged asks later good syntax size
    = record {
      verdict = on ∙ sym e;
      judged = judged ∙ ap (λ o. with_verdict old text o before after) (sym e);
      asks = asks;
      later = later;
      ok = tt;
      syntax_cause = λ h. absurd cc;
      size_cause = λ h. size (sym (same_verdict Size v e));
    }
answered_reads text (Err error.NoMemory) v old new before after e on judged asks later good syntax
    size = absurd cc

no_literal : (list : List PlainJudged) (text : List ℕ) → is_literal text ≡ false
    → verdict_on list text ≡ option_map (λ j. j.verdict) (judged_of list text)
no_literal list text plain =
    ap (λ b. if b then Some Good else option_map (λ j. j.verdict) (judged_of list text)) plain

-- a text that was not judged is judged
pub first_reads : {T : Type 0} (text : List ℕ) (result : Result T ExprError) (v : Verdict)
    (old new : List PlainJudged)
    (before after : ℕ) → is_literal text ≡ false → judged_of old text ≡ None
    → verdict_of result ≡ Some v
    → new ≡ old ++ record { text = text; verdict = v; before = before; after = after } ∷ []
    → before ≤ after
    → is_caused v text before after ≡ true → (v ≡ Size → Rose before after)
    → Reads text result old new before after
first_reads text result v old new before after plain none e added later cause size =
    let j : PlainJudged = record { text = text; verdict = v; before = before; after = after } in
    let off : verdict_on old text ≡ None = no_literal old text plain
    ∙ ap (option_map (λ k. k.verdict)) none in
    let found : judged_of new text ≡ Some j =
    ap (λ l. judged_of l text) added ∙ judged_last old j text none
    ∙ ap (λ b. if b then Some j else None) (same_bytes text) in
    answered_reads text result v old new before after e (no_literal new text plain
    ∙ ap (option_map (λ k. k.verdict)) found)
    (added ∙ sym (ap (λ o. if is_some o then old else old ++ j ∷ []) off))
    (λ h. absurd (false≢true
    (sym (ap (λ b. b || is_refused (verdict_on old text)) plain ∙ ap is_refused off) ∙ h)))
    later
    (λ is. ap (λ b. is_literal text || b) (sym (ap (λ w. is_caused w text before after) is) ∙ cause)
    ∙ or-true (is_literal text))
    (λ is. not_true (is_readable text) (sym (ap (λ w. is_caused w text before after) is) ∙ cause))
    (λ is. inr (size is))

-- the list behind a push
pub pushed_distinct : {T E : Type 0} (result : Result T E) (old new : List Judged)
    (list : List PlainJudged) (j : Judged)
    → map plain_judged old ≡ list → OnOk result (new ≡ old ++ j ∷ []) → OnErr result (new ≡ old)
    → AreDistinct (map plain_judged old) → judged_of list j.text.items ≡ None
    → AreDistinct (map plain_judged new)
pushed_distinct (Ok x) old new list j seen ok err distinct none =
    subst AreDistinct (sym (ap (map plain_judged) ok ∙ map-append plain_judged old (j ∷ [])))
    (distinct_more (map plain_judged old) (plain_judged j) distinct
    (ap (λ l. judged_of l j.text.items) seen ∙ none))
pushed_distinct (Err e) old new list j seen ok err distinct none =
    subst AreDistinct (sym (ap (map plain_judged) err)) distinct

told_size : {T : Type 0} (result : Result T ExprError) → verdict_of result ≡ Some Size
    → IsErrOf result error.Size
told_size (Ok x) e = absurd cc
told_size (Err error.Syntax) e = absurd cc
told_size (Err error.Size) e = refl
told_size (Err error.NoMemory) e = absurd cc

rose_at : (before after b a : ℕ) → b ≡ before → a ≡ after → Rose before after → Rose b a
rose_at before after b a was now rose =
    subst (λ n. Rose n a) (sym was) (subst (λ n. Rose before n) (sym now) rose)

-- what a builder tells has its cause
pub told_cause : (text kept : List ℕ) (answer : Answer) (v : Verdict) (before after : ℕ)
    → Tells text answer before after
    → kept ≡ text → verdict_of answer.result ≡ Some v
    → is_caused v kept answer.before answer.after ≡ true
told_cause text kept answer v before after told same e =
    ap (λ t. is_caused v t answer.before answer.after) same
    ∙ caused text answer.result v answer.before answer.after e told.built told.syntax
    (λ h. rose_at before after answer.before answer.after told.was told.now (told.size h))

-- what stands in the list is what the builder told
pub told_reads : (text kept : List ℕ) (answer : Answer) (v : Verdict)
    (old list new : List PlainJudged) (before after : ℕ)
    → Tells text answer before after → kept ≡ text → is_literal text ≡ false
    → judged_of old text ≡ None
    → verdict_of answer.result ≡ Some v → list ≡ old
    → new ≡ list ++ record
    { text = kept; verdict = v; before = answer.before; after = answer.after } ∷ []
    → Reads text answer.result old new before after
told_reads text kept answer v old list new before after told same plain none e stays added =
    let judged : List ℕ → PlainJudged =
    λ t. record { text = t; verdict = v; before = answer.before; after = answer.after } in
    subst (λ n. Reads text answer.result old new n after) told.was
    (subst (λ n. Reads text answer.result old new answer.before n) told.now
    (first_reads text answer.result v old new answer.before answer.after plain none e
    (added ∙ ap (λ l. l ++ judged kept ∷ []) stays ∙ ap (λ t. old ++ judged t ∷ []) same)
    told.later (told_cause text text answer v before after told refl e)
    (λ is. rose_at before after answer.before answer.after told.was told.now
    (told.size (told_size answer.result (e ∙ ap Some is))))))
