-- Verdicts on the expressions of a pattern.
use Rattle.std.proofs.Common.{◌≡◌, ◌∙◌, ◌++◌, ◌≤◌, ◌⊎◌, ◌&&◌, ℕ, Bool, true, false, List, [], ◌∷◌}
use Rattle.std.proofs.Common.{Option, Some, None, Result, Ok, Err, is_some, option_map}
use Rattle.std.proofs.Common.{append_assoc, map, refl, sym, ap, subst, arith, inl, inr}
use Rattle.std.specs.Prelude.{IsErrOf, if◌then◌else◌}
use Rattle.std.specs.List.{list_all}
use Rattle.std.specs.Str.{bytes_eq}
use Rattle.mail_base.specs.Faults.{Rose}
use Rattle.mail_base.specs.Shown.{utf8_text}
use Rattle.people.specs.Cause.{is_readable}
use Rattle.people.specs.Expr.{is_literal}
use Rattle.people.specs.Judged.{PlainJudged, Reads, judged_of, verdict_of, verdict_on}
use Rattle.people.specs.Judged.{with_verdict}
use Rattle.people.specs.declared.error.ExprError.{ExprError}
use Rattle.people.specs.declared.error.ExprError.TheVariants as expr
use Rattle.people.specs.declared.judged.Verdict.{Verdict}
use Rattle.people.specs.declared.judged.Verdict.TheVariants.{Good, Syntax, Size}
use Rattle.std.proofs.Math.Bool.{and-false}
use Rattle.std.proofs.lemmas.List.{map-append}
use Rattle.patterns_match.specs.Asked.{asked_operations}
use Rattle.patterns.specs.Exprs.{asked, expr_of, exprs_in, leaf_expr}
use Rattle.patterns_match.specs.Asked.{plain_asked}
use Rattle.patterns.specs.Exprs.{with_expr}
use Rattle.patterns_match.specs.Operations.{operation_map}
use Rattle.patterns_match.specs.Trees.{Tells, Searches, Dated, Counts}
use Rattle.patterns_match.specs.declared.asked.Asked.{Asked}
use Rattle.patterns_match.specs.declared.operation.Operation.TheVariants as operation
use Rattle.patterns.specs.Causes.{AreRead, Halfway, Judges, Keeps, ReadsFront, SomeOf}
use Rattle.patterns.specs.Causes.{is_found_good, is_good, is_good_on}
use Rattle.patterns.specs.Errors.{is_fault, of_expr_error}
use Rattle.patterns_match.specs.Trees.{Leaf}
use Rattle.patterns_match.specs.declared.letter.Field.{Field}
use Rattle.patterns_match.specs.declared.operation.Operation.{Operation}
use Rattle.patterns.specs.declared.pattern_error.PatternError.TheVariants as error

-- what is judged stays so with a further text
judged_stays : (list : List PlainJudged) (j k : PlainJudged) (text : List ℕ)
    → judged_of list text ≡ Some k → judged_of (list ++ j ∷ []) text ≡ Some k
judged_stays [] j k text is = cc
judged_stays (i ∷ list) j k text is = by_test (bytes_eq i.text text) is (judged_stays list j k text)
  where
    by_test : (t : Bool)
        → (if t then Some i else judged_of list text) ≡ Some k
        → (judged_of list text ≡ Some k → judged_of (list ++ j ∷ []) text ≡ Some k)
        → (if t then Some i else judged_of (list ++ j ∷ []) text) ≡ Some k
    by_test true is on = is
    by_test false is on = on is

-- a further text is judged as it was before, or as it is now
judged_more : (list : List PlainJudged) (j : PlainJudged) (text : List ℕ)
    → (judged_of (list ++ j ∷ []) text ≡ judged_of list text)
    ⊎ (judged_of (list ++ j ∷ []) text ≡ Some j)
judged_more [] j text = by_test (bytes_eq j.text text)
  where
    by_test : (t : Bool) → ((if t then Some j else None) ≡ None)
        ⊎ ((if t then Some j else None) ≡ Some j)
    by_test true = inr refl
    by_test false = inl refl
judged_more (i ∷ list) j text = by_test (bytes_eq i.text text) (judged_more list j text)
  where
    by_test : (t : Bool)
        → (judged_of (list ++ j ∷ []) text ≡ judged_of list text)
        ⊎ (judged_of (list ++ j ∷ []) text ≡ Some j)
        → ((if t then Some i else judged_of (list ++ j ∷ []) text)
        ≡ (if t then Some i else judged_of list text))
        ⊎ ((if t then Some i else judged_of (list ++ j ∷ []) text) ≡ Some j)
    by_test true on = inl refl
    by_test false on = on

abbrev given : Option PlainJudged → Bool → Option Verdict
given j literal = if literal then Some Good else option_map (λ k. k.verdict) j

given_more : (literal : Bool) (old new : Option PlainJudged) (v : Verdict)
    → ((j : PlainJudged) → old ≡ Some j → new ≡ Some j) → given old literal ≡ Some v
    → given new literal ≡ Some v
given_more true old new v on is = is
given_more false None new v on is = cc
given_more false (Some j) new v on is = ap (option_map (λ k. k.verdict)) (on j refl) ∙ is

added_stays : (t : Bool) (list : List PlainJudged) (j k : PlainJudged) (text : List ℕ)
    → judged_of list text ≡ Some k
    → judged_of (if t then list else list ++ j ∷ []) text ≡ Some k
added_stays true list j k text is = is
added_stays false list j k text is = judged_stays list j k text is

verdict_stays : (list : List PlainJudged) (t text : List ℕ) (w : Option Verdict) (b a : ℕ)
    (v : Verdict) → verdict_on list text ≡ Some v
    → verdict_on (with_verdict list t w b a) text ≡ Some v
verdict_stays list t text None b a v is = is
verdict_stays list t text (Some w) b a v is =
    let j : PlainJudged = record { text = t; verdict = w; before = b; after = a } in
    given_more (is_literal text) (judged_of list text)
    (judged_of (with_verdict list t (Some w) b a) text) v
    (λ k. added_stays (is_some (verdict_on list t)) list j k text) is

given_same : (literal : Bool) (old new : Option PlainJudged) (j : PlainJudged)
    → j.verdict ≡ Good → (new ≡ old) ⊎ (new ≡ Some j) → given new literal ≡ Some Size
    → given old literal ≡ Some Size
given_same true old new j good as_is is = is
given_same false old new j good (inl same) is = ap (option_map (λ k. k.verdict)) (sym same) ∙ is
given_same false old new j good (inr now) is =
    let no : Some Good ≡ Some Size =
    ap Some (sym good) ∙ ap (option_map (λ k. k.verdict)) (sym now) ∙ is in
    cc

added_more : (t : Bool) (list : List PlainJudged) (j : PlainJudged) (text : List ℕ)
    → (judged_of (if t then list else list ++ j ∷ []) text ≡ judged_of list text)
    ⊎ (judged_of (if t then list else list ++ j ∷ []) text ≡ Some j)
added_more true list j text = inl refl
added_more false list j text = judged_more list j text

-- no size is told by a good text
size_stays : (list : List PlainJudged) (t text : List ℕ) (b a : ℕ)
    → verdict_on (with_verdict list t (Some Good) b a) text ≡ Some Size
    → verdict_on list text ≡ Some Size
size_stays list t text b a is =
    let j : PlainJudged = record { text = t; verdict = Good; before = b; after = a } in
    given_same (is_literal text) (judged_of list text)
    (judged_of (with_verdict list t (Some Good) b a) text) j refl
    (added_more (is_some (verdict_on list t)) list j text) is

-- the lists that keep a further verdict
pub keeps_more : (list : List PlainJudged) (t : List ℕ) (w : Option Verdict) (b a : ℕ)
    → Keeps list (with_verdict list t w b a)
keeps_more list t w b a = record { stays = λ text v is. verdict_stays list t text w b a v is }

pub keeps_on : (old mid new : List PlainJudged) → Keeps old mid → Keeps mid new → Keeps old new
keeps_on old mid new first next = record {
  stays = λ text v is. next.stays text v (first.stays text v is);
}

-- what was found good stays so
pub found_kept : (new list : List PlainJudged) (texts : List (List ℕ)) → Keeps new list
    → list_all (is_good_on new) texts ≡ true → list_all (is_good_on list) texts ≡ true
found_kept new list [] kept is = refl
found_kept new list (t ∷ texts) kept is =
    by_verdict (verdict_on new t) refl is (found_kept new list texts kept)
  where
    by_verdict : (v : Option Verdict) → verdict_on new t ≡ v
        → (is_found_good v && list_all (is_good_on new) texts) ≡ true
        → (list_all (is_good_on new) texts ≡ true → list_all (is_good_on list) texts ≡ true)
        → (is_good_on list t && list_all (is_good_on list) texts) ≡ true
    by_verdict None at so on = cc
    by_verdict (Some Good) at so on =
        ap (λ v. is_found_good v && list_all (is_good_on list) texts) (kept.stays t Good at)
        ∙ on so
    by_verdict (Some Syntax) at so on = cc
    by_verdict (Some Size) at so on = cc

-- where one was found bad, not all were found good
pub lost_kept : (new list : List PlainJudged) (v : Verdict) (texts : List (List ℕ))
    → Keeps new list → is_found_good (Some v) ≡ false
    → SomeOf (λ t. verdict_on new t ≡ Some v) texts
    → list_all (is_good_on list) texts ≡ false
lost_kept new list v [] kept bad is = absurd is
lost_kept new list v (t ∷ texts) kept bad (inl is) =
    ap (λ w. is_found_good w && list_all (is_good_on list) texts) (kept.stays t v is)
    ∙ ap (λ b. b && list_all (is_good_on list) texts) bad
lost_kept new list v (t ∷ texts) kept bad (inr is) =
    ap (λ b. is_good_on list t && b) (lost_kept new list v texts kept bad is)
    ∙ and-false (is_good_on list t)

rose_from : (b m a : ℕ) → b ≤ m → Rose m a → Rose b a
rose_from b m a le (inl up) = inl (omega arith)
rose_from b m a le (inr last) = inr last

-- texts that were read behind others
read_on : (front texts : List (List ℕ)) (old mid new : List PlainJudged) (b m a : ℕ)
    → AreRead front old mid b m → AreRead texts mid new m a → AreRead (front ++ texts) old new b a
read_on [] texts old mid new b m a first next =
    subst (λ n. AreRead texts old new n a) first.1
    (subst (λ l. AreRead texts l new m a) first.0 next)
read_on (t ∷ front) texts old mid new b m a first next = (
  first.0,
  first.1,
  read_on front texts (with_verdict old t first.0.verdict b first.0.after) mid new first.0.after m
      a first.2 next,
)

told_size : {T : Type 0} (r : Result T ExprError) → verdict_of r ≡ Some Size
    → IsErrOf r expr.Size
told_size (Ok x) e = cc
told_size (Err expr.Syntax) e = cc
told_size (Err expr.Size) e = refl
told_size (Err expr.NoMemory) e = cc

-- a text that was read
told_one : {T : Type 0} (text : List ℕ) (r : Result T ExprError) (mid new : List PlainJudged)
    (m a : ℕ) → Reads text r mid new m a → AreRead (text ∷ []) mid new m a
told_one text r mid new m a reads = (
  record { verdict = verdict_of r; after = a },
  record {
    later = reads.later;
    asks = reads.asks;
    size = λ e. reads.size_cause (told_size r e);
  },
  (reads.judged, refl),
)

pub halfway_start : (all : List (Operation Leaf)) (old : List PlainJudged) (b : ℕ)
    → Halfway all all old old b b
halfway_start all old b = record {
  front = [];
  parts = refl;
  read = (refl, refl);
  keeps = record { stays = λ text v is. is };
  sizes = λ text is. is;
  later = omega arith;
  good = refl;
  syntax = λ s. s;
  found = λ list kept is. is;
  lost = λ list v s. s;
}

module _ {all rest : List (Operation Leaf)} {o : Operation Leaf} {old mid : List PlainJudged}
    {b m : ℕ} (so : Halfway all (o ∷ rest) old mid b m) where
  with_none : expr_of o ≡ None → exprs_in (o ∷ rest) ≡ exprs_in rest
  with_none is = ap (λ e. with_expr e (exprs_in rest)) is

  pub halfway_skip : expr_of o ≡ None → Halfway all rest old mid b m
  halfway_skip is = record {
    front = so.front;
    parts = ap (λ l. so.front ++ l) (sym (with_none is)) ∙ so.parts;
    read = so.read;
    keeps = so.keeps;
    sizes = so.sizes;
    later = so.later;
    good = ap (list_all is_good) (sym (with_none is)) ∙ so.good;
    syntax = λ s. so.syntax (subst (SomeOf (λ t. is_readable t ≡ false)) (sym (with_none is)) s);
    found = λ list kept s. so.found list kept (ap (list_all (is_good_on list)) (with_none is) ∙ s);
    lost = λ list v s. so.lost list v (subst (SomeOf (λ t. verdict_on list t ≡ Some v))
        (sym (with_none is)) s);
  }

  module _ {field : Field} {text : List ℕ} (is : expr_of o ≡ Some (field, text)) where
    with_text : exprs_in (o ∷ rest) ≡ utf8_text text ∷ exprs_in rest
    with_text = ap (λ e. with_expr e (exprs_in rest)) is

    -- the verdicts before are kept
    more : {T : Type 0} {r : Result T ExprError} {new : List PlainJudged} {a : ℕ}
        → Reads (utf8_text text) r mid new m a → Keeps mid new
    more {r = r} {a = a} reads =
        subst (Keeps mid) (sym reads.judged) (keeps_more mid (utf8_text text) (verdict_of r) m a)

    -- the text behind those that were read
    abbrev onto : List (List ℕ)
    onto = so.front ++ utf8_text text ∷ []

    with_front : onto ++ exprs_in rest ≡ exprs_in all
    with_front =
        append_assoc so.front (utf8_text text ∷ []) (exprs_in rest)
        ∙ ap (λ l. so.front ++ l) (sym with_text) ∙ so.parts

    read_too : {T : Type 0} (r : Result T ExprError) {new : List PlainJudged} {a : ℕ}
        → Reads (utf8_text text) r mid new m a → AreRead onto old new b a
    read_too r {new = new} {a = a} reads =
        read_on so.front (utf8_text text ∷ []) old mid new b m a so.read
        (told_one (utf8_text text) r mid new m a reads)

    pub halfway_on : {T : Type 0} {x : T} {new : List PlainJudged} {a : ℕ}
        → Reads (utf8_text text) (Ok x) mid new m a
        → Halfway all rest old new b a
    halfway_on {x = x} {new = new} {a = a} reads = record {
      front = onto;
      parts = with_front;
      read = read_too (Ok x) reads;
      keeps = keeps_on old mid new so.keeps (more reads);
      sizes = λ t was. so.sizes t (size_stays mid (utf8_text text) t m a
          (subst (λ l. verdict_on l t ≡ Some Size) reads.judged was));
      later = omega (arith, so.later, reads.later);
      good = ap (λ t. t && list_all is_good (exprs_in rest)) (sym reads.ok)
          ∙ ap (list_all is_good) (sym with_text) ∙ so.good;
      syntax = λ s. so.syntax (subst (SomeOf (λ t. is_readable t ≡ false)) (sym with_text)
          (inr s));
      found = λ list kept s. so.found list (keeps_on mid new list (more reads) kept)
          (ap (list_all (is_good_on list)) with_text
          ∙ ap (λ v. is_found_good v && list_all (is_good_on list) (exprs_in rest))
          (kept.stays (utf8_text text) Good reads.verdict) ∙ s);
      lost = λ list v s. so.lost list v (subst (SomeOf (λ t. verdict_on list t ≡ Some v))
          (sym with_text) (inr s));
    }

    -- its verdict stands among those of all
    among : (list : List PlainJudged) (v : Verdict) → verdict_on list (utf8_text text) ≡ Some v
        → SomeOf (λ t. verdict_on list t ≡ Some v) (exprs_in all)
    among list v at = so.lost list v
        (subst (SomeOf (λ t. verdict_on list t ≡ Some v)) (sym with_text) (inl at))

    by_cause : {a : ℕ} → (verdict_on mid (utf8_text text) ≡ Some Size) ⊎ Rose m a
        → SomeOf (λ t. verdict_on old t ≡ Some Size) (exprs_in all) ⊎ Rose b a
    by_cause (inl was) = inl (among old Size (so.sizes (utf8_text text) was))
    by_cause {a = a} (inr rose) = inr (rose_from b m a so.later rose)

    stopped : {S : Type 0} (e : ExprError) {new : List PlainJudged} {a : ℕ}
        → Reads {T = S} (utf8_text text) (Err e) mid new m a
        → ReadsFront (exprs_in all) old new b a
    stopped {S = S} e reads = record {
      front = onto;
      rest = exprs_in rest;
      parts = with_front;
      read = read_too {T = S} (Err e) reads;
    }

    pub halfway_stop : {S T : Type 0} (e : ExprError) {new : List PlainJudged} {a : ℕ}
        → Reads {T = S} (utf8_text text) (Err e) mid new m a
        → Judges {T = T} (exprs_in all) (Err (of_expr_error e)) old new b a
    halfway_stop {S = S} expr.Syntax {new = new} reads = record {
      reads = stopped {S = S} expr.Syntax reads;
      all = tt;
      keeps = keeps_on old mid new so.keeps (more reads);
      sizes = tt;
      later = omega (arith, so.later, reads.later);
      good = tt;
      syntax = λ s. so.syntax (subst (SomeOf (λ t. is_readable t ≡ false)) (sym with_text)
          (inl (reads.syntax_cause refl)));
      size = λ s. cc;
      found = tt;
      lost_syntax = λ s. among new Syntax reads.verdict;
      lost_size = λ s. cc;
    }
    halfway_stop {S = S} expr.Size {new = new} reads = record {
      reads = stopped {S = S} expr.Size reads;
      all = tt;
      keeps = keeps_on old mid new so.keeps (more reads);
      sizes = tt;
      later = omega (arith, so.later, reads.later);
      good = tt;
      syntax = λ s. cc;
      size = λ s. by_cause (reads.size_cause refl);
      found = tt;
      lost_syntax = λ s. cc;
      lost_size = λ s. among new Size reads.verdict;
    }
    halfway_stop {S = S} expr.NoMemory {new = new} reads = record {
      reads = stopped {S = S} expr.NoMemory reads;
      all = tt;
      keeps = keeps_on old mid new so.keeps (more reads);
      sizes = tt;
      later = omega (arith, so.later, reads.later);
      good = tt;
      syntax = λ s. cc;
      size = λ s. cc;
      found = tt;
      lost_syntax = λ s. cc;
      lost_size = λ s. cc;
    }

pub halfway_end : {T : Type 0} {x : T} {all : List (Operation Leaf)} {old new : List PlainJudged}
    {b a : ℕ} → Halfway all [] old new b a
    → Judges (exprs_in all) (Ok x) old new b a
halfway_end {new = new} so = record {
  reads = record { front = so.front; rest = []; parts = so.parts; read = so.read };
  all = refl;
  keeps = so.keeps;
  sizes = so.sizes;
  later = so.later;
  good = sym so.good;
  syntax = λ s. cc;
  size = λ s. cc;
  found = so.found new (record { stays = λ text v is. is }) refl;
  lost_syntax = λ s. cc;
  lost_size = λ s. cc;
}

pub no_memory : {T : Type 0} {all left : List (Operation Leaf)} {old new : List PlainJudged}
    {b a : ℕ} → Halfway all left old new b a
    → Judges {T = T} (exprs_in all) (Err error.NoMemory) old new b a
no_memory {left = left} so = record {
  reads = record { front = so.front; rest = exprs_in left; parts = so.parts; read = so.read };
  all = tt;
  keeps = so.keeps;
  sizes = tt;
  later = so.later;
  good = tt;
  syntax = λ s. cc;
  size = λ s. cc;
  found = tt;
  lost_syntax = λ s. cc;
  lost_size = λ s. cc;
}

leaf_asked : (leaf : Leaf) (field : Field) (text : List ℕ) → leaf_expr leaf ≡ Some (field, text)
    → asked leaf ≡ Searches field false (utf8_text text)
leaf_asked (Tells mark) field text is = cc
leaf_asked (Searches f true t) field text is = cc
leaf_asked (Searches f false t) field text is =
    let same : (f, t) ≡ (field, text) = cc in
    ap (λ (p : Field × List ℕ). Searches p.0 false (utf8_text p.1)) same
leaf_asked (Dated day range) field text is = cc
leaf_asked (Counts number range) field text is = cc

-- an operation that asks an expression
pub expr_asked : (o : Operation Leaf) (field : Field) (text : List ℕ)
    → expr_of o ≡ Some (field, text)
    → operation_map asked o ≡ operation.Ask (Searches field false (utf8_text text))
expr_asked (operation.Ask leaf) field text is = ap operation.Ask (leaf_asked leaf field text is)
expr_asked operation.Negate field text is = cc
expr_asked (operation.SkipUnless n) field text is = cc
expr_asked (operation.SkipIf n) field text is = cc
expr_asked (operation.Others relation n) field text is = cc
expr_asked operation.Both field text is = cc
expr_asked operation.Either field text is = cc
expr_asked operation.Group field text is = cc
expr_asked (operation.Related relation) field text is = cc

-- a further operation
pub asked_more : (xs ys : List (Operation Asked)) (x : Operation Asked) (o : Operation Leaf)
    (rest whole : List (Operation Leaf)) → ys ≡ xs ++ x ∷ []
    → operation_map plain_asked x ≡ operation_map asked o
    → asked_operations xs ++ map (operation_map asked) (o ∷ rest) ≡ whole
    → asked_operations ys ++ map (operation_map asked) rest ≡ whole
asked_more xs ys x o rest whole more same before =
    ap (λ l. asked_operations l ++ map (operation_map asked) rest) more
    ∙ ap (λ l. l ++ map (operation_map asked) rest)
    (map-append (operation_map plain_asked) xs (x ∷ []))
    ∙ append_assoc (asked_operations xs) (operation_map plain_asked x ∷ [])
    (map (operation_map asked) rest)
    ∙ ap (λ y. asked_operations xs ++ (y ∷ map (operation_map asked) rest)) same ∙ before

pub no_fault : (e : ExprError) → is_fault (of_expr_error e) ≡ false
no_fault expr.Syntax = refl
no_fault expr.Size = refl
no_fault expr.NoMemory = refl
