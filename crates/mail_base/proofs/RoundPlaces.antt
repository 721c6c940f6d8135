-- Lists round an element that passes a test.
use Rattle.std.proofs.Common.{◌≡◌, ◌+◌, ◌-◌, Bool, true, false, ◌&&◌, ◌||◌, not, List, [], ◌∷◌}
use Rattle.std.proofs.Common.{◌++◌, length, drop, filter, reverse, refl, sym, ap, ◌∙◌, arith}
use Rattle.std.proofs.Common.{append_assoc, length-append}
use Rattle.std.specs.List.{list_all, list_any, prefix_len, suffix_len, position_or_len, slice_split}
use Rattle.std.specs.List.{onto_first, before_first, after_first, before_last, after_last}
use Rattle.std.proofs.lemmas.Bool.{and_parts, not-true}
use Rattle.std.proofs.lemmas.List.{reverse-append, length-reverse, take_at, drop_at}
use Rattle.std.proofs.lemmas.List.Folds.{list_all-append}

pub split_front : {X : Type 0} (p : X → Bool) (xs : List X) (y : X) (ys : List X)
    → list_all (λ x. not (p x)) xs ≡ true
    → p y ≡ true → slice_split p (xs ++ y ∷ ys) ≡ xs ∷ slice_split p ys
split_front p [] y ys none here = rw here refl
split_front p (x ∷ xs) y ys none here =
    let both = and_parts (not (p x)) (list_all (λ z. not (p z)) xs) none in
    rw (not-true (p x) both.0) (ap (onto_first x) (split_front p xs y ys both.1 here))

pub prefix_stop : {X : Type 0} (q : X → Bool) (xs : List X) (y : X) (ys : List X)
    → list_all q xs ≡ true → q y ≡ false
    → prefix_len q (xs ++ y ∷ ys) ≡ length xs
prefix_stop q [] y ys all here = rw here refl
prefix_stop q (x ∷ xs) y ys all here =
    let both = and_parts (q x) (list_all q xs) all in
    let more = prefix_stop q xs y ys both.1 here in
    rw both.0 (omega (arith, more))

pub prefix_all : {X : Type 0} (q : X → Bool) (xs : List X) → list_all q xs ≡ true
    → prefix_len q xs ≡ length xs
prefix_all q [] all = refl
prefix_all q (x ∷ xs) all =
    let both = and_parts (q x) (list_all q xs) all in
    let more = prefix_all q xs both.1 in
    rw both.0 (omega (arith, more))

pub all_reversed : {X : Type 0} (q : X → Bool) (xs : List X) → list_all q xs ≡ true
    → list_all q (reverse xs) ≡ true
all_reversed q [] all = refl
all_reversed q (x ∷ xs) all =
    let both = and_parts (q x) (list_all q xs) all in
    ap (list_all q) (reverse-append (x ∷ []) xs) ∙ list_all-append q (reverse xs) (x ∷ [])
    ∙ rw (all_reversed q xs both.1, both.0) refl

pub suffix_last : {X : Type 0} (p : X → Bool) (front : List X) (y : X) (back : List X)
    → list_all (λ x. not (p x)) back ≡ true → p y ≡ true
    → suffix_len (λ x. not (p x)) (front ++ y ∷ back) ≡ length back
suffix_last p front y back none here =
    ap (prefix_len (λ x. not (p x)))
    (reverse-append front (y ∷ back) ∙ ap (λ l. l ++ reverse front) (reverse-append (y ∷ []) back)
    ∙ append_assoc (reverse back) (y ∷ []) (reverse front))
    ∙ prefix_stop (λ x. not (p x)) (reverse back) y (reverse front)
    (all_reversed (λ x. not (p x)) back none)
    (ap not here)
    ∙ length-reverse back

pub before_last_at : {X : Type 0} (p : X → Bool) (front : List X) (y : X) (back : List X)
    → list_all (λ x. not (p x)) back ≡ true → p y ≡ true → before_last p (front ++ y ∷ back) ≡ front
before_last_at p front y back none here =
    let n = length (front ++ y ∷ back) - suffix_len (λ x. not (p x)) (front ++ y ∷ back) - 1 in
    let short : length front ≡ n =
    omega (arith, suffix_last p front y back none here, length-append front (y ∷ back)) in
    take_at front (y ∷ back) n short

pub after_last_at : {X : Type 0} (p : X → Bool) (front : List X) (y : X) (back : List X)
    → list_all (λ x. not (p x)) back ≡ true → p y ≡ true → after_last p (front ++ y ∷ back) ≡ back
after_last_at p front y back none here =
    let n = length (front ++ y ∷ back) - suffix_len (λ x. not (p x)) (front ++ y ∷ back) in
    let long : length (front ++ y ∷ []) ≡ n =
    omega (
      arith,
      suffix_last p front y back none here,
      length-append front (y ∷ back),
      length-append front (y ∷ []),
    ) in
    ap (drop n) (sym (append_assoc front (y ∷ []) back)) ∙ drop_at (front ++ y ∷ []) back n long

pub after_last_absent : {X : Type 0} (p : X → Bool) (xs : List X)
    → list_all (λ x. not (p x)) xs ≡ true
    → after_last p xs ≡ xs
after_last_absent p xs none =
    let all : suffix_len (λ x. not (p x)) xs ≡ length xs =
    prefix_all (λ x. not (p x)) (reverse xs) (all_reversed (λ x. not (p x)) xs none)
    ∙ length-reverse xs in
    let whole : length xs - suffix_len (λ x. not (p x)) xs ≡ 0 = omega arith in
    ap (λ n. drop n xs) whole

pub before_first_at : {X : Type 0} (p : X → Bool) (front : List X) (y : X) (back : List X)
    → list_all (λ x. not (p x)) front ≡ true → p y ≡ true
    → before_first p (front ++ y ∷ back) ≡ front
before_first_at p front y back none here =
    take_at front (y ∷ back) (position_or_len p (front ++ y ∷ back))
    (sym (prefix_stop (λ x. not (p x)) front y back none (ap not here)))

pub after_first_at : {X : Type 0} (p : X → Bool) (front : List X) (y : X) (back : List X)
    → list_all (λ x. not (p x)) front ≡ true → p y ≡ true → after_first p (front ++ y ∷ back) ≡ back
after_first_at p front y back none here =
    let n = position_or_len p (front ++ y ∷ back) + 1 in
    let long : length (front ++ y ∷ []) ≡ n =
    omega (
      arith,
      prefix_stop (λ x. not (p x)) front y back none (ap not here),
      length-append front
          (y ∷ []),
    ) in
    ap (drop n) (sym (append_assoc front (y ∷ []) back)) ∙ drop_at (front ++ y ∷ []) back n long

pub any_at : {X : Type 0} (p : X → Bool) (front : List X) (y : X) (back : List X) → p y ≡ true
    → list_any p (front ++ y ∷ back) ≡ true
any_at p [] y back here = rw here refl
any_at p (x ∷ front) y back here =
    elim (p x) as (λ t. (t || list_any p (front ++ y ∷ back)) ≡ true)
    [ true ↦ refl | false ↦ any_at p front y back here ]

pub all_not_at : {X : Type 0} (p : X → Bool) (front : List X) (y : X) (back : List X) → p y ≡ false
    → list_all p (front ++ y ∷ back) ≡ false
all_not_at p [] y back here = rw here refl
all_not_at p (x ∷ front) y back here =
    elim (p x) as (λ t. (t && list_all p (front ++ y ∷ back)) ≡ false)
    [ true ↦ all_not_at p front y back here | false ↦ refl ]

pub filter_all : {X : Type 0} (p : X → Bool) (xs : List X) → list_all p xs ≡ true → filter p xs ≡ xs
filter_all p [] all = refl
filter_all p (x ∷ xs) all =
    let both = and_parts (p x) (list_all p xs) all in
    rw both.0 (ap (λ l. x ∷ l) (filter_all p xs both.1))
