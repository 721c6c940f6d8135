-- Message ids in texts of several pieces.
use Rattle.std.proofs.Common.{◌≡◌, ◌==◌, ◌∙◌, ◌++◌, ◌<◌, ◌≤◌, ◌+◌, ℕ, zero, suc, Bool, true}
use Rattle.std.proofs.Common.{false, cond, List, [], ◌∷◌, Option, Some, None, take, drop, length}
use Rattle.std.proofs.Common.{option_map, refl, sym, ap, arith, if◌then◌else◌, nat_lt}
use Rattle.std.proofs.Common.{subst, not, one-add, ⊎_elim}
use Rattle.std.proofs.lemmas.Bool.{cases_Bool, eqb-true, lt-ltb}
use Rattle.std.proofs.Math.Dec.{leb-suc-suc}
use Rattle.std.specs.List.{position_or_len}
use Rattle.mail_base.specs.Fronts.{◌>>=◌}
use Rattle.mail_base.specs.Places.{around, split_once}
use Rattle.headers.specs.Ids.{PlainFoundId, first_id, id_of, ids, ids_from, ids_with}
use Rattle.joined_texts.specs.Joined.{before_first, behind_first, ends, up_to}

-- a text behind its first byte
pub up_to_next : (last : Option ℕ) (b : ℕ) (text : List ℕ)
    → up_to last (b ∷ text) ≡ b ∷ (if ends last b then [] else up_to last text)
up_to_next None b text = refl
up_to_next (Some last) b text = refl

pub up_to_nothing : (last : Option ℕ) → up_to last [] ≡ []
up_to_nothing None = refl
up_to_nothing (Some last) = refl

-- what is left behind a byte is shorter
pub behind_shorter : (b : ℕ) (text rest : List ℕ) → behind_first b text ≡ Some rest
    → length rest < length text
behind_shorter b [] rest is = cc
behind_shorter b (c ∷ text) rest is = by_test (c == b) is (behind_shorter b text rest)
  where
    by_test : (t : Bool) → (if t then Some text else behind_first b text) ≡ Some rest
        → (behind_first b text ≡ Some rest → length rest < length text)
        → length rest < length (c ∷ text)
    by_test true here later =
        let same : text ≡ rest = cc in
        subst (λ r. length r < length (c ∷ text)) same (omega arith)
    by_test false here later = omega (arith, later here)

-- a text with a byte at its front, cut at the first such byte
abbrev onto : ℕ → List ℕ × List ℕ → List ℕ × List ℕ
onto c p = (c ∷ p.0, p.1)

abbrev cut_at : List ℕ → ℕ → Bool → Option (List ℕ × List ℕ)
cut_at text place within = option_map (around text) (cond within (Some place) None)

split_here : (b c : ℕ) (text : List ℕ) → (c == b) ≡ true
    → split_once b (c ∷ text) ≡ Some ([], text)
split_here b c text is =
    let m = position_or_len (λ x. x == b) text in
    ap (λ t. cut_at (c ∷ text) (cond (not t) (1 + m) 0)
    (nat_lt (cond (not t) (1 + m) 0) (suc (length text)))) is
    ∙ ap (cut_at (c ∷ text) 0) (lt-ltb 0 (suc (length text)) (omega arith))

cut_later : (c : ℕ) (text : List ℕ) (m : ℕ) (within : Bool)
    → cut_at (c ∷ text) (suc m) within ≡ option_map (onto c) (cut_at text m within)
cut_later c text m false = refl
cut_later c text m true =
    let at : suc m + 1 ≡ suc (m + 1) = omega arith in
    ap (λ n. Some (c ∷ take m text, drop n (c ∷ text))) at

split_later : (b c : ℕ) (text : List ℕ) → (c == b) ≡ false
    → split_once b (c ∷ text) ≡ option_map (onto c) (split_once b text)
split_later b c text is =
    let m = position_or_len (λ x. x == b) text in
    ap (λ t. cut_at (c ∷ text) (cond (not t) (1 + m) 0)
    (nat_lt (cond (not t) (1 + m) 0) (suc (length text)))) is
    ∙ ap (λ n. cut_at (c ∷ text) n (nat_lt n (suc (length text)))) (one-add m)
    ∙ ap (cut_at (c ∷ text) (suc m)) (leb-suc-suc (suc m) (length text))
    ∙ cut_later c text m (nat_lt m (length text))

-- a text cut at the first such byte
abbrev split_by : ℕ → List ℕ → Option (List ℕ) → Option (List ℕ × List ℕ)
split_by b text rest = option_map (λ r. (before_first b text, r)) rest

onto_split : (b c : ℕ) (text : List ℕ) (rest : Option (List ℕ)) → (c == b) ≡ false
    → option_map (onto c) (split_by b text rest) ≡ split_by b (c ∷ text) rest
onto_split b c text None is = refl
onto_split b c text (Some r) is =
    ap (λ t. Some (if t then [] else c ∷ before_first b text, r)) (sym is)

split_is : (b : ℕ) (text : List ℕ) → split_once b text ≡ split_by b text (behind_first b text)
split_is b [] = refl
split_is b (c ∷ text) = ⊎_elim
    (λ is. split_here b c text is
    ∙ ap (λ t. Some (if t then [] else c ∷ before_first b text, text)) (sym is)
    ∙ ap (λ t. split_by b (c ∷ text) (if t then Some text else behind_first b text)) (sym is))
    (λ is. split_later b c text is ∙ ap (option_map (onto c)) (split_is b text)
    ∙ onto_split b c text (behind_first b text) is
    ∙ ap (λ t. split_by b (c ∷ text) (if t then Some text else behind_first b text)) (sym is))
    (cases_Bool (c == b))

-- the first id by what stands behind its brackets
abbrev end_in : List ℕ → Option (List ℕ) → Option PlainFoundId
end_in tail None = None
end_in tail (Some rest) = Some (record { inside = before_first 62 tail; rest = rest })

abbrev found_in : Option (List ℕ) → Option PlainFoundId
found_in None = None
found_in (Some tail) = end_in tail (behind_first 62 tail)

abbrev ended : Option (List ℕ × List ℕ) → Option PlainFoundId
ended end = end >>= (λ e. Some (record { inside = e.0; rest = e.1 }))

end_is : (tail : List ℕ) (rest : Option (List ℕ)) → ended (split_by 62 tail rest) ≡ end_in tail rest
end_is tail None = refl
end_is tail (Some rest) = refl

start_is : (text : List ℕ) (tail : Option (List ℕ))
    → (split_by 60 text tail >>= (λ start. ended (split_once 62 start.1))) ≡ found_in tail
start_is text None = refl
start_is text (Some tail) = ap ended (split_is 62 tail) ∙ end_is tail (behind_first 62 tail)

first_is : (text : List ℕ) → first_id text ≡ found_in (behind_first 60 text)
first_is text =
    ap (λ o. o >>= (λ start. ended (split_once 62 start.1))) (split_is 60 text)
    ∙ start_is text (behind_first 60 text)

first_shorter : (text : List ℕ) (f : PlainFoundId) → first_id text ≡ Some f
    → length f.rest < length text
first_shorter text f is = by_tail (behind_first 60 text) refl (sym (first_is text) ∙ is)
  where
    by_end : (tail : List ℕ) → length tail < length text
        → (rest : Option (List ℕ)) → behind_first 62 tail ≡ rest → end_in tail rest ≡ Some f
        → length f.rest < length text
    by_end tail within None at found = cc
    by_end tail within (Some rest) at found =
        let same : rest ≡ f.rest = cc in
        subst (λ r. length r < length text) same (omega (arith, behind_shorter 62 tail rest at))

    by_tail : (tail : Option (List ℕ)) → behind_first 60 text ≡ tail → found_in tail ≡ Some f
        → length f.rest < length text
    by_tail None at found = cc
    by_tail (Some tail) at found =
        by_end tail (behind_shorter 60 text tail at) (behind_first 62 tail) refl found

-- ids that are counted from enough are those of the text
ids_enough : (n m : ℕ) (text : List ℕ) → length text ≤ n → length text ≤ m
    → ids_from n text ≡ ids_from m text
ids_enough zero zero text a b = refl
ids_enough zero (suc m) [] a b = refl
ids_enough zero (suc m) (c ∷ text) a b = absurd (omega arith)
ids_enough (suc n) zero [] a b = refl
ids_enough (suc n) zero (c ∷ text) a b = absurd (omega arith)
ids_enough (suc n) (suc m) text a b = by_first (first_id text) refl (ids_enough n m)
  where
    by_first : (found : Option PlainFoundId) → first_id text ≡ found
        → ((t : List ℕ) → length t ≤ n → length t ≤ m → ids_from n t ≡ ids_from m t)
        → ids_with (ids_from n) found ≡ ids_with (ids_from m) found
    by_first None is more = refl
    by_first (Some f) is more =
        let short : length f.rest < length text = first_shorter text f is in
        ap (λ l. id_of f.inside ∷ l) (more f.rest (omega arith) (omega arith))

ids_next : (text : List ℕ) → ids text ≡ ids_with ids (first_id text)
ids_next [] = refl
ids_next (c ∷ text) = by_first (first_id (c ∷ text)) refl
  where
    by_first : (found : Option PlainFoundId) → first_id (c ∷ text) ≡ found
        → ids_with (ids_from (length text)) found ≡ ids_with ids found
    by_first None is = refl
    by_first (Some f) is =
        let short : length f.rest < length (c ∷ text) = first_shorter (c ∷ text) f is in
        ap (λ l. id_of f.inside ∷ l)
        (ids_enough (length text) (length f.rest) f.rest (omega arith) (omega arith))

up_to_found : (b : ℕ) (text rest : List ℕ) → behind_first b text ≡ Some rest
    → up_to (Some b) text ≡ before_first b text ++ b ∷ []
up_to_found b [] rest is = cc
up_to_found b (c ∷ text) rest is = by_test (c == b) refl is (up_to_found b text rest)
  where
    by_test : (t : Bool) → (c == b) ≡ t
        → (if t then Some text else behind_first b text) ≡ Some rest
        → (behind_first b text ≡ Some rest
        → up_to (Some b) text ≡ before_first b text ++ b ∷ [])
        → c ∷ (if t then [] else up_to (Some b) text)
        ≡ (if t then [] else c ∷ before_first b text) ++ b ∷ []
    by_test true at here later = ap (λ x. x ∷ []) (eqb-true c b at)
    by_test false at here later = ap (λ l. c ∷ l) (later here)

-- what is left to find behind an id
pub ids_some : (all text tail rest : List ℕ) (b : ℕ) → b ≡ 60 → text ≡ b ∷ tail
    → behind_first 60 text ≡ behind_first 60 all → behind_first 62 tail ≡ Some rest
    → ids all ≡ up_to (Some 62) text ∷ ids rest
ids_some all text tail rest b begins is same closed =
    let begun : text ≡ 60 ∷ tail = is ∙ ap (λ x. x ∷ tail) begins in
    let at : behind_first 60 all ≡ Some tail = sym same ∙ ap (behind_first 60) begun in
    ids_next all ∙ ap (ids_with ids) (first_is all ∙ ap found_in at ∙ ap (end_in tail) closed)
    ∙ ap (λ l. (60 ∷ l) ∷ ids rest) (sym (up_to_found 62 tail rest closed))
    ∙ ap (λ t. up_to (Some 62) t ∷ ids rest) (sym begun)

-- a text without ids: no bracket is opened, or none is closed
pub ids_none : (all text : List ℕ) → text ≡ []
    → behind_first 60 text ≡ behind_first 60 all → ids all ≡ []
ids_none all text is same =
    ids_next all
    ∙ ap (ids_with ids) (first_is all ∙ ap found_in (sym same ∙ ap (behind_first 60) is))

pub ids_open : (all text tail : List ℕ) (b : ℕ) → b ≡ 60 → text ≡ b ∷ tail
    → behind_first 60 text ≡ behind_first 60 all → behind_first 62 tail ≡ None → ids all ≡ []
ids_open all text tail b begins is same closed =
    let begun : text ≡ 60 ∷ tail = is ∙ ap (λ x. x ∷ tail) begins in
    let at : behind_first 60 all ≡ Some tail = sym same ∙ ap (behind_first 60) begun in
    ids_next all ∙ ap (ids_with ids) (first_is all ∙ ap found_in at ∙ ap (end_in tail) closed)
