-- The lines that are ids, alone or with blanks between them.
use Rattle.std.proofs.Common.{◌≡◌, ℕ, ◌==◌, ◌&&◌, Bool, true, false, nat_lt, List, []}
use Rattle.std.proofs.Common.{◌∷◌, ◌++◌, length, refl, sym, ap, subst}
use Rattle.std.proofs.Common.{◌∙◌, arith}
use Rattle.std.specs.List.{join_with_byte, list_all, onto_first, slice_split}
use Rattle.std.proofs.lemmas.Bool.{and_parts, cond-false, eqb-true, lt-ltb}
use Rattle.std.proofs.lemmas.Bool.Decides.{nat_tests}
use Rattle.drafts.specs.LineState.{only_if, step}
use Rattle.drafts.specs.PlainDraft.{is_id, is_id_byte}
use Rattle.drafts.specs.declared.line_state.LineState.{LineState}
use Rattle.drafts.specs.declared.line_state.LineState.TheVariants.{NoId, Id, NextId, Ids}
use Rattle.drafts.proofs.LineLemmas.{accepts, accepts_at}

-- a state behind a byte that passes a test
passes : (state : LineState) (t : List ℕ) (p : Bool)
    → accepts_at (λ next. accepts next t) (only_if p state) ≡ (p && accepts state t)
passes state t true = refl
passes state t false = refl

id_goes : (t : List ℕ) → accepts Id t ≡ list_all is_id_byte t
id_goes [] = refl
id_goes (b ∷ t) = passes Id t (is_id_byte b) ∙ ap (λ p. is_id_byte b && p) (id_goes t)

-- an id that has a byte
id_of_byte : (b : ℕ) (t : List ℕ) → is_id (b ∷ t) ≡ (is_id_byte b && list_all is_id_byte t)
id_of_byte b t =
    let some : nat_lt 0 (length (b ∷ t)) ≡ true = lt-ltb 0 (length (b ∷ t)) (omega arith) in
    ap (λ p. p && (is_id_byte b && list_all is_id_byte t)) some

pub no_id_goes : (t : List ℕ) → accepts NoId t ≡ is_id t
no_id_goes [] = refl
no_id_goes (b ∷ t) =
    passes Id t (is_id_byte b) ∙ ap (λ p. is_id_byte b && p) (id_goes t) ∙ sym (id_of_byte b t)

-- a byte between ids
abbrev is_between : ℕ → Bool
is_between b = b == 32

-- the first piece may stand behind an id's byte, and the others are ids
abbrev go_on : List (List ℕ) → Bool
go_on [] = true
go_on (piece ∷ pieces) = list_all is_id_byte piece && list_all is_id pieces

both_ways : (p q r : Bool) → ((p && q) && r) ≡ (p && (q && r))
both_ways true q r = refl
both_ways false q r = refl

with_byte_ids : (b : ℕ) (pieces : List (List ℕ))
    → list_all is_id (onto_first b pieces) ≡ (is_id_byte b && go_on pieces)
with_byte_ids b [] = ap (λ p. p && true) (id_of_byte b []) ∙ both_ways (is_id_byte b) true true
with_byte_ids b (piece ∷ pieces) =
    ap (λ p. p && list_all is_id pieces) (id_of_byte b piece)
    ∙ both_ways (is_id_byte b) (list_all is_id_byte piece) (list_all is_id pieces)

with_byte_on : (b : ℕ) (pieces : List (List ℕ))
    → go_on (onto_first b pieces) ≡ (is_id_byte b && go_on pieces)
with_byte_on b [] = both_ways (is_id_byte b) true true
with_byte_on b (piece ∷ pieces) =
    both_ways (is_id_byte b) (list_all is_id_byte piece) (list_all is_id pieces)

-- what ids with blanks between them are cut to
record Cut (t : List ℕ) : Type 0 where
  ids : accepts NextId t ≡ list_all is_id (slice_split is_between t)
  on : accepts Ids t ≡ go_on (slice_split is_between t)

cut_blank : (t : List ℕ) → Cut t → Cut (32 ∷ t)
cut_blank t more = record { ids = refl; on = more.ids }

cut_byte : (b : ℕ) (t : List ℕ) → is_between b ≡ false → Cut t → Cut (b ∷ t)
cut_byte b t other more =
    let pieces = slice_split is_between t in
    let cut : slice_split is_between (b ∷ t) ≡ onto_first b pieces =
    cond-false (is_between b) ([] ∷ pieces) (onto_first b pieces) other in
    let behind : step Ids b ≡ only_if (is_id_byte b) Ids =
    cond-false (b == 32) _ _ other in
    let goes : (is_id_byte b && accepts Ids t) ≡ (is_id_byte b && go_on pieces) =
    ap (λ p. is_id_byte b && p) more.on in record {
      ids = passes Ids t (is_id_byte b) ∙ goes ∙ sym (with_byte_ids b pieces)
          ∙ ap (list_all is_id) (sym cut);
      on = ap (accepts_at (λ next. accepts next t)) behind
          ∙ passes Ids t (is_id_byte b) ∙ goes ∙ sym (with_byte_on b pieces)
          ∙ ap go_on (sym cut);
    }

cut_of : (t : List ℕ) → Cut t
cut_of [] = record { ids = refl; on = refl }
cut_of (b ∷ t) = by_test (is_between b) refl (cut_of t)
  where
    by_test : (p : Bool) → is_between b ≡ p → Cut t → Cut (b ∷ t)
    by_test true is more =
        subst (λ (x : ℕ). Cut (x ∷ t)) (sym (eqb-true b 32 is)) (cut_blank t more)
    by_test false is more = cut_byte b t is more

pub ids_go : (t : List ℕ) → accepts NextId t ≡ list_all is_id (slice_split (λ b. b == 32) t)
ids_go t = let cut = cut_of t in cut.ids

-- ---- ids that are joined

no_blank : (b : ℕ) → is_id_byte b ≡ true → is_between b ≡ false
no_blank b is = grind (arith, nat_tests)

id_bytes : (id : List ℕ) → is_id id ≡ true → list_all is_id_byte id ≡ true
id_bytes id is = let both = and_parts (nat_lt 0 (length id)) (list_all is_id_byte id) is in both.1

one_piece : (t : List ℕ) → list_all is_id_byte t ≡ true → slice_split is_between t ≡ t ∷ []
one_piece [] all = refl
one_piece (b ∷ t) all =
    let both = and_parts (is_id_byte b) (list_all is_id_byte t) all in
    cond-false (is_between b) _ _ (no_blank b both.0) ∙ ap (onto_first b) (one_piece t both.1)

piece_before : (t rest : List ℕ) → list_all is_id_byte t ≡ true
    → slice_split is_between (t ++ 32 ∷ rest) ≡ t ∷ slice_split is_between rest
piece_before [] rest all = refl
piece_before (b ∷ t) rest all =
    let both = and_parts (is_id_byte b) (list_all is_id_byte t) all in
    cond-false (is_between b) _ _ (no_blank b both.0)
    ∙ ap (onto_first b) (piece_before t rest both.1)

-- ids that are joined by blanks are cut apart again
pub joined_cut : (id : List ℕ) (ids : List (List ℕ)) → list_all is_id (id ∷ ids) ≡ true
    → slice_split (λ b. b == 32) (join_with_byte 32 (id ∷ ids)) ≡ id ∷ ids
joined_cut id [] all =
    let both = and_parts (is_id id) true all in one_piece id (id_bytes id both.0)
joined_cut id (next ∷ ids) all =
    let both = and_parts (is_id id) (list_all is_id (next ∷ ids)) all in
    piece_before id (join_with_byte 32 (next ∷ ids)) (id_bytes id both.0)
    ∙ ap (λ (l : List (List ℕ)). id ∷ l) (joined_cut next ids both.1)
