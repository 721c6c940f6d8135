-- Texts that stand one behind the other.
use Rattle.std.proofs.Common.{◌≡◌, ℕ, zero, suc, ◌-◌, ◌<◌, ◌≤◌, true, List, [], ◌∷◌}
use Rattle.std.proofs.Common.{◌++◌, length, get_or, take, drop, nat_le, refl, ap, sym, ◌∙◌, arith}
use Rattle.std.proofs.Common.{length-append}
use Rattle.std.proofs.lemmas.Bool.{and_parts, and_from, le-leb, leb-true}
use Rattle.std.proofs.lemmas.List.{drop-append-le, drop_all, take-append-le, length-drop, take_rest}
use Rattle.std.specs.Prelude.{slice_range}
use Rattle.pager.specs.Inner.{PlainTexts, ascends, cut_at, last_end, start_at}

-- the texts of a buffer
abbrev pub texts_of : List ℕ → List ℕ → PlainTexts
texts_of ends bytes = record {
  done = cut_at 0 ends bytes;
  current = drop (last_end 0 ends) bytes;
}

abbrev texts : List (List ℕ) → List ℕ → PlainTexts
texts done current = record { done = done; current = current }

-- no place is behind the end
pub ascends_within : (start : ℕ) (ends : List ℕ) (size : ℕ) → ascends start ends size ≡ true
    → start ≤ size
ascends_within start [] size up = leb-true start size up
ascends_within start (end ∷ ends) size up =
    let parts = and_parts (nat_le start end) (ascends end ends size) up in
    let first : start ≤ end = leb-true start end parts.0 in
    let then : end ≤ size = ascends_within end ends size parts.1 in
    omega arith

-- the last text ends before the end
pub last_within : (start : ℕ) (ends : List ℕ) (size : ℕ) → ascends start ends size ≡ true
    → last_end start ends ≤ size
last_within start [] size up = leb-true start size up
last_within start (end ∷ ends) size up =
    last_within end ends size (and_parts (nat_le start end) (ascends end ends size) up).1

range_more : (bytes more : List ℕ) (start end : ℕ) → start ≤ end → end ≤ length bytes
    → slice_range (bytes ++ more) start end ≡ slice_range bytes start end
range_more bytes more start end order within =
    ap (take (end - start)) (drop-append-le start bytes more (omega arith))
    ∙ take-append-le (end - start) (drop start bytes) more
    (omega (arith, length-drop start bytes))

-- bytes that are added leave the texts before them
pub cut_more : (start : ℕ) (ends bytes more : List ℕ) → ascends start ends (length bytes) ≡ true
    → cut_at start ends (bytes ++ more) ≡ cut_at start ends bytes
cut_more start [] bytes more up = refl
cut_more start (end ∷ ends) bytes more up =
    let parts = and_parts (nat_le start end) (ascends end ends (length bytes)) up in
    ap (λ s. s ∷ cut_at end ends (bytes ++ more)) (range_more bytes more start end
    (leb-true start end parts.0) (ascends_within end ends (length bytes) parts.1))
    ∙ ap (λ s. slice_range bytes start end ∷ s) (cut_more end ends bytes more parts.1)

-- they are added to the text that is not ended
pub current_more : (ends bytes more : List ℕ) → ascends 0 ends (length bytes) ≡ true
    → drop (last_end 0 ends) (bytes ++ more) ≡ drop (last_end 0 ends) bytes ++ more
current_more ends bytes more up =
    drop-append-le (last_end 0 ends) bytes more (last_within 0 ends (length bytes) up)

ascends-size : (start : ℕ) (ends : List ℕ) (size more : ℕ) → ascends start ends size ≡ true
    → size ≤ more → ascends start ends more ≡ true
ascends-size start [] size more up longer =
    let first : start ≤ size = leb-true start size up in le-leb start more (omega arith)
ascends-size start (end ∷ ends) size more up longer =
    let parts = and_parts (nat_le start end) (ascends end ends size) up in
    and_from _ _ parts.0 (ascends-size end ends size more parts.1 longer)

-- with more bytes the places are in order still
pub ascends_more : (ends bytes more : List ℕ) → ascends 0 ends (length bytes) ≡ true
    → ascends 0 ends (length (bytes ++ more)) ≡ true
ascends_more ends bytes more up =
    ascends-size 0 ends (length bytes) (length (bytes ++ more)) up
    (omega (arith, length-append bytes more))

-- the text that is not ended is ended
pub cut_end : (start : ℕ) (ends bytes : List ℕ)
    → cut_at start (ends ++ length bytes ∷ []) bytes
    ≡ cut_at start ends bytes ++ drop (last_end start ends) bytes ∷ []
cut_end start [] bytes = ap (λ s. s ∷ []) (take_rest bytes start)
cut_end start (end ∷ ends) bytes =
    ap (λ s. slice_range bytes start end ∷ s) (cut_end end ends bytes)

-- its end is the last
pub last_push : (start : ℕ) (ends : List ℕ) (end : ℕ) → last_end start (ends ++ end ∷ []) ≡ end
last_push start [] end = refl
last_push start (first ∷ ends) end = last_push first ends end

-- with it the places are in order
pub ascends_push : (start : ℕ) (ends : List ℕ) (size : ℕ) → ascends start ends size ≡ true
    → ascends start (ends ++ size ∷ []) size ≡ true
ascends_push start [] size up = and_from _ _ up (le-leb size size (omega arith))
ascends_push start (end ∷ ends) size up =
    let parts = and_parts (nat_le start end) (ascends end ends size) up in
    and_from _ _ parts.0 (ascends_push end ends size parts.1)

-- there are as many texts as places
pub length_cut : (start : ℕ) (ends bytes : List ℕ)
    → length (cut_at start ends bytes) ≡ length ends
length_cut start [] bytes = refl
length_cut start (end ∷ ends) bytes = ap suc (length_cut end ends bytes)

-- a text begins where the one before it ends
pub start_at-next : (start : ℕ) (ends : List ℕ) (place d : ℕ) → place < length ends
    → start_at start ends (suc place) ≡ get_or ends place d
start_at-next start [] place d within = absurd (omega arith)
start_at-next start (end ∷ []) zero d within = refl
start_at-next start (end ∷ next ∷ ends) zero d within = refl
start_at-next start (end ∷ ends) (suc place) d within = start_at-next end ends place d (omega arith)

-- the text at a place
pub text_at : (start : ℕ) (ends bytes : List ℕ) (place d : ℕ) → place < length ends
    → get_or (cut_at start ends bytes) place []
    ≡ slice_range bytes (start_at start ends place) (get_or ends place d)
text_at start [] bytes place d within = absurd (omega arith)
text_at start (end ∷ ends) bytes zero d within = refl
text_at start (end ∷ ends) bytes (suc place) d within =
    text_at end ends bytes place d (omega arith)

-- it lies in the bytes
pub text_within : (start : ℕ) (ends : List ℕ) (size place d : ℕ) → ascends start ends size ≡ true
    → place < length ends
    → (start_at start ends place ≤ get_or ends place d) × (get_or ends place d ≤ size)
text_within start [] size place d up within = absurd (omega arith)
text_within start (end ∷ ends) size zero d up within =
    let parts = and_parts (nat_le start end) (ascends end ends size) up in
    (leb-true start end parts.0, ascends_within end ends size parts.1)
text_within start (end ∷ ends) size (suc place) d up within =
    let parts = and_parts (nat_le start end) (ascends end ends size) up in
    text_within end ends size place d parts.1 (omega arith)

-- the first text begins at the start
pub start_first : (start : ℕ) (ends : List ℕ) → start_at start ends 0 ≡ start
start_first start [] = refl
start_first start (end ∷ ends) = refl

-- any other begins where the one before it ends
pub start_next : (ends : List ℕ) (place : ℕ) → 0 < place → place < length ends
    → get_or ends (place - 1) 0 ≡ start_at 0 ends place
start_next ends place some within = rest (place - 1) (omega arith)
  where
    rest : (n : ℕ) → place ≡ suc n → get_or ends n 0 ≡ start_at 0 ends place
    rest n is =
        sym (start_at-next 0 ends n 0 (omega arith)) ∙ ap (start_at 0 ends) (sym is)

-- the text that is not ended is ended, and nothing of the next is there
pub texts_end : (ends bytes new : List ℕ) → new ≡ ends ++ length bytes ∷ []
    → texts_of new bytes
    ≡ record {
      done = (texts_of ends bytes).done ++ (texts_of ends bytes).current ∷ [];
      current = [];
    }
texts_end ends bytes new is =
    ap (λ ends. texts_of ends bytes) is
    ∙ ap (λ done. texts done (drop (last_end 0 (ends ++ length bytes ∷ [])) bytes))
    (cut_end 0 ends bytes)
    ∙ ap (λ current.
    texts ((texts_of ends bytes).done ++ (texts_of ends bytes).current ∷ []) current)
    (ap (λ n. drop n bytes) (last_push 0 ends (length bytes))
    ∙ drop_all (length bytes) bytes (omega arith))

-- what is known of texts when bytes are added
pub ruleset bytes_added = (cut_more, current_more, ascends_more)

-- where a text stands
pub ruleset text_place = (text_at, text_within, length_cut)

-- where a text begins
pub ruleset text_start = (start_next, start_first)
