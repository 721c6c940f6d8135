-- What is found in the parts of a message.
use Rattle.std.proofs.Common.{◌≡◌, ◌∙◌, ◌+◌, ◌++◌, ◌||◌, ◌<◌, ◌≤◌, ℕ, Bool, true, false, List, []}
use Rattle.std.proofs.Common.{◌∷◌}
use Rattle.std.proofs.Common.{length, refl, sym, ap, arith, drop, take, get_or, map, length-append}
use Rattle.std.specs.Prelude.{Vec, vec_len}
use Rattle.std.specs.declared.alloc.Global.{Global}
use Rattle.std.proofs.lemmas.List.{get_or-map, length-map, map-append, take-append-drop, take_all}
use Rattle.std.proofs.lemmas.List.{take_more}
use Rattle.mail_base.specs.Series.{Held, plain_texts}
use Rattle.patterns_match.specs.Kept.{AreFirst, lines_in}
use Rattle.patterns_match.specs.Listings.{part_lines}
use Rattle.std.proofs.lemmas.List.Folds.{list_any-append, list_any_at}
use Rattle.std.specs.List.{flat_map, list_any}
use Rattle.mime_tree.specs.Part.{PlainPart, plain_part}
use Rattle.mime_tree.specs.declared.part.Part.{Part}

found_in_parts : (test : List ℕ → Bool) (lines : PlainPart → List (List ℕ)) (parts : List Part)
    → list_any test (flat_map lines (map plain_part parts))
    ≡ list_any (λ p. list_any test (lines (plain_part p))) parts
found_in_parts test lines [] = refl
found_in_parts test lines (p ∷ parts) =
    list_any-append test (lines (plain_part p)) (flat_map lines (map plain_part parts))
    ∙ ap (λ r. list_any test (lines (plain_part p)) || r) (found_in_parts test lines parts)

-- it is found in one of the parts
pub part_found_at : (test : List ℕ → Bool) (lines : PlainPart → List (List ℕ)) (parts : List Part)
    (i : ℕ) (p : Part) → i < length parts → p ≡ get_or parts i p
    → list_any test (lines (plain_part p)) ≡ true
    → list_any test (flat_map lines (map plain_part parts)) ≡ true
part_found_at test lines parts i p within is found =
    found_in_parts test lines parts
    ∙ list_any_at (λ q. list_any test (lines (plain_part q))) parts i p within
    (ap (λ q. list_any test (lines (plain_part q))) (sym is) ∙ found)

-- it is found in the lines of one of some parts
lines_found : (test : List ℕ → Bool) (lines : PlainPart → List (List ℕ)) (parts : List PlainPart)
    → list_any test (flat_map lines parts) ≡ list_any (list_any test) (map lines parts)
lines_found test lines [] = refl
lines_found test lines (p ∷ parts) =
    list_any-append test (lines p) (flat_map lines parts)
    ∙ ap (λ r. list_any test (lines p) || r) (lines_found test lines parts)

-- it is found in the lines of one of the first parts
pub first_found : (test : List ℕ → Bool) (lines : PlainPart → List (List ℕ)) (n : ℕ)
    (parts : List PlainPart) → list_any (list_any test) (map lines (take n parts)) ≡ true
    → list_any test (flat_map lines parts) ≡ true
first_found test lines n parts found =
    let q = list_any test in
    lines_found test lines parts
    ∙ ap (λ ps. list_any q (map lines ps)) (sym (take-append-drop n parts))
    ∙ ap (list_any q) (map-append lines (take n parts) (drop n parts))
    ∙ list_any-append q (map lines (take n parts)) (map lines (drop n parts))
    ∙ ap (λ b. b || list_any q (map lines (drop n parts))) found

-- it is found in none of the parts, all of which are among the first
pub none_found : (test : List ℕ → Bool) (lines : PlainPart → List (List ℕ)) (n : ℕ)
    (parts : List PlainPart) → length parts ≤ n
    → list_any (list_any test) (map lines (take n parts)) ≡ false
    → list_any test (flat_map lines parts) ≡ false
none_found test lines n parts all none =
    lines_found test lines parts
    ∙ ap (λ ps. list_any (list_any test) (map lines ps)) (sym (take_all n parts all)) ∙ none

pub vec_length : {X : Type 0} (v : Vec X Global) → vec_len v ≡ length v.items
vec_length v = omega arith

module _ (raw : List ℕ) (parts : List Part) (p : Part) (old new : List (Held (Held ℕ)))
    (is : lines_in new ≡ lines_in old ++ part_lines raw (plain_part p) ∷ []) where
  one_more : length new ≡ length old + 1
  one_more =
      sym (length-map new plain_texts) ∙ ap length is
      ∙ length-append (lines_in old) (part_lines raw (plain_part p) ∷ [])
      ∙ ap (λ n. n + 1) (length-map old plain_texts)

  -- the lines of a further part behind those of the first
  pub kept_next : (n : ℕ) → n ≡ length old → n < length parts → p ≡ get_or parts n p
      → AreFirst raw (map plain_part parts) old → AreFirst raw (map plain_part parts) new
  kept_next n size within at first =
      let ps = map plain_part parts in
      let more : take (n + 1) ps ≡ take n ps ++ plain_part p ∷ [] =
      take_more ps n (plain_part p) (omega (arith, length-map parts plain_part))
      ∙ ap (λ q. take n ps ++ q ∷ []) (get_or-map plain_part parts n p (plain_part p) within
      ∙ ap plain_part (sym at)) in
      is ∙ ap (λ l. l ++ part_lines raw (plain_part p) ∷ [])
      (first ∙ ap (λ k. map (part_lines raw) (take k ps)) (sym size))
      ∙ sym (map-append (part_lines raw) (take n ps) (plain_part p ∷ []))
      ∙ ap (map (part_lines raw)) (sym more)
      ∙ ap (λ k. map (part_lines raw) (take k ps))
      (ap (λ k. k + 1) size ∙ sym one_more)

  pub none_next : (test : List ℕ → Bool) → list_any (list_any test) (lines_in old) ≡ false
      → list_any test (part_lines raw (plain_part p)) ≡ false
      → list_any (list_any test) (lines_in new) ≡ false
  none_next test none also =
      let q = list_any test in
      let last = part_lines raw (plain_part p) in
      ap (list_any q) is ∙ list_any-append q (lines_in old) (last ∷ [])
      ∙ ap (λ b. b || (list_any test last || false)) none ∙ ap (λ b. b || false) also
