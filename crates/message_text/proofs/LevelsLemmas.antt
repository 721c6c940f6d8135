-- The levels that a message may have are enough for each of its parts.
use Rattle.std.proofs.Common.{◌≡◌, ◌+◌, ◌<◌, ◌≤◌, ◌==◌, ℕ, zero, suc, Bool, true, false, List, []}
use Rattle.std.proofs.Common.{◌∷◌, ◌++◌, drop, refl, ap, sym, ◌∙◌, arith, nat_le, Option, Some}
use Rattle.std.proofs.Common.{None, option_map, subst}
use Rattle.std.specs.Prelude.{codes, if◌then◌else◌}
use Rattle.std.specs.List.{find}
use Rattle.std.specs.Str.{bytes_eq}
use Rattle.std.proofs.lemmas.Bool.{eqb-true}
use Rattle.mail_base.specs.Fronts.{◌>>=◌}
use Rattle.mime_tree.specs.Entity.{children_of, part_of}
use Rattle.mime_tree.specs.Part.{PlainPart}
use Rattle.mime_tree.specs.Parts.{all_parts, parts_in, parts_of, whole}
use Rattle.mime_tree.specs.Section.{PlainSection}
use Rattle.message_text.specs.Branch.{alternative_lines, branch_lines, children, chosen}
use Rattle.message_text.specs.Branch.{chosen_with, content_of, looked_lines, mark_before}
use Rattle.message_text.specs.Branch.{mixed_lines, raw_body}
use Rattle.message_text.specs.Header.{header_lines}
use Rattle.message_text.specs.Laws.{LevelsAreEnough}
use Rattle.message_text.specs.Look.{is_text, look_of}
use Rattle.message_text.specs.Weeding.{PlainWeeding}
use Rattle.message_text.proofs.PartsLemmas.{branch_empty}
use Rattle.message_text.specs.declared.look.Look.{Look}
use Rattle.message_text.specs.declared.look.Look.TheVariants as look

-- parts that nest less deep than so many levels
abbrev Within : ℕ → List PlainPart → Type 0
Within levels [] = Unit {0}
Within levels (p ∷ rest) = (p.nesting < levels) × Within levels rest

within_append : (levels : ℕ) (xs ys : List PlainPart) → Within levels xs → Within levels ys
    → Within levels (xs ++ ys)
within_append levels [] ys hx hy = hy
within_append levels (p ∷ xs) ys hx hy = (hx.0, within_append levels xs ys hx.1 hy)

within_drop : (levels number : ℕ) (parts : List PlainPart) → Within levels parts
    → Within levels (drop number parts)
within_drop levels zero parts h = h
within_drop levels (suc n) [] h = tt
within_drop levels (suc n) (p ∷ rest) h = within_drop levels n rest h.1

-- the parts of two readings, one behind the other
within_both : (levels : ℕ) (first rest : Option (List PlainPart)) (parts : List PlainPart)
    → ((xs : List PlainPart) → first ≡ Some xs → Within levels xs)
    → ((ys : List PlainPart) → rest ≡ Some ys → Within levels ys)
    → (first >>= (λ xs. rest >>= (λ more. Some (xs ++ more)))) ≡ Some parts
    → Within levels parts
within_both levels None rest parts hx hy e = absurd (cc)
within_both levels (Some xs) None parts hx hy e = absurd (cc)
within_both levels (Some xs) (Some ys) parts hx hy e =
    let same : xs ++ ys ≡ parts = cc in
    subst (Within levels) same (within_append levels xs ys (hx xs refl) (hy ys refl))

within_all : (levels : ℕ) (parts_of : PlainSection → Option (List PlainPart))
    → ((s : PlainSection) (parts : List PlainPart) → parts_of s ≡ Some parts → Within levels parts)
    → (sections : List PlainSection) (parts : List PlainPart)
    → all_parts parts_of sections ≡ Some parts → Within levels parts
within_all levels parts_of each [] parts e =
    let same : [] ≡ parts = cc in
    subst (Within levels) same tt
within_all levels parts_of each (s ∷ rest) parts e =
    within_both levels (parts_of s) (all_parts parts_of rest) parts (each s)
    (within_all levels parts_of each rest) e

within_whole : (levels nesting : ℕ) (s : PlainSection) (inner : Option (List PlainPart))
    (parts : List PlainPart)
    → nesting < levels
    → ((ds : List PlainPart) → inner ≡ Some ds → Within levels ds)
    → option_map (λ more. part_of nesting s ∷ more) inner ≡ Some parts → Within levels parts
within_whole levels nesting s None parts less h e = absurd (cc)
within_whole levels nesting s (Some ds) parts less h e =
    let same : part_of nesting s ∷ ds ≡ parts = cc in
    subst (Within levels) same (less, h ds refl)

-- the parts of a section that may have so many levels
within_section : (left nesting levels : ℕ) (s : PlainSection) (parts : List PlainPart)
    → left + nesting ≤ levels
    → parts_in left nesting s ≡ Some parts → Within levels parts
unfolding parts_in
within_section zero nesting levels s parts h e = absurd (cc)
within_section (suc left) nesting levels s parts h e =
    within_whole levels nesting s (all_parts (parts_in left (nesting + 1)) (children_of s)) parts
    (omega (arith, h))
    (within_all levels (parts_in left (nesting + 1))
    (λ t ps k. within_section left (nesting + 1) levels t ps (omega (arith, h)) k)
    (children_of s))
    e

-- two ways to show a part agree on each part of a list
abbrev Agree : (List PlainPart → List (List ℕ)) → (List PlainPart → List (List ℕ))
    → List (List PlainPart)
    → Type 0
Agree f g [] = Unit {0}
Agree f g (b ∷ branches) = (f b ≡ g b) × Agree f g branches

mixed_same : (f g : List PlainPart → List (List ℕ)) (before : ℕ) (branches : List (List PlainPart))
    → Agree f g branches
    → mixed_lines f before branches ≡ mixed_lines g before branches
mixed_same f g before [] h = refl
mixed_same f g before (b ∷ branches) h =
    ap (λ l. mark_before before (content_of b) ++ l ++ mixed_lines f (before + 1) branches) h.0
    ∙ ap (λ l. mark_before before (content_of b) ++ g b ++ l)
    (mixed_same f g (before + 1) branches h.1)

-- on what is found among them too
found_same : (f g : List PlainPart → List (List ℕ)) (test : List PlainPart → Bool)
    (branches : List (List PlainPart)) (b : List PlainPart)
    → Agree f g branches
    → find test branches ≡ Some b → f b ≡ g b
found_same f g test [] b h e = absurd (cc)
found_same f g test (x ∷ branches) b h e =
    by_test (test x) (λ k. found_same f g test branches b h.1 k) e
  where
    by_test : (t : Bool) → (find test branches ≡ Some b → f b ≡ g b)
        → (if t then Some x else find test branches) ≡ Some b
        → f b ≡ g b
    by_test true behind e = let same : x ≡ b = cc in subst (λ y. f y ≡ g y) same h.0
    by_test false behind e = behind e

alternative_same : (f g : List PlainPart → List (List ℕ)) (branches : List (List PlainPart))
    → Agree f g branches
    → alternative_lines f branches (chosen branches)
    ≡ alternative_lines g branches (chosen branches)
alternative_same f g branches h =
    by_plain (find (λ b. bytes_eq (content_of b) (codes "text/plain")) branches) refl
  where
    by_text : (o : Option (List PlainPart)) → find (λ b. is_text (content_of b)) branches ≡ o
        → alternative_lines f branches o ≡ alternative_lines g branches o
    by_text None e = mixed_same f g 0 branches h
    by_text (Some b) e = found_same f g (λ c. is_text (content_of c)) branches b h e

    by_plain : (o : Option (List PlainPart))
        → find (λ b. bytes_eq (content_of b) (codes "text/plain")) branches ≡ o
        → alternative_lines f branches (chosen_with o branches)
        ≡ alternative_lines g branches (chosen_with o branches)
    by_plain None e = by_text (find (λ b. is_text (content_of b)) branches) refl
    by_plain (Some b) e =
        found_same f g (λ c. bytes_eq (content_of c) (codes "text/plain")) branches b h e

looked_same : (f g : List PlainPart → List (List ℕ)) (w : PlainWeeding) (raw : List ℕ)
    (p : PlainPart) (branches : List (List PlainPart)) (l : Look)
    → Agree f g branches
    → looked_lines f w raw p branches l ≡ looked_lines g w raw p branches l
looked_same f g w raw p branches look.Text h = refl
looked_same f g w raw p branches look.Alternative h = alternative_same f g branches h
looked_same f g w raw p branches look.Mixed h = mixed_same f g 0 branches h
looked_same f g w raw p branches look.Message h =
    ap (λ l. header_lines w (raw_body raw p) ++ ([] ∷ l)) (mixed_same f g 0 branches h)
looked_same f g w raw p branches look.Unsupported h = refl

agree_children : (f g : List PlainPart → List (List ℕ)) (levels nesting : ℕ)
    → ((q : PlainPart) (behind : List PlainPart) → q.nesting ≡ nesting + 1
    → Within levels (q ∷ behind) → f (q ∷ behind) ≡ g (q ∷ behind))
    → (parts : List PlainPart) → Within levels parts → Agree f g (children nesting parts)
agree_children f g levels nesting same [] h = tt
agree_children f g levels nesting same (q ∷ behind) h =
    by_tests (nat_le q.nesting nesting) (q.nesting == nesting + 1)
    (λ e. same q behind (eqb-true q.nesting (nesting + 1) e) h)
    (agree_children f g levels nesting same behind h.1)
  where
    by_tests : (end next : Bool) → (next ≡ true → f (q ∷ behind) ≡ g (q ∷ behind))
        → Agree f g (children nesting behind)
        → Agree f g (if end then []
        else (if next then (q ∷ behind) ∷ children nesting behind else children nesting behind))
    by_tests true next here more = tt
    by_tests false true here more = (here refl, more)
    by_tests false false here more = more

-- a part is shown alike with more levels than can stand in it
levels_same : (left more levels : ℕ) (w : PlainWeeding) (raw : List ℕ) (p : PlainPart)
    (behind : List PlainPart)
    → levels ≤ p.nesting + left → Within levels (p ∷ behind)
    → branch_lines (left + more) w raw (p ∷ behind) ≡ branch_lines left w raw (p ∷ behind)
unfolding branch_lines
levels_same zero more levels w raw p behind h within = absurd (omega (arith, h, within.0))
levels_same (suc n) more levels w raw p behind h within =
    let sum : suc n + more ≡ suc (n + more) = omega arith in
    ap (λ k. branch_lines k w raw (p ∷ behind)) sum
    ∙ looked_same (branch_lines (n + more) w raw) (branch_lines n w raw) w raw p
    (children p.nesting behind) (look_of p.content)
    (agree_children (branch_lines (n + more) w raw) (branch_lines n w raw) levels p.nesting
    (λ q rest deeper inside.
    levels_same n more levels w raw q rest (omega (arith, h, deeper)) inside)
    behind within.1)

branch_same : (more : ℕ) (w : PlainWeeding) (raw : List ℕ) (branch : List PlainPart)
    → Within 33 branch
    → branch_lines (33 + more) w raw branch ≡ branch_lines 33 w raw branch
branch_same more w raw [] h = branch_empty (33 + more) w raw ∙ sym (branch_empty 33 w raw)
branch_same more w raw (p ∷ behind) h = levels_same 33 more 33 w raw p behind (omega arith) h

pub levels_are_enough : LevelsAreEnough
levels_are_enough w raw parts number more e =
    branch_same more w raw (drop number parts)
    (within_drop 33 number parts (within_section 33 0 33 (whole raw) parts (omega arith) e))
