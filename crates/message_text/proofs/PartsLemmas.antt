-- How parts stand in one another, by their places.
use Rattle.std.proofs.Common.{◌≡◌, ◌≢◌, ◌+◌, ◌-◌, ◌<◌, ◌≤◌, ◌==◌, ℕ, zero, suc, true, false, List}
use Rattle.std.proofs.Common.{[], ◌∷◌, ◌++◌, length, drop, map, get_or, refl, ap, sym, ◌∙◌, arith}
use Rattle.std.proofs.Common.{nat_le, add-one, append_assoc}
use Rattle.std.specs.Prelude.{Some, if◌then◌else◌}
use Rattle.std.specs.List.{find}
use Rattle.std.proofs.Math.Seq.{drop-cons}
use Rattle.std.proofs.lemmas.List.{append-nil, drop-map, drop_all, length-map}
use Rattle.std.proofs.lemmas.Bool.{eqb-true}
use Rattle.std.proofs.lemmas.Bool.Decides.{nat_tests}
use Rattle.mime_tree.specs.Part.{PlainPart, plain_part}
use Rattle.mime_tree.specs.declared.part.Part.{Part}
use Rattle.message_text.specs.Branch.{branch_lines, children, content_of, looked_lines}
use Rattle.message_text.specs.Branch.{mark_before, mixed_lines}
use Rattle.message_text.specs.Look.{look_of}
use Rattle.message_text.specs.Source.{branch_at, children_at, is_of_kind}
use Rattle.message_text.specs.Weeding.{PlainWeeding}
use Rattle.message_text.specs.declared.look.Look.{Look}
use Rattle.message_text.specs.declared.parts.TextKind.{TextKind}
use Rattle.message_text.specs.declared.parts.TextKind.TheVariants as kind

-- the part at a place, and those behind it
pub drop_at : (parts : List Part) (at : ℕ) (p : Part) → p ≡ get_or parts at p → at < length parts
    → drop at (map plain_part parts)
    ≡ plain_part p ∷ drop (at + 1) (map plain_part parts)
drop_at parts at p is within =
    drop-map plain_part at parts
    ∙ ap (map plain_part) (drop-cons parts at p within)
    ∙ ap (λ q. plain_part q ∷ map plain_part (drop (suc at) parts)) (sym is)
    ∙ ap (λ l. plain_part p ∷ l) (sym (drop-map plain_part (suc at) parts))
    ∙ ap (λ n. plain_part p ∷ drop n (map plain_part parts)) (sym (add-one at))

above : (a b : ℕ) → b < a → nat_le a b ≡ false
above a b h = grind (arith, nat_tests)

not_above : (a b : ℕ) → a ≤ b → nat_le a b ≡ true
not_above a b h = grind (arith, nat_tests)

next_one : (a b : ℕ) → a - b ≡ 1 → (a == b + 1) ≡ true
next_one a b h = grind (arith, nat_tests)

no_next : (a b : ℕ) → b < a → a - b ≢ 1 → (a == b + 1) ≡ false
no_next a b h n = grind (arith, nat_tests)

children_found : (nesting : ℕ) (p : PlainPart) (behind : List PlainPart) → nesting < p.nesting
    → p.nesting - nesting ≡ 1
    → children nesting (p ∷ behind) ≡ (p ∷ behind) ∷ children nesting behind
children_found nesting p behind h one =
    rw (above p.nesting nesting h) (rw (next_one p.nesting nesting one) refl)

children_passed : (nesting : ℕ) (p : PlainPart) (behind : List PlainPart) → nesting < p.nesting
    → p.nesting - nesting ≢ 1
    → children nesting (p ∷ behind) ≡ children nesting behind
children_passed nesting p behind h one =
    rw (above p.nesting nesting h) (rw (no_next p.nesting nesting h one) refl)

children_end : (nesting : ℕ) (p : PlainPart) (behind : List PlainPart) → p.nesting ≤ nesting
    → children nesting (p ∷ behind) ≡ []
children_end nesting p behind h = rw (not_above p.nesting nesting h) refl

-- the next child is at the place
pub child_at : (parts : List Part) (nesting at : ℕ) (p : Part) → p ≡ get_or parts at p
    → at < length parts
    → nesting < p.nesting → p.nesting - nesting ≡ 1
    → children nesting (drop at (map plain_part parts))
    ≡ children_at nesting (map plain_part parts) (Some at)
child_at parts nesting at p is within deeper one =
    let here = drop_at parts at p is within in
    ap (children nesting) here
    ∙ children_found nesting (plain_part p) _ deeper one
    ∙ ap (λ b. b ∷ children nesting (drop (at + 1) (map plain_part parts))) (sym here)

-- the part at the place is no child
pub child_behind : (parts : List Part) (nesting at : ℕ) (p : Part) → p ≡ get_or parts at p
    → at < length parts
    → nesting < p.nesting → p.nesting - nesting ≢ 1
    → children nesting (drop at (map plain_part parts))
    ≡ children nesting (drop (at + 1) (map plain_part parts))
child_behind parts nesting at p is within deeper other =
    ap (children nesting) (drop_at parts at p is within)
    ∙ children_passed nesting (plain_part p) _ deeper other

-- the part at the place stands behind all children
pub no_child_at : (parts : List Part) (nesting at : ℕ) (p : Part) → p ≡ get_or parts at p
    → at < length parts
    → p.nesting ≤ nesting → children nesting (drop at (map plain_part parts)) ≡ []
no_child_at parts nesting at p is within high =
    ap (children nesting) (drop_at parts at p is within)
    ∙ children_end nesting (plain_part p) _ high

pub no_child_past : (parts : List Part) (nesting at : ℕ) → length parts ≤ at
    → children nesting (drop at (map plain_part parts)) ≡ []
no_child_past parts nesting at past =
    ap (children nesting)
    (drop_all at (map plain_part parts) (omega (arith, length-map parts plain_part, past)))

kind_at : (kind : TextKind) (p : PlainPart) (behind : List PlainPart)
    → is_of_kind kind (p ∷ behind) ≡ is_of_kind kind (p ∷ [])
kind_at kind.Plain p behind = refl
kind_at kind.Any p behind = refl

kind_of_place : (kind : TextKind) (parts : List Part) (at : ℕ) (p : Part) → p ≡ get_or parts at p
    → at < length parts
    → is_of_kind kind (drop at (map plain_part parts)) ≡ is_of_kind kind (plain_part p ∷ [])
kind_of_place kind parts at p is within =
    ap (is_of_kind kind) (drop_at parts at p is within) ∙ kind_at kind (plain_part p) _

-- the child at the place is of the kind
pub found_at : (kind : TextKind) (parts : List Part) (nesting from at : ℕ) (p : Part)
    → p ≡ get_or parts at p → at < length parts
    → children nesting (drop from (map plain_part parts))
    ≡ children_at nesting (map plain_part parts) (Some at)
    → is_of_kind kind (plain_part p ∷ []) ≡ true
    → branch_at (map plain_part parts) (Some at)
    ≡ find (is_of_kind kind) (children nesting (drop from (map plain_part parts)))
found_at kind parts nesting from at p is within value has =
    sym (ap (find (is_of_kind kind)) value
    ∙ ap (λ b. if b then Some (drop at (map plain_part parts))
    else find (is_of_kind kind) (children nesting (drop (at + 1) (map plain_part parts))))
    (kind_of_place kind parts at p is within ∙ has))

-- the child at the place is of another kind
pub passed_at : (kind : TextKind) (parts : List Part) (nesting from at : ℕ) (p : Part)
    → p ≡ get_or parts at p → at < length parts
    → children nesting (drop from (map plain_part parts))
    ≡ children_at nesting (map plain_part parts) (Some at)
    → is_of_kind kind (plain_part p ∷ []) ≡ false
    → find (is_of_kind kind) (children nesting (drop (at + 1) (map plain_part parts)))
    ≡ find (is_of_kind kind) (children nesting (drop from (map plain_part parts)))
passed_at kind parts nesting from at p is within value has =
    sym (ap (find (is_of_kind kind)) value
    ∙ ap (λ b. if b then Some (drop at (map plain_part parts))
    else find (is_of_kind kind) (children nesting (drop (at + 1) (map plain_part parts))))
    (kind_of_place kind parts at p is within ∙ has))

-- a child with its mark, and the children behind it
pub next_lines : (lines : List PlainPart → List (List ℕ)) (parts : List Part)
    (nesting from at before : ℕ) (p : Part)
    → p ≡ get_or parts at p → at < length parts
    → children nesting (drop from (map plain_part parts))
    ≡ children_at nesting (map plain_part parts) (Some at)
    → mixed_lines lines before (children nesting (drop from (map plain_part parts)))
    ≡ mark_before before p.content.items ++ lines (drop at (map plain_part parts))
    ++ mixed_lines lines (before + 1) (children nesting (drop (at + 1) (map plain_part parts)))
next_lines lines parts nesting from at before p is within value =
    ap (mixed_lines lines before) value
    ∙ ap (λ c. mark_before before c ++ lines (drop at (map plain_part parts))
    ++ mixed_lines lines (before + 1) (children nesting (drop (at + 1) (map plain_part parts))))
    (ap content_of (drop_at parts at p is within))

branch_step : (levels : ℕ) (w : PlainWeeding) (raw : List ℕ) (p : PlainPart)
    (behind : List PlainPart)
    → 0 < levels
    → branch_lines levels w raw (p ∷ behind)
    ≡ looked_lines (branch_lines (levels - 1) w raw) w raw p (children p.nesting behind)
    (look_of p.content)
unfolding branch_lines
branch_step zero w raw p behind some = absurd (omega (arith, some))
branch_step (suc n) w raw p behind some =
    let less : n ≡ suc n - 1 = omega arith in
    ap (λ k. looked_lines (branch_lines k w raw) w raw p (children p.nesting behind)
    (look_of p.content)) less

pub branch_none : (levels : ℕ) (w : PlainWeeding) (raw : List ℕ) (branch : List PlainPart)
    → levels ≡ 0
    → branch_lines levels w raw branch ≡ []
unfolding branch_lines
branch_none zero w raw branch e = refl
branch_none (suc n) w raw branch e = absurd (omega (arith, e))

-- the lines of the part at a place, by its look
pub lines_at : (levels : ℕ) (w : PlainWeeding) (raw : List ℕ) (parts : List Part) (at : ℕ)
    (p : Part) (l : Look)
    → 0 < levels → p ≡ get_or parts at p → at < length parts → l ≡ look_of p.content.items
    → branch_lines levels w raw (drop at (map plain_part parts))
    ≡ looked_lines (branch_lines (levels - 1) w raw) w raw (plain_part p)
    (children p.nesting (drop (at + 1) (map plain_part parts))) l
lines_at levels w raw parts at p l some is within look_is =
    ap (branch_lines levels w raw) (drop_at parts at p is within)
    ∙ branch_step levels w raw (plain_part p) _ some
    ∙ ap (looked_lines (branch_lines (levels - 1) w raw) w raw (plain_part p)
    (children p.nesting (drop (at + 1) (map plain_part parts)))) (sym look_is)

-- lines are added behind a mark
pub marked : (old mark branch rest middle new all : List (List ℕ)) → middle ≡ old ++ mark
    → new ≡ middle ++ branch
    → old ++ (mark ++ branch ++ rest) ≡ all → new ++ rest ≡ all
marked old mark branch rest middle new all first second h =
    ap (λ l. l ++ rest) (second ∙ ap (λ l. l ++ branch) first)
    ∙ append_assoc (old ++ mark) branch rest
    ∙ append_assoc old mark (branch ++ rest)
    ∙ ap (λ l. old ++ l) (sym (append_assoc mark branch rest))
    ∙ h

pub branch_empty : (levels : ℕ) (w : PlainWeeding) (raw : List ℕ)
    → branch_lines levels w raw [] ≡ []
unfolding branch_lines
branch_empty zero w raw = refl
branch_empty (suc n) w raw = refl

-- no parts have no lines
pub nothing_behind : (levels : ℕ) (w : PlainWeeding) (raw : List ℕ) (parts : List Part)
    (lines : List (List ℕ))
    → (length parts == 0) ≡ true
    → lines ≡ lines ++ branch_lines levels w raw (map plain_part parts)
nothing_behind levels w raw [] lines e =
    sym (ap (λ l. lines ++ l) (branch_empty levels w raw) ∙ append-nil lines)
nothing_behind levels w raw (p ∷ parts) lines e =
    absurd (omega (arith, eqb-true (length (p ∷ parts)) 0 e))
