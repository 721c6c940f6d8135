-- The parts of a message stand in the order of reading.
use Rattle.std.proofs.Common.{◌≡◌, All, get_or, zero-add, ℕ, zero, suc, ◌+◌, ◌-◌, ◌<◌, ◌≤◌, Bool}
use Rattle.std.proofs.Common.{true, false, nat_lt, List, [], ◌∷◌, ◌++◌, length, map, Option, Some}
use Rattle.std.proofs.Common.{None, option_map, refl, ap, subst, arith, length-append}
use Rattle.std.proofs.lemmas.Bool.Decides.{nat_tests}
use Rattle.mail_base.specs.Fronts.{◌>>=◌}
use Rattle.std.specs.Prelude.{if◌then◌else◌}
use Rattle.std.specs.List.{concat}
use Rattle.bstr.specs.Text.{lines_of}
use Rattle.bstr.proofs.lemmas.RestLemmas.{concat-lines_of}
use Rattle.mail_base.specs.Lines.{body_at, body_of, header_block, is_empty_line}
use Rattle.mime_tree.specs.Order.{IsInside, AreBehind, OneOf, Follow, AreInOrder, StandsWithin}
use Rattle.mime_tree.specs.Entity.{children_of, part_of}
use Rattle.mime_tree.specs.Part.{PlainPart, plain_part}
use Rattle.mime_tree.specs.Parts.{all_parts, parts_in, whole}
use Rattle.mime_tree.specs.Section.{PlainSection}
use Rattle.mime_tree.specs.declared.part.Part.{Part}
use Rattle.mime_tree.proofs.SectionLemmas.{InOrder, in_order_high, in_order_body, body_behind}

-- parts that nest at least so deep
abbrev Deep : ℕ → List PlainPart → Type 0
Deep n [] = Unit {0}
Deep n (p ∷ rest) = (n ≤ p.nesting) × Deep n rest

-- the first part nests so deep, where there is one
abbrev Starts : ℕ → List PlainPart → Type 0
Starts n [] = Unit {0}
Starts n (p ∷ rest) = p.nesting ≡ n

-- parts whose bodies stand in a range
abbrev AreWithin : ℕ → ℕ → List PlainPart → Type 0
AreWithin low high [] = Unit {0}
AreWithin low high (p ∷ rest) =
    (low ≤ p.body_at) × (p.body_at ≤ p.body_end) × (p.body_end ≤ high) × AreWithin low high rest

-- parts of one level in a range
record Level (n low high : ℕ) (parts : List PlainPart) : Type 0 where
  deep : Deep n parts
  starts : Starts n parts
  within : AreWithin low high parts
  in_order : AreInOrder parts

below_true : (a b : ℕ) → a < b → nat_lt a b ≡ true
below_true a b h = grind (arith, nat_tests)

below_false : (a b : ℕ) → b ≤ a → nat_lt a b ≡ false
below_false a b h = grind (arith, nat_tests)

first_of_two : (test : Bool) (First Second : Type 0) → test ≡ true → First → OneOf test First Second
first_of_two true First Second e h = h
first_of_two false First Second e h = absurd (cc)

second_of_two : (test : Bool) (First Second : Type 0) → test ≡ false → Second
    → OneOf test First Second
second_of_two true First Second e h = absurd (cc)
second_of_two false First Second e h = h

-- a deeper level in the body of a part
follow_inside : (p : PlainPart) (n low : ℕ) (parts : List PlainPart) → p.nesting < n
    → p.body_at ≤ low
    → Deep n parts → AreWithin low p.body_end parts → Follow p parts
follow_inside p n low [] less at deep within = tt
follow_inside p n low (q ∷ rest) less at deep within =
    first_of_two (nat_lt p.nesting q.nesting) _ _
    (below_true p.nesting q.nesting (omega (arith, deep.0)))
    ((omega (arith, within.0), within.2), follow_inside p n low rest less at deep.1 within.3)

behind_within : (p : PlainPart) (low high : ℕ) (parts : List PlainPart) → p.body_end ≤ low
    → AreWithin low high parts → AreBehind p parts
behind_within p low high [] le within = tt
behind_within p low high (q ∷ rest) le within =
    (omega (arith, within.0), behind_within p low high rest le within.3)

behind_append : (p : PlainPart) (xs ys : List PlainPart) → AreBehind p xs → AreBehind p ys
    → AreBehind p (xs ++ ys)
behind_append p [] ys hx hy = hy
behind_append p (q ∷ xs) ys hx hy = (hx.0, behind_append p xs ys hx.1 hy)

follow_level : (p : PlainPart) (n low high : ℕ) (ys : List PlainPart) → n ≤ p.nesting
    → p.body_end ≤ low
    → Starts n ys → AreWithin low high ys → Follow p ys
follow_level p n low high [] deep le starts within = tt
follow_level p n low high (y ∷ ys) deep le starts within =
    second_of_two (nat_lt p.nesting y.nesting) _ _
    (below_false p.nesting y.nesting (omega (arith, starts)))
    (behind_within p low high (y ∷ ys) le within)

follow_append : (p : PlainPart) (xs ys : List PlainPart) → AreBehind p ys → Follow p ys
    → Follow p xs
    → Follow p (xs ++ ys)
follow_append p [] ys behind follow h = follow
follow_append p (q ∷ xs) ys behind follow h =
    by_test (nat_lt p.nesting q.nesting) (follow_append p xs ys behind follow) h
  where
    by_test : (test : Bool) → (Follow p xs → Follow p (xs ++ ys))
        → OneOf test (IsInside p q × Follow p xs) (AreBehind p (q ∷ xs))
        → OneOf test (IsInside p q × Follow p (xs ++ ys)) (AreBehind p (q ∷ (xs ++ ys)))
    by_test true more h = (h.0, more h.1)
    by_test false more h = (h.0, behind_append p xs ys h.1 behind)

order_append : (n low middle high : ℕ) (xs ys : List PlainPart) → Deep n xs
    → AreWithin low middle xs → AreInOrder xs
    → Starts n ys → AreWithin middle high ys → AreInOrder ys → AreInOrder (xs ++ ys)
order_append n low middle high [] ys deep within order starts after more = more
order_append n low middle high (p ∷ xs) ys deep within order starts after more = (
  follow_append p xs ys
      (behind_within p middle high ys within.2 after)
      (follow_level p n middle high ys deep.0 within.2 starts after)
      order.0,
  order_append n low middle high xs ys deep.1 within.3 order.1 starts after more,
)

within_wider : (less low high more : ℕ) (parts : List PlainPart) → less ≤ low → high ≤ more
    → AreWithin low high parts → AreWithin less more parts
within_wider less low high more [] le ge h = tt
within_wider less low high more (p ∷ rest) le ge h =
    (omega (arith, h.0), h.1, omega (arith, h.2), within_wider less low high more rest le ge h.3)

within_append : (low high : ℕ) (xs ys : List PlainPart) → AreWithin low high xs
    → AreWithin low high ys
    → AreWithin low high (xs ++ ys)
within_append low high [] ys hx hy = hy
within_append low high (p ∷ xs) ys hx hy = (hx.0, hx.1, hx.2, within_append low high xs ys hx.3 hy)

deep_append : (n : ℕ) (xs ys : List PlainPart) → Deep n xs → Deep n ys → Deep n (xs ++ ys)
deep_append n [] ys hx hy = hy
deep_append n (p ∷ xs) ys hx hy = (hx.0, deep_append n xs ys hx.1 hy)

less_deep : (n : ℕ) (parts : List PlainPart) → Deep (n + 1) parts → Deep n parts
less_deep n [] h = tt
less_deep n (p ∷ rest) h = (omega (arith, h.0), less_deep n rest h.1)

starts_append : (n : ℕ) (xs ys : List PlainPart) → Starts n xs → Starts n ys → Starts n (xs ++ ys)
starts_append n [] ys hx hy = hy
starts_append n (p ∷ xs) ys hx hy = hx

-- a part and those behind it
level_append : (n less low middle high : ℕ) (xs ys : List PlainPart) → less ≤ low → low ≤ middle
    → middle ≤ high
    → Level n low middle xs → Level n middle high ys → Level n less high (xs ++ ys)
level_append n less low middle high xs ys a b d first more = record {
  deep = deep_append n xs ys first.deep more.deep;
  starts = starts_append n xs ys first.starts more.starts;
  within = within_append less high xs ys
      (within_wider less low middle high xs a d first.within)
      (within_wider less middle high high ys (omega arith) (omega arith) more.within);
  in_order =
      order_append n low middle high xs ys first.deep first.within first.in_order more.starts
      more.within more.in_order;
}

block_short : (lines : List (List ℕ)) → length (concat (header_block lines)) ≤ length (concat lines)
block_short [] = omega arith
block_short (line ∷ lines) = by_line (is_empty_line line) (block_short lines)
  where
    by_line : (empty : Bool) → length (concat (header_block lines)) ≤ length (concat lines)
        → length (concat (if empty then [] else line ∷ header_block lines)) ≤ length
        (line ++ concat lines)
    by_line true h = omega arith
    by_line false h =
        omega (
          arith,
          h,
          length-append line (concat (header_block lines)),
          length-append line
              (concat lines),
        )

body_at_short : (text : List ℕ) → body_at text ≤ length text
body_at_short text = omega (arith, block_short (lines_of text), ap length (concat-lines_of text))

-- the part of a section, and those of the sections in it
level_part : (n : ℕ) (s : PlainSection) (parts : List PlainPart)
    → Level (n + 1) (s.start + (length s.text - length (body_of s.text))) (s.start + length s.text)
    parts
    → Level n s.start (s.start + length s.text) (part_of n s ∷ parts)
level_part n s parts inner =
    let at = body_at_short s.text in
    let body = body_behind s.text in
    record {
      deep = (omega arith, less_deep n parts inner.deep);
      starts = refl;
      within = (
        omega arith,
        omega (arith, at),
        omega arith,
        within_wider _ _ _ _ parts (omega arith) (omega arith) inner.within,
      );
      in_order = (
        follow_inside (part_of n s) (n + 1) _ parts (omega arith) (omega (arith, at, body))
            inner.deep inner.within,
        inner.in_order,
      );
    }

no_level : (n low high : ℕ) → Level n low high []
no_level n low high = record { deep = tt; starts = tt; within = tt; in_order = tt }

level_both : (n less low middle high : ℕ) (first rest : Option (List PlainPart))
    (parts : List PlainPart)
    → less ≤ low → low ≤ middle → middle ≤ high
    → ((xs : List PlainPart) → first ≡ Some xs → Level n low middle xs)
    → ((ys : List PlainPart) → rest ≡ Some ys → Level n middle high ys)
    → (first >>= (λ xs. rest >>= (λ more. Some (xs ++ more)))) ≡ Some parts
    → Level n less high parts
level_both n less low middle high None rest parts a b d hx hy e = absurd (cc)
level_both n less low middle high (Some xs) None parts a b d hx hy e = absurd (cc)
level_both n less low middle high (Some xs) (Some ys) parts a b d hx hy e =
    let same : xs ++ ys ≡ parts = cc in
    subst (Level n less high) same
    (level_append n less low middle high xs ys a b d (hx xs refl) (hy ys refl))

level_all : (parts_of : PlainSection → Option (List PlainPart)) (n : ℕ)
    → ((s : PlainSection) (parts : List PlainPart) → parts_of s ≡ Some parts
    → Level n s.start (s.start + length s.text) parts)
    → (low high : ℕ) (sections : List PlainSection) → InOrder low high sections
    → (parts : List PlainPart) → all_parts parts_of sections ≡ Some parts → Level n low high parts
level_all parts_of n each low high [] h parts e =
    let same : [] ≡ parts = cc in
    subst (Level n low high) same (no_level n low high)
level_all parts_of n each low high (s ∷ rest) h parts e =
    level_both n low s.start (s.start + length s.text) high (parts_of s) (all_parts parts_of rest)
    parts
    h.0 (omega arith) (in_order_high _ high rest h.1)
    (each s)
    (level_all parts_of n each (s.start + length s.text) high rest h.1)
    e

level_whole : (n : ℕ) (s : PlainSection) (inner : Option (List PlainPart)) (parts : List PlainPart)
    → ((ds : List PlainPart) → inner ≡ Some ds
    → Level (n + 1) (s.start + (length s.text - length (body_of s.text))) (s.start + length s.text)
    ds)
    → option_map (λ more. part_of n s ∷ more) inner ≡ Some parts
    → Level n s.start (s.start + length s.text) parts
level_whole n s None parts h e = absurd (cc)
level_whole n s (Some ds) parts h e =
    let same : part_of n s ∷ ds ≡ parts = cc in
    subst (Level n s.start (s.start + length s.text)) same (level_part n s ds (h ds refl))

-- the parts of a section
level_section : (levels n : ℕ) (s : PlainSection) (parts : List PlainPart)
    → parts_in levels n s ≡ Some parts
    → Level n s.start (s.start + length s.text) parts
unfolding parts_in
level_section zero n s parts e = absurd (cc)
level_section (suc levels) n s parts e =
    level_whole n s (all_parts (parts_in levels (n + 1)) (children_of s)) parts
    (level_all (parts_in levels (n + 1)) (n + 1) (level_section levels (n + 1)) _ _ (children_of s)
    (in_order_body s))
    e

-- the parts of a section stand in order of reading
pub in_order_parts : (levels n : ℕ) (s : PlainSection) (parts : List PlainPart)
    → parts_in levels n s ≡ Some parts
    → AreInOrder parts
in_order_parts levels n s parts e = (level_section levels n s parts e).in_order

all_within : (low high : ℕ) (parts : List Part) → AreWithin low high (map plain_part parts)
    → (k : ℕ) (d : Part) → k < length parts → StandsWithin high (get_or parts k d)
all_within low high [] h k d lt = absurd (omega (arith, lt))
all_within low high (p ∷ rest) h zero d lt = (h.1, h.2)
all_within low high (p ∷ rest) h (suc k) d lt = all_within low high rest h.3 k d (omega (arith, lt))

-- the parts of a message stand within it
pub within_parts : (levels : ℕ) (raw : List ℕ) (parts : List Part)
    → parts_in levels 0 (whole raw) ≡ Some (map plain_part parts)
    → All (StandsWithin (length raw)) parts
within_parts levels raw parts e =
    let within = (level_section levels 0 (whole raw) (map plain_part parts) e).within in
    subst (λ n. All (StandsWithin n) parts) (zero-add (length raw))
    (all_within 0 (0 + length raw) parts within)
