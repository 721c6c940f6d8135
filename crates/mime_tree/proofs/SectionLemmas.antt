-- Sections stand in order within the range that they are cut from.
use Rattle.std.proofs.Common.{◌≡◌, ℕ, ◌+◌, ◌-◌, ◌≤◌, Bool, true, false, List, [], ◌∷◌, ◌++◌, length}
use Rattle.std.proofs.Common.{take, drop, refl, ap, subst, arith, length-append}
use Rattle.std.specs.Prelude.{if◌then◌else◌, cond}
use Rattle.std.specs.List.{concat}
use Rattle.bstr.specs.Text.{lines_of, without_terminator}
use Rattle.std.proofs.lemmas.List.{length-take, length-drop}
use Rattle.bstr.proofs.lemmas.RestLemmas.{concat-lines_of}
use Rattle.mail_base.specs.Lines.{body_at, body_of, message_fields}
use Rattle.std.specs.Prelude.{codes}
use Rattle.std.specs.Str.{bytes_eq}
use Rattle.mime_tree.specs.Delimiter.{is_delimiter, kind_of}
use Rattle.mime_tree.specs.Entity.{boundary_of, children_of, is_multipart, sections_in, type_of}
use Rattle.mime_tree.specs.Section.{PlainSection, section_at, section_text, sections, sections_with}
use Rattle.mime_tree.specs.declared.delimiter.LineKind.{LineKind}
use Rattle.mime_tree.specs.declared.delimiter.LineKind.TheVariants.{Text, Delimiter, Closing}

-- sections within a range, in order and without overlapping
abbrev pub InOrder : ℕ → ℕ → List PlainSection → Type 0
InOrder low high [] = low ≤ high
InOrder low high (s ∷ rest) = (low ≤ s.start) × InOrder (s.start + length s.text) high rest

-- a range that starts earlier
pub in_order_from : (less low high : ℕ) (sections : List PlainSection) → less ≤ low
    → InOrder low high sections
    → InOrder less high sections
in_order_from less low high [] le h = omega (arith, le, h)
in_order_from less low high (s ∷ rest) le h = (omega (arith, le, h.0), h.1)

-- a range ends no earlier than it starts
pub in_order_high : (low high : ℕ) (sections : List PlainSection) → InOrder low high sections
    → low ≤ high
in_order_high low high [] h = h
in_order_high low high (s ∷ rest) h =
    omega (arith, h.0, in_order_high (s.start + length s.text) high rest h.1)

-- the front of a text is no longer
pub take_short : (n : ℕ) (s : List ℕ) → length (take n s) ≤ length s
take_short n s = omega (arith, length-take n s)

by_ends : (feed return : Bool) (n m : ℕ) (s : List ℕ)
    → length (cond feed (cond return (take m (take n s)) (take n s)) s) ≤ length s
by_ends true true n m s = omega (arith, take_short m (take n s), take_short n s)
by_ends true false n m s = take_short n s
by_ends false return n m s = omega arith

-- a text without its line end is no longer
pub without_terminator_short : (s : List ℕ) → length (without_terminator s) ≤ length s
without_terminator_short s = by_ends _ _ (length s - 1) (length (take (length s - 1) s) - 1) s

-- the parts behind one that begins at a place and has a front already
behind_part : (boundary : List ℕ) (in_digest : Bool) (from at high : ℕ) (front : List ℕ)
    (lines : List (List ℕ))
    → at ≡ from + length front → at + length (concat lines) ≡ high
    → InOrder (from + length (section_text boundary front lines)) high
    (sections boundary in_digest at lines)
behind_part boundary in_digest from at high front [] e all = omega (arith, e, all)
behind_part boundary in_digest from at high front (line ∷ lines) e all =
    by_kind (kind_of boundary line)
    (behind_part boundary in_digest from next high (front ++ line) lines
    (omega (arith, e, length-append front line))
    rest)
    (behind_part boundary in_digest next next high [] lines (omega arith) rest)
  where
    next : ℕ
    next = at + length line

    rest : next + length (concat lines) ≡ high
    rest = omega (arith, all, length-append line (concat lines))

    by_kind : (kind : LineKind)
        → InOrder (from + length (section_text boundary (front ++ line) lines)) high
        (sections boundary in_digest next lines)
        → InOrder (next + length (section_text boundary [] lines)) high
        (sections boundary in_digest next lines)
        → InOrder
        (from + length
        (if is_delimiter kind then without_terminator front
        else section_text boundary (front ++ line)
        lines))
        high
        (sections_with kind (section_at boundary in_digest next lines)
        (sections boundary in_digest next lines))
    by_kind Text text behind = text
    by_kind Delimiter text behind = (omega (arith, e, without_terminator_short front), behind)
    by_kind Closing text behind = omega (arith, e, all, without_terminator_short front)

-- the parts of a multipart stand in order within its body
pub in_order_sections : (boundary : List ℕ) (in_digest : Bool) (at : ℕ) (lines : List (List ℕ))
    → InOrder at (at + length (concat lines)) (sections boundary in_digest at lines)
in_order_sections boundary in_digest at lines =
    in_order_from at (at + length (section_text boundary [] lines)) _ _ (omega arith)
    (behind_part boundary in_digest at at (at + length (concat lines)) [] lines (omega arith) refl)

fewer_lines : (lines : List (List ℕ)) → length (concat (drop 1 lines)) ≤ length (concat lines)
fewer_lines [] = omega arith
fewer_lines (line ∷ lines) = omega (arith, length-append line (concat lines))

-- the body of a part stands behind its header block
pub body_behind : (text : List ℕ) → length (body_of text) ≤ length text - body_at text
body_behind text =
    let tail = drop (body_at text) text in
    omega (
      arith,
      fewer_lines (lines_of tail),
      ap length (concat-lines_of tail),
      length-drop
          (body_at text) text,
    )

in_order_in : (content boundary : List ℕ) (start : ℕ) (body : List ℕ)
    → InOrder start (start + length body) (sections_in content boundary start body)
in_order_in content boundary start body =
    by_type (is_multipart content) (bytes_eq content (codes "message/rfc822"))
  where
    by_type : (is_multi is_message : Bool)
        → InOrder start (start + length body)
        (if is_multi
        then sections boundary (bytes_eq content (codes "multipart/digest")) start
        (lines_of body)
        else (if is_message then record { start = start; text = body; in_digest = false } ∷ []
        else []))
    by_type true is_message =
        subst
        (λ n. InOrder start (start + n)
        (sections boundary (bytes_eq content (codes "multipart/digest")) start (lines_of body)))
        (ap length (concat-lines_of body))
        (in_order_sections boundary (bytes_eq content (codes "multipart/digest")) start
        (lines_of body))
    by_type false true = (omega arith, omega arith)
    by_type false false = omega arith

-- the sections in a section stand in order within its body
pub in_order_body : (s : PlainSection)
    → InOrder (s.start + (length s.text - length (body_of s.text))) (s.start + length s.text)
    (children_of s)
in_order_body s =
    let body = body_of s.text in
    let start = s.start + (length s.text - length body) in
    let whole : start + length body ≡ s.start + length s.text = omega (arith, body_behind s.text) in
    subst (λ high. InOrder start high (children_of s)) whole
    (in_order_in (type_of s) (boundary_of (message_fields s.text)) start body)
