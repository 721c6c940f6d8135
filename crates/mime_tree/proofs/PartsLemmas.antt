-- Parts read so far, and those of the sections that are left.
use Rattle.std.proofs.Common.{◌≡◌, ℕ, zero, suc, ◌+◌, ◌-◌, ◌<◌, List, [], ◌∷◌, ◌++◌, Option, Some}
use Rattle.std.proofs.Common.{None, option_map, ◌≤◌, length, take, drop, map, get_or, refl, sym, ap}
use Rattle.std.proofs.Common.{◌∙◌, arith, append_assoc}
use Rattle.std.proofs.lemmas.List.{take_all}
use Rattle.std.proofs.Common.{◌&&◌, not, false, codes}
use Rattle.std.specs.Prelude.{if◌then◌else◌}
use Rattle.std.specs.Str.{bytes_eq}
use Rattle.std.proofs.lemmas.Bool.{or_parts}
use Rattle.bstr.specs.Text.{lines_of}
use Rattle.mail_base.specs.Fronts.{◌>>=◌}
use Rattle.mail_base.specs.Lines.{body_of, message_fields}
use Rattle.mime_tree.specs.Delimiter.{is_cut}
use Rattle.mime_tree.specs.Entity.{boundary_of, children_of, holds_parts, is_multipart, named_type}
use Rattle.mime_tree.specs.Entity.{part_of, sections_in, type_of, typed_part}
use Rattle.mime_tree.specs.Part.{PlainPart}
use Rattle.mime_tree.specs.Parts.{all_parts, parts_in, parts_of, whole}
use Rattle.mime_tree.specs.Section.{PlainSection, plain_section, sections}
use Rattle.mime_tree.specs.declared.section.Section.{Section}

-- parts behind those read so far, where there are any
abbrev pub joined : List PlainPart → Option (List PlainPart) → Option (List PlainPart)
joined done o = option_map (λ more. done ++ more) o

pub parts_in_none : (levels nesting : ℕ) (s : PlainSection) → levels ≡ 0
    → parts_in levels nesting s ≡ None
unfolding parts_in
parts_in_none zero nesting s h = refl
parts_in_none (suc n) nesting s h = absurd (omega (arith, h))

pub parts_in_step : (levels nesting : ℕ) (s : PlainSection) → 0 < levels
    → parts_in levels nesting s
    ≡ option_map (λ more. part_of nesting s ∷ more)
    (all_parts (parts_in (levels - 1) (nesting + 1)) (children_of s))
unfolding parts_in
parts_in_step zero nesting s h = absurd (omega (arith, h))
parts_in_step (suc n) nesting s h =
    let less : n ≡ suc n - 1 = omega arith in
    ap (λ k. option_map (λ more. part_of nesting s ∷ more)
    (all_parts (parts_in k (nesting + 1)) (children_of s))) less

joined_more : (done : List PlainPart) (p : PlainPart) (o : Option (List PlainPart))
    → joined (done ++ p ∷ []) o ≡ joined done (option_map (λ more. p ∷ more) o)
joined_more done p None = refl
joined_more done p (Some more) = ap Some (append_assoc done (p ∷ []) more)

-- the part of a section, and those of the sections in it
pub joined_begin : (levels nesting : ℕ) (s : PlainSection) (done : List PlainPart) → 0 < levels
    → joined (done ++ part_of nesting s ∷ [])
    (all_parts (parts_in (levels - 1) (nesting + 1)) (children_of s))
    ≡ joined done (parts_in levels nesting s)
joined_begin levels nesting s done h =
    joined_more done (part_of nesting s) _
    ∙ ap (joined done) (sym (parts_in_step levels nesting s h))

joined_both : (done after : List PlainPart) (first rest : Option (List PlainPart))
    → joined done first ≡ Some after
    → joined after rest ≡ joined done (first >>= (λ xs. rest >>= (λ more. Some (xs ++ more))))
joined_both done after None rest h = cc
joined_both done after (Some xs) None h = refl
joined_both done after (Some xs) (Some more) h =
    let e : done ++ xs ≡ after = cc in
    ap Some (ap (λ d. d ++ more) (sym e) ∙ append_assoc done xs more)

-- the parts of one more section are read
pub joined_next : (parts : PlainSection → Option (List PlainPart)) (s : PlainSection)
    (rest : List PlainSection)
    (done after : List PlainPart)
    → joined done (parts s) ≡ Some after
    → joined after (all_parts parts rest) ≡ joined done (all_parts parts (s ∷ rest))
joined_next parts s rest done after h = joined_both done after (parts s) (all_parts parts rest) h

-- the parts of a section nest too deep
pub joined_fails : (parts : PlainSection → Option (List PlainPart)) (s : PlainSection)
    (rest : List PlainSection)
    (done : List PlainPart)
    → parts s ≡ None → joined done (all_parts parts (s ∷ rest)) ≡ None
joined_fails parts s rest done h = rw h refl

pub joined_none : (done : List PlainPart) (o : Option (List PlainPart)) → joined done o ≡ None
    → o ≡ None
joined_none done None h = refl
joined_none done (Some more) h = cc

-- the parts of a message begin a list
pub joined_whole : (done after : List PlainPart) (o : Option (List PlainPart)) → done ≡ []
    → joined done o ≡ Some after
    → o ≡ Some after
joined_whole done after None e h = cc
joined_whole done after (Some more) e h = ap (λ d. Some (d ++ more)) (sym e) ∙ h

-- all but the first
abbrev pub rest_of : List Section → List Section
rest_of left = take (length left - 1) (drop 1 left)

rest_is : (first : Section) (rest : List Section) → rest_of (first ∷ rest) ≡ rest
rest_is first rest = take_all (length (first ∷ rest) - 1) rest (omega arith)

-- the parts of the first are read
pub joined_rest : (parts : PlainSection → Option (List PlainPart)) (left : List Section)
    (d : Section)
    (done after : List PlainPart) (all : Option (List PlainPart)) → 1 ≤ length left
    → joined done (parts (plain_section (get_or left 0 d))) ≡ Some after
    → joined done (all_parts parts (map plain_section left)) ≡ all
    → joined after (all_parts parts (map plain_section (rest_of left))) ≡ all
joined_rest parts [] d done after all some first h = absurd (omega (arith, some))
joined_rest parts (s ∷ rest) d done after all some first h =
    ap (λ l. joined after (all_parts parts (map plain_section l))) (rest_is s rest)
    ∙ joined_next parts (plain_section s) (map plain_section rest) done after first
    ∙ h

-- a part of a type in which no parts stand
leaf_type : (raw : List ℕ) → holds_parts (named_type false (message_fields raw)) ≡ false
    → type_of (whole raw) ≡ named_type false (message_fields raw)
leaf_type raw none =
    let fields = message_fields raw in
    ap (λ t. if t && not (is_cut (boundary_of fields) (body_of raw)) then codes "text/plain"
    else named_type false fields)
    (or_parts (is_multipart (named_type false fields))
    (bytes_eq (named_type false fields) (codes "message/rfc822"))
    none).0

no_children : (content boundary body : List ℕ) (start : ℕ) → holds_parts content ≡ false
    → sections_in content boundary start body ≡ []
no_children content boundary body start none =
    let both = or_parts (is_multipart content) (bytes_eq content (codes "message/rfc822")) none in
    ap (λ t. if t
    then sections boundary (bytes_eq content (codes "multipart/digest")) start (lines_of body)
    else (if bytes_eq content (codes "message/rfc822")
    then record { start = start; text = body; in_digest = false } ∷ []
    else [])) both.0
    ∙ ap (λ t. if t then record { start = start; text = body; in_digest = false } ∷ [] else [])
    both.1

-- a message that holds no parts is its only part
parts_of-leaf : (raw : List ℕ) → holds_parts (named_type false (message_fields raw)) ≡ false
    → parts_of raw ≡ Some (typed_part 0 0 raw (named_type false (message_fields raw)) ∷ [])
parts_of-leaf raw none =
    let fields = message_fields raw in
    let type_is = leaf_type raw none in
    let body = body_of raw in
    let children : children_of (whole raw) ≡ [] =
    ap (λ c. sections_in c (boundary_of fields) (0 + (length raw - length body)) body) type_is
    ∙ no_children (named_type false fields) (boundary_of fields) body
    (0 + (length raw - length body)) none in
    parts_in_step 33 0 (whole raw) (omega arith)
    ∙ ap (λ c. option_map (λ more. part_of 0 (whole raw) ∷ more) (all_parts (parts_in 32 1) c))
    children
    ∙ ap (λ c. Some (typed_part 0 0 raw c ∷ [])) type_is

pub leaf_read : (raw content : List ℕ) (part : PlainPart) (parts : List PlainPart)
    → content ≡ named_type false (message_fields raw) → holds_parts content ≡ false
    → part ≡ typed_part 0 0 raw content → parts ≡ part ∷ [] → parts_of raw ≡ Some parts
leaf_read raw content part parts content_is none part_is parts_are =
    parts_of-leaf raw (ap holds_parts (sym content_is) ∙ none)
    ∙ ap (λ c. Some (typed_part 0 0 raw c ∷ [])) (sym content_is)
    ∙ ap (λ p. Some (p ∷ [])) (sym part_is)
    ∙ ap Some (sym parts_are)
