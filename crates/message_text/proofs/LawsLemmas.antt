-- Which fields are shown, and how often.
use Rattle.std.proofs.Common.{◌≡◌, ℕ, Bool, true, false, List, [], ◌∷◌, ◌++◌, length, take, map}
use Rattle.std.proofs.Common.{not, refl, ap, sym, ◌∙◌}
use Rattle.std.specs.Prelude.{◌||◌, filter, IsPermutation, if◌then◌else◌}
use Rattle.std.proofs.Math.Seq.{take-append_seam}
use Rattle.std.proofs.lemmas.List.{length-map}
use Rattle.std.proofs.lemmas.List.Sorted.{IsPermutation-append_right, IsPermutation-filter_both}
use Rattle.std.proofs.lemmas.List.Sorted.{IsPermutation-refl, IsPermutation-trans}
use Rattle.mail_base.specs.Lines.{PlainField, message_fields}
use Rattle.headers.specs.Values.{is_named}
use Rattle.message_text.specs.Header.{field_line, header_lines}
use Rattle.message_text.specs.Laws.{KeptFieldsAreShownOnce, UnweededFieldsAreAllShown}
use Rattle.message_text.specs.Weeding.{PlainWeeding, in_order, is_kept, is_listed, shown_fields}

-- a test that holds throughout takes nothing away
filter_all : {X : Type 0} (test : X → Bool) → ((x : X) → test x ≡ true) → (xs : List X)
    → filter test xs ≡ xs
filter_all test all [] = refl
filter_all test all (x ∷ xs) = rw (all x) (ap (λ l. x ∷ l) (filter_all test all xs))

-- with no weeding each field is kept
all_kept : (w : PlainWeeding) → w.weed ≡ false → (f : PlainField) → is_kept w f ≡ true
all_kept w off f =
    ap (λ b. not b || not (is_listed f.name w.hidden) || is_listed f.name w.shown) off

all_shown : (w : PlainWeeding) → w.weed ≡ false → (fields : List PlainField)
    → shown_fields w fields ≡ fields
all_shown w off fields =
    ap (λ b. in_order (if b then w.order else []) (filter (is_kept w) fields)) off
    ∙ filter_all (is_kept w) (all_kept w off) fields

front : (xs ys : List (List ℕ)) (n : ℕ) → n ≡ length xs → take n (xs ++ ys) ≡ xs
front xs ys n e = ap (λ k. take k (xs ++ ys)) e ∙ take-append_seam xs ys

pub unweeded_fields_are_all_shown : UnweededFieldsAreAllShown
unweeded_fields_are_all_shown w raw off =
    let fields = message_fields raw in
    let header : header_lines w raw ≡ map field_line fields =
    ap (map field_line) (all_shown w off fields) in
    front (header_lines w raw) _ (length fields)
    (sym (ap length header ∙ length-map fields field_line))
    ∙ header

-- an order drops no field, and doubles none
permuted : (names : List (List ℕ)) (fields : List PlainField)
    → IsPermutation fields (in_order names fields)
permuted [] fields = IsPermutation-refl fields
permuted (name ∷ names) fields =
    let named = is_named name in
    let others = λ (f : PlainField). not (is_named name f) in
    IsPermutation-trans fields (filter named fields ++ filter others fields) _
    (IsPermutation-filter_both named others (λ f. refl) fields)
    (IsPermutation-append_right (filter named fields) (filter others fields) _
    (permuted names (filter others fields)))

pub kept_fields_are_shown_once : KeptFieldsAreShownOnce
kept_fields_are_shown_once w fields = permuted _ (filter (is_kept w) fields)
