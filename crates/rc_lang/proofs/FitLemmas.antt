-- Values keep the types and the ranges of their variables.
use Rattle.std.proofs.Common.{◌≡◌, ℕ, zero, suc, Bool, true, false, not, ◌&&◌, leb, List}
use Rattle.std.proofs.Common.{[], ◌∷◌, Option, Some, None, Ok, Err, option_map, length}
use Rattle.std.proofs.Common.{refl, sym, ap, ◌∙◌, subst, if◌then◌else◌}
use Rattle.std.specs.Prelude.{ok_or, pos, slice_get, slice_set}
use Rattle.std.specs.Str.Parse.{digits_value}
use Rattle.std.proofs.lemmas.Bool.{and_parts}
use Rattle.rc_lang.specs.declared.quad.Quad.{Quad as FourWay}
use Rattle.rc_lang.specs.declared.quad.Quad.TheVariants.{Yes, No}
use Rattle.rc_lang.specs.declared.rule.Rule.{Rule}
use Rattle.rc_lang_words.specs.declared.fault.RcFault.TheVariants.{BadValue, WrongKind}
use Rattle.rc_lang.specs.Changes.{changed_value, default_of, set_value, toggled_value, unset_value}
use Rattle.rc_lang.specs.Changes.{value_named}
use Rattle.rc_lang.specs.Fits.{all_fit, fits}
use Rattle.mail_base.specs.Decimal.{is_digits}
use Rattle.rc_lang.specs.Numbers.{has_leading_zero, number_within}
use Rattle.rc_lang.specs.Quads.{quad_of, opposite_quad}
use Rattle.rc_lang.specs.Requests as change
use Rattle.rc_lang.specs.Requests.{PlainChange}
use Rattle.rc_lang.specs.Rules.{allows, refusal_of}
use Rattle.rc_lang.specs.Settings.{defaults}
use Rattle.rc_lang.specs.Values.{PlainValue, Flag, Number, Text, Quad}
use Rattle.rc_lang.specs.Variables as kind
use Rattle.rc_lang.specs.Variables.{Named, PlainKind, TableRow, without_place, named_at, rows}
use Rattle.rc_lang.proofs.TableLemmas.{slice_get_map}

pub length_fit : (rs : List TableRow) (vs : List PlainValue) → all_fit rs vs ≡ true
    → length vs ≡ length rs
length_fit [] [] fit = refl
length_fit (r ∷ rs) (v ∷ vs) fit =
    ap (λ n. suc n) (length_fit rs vs (and_parts (fits r.kind v) (all_fit rs vs) fit).1)
length_fit [] (v ∷ vs) fit = cc
length_fit (r ∷ rs) [] fit = cc

fit_at : (rs : List TableRow) (vs : List PlainValue) (n : ℕ) (r : TableRow) (v : PlainValue)
    → all_fit rs vs ≡ true → slice_get rs n ≡ Some r → slice_get vs n ≡ Some v
    → fits r.kind v ≡ true
fit_at [] vs n r v fit row value = absurd (let h : None ≡ Some r = row in cc)
fit_at (x ∷ rs) [] n r v fit row value = cc
fit_at (x ∷ rs) (y ∷ vs) zero r v fit row value =
    let same_row : x ≡ r = cc in
    let same_value : y ≡ v = cc in
    ap (λ (t : TableRow). fits t.kind v) (sym same_row) ∙ ap (fits x.kind) (sym same_value)
    ∙ (and_parts (fits x.kind y) (all_fit rs vs) fit).0
fit_at (x ∷ rs) (y ∷ vs) (suc n) r v fit row value =
    fit_at rs vs n r v (and_parts (fits x.kind y) (all_fit rs vs) fit).1 row value

fit_set : (rs : List TableRow) (vs : List PlainValue) (n : ℕ) (r : TableRow) (w : PlainValue)
    → all_fit rs vs ≡ true → slice_get rs n ≡ Some r → fits r.kind w ≡ true
    → all_fit rs (slice_set vs n w) ≡ true
fit_set [] vs n r w fit row new = absurd (let h : None ≡ Some r = row in cc)
fit_set (x ∷ rs) [] n r w fit row new = cc
fit_set (x ∷ rs) (y ∷ vs) zero r w fit row new =
    let same_row : x ≡ r = cc in
    let first : fits x.kind w ≡ true = ap (λ (t : TableRow). fits t.kind w) same_row ∙ new in
    rw first (and_parts (fits x.kind y) (all_fit rs vs) fit).1
fit_set (x ∷ rs) (y ∷ vs) (suc n) r w fit row new =
    let parts = and_parts (fits x.kind y) (all_fit rs vs) fit in
    rw parts.0 (fit_set rs vs n r w parts.1 row new)

-- the row that was found under a name
row_found : (o : Option TableRow) (row : Named) → option_map without_place o ≡ Some row
    → (r : TableRow) × (o ≡ Some r) × (without_place r ≡ row)
row_found None row found = absurd (let h : None ≡ Some row = found in cc)
row_found (Some r) row found = (r, refl, (let h : without_place r ≡ row = cc in h))

pub fits_read : (vs : List PlainValue) (n : ℕ) (row : Named) (v : PlainValue)
    → all_fit rows vs ≡ true
    → named_at n ≡ Some row → slice_get vs n ≡ Some v → fits row.kind v ≡ true
fits_read vs n row v fit found value =
    let r = row_found (slice_get rows n) row found in
    ap (λ (t : Named). fits t.kind v) (sym r.2) ∙ fit_at rows vs n r.0 v fit r.1 value

pub fits_written : (vs : List PlainValue) (n : ℕ) (row : Named) (w : PlainValue)
    → all_fit rows vs ≡ true
    → named_at n ≡ Some row → fits row.kind w ≡ true → all_fit rows (slice_set vs n w) ≡ true
fits_written vs n row w fit found new =
    let r = row_found (slice_get rows n) row found in
    fit_set rows vs n r.0 w fit r.1 (ap (λ (t : Named). fits t.kind w) r.2 ∙ new)

pub defaults_fit : all_fit rows defaults ≡ true
defaults_fit = refl

default_read : (o : Option TableRow) (row : Named) → option_map without_place o ≡ Some row
    → option_map (λ (r : TableRow). default_of r.kind) o ≡ Some (default_of row.kind)
default_read o row found =
    let r = row_found o row found in
    ap (option_map (λ (t : TableRow). default_of t.kind)) r.1
    ∙ ap (λ (t : Named). Some (default_of t.kind)) r.2

default_fits : (n : ℕ) (row : Named) → named_at n ≡ Some row
    → fits row.kind (default_of row.kind) ≡ true
default_fits n row found =
    fits_read defaults n row (default_of row.kind) defaults_fit found
    (slice_get_map (λ (r : TableRow). default_of r.kind) rows n
    ∙ default_read (slice_get rows n) row found)

set_fits : (k : PlainKind) (v w : PlainValue) → fits k v ≡ true
    → ok_or (set_value v) WrongKind ≡ Ok w → fits k w ≡ true
set_fits (kind.Flag d) (Flag b) w fit makes =
    let is : Flag true ≡ w = cc in subst (λ x. fits (kind.Flag d) x ≡ true) is refl
set_fits (kind.Quad d) (Quad q) w fit makes =
    let is : Quad Yes ≡ w = cc in subst (λ x. fits (kind.Quad d) x ≡ true) is refl
set_fits (kind.Number d most) (Number n) w fit makes = cc
set_fits (kind.Text rule d) (Text t) w fit makes = cc
set_fits _ _ w fit makes = cc

unset_fits : (k : PlainKind) (v w : PlainValue) → fits k v ≡ true
    → ok_or (unset_value v) WrongKind ≡ Ok w → fits k w ≡ true
unset_fits (kind.Flag d) (Flag b) w fit makes =
    let is : Flag false ≡ w = cc in subst (λ x. fits (kind.Flag d) x ≡ true) is refl
unset_fits (kind.Quad d) (Quad q) w fit makes =
    let is : Quad No ≡ w = cc in subst (λ x. fits (kind.Quad d) x ≡ true) is refl
unset_fits (kind.Number d most) (Number n) w fit makes = cc
unset_fits (kind.Text rule d) (Text t) w fit makes = cc
unset_fits _ _ w fit makes = cc

toggled_fits : (k : PlainKind) (v w : PlainValue) → fits k v ≡ true
    → ok_or (toggled_value v) WrongKind ≡ Ok w → fits k w ≡ true
toggled_fits (kind.Flag d) (Flag b) w fit makes =
    let is : Flag (not b) ≡ w = cc in subst (λ x. fits (kind.Flag d) x ≡ true) is refl
toggled_fits (kind.Quad d) (Quad q) w fit makes =
    let is : Quad (opposite_quad q) ≡ w = cc in subst (λ x. fits (kind.Quad d) x ≡ true) is refl
toggled_fits (kind.Number d most) (Number n) w fit makes = cc
toggled_fits (kind.Text rule d) (Text t) w fit makes = cc
toggled_fits _ _ w fit makes = cc

-- the number, if there is one, is at most this
abbrev pub most_or_none : ℕ → Option ℕ → Bool
most_or_none most None = true
most_or_none most (Some n) = leb n most

number_within_most : (most : ℕ) (t : List ℕ) → most_or_none most (number_within most t) ≡ true
number_within_most most t =
    let n : ℕ = digits_value 10 t in
    by_tests n (has_leading_zero t) (is_digits t) (leb 0 n && leb n most) refl
  where
    by_tests : (n : ℕ) (zero digits b : Bool) → (leb 0 n && leb n most) ≡ b
        → most_or_none most (if zero then None
        else (if digits then (if b then Some n else None) else None)) ≡ true
    by_tests n true digits b test = refl
    by_tests n false false b test = refl
    by_tests n false true true test = (and_parts (leb 0 n) (leb n most) test).1
    by_tests n false true false test = refl

number_fits : (d most : ℕ) (w : PlainValue) (o : Option ℕ) → most_or_none most o ≡ true
    → ok_or (option_map (λ n. Number (pos n)) o) BadValue ≡ Ok w
    → fits (kind.Number d most) w ≡ true
number_fits d most w (Some n) below makes =
    let is : Number (pos n) ≡ w = cc in
    subst (λ x. fits (kind.Number d most) x ≡ true) is below
number_fits d most w None below makes = cc

quad_fits : (d : FourWay) (w : PlainValue) (o : Option FourWay)
    → ok_or (option_map Quad o) BadValue ≡ Ok w
    → fits (kind.Quad d) w ≡ true
quad_fits d w None makes = cc
quad_fits d w (Some q) makes =
    let is : Quad q ≡ w = cc in subst (λ x. fits (kind.Quad d) x ≡ true) is refl

text_fits : (rule : Rule) (d t : List ℕ) (w : PlainValue) (b : Bool) → allows rule t ≡ b
    → (if b then Ok (Text t) else Err (refusal_of rule)) ≡ Ok w → fits (kind.Text rule d) w ≡ true
text_fits rule d t w true test makes =
    let is : Text t ≡ w = cc in subst (λ x. fits (kind.Text rule d) x ≡ true) is test
text_fits rule d t w false test makes = cc

named_fits : (k : PlainKind) (t : List ℕ) (w : PlainValue) → value_named k t ≡ Ok w
    → fits k w ≡ true
named_fits (kind.Flag d) t w makes = cc
named_fits (kind.Number d most) t w makes =
    number_fits d most w (number_within most t) (number_within_most most t) makes
named_fits (kind.Quad d) t w makes = quad_fits d w (quad_of t) makes
named_fits (kind.Text rule d) t w makes = text_fits rule d t w (allows rule t) refl makes

-- what a change makes of a value that fits its row fits it
pub changed_fits : (n : ℕ) (row : Named) (c : PlainChange) (v w : PlainValue)
    → named_at n ≡ Some row
    → fits row.kind v ≡ true → changed_value row.kind c v ≡ Ok w → fits row.kind w ≡ true
changed_fits n row change.Set v w found fit makes = set_fits row.kind v w fit makes
changed_fits n row change.Unset v w found fit makes = unset_fits row.kind v w fit makes
changed_fits n row change.Toggle v w found fit makes = toggled_fits row.kind v w fit makes
changed_fits n row change.Reset v w found fit makes =
    let is : default_of row.kind ≡ w = cc in
    subst (λ x. fits row.kind x ≡ true) is (default_fits n row found)
changed_fits n row (change.Assign t) v w found fit makes = named_fits row.kind t w makes
