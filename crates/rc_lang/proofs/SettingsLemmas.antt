-- How values are looked up and changed by their place.
use Rattle.std.proofs.Common.{◌≡◌, ℕ, zero, suc, ◌+◌, ◌<◌, List, [], ◌∷◌, ◌++◌, map, take, length}
use Rattle.std.proofs.Common.{sym, ap, ◌∙◌, add-one, Option, Some, None, option_map}
use Rattle.std.proofs.Common.{Ok}
use Rattle.std.specs.Prelude.{slice_get, slice_set}
use Rattle.std.specs.List.{slice_index_or}
use Rattle.std.proofs.lemmas.Option.{slice_get-get_or}
use Rattle.rc_lang.specs.declared.value.Value.{Value}
use Rattle.rc_lang.specs.Changes.{changed_value, default_of}
use Rattle.rc_lang.specs.Requests.{PlainChange, PlainRequest}
use Rattle.rc_lang.specs.Settings.{defaults, answer_of, changed_at, changed_found}
use Rattle.rc_lang.specs.Settings.{changed_row, with_value}
use Rattle.rc_lang.specs.Values.{PlainValue, plain_value, shown_line}
use Rattle.rc_lang.specs.Variables.{Named, TableRow, without_place, named_at, rows, place_of}
use Rattle.rc_lang.proofs.TableLemmas.{slice_get_map}

-- the value that was read at a place
pub value_read : (items : List Value) (n : ℕ) (x : Value) → n < length items
    → x ≡ slice_index_or items n x
    → Some (plain_value x) ≡ slice_get (map plain_value items) n
value_read items n x within read =
    ap (λ y. Some (plain_value y)) read
    ∙ ap (option_map plain_value) (sym (slice_get-get_or items n x within))
    ∙ sym (slice_get_map plain_value items n)

-- a request for a variable that the table and the values have
pub answered_found : (values : List PlainValue) (r : PlainRequest) (n : ℕ) (row : Named)
    (value : PlainValue)
    → place_of r.name ≡ Some n → named_at n ≡ Some row → slice_get values n ≡ Some value
    → answer_of values r ≡ changed_row values n row r.change value
answered_found values r n row value place found read =
    ap (changed_at values r.change) place
    ∙ ap (λ o. changed_found values n r.change o (slice_get values n)) found
    ∙ ap (changed_found values n r.change (Some row)) read

take_suc : {X : Type 0} (xs : List X) (n : ℕ) (x : X) → slice_get xs n ≡ Some x
    → take (suc n) xs ≡ take n xs ++ x ∷ []
take_suc [] n x found = absurd (let h : None ≡ Some x = found in cc)
take_suc (y ∷ xs) zero x found = let same : y ≡ x = cc in ap (λ z. z ∷ []) same
take_suc (y ∷ xs) (suc n) x found = ap (λ l. y ∷ l) (take_suc xs n x found)

default_found : (o : Option TableRow) (row : Named) → Some row ≡ option_map without_place o
    → option_map (λ (r : TableRow). default_of r.kind) o ≡ Some (default_of row.kind)
default_found None row found = cc
default_found (Some r) row found =
    let same : row ≡ without_place r = cc in ap (λ (n : Named). Some (default_of n.kind)) (sym same)

-- one more default
pub defaults_more : (n : ℕ) (row : Named) → Some row ≡ named_at n
    → take (n + 1) defaults ≡ take n defaults ++ default_of row.kind ∷ []
defaults_more n row found =
    rw add-one
    (take_suc defaults n (default_of row.kind)
    (slice_get_map (λ (r : TableRow). default_of r.kind) rows n
    ∙ default_found (slice_get rows n) row found))

-- a variable that is shown
pub answered_shown : (values : List PlainValue) (r : PlainRequest) (n : ℕ) (row : Named)
    (value : PlainValue) (line : List ℕ)
    → place_of r.name ≡ Some n → named_at n ≡ Some row → slice_get values n ≡ Some value
    → r.change ≡ None → line ≡ shown_line row.name value
    → answer_of values r ≡ Ok (record { values = values; shown = Some line })
answered_shown values r n row value line place found read none shows =
    answered_found values r n row value place found read
    ∙ ap (λ o. changed_row values n row o value) none
    ∙ ap (λ l. Ok (record { values = values; shown = Some l })) (sym shows)

-- a variable that is changed
pub answered_changed : (values new : List PlainValue) (r : PlainRequest) (n : ℕ) (row : Named)
    (value made : PlainValue)
    (change : PlainChange)
    → place_of r.name ≡ Some n → named_at n ≡ Some row → slice_get values n ≡ Some value
    → r.change ≡ Some change → changed_value row.kind change value ≡ Ok made
    → new ≡ slice_set values n made
    → answer_of values r ≡ Ok (record { values = new; shown = None })
answered_changed values new r n row value made change place found read some makes sets =
    answered_found values r n row value place found read
    ∙ ap (λ o. changed_row values n row o value) some
    ∙ ap (with_value values n) makes
    ∙ ap (λ l. Ok (record { values = l; shown = None })) (sym sets)
