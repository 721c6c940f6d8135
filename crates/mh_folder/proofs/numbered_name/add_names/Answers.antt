use Rattle.std.proofs.Common.{◌≡◌, ◌++◌, ◌≤◌, ◌∷◌, [], ℕ, Bool, true, false, List, length, map, ap}
use Rattle.std.proofs.Common.{sym, ◌∙◌, subst, refl}
use Rattle.std.proofs.Common.{slice_index_or, append_assoc, if◌then◌else◌}
use Rattle.std.specs.List.{filter}
use Rattle.std.specs.Str.{IsUtf8}
use Rattle.mail_base.specs.Series.{Held}
use Rattle.disk_model.specs.Answers.{AreText}
use Rattle.folder_core.specs.Mh.{is_number}
use Rattle.folder_core.proofs.SeenLemmas.{first_and_rest}
use Rattle.mh_folder.proofs.numbered_name.add_names.Goals as goal

filter-cons : (name : List ℕ) (names : List (List ℕ))
    → filter is_number (name ∷ names) ≡ filter is_number (name ∷ []) ++ filter is_number names
filter-cons name names = by_number (is_number name)
  where
    by_number : (t : Bool) → (if t then name ∷ filter is_number names else filter is_number names)
        ≡ (if t then name ∷ [] else []) ++ filter is_number names
    by_number true = refl
    by_number false = refl

first_text : (left : List (Held ℕ)) (d item : Held ℕ) → item ≡ slice_index_or left 0 d
    → 1 ≤ length left
    → AreText left → IsUtf8 item.items
first_text left d item is some text = (subst AreText (first_and_rest left d item is some) text).0

pub add_name-requires : goal.add_name-requires
add_name-requires c = record {
  text = subst IsUtf8 (sym c.as_slice.ensures)
      (first_text c.loop-left.left.now _ c.name-item.result c.name-item.is c.in-len1-up.len_at_least
      c.loop-left.invariant.text);
  each = c.loop-left.invariant.each;
}

one_more : (name item : List ℕ) (whole names old mid all : List (List ℕ))
    → whole ≡ item ∷ names → name ≡ item → mid ≡ old ++ filter is_number (name ∷ [])
    → old ++ filter is_number whole ≡ all → mid ++ filter is_number names ≡ all
one_more name item whole names old mid all is same more so_far =
    ap (λ (l : List (List ℕ)). l ++ filter is_number names)
    (more ∙ ap (λ (n : List ℕ). old ++ filter is_number (n ∷ [])) same)
    ∙ append_assoc old (filter is_number (item ∷ [])) (filter is_number names)
    ∙ ap (λ (l : List (List ℕ)). old ++ l) (sym (filter-cons item names))
    ∙ ap (λ (l : List (List ℕ)). old ++ filter is_number l) (sym is) ∙ so_far

pub loop-left-preserved : goal.loop-left-preserved
loop-left-preserved c =
    let whole = first_and_rest c.loop-left.left.now _ c.name-item.result c.name-item.is
    c.in-len1-up.len_at_least in
    record {
      text = (subst AreText whole c.loop-left.invariant.text).1;
      each = c.in_ok-add_name.ensures.each;
      files = one_more c.as_slice.result.now c.name-item.result.items
          (map (λ name. name.items) c.loop-left.left.now) _ _ _ _
          (ap (map (λ (name : Held ℕ). name.items)) whole) c.as_slice.ensures
          c.in_ok-add_name.ensures.files
          c.loop-left.invariant.files;
    }
