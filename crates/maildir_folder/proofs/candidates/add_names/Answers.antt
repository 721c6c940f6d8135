use Rattle.std.proofs.Common.{◌≡◌, ◌++◌, ◌≤◌, ◌∷◌, [], ℕ, Bool, true, false, List, length, map}
use Rattle.std.proofs.Common.{ap, sym, ◌∙◌, subst, refl, slice_index_or, append_assoc}
use Rattle.std.proofs.Common.{if◌then◌else◌}
use Rattle.std.specs.List.{filter}
use Rattle.std.specs.Str.{IsUtf8}
use Rattle.mail_base.specs.Series.{Held}
use Rattle.disk_model.specs.Answers.{AreText}
use Rattle.folder_core.specs.Maildir.{MaildirFile, files_in, is_shown}
use Rattle.folder_core.proofs.SeenLemmas.{first_and_rest}
use Rattle.maildir_folder.proofs.candidates.add_names.Goals as goal

files_in-cons : (in_cur : Bool) (name : List ℕ) (names : List (List ℕ))
    → files_in in_cur (name ∷ names) ≡ files_in in_cur (name ∷ []) ++ files_in in_cur names
files_in-cons in_cur name names = by_dot (is_shown name)
  where
    by_dot : (t : Bool)
        → map (λ n. record { in_cur = in_cur; name = n })
        (if t then name ∷ filter is_shown names else filter is_shown names)
        ≡ map (λ n. record { in_cur = in_cur; name = n }) (if t then name ∷ [] else [])
        ++ files_in in_cur names
    by_dot true = refl
    by_dot false = refl

first_text : (left : List (Held ℕ)) (d item : Held ℕ) → item ≡ slice_index_or left 0 d
    → 1 ≤ length left
    → AreText left → IsUtf8 item.items
first_text left d item is some text = (subst AreText (first_and_rest left d item is some) text).0

pub add_name-requires : goal.add_name-requires
add_name-requires c = record {
  text = subst IsUtf8 (sym c.as_slice.ensures)
      (first_text c.loop-left.left.now _ c.name-item.result c.name-item.is c.in-len1-up.len_at_least
      c.loop-left.invariant.text);
  each = c.loop-left.invariant.each;
}

one_more : (in_cur : Bool) (name item : List ℕ) (whole names : List (List ℕ))
    (old mid all : List MaildirFile)
    → whole ≡ item ∷ names → name ≡ item → mid ≡ old ++ files_in in_cur (name ∷ [])
    → old ++ files_in in_cur whole ≡ all → mid ++ files_in in_cur names ≡ all
one_more in_cur name item whole names old mid all is same more so_far =
    ap (λ (l : List MaildirFile). l ++ files_in in_cur names)
    (more ∙ ap (λ (n : List ℕ). old ++ files_in in_cur (n ∷ [])) same)
    ∙ append_assoc old (files_in in_cur (item ∷ [])) (files_in in_cur names)
    ∙ ap (λ (l : List MaildirFile). old ++ l) (sym (files_in-cons in_cur item names))
    ∙ ap (λ (l : List (List ℕ)). old ++ files_in in_cur l) (sym is) ∙ so_far

pub loop-left-preserved : goal.loop-left-preserved
loop-left-preserved c =
    let whole =
    first_and_rest c.loop-left.left.now _ c.name-item.result c.name-item.is
    c.in-len1-up.len_at_least in
    record {
      text = (subst AreText whole c.loop-left.invariant.text).1;
      each = c.in_ok-add_name.ensures.each;
      files = one_more c.args.in_cur c.as_slice.result.now c.name-item.result.items
          (map (λ name. name.items) c.loop-left.left.now) _ _ _ _
          (ap (map (λ (name : Held ℕ). name.items)) whole) c.as_slice.ensures
          c.in_ok-add_name.ensures.files
          c.loop-left.invariant.files;
    }
