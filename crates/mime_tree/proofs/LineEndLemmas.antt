-- Where a text breaks into lines, and a text without its last line end.
use Rattle.std.proofs.Common.{◌≡◌, ◌≢◌, ℕ, zero, suc, ◌+◌, ◌-◌, ◌<◌, ◌≤◌, Bool, true, false, cond}
use Rattle.std.proofs.Common.{nat_lt, ◌&&◌, ◌==◌, List, [], ◌∷◌, ◌++◌, length, take, drop}
use Rattle.std.proofs.Common.{slice_index, refl, sym, ap, subst, ◌∙◌, arith, inr, ⊎_elim}
use Rattle.std.proofs.Common.{length-append, length-drop, length-take-le, get_or-take}
use Rattle.std.proofs.Common.{take-append-drop, Option, codes}
use Rattle.std.proofs.Math.Seq.{take-append-add}
use Rattle.std.proofs.lemmas.Bool.{cases_Bool, cases_eq, cases_lt, cond-true, cond-false, eq-eqb}
use Rattle.std.proofs.lemmas.Bool.{eqb-true}
use Rattle.std.proofs.lemmas.List.{append-nil, get_or-append-add, length-take, take_all}
use Rattle.std.proofs.lemmas.Bool.Decides.{nat_tests}
use Rattle.bstr.specs.Text.{line_len, lines_of, no_cr, without_terminator}
use Rattle.bstr.proofs.lemmas.LineLemmas.{line_len-bounds, lines-nil, lines-step, lines-one}
use Rattle.mail_base.specs.Fronts.{behind_text}
use Rattle.mail_base.proofs.LinesLemmas.{IsLine, first_line, first_ends, line_in_front, one_line}
use Rattle.mime_tree.specs.DashLines.{behind_dashes, dash_lines, dash_lines_with}

-- the last byte is this one
abbrev ends_in : ℕ → List ℕ → Bool
ends_in b s = nat_lt 0 (length s) && slice_index s (length s - 1) == b

above_zero : (n : ℕ) → 0 < n → nat_lt 0 n ≡ true
above_zero n h = grind (arith, nat_tests)

ends_last : (b : ℕ) (s : List ℕ) → 0 < length s → ends_in b s ≡ (slice_index s (length s - 1) == b)
ends_last b s some = ap (λ t. t && slice_index s (length s - 1) == b) (above_zero (length s) some)

last_place : (l s : List ℕ) → 0 < length s → length (l ++ s) - 1 ≡ length l + (length s - 1)
last_place l s some = omega (arith, length-append l s)

ends_append : (b : ℕ) (l s : List ℕ) → 0 < length s → ends_in b (l ++ s) ≡ ends_in b s
ends_append b l s some =
    ends_last b (l ++ s) (omega (arith, length-append l s))
    ∙ ap (λ n. slice_index (l ++ s) n == b) (last_place l s some)
    ∙ ap (λ v. v == b) (get_or-append-add l s (length s - 1) 0)
    ∙ sym (ends_last b s some)

chopped_append : (l s : List ℕ) → 0 < length s
    → take (length (l ++ s) - 1) (l ++ s) ≡ l ++ take (length s - 1) s
chopped_append l s some =
    ap (λ n. take n (l ++ s)) (last_place l s some) ∙ take-append-add l s (length s - 1)

cond_append : (t : Bool) (l x y : List ℕ) → cond t (l ++ x) (l ++ y) ≡ l ++ cond t x y
cond_append true l x y = refl
cond_append false l x y = refl

no_cr_append : (l s : List ℕ) → 0 < length l → slice_index l (length l - 1) ≡ 10
    → no_cr (l ++ s) ≡ l ++ no_cr s
no_cr_append l [] some is =
    ap no_cr (append-nil l)
    ∙ cond-false (ends_in 13 l) _ _ (ends_last 13 l some ∙ ap (λ v. v == 13) is)
    ∙ sym (append-nil l)
no_cr_append l (b ∷ r) some is =
    let s = b ∷ r in
    ap (λ t. cond t (take (length (l ++ s) - 1) (l ++ s)) (l ++ s))
    (ends_append 13 l s (omega arith))
    ∙ ap (λ x. cond (ends_in 13 s) x (l ++ s)) (chopped_append l s (omega arith))
    ∙ cond_append (ends_in 13 s) l (take (length s - 1) s) s

-- the last line end of lines is that of the last of them
terminator_append : (l s : List ℕ) → 0 < length l → slice_index l (length l - 1) ≡ 10 → 0 < length s
    → without_terminator (l ++ s) ≡ l ++ without_terminator s
terminator_append l s some is more =
    ap (λ t. cond t (no_cr (take (length (l ++ s) - 1) (l ++ s))) (l ++ s))
    (ends_append 10 l s more)
    ∙ ap (λ x. cond (ends_in 10 s) (no_cr x) (l ++ s)) (chopped_append l s more)
    ∙ ap (λ x. cond (ends_in 10 s) x (l ++ s)) (no_cr_append l (take (length s - 1) s) some is)
    ∙ cond_append (ends_in 10 s) l (no_cr (take (length s - 1) s)) s

-- a text with no line feed
pub record NoFeed (s : List ℕ) : Type 0 where
  pub none : (k : ℕ) → k < length s → slice_index s k ≢ 10

feed_taken : (s : List ℕ) (m : ℕ) → ((k : ℕ) → k < m → k < length s → slice_index s k ≢ 10)
    → NoFeed (take m s)
feed_taken s m none = record {
  none = λ k less is.
      none k (omega (arith, length-take m s, less)) (omega (arith, length-take m s, less))
      (sym (get_or-take m s k 0 (omega (arith, length-take m s, less))) ∙ is);
}

no_cr_feed : (s : List ℕ) → NoFeed s → NoFeed (no_cr s)
no_cr_feed s free = ⊎_elim
    (λ yes. subst NoFeed (sym (cond-true (ends_in 13 s) _ _ yes))
    (feed_taken s (length s - 1) (λ k _ less. free.none k less)))
    (λ other. subst NoFeed (sym (cond-false (ends_in 13 s) _ _ other)) free)
    (cases_Bool (ends_in 13 s))

last_other : (s : List ℕ) → 0 < length s → ends_in 10 s ≡ false → slice_index s (length s - 1) ≢ 10
last_other s some other is =
    let yes : ends_in 10 s ≡ true = ends_last 10 s some ∙ eq-eqb _ 10 is in
    cc

-- a line without its line end has no line feed
line_feed : (s : List ℕ) → IsLine s → NoFeed (without_terminator s)
line_feed s line = ⊎_elim
    (λ yes. subst NoFeed (sym (cond-true (ends_in 10 s) _ _ yes))
    (no_cr_feed (take (length s - 1) s)
    (feed_taken s (length s - 1) (λ k less _. line.none k (omega (arith, less))))))
    (λ other. subst NoFeed (sym (cond-false (ends_in 10 s) _ _ other)) (whole other))
    (cases_Bool (ends_in 10 s))
  where
    whole : ends_in 10 s ≡ false → NoFeed s
    whole other = record {
      none = λ k less. ⊎_elim
          (λ last. subst (λ n. slice_index s n ≢ 10) (sym last) (last_other s line.some other))
          (λ before. line.none k (omega (arith, less, before)))
          (cases_eq k (length s - 1));
    }

-- a text with no line feed has no line end
pub feed_stays : (s : List ℕ) → NoFeed s → without_terminator s ≡ s
feed_stays [] free = refl
feed_stays (b ∷ r) free =
    let s = b ∷ r in
    ⊎_elim
    (λ yes. absurd (free.none (length s - 1) (omega arith)
    (eqb-true _ 10 (sym (ends_last 10 s (omega arith)) ∙ yes))))
    (λ other. cond-false (ends_in 10 s) _ _ other)
    (cases_Bool (ends_in 10 s))

pub feed_lines : (s : List ℕ) → NoFeed s → 0 < length s → lines_of s ≡ s ∷ []
feed_lines s free some = lines-one s some (λ k less. free.none k (omega (arith, less)))

last_dash : (at : ℕ) (s : List ℕ) (o : Option (List ℕ)) → NoFeed s → behind_text (codes "--") s ≡ o
    → dash_lines at (lines_of s) ≡ dash_lines_with at o []
last_dash at [] o free e = ap (dash_lines at) lines-nil ∙ ap (λ o. dash_lines_with at o []) e
last_dash at (b ∷ r) o free e =
    let s = b ∷ r in
    ap (dash_lines at) (feed_lines s free (omega arith))
    ∙ ap (λ t. dash_lines_with at (behind_text (codes "--") t) []) (feed_stays s free)
    ∙ ap (λ o. dash_lines_with at o []) e

dashes_without : (f : ℕ) (at : ℕ) (s : List ℕ) → length s ≤ f
    → dash_lines at (lines_of (without_terminator s)) ≡ dash_lines at (lines_of s)
dashes_without f at [] le = refl
dashes_without zero at (b ∷ r) le = absurd (omega arith)
dashes_without (suc f) at (b ∷ r) le =
    let s = b ∷ r in
    let n = line_len s in
    let l = take n s in
    let t = drop n s in
    let bounds = line_len-bounds s (omega arith) in
    let size = length-take-le n s bounds.1 in
    let line = first_line s (omega arith) in
    ⊎_elim
    (λ less.
    let more : 0 < length t = omega (arith, length-drop n s, less) in
    let short : length t ≤ f = omega (arith, length-drop n s, bounds.0, le) in
    let is = ⊎_elim (λ none. absurd (omega (arith, none, size, bounds.0))) (λ yes. yes)
    (first_ends s less) in
    let whole = sym (take-append-drop n s) in
    ap (λ x. dash_lines at (lines_of (without_terminator x))) whole
    ∙ ap (λ x. dash_lines at (lines_of x)) (terminator_append l t line.some is more)
    ∙ ap (dash_lines at) (line_in_front l (without_terminator t) line (inr is))
    ∙ ap (dash_lines_with at (behind_dashes l)) (dashes_without f (at + length l) t short)
    ∙ sym (ap (dash_lines at) (lines-step s (omega arith))))
    (λ all.
    let one : lines_of s ≡ s ∷ [] = one_line s (subst IsLine (take_all n s all) line) in
    last_dash at (without_terminator s) (behind_dashes s)
    (line_feed s (subst IsLine (take_all n s all) line)) refl
    ∙ sym (ap (dash_lines at) one))
    (cases_lt n (length s))

-- the last line end takes no line away that begins with two dashes
pub dash_lines_without : (at : ℕ) (s : List ℕ)
    → dash_lines at (lines_of (without_terminator s)) ≡ dash_lines at (lines_of s)
dash_lines_without at s = dashes_without (length s) at s (omega arith)
