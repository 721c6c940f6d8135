-- Where messages score what they did, shutting and opening threads leaves the order as it is.
use Rattle.std.proofs.Common.{◌≡◌, ◌∙◌, ◌+◌, ◌∷◌, [], ℕ, zero, suc, List, ap, arith, length}
use Rattle.std.proofs.Common.{map, nat_eq, refl, slice_index_or, sym, ⊎_elim}
use Rattle.std.specs.Prelude.{position}
use Rattle.std.proofs.lemmas.Bool.{cases_lt}
use Rattle.std.proofs.lemmas.List.{get_or_past, length-map}
use Rattle.std.proofs.lemmas.Simd.{map-map}
use Rattle.std.specs.List.{range_with_len}
use Rattle.std.specs.Option.{option_map_or}
use Rattle.mail_base.specs.declared.kind.Id.{Id}
use Rattle.patterns_match.specs.declared.row.Row.{Row}
use Rattle.index_listed.specs.Listed.{PlainListed, at, ids as ids_in}
use Rattle.index_listed.specs.Places.{numbers}
use Rattle.index_listed.specs.Seen.{PlainSight, sight}
use Rattle.index_listed.specs.Sight.{stances}
use Rattle.index_listed.proofs.PlaceLemmas.{map_at}
use Rattle.index_order.specs.Options.{sort_options}
use Rattle.index_order.specs.Order.{is_threads, order}
use Rattle.index_view.specs.Answers.{Facts, PlainAnswers, WereAnswered, answers, links_of, ordered}
use Rattle.index_view.specs.Answers.{rows_of, scored, scored_by, sight_of, stances_of, threads_of}
use Rattle.index_view.specs.Limit.{all_within}
use Rattle.index_view.specs.Marks.{marks_of}
use Rattle.index_view.specs.Ordering.{key_at, key_of, numbered, with_number}
use Rattle.index_view.specs.Tables.{ScoreAlike, no_row, renumbered, row_at, table}
use Rattle.index_view.proofs.AnswersLemmas.{row_numbers, rows_long, scored_numbers}
use Rattle.index_view.proofs.StillLemmas.{each_same, read_map}

-- Rows.

abbrev score : Row → ℕ
score r = r.score

abbrev number : Row → ℕ
number r = r.number

-- past the last place there is a row in neither list
alike_at : (rows others : List Row) → length rows ≡ length others → ScoreAlike rows others
    → (p : ℕ) → (row_at rows p).score ≡ (row_at others p).score
alike_at rows others long alike p = ⊎_elim (λ low. alike p low)
    (λ past. ap score (get_or_past rows p no_row past
    ∙ sym (get_or_past others p no_row (omega (arith, past, long)))))
    (cases_lt p (length rows))

abbrev id_number : Row → ℕ
id_number r = r.id.0

-- the place of an id in an order, from 1, by its number
abbrev told_in : List Id → ℕ → ℕ
told_in ids n = option_map_or (λ p. p + 1) (position (nat_eq n) (numbers ids)) 0

-- numbers are told by ids alone
numbers_told : (ids : List Id) (rows others : List Row)
    → map id_number rows ≡ map id_number others
    → map number (numbered ids rows) ≡ map number (numbered ids others)
numbers_told ids rows others same =
    map-map number (with_number ids) rows
    ∙ sym (map-map (told_in ids) id_number rows)
    ∙ ap (map (told_in ids)) same
    ∙ map-map (told_in ids) id_number others
    ∙ sym (map-map number (with_number ids) others)

number_at : (rows others : List Row) → map number rows ≡ map number others
    → (p : ℕ) → (row_at rows p).number ≡ (row_at others p).number
number_at rows others same p = sym (read_map number no_row rows p)
    ∙ ap (λ (ns : List ℕ). slice_index_or ns p 0) same ∙ read_map number no_row others p

-- a row with the number that it has in an order
with_number_at : (ids : List Id) (rows : List Row) (p : ℕ)
    → record (row_at rows p) { number = (row_at (numbered ids rows) p).number }
    ≡ row_at (numbered ids rows) p
with_number_at ids [] p = refl
with_number_at ids (r ∷ rows) zero = refl
with_number_at ids (r ∷ rows) (suc p) = with_number_at ids rows p

itself : (rows : List Row) → map (λ (r : Row). r) rows ≡ rows
itself [] = refl
itself (r ∷ rows) = ap (λ l. r ∷ l) (itself rows)

-- rows with the numbers that others with the same ids have in an order have them too
pub renumbered_is : (ids : List Id) (rows others : List Row)
    → map id_number rows ≡ map id_number others
    → renumbered (numbered ids rows) others ≡ numbered ids others
renumbered_is ids rows others same =
    each_same (λ p. record (row_at others p) { number = (row_at (numbered ids rows) p).number })
    (row_at (numbered ids others)) (range_with_len 0 (length others))
    (λ p. ap (λ n. record (row_at others p) { number = n })
    (number_at (numbered ids rows) (numbered ids others) (numbers_told ids rows others same) p)
    ∙ with_number_at ids others p)
    ∙ ap (λ n. map (row_at (numbered ids others)) (range_with_len 0 n))
    (sym (length-map others (with_number ids)))
    ∙ map_at (λ (r : Row). r) (numbered ids others) no_row
    ∙ itself (numbered ids others)

-- numbers leave scores as they are
score_there : (ids : List Id) (rows : List Row) (p : ℕ)
    → (row_at (numbered ids rows) p).score ≡ (row_at rows p).score
score_there ids rows p = sym (read_map score no_row (numbered ids rows) p)
    ∙ ap (λ (ns : List ℕ). slice_index_or ns p 0) (map-map score (with_number ids) rows)
    ∙ read_map score no_row rows p

-- What is answered.

module _ (ls : List PlainListed) (f : Facts) (a : PlainAnswers) (were : WereAnswered ls f a)
    (s : List Row) (is : s ≡ scored_by f.people f.scores ls f.items a.links) where
  abbrev b : Facts
  b = record f { items = were.items }

  rows_were : a.rows ≡ rows_of ls b
  rows_were = ap (λ (z : PlainAnswers). z.rows) were.are

  links_are : a.links ≡ links_of ls f
  links_are = ap (λ (z : PlainAnswers). z.links) were.are

  scored_now : s ≡ scored ls f
  scored_now = is ∙ ap (scored_by f.people f.scores ls f.items) links_are

  scored_ids : map id_number (scored ls b) ≡ map id_number (scored ls f)
  scored_ids = scored_numbers ls b ∙ sym (scored_numbers ls f)

  pub rows_there : length a.rows ≡ length ls
  rows_there = ap length rows_were ∙ rows_long ls b

  pub scored_there : length s ≡ length ls
  scored_there = ap length scored_now ∙ sym (length-map (scored ls f) id_number)
      ∙ ap length (scored_numbers ls f) ∙ length-map ls (λ (l : PlainListed). l.id.0)

  module _ (alike : ScoreAlike a.rows s) where
    same_score : (p : ℕ) → (row_at (scored ls b) p).score ≡ (row_at (scored ls f) p).score
    same_score p =
        sym (score_there (ordered ls b) (scored ls b) p)
        ∙ ap (λ (rs : List Row). (row_at rs p).score) (sym rows_were)
        ∙ alike_at a.rows s (rows_there ∙ sym scored_there) alike p
        ∙ ap (λ (rs : List Row). (row_at rs p).score) scored_now

    same_order : ordered ls b ≡ ordered ls f
    same_order = ap (λ ks. order (sort_options f.options) ks (threads_of ls f))
        (each_same (key_at ls (scored ls b)) (key_at ls (scored ls f))
        (range_with_len 0 (length ls)) (λ p. ap (key_of (at ls p)) (same_score p)))

    same_stances : stances_of ls b ≡ stances_of ls f
    same_stances = ap
        (λ ids. stances (is_threads f.options.sort) (threads_of ls f) (ids_in ls) ids) same_order

    rows_now : renumbered a.rows s ≡ rows_of ls f
    rows_now =
        (λ i. renumbered (rows_were i) (scored_now i))
        ∙ renumbered_is (ordered ls b) (scored ls b) (scored ls f) scored_ids
        ∙ ap (λ ids. numbered ids (scored ls f)) same_order

    -- the ids stay where they were
    pub same_ids : map id_number (renumbered a.rows s) ≡ map id_number a.rows
    same_ids = ap (map id_number) rows_now ∙ row_numbers ls f ∙ sym (row_numbers ls b)
        ∙ ap (map id_number) (sym rows_were)

    -- with these rows, and with what is seen by them, it is as worked out from scratch
    pub folded_answers : (rows : List Row) (seen : PlainSight) → rows ≡ renumbered a.rows s
        → seen ≡ sight (marks_of rows (all_within f.people f.limit (table ls rows a.links)))
        a.sight.order a.stances
        → record a { rows = rows; sight = seen } ≡ answers ls f
    folded_answers rows seen renumber sees =
        let all : rows ≡ rows_of ls f = renumber ∙ rows_now in
        let order_is : a.sight.order ≡ ordered ls f =
        ap (λ (z : PlainAnswers). z.sight.order) were.are ∙ same_order in
        let stances_are : a.stances ≡ stances_of ls f =
        ap (λ (z : PlainAnswers). z.stances) were.are ∙ same_stances in
        let sight_is : seen ≡ sight_of ls f =
        sees ∙ (λ i. sight (marks_of (all i) (all_within f.people f.limit
        (table ls (all i) (links_are i)))) (order_is i) (stances_are i)) in
        λ i. record {
          parents = (were.are i).parents;
          links = links_are i;
          rows = all i;
          ties = (were.are i).ties;
          stances = stances_are i;
          sight = sight_is i;
        }
