-- The rows are those of the listed messages, in their order.
use Rattle.std.proofs.Common.{◌≡◌, ◌∙◌, ℕ, List, ap, length, map, sym}
use Rattle.std.proofs.lemmas.List.{length-map}
use Rattle.std.proofs.lemmas.Simd.{map-map}
use Rattle.std.specs.List.{range_with_len}
use Rattle.patterns_match.specs.declared.row.Row.{Row}
use Rattle.index_listed.specs.Listed.{PlainListed, ids, no_listed}
use Rattle.index_listed.proofs.PlaceLemmas.{map_at}
use Rattle.index_view.specs.Answers.{Facts, links_of, ordered, rows_of, scored}
use Rattle.index_view.specs.Ordering.{with_number}
use Rattle.index_view.specs.Tables.{first_row_at, first_rows, no_row, scored_at, table}

abbrev pub number : Row → ℕ
number r = r.id.0

first_numbers : (ls : List PlainListed) (f : Facts)
    → map number (first_rows ls f.items (links_of ls f)) ≡ ids ls
first_numbers ls f =
    map-map number (first_row_at ls f.items (links_of ls f)) (range_with_len 0 (length ls))
    ∙ map_at (λ (l : PlainListed). l.id.0) ls no_listed

pub scored_numbers : (ls : List PlainListed) (f : Facts) → map number (scored ls f) ≡ ids ls
scored_numbers ls f =
    let rows = first_rows ls f.items (links_of ls f) in
    map-map number (scored_at f.people f.scores (table ls rows (links_of ls f)) rows)
    (range_with_len 0 (length rows))
    ∙ map_at number rows no_row ∙ first_numbers ls f

pub row_numbers : (ls : List PlainListed) (f : Facts)
    → map (λ (r : Row). r.id.0) (rows_of ls f) ≡ ids ls
row_numbers ls f = map-map number (with_number (ordered ls f)) (scored ls f)
    ∙ scored_numbers ls f

pub rows_long : (ls : List PlainListed) (f : Facts) → length (rows_of ls f) ≡ length ls
rows_long ls f = sym (length-map (rows_of ls f) (λ (r : Row). r.id.0))
    ∙ ap length (row_numbers ls f) ∙ length-map ls (λ (l : PlainListed). l.id.0)
