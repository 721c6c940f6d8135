-- Lines of rows, as they are added one by one, and how many there are.
use Rattle.std.proofs.Common.{◌≡◌, ◌+◌, ◌∙◌, ◌++◌, ◌%◌, ◌/◌, ◌*◌, ◌∷◌, [], ℕ, zero, suc, List}
use Rattle.std.proofs.Common.{drop, length, map, ap, sym, add-one, append_assoc, arith}
use Rattle.std.proofs.lemmas.List.{drop-map, length-map, length-replicate, map-append}
use Rattle.std.proofs.lemmas.List.FromFn.{length-map-range_with_len}
use Rattle.std.specs.List.{range_with_len}
use Rattle.std.specs.Prelude.{IfOk, Result, Ok, Err}
use Rattle.mail_base.specs.Series.{Held, plain_texts}
use Rattle.session_pager.specs.Lines.{row_line, rows_page}
use Rattle.session_pager.specs.Reads.{rows_in}
use Rattle.session_pager.specs.declared.showing.Showing.{Showing}
use Rattle.session_pager.specs.declared.showing.Showing.TheVariants as kept

range_more : (start count : ℕ) → range_with_len start (suc count)
    ≡ range_with_len start count ++ (start + count) ∷ []
range_more start zero =
    let same : start ≡ start + 0 = omega arith in ap (λ n. n ∷ []) same
range_more start (suc count) =
    let same : start + 1 + count ≡ start + suc count = omega arith in
    ap (λ s. start ∷ s) (range_more (start + 1) count
    ∙ ap (λ n. range_with_len (start + 1) count ++ n ∷ []) same)

line_turn : (line : ℕ → List ℕ) (first done new : List (List ℕ)) (count : ℕ) (text : List ℕ)
    → new ≡ done ++ text ∷ [] → text ≡ line count
    → done ≡ first ++ map line (range_with_len 0 count)
    → new ≡ first ++ map line (range_with_len 0 (count + 1))
line_turn line first done new count text is at before =
    let next : 0 + count ≡ count = omega arith in
    let more : range_with_len 0 (count + 1) ≡ range_with_len 0 count ++ count ∷ [] =
    ap (range_with_len 0) (add-one count) ∙ range_more 0 count
    ∙ ap (λ n. range_with_len 0 count ++ n ∷ []) next in
    is ∙ ap (λ s. s ++ text ∷ []) before
    ∙ append_assoc first (map line (range_with_len 0 count)) (text ∷ [])
    ∙ ap (λ s. first ++ (map line (range_with_len 0 count) ++ s ∷ [])) at
    ∙ ap (λ s. first ++ s) (sym (map-append line (range_with_len 0 count) (count ∷ [])))
    ∙ ap (λ s. first ++ map line s) (sym more)

-- one more line of a page is added
pub page_turn : (line : ℕ → List ℕ) (first done new : Held (Held ℕ)) (count : ℕ) (text : Held ℕ)
    → new.items ≡ done.items ++ text ∷ [] → text.items ≡ line count
    → plain_texts done ≡ plain_texts first ++ map line (range_with_len 0 count)
    → plain_texts new ≡ plain_texts first ++ map line (range_with_len 0 (count + 1))
page_turn line first done new count text is at before =
    line_turn line (plain_texts first) (plain_texts done) (plain_texts new) count text.items
    (ap (map (λ (l : Held ℕ). l.items)) is
    ∙ map-append (λ (l : Held ℕ). l.items) done.items (text ∷ [])) at before

-- the lines of a page of rows, from the row on with which it begins
pub page_made : (size cols cursor : ℕ) (all rows : List (Held ℕ)) (first new : Held (Held ℕ))
    → rows ≡ drop (cursor / size * size) all → first.items ≡ []
    → plain_texts new ≡ plain_texts first
    ++ map (row_line cols (cursor % size) (map (λ row. row.items) rows)) (range_with_len 0 size)
    → plain_texts new ≡ rows_page size cols cursor (map (λ row. row.items) all)
page_made size cols cursor all rows first new behind empty made =
    made
    ∙ ap (λ (s : List (Held ℕ)). map (λ row. row.items) s
    ++ map (row_line cols (cursor % size) (map (λ row. row.items) rows)) (range_with_len 0 size))
    empty
    ∙ ap (λ (s : List (List ℕ)). map (row_line cols (cursor % size) s) (range_with_len 0 size))
    (ap (map (λ (row : Held ℕ). row.items)) behind
    ∙ sym (drop-map (λ (row : Held ℕ). row.items) (cursor / size * size) all))

-- a page of rows has as many lines as it is asked for
pub rows_counted : (size cols : ℕ) (s : Showing) → length (rows_in size cols s) ≡ size
rows_counted size cols (kept.Parts parts) =
    length-map-range_with_len (row_line cols (parts.cursor % size)
    (drop (parts.cursor / size * size) parts.rows)) 0 size
rows_counted size cols _ = length-replicate size []

-- so many lines are made as there are texts of them
pub count_made : {E : Type 0} (r : Result (Held (Held ℕ)) E) (texts : List (List ℕ)) (size : ℕ)
    → length texts ≡ size → IfOk r (λ l. plain_texts l ≡ texts)
    → IfOk r (λ l. length l.items ≡ size)
count_made (Ok l) texts size count is =
    sym (length-map l.items (λ (t : Held ℕ). t.items)) ∙ ap length is ∙ count
count_made (Err e) texts size count is = tt
