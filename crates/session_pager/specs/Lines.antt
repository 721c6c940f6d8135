-- The lines of a text and of a list of parts.
use Rattle.std.specs.Prelude.{◌-◌, ◌*◌, ◌/◌, ◌%◌, ◌==◌, ◌++◌, ℕ, Bool, List, [], Option, None, Some}
use Rattle.std.specs.Prelude.{codes, drop, map, replicate, slice_get, if◌then◌else◌}
use Rattle.std.specs.List.{range_with_len}
use Rattle.std.specs.Option.{option_map_or}
use Rattle.expando.specs.Cut.{cut}
use Rattle.folder_letters.specs.Letters.{Mail}
use Rattle.message_text.specs.Weeding.{PlainWeeding}
use Rattle.pager.specs.Pager.{PlainPager, page}
use Rattle.session_pager.specs.Opening.{pager_of, rows_at}
use Rattle.session_pager.specs.Reader.{Parts, PlainReader, PlainShowing}

-- so many empty lines
abbrev pub empty_lines : ℕ → List (List ℕ)
empty_lines count = replicate count []

-- the page of a pager, and without one empty lines
abbrev pub page_of : ℕ → Option PlainPager → List (List ℕ)
page_of rows None = empty_lines rows
page_of rows (Some pager) = page rows pager

-- so many lines of a text
abbrev pub page_lines : ℕ → List Mail → ℕ → PlainWeeding → PlainReader → List (List ℕ)
page_lines rows mails cols weeding r = page_of rows (pager_of mails cols weeding r.showing)

-- what stands before a row: `->` before the cursor's
abbrev pub mark : Bool → List ℕ
mark at_cursor = if at_cursor then codes "->" else codes "  "

-- a row in so many columns, behind its mark
abbrev pub marked_row : ℕ → Bool → List ℕ → List ℕ
marked_row cols at_cursor row = mark at_cursor ++ cut (cols - 2) row

-- a line of a page of rows, where the cursor stands on this line; past the last row it is empty
abbrev pub row_line : ℕ → ℕ → List (List ℕ) → ℕ → List ℕ
row_line cols cursor rows line =
    option_map_or (marked_row cols (line == cursor)) (slice_get rows line) []

-- the page of so many rows that holds the cursor
abbrev pub rows_page : ℕ → ℕ → ℕ → List (List ℕ) → List (List ℕ)
rows_page size cols cursor rows =
    map (row_line cols (cursor % size) (drop (cursor / size * size) rows)) (range_with_len 0 size)

-- so many lines of the list of parts in so many columns, and of anything else empty lines
abbrev pub shown_rows : ℕ → ℕ → List Mail → PlainShowing → List (List ℕ)
shown_rows size cols mails (Parts id cursor) = rows_page size cols cursor (rows_at mails id)
shown_rows size cols mails _ = empty_lines size

-- so many lines of the list of parts of a reader, on a screen of so many columns
abbrev pub part_lines : ℕ → ℕ → List Mail → ℕ → PlainWeeding → PlainReader → List (List ℕ)
part_lines size screen mails cols weeding r = shown_rows size screen mails r.showing
