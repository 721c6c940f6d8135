-- The lines of the index: the page that holds the cursor, each message with its mark.
use Rattle.std.specs.Prelude.{◌-◌, ◌++◌, ℕ, ℤ, false, List, []}
use Rattle.std.specs.Prelude.{length, map, replicate, slice_index_or}
use Rattle.std.specs.Prelude.{Option, Some, None, option_and_then, option_map, unwrap_or}
use Rattle.std.specs.Prelude.{if◌then◌else◌}
use Rattle.mail_base.specs.declared.kind.Id.{Id}
use Rattle.expando.specs.Formats.{PlainPiece}
use Rattle.folder_letters.specs.Letters.{Mail}
use Rattle.headers.specs.Header.{PlainHeader}
use Rattle.patterns_match.specs.declared.row.Row.{Row}
use Rattle.index_listed.specs.Listed.{header_of, mail_at, no_mail, text_of}
use Rattle.index_listed.specs.Page.{cursor_place as place_of_cursor, mark, page as page_of}
use Rattle.index_listed.specs.Page.{page_start as start_of_page}
use Rattle.index_listed.specs.Places.{place_in}
use Rattle.index_listed.specs.Seen.{PlainSight, thread_has, tree_line}
use Rattle.index_listed.specs.Visibility.{hides}
use Rattle.index_rows.specs.Entry.{PlainEntry}
use Rattle.index_rows.specs.Texts.{index_row}
use Rattle.index_rows.specs.Ties.{PlainTies}
use Rattle.index_rows.specs.declared.shut.Shut.{Shut}
use Rattle.index_view.specs.Answers.{place_of}
use Rattle.index_view.specs.Tables.{row_at}
use Rattle.index_view.specs.View.{PlainView, visible_of}
use Rattle.index_view.specs.declared.lines.Style.{Style}

-- by what rows are made: a format, the characters that tell what a message is to its reader, and
-- the reader's offset from UTC in seconds
pub record PlainStyle : Type 0 where
  pub format : List PlainPiece
  pub to_chars : List ℕ
  pub offset : ℤ

-- what stands at a place where there is no message
abbrev pub no_ties : PlainTies
no_ties = record { place = 0; from_reader = false; list = None }

-- what a row shows, by the row of a message, how many are listed, the thread that it hides, what
-- the tables of people tell of it, its header and text, and what stands before its subject
abbrev pub entry_of : Row → ℕ → Option Shut → PlainTies → PlainHeader → List ℕ → List ℕ
    → PlainStyle → PlainEntry
entry_of row count hidden ties header raw tree style = record {
  number = row.number;
  count = count;
  flags = row.flags;
  deleted = row.deleted;
  tagged = row.tagged;
  shut = hidden;
  ties = ties;
  header = header;
  raw = raw;
  size = row.size;
  score = row.score;
  tree = tree;
  received = row.received;
  to_chars = style.to_chars;
  offset = style.offset;
}

-- the shut thread whose other messages the one at a place of the order hides
abbrev pub shut_at : PlainSight → ℕ → Option Shut
shut_at s p = if hides s.entries p
    then Some (record {
      has_new = thread_has s.entries s.new_threads p;
      has_old = thread_has s.entries s.old_threads p;
    })
    else None

-- the shut thread whose other messages an id hides, where it stands in the order
abbrev pub hidden_by : PlainSight → Id → Option Shut
hidden_by s id = option_and_then (shut_at s) (place_in s.order id)

-- what a row shows of the message with an id, which stands at a place of the listing, given its
-- header and text, and what stands before its subject
abbrev pub entry_with : PlainHeader → List ℕ → List ℕ → PlainView → PlainStyle → Id → ℕ
    → PlainEntry
entry_with header raw tree v style id place = entry_of (row_at v.answers.rows place)
    (length v.answers.rows) (hidden_by v.answers.sight id)
    (slice_index_or v.answers.ties place no_ties) header raw tree style

-- what the row of a message shows
abbrev pub entry : List Mail → PlainView → PlainStyle → Id → ℕ → PlainEntry
entry mails v style id place = entry_with (header_of (mail_at mails id))
    (text_of (mail_at mails id)) (tree_line v.answers.sight id) v style id place

-- the row of a message in so many columns, where it is listed
abbrev pub line : List Mail → PlainView → PlainStyle → ℕ → Id → Option (List ℕ)
line mails v style cols id =
    option_map (λ place. index_row cols (entry mails v style id place) style.format)
    (place_of v.answers id)

-- where the cursor stands in what is seen
abbrev pub cursor_place : PlainView → ℕ
cursor_place v = place_of_cursor (visible_of v) v.cursor

-- where the page begins that holds the cursor
abbrev pub page_start : ℕ → PlainView → ℕ
page_start rows v = start_of_page rows (visible_of v) v.cursor

-- the messages of that page
abbrev pub page : ℕ → PlainView → List Id
page rows v = page_of rows (visible_of v) v.cursor

-- a message of the page with its mark
abbrev pub marked_line : List Mail → PlainView → PlainStyle → ℕ → Id → List ℕ
marked_line mails v style cols id =
    mark v.cursor id ++ unwrap_or (line mails v style (cols - 2) id) []

-- the lines of the page, and then empty ones
abbrev pub lines : List Mail → PlainView → PlainStyle → ℕ → ℕ → List (List ℕ)
lines mails v style rows cols = map (marked_line mails v style cols) (page rows v)
    ++ replicate (rows - length (page rows v)) []

-- For the code alone.

-- the header of the letter of an id
abbrev pub head_at : List PlainHeader → Id → PlainHeader
head_at heads id = slice_index_or heads id.0 (header_of no_mail)

-- how rows are made, as contracts see it
abbrev pub plain_style : Style → PlainStyle
plain_style s = record { format = s.format.now; to_chars = s.to_chars.now; offset = s.offset }
