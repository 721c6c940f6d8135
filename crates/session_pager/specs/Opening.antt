-- What is shown, worked out from scratch, and how it is opened.
use Rattle.std.specs.Prelude.{◌-◌, ℕ, Bool, false, List, [], Option, None, Some, is_some, length}
use Rattle.std.specs.Prelude.{min, option_and_then, option_map, slice_get, if◌then◌else◌}
use Rattle.std.specs.Option.{option_map_or}
use Rattle.folder_letters.specs.Letters.{Mail}
use Rattle.mail_base.specs.declared.kind.Id.{Id}
use Rattle.message_text.specs.Message.{part_lines}
use Rattle.message_text.specs.Weeding.{PlainWeeding}
use Rattle.pager.specs.Opening.{opened_message, opened_part, rows_of, text_of}
use Rattle.pager.specs.Pager.{PlainPager, last_number}
use Rattle.session_pager.specs.Reader.{PlainReader, PlainShowing, with_showing}
use Rattle.session_pager.specs.Reader.{Index, Text, Parts}

-- the letter of an id
abbrev pub mail_at : List Mail → Id → Option Mail
mail_at mails id = slice_get mails id.0

-- the pager of a message, or of one of its parts; none where there is no such letter or part
abbrev pub opened_at : List Mail → ℕ → PlainWeeding → Id → Option ℕ → Option PlainPager
opened_at mails cols weeding id None =
    option_map (opened_message cols weeding) (mail_at mails id)
opened_at mails cols weeding id (Some part) =
    option_and_then (opened_part cols part) (mail_at mails id)

-- a pager at this top, where quoted lines are hidden or not
abbrev pub placed_at : ℕ → Bool → Option PlainPager → Option PlainPager
placed_at top hidden pager =
    option_map (λ (o : PlainPager). record o { top = top; hidden = hidden }) pager

-- the pager of what is shown
abbrev pub pager_of : List Mail → ℕ → PlainWeeding → PlainShowing → Option PlainPager
pager_of mails cols weeding (Text id part top hidden) =
    placed_at top hidden (opened_at mails cols weeding id part)
pager_of mails cols weeding _ = None

-- the rows of the parts of a message
abbrev pub rows_at : List Mail → Id → List (List ℕ)
rows_at mails id = option_map_or rows_of (mail_at mails id) []

-- a message is shown from its first line on, if there is such a letter
abbrev pub message_opened : List Mail → Id → PlainReader → PlainReader
message_opened mails id r =
    if is_some (mail_at mails id) then with_showing (Text id None 0 false) r else r

-- the list of its parts is shown
abbrev pub parts_listed : List Mail → Id → PlainReader → PlainReader
parts_listed mails id r =
    if is_some (mail_at mails id) then with_showing (Parts id 0) r else r

-- the message has such a part
abbrev pub has_part : List Mail → Id → ℕ → Bool
has_part mails id part =
    option_map_or (λ mail. is_some (part_lines (text_of mail) part)) (mail_at mails id) false

-- the part on which the cursor stands, in place of the list
abbrev pub part_shown : List Mail → PlainShowing → PlainShowing
part_shown mails (Parts id cursor) =
    if has_part mails id cursor then Text id (Some cursor) 0 false else Parts id cursor
part_shown mails showing = showing

-- that part is shown from its first line on
abbrev pub part_opened : List Mail → PlainReader → PlainReader
part_opened mails r = with_showing (part_shown mails r.showing) r

-- a text of which the pager is made anew; its top is cut to the last line
abbrev pub text_again : Option PlainPager → Id → Option ℕ → ℕ → Bool → PlainShowing
text_again None id part top hidden = Index
text_again (Some pager) id part top hidden =
    Text id part (min top (last_number (record pager { hidden = hidden }))) hidden

-- what is shown is made anew; the index comes back where there is nothing to show
abbrev pub shown_again : List Mail → ℕ → PlainWeeding → PlainShowing → PlainShowing
shown_again mails cols weeding Index = Index
shown_again mails cols weeding (Text id part top hidden) =
    text_again (opened_at mails cols weeding id part) id part top hidden
shown_again mails cols weeding (Parts id cursor) =
    if is_some (mail_at mails id) then Parts id (min cursor (length (rows_at mails id) - 1))
    else Index

-- a reader is made anew
abbrev pub reader_again : List Mail → ℕ → PlainWeeding → PlainReader → PlainReader
reader_again mails cols weeding r =
    with_showing (shown_again mails cols weeding r.showing) r
