-- What is kept is what is worked out from scratch.
use Rattle.std.specs.Prelude.{◌≡◌, ◌-◌, ℕ, Bool, List, Option, None, Some, length, min, option_map}
use Rattle.std.specs.Prelude.{option_and_then}
use Rattle.folder_letters.specs.Letters.{Mail}
use Rattle.mail_base.specs.declared.kind.Id.{Id}
use Rattle.message_text.specs.Weeding.{PlainWeeding}
use Rattle.pager.specs.Opening.{opened_part, rows_of}
use Rattle.pager.specs.Pager.{PlainPager, scrolled}
use Rattle.session_pager.specs.Kept.{KeptParts, KeptText}
use Rattle.session_pager.specs.Lines.{empty_lines, rows_page}
use Rattle.session_pager.specs.Opening.{mail_at, opened_at, placed_at, rows_at}
use Rattle.session_pager.specs.Reader.{PlainReader, PlainShowing, Index, Text, Parts}
use Rattle.session_pager.specs.Stepping.{step_met, step_place}
use Rattle.session_pager.specs.declared.showing.Showing.{Showing}
use Rattle.session_pager.specs.declared.showing.Showing.TheVariants as kept
use Rattle.session_pager.specs.declared.stepped.Stepped.{Stepped}
use Rattle.session_pager.specs.declared.stepped.Stepped.TheVariants.{Moved}

-- a reader with the pager of its text, or the rows of its parts
pub record FullReader : Type 0 where
  pub showing : Showing
  pub search : Option (List ℕ)
  pub awaited : Option Id

-- what is shown, without pager and rows
abbrev pub plain_showing : Showing → PlainShowing
plain_showing kept.Index = Index
plain_showing (kept.Text text) = Text text.id text.part text.pager.top text.pager.hidden
plain_showing (kept.Parts parts) = Parts parts.id parts.cursor

-- a reader without them
abbrev pub plain_reader : FullReader → PlainReader
plain_reader r = record {
  showing = plain_showing r.showing;
  search = r.search;
  awaited = r.awaited;
}

-- pager and rows are those that are worked out from scratch
abbrev pub IsShown : List Mail → ℕ → PlainWeeding → Showing → Type 0
IsShown mails cols weeding kept.Index = Unit {0}
IsShown mails cols weeding (kept.Text text) = Some text.pager
    ≡ placed_at text.pager.top text.pager.hidden (opened_at mails cols weeding text.id text.part)
IsShown mails cols weeding (kept.Parts parts) = parts.rows ≡ rows_at mails parts.id

-- the same of a reader
abbrev pub IsRead : List Mail → ℕ → PlainWeeding → FullReader → Type 0
IsRead mails cols weeding r = IsShown mails cols weeding r.showing

-- a reader as it is said, worked out from scratch
pub record Reads (mails : List Mail) (cols : ℕ) (weeding : PlainWeeding) (said : PlainReader)
    (r : FullReader) : Type 0 where
  pub is_read : IsRead mails cols weeding r
  pub same : plain_reader r ≡ said

-- so it is behind a step, if it was worked out from scratch before
abbrev pub ReadsOn : List Mail → ℕ → PlainWeeding → (PlainReader → PlainReader) → FullReader
    → FullReader
    → Type 0
ReadsOn mails cols weeding act old new =
    IsRead mails cols weeding old → Reads mails cols weeding (act (plain_reader old)) new

-- so it is behind a step, whatever it is worked out from
abbrev pub Becomes : (List Mail → ℕ → PlainWeeding → PlainReader → PlainReader) → FullReader
    → FullReader
    → Type 0
Becomes act old new = (mails : List Mail) (cols : ℕ) (weeding : PlainWeeding)
    → ReadsOn mails cols weeding (act mails cols weeding) old new

-- a value that is told of a reader, whatever it is worked out from
abbrev pub Tells : {A : Type 0} → (List Mail → ℕ → PlainWeeding → PlainReader → A) → FullReader
    → A
    → Type 0
Tells told r value = (mails : List Mail) (cols : ℕ) (weeding : PlainWeeding)
    → IsRead mails cols weeding r → value ≡ told mails cols weeding (plain_reader r)

-- For the code alone.

-- the pager of a text
abbrev pub pager_in : Showing → Option PlainPager
pager_in (kept.Text text) = Some text.pager
pager_in _ = None

-- a text with another pager
abbrev pub with_pager : Option PlainPager → Showing → Showing
with_pager (Some pager) (kept.Text text) = kept.Text (record text { pager = pager })
with_pager _ showing = showing

-- what is done to the pager of a text
abbrev pub paged_in : (PlainPager → PlainPager) → Showing → Showing
paged_in act showing = with_pager (option_map act (pager_in showing)) showing

-- a text with a pager that was opened anew; its top is cut to the last line
abbrev pub remade_with : KeptText → PlainPager → KeptText
remade_with text pager = record text {
  pager = scrolled text.pager.top (record pager { hidden = text.pager.hidden });
}

-- a text of which the pager is made anew
abbrev pub text_remade : List Mail → ℕ → PlainWeeding → KeptText → Option KeptText
text_remade mails cols weeding text =
    option_map (remade_with text) (opened_at mails cols weeding text.id text.part)

-- the parts of a letter, where the cursor is cut to the last row
abbrev pub parts_with : Id → ℕ → Mail → KeptParts
parts_with id cursor mail = record {
  id = id;
  cursor = min cursor (length (rows_of mail) - 1);
  rows = rows_of mail;
}

-- the parts of a message
abbrev pub parts_at : List Mail → Id → ℕ → Option KeptParts
parts_at mails id cursor = option_map (parts_with id cursor) (mail_at mails id)

-- a text from its first line on, of a pager that was opened
abbrev pub text_with : Id → Option ℕ → PlainPager → KeptText
text_with id part pager = record { id = id; part = part; pager = pager }

-- the part on which the cursor stands
abbrev pub part_of : List Mail → ℕ → KeptParts → Option KeptText
part_of mails cols parts = option_map (text_with parts.id (Some parts.cursor))
    (option_and_then (opened_part cols parts.cursor) (mail_at mails parts.id))

-- that part, where parts are shown
abbrev pub part_in : List Mail → ℕ → Showing → Option KeptText
part_in mails cols (kept.Parts parts) = part_of mails cols parts
part_in mails cols _ = None

-- a text, if there is one
abbrev pub text_or_index : Option KeptText → Showing
text_or_index None = kept.Index
text_or_index (Some text) = kept.Text text

-- a list of parts, if there is one
abbrev pub parts_or_index : Option KeptParts → Showing
parts_or_index None = kept.Index
parts_or_index (Some parts) = kept.Parts parts

-- what a step meets in what is kept
abbrev pub step_in : Bool → Showing → Stepped
step_in down (kept.Parts parts) = step_met down (length parts.rows) parts.cursor
step_in down _ = Moved

-- what is kept behind a step
abbrev pub stepped_in : Bool → Showing → Showing
stepped_in down (kept.Parts parts) = kept.Parts (record parts {
  cursor = step_place down (length parts.rows) parts.cursor;
})
stepped_in down showing = showing

-- so many lines of the rows that are kept
abbrev pub rows_in : ℕ → ℕ → Showing → List (List ℕ)
rows_in size cols (kept.Parts parts) = rows_page size cols parts.cursor parts.rows
rows_in size cols _ = empty_lines size

-- what is shown as it is said, worked out from scratch
pub record Shows (mails : List Mail) (cols : ℕ) (weeding : PlainWeeding) (said : PlainShowing)
    (showing : Showing) : Type 0 where
  pub is_shown : IsShown mails cols weeding showing
  pub same : plain_showing showing ≡ said
