-- How the page of a text is turned.
use Rattle.std.specs.Prelude.{◌+◌, ◌-◌, ◌^◌, ℕ, List, Option, Some, min, option_map}
use Rattle.folder_letters.specs.Letters.{Mail}
use Rattle.message_text.specs.Weeding.{PlainWeeding}
use Rattle.pager.specs.Pager.{PlainPager, last_number, scrolled, toggled}
use Rattle.session_pager.specs.Opening.{pager_of}
use Rattle.session_pager.specs.Reader.{PlainReader, PlainShowing, Text, with_showing}
use Rattle.session_pager.specs.declared.turn.Turn.{Turn}
use Rattle.session_pager.specs.declared.turn.Turn.TheVariants as turn

-- a number of a line, which has 64 bits
abbrev pub line_number : ℕ → ℕ
line_number number = min number (2 ^ 64 - 1)

-- so many lines on
abbrev pub scrolled_on : ℕ → PlainPager → PlainPager
scrolled_on count pager = scrolled (line_number (pager.top + count)) pager

-- so many lines back
abbrev pub scrolled_back : ℕ → PlainPager → PlainPager
scrolled_back count pager = scrolled (pager.top - count) pager

-- where the last page of so many lines begins
abbrev pub last_page : ℕ → PlainPager → ℕ
last_page size pager = line_number (last_number pager) - (size - 1)

-- the page is turned, where a page has so many lines
abbrev pub turned_pager : Turn → ℕ → PlainPager → PlainPager
turned_pager turn.NextLine size pager = scrolled_on 1 pager
turned_pager turn.PreviousLine size pager = scrolled_back 1 pager
turned_pager turn.NextPage size pager = scrolled_on size pager
turned_pager turn.PreviousPage size pager = scrolled_back size pager
turned_pager turn.Top size pager = scrolled 0 pager
turned_pager turn.Bottom size pager = scrolled (last_page size pager) pager
turned_pager turn.ToggleQuoted size pager = toggled pager

-- a text with the top of this pager, and with the quoted lines that it hides
abbrev pub with_place : Option PlainPager → PlainShowing → PlainShowing
with_place (Some pager) (Text id part top hidden) = Text id part pager.top pager.hidden
with_place _ showing = showing

-- what is done to the pager of a text
abbrev pub paged_by : (PlainPager → PlainPager) → List Mail → ℕ → PlainWeeding → PlainReader
    → PlainReader
paged_by act mails cols weeding r =
    with_showing (with_place (option_map act (pager_of mails cols weeding r.showing)) r.showing) r

-- the page is turned in a reader
abbrev pub page_turned : Turn → ℕ → List Mail → ℕ → PlainWeeding → PlainReader → PlainReader
page_turned turn size mails cols weeding r = paged_by (turned_pager turn size) mails cols weeding r
