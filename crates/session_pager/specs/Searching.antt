-- How an expression is searched for in a text.
use Rattle.std.specs.Prelude.{ℕ, Bool, List, Option, None, Some, is_some, option_and_then}
use Rattle.std.specs.Prelude.{option_map}
use Rattle.std.specs.Option.{option_map_or}
use Rattle.folder_letters.specs.Letters.{Mail}
use Rattle.message_text.specs.Weeding.{PlainWeeding}
use Rattle.pager.specs.Pager.{PlainPager, found_behind, scrolled}
use Rattle.session_pager.specs.Opening.{pager_of}
use Rattle.session_pager.specs.Reader.{PlainReader}
use Rattle.session_pager.specs.Turning.{paged_by}

-- the first line behind the top in which the expression is found
abbrev pub line_found : List ℕ → Option PlainPager → Option ℕ
line_found expr pager = option_and_then (λ p. found_behind expr p.top p) pager

-- the pager where its top is a line, if there is one
abbrev pub at_line : Option ℕ → PlainPager → PlainPager
at_line None pager = pager
at_line (Some line) pager = scrolled line pager

-- the pager where its top is that line
abbrev pub at_found : List ℕ → PlainPager → PlainPager
at_found expr pager = at_line (found_behind expr pager.top pager) pager

-- whether an expression is found in what is shown
abbrev pub is_found : List ℕ → List Mail → ℕ → PlainWeeding → PlainReader → Bool
is_found expr mails cols weeding r =
    is_some (line_found expr (pager_of mails cols weeding r.showing))

-- an expression is kept
abbrev pub with_search : List ℕ → PlainReader → PlainReader
with_search expr r = record r { search = Some expr }

-- it is kept, and searched for
abbrev pub searched_for : List ℕ → List Mail → ℕ → PlainWeeding → PlainReader → PlainReader
searched_for expr mails cols weeding r =
    with_search expr (paged_by (at_found expr) mails cols weeding r)

-- whether the kept expression is found, if there is one
abbrev pub is_found_again : List Mail → ℕ → PlainWeeding → PlainReader → Option Bool
is_found_again mails cols weeding r =
    option_map (λ expr. is_found expr mails cols weeding r) r.search

-- the kept expression is searched for
abbrev pub searched_again : List Mail → ℕ → PlainWeeding → PlainReader → PlainReader
searched_again mails cols weeding r =
    option_map_or (λ expr. paged_by (at_found expr) mails cols weeding r) r.search r
