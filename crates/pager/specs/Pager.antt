-- A message on pages.
use Rattle.std.specs.Prelude.{◌+◌, ◌-◌, ℕ, Bool, false, not, List, [], ◌++◌, Option, length, take}
use Rattle.std.specs.Prelude.{drop}
use Rattle.std.specs.Prelude.{min, replicate, if◌then◌else◌}
use Rattle.std.specs.List.{flat_map, position_from}
use Rattle.people.specs.Expr.{finds}
use Rattle.pager.specs.Broken.{broken}
use Rattle.pager.specs.Quoted.{unquoted}

-- what a user sees: all lines of the pager, those without quoted lines, whether quoted ones are
-- hidden, the first line of the page, and the rows of the parts
pub record PlainPager : Type 0 where
  pub cols : ℕ
  pub all : List (List ℕ)
  pub unquoted : List (List ℕ)
  pub hidden : Bool
  pub top : ℕ
  pub attachments : List (List ℕ)

-- the lines that have a number
abbrev pub numbered : PlainPager → List (List ℕ)
numbered pager = if pager.hidden then pager.unquoted else pager.all

-- the number of the last line, or 0
abbrev pub last_number : PlainPager → ℕ
last_number pager = length (numbered pager) - 1

-- the pieces of lines
abbrev pub broken_lines : ℕ → List (List ℕ) → List (List ℕ)
broken_lines cols lines = flat_map (broken cols) lines

-- a pager of lines: all are shown, from the first on
abbrev pub opened : ℕ → List (List ℕ) → List (List ℕ) → PlainPager
opened cols lines rows = record {
  cols = cols;
  all = broken_lines cols lines;
  unquoted = broken_lines cols (unquoted lines);
  hidden = false;
  top = 0;
  attachments = rows;
}

-- so many lines from the top on; empty ones stand behind the last
abbrev pub page : ℕ → PlainPager → List (List ℕ)
page rows pager = take rows (drop pager.top (numbered pager) ++ replicate rows [])

-- the pager where its top is this line, or the last where there is none
abbrev pub scrolled : ℕ → PlainPager → PlainPager
scrolled to pager = record pager { top = min to (last_number pager) }

-- the pager where quoted lines are hidden that were shown, or shown that were hidden
abbrev pub toggled : PlainPager → PlainPager
toggled pager = scrolled pager.top (record pager { hidden = not pager.hidden })

-- the number of the first line behind one in which the expression is found
abbrev pub found_behind : List ℕ → ℕ → PlainPager → Option ℕ
found_behind expr after pager =
    position_from (finds expr) (after + 1) (drop (after + 1) (numbered pager))
