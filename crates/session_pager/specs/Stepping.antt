-- How the cursor steps in the list of parts.
use Rattle.std.specs.Prelude.{◌+◌, ◌-◌, ◌==◌, ℕ, Bool, List, length, nat_lt, if◌then◌else◌}
use Rattle.folder_letters.specs.Letters.{Mail}
use Rattle.message_text.specs.Weeding.{PlainWeeding}
use Rattle.session_pager.specs.Opening.{rows_at}
use Rattle.session_pager.specs.Reader.{Parts, PlainReader, PlainShowing, with_showing}
use Rattle.session_pager.specs.declared.stepped.Stepped.{Stepped}
use Rattle.session_pager.specs.declared.stepped.Stepped.TheVariants.{Moved, First, Last}

-- what a step down meets, where there are so many parts
abbrev pub met_below : ℕ → ℕ → Stepped
met_below count cursor = if nat_lt cursor (count - 1) then Moved else Last

-- what a step up meets
abbrev pub met_above : ℕ → Stepped
met_above cursor = if cursor == 0 then First else Moved

-- what a step meets
abbrev pub step_met : Bool → ℕ → ℕ → Stepped
step_met down count cursor =
    if count == 0 then Moved
    else (if down then met_below count cursor else met_above cursor)

-- the cursor one down
abbrev pub place_below : ℕ → ℕ → ℕ
place_below count cursor = if nat_lt cursor (count - 1) then cursor + 1 else cursor

-- where the cursor stands behind a step
abbrev pub step_place : Bool → ℕ → ℕ → ℕ
step_place down count cursor =
    if count == 0 then cursor
    else (if down then place_below count cursor else cursor - 1)

-- what a step meets in what is shown
abbrev pub shown_step : Bool → List Mail → PlainShowing → Stepped
shown_step down mails (Parts id cursor) = step_met down (length (rows_at mails id)) cursor
shown_step down mails _ = Moved

-- what is shown behind a step
abbrev pub shown_behind : Bool → List Mail → PlainShowing → PlainShowing
shown_behind down mails (Parts id cursor) =
    Parts id (step_place down (length (rows_at mails id)) cursor)
shown_behind down mails showing = showing

-- what a step meets in a reader
abbrev pub step_of : Bool → List Mail → ℕ → PlainWeeding → PlainReader → Stepped
step_of down mails cols weeding r = shown_step down mails r.showing

-- the cursor steps in a reader
abbrev pub cursor_stepped : Bool → List Mail → ℕ → PlainWeeding → PlainReader → PlainReader
cursor_stepped down mails cols weeding r = with_showing (shown_behind down mails r.showing) r
