-- The page of what is seen that holds the cursor.
use Rattle.std.specs.Prelude.{◌*◌, ◌/◌, ◌==◌, ℕ, false, List, Option, codes, drop, option_and_then}
use Rattle.std.specs.Prelude.{take, unwrap_or, if◌then◌else◌}
use Rattle.std.specs.Option.{option_map_or}
use Rattle.mail_base.specs.declared.kind.Id.{Id}
use Rattle.index_listed.specs.Places.{place_in}

-- the mark of the cursor's message, and of all others
abbrev pub mark : Option Id → Id → List ℕ
mark cursor id =
    if option_map_or (λ c. c.0 == id.0) cursor false then codes "->" else codes "  "

-- where a cursor stands among what is seen; at its front where it stands nowhere
abbrev pub cursor_place : List Id → Option Id → ℕ
cursor_place ids cursor = unwrap_or (option_and_then (place_in ids) cursor) 0

-- where the page of so many rows begins that holds the cursor
abbrev pub page_start : ℕ → List Id → Option Id → ℕ
page_start rows ids cursor = cursor_place ids cursor / rows * rows

-- the messages of that page
abbrev pub page : ℕ → List Id → Option Id → List Id
page rows ids cursor = take rows (drop (page_start rows ids cursor) ids)
