-- Pages of messages that are seen.
use Rattle.std.specs.Prelude.{◌+◌, ◌-◌, ◌*◌, ◌/◌, ℕ, List, Option, None, nat_lt, slice_get}
use Rattle.std.specs.Prelude.{if◌then◌else◌}
use Rattle.mail_base.specs.declared.kind.Id.{Id}

-- the first message of the page before that of a place, where pages have this size
abbrev pub page_before : ℕ → ℕ → List Id → Option Id
page_before size p ids =
    if nat_lt p size then None else slice_get ids (p / size * size - size)

-- the first message of the next page
abbrev pub page_behind : ℕ → ℕ → List Id → Option Id
page_behind size p ids = slice_get ids (p / size * size + size)
