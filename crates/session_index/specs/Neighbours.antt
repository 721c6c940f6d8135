-- The threads of the messages that are seen, in the order of their first messages.
use Rattle.std.specs.Prelude.{◌-◌, ◌+◌, ◌++◌, ◌∷◌, [], ℕ, Bool, List, Option, None, find}
use Rattle.std.specs.Prelude.{nat_eq, nat_lt, option_and_then, position, slice_get}
use Rattle.std.specs.Prelude.{if◌then◌else◌}
use Rattle.std.specs.List.{list_any}
use Rattle.std.specs.Option.{option_map_or}
use Rattle.mail_base.specs.declared.kind.Id.{Id}
use Rattle.index_view.specs.Answers.{PlainAnswers, thread_of}

-- the number of the root of a message's thread
abbrev pub root_of : PlainAnswers → Id → ℕ
root_of a id = option_map_or (λ r. r.0) (thread_of a id) 0

-- numbers with one more, each once
abbrev pub with_number : List ℕ → ℕ → List ℕ
with_number known n = if list_any (nat_eq n) known then known else known ++ n ∷ []

-- roots that are known, and those of these messages
abbrev pub roots_behind : (Id → ℕ) → List ℕ → List Id → List ℕ
roots_behind root known [] = known
roots_behind root known (id ∷ ids) = roots_behind root (with_number known (root id)) ids

-- the roots of messages, each once, in the order of their first messages
abbrev pub roots_of : (Id → ℕ) → List Id → List ℕ
roots_of root ids = roots_behind root [] ids

-- the number behind or before another one
abbrev pub number_beside : Bool → List ℕ → ℕ → Option ℕ
number_beside back all p =
    if back then (if nat_lt 0 p then slice_get all (p - 1) else None) else slice_get all (p + 1)

-- the root before or behind another
abbrev pub root_beside : Bool → List ℕ → ℕ → Option ℕ
root_beside back all n = option_and_then (number_beside back all) (position (nat_eq n) all)

-- the first message of a thread
abbrev pub head_of : (Id → ℕ) → List Id → ℕ → Option Id
head_of root ids n = find (λ id. nat_eq n (root id)) ids

-- the first message of the thread behind that of another message, or of the one before it
abbrev pub thread_beside : Bool → (Id → ℕ) → List Id → Id → Option Id
thread_beside back root ids id =
    option_and_then (head_of root ids) (root_beside back (roots_of root ids) (root id))
