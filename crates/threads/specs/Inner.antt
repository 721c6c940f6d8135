-- What holds of the tables while they are made.
use Rattle.std.specs.Prelude.{◌≡◌, ◌<◌, ℕ, Bool, List, Option, Some}
use Rattle.std.specs.Borrow.{Bor}
use Rattle.threads.specs.Firsts.{first_of, place_in}
use Rattle.threads.specs.Links.{has_id}
use Rattle.threads.specs.Message.{PlainMessage, at, is_listed_before, is_sent_before}
use Rattle.threads.specs.Message.{plain_messages}
use Rattle.threads.specs.Subjects.{begins_subject}
use Rattle.threads.specs.declared.message.Message.{Message}
use Rattle.threads.specs.declared.message.Order.{Order}
use Rattle.threads.specs.declared.message.Order.TheVariants.{Listed, Sent}
use Rattle.threads.specs.declared.step.Step.{Step}

-- a table has the first holder among the messages below a place
abbrev pub HoldersBelow : List Message → List (Bor (List ℕ) × ℕ) → ℕ → Type 0
HoldersBelow messages table place =
    (id : List ℕ) → place_in table id
    ≡ first_of (is_listed_before (plain_messages messages)) (has_id (plain_messages messages) id)
    place

-- each message below a place is the first holder of its id
abbrev pub HoldOwn : List Message → List (Bor (List ℕ) × ℕ) → ℕ → Type 0
HoldOwn messages table place =
    (p : ℕ) (id : List ℕ) → p < place → (at (plain_messages messages) p).message_id ≡ Some id
    → place_in table id ≡ Some p

-- a table has the first with a subject among those without a parent
abbrev pub SubjectsBelow : List Message → List (Option Step) → List (Bor (List ℕ) × ℕ) → ℕ → Type 0
SubjectsBelow messages parents table place =
    (subject : List ℕ) → place_in table subject
    ≡ first_of (is_sent_before (plain_messages messages))
    (begins_subject (plain_messages messages) parents subject) place

-- the order in which the first is looked for
abbrev pub is_before : Order → List PlainMessage → ℕ → ℕ → Bool
is_before Listed = is_listed_before
is_before Sent = is_sent_before

-- the places of a table stand below a number
abbrev pub IsBelow : List (Bor (List ℕ) × ℕ) → ℕ → Type 0
IsBelow table n = (text : List ℕ) (first : ℕ) → place_in table text ≡ Some first → first < n
