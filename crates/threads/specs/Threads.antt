-- Threads of messages: parents and roots by ids.
use Rattle.std.specs.Prelude.{ℕ, zero, suc, Bool, List, length, Option, Some, None, position}
use Rattle.std.specs.Prelude.{nat_eq, option_and_then, option_map, slice_index_or}
use Rattle.mail_base.specs.declared.kind.Id.{Id}
use Rattle.threads.specs.Links.{target}
use Rattle.threads.specs.Message.{PlainMessage, at, numbers}
use Rattle.threads.specs.Subjects.{parents}
use Rattle.threads.specs.declared.options.Parent.{Parent}
use Rattle.threads.specs.declared.options.ThreadOptions.{ThreadOptions}
use Rattle.threads.specs.declared.step.Step.{Step}

-- threads: their options, the messages that were added, and whether their parents are worked out
pub record PlainThreads : Type 0 where
  pub options : ThreadOptions
  pub messages : List PlainMessage
  pub is_finished : Bool

-- the place of the message with this id
abbrev pub place_of : List PlainMessage → Id → Option ℕ
place_of messages id = position (nat_eq id.0) (numbers messages)

-- where a link leads on, or the place itself
abbrev pub onward : (ℕ → ℕ) → ℕ → Option ℕ → ℕ
onward more place None = place
onward more place (Some next) = more next

-- where at most so many links lead from a place
abbrev pub end_from : List (Option Step) → ℕ → ℕ → ℕ
end_from links zero place = place
end_from links (suc n) place = onward (end_from links n) place (target links place)

-- the root above a place; no way to it has more steps than there are places
abbrev pub root_of : List (Option Step) → ℕ → ℕ
root_of parents place = end_from parents (length parents) place

-- a parent by its id
abbrev pub parent_by : List PlainMessage → Step → Parent
parent_by messages s = record { id = (at messages s.place).id; link = s.link }

-- the parent of the message with this id
abbrev pub parent : PlainThreads → Id → Option Parent
parent threads id = option_and_then (λ place. option_map (parent_by threads.messages)
    (slice_index_or (parents threads.options threads.messages) place None))
    (place_of threads.messages id)

-- the root of the message with this id
abbrev pub thread_of : PlainThreads → Id → Option Id
thread_of threads id = option_map (λ place. (at threads.messages
    (root_of (parents threads.options threads.messages) place)).id)
    (place_of threads.messages id)
