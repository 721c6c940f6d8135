-- Whom a message answers by the ids of headers, with cycles left as they are.
use Rattle.std.specs.Prelude.{◌==◌, ℕ, Bool, false, List, [], ◌∷◌, length, Option, Some, None, map}
use Rattle.std.specs.Prelude.{option_and_then, option_map, slice_index_or, if◌then◌else◌}
use Rattle.std.specs.List.{range_with_len}
use Rattle.std.specs.Option.{option_map_or, option_or}
use Rattle.std.specs.Str.{bytes_eq}
use Rattle.threads.specs.Firsts.{first_of}
use Rattle.threads.specs.Message.{PlainMessage, at, is_listed_before}
use Rattle.threads.specs.declared.options.Link.{Link}
use Rattle.threads.specs.declared.options.Link.TheVariants.{Reference, Duplicate}
use Rattle.threads.specs.declared.options.ThreadOptions.{ThreadOptions}
use Rattle.threads.specs.declared.step.Step.{Step}

-- the message at a place has this id
abbrev pub has_id : List PlainMessage → List ℕ → ℕ → Bool
has_id messages id place = option_map_or (bytes_eq id) (at messages place).message_id false

-- the first listed message with this id
abbrev pub holder : List PlainMessage → List ℕ → Option ℕ
holder messages id = first_of (is_listed_before messages) (has_id messages id) (length messages)

-- a place, unless it is this one
abbrev pub other_than : ℕ → Option ℕ → Option ℕ
other_than place None = None
other_than place (Some other) = if other == place then None else Some other

-- the holder of the first of these ids that another message holds
abbrev pub referred : (List ℕ → Option ℕ) → ℕ → List (List ℕ) → Option ℕ
referred find place [] = None
referred find place (id ∷ ids) = option_or (other_than place (find id)) (referred find place ids)

-- another message that holds the message's own id
abbrev pub duplicated : (List ℕ → Option ℕ) → ℕ → Option (List ℕ) → Option ℕ
duplicated find place own = option_and_then (λ id. other_than place (find id)) own

-- a step to a place by a link
abbrev pub step : Link → ℕ → Step
step link place = record { place = place; link = link }

-- whom a message answers: who holds its own id, where duplicates count, and else whom it refers to
abbrev pub link_by : (List ℕ → Option ℕ) → ThreadOptions → PlainMessage → ℕ → Option Step
link_by find options m place = option_or
    (if options.duplicates then option_map (step Duplicate) (duplicated find place m.message_id)
    else None)
    (option_map (step Reference) (referred find place m.candidates))

-- what a message answers by ids
abbrev pub link_of : ThreadOptions → List PlainMessage → ℕ → Option Step
link_of options messages place = link_by (holder messages) options (at messages place) place

-- whom each message answers
abbrev pub links : ThreadOptions → List PlainMessage → List (Option Step)
links options messages = map (link_of options messages) (range_with_len 0 (length messages))

-- where the link at a place leads
abbrev pub target : List (Option Step) → ℕ → Option ℕ
target links place = option_map (λ s. s.place) (slice_index_or links place None)
