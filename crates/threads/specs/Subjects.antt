-- Parents by subject, for messages that have none by the ids of headers.
use Rattle.std.specs.Prelude.{◌==◌, ◌&&◌, ◌||◌, ℕ, Bool, not, List, length, map, Option, None}
use Rattle.std.specs.Prelude.{is_none}
use Rattle.std.specs.Prelude.{option_map, slice_index_or, if◌then◌else◌}
use Rattle.std.specs.List.{range_with_len}
use Rattle.std.specs.Option.{option_or}
use Rattle.std.specs.Str.{bytes_eq}
use Rattle.threads.specs.Cycles.{reference_parents}
use Rattle.threads.specs.Firsts.{first_of}
use Rattle.threads.specs.Links.{other_than, step}
use Rattle.threads.specs.Message.{PlainMessage, at, is_sent_before}
use Rattle.threads.specs.declared.options.Link.TheVariants.{Subject}
use Rattle.threads.specs.declared.options.ThreadOptions.{ThreadOptions}
use Rattle.threads.specs.declared.step.Step.{Step}

-- the message at a place has no parent so far, and this base subject
abbrev pub begins_subject : List PlainMessage → List (Option Step) → List ℕ → ℕ → Bool
begins_subject messages parents subject place =
    is_none (slice_index_or parents place None)
    && bytes_eq subject (at messages place).base_subject

-- the first sent of the messages without a parent that have this base subject
abbrev pub first_with : List PlainMessage → List (Option Step) → List ℕ → Option ℕ
first_with messages parents subject =
    first_of (is_sent_before messages) (begins_subject messages parents subject)
    (length messages)

-- a message is linked by its subject: it has one, and begins with a reply prefix where that is
-- asked for
abbrev pub may_follow : ThreadOptions → PlainMessage → Bool
may_follow options m =
    not options.strict && (not (length m.base_subject == 0)
    && (not options.reply_only || m.reply_prefix))

-- the parent by subject
abbrev pub followed : (List ℕ → Option ℕ) → ThreadOptions → PlainMessage → ℕ → Option Step
followed find options m place =
    if may_follow options m
    then option_map (step Subject) (other_than place (find m.base_subject))
    else None

-- a message's parent, given those by the ids of headers
abbrev pub parent_of : ThreadOptions → List PlainMessage → List (Option Step) → ℕ → Option Step
parent_of options messages parents place = option_or (slice_index_or parents place None)
    (followed (first_with messages parents) options (at messages place) place)

-- each message's parent, by the ids of headers or by its subject
abbrev pub with_subjects : ThreadOptions → List PlainMessage → List (Option Step)
    → List (Option Step)
with_subjects options messages parents =
    map (parent_of options messages parents) (range_with_len 0 (length messages))

-- each message's parent
abbrev pub parents : ThreadOptions → List PlainMessage → List (Option Step)
parents options messages =
    with_subjects options messages (reference_parents options messages)
