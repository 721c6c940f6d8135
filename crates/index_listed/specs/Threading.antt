-- How the listed messages follow one another.
use Rattle.std.specs.Prelude.{◌≡◌, ◌<◌, ℕ, Bool, true, false, List, [], ◌∷◌, map, nat_eq, position}
use Rattle.std.specs.Prelude.{Option, Some, None, option_and_then, slice_index_or, unwrap_or}
use Rattle.std.specs.List.{All, IsDistinct}
use Rattle.threads.specs.Message.{PlainMessage, message}
use Rattle.threads.specs.Threads.{PlainThreads, parent, thread_of}
use Rattle.threads.specs.declared.options.ThreadOptions.{ThreadOptions}
use Rattle.mail_base.specs.declared.kind.Id.{Id}
use Rattle.index_listed.specs.Known.{with_text}
use Rattle.index_listed.specs.Listed.{PlainListed, ids}
use Rattle.index_listed.specs.declared.links.Links.{Links}

-- what threads know of a message
abbrev pub thread_message : PlainListed → PlainMessage
thread_message l = message l.id l.mail.order l.mail.key l.mail.received l.header

-- the threads of the messages
abbrev pub threads : ThreadOptions → List PlainListed → PlainThreads
threads options ls =
    record { options = options; messages = map thread_message ls; is_finished = true }

-- where the number of an id stands among some
abbrev pub place_among : List ℕ → Id → Option ℕ
place_among numbers id = position (nat_eq id.0) numbers

-- where the parent of a message stands among the ids of all, if it has one
abbrev pub parent_place : PlainThreads → List ℕ → Id → Option ℕ
parent_place ts all id = option_and_then (λ p. place_among all p.id) (parent ts id)

-- where the root of a message stands
abbrev pub root_place : PlainThreads → List ℕ → Id → ℕ
root_place ts all id = unwrap_or (option_and_then (place_among all) (thread_of ts id)) 0

-- the ids of the messages differ
abbrev pub AreApart : List PlainListed → Type 0
AreApart ls = IsDistinct nat_eq (ids ls)

-- the id is known, where there is one
abbrev pub is_known : (List ℕ → Bool) → Option (List ℕ) → Bool
is_known known None = false
is_known known (Some id) = known id

-- this id is known too, where there is one
abbrev pub known_with : (List ℕ → Bool) → Option (List ℕ) → List ℕ → Bool
known_with known None = known
known_with known (Some id) = with_text known id

-- the links of a message behind others whose ids are known
abbrev pub links_of : PlainThreads → List ℕ → (List ℕ → Bool) → PlainListed → Links
links_of ts all known l = record {
  parent = parent_place ts all l.id;
  root = root_place ts all l.id;
  duplicate = is_known known l.header.message_id;
}

-- the links of messages behind others whose ids are known, one after the other
abbrev pub links_from : PlainThreads → List ℕ → (List ℕ → Bool) → List PlainListed → List Links
links_from ts all known [] = []
links_from ts all known (l ∷ rest) = links_of ts all known l
    ∷ links_from ts all (known_with known l.header.message_id) rest

-- the links of all messages
abbrev pub all_links : PlainThreads → List PlainListed → List Links
all_links ts ls = links_from ts (ids ls) (λ _. false) ls

-- what stands at a place where there is no message
abbrev pub no_links : Links
no_links = record { parent = None; root = 0; duplicate = false }

-- the links of the message at a place
abbrev pub at : List Links → ℕ → Links
at links p = slice_index_or links p no_links

-- For the code alone.

-- threads to which nothing was added
abbrev pub IsOpen : PlainThreads → Type 0
IsOpen ts = (ts.is_finished ≡ false) × (ts.messages ≡ [])

-- the links of a message lead to messages among so many
abbrev pub LeadWithin : ℕ → Links → Type 0
LeadWithin count links =
    (links.root < count) × ((p : ℕ) → links.parent ≡ Some p → p < count)

-- the links of messages lead to messages among so many
abbrev pub AllWithin : ℕ → List Links → Type 0
AllWithin count links = All (LeadWithin count) links
