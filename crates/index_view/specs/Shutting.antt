-- How all threads are shut or opened.
use Rattle.std.specs.Prelude.{Bool, false, List, map, nat_eq, if◌then◌else◌}
use Rattle.std.specs.Option.{option_map_or}
use Rattle.mail_base.specs.declared.kind.Id.{Id}
use Rattle.index_items.specs.Alteration.{shut}
use Rattle.index_items.specs.Items.{PlainItem}
use Rattle.index_view.specs.Answers.{PlainAnswers, thread_of}

-- the message with an id is the root of its thread
abbrev pub is_root : PlainAnswers → Id → Bool
is_root a id = option_map_or (λ root. nat_eq root.0 id.0) (thread_of a id) false

-- a message, whose thread is shut or open now where it is the root
abbrev pub shut_where : Bool → PlainAnswers → PlainItem → PlainItem
shut_where mark a i = if is_root a i.id then shut mark i else i

-- the messages, with all threads shut or open
abbrev pub all_shut : Bool → PlainAnswers → List PlainItem → List PlainItem
all_shut mark a items = map (shut_where mark a) items
