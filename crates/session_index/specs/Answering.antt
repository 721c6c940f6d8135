-- What answers to prompts do.
use Rattle.std.specs.Prelude.{◌==◌, ℕ, List, Option, Some}
use Rattle.folder_letters.specs.Letters.{Mail}
use Rattle.mail_base.specs.declared.kind.Id.{Id}
use Rattle.index_view.specs.Answers.{picked}
use Rattle.patterns_match.specs.Pattern.{PlainPattern}
use Rattle.index_view.specs.View.{messages_over}
use Rattle.session_index.specs.Desk.{PlainDesk}
use Rattle.session_index.specs.Effects.{done_to, run_effects, search_way, went, with_index}
use Rattle.session_index.specs.Index.{PlainIndex, answers_of, given}
use Rattle.session_index.specs.Syncing.{leave_answered, purge_answered}
use Rattle.index_items.specs.declared.act.Act.{Act}
use Rattle.index_items.specs.declared.act.Act.TheVariants.{Set, Clear}
use Rattle.index_items.specs.declared.act.Mark.TheVariants as mark
use Rattle.prompts.specs.declared.asking.Asking.{Asking}
use Rattle.prompts.specs.declared.asking.Asking.TheVariants as asking
use Rattle.index_functions.specs.Choosing.{chosen_effects, mark_of}
use Rattle.index_functions.specs.declared.rule.Rule.{Rule}

-- the messages that are seen and satisfy a pattern
abbrev pub matching : List Mail → PlainPattern → PlainIndex → List Id
matching mails pattern i =
    picked i.facts.people pattern (messages_over mails i.facts) (answers_of mails i)

-- this is done to all that a pattern finds
abbrev pub done_matching : List Mail → Act → PlainPattern → PlainDesk → PlainDesk
done_matching mails act pattern d = done_to mails act (matching mails pattern d.index) d

-- another limit, or none
abbrev pub limited : List Mail → Option PlainPattern → PlainDesk → PlainDesk
limited mails limit d =
    with_index (given mails (record d.index.facts { limit = limit }) d.index) d

-- a search is kept, and the cursor goes where it leads
abbrev pub searched_for : List Mail → PlainPattern → PlainDesk → PlainDesk
searched_for mails pattern d =
    went mails (search_way mails pattern d) (record d { search = Some pattern })

-- a pattern is answered to a prompt
abbrev pub answered : List Mail → Asking → PlainPattern → PlainDesk → PlainDesk
answered mails asking.Delete pattern d = done_matching mails (Set mark.Deleted) pattern d
answered mails asking.Undelete pattern d = done_matching mails (Clear mark.Deleted) pattern d
answered mails asking.Tag pattern d = done_matching mails (Set mark.Tagged) pattern d
answered mails asking.Untag pattern d = done_matching mails (Clear mark.Tagged) pattern d
answered mails asking.Limit pattern d = limited mails (Some pattern) d
answered mails asking.Search pattern d = searched_for mails pattern d
answered mails _ pattern d = d

-- a key is answered to a prompt of one key
abbrev pub chosen : Rule → List Mail → Asking → ℕ → PlainDesk → PlainDesk
chosen rule mails (asking.Purge count says quits) key d =
    purge_answered rule mails (key == 121) quits d
chosen rule mails (asking.Quit says) key d = leave_answered rule mails (key == 121) d
chosen rule mails asking key d =
    run_effects rule mails (chosen_effects asking (mark_of key)) d
