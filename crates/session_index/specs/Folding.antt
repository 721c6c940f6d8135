-- How threads are shut and opened.
use Rattle.std.specs.Prelude.{Bool, not, List, Option, None, Some, find, is_some}
use Rattle.folder_letters.specs.Letters.{Mail}
use Rattle.mail_base.specs.declared.kind.Id.{Id}
use Rattle.index_items.specs.Alteration.{alter_at, shut}
use Rattle.index_view.specs.Answers.{PlainAnswers, row, thread_of}
use Rattle.index_view.specs.Shutting.{all_shut}
use Rattle.patterns_match.specs.declared.row.Row.{Row}
use Rattle.session_index.specs.Index.{PlainIndex, answers_of, folded}
use Rattle.session_index.specs.Shown.{shows}
use Rattle.session_index.specs.declared.sought.Sought.TheVariants.{Collapsed}

-- the thread of a root is shut or opened
abbrev pub folded_to : List Mail → Id → Bool → PlainIndex → PlainIndex
folded_to mails root mark i =
    folded mails (record i.facts { items = alter_at root (shut mark) i.facts.items }) i

-- the thread of a root is shut or opened, by its row
abbrev pub folded_by : List Mail → Option Id → Option Row → PlainIndex → PlainIndex
folded_by mails (Some root) (Some r) i = folded_to mails root (not r.collapsed) i
folded_by mails _ _ i = i

-- the thread of a message is shut, or opened where it is shut
abbrev pub folded_at : List Mail → Id → PlainIndex → PlainIndex
folded_at mails id i =
    folded_by mails (thread_of (answers_of mails i) id) (row (answers_of mails i) id) i

-- the thread of a message is shut or opened
abbrev pub folded_from : List Mail → Option Id → PlainIndex → PlainIndex
folded_from mails None i = i
folded_from mails (Some id) i = folded_at mails id i

-- the same of the message on which the cursor stands
abbrev pub thread_folded : List Mail → PlainIndex → PlainIndex
thread_folded mails i = folded_from mails i.cursor i

-- a thread is shut
abbrev pub is_some_shut : PlainAnswers → Bool
is_some_shut a = is_some (find (shows Collapsed a) a.sight.order)

-- all threads are shut, or opened where one is shut
abbrev pub all_folded : List Mail → PlainIndex → PlainIndex
all_folded mails i = folded mails (record i.facts {
  items = all_shut (not (is_some_shut (answers_of mails i))) (answers_of mails i) i.facts.items;
}) i
