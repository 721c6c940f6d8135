-- What a listing that changed, and other options, make of the index.
use Rattle.std.specs.Prelude.{◌-◌, ◌++◌, [], List, Option, None, Some, find, length}
use Rattle.std.specs.Prelude.{slice_get}
use Rattle.std.specs.Option.{option_or}
use Rattle.folder_letters.specs.Letters.{Mail}
use Rattle.folder_letters.specs.declared.listing.Found.{Found}
use Rattle.folder_letters.specs.declared.listing.Listed.{Listed}
use Rattle.mail_base.specs.declared.kind.Id.{Id}
use Rattle.mail_base.specs.Ordered.{in_order_by}
use Rattle.index_items.specs.Found.{came_items, is_listed_before, kept_items}
use Rattle.index_items.specs.Items.{PlainItem}
use Rattle.index_order.specs.declared.view_options.ViewOptions.{ViewOptions}
use Rattle.index_view.specs.Answers.{PlainAnswers}
use Rattle.session_index.specs.Desk.{PlainDesk}
use Rattle.index_functions.specs.Finding.{found_notice}
use Rattle.session_index.specs.Effects.{at_id, said, with_index}
use Rattle.session_index.specs.Index.{PlainIndex, answers_of, given}
use Rattle.session_index.specs.Shown.{seen, shows}
use Rattle.index_functions.specs.declared.notice.Notice.{Notice}
use Rattle.session_index.specs.declared.sought.Sought.TheVariants.{New, Unread}

-- the index stands by other options
abbrev pub tuned : List Mail → ViewOptions → PlainDesk → PlainDesk
tuned mails options d =
    with_index (given mails (record d.index.facts { options = options }) d.index) d

-- messages are what a scan leaves of others and what came, in listing order
abbrev pub joined_items : List Mail → Found → List PlainItem → List PlainItem
joined_items mails found items = in_order_by (is_listed_before mails)
    (kept_items found items ++ came_items found.came.items)

-- what a scan found is taken in
abbrev pub taken_in : List Mail → Found → PlainDesk → PlainDesk
taken_in mails found d = with_index (given mails (record d.index.facts {
  items = joined_items mails found d.index.facts.items;
}) d.index) d

-- the last line says this, if anything
abbrev pub said_if : Option Notice → PlainDesk → PlainDesk
said_if None d = d
said_if (Some notice) d = said notice d

-- what a check found is taken in; where it found nothing the index stays as it is
abbrev pub taken_if : List Mail → Found → List Id → List Listed → List Listed → PlainDesk
    → PlainDesk
taken_if mails found [] [] [] d = d
taken_if mails found _ _ _ d = taken_in mails found d

-- what a check found is taken in and told
abbrev pub checked : List Mail → Found → PlainDesk → PlainDesk
checked mails found d = said_if (found_notice found.gone.items found.came.items)
    (taken_if mails found found.gone.items found.reflagged.items found.came.items d)

-- the first new message, else the first unread one, else the last
abbrev pub first_of : PlainAnswers → List Id → Option Id
first_of a ids = option_or (find (shows New a) ids)
    (option_or (find (shows Unread a) ids) (slice_get ids (length ids - 1)))

-- the cursor at a message, if there is one
abbrev pub at_first : List Mail → Option Id → PlainIndex → PlainIndex
at_first mails None i = i
at_first mails (Some id) i = at_id mails id i

-- a folder was opened: the cursor goes there
abbrev pub begun : List Mail → PlainDesk → PlainDesk
begun mails d = with_index (at_first mails
    (first_of (answers_of mails d.index) (seen (answers_of mails d.index))) d.index) d
