-- What a scan makes of a listing.
use Rattle.std.specs.Prelude.{◌++◌, List, map}
use Rattle.folder_letters.specs.Letters.{Mail}
use Rattle.folder_letters.specs.declared.listing.Found.{Found}
use Rattle.folder_letters.specs.declared.listing.Listed.{Listed}
use Rattle.mail_base.specs.Ordered.{in_order_by}
use Rattle.index_items.specs.Found.{came_items, is_listed_before, kept_items}
use Rattle.index_items.specs.Items.{PlainItem}

-- a message as it is listed
abbrev pub listed_of : PlainItem → Listed
listed_of i = record { id = i.id; flags = i.flags }

-- the listing of messages
abbrev pub listing_of : List PlainItem → List Listed
listing_of items = map listed_of items

-- messages are what a scan leaves of others and what came, in listing order
abbrev pub joined_items : List Mail → Found → List PlainItem → List PlainItem
joined_items mails found items = in_order_by (is_listed_before mails)
    (kept_items found items ++ came_items found.came.items)

-- the listing behind what a scan found: it leaves what it leaves of messages that are listed so
abbrev pub listing_behind : List Mail → Found → List Listed → List Listed
listing_behind mails found listing = listing_of (joined_items mails found (came_items listing))
