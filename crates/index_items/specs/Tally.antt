-- How many of the listed messages are new, deleted and so on, and with how many a sync that purges
-- has something to do.
use Rattle.std.specs.Prelude.{◌≡◌, ◌<◌, ◌+◌, ◌-◌, ◌^◌, ◌==◌, ℕ, Bool, true, not, List, count_by}
use Rattle.std.specs.Prelude.{if◌then◌else◌, is_some, length}
use Rattle.mail_base.specs.Flags as flags
use Rattle.mail_base.specs.declared.kind.Kind.{Kind}
use Rattle.mail_base.specs.declared.kind.Kind.TheVariants.{Mbox, Maildir, Mh, Mmdf}
use Rattle.index_items.specs.Changes.{change_of, changes_of}
use Rattle.index_items.specs.Items.{PlainItem, shown_flags}
use Rattle.index_items.specs.declared.tally.Tally.{Tally}
use Rattle.index_items.specs.declared.tally.Unsynced.{Unsynced}

-- an unread message is new or old
abbrev pub is_new : PlainItem → Bool
is_new i = flags.is_new (shown_flags i)

-- an old message was met before, and not read
abbrev pub is_old : PlainItem → Bool
is_old i = flags.is_old (shown_flags i)

-- an unread message was not seen
abbrev pub is_unread : PlainItem → Bool
is_unread i = not (shown_flags i).seen

-- a message is marked deleted
abbrev pub is_deleted : PlainItem → Bool
is_deleted i = i.pending.deleted

-- a message shows the flag of what is important
abbrev pub is_flagged : PlainItem → Bool
is_flagged i = (shown_flags i).flagged

-- a message is tagged
abbrev pub is_tagged : PlainItem → Bool
is_tagged i = i.tagged

-- a sync that purges has something to do in a folder of the kind
abbrev pub is_changed : Kind → List PlainItem → Bool
is_changed kind items = not (length (changes_of kind true items) == 0)

-- a sync that purges has something to do with a message
abbrev pub has_change : Kind → PlainItem → Bool
has_change kind i = is_some (change_of kind true i)

-- of each kind of folder, with how many messages a sync has something to do
abbrev pub unsynced_of : List PlainItem → Unsynced
unsynced_of items = record {
  mbox = count_by (has_change Mbox) items;
  maildir = count_by (has_change Maildir) items;
  mh = count_by (has_change Mh) items;
  mmdf = count_by (has_change Mmdf) items;
}

-- how many of these messages are new, deleted and so on, and with how many a sync has something to
-- do
abbrev pub tally_of : List PlainItem → Tally
tally_of items = record {
  new = count_by is_new items;
  old = count_by is_old items;
  unread = count_by is_unread items;
  deleted = count_by is_deleted items;
  flagged = count_by is_flagged items;
  tagged = count_by is_tagged items;
  unsynced = unsynced_of items;
}

-- For the code alone.

-- with how many messages a sync has something to do in a folder of the kind
abbrev pub of_kind : Kind → Unsynced → ℕ
of_kind Mbox u = u.mbox
of_kind Maildir u = u.maildir
of_kind Mh u = u.mh
of_kind Mmdf u = u.mmdf

-- one more, where it is so
abbrev pub raised : ℕ → Bool → ℕ
raised n is_so = if is_so then n + 1 else n

-- one less, where it was so
abbrev pub lowered : ℕ → Bool → ℕ
lowered n was_so = if was_so then n - 1 else n

-- of each kind of folder, with how many messages a sync has something to do, with one more
abbrev pub unsynced_with : Unsynced → PlainItem → Unsynced
unsynced_with u i = record {
  mbox = raised u.mbox (has_change Mbox i);
  maildir = raised u.maildir (has_change Maildir i);
  mh = raised u.mh (has_change Mh i);
  mmdf = raised u.mmdf (has_change Mmdf i);
}

-- and with one less
abbrev pub unsynced_without : Unsynced → PlainItem → Unsynced
unsynced_without u i = record {
  mbox = lowered u.mbox (has_change Mbox i);
  maildir = lowered u.maildir (has_change Maildir i);
  mh = lowered u.mh (has_change Mh i);
  mmdf = lowered u.mmdf (has_change Mmdf i);
}

-- a tally with one more message
abbrev pub with_item : Tally → PlainItem → Tally
with_item t i = record {
  new = raised t.new (is_new i);
  old = raised t.old (is_old i);
  unread = raised t.unread (is_unread i);
  deleted = raised t.deleted (is_deleted i);
  flagged = raised t.flagged (is_flagged i);
  tagged = raised t.tagged (is_tagged i);
  unsynced = unsynced_with t.unsynced i;
}

-- a tally with one message less
abbrev pub without_item : Tally → PlainItem → Tally
without_item t i = record {
  new = lowered t.new (is_new i);
  old = lowered t.old (is_old i);
  unread = lowered t.unread (is_unread i);
  deleted = lowered t.deleted (is_deleted i);
  flagged = lowered t.flagged (is_flagged i);
  tagged = lowered t.tagged (is_tagged i);
  unsynced = unsynced_without t.unsynced i;
}

-- a tally where the second message stands in place of the first
abbrev pub exchanged : Tally → PlainItem → PlainItem → Tally
exchanged t was is = with_item (without_item t was) is

-- so many more messages can be counted
pub record HasRoom (more : ℕ) (t : Tally) : Type 0 where
  pub new : t.new + more < 2 ^ 64
  pub old : t.old + more < 2 ^ 64
  pub unread : t.unread + more < 2 ^ 64
  pub deleted : t.deleted + more < 2 ^ 64
  pub flagged : t.flagged + more < 2 ^ 64
  pub tagged : t.tagged + more < 2 ^ 64
  pub mbox : t.unsynced.mbox + more < 2 ^ 64
  pub maildir : t.unsynced.maildir + more < 2 ^ 64
  pub mh : t.unsynced.mh + more < 2 ^ 64
  pub mmdf : t.unsynced.mmdf + more < 2 ^ 64

-- a message is counted in a tally
pub record Counts (t : Tally) (i : PlainItem) : Type 0 where
  pub new : is_new i ≡ true → 0 < t.new
  pub old : is_old i ≡ true → 0 < t.old
  pub unread : is_unread i ≡ true → 0 < t.unread
  pub deleted : is_deleted i ≡ true → 0 < t.deleted
  pub flagged : is_flagged i ≡ true → 0 < t.flagged
  pub tagged : is_tagged i ≡ true → 0 < t.tagged
  pub mbox : has_change Mbox i ≡ true → 0 < t.unsynced.mbox
  pub maildir : has_change Maildir i ≡ true → 0 < t.unsynced.maildir
  pub mh : has_change Mh i ≡ true → 0 < t.unsynced.mh
  pub mmdf : has_change Mmdf i ≡ true → 0 < t.unsynced.mmdf
