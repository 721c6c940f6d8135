-- Of why a sync was refused the room of a path tells nothing, and what a sync leaves known.
use Rattle.std.proofs.Common.{◌≡◌, ℕ, Bool, List, Option, Ok, Err, ap, inl, inr}
use Rattle.mail_base.specs.declared.kind.Kind.{Kind}
use Rattle.mail_base.specs.declared.kind.Kind.TheVariants.{Maildir, Mbox, Mh, Mmdf}
use Rattle.disk_model.specs.Journal.{Past}
use Rattle.folder_changes.specs.Left.{listing_synced}
use Rattle.folder_changes.specs.declared.sync_error.Spot.TheVariants.{Name}
use Rattle.folder_changes.specs.declared.sync_error.SyncError.{SyncError}
use Rattle.folder_changes.specs.declared.sync_error.SyncError.TheVariants.{Changed as IsChanged}
use Rattle.folder_core.specs.Known.{KnownFolder}
use Rattle.folder_drivers.specs.MboxSync.{UnchangedFor, UnreadFor}
use Rattle.folder_drivers.specs.Synced.{sync_row}
use Rattle.folder_letters.specs.Letters.{Mail}
use Rattle.index_items.specs.Changes.{Changed}
use Rattle.session_events.specs.Events.{plain_refusal}

-- why a mailbox was not read, or not changed
unread_plain : (path : List ℕ) (why : SyncError) (a b : Option Past) → UnreadFor path why a b
    → UnreadFor path (plain_refusal why) a b
unread_plain path (IsChanged (Name name)) a b is = is
unread_plain path _ a b is = is

unchanged_plain : (path : List ℕ) (known : KnownFolder) (changes : List Changed)
    (bytes : List ℕ) (why : SyncError) → UnchangedFor path known changes bytes why
    → UnchangedFor path known changes bytes (plain_refusal why)
unchanged_plain path known changes bytes (IsChanged (Name name)) is = is
unchanged_plain path known changes bytes _ is = is

-- what was done
pub works_plain : (kind : Kind) (owner : List ℕ) (purge : Bool) (known : KnownFolder)
    (mails : List Mail) (changes : List Changed) (why : SyncError) (a b : Option Past)
    → (sync_row kind).Works owner purge known mails changes (Err why) a b
    → (sync_row kind).Works owner purge known mails changes (Err (plain_refusal why)) a b
works_plain Mbox owner purge known mails changes why a b (inl unread) = inl (record {
  not_done = tt;
  keeps = unread.keeps;
  why = unread_plain known.path why a b unread.why;
})
works_plain Mbox owner purge known mails changes why a b (inr read) = inr (record {
  bytes = read.bytes;
  before = read.before;
  behind = read.behind;
  locks = read.locks;
  reads = read.reads;
  held_so = read.held_so;
  keeps = read.keeps;
  puts = tt;
  as_known = tt;
  small = tt;
  why = unchanged_plain known.path known changes read.bytes why read.why;
})
works_plain Maildir owner purge known mails changes why a b works =
    record { does = works.does; names = tt }
works_plain Mh owner purge known mails changes why a b works = works
works_plain Mmdf owner purge known mails changes why a b works = works

-- how it may be refused
pub may_be_plain : (kind : Kind) (known : KnownFolder) (mails : List Mail)
    (changes : List Changed) (why : SyncError) → (sync_row kind).MayBe known mails changes why
    → (sync_row kind).MayBe known mails changes (plain_refusal why)
may_be_plain Mbox known mails changes (IsChanged (Name name)) is = is
may_be_plain Mbox known mails changes _ is = is
may_be_plain Maildir known mails changes (IsChanged (Name name)) is = is
may_be_plain Maildir known mails changes _ is = is
may_be_plain Mh known mails changes (IsChanged (Name name)) is = is
may_be_plain Mh known mails changes _ is = is
may_be_plain Mmdf known mails changes why is = ap plain_refusal is

-- why it was
pub cause_plain : (kind : Kind) (known : KnownFolder) (mails : List Mail) (changes : List Changed)
    (why : SyncError) (m n : ℕ) (past : Past)
    → (sync_row kind).Refused known mails changes why m n past
    → (sync_row kind).Refused known mails changes (plain_refusal why) m n past
cause_plain Mbox known mails changes why m n past is = tt
cause_plain Maildir known mails changes (IsChanged (Name name)) m n past is = is
cause_plain Maildir known mails changes _ m n past is = is
cause_plain Mh known mails changes (IsChanged (Name name)) m n past is = is
cause_plain Mh known mails changes _ m n past is = is
cause_plain Mmdf known mails changes why m n past is = tt

-- What a sync leaves known.

module _ (owner : List ℕ) (changes : List Changed) (known new_known : KnownFolder)
    (a b : Option Past) where
  pub synced_path : (kind : Kind) → (sync_row kind).IsSynced owner changes known new_known a b
      → new_known.path ≡ known.path
  synced_path Mbox was = ap (λ (k : KnownFolder). k.path) was.known_so
  synced_path Maildir is = ap (λ (k : KnownFolder). k.path) is
  synced_path Mh is = ap (λ (k : KnownFolder). k.path) is
  synced_path Mmdf is = absurd is

  pub synced_kind : (kind : Kind) → (sync_row kind).IsSynced owner changes known new_known a b
      → new_known.kind ≡ known.kind
  synced_kind Mbox was = ap (λ (k : KnownFolder). k.kind) was.known_so
  synced_kind Maildir is = ap (λ (k : KnownFolder). k.kind) is
  synced_kind Mh is = ap (λ (k : KnownFolder). k.kind) is
  synced_kind Mmdf is = absurd is

  pub synced_listing : (kind : Kind) → (sync_row kind).IsSynced owner changes known new_known a b
      → new_known.listing ≡ listing_synced kind changes known.listing
  synced_listing Mbox was = ap (λ (k : KnownFolder). k.listing) was.known_so
  synced_listing Maildir is = ap (λ (k : KnownFolder). k.listing) is
  synced_listing Mh is = ap (λ (k : KnownFolder). k.listing) is
  synced_listing Mmdf is = absurd is
