-- One more message is counted, and one is put in place of another.
use Rattle.std.proofs.Common.{◌≡◌, ◌∙◌, ◌+◌, ◌<◌, ◌≤◌, ◌^◌, Bool, List, [], ℕ, ◌∷◌, ◌++◌, ap, arith}
use Rattle.std.proofs.Common.{Option, None, Some, cond, drop, sym, take, true, false, refl}
use Rattle.std.specs.List.{count_by}
use Rattle.std.specs.Prelude.{is_some, not, length, slice_set, ◌==◌}
use Rattle.std.proofs.lemmas.List.{length-drop, length-take}
use Rattle.std.proofs.lemmas.List.Sums.{count_by-le-length, get_or-le-sum_by, sum_by-cons}
use Rattle.std.proofs.lemmas.List.Sums.{sum_by-drop_more, sum_by-set, sum_by-take-drop}
use Rattle.mail_base.specs.declared.kind.Kind.{Kind}
use Rattle.mail_base.specs.declared.kind.Kind.TheVariants.{Mbox, Maildir, Mh, Mmdf}
use Rattle.index_items.specs.Changes.{Changed, PlainChange, change_of, changed_item, changes_of}
use Rattle.index_items.specs.Items.{PlainItem, item_at, no_item}
use Rattle.index_items.specs.Tally.{Counts, HasRoom, exchanged, has_change, is_changed, is_deleted}
use Rattle.index_items.specs.Tally.{is_flagged, is_new, is_old, is_tagged, is_unread, lowered}
use Rattle.index_items.specs.Tally.{of_kind, raised, tally_of, unsynced_of, unsynced_with}
use Rattle.index_items.specs.Tally.{with_item, without_item}
use Rattle.index_items.specs.declared.tally.Tally.{Tally}
use Rattle.index_items.specs.declared.tally.Unsynced.{Unsynced}

-- with how many messages a sync has something to do, with these ones
abbrev pub unsynced_from : Unsynced → List PlainItem → Unsynced
unsynced_from u items = record {
  mbox = u.mbox + (unsynced_of items).mbox;
  maildir = u.maildir + (unsynced_of items).maildir;
  mh = u.mh + (unsynced_of items).mh;
  mmdf = u.mmdf + (unsynced_of items).mmdf;
}

-- what this tally comes to with these messages
abbrev pub tally_from : Tally → List PlainItem → Tally
tally_from t items = record {
  new = t.new + (tally_of items).new;
  old = t.old + (tally_of items).old;
  unread = t.unread + (tally_of items).unread;
  deleted = t.deleted + (tally_of items).deleted;
  flagged = t.flagged + (tally_of items).flagged;
  tagged = t.tagged + (tally_of items).tagged;
  unsynced = unsynced_from t.unsynced items;
}

raised_by : (n k : ℕ) (b : Bool) → raised n b + k ≡ n + (cond b 1 0 + k)
raised_by n k true = omega arith
raised_by n k false = omega arith

one_more : (p : PlainItem → Bool) (n : ℕ) (i : PlainItem) (items : List PlainItem)
    → raised n (p i) + count_by p items ≡ n + count_by p (i ∷ items)
one_more p n i items = raised_by n (count_by p items) (p i)
    ∙ ap (λ k. n + k) (sym (sum_by-cons (λ r. cond (p r) 1 0) i items))

unsynced_step : (u : Unsynced) (i : PlainItem) (items : List PlainItem)
    → unsynced_from (unsynced_with u i) items ≡ unsynced_from u (i ∷ items)
unsynced_step u i items = λ j. record {
  mbox = one_more (has_change Mbox) u.mbox i items j;
  maildir = one_more (has_change Maildir) u.maildir i items j;
  mh = one_more (has_change Mh) u.mh i items j;
  mmdf = one_more (has_change Mmdf) u.mmdf i items j;
}

pub tally_step : (t : Tally) (i : PlainItem) (items : List PlainItem)
    → tally_from (with_item t i) items ≡ tally_from t (i ∷ items)
tally_step t i items = λ j. record {
  new = one_more is_new t.new i items j;
  old = one_more is_old t.old i items j;
  unread = one_more is_unread t.unread i items j;
  deleted = one_more is_deleted t.deleted i items j;
  flagged = one_more is_flagged t.flagged i items j;
  tagged = one_more is_tagged t.tagged i items j;
  unsynced = unsynced_step t.unsynced i items j;
}

room_left : (n k : ℕ) (b : Bool) → n + (k + 1) < 2 ^ 64 → raised n b + k < 2 ^ 64
room_left n k true room = omega arith
room_left n k false room = omega arith

pub rooms_left : (t : Tally) (i : PlainItem) (k : ℕ) → HasRoom (k + 1) t
    → HasRoom k (with_item t i)
rooms_left t i k room = record {
  new = room_left t.new k (is_new i) room.new;
  old = room_left t.old k (is_old i) room.old;
  unread = room_left t.unread k (is_unread i) room.unread;
  deleted = room_left t.deleted k (is_deleted i) room.deleted;
  flagged = room_left t.flagged k (is_flagged i) room.flagged;
  tagged = room_left t.tagged k (is_tagged i) room.tagged;
  mbox = room_left t.unsynced.mbox k (has_change Mbox i) room.mbox;
  maildir = room_left t.unsynced.maildir k (has_change Maildir i) room.maildir;
  mh = room_left t.unsynced.mh k (has_change Mh i) room.mh;
  mmdf = room_left t.unsynced.mmdf k (has_change Mmdf i) room.mmdf;
}

-- as many changes are listed as messages have one
listed_changes : (kind : Kind) (items : List PlainItem)
    → length (changes_of kind true items) ≡ count_by (has_change kind) items
listed_changes kind [] = refl
listed_changes kind (i ∷ items) =
    one_listed i (change_of kind true i) (changes_of kind true items)
    ∙ ap (λ k. cond (has_change kind i) 1 0 + k) (listed_changes kind items)
    ∙ sym (sum_by-cons (λ r. cond (has_change kind r) 1 0) i items)
  where
    one_listed : (i : PlainItem) (change : Option PlainChange) (more : List Changed)
        → length (changed_item i change ++ more) ≡ cond (is_some change) 1 0 + length more
    one_listed i None more = omega arith
    one_listed i (Some change) more = omega arith

-- a sync has something to do where it has with one of the messages
pub changed_where : (kind : Kind) (items : List PlainItem)
    → not (of_kind kind (unsynced_of items) == 0) ≡ is_changed kind items
changed_where kind items =
    ap (λ n. not (n == 0)) (counted kind ∙ sym (listed_changes kind items))
  where
    counted : (k : Kind) → of_kind k (unsynced_of items) ≡ count_by (has_change k) items
    counted Mbox = refl
    counted Maildir = refl
    counted Mh = refl
    counted Mmdf = refl

-- A message that stands at a place is counted once.

exchanged_by : (n m : ℕ) (was is : Bool) → cond was 1 0 ≤ n → m + cond was 1 0 ≡ n + cond is 1 0
    → raised (lowered n was) is ≡ m
exchanged_by n m true true some e = omega arith
exchanged_by n m true false some e = omega arith
exchanged_by n m false true some e = omega arith
exchanged_by n m false false some e = omega arith

lowered_room : (n len : ℕ) (b : Bool) → cond b 1 0 ≤ n → n + 1 ≤ len + cond b 1 0
    → lowered n b + 1 ≤ len
lowered_room n len true some low = omega arith
lowered_room n len false some low = omega arith

is_some_count : (n : ℕ) (b : Bool) → cond b 1 0 ≤ n → b ≡ true → 0 < n
is_some_count n true some is = omega arith
is_some_count n false some is = absurd (cc)

module _ (items : List PlainItem) (place : ℕ) (within : place < length items) where
  some_counted : (p : PlainItem → Bool) → cond (p (item_at items place)) 1 0 ≤ count_by p items
  some_counted p = get_or-le-sum_by (λ r. cond (p r) 1 0) items place no_item within

  one_exchanged : (p : PlainItem → Bool) (i : PlainItem)
      → raised (lowered (count_by p items) (p (item_at items place))) (p i)
      ≡ count_by p (slice_set items place i)
  one_exchanged p i =
      exchanged_by (count_by p items) (count_by p (slice_set items place i))
      (p (item_at items place)) (p i) (some_counted p)
      (sum_by-set (λ r. cond (p r) 1 0) items place i no_item within)

  one_counted : (p : PlainItem → Bool) → p (item_at items place) ≡ true → 0 < count_by p items
  one_counted p is = is_some_count (count_by p items) (p (item_at items place)) (some_counted p) is

  -- the others may all be counted, and this one where it is so
  at_most : (p : PlainItem → Bool)
      → count_by p items + 1 ≤ length items + cond (p (item_at items place)) 1 0
  at_most p = omega (
    arith,
    within,
    sum_by-take-drop (λ r. cond (p r) 1 0) items place,
    sum_by-drop_more (λ r. cond (p r) 1 0) items place no_item within,
    count_by-le-length p (take place items),
    count_by-le-length p (drop (place + 1) items),
    length-take place items,
    length-drop (place + 1) items,
  )

  one_room : (p : PlainItem → Bool)
      → lowered (count_by p items) (p (item_at items place)) + 1 ≤ length items
  one_room p = lowered_room (count_by p items) (length items) (p (item_at items place))
      (some_counted p) (at_most p)

  pub counts_at : Counts (tally_of items) (item_at items place)
  counts_at = record {
    new = one_counted is_new;
    old = one_counted is_old;
    unread = one_counted is_unread;
    deleted = one_counted is_deleted;
    flagged = one_counted is_flagged;
    tagged = one_counted is_tagged;
    mbox = one_counted (has_change Mbox);
    maildir = one_counted (has_change Maildir);
    mh = one_counted (has_change Mh);
    mmdf = one_counted (has_change Mmdf);
  }

  pub room_without : length items < 2 ^ 64
      → HasRoom 1 (without_item (tally_of items) (item_at items place))
  room_without short = record {
    new = omega (arith, short, one_room is_new);
    old = omega (arith, short, one_room is_old);
    unread = omega (arith, short, one_room is_unread);
    deleted = omega (arith, short, one_room is_deleted);
    flagged = omega (arith, short, one_room is_flagged);
    tagged = omega (arith, short, one_room is_tagged);
    mbox = omega (arith, short, one_room (has_change Mbox));
    maildir = omega (arith, short, one_room (has_change Maildir));
    mh = omega (arith, short, one_room (has_change Mh));
    mmdf = omega (arith, short, one_room (has_change Mmdf));
  }

  pub exchanged_at : (i : PlainItem)
      → exchanged (tally_of items) (item_at items place) i ≡ tally_of (slice_set items place i)
  exchanged_at i = λ j. record {
    new = one_exchanged is_new i j;
    old = one_exchanged is_old i j;
    unread = one_exchanged is_unread i j;
    deleted = one_exchanged is_deleted i j;
    flagged = one_exchanged is_flagged i j;
    tagged = one_exchanged is_tagged i j;
    unsynced = record {
      mbox = one_exchanged (has_change Mbox) i j;
      maildir = one_exchanged (has_change Maildir) i j;
      mh = one_exchanged (has_change Mh) i j;
      mmdf = one_exchanged (has_change Mmdf) i j;
    };
  }
