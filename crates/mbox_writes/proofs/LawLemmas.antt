-- What changes leave of the messages of a mailbox, and of what is known of it.
use Rattle.std.proofs.Common.{◌≡◌, ◌≤◌, ℕ, true, false, List, [], ◌∷◌, ◌++◌, Option, Some}
use Rattle.std.proofs.Common.{None, length, map, take, refl, sym, ap, subst, ◌∙◌, arith}
use Rattle.std.specs.Prelude.{nat_lt}
use Rattle.mail_base.specs.Flags.{applied, stored}
use Rattle.mail_base.specs.declared.kind.Kind.TheVariants.{Mbox}
use Rattle.disk_model.specs.Journal.{Past}
use Rattle.folder_letters.specs.Letters.{Mail}
use Rattle.folder_letters.specs.declared.listing.Listed.{Listed}
use Rattle.folder_core.specs.Keeping.{ListedMail, PlacedById, mails_of}
use Rattle.folder_core.specs.Known.{KnownFolder}
use Rattle.folder_core.specs.Limits.{most_bytes}
use Rattle.folder_core.specs.Mbox.{AreFirst, begins_mailbox, core, mbox_message, messages_in}
use Rattle.folder_core.specs.Mbox.{raw_messages, status}
use Rattle.folder_core.specs.Right.{Right}
use Rattle.index_items.specs.Changes.{Changed, PlainChange, Alters, Discards, change_for}
use Rattle.folder_changes.specs.Left.{changed_listed, listing_synced}
use Rattle.folder_changes.proofs.LeftLemmas.{synced_few, synced_rise, synced_within}
use Rattle.mbox_text.specs.Rewriting.{changed_raw, changed_raws, rewritten, wanted_of}
use Rattle.mbox_text.proofs.RewritingLemmas.{rewritten_reads}
use Rattle.mbox_text.proofs.WithStatusLemmas.{core_with}
use Rattle.folder_drivers.specs.MboxFront.{BeginsAs, cores}
use Rattle.folder_drivers.specs.MboxSync.{changed_file, known_synced}
use Rattle.mbox_writes.specs.Laws.{kept_core, kept_cores}

-- What stays of messages.

core_stays : (change : Option PlainChange) (raw : List ℕ) (rest : List (List ℕ))
    → map core (changed_raw change raw ++ rest) ≡ kept_core change raw ++ map core rest
core_stays None raw rest = refl
core_stays (Some (Alters added cleared)) raw rest =
    ap (λ kept. kept ∷ map core rest)
    (core_with (stored Mbox (applied (status raw) added cleared)) raw)
core_stays (Some Discards) raw rest = refl

raws_stay : (what : List (Option PlainChange)) (raws : List (List ℕ))
    → map core (changed_raws what raws) ≡ kept_cores what raws
raws_stay [] raws = refl
raws_stay (change ∷ what) [] = refl
raws_stay (change ∷ what) (raw ∷ raws) =
    core_stays change raw (changed_raws what raws)
    ∙ ap (λ kept. kept_core change raw ++ kept) (raws_stay what raws)

pub cores_stay : (what : List (Option PlainChange)) (bytes : List ℕ) → begins_mailbox bytes ≡ true
    → cores (rewritten what bytes) ≡ kept_cores what (raw_messages bytes)
cores_stay what bytes begins =
    ap (map core) (rewritten_reads what bytes begins).messages
    ∙ raws_stay what (raw_messages bytes)

-- How many messages are left.

few_raws : (what : List (Option PlainChange)) (raws : List (List ℕ))
    → length (changed_raws what raws) ≤ length raws
few_raws [] raws = omega arith
few_raws (change ∷ what) [] = omega arith
few_raws (None ∷ what) (raw ∷ raws) = omega (arith, few_raws what raws)
few_raws (Some (Alters added cleared) ∷ what) (raw ∷ raws) = omega (arith, few_raws what raws)
few_raws (Some Discards ∷ what) (raw ∷ raws) = omega (arith, few_raws what raws)

pub few_messages : (what : List (Option PlainChange)) (bytes : List ℕ)
    → begins_mailbox bytes ≡ true
    → length (raw_messages (rewritten what bytes)) ≤ length (raw_messages bytes)
few_messages what bytes begins =
    subst (λ (raws : List (List ℕ)). length raws ≤ length (raw_messages bytes))
    (sym (rewritten_reads what bytes begins).messages) (few_raws what (raw_messages bytes))

-- Listed messages are the first of a file.

-- they are the first of all messages of which the same stays
first_as : (listed : List ListedMail) (raws others : List (List ℕ))
    → take (length (map core raws)) (map core others) ≡ map core raws
    → AreFirst listed (map mbox_message raws) → AreFirst listed (map mbox_message others)
first_as [] raws others same first = tt
first_as (one ∷ listed) [] others same first = absurd first
first_as (one ∷ listed) (raw ∷ raws) [] same first = absurd (never same)
  where
    never : ◌≡◌ {A = List (List ℕ)} [] (core raw ∷ map core raws) → ⊥
    never e = cc
first_as (one ∷ listed) (raw ∷ raws) (other ∷ others) same first =
    let here : core other ≡ core raw = cc same in
    let behind : take (length (map core raws)) (map core others) ≡ map core raws = cc same in
    (first.0 ∙ sym here, first_as listed raws others behind first.1)

module _ (mails : List Mail) (changes : List Changed) where
  -- what a sync leaves of them is the first of what it leaves of the file
  first_left : (listing : List Listed) (raws : List (List ℕ))
      → AreFirst (mails_of mails listing) (map mbox_message raws)
      → AreFirst (mails_of mails (listing_synced Mbox changes listing))
      (map mbox_message (changed_raws (wanted_of changes listing) raws))
  first_left [] raws first = tt
  first_left (listed ∷ listing) [] first = absurd first
  first_left (listed ∷ listing) (raw ∷ raws) first =
      by (change_for changes listed.id.0) (first_left listing raws first.1)
    where
      by : (change : Option PlainChange)
          → AreFirst (mails_of mails (listing_synced Mbox changes listing))
          (map mbox_message (changed_raws (wanted_of changes listing) raws))
          → AreFirst (mails_of mails
          (changed_listed Mbox listed change ++ listing_synced Mbox changes listing))
          (map mbox_message
          (changed_raw change raw ++ changed_raws (wanted_of changes listing) raws))
      by None rest = (first.0, rest)
      by (Some (Alters added cleared)) rest = (
        first.0 ∙ sym (core_with (stored Mbox (applied (status raw) added cleared)) raw),
        rest,
      )
      by (Some Discards) rest = rest

  -- and each stays at the place of its id
  placed_left : (listing : List Listed) → PlacedById (mails_of mails listing)
      → PlacedById (mails_of mails (listing_synced Mbox changes listing))
  placed_left [] placed = tt
  placed_left (listed ∷ listing) placed =
      by (change_for changes listed.id.0) (placed_left listing placed.1.1)
    where
      by : (change : Option PlainChange)
          → PlacedById (mails_of mails (listing_synced Mbox changes listing))
          → PlacedById (mails_of mails
          (changed_listed Mbox listed change ++ listing_synced Mbox changes listing))
      by None rest = (placed.0, (placed.1.0, rest))
      by (Some (Alters added cleared)) rest = (placed.0, (placed.1.0, rest))
      by (Some Discards) rest = rest

-- What is known.

pub known_stays : (mails : List Mail) (known : KnownFolder) (told new_told : Option Past)
    (changes : List Changed) (bytes : List ℕ) → Right Mbox mails known told
    → BeginsAs known.bytes bytes → begins_mailbox bytes ≡ true
    → nat_lt most_bytes (length (changed_file known changes bytes)) ≡ false
    → Right Mbox mails (known_synced changes bytes known) new_told
known_stays mails known told new_told changes bytes right as_known begins few =
    let what = wanted_of changes known.listing in
    let reads = rewritten_reads what bytes begins in
    let first : AreFirst (mails_of mails known.listing) (messages_in bytes) =
    first_as (mails_of mails known.listing) (raw_messages known.bytes) (raw_messages bytes)
    as_known.messages right.read.first in
    record {
      within = synced_within Mbox changes (length mails) known.listing right.within;
      ordered = synced_rise Mbox changes mails known.listing right.ordered;
      few = omega (arith, synced_few Mbox changes known.listing, right.few);
      read = record {
        placed = placed_left mails changes known.listing right.read.placed;
        few = few;
        begins = reads.begins;
        first = subst (λ (raws : List (List ℕ)).
            AreFirst (mails_of mails (listing_synced Mbox changes known.listing))
            (map mbox_message raws)) (sym reads.messages)
            (first_left mails changes known.listing (raw_messages bytes) first);
        stamp = tt;
      };
    }
