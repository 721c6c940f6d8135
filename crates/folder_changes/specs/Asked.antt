-- What is asked of a sync: what is to become of some listed messages.
use Rattle.std.specs.Prelude.{◌≡◌, true, ℕ, List, [], ◌∷◌, Option, None, map}
use Rattle.mail_base.specs.declared.kind.Id.{Id}
use Rattle.folder_letters.specs.Letters.{Mail}
use Rattle.folder_letters.specs.declared.change.Changed1.{Changed1}
use Rattle.folder_letters.specs.declared.listing.Listed.{Listed}
use Rattle.folder_core.specs.Keeping.{lists_id, mail_of}
use Rattle.index_items.specs.Changes.{Changed, PlainChange, Alters, Discards, change_for}
use Rattle.index_items.specs.Changes.{plain_changes}
use Rattle.folder_changes.specs.Wanted.{change_at}
use Rattle.folder_changes.specs.Worked.{either, nothing_wanted}

-- each change is of a listed message
abbrev pub AreListed : List Listed → List Changed → Type 0
AreListed listing [] = Unit {0}
AreListed listing (changed ∷ changes) =
    (lists_id listing changed.id.0 ≡ true) × AreListed listing changes

-- no message changes twice
abbrev pub AreOnce : List Changed → Type 0
AreOnce [] = Unit {0}
AreOnce (changed ∷ changes) = (change_for changes changed.id.0 ≡ None) × AreOnce changes

-- what is wanted of the message with a key: the first change of a message that has it
abbrev pub what_of : List Mail → List Changed → List ℕ → Option PlainChange
what_of mails [] = nothing_wanted
what_of mails (changed ∷ changes) =
    either (change_at (mail_of mails changed.id.0).key changed.change) (what_of mails changes)

-- the messages that change have keys that differ
abbrev pub AreApart : List Mail → List Changed → Type 0
AreApart mails [] = Unit {0}
AreApart mails (changed ∷ changes) =
    (what_of mails changes (mail_of mails changed.id.0).key ≡ None) × AreApart mails changes

-- the key of a message that is discarded, before these keys
abbrev pub with_discarded : List ℕ → PlainChange → List (List ℕ) → List (List ℕ)
with_discarded key (Alters added cleared) keys = keys
with_discarded key Discards keys = key ∷ keys

-- the keys of the messages that are discarded
abbrev pub discarded : List Mail → List Changed → List (List ℕ)
discarded mails [] = []
discarded mails (changed ∷ changes) =
    with_discarded (mail_of mails changed.id.0).key changed.change (discarded mails changes)

-- the messages that change
abbrev pub ids_of : List Changed → List Id
ids_of changes = map (λ changed. changed.id) changes

-- For the code alone.

-- the ids of the messages that change
abbrev pub ids_changed : List Changed1 → List Id
ids_changed changes = ids_of (plain_changes changes)
