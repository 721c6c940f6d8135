-- What the changes of listed messages leave of a mailbox and of what is known of it.
use Rattle.std.specs.Prelude.{◌≡◌, ◌≤◌, ◌++◌, ℕ, true, false, List, [], ◌∷◌, Option, Some}
use Rattle.std.specs.Prelude.{None, length, map, nat_lt}
use Rattle.mail_base.specs.declared.kind.Kind.TheVariants.{Mbox}
use Rattle.disk_model.specs.Journal.{Past}
use Rattle.folder_letters.specs.Letters.{Mail}
use Rattle.folder_core.specs.Known.{KnownFolder}
use Rattle.folder_core.specs.Limits.{most_bytes}
use Rattle.folder_core.specs.Mbox.{begins_mailbox, core, raw_messages}
use Rattle.folder_core.specs.Right.{Right}
use Rattle.index_items.specs.Changes.{Changed, PlainChange, Alters, Discards}
use Rattle.folder_drivers.specs.MboxFront.{BeginsAs, cores}
use Rattle.folder_drivers.specs.MboxSync.{changed_file, known_synced}
use Rattle.mbox_text.specs.Rewriting.{rewritten}

-- what stays of a message behind what is wanted of it: nothing where it is discarded
abbrev pub kept_core : Option PlainChange → List ℕ → List (List ℕ)
kept_core None raw = core raw ∷ []
kept_core (Some (Alters added cleared)) raw = core raw ∷ []
kept_core (Some Discards) raw = []

-- what stays of messages behind what is wanted of the first ones, in their order
abbrev pub kept_cores : List (Option PlainChange) → List (List ℕ) → List (List ℕ)
kept_cores [] raws = map core raws
kept_cores (change ∷ what) [] = []
kept_cores (change ∷ what) (raw ∷ raws) = kept_core change raw ++ kept_cores what raws

-- a mailbox is, behind changes, one of the same messages but for those that are discarded, in their
-- order, by what stays of each
abbrev pub CoresStay : Type 0
CoresStay = (what : List (Option PlainChange)) (bytes : List ℕ) → begins_mailbox bytes ≡ true
    → cores (rewritten what bytes) ≡ kept_cores what (raw_messages bytes)

-- a mailbox has, behind changes, no more messages
abbrev pub FewMessages : Type 0
FewMessages = (what : List (Option PlainChange)) (bytes : List ℕ) → begins_mailbox bytes ≡ true
    → length (raw_messages (rewritten what bytes)) ≤ length (raw_messages bytes)

-- what is known of a mailbox is right again once changes of listed messages stand in it, also where
-- mail was put behind the known bytes before; status fields must not have made the file too large
abbrev pub KnownStaysRight : Type 0
KnownStaysRight = (mails : List Mail) (known : KnownFolder) (told new_told : Option Past)
    (changes : List Changed) (bytes : List ℕ) → Right Mbox mails known told
    → BeginsAs known.bytes bytes → begins_mailbox bytes ≡ true
    → nat_lt most_bytes (length (changed_file known changes bytes)) ≡ false
    → Right Mbox mails (known_synced changes bytes known) new_told
