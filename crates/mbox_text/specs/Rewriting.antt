-- A mailbox of which some messages change.
use Rattle.std.specs.Prelude.{◌≡◌, ◌+◌, ℕ, true, List, [], ◌∷◌, ◌++◌, Option, Some, None, drop, length}
use Rattle.std.specs.Prelude.{map, slice_range, take}
use Rattle.std.specs.List.{concat}
use Rattle.mail_base.specs.Flags.{applied, stored}
use Rattle.mail_base.specs.declared.kind.Kind.TheVariants.{Mbox}
use Rattle.folder_letters.specs.declared.listing.Listed.{Listed}
use Rattle.folder_core.specs.Mbox.{begins_mailbox, raw_messages, status}
use Rattle.folder_core.specs.declared.region.Region.{Region}
use Rattle.index_items.specs.Changes.{Changed, PlainChange, Alters, Discards, change_for}
use Rattle.mbox_text.specs.WithStatus.{with_status}

-- what stands in regions of a file
abbrev pub raws_in : List ℕ → List Region → List (List ℕ)
raws_in bytes regions = map (λ region. slice_range bytes region.start region.end) regions

-- what is wanted of each listed message
abbrev pub wanted_of : List Changed → List Listed → List (Option PlainChange)
wanted_of changes listing = map (λ listed. change_for changes listed.id.0) listing

-- what becomes of a message: other status fields, by the flags that it has with a change, or nothing
abbrev pub changed_raw : Option PlainChange → List ℕ → List (List ℕ)
changed_raw None raw = raw ∷ []
changed_raw (Some (Alters added cleared)) raw =
    with_status (stored Mbox (applied (status raw) added cleared)) raw ∷ []
changed_raw (Some Discards) raw = []

-- what becomes of messages of which this is wanted in their order; those behind them stay
abbrev pub changed_raws : List (Option PlainChange) → List (List ℕ) → List (List ℕ)
changed_raws [] raws = raws
changed_raws (change ∷ what) [] = []
changed_raws (change ∷ what) (raw ∷ raws) = changed_raw change raw ++ changed_raws what raws

-- what is wanted of the first message, if anything
abbrev pub first_wanted : List (Option PlainChange) → Option PlainChange
first_wanted [] = None
first_wanted (change ∷ what) = change

-- how many messages stand before the first that changes
abbrev pub unchanged_count : List (Option PlainChange) → List (List ℕ) → ℕ
unchanged_count [] raws = length raws
unchanged_count (change ∷ what) [] = 0
unchanged_count (None ∷ what) (raw ∷ raws) = unchanged_count what raws + 1
unchanged_count (Some change ∷ what) (raw ∷ raws) = 0

-- where the first message that changes starts
abbrev pub first_changed : List (Option PlainChange) → List (List ℕ) → ℕ
first_changed what raws = length (concat (take (unchanged_count what raws) raws))

-- the bytes from there on, behind the changes
abbrev pub changed_tail : List (Option PlainChange) → List (List ℕ) → List ℕ
changed_tail what raws = concat (changed_raws (drop (unchanged_count what raws) what)
    (drop (unchanged_count what raws) raws))

-- the bytes of a mailbox behind what is wanted of its first messages
abbrev pub rewritten : List (Option PlainChange) → List ℕ → List ℕ
rewritten what bytes = concat (changed_raws what (raw_messages bytes))

-- a mailbox is, behind changes, one of the messages that they leave, in their order
pub record ReadsAsChanged (what : List (Option PlainChange)) (bytes : List ℕ) : Type 0 where
  pub begins : begins_mailbox (rewritten what bytes) ≡ true
  pub messages : raw_messages (rewritten what bytes) ≡ changed_raws what (raw_messages bytes)

-- so is each mailbox
abbrev pub RewrittenMailboxesRead : Type 0
RewrittenMailboxesRead = (what : List (Option PlainChange)) (bytes : List ℕ)
    → begins_mailbox bytes ≡ true → ReadsAsChanged what bytes

-- the messages before the first that changes stay as they are
abbrev pub FrontsStay : Type 0
FrontsStay = (what : List (Option PlainChange)) (raws : List (List ℕ))
    → concat (changed_raws what raws)
    ≡ take (first_changed what raws) (concat raws) ++ changed_tail what raws
