-- What of a folder's messages was found so far: each is counted, and listed where all found so far
-- may be listed.
use Rattle.std.specs.Prelude.{◌≡◌, ◌≤◌, ◌+◌, ◌-◌, ◌++◌, ℕ, Bool, List, [], ◌∷◌, Option, Some, None}
use Rattle.std.specs.Prelude.{is_none, length, map, Result, Ok, Err}
use Rattle.std.specs.Prelude.{if◌then◌else◌}
use Rattle.mail_base.specs.declared.flags.Flags.{Flags}
use Rattle.disk_model.specs.Seen.{Seen}
use Rattle.folder_core.specs.Costs.{RaisesAtMost}
use Rattle.folder_core.specs.Format.{Format}
use Rattle.folder_letters.specs.Letters.{Mail, plain_letter}
use Rattle.folder_core.specs.Limits.{list_refusal, most_bytes, sum_refusal, told_sum}
use Rattle.folder_core.specs.Looked.{OnlyMeets}
use Rattle.folder_core.specs.Message.{Message, bytes_together}
use Rattle.folder_core.specs.Keeping.{count_fresh, letters_by, listed_by}
use Rattle.folder_letters.specs.declared.letter.Letter.{Letter}
use Rattle.folder_core.specs.declared.error.ScanError.{ScanError}
use Rattle.folder_core.specs.declared.listed_so_far.ListedSoFar.{ListedSoFar}
use Rattle.folder_letters.specs.declared.listing.Listed.{Listed}

-- The letters of the archive before, the messages found, those of them that were not known, their
-- bytes together, as they are told, and what is stored: the listing, and the archive as it is.
pub record Store : Type 0 where
  pub letters : ℕ
  pub count : ℕ
  pub fresh : ℕ
  pub bytes : ℕ
  pub listing : List Listed
  pub archive : List Mail

-- what was found so far, with the letters of the archive
abbrev pub store_of : ListedSoFar → List Letter → Store
store_of so_far archive = record {
  letters = so_far.letters;
  count = so_far.count;
  fresh = so_far.fresh;
  bytes = so_far.bytes;
  listing = so_far.listing.items;
  archive = map plain_letter archive;
}

-- nothing is found yet
pub record IsEmpty (store : Store) : Type 0 where
  pub count : store.count ≡ 0
  pub fresh : store.fresh ≡ 0
  pub bytes : store.bytes ≡ 0
  pub listing : store.listing ≡ []

-- the listed message of an id
abbrev pub listed_as : ℕ → Flags → Listed
listed_as id flags = record { id = record { 0 = id }; flags = flags }

-- why all found so far are not listed
abbrev pub store_refusal : Store → Option ScanError
store_refusal store = sum_refusal store.letters store.fresh store.count store.bytes

-- a new message more of so many bytes is counted
abbrev pub counted_new : ℕ → Store → Store
counted_new size store = record store {
  count = store.count + 1;
  fresh = store.fresh + 1;
  bytes = told_sum (store.bytes + size);
}

-- a known message more of so many bytes is counted
abbrev pub counted_known : ℕ → Store → Store
counted_known size store = record store {
  count = store.count + 1;
  bytes = told_sum (store.bytes + size);
}

-- a new message more by its letter, which is stored where all found so far may be listed; it gets
-- the next id of those that the archive has no letter for
abbrev pub new_if : Bool → Flags → Mail → Store → Store
new_if fits flags mail store = record {
  letters = store.letters;
  count = store.count + 1;
  fresh = store.fresh + 1;
  bytes = told_sum (store.bytes + length mail.core);
  listing = if fits then store.listing ++ listed_as (store.letters + store.fresh) flags ∷ []
      else store.listing;
  archive = if fits then store.archive ++ mail ∷ [] else store.archive;
}

-- the same while no limit is passed
abbrev pub store_new : Flags → Mail → Store → Store
store_new flags mail store =
    new_if (is_none (store_refusal (counted_new (length mail.core) store))) flags mail store

-- a known message more of so many bytes, which is listed where all found so far may be
abbrev pub known_if : Bool → ℕ → Flags → ℕ → Store → Store
known_if fits id flags size store = record {
  letters = store.letters;
  count = store.count + 1;
  fresh = store.fresh;
  bytes = told_sum (store.bytes + size);
  listing = if fits then store.listing ++ listed_as id flags ∷ [] else store.listing;
  archive = store.archive;
}

-- the same while no limit is passed
abbrev pub store_known : ℕ → Flags → ℕ → Store → Store
store_known id flags size store =
    known_if (is_none (store_refusal (counted_known size store))) id flags size store

-- a message more, new or known by this id
abbrev pub store_message : Format → Option ℕ → Message → Store → Store
store_message format None message store =
    store_new message.flags (format.letter (store.letters + store.fresh) message) store
store_message format (Some id) message store =
    store_known id message.flags (length message.raw) store

-- the same, where there is one
abbrev pub store_found : Format → Option ℕ → Option Message → Store → Store
store_found format keep None store = store
store_found format keep (Some message) store = store_message format keep message store

-- No more was read of files than they take of the bytes that may be listed; where a look failed, no
-- more than was left of these.
abbrev pub ReadsLeft : {A : Type 0} → Result A ScanError → ℕ → ℕ → Option ℕ → Option ℕ → Type 0
ReadsLeft (Ok given) bytes new_bytes old new =
    (most_bytes - new_bytes ≤ most_bytes - bytes)
    × RaisesAtMost old new (most_bytes - bytes - (most_bytes - new_bytes))
ReadsLeft (Err why) bytes new_bytes old new = RaisesAtMost old new (most_bytes - bytes)

-- What a walk does that has found messages of so many bytes: it only looks, and reads no more than
-- may be listed.
pub record LooksWithin {A : Type 0} (result : Result A ScanError) (bytes new_bytes : ℕ)
    (old new : Seen) : Type 0 where
  pub meets : OnlyMeets result old new
  pub reads : ReadsLeft result bytes new_bytes old.bytes_read new.bytes_read

-- The messages are counted, and stored where they may be listed.
pub record Holds (format : Format) (first : Store) (keeps : List (Option ℕ))
    (messages : List Message) (store : Store) : Type 0 where
  pub pairs : length keeps ≡ length messages
  pub letters : store.letters ≡ first.letters
  pub count : store.count ≡ length messages
  pub fresh : store.fresh ≡ count_fresh keeps
  pub bytes : store.bytes ≡ told_sum (bytes_together messages)
  pub listing : list_refusal first.letters keeps messages ≡ None
      → store.listing ≡ listed_by first.letters keeps messages
  pub archive : list_refusal first.letters keeps messages ≡ None
      → store.archive ≡ first.archive ++ letters_by format.letter first.letters keeps messages
