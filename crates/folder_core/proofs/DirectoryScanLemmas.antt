-- What a scan of a directory has seen and what it leaves, by the messages that were found.
use Rattle.std.proofs.Common.{◌≡◌, ◌+◌, ◌++◌, ◌⊎◌, inl, inr, ℕ, Bool, true, false, List}
use Rattle.std.proofs.Common.{[], ◌∷◌, Option, Some, None}
use Rattle.std.proofs.Common.{Ok, Err, length, map, nat_lt, if◌then◌else◌, refl, sym, ◌∙◌, ap}
use Rattle.std.proofs.Common.{subst, arith, length-append}
use Rattle.std.specs.Cmp.Lexicographic.{slice_cmp}
use Rattle.std.specs.Ordering.{is_lt, nat_cmp, ordering_then}
use Rattle.std.proofs.lemmas.Bool.{and_from, and_parts}
use Rattle.mail_base.specs.Ordered.{IsIn}
use Rattle.mail_base.specs.declared.kind.Kind.{Kind}
use Rattle.mail_base.specs.declared.kind.Kind.TheVariants.{Maildir, Mh}
use Rattle.disk_model.specs.Journal.{Past}
use Rattle.disk_model.specs.Judge.{GoesOn}
use Rattle.disk_model.specs.Looking.{OnlyLooks}
use Rattle.disk_model.specs.Seen.{Seen}
use Rattle.disk_model.specs.Tree.{TreeNode}
use Rattle.folder_core.specs.Costs.{letters_behind}
use Rattle.folder_core.specs.Directory.{DirectoryRefused, Finds}
use Rattle.folder_core.specs.FirstLook.{found_first}
use Rattle.folder_core.specs.DirectoryScan.{FolderRefused, IsListing, ListsFolder, ScansFolder}
use Rattle.folder_core.specs.DirectoryScan.{known_listed}
use Rattle.folder_core.specs.Format.{Format}
use Rattle.folder_core.specs.Keeping.{IsDifference, KeepCores, ListedMail, PlacedByKey}
use Rattle.folder_core.specs.Keeping.{count_fresh, letters_by, listed_by, mails_of}
use Rattle.folder_core.specs.Known.{KnownFolder}
use Rattle.folder_letters.specs.Letters.{Mail}
use Rattle.folder_core.specs.Limits.{list_refusal, most_bytes, most_letters, most_messages}
use Rattle.folder_core.specs.Limits.{sum_refusal, told_sum}
use Rattle.folder_core.specs.ListedSoFar.{Holds, Store}
use Rattle.folder_core.specs.Looked.{OnlyMeets}
use Rattle.folder_core.specs.MaildirNames.{order_of}
use Rattle.folder_core.specs.Message.{ArePlaced, Message, are_in_order, bytes_together}
use Rattle.folder_core.specs.Message.{stands_before}
use Rattle.folder_core.specs.Mh.{number_at}
use Rattle.folder_core.specs.Reads.{format_of}
use Rattle.folder_core.specs.Right.{Right, mail_before, mails_rise}
use Rattle.folder_core.specs.Scanned.{ListsFound}
use Rattle.folder_letters.specs.Listings.{ids_from}
use Rattle.folder_core.specs.declared.error.ScanError.{ScanError}
use Rattle.folder_core.specs.declared.error.ScanError.TheVariants.{Missing, NotMailbox, TooMany}
use Rattle.folder_core.specs.declared.error.ScanError.TheVariants.{TooLarge, Unfinished}
use Rattle.folder_core.specs.declared.error.ScanError.TheVariants.{ArchiveFull, Fault, NoMemory}
use Rattle.folder_letters.specs.declared.listing.Found.{Found}
use Rattle.folder_letters.specs.declared.listing.Listed.{Listed}
use Rattle.folder_core.proofs.DifferenceLemmas.{AreBelow}
use Rattle.folder_core.proofs.FirstLookLemmas.{stood_first, stood_later, tells_there}
use Rattle.folder_core.proofs.KeepingLemmas.{CameNew, EachIs, KeepIds, KeepKeys, KeptAre}
use Rattle.folder_core.proofs.KeepingLemmas.{came_new, came_of, cores_pairs, each_listed, id_below}
use Rattle.folder_core.proofs.KeepingLemmas.{keys_ids, keys_kept, known_listed as known_by_id}
use Rattle.folder_core.proofs.KeepingLemmas.{letters_length, listed_below, listed_length}
use Rattle.folder_core.proofs.KeepingLemmas.{listed_mail, stamps_kept}
use Rattle.folder_core.proofs.ListedSoFarLemmas.{fresh_few, full_near, held_refusal, none_within}
use Rattle.folder_core.proofs.SeenLemmas.{goes_as, only_then, rose_later}

-- What is seen of messages, with what they were known as and with their stamps.
abbrev pub Sights : Type 1
Sights = List (Option ℕ) → List Message → List ℕ → Past → Past → Type 0

-- The messages that were found, from the first look to the last.
pub record FolderWalked (format : Format) (order_of : List ℕ → ℕ) (known : KnownFolder)
    (Sees : Sights) (stamps : List ℕ) (first store : Store) (old new : Option Past)
    : Type 0 where
  pub messages : List Message
  pub keeps : List (Option ℕ)
  pub kept : keeps
      ≡ format.keep (mails_of first.archive known.listing) known.stamps messages stamps
  pub cores : KeepCores (λ raw. raw) first.archive keeps messages
  pub in_order : are_in_order messages ≡ true
  pub placed : ArePlaced order_of messages
  pub holds : Holds format first keeps messages store
  pub saw : GoesOn (Sees keeps messages stamps) old new

pub folder_listed : {A : Type 0} (format : Format) (order_of : List ℕ → ℕ) (known : KnownFolder)
    (given : A) (listing_of : A → List Listed) (stamps_of : A → List ℕ) (Sees : Sights)
    (first store : Store) (a c : Seen)
    → first.letters ≡ length first.archive → listing_of given ≡ store.listing
    → sum_refusal store.letters store.fresh store.count store.bytes ≡ None → OnlyLooks a c
    → GoesOn (λ p q. found_first known.path p q ≡ Some true) a.told c.told
    → format.MayRead known.path a c
    → (w : FolderWalked format order_of known Sees (stamps_of given) first store a.told c.told)
    → ListsFolder format order_of known first.archive store.archive (Ok given) listing_of stamps_of
    Sees a c
folder_listed format order_of known given listing_of stamps_of Sees first store a c letters same
    none only there within w =
    let taken : list_refusal first.letters w.keeps w.messages ≡ None =
    sym (held_refusal format first store w.keeps w.messages w.holds) ∙ none in
    record {
      ok = record {
        messages = w.messages;
        keeps = w.keeps;
        kept = w.kept;
        cores = w.cores;
        in_order = w.in_order;
        placed = w.placed;
        taken = subst (λ (n : ℕ). list_refusal n w.keeps w.messages ≡ None) letters taken;
        letters = w.holds.archive taken
            ∙ ap (λ (n : ℕ). first.archive ++ letters_by format.letter n w.keeps w.messages)
            letters;
        listed = same ∙ w.holds.listing taken
            ∙ ap (λ (n : ℕ). listed_by n w.keeps w.messages) letters;
        saw = w.saw;
      };
      refused = tt;
      first = tells_there (Ok given) known.path a.told c.told (λ is. (cc)) there;
      within = within;
      full = λ is. absurd (cc);
      only = only;
      cause = λ is. absurd (cc);
    }

-- a limit
abbrev pub IsLimit : ScanError → Type 0
IsLimit Missing = ⊥
IsLimit (NotMailbox place) = ⊥
IsLimit (TooMany count) = Unit {0}
IsLimit (TooLarge bytes) = Unit {0}
IsLimit Unfinished = ⊥
IsLimit ArchiveFull = Unit {0}
IsLimit Fault = ⊥
IsLimit NoMemory = ⊥

limit_only : (letters fresh count bytes : ℕ) (why : ScanError)
    → sum_refusal letters fresh count bytes ≡ Some why → IsLimit why
limit_only letters fresh count bytes why is =
    by_tests (nat_lt most_messages count) (nat_lt most_bytes bytes)
    (nat_lt most_letters (letters + fresh)) is
  where
    by_tests : (p q r : Bool)
        → (if p then Some (TooMany count) else (if q then Some (TooLarge (told_sum bytes)) else
        (if p then Some (TooMany count) else (if r then Some ArchiveFull else None)))) ≡ Some why
        → IsLimit why
    by_tests true q r is = let e : TooMany count ≡ why = cc in subst IsLimit e tt
    by_tests false true r is = let e : TooLarge (told_sum bytes) ≡ why = cc in subst IsLimit e tt
    by_tests false false true is = let e : ArchiveFull ≡ why = cc in subst IsLimit e tt
    by_tests false false false is = absurd (cc)

pub past_limit : (is_of_kind : List TreeNode → List ℕ → Bool)
    (Sees : List (Option ℕ) → List Message → List ℕ → Type 0) (letters : ℕ) (path : List ℕ)
    (keeps : List (Option ℕ)) (messages : List Message) (stamps : List ℕ) (why : ScanError)
    (m n : ℕ) (past : Past) → IsLimit why
    → list_refusal letters keeps messages ≡ Some why → Sees keeps messages stamps
    → DirectoryRefused is_of_kind Sees letters path why m n past
past_limit is_of_kind Sees letters path keeps messages stamps Missing m n past limit is sees =
    absurd limit
past_limit is_of_kind Sees letters path keeps messages stamps (NotMailbox place) m n past limit
    is sees = absurd limit
past_limit is_of_kind Sees letters path keeps messages stamps (TooMany count) m n past limit is
    sees = record { messages = messages; keeps = keeps; stamps = stamps; sees = sees; refused = is }
past_limit is_of_kind Sees letters path keeps messages stamps (TooLarge bytes) m n past limit is
    sees = record { messages = messages; keeps = keeps; stamps = stamps; sees = sees; refused = is }
past_limit is_of_kind Sees letters path keeps messages stamps Unfinished m n past limit is sees =
    limit
past_limit is_of_kind Sees letters path keeps messages stamps ArchiveFull m n past limit is sees =
    record { messages = messages; keeps = keeps; stamps = stamps; sees = sees; refused = is }
past_limit is_of_kind Sees letters path keeps messages stamps Fault m n past limit is sees = tt
past_limit is_of_kind Sees letters path keeps messages stamps NoMemory m n past limit is sees = tt

pub folder_refused : {A : Type 0} (format : Format) (order_of : List ℕ → ℕ) (known : KnownFolder)
    (why : ScanError) (listing_of : A → List Listed) (stamps_of : A → List ℕ) (Sees Met : Sights)
    (stamps : List ℕ) (first store : Store) (a c : Seen)
    → ((keeps : List (Option ℕ)) (messages : List Message) (p q : Past) → IsLimit why
    → list_refusal (length first.archive) keeps messages ≡ Some why
    → Finds format.keep (λ k m s. Met k m s p q) first.archive known keeps messages stamps
    → FolderRefused format first.archive known why p q)
    → first.letters ≡ length first.archive
    → sum_refusal store.letters store.fresh store.count store.bytes ≡ Some why → OnlyLooks a c
    → GoesOn (λ p q. found_first known.path p q ≡ Some true) a.told c.told
    → format.MayRead known.path a c
    → (w : FolderWalked format order_of known Met stamps first store a.told c.told)
    → ListsFolder {A = A} format order_of known first.archive store.archive (Err why) listing_of
    stamps_of Sees a c
folder_refused {A} format order_of known why listing_of stamps_of Sees Met stamps first store a c
    refuses letters some only there within w =
    let limit : IsLimit why =
    limit_only store.letters store.fresh store.count store.bytes why some in
    let is : list_refusal (length first.archive) w.keeps w.messages ≡ Some why =
    subst (λ (n : ℕ). list_refusal n w.keeps w.messages ≡ Some why) letters
    (sym (held_refusal format first store w.keeps w.messages w.holds) ∙ some) in
    record {
      ok = tt;
      refused = goes_as a.told c.told
          (λ p q saw. refuses w.keeps w.messages p q limit is
          (record { kept = w.kept; cores = w.cores; saw = saw })) w.saw;
      first = tells_there {A = A} (Err why) known.path a.told c.told
          (λ e. let missing : why ≡ Missing = cc in subst IsLimit missing limit) there;
      within = within;
      full = λ e. let full : why ≡ ArchiveFull = cc in
          full_near (length first.archive) (count_fresh w.keeps) (length w.messages)
          (bytes_together w.messages) (omega (arith, fresh_few w.keeps, w.holds.pairs))
          (is ∙ ap Some full);
      only = only;
      cause = λ e. let fault : why ≡ Fault = cc in absurd (subst IsLimit fault limit);
    }

-- a walk that failed
pub walk_failed : {A B : Type 0} (format : Format) (order_of : List ℕ → ℕ) (known : KnownFolder)
    (archive new_archive : List Mail) (why : ScanError) (listing_of : A → List Listed)
    (stamps_of : A → List ℕ) (Sees : Sights) (a b c : Seen)
    → ((p q : Past) → (why ≡ Fault) ⊎ (why ≡ NoMemory)
    → FolderRefused format archive known why p q)
    → OnlyLooks a b → GoesOn (λ p q. found_first known.path p q ≡ Some true) a.told b.told
    → format.MayRead known.path a c → OnlyMeets {A = B} (Err why) b c
    → ListsFolder {A = A} format order_of known archive new_archive (Err why) listing_of stamps_of
    Sees a c
walk_failed {A} format order_of known archive new_archive why listing_of stamps_of Sees a b c
    refuses before there within meets =
    let only : OnlyLooks a c = only_then a b c before meets.only in
    record {
      ok = tt;
      refused = goes_as a.told c.told (λ p q x. refuses p q meets.errors) only.looks;
      first = tells_there {A = A} (Err why) known.path a.told c.told
          (λ e. let missing : why ≡ Missing = cc in no_missing missing meets.errors)
          (stood_later known.path a.told b.told c.told before.looks meets.only.looks there);
      within = within;
      full = λ e. let full : why ≡ ArchiveFull = cc in absurd (no_full full meets.errors);
      only = only;
      cause = λ e. let fault : why ≡ Fault = cc in
          rose_later a.faults b.faults c.faults before.faults (meets.cause (ap Err fault));
    }
  where
    no_full : why ≡ ArchiveFull → (why ≡ Fault) ⊎ (why ≡ NoMemory) → ⊥
    no_full full (inl is) = cc
    no_full full (inr is) = cc

    no_missing : why ≡ Missing → (why ≡ Fault) ⊎ (why ≡ NoMemory) → ⊥
    no_missing missing (inl is) = cc
    no_missing missing (inr is) = cc

-- a fault and want of memory are no causes in the tree
pub no_cause : (is_of_kind : List TreeNode → List ℕ → Bool)
    (Sees : List (Option ℕ) → List Message → List ℕ → Type 0) (letters : ℕ) (path : List ℕ)
    (why : ScanError) (m n : ℕ) (past : Past) → (why ≡ Fault) ⊎ (why ≡ NoMemory)
    → DirectoryRefused is_of_kind Sees letters path why m n past
no_cause is_of_kind Sees letters path why m n past (inl is) =
    subst (λ (e : ScanError). DirectoryRefused is_of_kind Sees letters path e m n past) (sym is) tt
no_cause is_of_kind Sees letters path why m n past (inr is) =
    subst (λ (e : ScanError). DirectoryRefused is_of_kind Sees letters path e m n past) (sym is) tt

-- Listed messages and those that were met for them.

-- a listed message has the place, the key, the flags and the bytes of the message that was met
pub record IsMessage (listed : ListedMail) (message : Message) : Type 0 where
  pub order : listed.mail.order ≡ message.order
  pub key : listed.mail.key ≡ message.key
  pub flags : listed.flags ≡ message.flags
  pub core : listed.mail.core ≡ message.raw

-- a kind of directories: its letters hold their messages, a message is known by its key, and the
-- key gives its place
pub record IsDirectory (kind : Kind) (order_of : List ℕ → ℕ) : Type 0 where
  pub core : (mails : List Mail) (keeps : List (Option ℕ)) (messages : List Message)
      → KeepCores (λ raw. raw) mails keeps messages
      → KeepCores (format_of kind).core mails keeps messages
  pub letters : (id : ℕ) (message : Message)
      → IsMessage (listed_mail id message.flags ((format_of kind).letter id message)) message
  pub keys : (old : List ListedMail) (stamps : List ℕ) (messages : List Message) (new : List ℕ)
      → length ((format_of kind).keep old stamps messages new) ≡ length messages
      → KeepKeys old ((format_of kind).keep old stamps messages new) messages
  pub placed : (listed : List ListedMail) (known : KnownFolder) (told : Option Past)
      → (format_of kind).WasRead listed known told → PlacedByKey order_of listed

pub maildir_directory : IsDirectory Maildir order_of
maildir_directory = record {
  core = λ mails keeps messages cores. cores;
  letters = λ id message. record { order = refl; key = refl; flags = refl; core = refl };
  keys = λ old stamps messages new pairs. keys_kept old messages;
  placed = λ listed known told read. read.placed;
}

pub mh_directory : IsDirectory Mh number_at
mh_directory = record {
  core = λ mails keeps messages cores. cores;
  letters = λ id message. record { order = refl; key = refl; flags = refl; core = refl };
  keys = λ old stamps messages new pairs. stamps_kept old stamps messages new pairs;
  placed = λ listed known told read. read.placed;
}

placed_in : (order_of : List ℕ → ℕ) (old : List ListedMail) (listed : ListedMail)
    → PlacedByKey order_of old → IsIn listed old → listed.mail.order ≡ order_of listed.mail.key
placed_in order_of [] listed placed held = absurd held
placed_in order_of (first ∷ old) listed placed (inl same) =
    subst (λ (l : ListedMail). l.mail.order ≡ order_of l.mail.key) same placed.0
placed_in order_of (first ∷ old) listed placed (inr held) =
    placed_in order_of old listed placed.1 held

-- messages that were known are what their letters hold
pub kept_are : (order_of : List ℕ → ℕ) (mails : List Mail) (listing : List Listed)
    (keeps : List (Option ℕ)) (messages : List Message) → AreBelow (length mails) listing
    → PlacedByKey order_of (mails_of mails listing)
    → KeepKeys (mails_of mails listing) keeps messages
    → KeepCores (λ raw. raw) mails keeps messages → ArePlaced order_of messages
    → KeptAre IsMessage mails keeps messages
kept_are order_of mails listing [] [] below placed keys cores at = tt
kept_are order_of mails listing [] (message ∷ messages) below placed keys cores at = absurd keys
kept_are order_of mails listing (keep ∷ keeps) [] below placed keys cores at = absurd keys
kept_are order_of mails listing (None ∷ keeps) (message ∷ messages) below placed keys cores at =
    kept_are order_of mails listing keeps messages below placed keys cores at.1
kept_are order_of mails listing (Some id ∷ keeps) (message ∷ messages) below placed keys cores
    at =
    let known = keys.0 in
    let is = known_by_id mails listing id message.key known in (
      (
        id_below (length mails) listing id below is.0,
        record {
          order = ap (λ (m : Mail). m.order) is.1
              ∙ placed_in order_of (mails_of mails listing) known.listed placed known.held
              ∙ ap order_of known.key_is ∙ sym at.0;
          key = ap (λ (m : Mail). m.key) is.1 ∙ known.key_is;
          flags = refl;
          core = cores.0;
        },
      ),
      kept_are order_of mails listing keeps messages below placed keys.1 cores.1 at.1,
    )

-- listed letters rise as their messages are in order
rise_as : (listed : List ListedMail) (messages : List Message) → EachIs IsMessage listed messages
    → are_in_order messages ≡ true → mails_rise listed ≡ true
rise_as [] messages each ordered = refl
rise_as (a ∷ []) messages each ordered = refl
rise_as (a ∷ b ∷ listed) [] each ordered = absurd each
rise_as (a ∷ b ∷ listed) (m ∷ []) each ordered = absurd each.1
rise_as (a ∷ b ∷ listed) (m ∷ n ∷ messages) each ordered =
    let parts = and_parts (stands_before m n) (are_in_order (n ∷ messages)) ordered in
    let same : mail_before a.mail b.mail ≡ stands_before m n =
    λ i. is_lt (ordering_then (nat_cmp (each.0.order i) (each.1.0.order i))
    (slice_cmp nat_cmp (each.0.key i) (each.1.0.key i))) in
    and_from (mail_before a.mail b.mail) (mails_rise (b ∷ listed)) (same ∙ parts.0)
    (rise_as (b ∷ listed) (n ∷ messages) each.1 parts.1)

-- and have the places that their keys give
placed_as : (order_of : List ℕ → ℕ) (listed : List ListedMail) (messages : List Message)
    → EachIs IsMessage listed messages → ArePlaced order_of messages
    → PlacedByKey order_of listed
placed_as order_of [] messages each placed = tt
placed_as order_of (a ∷ listed) [] each placed = absurd each
placed_as order_of (a ∷ listed) (m ∷ messages) each placed = (
  each.0.order ∙ placed.0 ∙ sym (ap order_of each.0.key),
  placed_as order_of listed messages each.1 placed.1,
)

-- What a directory's listing is by its messages.

-- of what a scan lists of a directory: known ids, letters of all, as many as messages
pub record ListsMessages (order_of : List ℕ → ℕ) (old : List Listed) (new_archive : List Mail)
    (listing : List Listed) (keeps : List (Option ℕ)) (messages : List Message) : Type 0 where
  pub pairs : length keeps ≡ length messages
  pub ids : KeepIds old keeps
  pub each : EachIs IsMessage (mails_of new_archive listing) messages
  pub placed : PlacedByKey order_of (mails_of new_archive listing)

pub lists_messages : (kind : Kind) (order_of : List ℕ → ℕ) (archive new_archive : List Mail)
    (known : KnownFolder) (told : Option Past) (listing : List Listed) (stamps : List ℕ)
    (Sees : Sights) (old new : Option Past)
    → IsDirectory kind order_of → Right kind archive known told
    → (is : IsListing (format_of kind) order_of Sees archive new_archive known listing stamps old
    new)
    → ListsMessages order_of known.listing new_archive listing is.keeps is.messages
lists_messages kind order_of archive new_archive known told listing stamps Sees old new directory
    right is =
    record {
      pairs = pairs;
      ids = keys_ids archive known.listing is.keeps is.messages keys;
      each = each;
      placed = placed_as order_of (mails_of new_archive listing) is.messages each is.placed;
    }
  where
    pairs : length is.keeps ≡ length is.messages
    pairs = cores_pairs (λ raw. raw) archive is.keeps is.messages is.cores

    keys : KeepKeys (mails_of archive known.listing) is.keeps is.messages
    keys = subst (λ (k : List (Option ℕ)). KeepKeys (mails_of archive known.listing) k is.messages)
        (sym is.kept)
        (directory.keys (mails_of archive known.listing) known.stamps is.messages stamps
        (ap length (sym is.kept) ∙ pairs))

    each : EachIs IsMessage (mails_of new_archive listing) is.messages
    each = subst (λ (l : List ListedMail). EachIs IsMessage l is.messages)
        (λ i. mails_of (sym is.letters i) (sym is.listed i))
        (each_listed IsMessage (format_of kind).letter directory.letters archive (length archive)
        is.keeps is.messages refl
        (kept_are order_of archive known.listing is.keeps is.messages right.within
        (directory.placed (mails_of archive known.listing) known told right.read) keys is.cores
        is.placed))

-- What is known of a directory after a scan is right.
right_listed : (kind : Kind) (order_of : List ℕ → ℕ) (archive new_archive : List Mail)
    (known : KnownFolder) (told : Option Past) (listing : List Listed) (stamps : List ℕ)
    (Sees : Sights) (old new : Option Past) → Right kind archive known told
    → (is : IsListing (format_of kind) order_of Sees archive new_archive known listing stamps old
    new)
    → ListsMessages order_of known.listing new_archive listing is.keeps is.messages
    → (format_of kind).WasRead (mails_of new_archive listing) (known_listed known listing stamps)
    new
    → Right kind new_archive (known_listed known listing stamps) new
right_listed kind order_of archive new_archive known told listing stamps Sees old new right is lists
    read =
    let fresh = letters_length (format_of kind).letter (length archive) is.keeps is.messages
    lists.pairs in
    let grown = length-append archive
    (letters_by (format_of kind).letter (length archive) is.keeps is.messages) in
    let within = none_within (length archive) (count_fresh is.keeps) (length is.messages)
    (bytes_together is.messages) is.taken in
    let many = listed_length (length archive) is.keeps is.messages lists.pairs in
    record {
      within = subst (AreBelow (length new_archive)) (sym is.listed)
          (listed_below (length archive) (length archive) (length new_archive) known.listing is.keeps
          is.messages right.within (omega arith)
          (omega (arith, ap length is.letters, grown, fresh)) lists.ids);
      ordered = rise_as (mails_of new_archive listing) is.messages lists.each is.in_order;
      few = omega (arith, ap length is.listed, many, within.messages);
      read = read;
    }

-- What was found is how the listing changed.
found_listed : (kind : Kind) (order_of : List ℕ → ℕ) (archive new_archive : List Mail)
    (known : KnownFolder) (told : Option Past) (listing : List Listed) (stamps : List ℕ)
    (Sees : Sights) (found : Found) (old new : Option Past) → Right kind archive known told
    → (is : IsListing (format_of kind) order_of Sees archive new_archive known listing stamps old
    new)
    → ListsMessages order_of known.listing new_archive listing is.keeps is.messages
    → IsDifference known.listing listing found
    → ListsFound found archive new_archive known (known_listed known listing stamps)
found_listed kind order_of archive new_archive known told listing stamps Sees found old new right is
    lists difference =
    let came : found.came.items
    ≡ came_of known.listing (listed_by (length archive) is.keeps is.messages) =
    difference.came ∙ ap (came_of known.listing) is.listed in
    let new_ones : CameNew (length archive) (count_fresh is.keeps)
    (came_of known.listing (listed_by (length archive) is.keeps is.messages)) =
    came_new (length archive) (length archive) known.listing is.keeps is.messages right.within
    (omega arith) lists.pairs lists.ids in
    record {
      difference = difference;
      ids = ap (map (λ listed. listed.id)) came ∙ new_ones.ids
          ∙ ap (ids_from (length archive)) (sym came);
      added = letters_by (format_of kind).letter (length archive) is.keeps is.messages;
      archived = is.letters;
      each = letters_length (format_of kind).letter (length archive) is.keeps is.messages
          lists.pairs ∙ sym new_ones.many ∙ ap length (sym came);
      kept = refl;
    }

-- what a kind tells of a known folder that was listed so
pub record TellsKind (kind : Kind) (order_of : List ℕ → ℕ) (archive new_archive : List Mail)
    (known : KnownFolder) (listing : List Listed) (stamps : List ℕ) (Sees : Sights)
    (old new : Option Past) : Type 1 where
  pub sees : (keeps : List (Option ℕ)) (messages : List Message) (p q : Past)
      → list_refusal (length archive) keeps messages ≡ None → Sees keeps messages stamps p q
      → (format_of kind).Saw (length archive) keeps (known_listed known listing stamps) messages
      (length p.journal) (length q.journal) q
  pub read : (is : IsListing (format_of kind) order_of Sees archive new_archive known listing
      stamps old new)
      → ListsMessages order_of known.listing new_archive listing is.keeps is.messages
      → (format_of kind).WasRead (mails_of new_archive listing)
      (known_listed known listing stamps) new

pub known_scanned : {A : Type 0} (kind : Kind) (order_of : List ℕ → ℕ)
    (archive new_archive : List Mail) (known new_known : KnownFolder) (given : A)
    (listing_of : A → List Listed) (stamps_of : A → List ℕ) (Sees : Sights) (found : Found)
    (a c : Seen)
    → IsDirectory kind order_of → Right kind archive known a.told
    → TellsKind kind order_of archive new_archive known (listing_of given) (stamps_of given) Sees
    a.told c.told
    → new_known ≡ known_listed known (listing_of given) (stamps_of given)
    → IsDifference known.listing (listing_of given) found
    → ListsFolder (format_of kind) order_of known archive new_archive (Ok given) listing_of
    stamps_of Sees a c
    → (format_of kind).Costs known (letters_behind archive new_archive) a c
    → ScansFolder kind archive new_archive known new_known (Ok found) a c
known_scanned kind order_of archive new_archive known new_known given listing_of stamps_of Sees
    found a c directory right tells put difference lists costs =
    subst (λ (k : KnownFolder). ScansFolder kind archive new_archive known k (Ok found) a c)
    (sym put) (record {
      saw = goes_as a.told c.told (λ p q saw. record {
        messages = lists.ok.messages;
        keeps = lists.ok.keeps;
        kept = lists.ok.kept;
        cores = directory.core archive lists.ok.keeps lists.ok.messages lists.ok.cores;
        saw = tells.sees lists.ok.keeps lists.ok.messages p q lists.ok.taken saw;
        letters = lists.ok.letters;
        listed = lists.ok.listed;
      }) lists.ok.saw;
      lists = found_listed kind order_of archive new_archive known a.told (listing_of given)
          (stamps_of given) Sees found a.told c.told right lists.ok whole difference;
      reads = costs;
      first = tells_there (Ok found) known.path a.told c.told (λ e. (cc))
          (stood_first given known.path a.told c.told lists.first);
      within = lists.within;
      right = right_listed kind order_of archive new_archive known a.told (listing_of given)
          (stamps_of given) Sees a.told c.told right lists.ok whole (tells.read lists.ok whole);
      err_known = tt;
      full = λ is. absurd (cc);
      only = lists.only;
      cause = λ is. absurd (cc);
    })
  where
    whole : ListsMessages order_of known.listing new_archive (listing_of given) lists.ok.keeps
        lists.ok.messages
    whole = lists_messages kind order_of archive new_archive known a.told (listing_of given)
        (stamps_of given) Sees a.told c.told directory right lists.ok
