-- What a scan has seen and what it leaves, by its looks and by what it lists.
use Rattle.std.proofs.Common.{◌≡◌, ◌≤◌, ◌<◌, ◌+◌, ◌-◌, ◌++◌, ℕ, Bool, true, false, List, [], ◌∷◌}
use Rattle.std.proofs.Common.{Option, Some, None, Result, Ok, Err, IfNone, inl, length, map, nat_lt}
use Rattle.std.proofs.Common.{if◌then◌else◌, refl, sym, ◌∙◌, ap, subst, arith, length-append}
use Rattle.std.proofs.Common.{ltb-false, ltb-true}
use Rattle.std.specs.Prelude.{option_and_then, unwrap_or}
use Rattle.std.proofs.lemmas.List.{length-map}
use Rattle.mail_base.specs.declared.kind.Kind.TheVariants.{Mbox}
use Rattle.disk_model.specs.Tree.{TreeNode, node_at}
use Rattle.disk_model.specs.Journal.{NoForeign, Past}
use Rattle.disk_model.specs.Judge.{GoesOn}
use Rattle.disk_model.specs.Looking.{LooksOnly}
use Rattle.disk_model.specs.State.{tree_after, tree_at}
use Rattle.disk_model.proofs.Marks.{tree_at-length}
use Rattle.disk_model.specs.declared.answers.FileRead.{FileRead}
use Rattle.folder_letters.specs.Letters.{Mail, plain_letter}
use Rattle.folder_letters.specs.declared.letter.Letter.{Letter}
use Rattle.folder_letters.specs.Listings.{ids_from}
use Rattle.folder_letters.specs.declared.listing.Found.{Found}
use Rattle.folder_letters.specs.declared.listing.Listed.{Listed}
use Rattle.folder_core.specs.Bore.{Bore, IfTold}
use Rattle.folder_core.specs.Directory.{AloneBetween, node_file, stamp_there}
use Rattle.folder_core.specs.FirstLook.{TellsMissing}
use Rattle.folder_core.specs.Keeping.{ListedMail, count_fresh, letters_by, listed_by, mails_of}
use Rattle.folder_core.specs.Known.{KnownFolder}
use Rattle.folder_core.specs.Limits.{count_refusal, most_bytes, most_letters, most_messages}
use Rattle.folder_core.specs.Mbox.{IsKeptStamp, KeptStamp, begins_mailbox, bytes_of, bytes_refusal}
use Rattle.folder_core.specs.Mbox.{core, file_reads, file_refusal, mbox_message, mbox_refusal}
use Rattle.folder_core.specs.Mbox.{mbox_refused, messages_in, messages_of, node_reads, raw_messages}
use Rattle.folder_core.specs.Mbox.{stamps_of}
use Rattle.folder_core.specs.Right.{Right}
use Rattle.folder_core.specs.Scanned.{ListsFound, Saw}
use Rattle.folder_core.specs.declared.error.ScanError.{ScanError}
use Rattle.folder_core.specs.declared.error.ScanError.TheVariants.{Missing, NotMailbox, TooMany}
use Rattle.folder_core.specs.declared.error.ScanError.TheVariants.{TooLarge, Unfinished}
use Rattle.folder_core.specs.declared.error.ScanError.TheVariants.{ArchiveFull, Fault, NoMemory}
use Rattle.folder_core.proofs.FirstLookLemmas.{told_there}
use Rattle.folder_core.proofs.KeepingLemmas.{EachIs, came_new, came_of, each_listed, front_ids}
use Rattle.folder_core.proofs.KeepingLemmas.{front_length, letters_length, listed_below}
use Rattle.folder_core.proofs.KeepingLemmas.{listed_length}
use Rattle.folder_core.proofs.RightLemmas.{right_same}
use Rattle.folder_core.proofs.SeenLemmas.{alone_foreign, goes_as}
use Rattle.mbox_folder.specs.FileSeen.{ChangeSeen, IsFile, bytes_now, stamps_now}
use Rattle.mbox_folder.specs.ListedFile.{FindsFile, IsStatedCause, IsUnlisted, ListsFile}
use Rattle.mbox_folder.specs.ListedFile.{known_file, stay_count}
use Rattle.mbox_folder.proofs.Rising.{new_rise, old_rise, rise_back}
use Rattle.mbox_folder.proofs.Staying.{IsMessage, all_are, cores_kept, count_both, first_are}
use Rattle.mbox_folder.proofs.Staying.{fresh_count, keeps_of, kept_are, letter_by, letters_new}
use Rattle.mbox_folder.proofs.Staying.{listing_new, new_is, placed_are}

-- The file of a mark.

read_as : (there : Option TreeNode) (bytes : List ℕ)
    → option_and_then node_file there ≡ Some bytes → node_reads there ≡ messages_of bytes
read_as None bytes is = absurd (cc)
read_as (Some node) bytes is = ap file_reads is

bytes_are : (there : Option TreeNode) (bytes : List ℕ)
    → option_and_then node_file there ≡ Some bytes → bytes_of there ≡ bytes
bytes_are None bytes is = absurd (cc)
bytes_are (Some node) bytes is = ap (λ (b : Option (List ℕ)). unwrap_or b []) is

stamp_is : (there : Option TreeNode) (bytes : List ℕ) (stamp : ℕ)
    → option_and_then node_file there ≡ Some bytes → stamps_of there ≡ stamp ∷ []
    → stamp_there there ≡ stamp
stamp_is None bytes stamp is at = absurd (cc)
stamp_is (Some node) bytes stamp is at = cc

refused_as : (there : Option TreeNode) (bytes stamps : List ℕ) (letters : ℕ) (old : List ListedMail)
    → IsFile bytes stamps there → mbox_refusal letters old there ≡ bytes_refusal letters old bytes
refused_as None bytes stamps letters old file = absurd (let no = file.content in cc)
refused_as (Some node) bytes stamps letters old file =
    ap (file_refusal letters old) file.content
    ∙ ap (λ (b : Bool). if b then Some (TooLarge (length bytes))
    else bytes_refusal letters old bytes)
    file.few

messages_listed : (bytes : List ℕ) → begins_mailbox bytes ≡ true
    → messages_of bytes ≡ Some (messages_in bytes)
messages_listed bytes begins =
    ap (λ (b : Bool). if b then Some (messages_in bytes) else None) begins

-- the tree at the mark of a look is that at the end, where nobody else acted
alone_tree : (mark : ℕ) (past next : Past)
    → (NoForeign past next → tree_at next mark ≡ tree_after next)
    → AloneBetween (length past.journal) (length next.journal) next
    → tree_at next mark ≡ tree_at next (length next.journal)
alone_tree mark past next alone none =
    alone (alone_foreign past next none) ∙ sym (tree_at-length next)

-- The messages that are listed, by what each was known as.

-- what each message of a file was known as
abbrev pub keeps_in : List Mail → List Listed → List ℕ → List (Option ℕ)
keeps_in archive old bytes = keeps_of (mails_of archive old) (raw_messages bytes)

pub record IsListed (bytes : List ℕ) (archive new_archive : List Mail) (old new : List Listed)
    : Type 0 where
  pub taken : count_refusal (length archive) (count_fresh (keeps_in archive old bytes))
      (length (messages_in bytes)) ≡ None
  pub letters : new_archive ≡ archive ++ letters_by letter_by (length archive)
      (keeps_in archive old bytes) (messages_in bytes)
  pub listed : new ≡ listed_by (length archive) (keeps_in archive old bytes) (messages_in bytes)

pub is_listed : (bytes : List ℕ) (archive new_archive : List Mail) (old new : List Listed)
    → ListsFile bytes archive new_archive old new → IsListed bytes archive new_archive old new
is_listed bytes archive new_archive old new lists =
    let raws = raw_messages bytes in
    let ms = mails_of archive old in
    record {
      taken = ap (λ (n : ℕ). count_refusal (length archive) n (length (messages_in bytes)))
          (fresh_count ms raws)
          ∙ ap (count_refusal (length archive) (length raws - stay_count ms raws))
          (length-map raws mbox_message)
          ∙ lists.taken;
      letters = lists.letters
          ∙ ap (λ (l : List Mail). archive ++ l) (sym (letters_new (length archive) ms raws));
      listed = lists.listed ∙ sym (listing_new (length archive) archive old raws);
    }

-- What was seen.

saw_listed : (file : Option FileRead) (found : Found) (archive new_archive : List Mail)
    (known : KnownFolder) (listing : List Listed) (old new : Option Past)
    → ListsFile (bytes_now known file) archive new_archive known.listing listing
    → nat_lt most_bytes (length (bytes_now known file)) ≡ false
    → GoesOn (ChangeSeen known (Ok file)) old new
    → GoesOn (Saw Mbox archive new_archive known (known_file known listing file) (Ok found)) old new
saw_listed file found archive new_archive known listing old new lists few seen =
    let bytes = bytes_now known file in
    let is = is_listed bytes archive new_archive known.listing listing lists in
    goes_as old new (λ past next at. record {
      messages = messages_in bytes;
      keeps = keeps_in archive known.listing bytes;
      kept = refl;
      cores = cores_kept archive known.listing (raw_messages bytes);
      saw = record {
        mark = at.mark;
        from = at.from;
        to = at.to;
        few = few;
        taken = is.taken;
        read = read_as (node_at (tree_at next at.mark) known.path) bytes at.is.content
            ∙ messages_listed bytes lists.begins;
        bytes = sym (bytes_are (node_at (tree_at next at.mark) known.path) bytes at.is.content);
        stamps = sym at.is.stamp;
        alone = alone_tree at.mark past next at.alone;
      };
      letters = is.letters;
      listed = is.listed;
    }) seen

pub saw_found : (file : Option FileRead) (found : Found) (archive new_archive : List Mail)
    (known new_known : KnownFolder) (old new : Option Past)
    → FindsFile file archive new_archive known new_known found
    → nat_lt most_bytes (length (bytes_now known file)) ≡ false
    → GoesOn (ChangeSeen known (Ok file)) old new
    → GoesOn (Saw Mbox archive new_archive known new_known (Ok found)) old new
saw_found file found archive new_archive known new_known old new finds few seen =
    subst (λ (k : KnownFolder). GoesOn (Saw Mbox archive new_archive known k (Ok found)) old new)
    (sym finds.put)
    (saw_listed file found archive new_archive known new_known.listing old new finds.lists few seen)

-- What is right afterwards.

bore_now : (known : KnownFolder) (file : Option FileRead) (stamp : ℕ) (old new : Option Past)
    → stamps_now known file ≡ stamp ∷ [] → GoesOn (ChangeSeen known (Ok file)) old new
    → IfTold (Bore (bytes_now known file) stamp) new
bore_now known file stamp None new single seen =
    subst (IfTold (Bore (bytes_now known file) stamp)) (sym seen) tt
bore_now known file stamp (Some past) None single seen = absurd seen
bore_now known file stamp (Some past) (Some next) single seen =
    let there = node_at (tree_at next seen.mark) known.path in
    record {
      mark = seen.mark;
      within = seen.to;
      path = known.path;
      there = seen.is.content;
      stamp_is = stamp_is there (bytes_now known file) stamp seen.is.content
          (seen.is.stamp ∙ single);
    }

kept_stamps : (listed : List ListedMail) (known : KnownFolder) (stamps : List ℕ) (stamp : ℕ)
    (told : Option Past) → stamps ≡ stamp ∷ [] → KeptStamp listed known stamp told
    → IsKeptStamp listed known stamps told
kept_stamps listed known stamps stamp told single kept =
    subst (λ (l : List ℕ). IsKeptStamp listed known l told) (sym single) kept

-- a count that is not refused is no more than may be listed
taken_few : (letters fresh count : ℕ) → count_refusal letters fresh count ≡ None
    → count ≤ most_messages
taken_few letters fresh count taken = by_test (nat_lt most_messages count) refl taken
  where
    by_test : (t : Bool) → nat_lt most_messages count ≡ t
        → (if t then Some (TooMany count)
        else (if nat_lt most_letters (letters + fresh) then Some ArchiveFull else None)) ≡ None
        → count ≤ most_messages
    by_test true many is = absurd (cc)
    by_test false many is = omega (arith, ltb-false most_messages count many)

right_listed : (file : Option FileRead) (archive : List Mail) (known : KnownFolder) (stamp : ℕ)
    (old new : Option Past) → Right Mbox archive known old
    → begins_mailbox (bytes_now known file) ≡ true
    → nat_lt most_bytes (length (bytes_now known file)) ≡ false
    → count_refusal (length archive)
    (count_fresh (keeps_in archive known.listing (bytes_now known file)))
    (length (messages_in (bytes_now known file))) ≡ None
    → stamps_now known file ≡ stamp ∷ [] → GoesOn (ChangeSeen known (Ok file)) old new
    → Right Mbox
    (archive ++ letters_by letter_by (length archive)
    (keeps_in archive known.listing (bytes_now known file)) (messages_in (bytes_now known file)))
    (known_file known
    (listed_by (length archive) (keeps_in archive known.listing (bytes_now known file))
    (messages_in (bytes_now known file)))
    file) new
right_listed file archive known stamp old new right begins few taken single seen =
    let bytes = bytes_now known file in
    let raws = raw_messages bytes in
    let messages = messages_in bytes in
    let keeps = keeps_in archive known.listing bytes in
    let letters = letters_by letter_by (length archive) keeps messages in
    let listing = listed_by (length archive) keeps messages in
    let pairs : length keeps ≡ length messages =
    front_length core (mails_of archive known.listing) messages in
    let each : EachIs IsMessage (mails_of (archive ++ letters) listing) messages =
    each_listed IsMessage letter_by new_is archive (length archive) keeps messages refl
    (kept_are archive known.listing raws right.within right.read.placed) in
    let placed = placed_are (mails_of (archive ++ letters) listing) messages each in
    record {
      within = listed_below (length archive) (length archive) (length (archive ++ letters))
          known.listing keeps messages right.within (omega arith)
          (omega (
            arith,
            length-append archive letters,
            letters_length letter_by (length archive) keeps messages pairs,
          ))
          (front_ids core archive known.listing messages);
      ordered = rise_back (archive ++ letters) 0 listing placed
          (new_rise 0 (length archive) archive known.listing raws (omega arith) right.within
          (old_rise archive known.listing right.ordered right.read.placed));
      few = omega (
        arith,
        listed_length (length archive) keeps messages pairs,
        taken_few (length archive) (count_fresh keeps) (length messages) taken,
      );
      read = record {
        placed = placed;
        few = few;
        begins = begins;
        first = first_are (mails_of (archive ++ letters) listing) messages each;
        stamp = kept_stamps (mails_of (archive ++ letters) listing) (known_file known listing file)
            (stamps_now known file) stamp new single
            (record {
              all = all_are (mails_of (archive ++ letters) listing) messages each;
              bore = bore_now known file stamp old new single seen;
            });
      };
    }

-- the file has one stamp
single_stamp : (known : KnownFolder) (file : Option FileRead)
    → IfNone file ((stamp : ℕ) × (known.stamps ≡ stamp ∷ []))
    → (stamp : ℕ) × (stamps_now known file ≡ stamp ∷ [])
single_stamp known None kept = kept
single_stamp known (Some file) kept = (file.stat.stamp, refl)

pub right_found : (file : Option FileRead) (found : Found) (archive new_archive : List Mail)
    (known new_known : KnownFolder) (old new : Option Past)
    → Right Mbox archive known old
    → FindsFile file archive new_archive known new_known found
    → nat_lt most_bytes (length (bytes_now known file)) ≡ false
    → IfNone file ((stamp : ℕ) × (known.stamps ≡ stamp ∷ []))
    → GoesOn (ChangeSeen known (Ok file)) old new
    → Right Mbox new_archive new_known new
right_found file found archive new_archive known new_known old new right finds few kept seen =
    let bytes = bytes_now known file in
    let is = is_listed bytes archive new_archive known.listing new_known.listing finds.lists in
    let single = single_stamp known file kept in
    subst (λ (k : KnownFolder). Right Mbox new_archive k new) (sym finds.put)
    (subst (λ (l : List Listed). Right Mbox new_archive (known_file known l file) new)
    (sym is.listed)
    (subst (λ (a : List Mail). Right Mbox a (known_file known
    (listed_by (length archive) (keeps_in archive known.listing bytes) (messages_in bytes)) file)
    new)
    (sym is.letters)
    (right_listed file archive known single.0 old new right finds.lists.begins few is.taken single.1
    seen)))

-- What was found.

pub lists_found : (file : Option FileRead) (found : Found) (archive new_archive : List Mail)
    (known new_known : KnownFolder) (told : Option Past) → Right Mbox archive known told
    → FindsFile file archive new_archive known new_known found
    → ListsFound found archive new_archive known new_known
lists_found file found archive new_archive known new_known told right finds =
    let bytes = bytes_now known file in
    let messages = messages_in bytes in
    let keeps = keeps_in archive known.listing bytes in
    let is = is_listed bytes archive new_archive known.listing new_known.listing finds.lists in
    let pairs : length keeps ≡ length messages =
    front_length core (mails_of archive known.listing) messages in
    let came = came_new (length archive) (length archive) known.listing keeps messages right.within
    (omega arith) pairs (front_ids core archive known.listing messages) in
    let same : found.came.items
    ≡ came_of known.listing (listed_by (length archive) keeps messages) =
    finds.difference.came ∙ ap (came_of known.listing) is.listed in
    record {
      difference = finds.difference;
      ids = subst (λ (l : List Listed). map (λ listed. listed.id) l ≡ ids_from (length archive) l)
          (sym same) came.ids;
      added = letters_by letter_by (length archive) keeps messages;
      archived = is.letters;
      each = letters_length letter_by (length archive) keeps messages pairs
          ∙ sym came.many ∙ ap length (sym same);
      kept = subst (λ (k : KnownFolder). k ≡ record known
          { listing = new_known.listing; bytes = k.bytes; stamps = k.stamps }) (sym finds.put) refl;
    }

-- A refusal was seen.

-- a cause that the tree shows at a mark
refused_at : (why : ScanError) (mails : List Mail) (known : KnownFolder) (mark m n : ℕ)
    (past : Past)
    → m ≤ mark → mark ≤ n
    → IsStatedCause why (mbox_refusal (length mails) (mails_of mails known.listing)
    (node_at (tree_at past mark) known.path))
    → mbox_refused mails known why m n past
refused_at Missing mails known mark m n past from to is =
    record { mark = mark; from = from; to = to; refused = is }
refused_at (NotMailbox place) mails known mark m n past from to is =
    inl (record { mark = mark; from = from; to = to; refused = is })
refused_at (TooMany count) mails known mark m n past from to is =
    record { mark = mark; from = from; to = to; refused = is }
refused_at (TooLarge size) mails known mark m n past from to is =
    record { mark = mark; from = from; to = to; refused = is }
refused_at Unfinished mails known mark m n past from to is =
    record { mark = mark; from = from; to = to; refused = is }
refused_at ArchiveFull mails known mark m n past from to is =
    record { mark = mark; from = from; to = to; refused = is }
refused_at Fault mails known mark m n past from to is = tt
refused_at NoMemory mails known mark m n past from to is = tt

list_tells : (why : ScanError) (bytes stamps : List ℕ) (letters : ℕ) (old : List ListedMail)
    (there : Option TreeNode) → IsUnlisted bytes old letters why → IsFile bytes stamps there
    → IsStatedCause why (mbox_refusal letters old there)
list_tells Missing bytes stamps letters old there told is =
    refused_as there bytes stamps letters old is ∙ told
list_tells (NotMailbox place) bytes stamps letters old there told is =
    refused_as there bytes stamps letters old is ∙ told
list_tells (TooMany count) bytes stamps letters old there told is =
    refused_as there bytes stamps letters old is ∙ told
list_tells (TooLarge size) bytes stamps letters old there told is =
    refused_as there bytes stamps letters old is ∙ told
list_tells Unfinished bytes stamps letters old there told is =
    refused_as there bytes stamps letters old is ∙ told
list_tells ArchiveFull bytes stamps letters old there told is =
    refused_as there bytes stamps letters old is ∙ told
list_tells Fault bytes stamps letters old there told is = tt
list_tells NoMemory bytes stamps letters old there told is = tt

pub saw_unlisted : (why : ScanError) (file : Option FileRead) (archive new_archive : List Mail)
    (known new_known : KnownFolder) (old new : Option Past)
    → IsUnlisted (bytes_now known file) (mails_of archive known.listing) (length archive) why
    → GoesOn (ChangeSeen known (Ok file)) old new
    → GoesOn (Saw Mbox archive new_archive known new_known (Err why)) old new
saw_unlisted why file archive new_archive known new_known old new told seen =
    goes_as old new
    (λ past next at. refused_at why archive known at.mark (length past.journal)
    (length next.journal) next at.from at.to
    (list_tells why (bytes_now known file) (stamps_now known file) (length archive)
    (mails_of archive known.listing) (node_at (tree_at next at.mark) known.path) told at.is))
    seen

-- What the first look has found.

-- a file that was met stood at the path
pub file_first : {A B : Type 0} (result : Result A ScanError) (given : B) (path : List ℕ)
    (old new : Option Past) → (result ≡ Err Missing → ⊥)
    → GoesOn (TellsMissing (Ok given) path) old new → GoesOn (TellsMissing result path) old new
file_first result given path old new other first =
    goes_as old new (λ p q t. told_there result path p q other (t.there refl)) first

-- a file that was met is not missing
pub no_missing : (why : ScanError) (bytes : List ℕ) (old : List ListedMail) (letters : ℕ)
    → why ≡ Missing → IsUnlisted bytes old letters why → ⊥
no_missing why bytes old letters missing told =
    begun (begins_mailbox bytes)
    (subst (λ (e : ScanError). IsUnlisted bytes old letters e) missing told)
  where
    fresh : ℕ
    fresh = count_fresh (keeps_of old (raw_messages bytes))

    begun : (t : Bool) → (if t then count_refusal letters fresh (length (raw_messages bytes))
        else Some (NotMailbox 0)) ≡ Some Missing → ⊥
    begun false is = cc
    begun true is = by_count (nat_lt most_messages (length (raw_messages bytes)))
        (nat_lt most_letters (letters + fresh)) is
      where
        by_count : (p q : Bool) → (if p then Some (TooMany (length (raw_messages bytes)))
            else (if q then Some ArchiveFull else None)) ≡ Some Missing → ⊥
        by_count true q is = cc
        by_count false true is = cc
        by_count false false is = cc

-- A file is refused for want of ids only where they may run out.
full_count : (letters fresh count : ℕ) → fresh ≤ count
    → count_refusal letters fresh count ≡ Some ArchiveFull → most_letters < letters + most_messages
full_count letters fresh count low is = many (nat_lt most_messages count) refl is
  where
    many : (t : Bool) → nat_lt most_messages count ≡ t
        → (if t then Some (TooMany count) else
        (if nat_lt most_letters (letters + fresh) then Some ArchiveFull else None))
        ≡ Some ArchiveFull
        → most_letters < letters + most_messages
    many true over is = absurd (cc)
    many false over is = out (nat_lt most_letters (letters + fresh)) refl is
      where
        out : (u : Bool) → nat_lt most_letters (letters + fresh) ≡ u
            → (if u then Some ArchiveFull else None) ≡ Some ArchiveFull
            → most_letters < letters + most_messages
        out true past is = omega (
          arith,
          low,
          ltb-false most_messages count over,
          ltb-true most_letters (letters + fresh) past,
        )
        out false past is = absurd (cc)

pub full_unlisted : (letters : ℕ) (bytes : List ℕ) (old : List ListedMail) (why : ScanError)
    → why ≡ ArchiveFull → IsUnlisted bytes old letters why
    → most_letters < letters + most_messages
full_unlisted letters bytes old why full told =
    begun (begins_mailbox bytes) refl
    (subst (λ (e : ScanError). IsUnlisted bytes old letters e) full told)
  where
    fresh : ℕ
    fresh = count_fresh (keeps_of old (raw_messages bytes))

    begun : (t : Bool) → begins_mailbox bytes ≡ t
        → (if t then count_refusal letters fresh (length (raw_messages bytes))
        else Some (NotMailbox 0)) ≡ Some ArchiveFull
        → most_letters < letters + most_messages
    begun true begins is =
        full_count letters fresh (length (raw_messages bytes))
        (omega (arith, count_both old (raw_messages bytes))) is
    begun false begins is = absurd (cc)

-- after a refusal all is as right as before
pub right_kept : (letters left : List Letter) (known k : KnownFolder) (old new : Option Past)
    → left ≡ letters → k ≡ known → LooksOnly old new
    → Right Mbox (map plain_letter letters) known old → Right Mbox (map plain_letter left) k new
right_kept letters left known k old new same as_before looks right =
    subst (λ (l : List Letter). Right Mbox (map plain_letter l) k new) (sym same)
    (subst (λ (x : KnownFolder). Right Mbox (map plain_letter letters) x new) (sym as_before)
    (right_same Mbox (map plain_letter letters) known old new looks right))
