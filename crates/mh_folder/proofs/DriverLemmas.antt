-- What a scan of an MH folder has seen, by its names, its sequences and its walk.
use Rattle.std.proofs.Common.{◌≡◌, ◌≤◌, ◌+◌, ◌⊎◌, ℕ, Bool, true, List, [], Option}
use Rattle.std.proofs.Common.{Some}
use Rattle.std.proofs.Common.{None, Ok, Err, length, map}
use Rattle.std.proofs.Common.{is_some}
use Rattle.std.proofs.Common.{if◌then◌else◌, refl, sym, ◌∙◌, ap, subst, arith}
use Rattle.std.specs.Prelude.{option_and_then}
use Rattle.std.specs.List.{filter_map}
use Rattle.std.proofs.lemmas.List.{length-map}
use Rattle.mail_base.specs.declared.kind.Kind.TheVariants.{Mh}
use Rattle.disk_model.specs.Journal.{NoForeign, Past, ReadAll}
use Rattle.disk_model.specs.Judge.{GoesOn}
use Rattle.disk_model.specs.Looking.{HasLooked, LooksOnly, OnlyLooks}
use Rattle.disk_model.specs.Names.{names_in}
use Rattle.disk_model.specs.Seen.{Seen}
use Rattle.disk_model.specs.State.{tree_at}
use Rattle.disk_model.specs.Tree.{TreeNode}
use Rattle.disk_model.proofs.Looking.{looked_longer, looked_then, looks_same, looks_then}
use Rattle.disk_model.proofs.Marks.{tree_at-longer, tree_at-looked}
use Rattle.folder_core.specs.Costs.{RaisesAtMost}
use Rattle.folder_core.specs.Directory.{Finds as FindsMessages, ReadsAs, file_at, is_folder_at}
use Rattle.folder_core.specs.Directory.{path_in}
use Rattle.folder_core.specs.DirectoryScan.{FolderRefused, ListsFolder, ScansFolder}
use Rattle.folder_core.specs.FirstLook.{TellsMissing, found_first}
use Rattle.folder_core.specs.Keeping.{AreThere, IsThere, kept_by_stamp, mails_of}
use Rattle.folder_core.specs.Known.{KnownFolder}
use Rattle.folder_letters.specs.Letters.{Mail, plain_letter}
use Rattle.folder_letters.specs.declared.letter.Letter.{Letter}
use Rattle.folder_core.specs.Limits.{list_refusal, most_bytes}
use Rattle.folder_core.specs.ListedSoFar.{Holds, Store, store_refusal}
use Rattle.folder_core.specs.Looked.{SawAt}
use Rattle.folder_core.specs.Message.{Message}
use Rattle.folder_core.specs.Mh.{HeldSequences, ReadsBeside}
use Rattle.folder_core.specs.Mh.{message_at, message_of, mh_format, mh_messages, mh_reads}
use Rattle.folder_core.specs.Mh.{number_at, numbers_of, sequences_at, sequences_path}
use Rattle.folder_core.specs.Right.{Right}
use Rattle.folder_core.specs.Scanned.{Saw, Scans}
use Rattle.folder_core.specs.declared.error.ScanError.{ScanError}
use Rattle.folder_core.specs.declared.error.ScanError.TheVariants.{ArchiveFull, Fault, NoMemory}
use Rattle.folder_letters.specs.declared.listing.Listed.{Listed}
use Rattle.folder_core.proofs.CostsLemmas.{raises_more, raises_same, raises_then}
use Rattle.folder_core.proofs.FirstLookLemmas.{first_as, stood_first}
use Rattle.folder_core.proofs.DirectoryScanLemmas.{FolderWalked, Sights, folder_listed}
use Rattle.folder_core.proofs.DirectoryScanLemmas.{folder_refused, no_cause, past_limit}
use Rattle.folder_core.proofs.ListedSoFarLemmas.{held_refusal}
use Rattle.folder_core.proofs.RightLemmas.{right_same}
use Rattle.folder_core.proofs.KindsLemmas.{number_is_name}
use Rattle.folder_core.proofs.NamesIn.{file_held, holds_name}
use Rattle.folder_core.proofs.SeenLemmas.{alone_foreign, goes_as, goes_then, longer_later}
use Rattle.folder_core.proofs.SeenLemmas.{saw_later}
use Rattle.mh_folder.specs.Folder.{Finds, ListsNumbers, NamesSeen, ReadsMarks, SequencesSeen}
use Rattle.mh_folder.specs.KnownFile.{files_of, rises_from}
use Rattle.mh_folder.specs.NumberedName.{plain_names}
use Rattle.mh_folder.specs.Scan.{MessagesSeen}
use Rattle.mh_folder.specs.Visit.{AreKnownFiles, Course, IsCourse}
use Rattle.mh_folder.specs.Walk.{AreKept, Finding, IsStored, IsWalked, Kept, WalkSeen}
use Rattle.mh_folder.specs.declared.known_file.KnownFile.{KnownFile}
use Rattle.mh_folder.specs.declared.numbered_name.NumberedName.{NumberedName}
use Rattle.mh_folder.specs.declared.visit.Visit.{Visit}
use Rattle.mh_folder.proofs.FolderLemmas.{sequences_unread}
use Rattle.mh_folder.proofs.KnownFileLemmas.{all_rise, all_risen, found_borne, found_keeps}
use Rattle.mh_folder.proofs.KnownFileLemmas.{found_size}
use Rattle.folder_shapes.proofs.NumberLemmas.{numbers_held}
use Rattle.mh_folder.proofs.StoreLemmas.{nearly_refusal, nearly_whole}
use Rattle.mh_folder.proofs.TakeLemmas.{some_later}
use Rattle.mh_folder.proofs.WalkLemmas.{stood_as}

made_some : (sequences name : List ℕ) (bytes : Option (List ℕ))
    → is_some (option_and_then (message_of sequences name) bytes) ≡ true → is_some bytes ≡ true
made_some sequences name None some = some
made_some sequences name (Some bytes) some = refl

-- the folder at a tree of each mark
still_reads : (tree : List TreeNode) (path bytes : List ℕ) (names : List (List ℕ))
    (keeps : List (Option ℕ)) (messages : List Message)
    → (names ≡ names_in tree path) × (is_folder_at tree path ≡ true)
    → sequences_at tree path ≡ bytes
    → AreThere keeps messages (filter_map (message_at tree path bytes) (numbers_of names))
    → ReadsAs mh_reads path keeps messages tree
still_reads tree path bytes names keeps messages listed sequences are = (
  mh_messages tree path,
  (
    ap (λ (t : Bool). if t then Some (mh_messages tree path) else None) listed.1,
    subst (AreThere keeps messages) (λ i. filter_map (message_at tree path (sym sequences i))
        (numbers_of (listed.0 i))) are,
  ),
)

-- what a walk goes by whose sequences have these bytes
abbrev pub course_of : List ℕ → List Mail → KnownFolder → Course
course_of sequences mails known =
    record { path = known.path; sequences = sequences; mails = mails; known = known }

seen_messages : (course : Course) (names : List (List ℕ)) (found : Finding)
    (p q r s : Past) → HasLooked p q → HasLooked q r → HasLooked r s
    → NamesSeen course.path names p q → SequencesSeen course.path course.sequences q r
    → AreKept course found
    → WalkSeen course (numbers_of names) found.keeps found.messages found.stamps r s
    → MessagesSeen course.path found.keeps found.messages found.stamps p s
seen_messages course names found p q r s one two three listed read are walk = record {
  mark = told.mark;
  from = omega (arith, told.from, low);
  to = told.to;
  in_order = are.in_order;
  stood = stood_as path bytes (sequences_at (tree_at s told.mark) path) (length r.journal)
      (length s.journal)
      (length p.journal) (length s.journal) s s found.keeps found.messages found.stamps
      (λ keep message stamp one. record {
        mark = one.mark;
        from = omega (arith, one.from, low, next);
        to = one.to;
        named = one.named;
        there = subst (λ (l : List ℕ). IsThere keep message
            (message_at (tree_at s one.mark) path l message.key)) (sym told.tells) one.there;
        stamp_is = one.stamp_is;
      }) walk.stood;
  stayed = λ name is stays.
      walk.kept name
      (numbers_held name names is (ap (λ (l : List (List ℕ)). holds_name name l) here.tells.0
      ∙ file_held (tree_at s here.mark) path name (number_is_name name is)
      (made_some [] name (file_at (tree_at s here.mark) (path_in path name))
      (stays here.mark here.from here.to))))
      (λ m high to. stays m (omega (arith, high, low, next)) to);
  alone = λ alone.
      let none : NoForeign p s = alone_foreign p s alone in
      still_reads (tree_at s (length s.journal)) path bytes names found.keeps found.messages
      (subst (λ (t : List TreeNode). (names ≡ names_in t path) × (is_folder_at t path ≡ true))
      (now none here.mark here.from)
      here.tells)
      (subst (λ (t : List TreeNode). sequences_at t path ≡ bytes)
      (now none told.mark (omega (arith, told.from, low)))
      told.tells)
      (walk.still (tree_at s (length s.journal))
      (λ mark from to. now none mark (omega (arith, from, low, next))));
}
  where
    path : List ℕ
    path = course.path

    bytes : List ℕ
    bytes = course.sequences

    low : length p.journal ≤ length q.journal
    low = longer_later p q one

    next : length q.journal ≤ length r.journal
    next = longer_later q r two

    here : NamesSeen path names p s
    here = saw_later {Tells = λ tree. (names ≡ names_in tree path)
        × (is_folder_at tree path ≡ true)} p r s
        (saw_later {Tells = λ tree. (names ≡ names_in tree path) × (is_folder_at tree path ≡ true)}
        p q r listed two)
        three

    told : SawAt (ReadAll (sequences_path path) read.0) (λ tree. sequences_at tree path ≡ bytes) q s
    told = saw_later {Tells = λ tree. sequences_at tree path ≡ bytes} q r s read.1 three

    whole : HasLooked p s
    whole = looked_then p r s (looked_then p q r one two) three

    now : NoForeign p s → (mark : ℕ) → length p.journal ≤ mark
        → tree_at s mark ≡ tree_at s (length s.journal)
    now none mark from =
        tree_at-looked p s mark whole none from
        ∙ sym (tree_at-looked p s (length s.journal) whole none (longer_later p s whole))

-- the sequences were read, and then the files were walked over
record Both (course : Course) (names : List (List ℕ)) (found : Finding) (old new : Past)
    : Type 0 where
  pub mid : Past
  pub first : HasLooked old mid
  pub next : HasLooked mid new
  pub read : SequencesSeen course.path course.sequences old mid
  pub walked : WalkSeen course names found.keeps found.messages found.stamps mid new

-- What is known of the listed messages.

pub known_rise : (mails : List Mail) (known : KnownFolder) (told : Option Past)
    → Right Mh mails known told
    → rises_from 0 (files_of (mails_of mails known.listing) known.stamps) ≡ true
known_rise mails known told right =
    all_risen (mails_of mails known.listing) known.stamps right.ordered right.read.placed

pub known_course : (sequences : List ℕ) (mails : List Mail) (known : KnownFolder)
    (files : List KnownFile) (a b : Option Past)
    → files ≡ files_of (mails_of mails known.listing) known.stamps → LooksOnly a b
    → Right Mh mails known a → AreKnownFiles (course_of sequences mails known) b files
known_course sequences mails known files a b same looks right =
    subst (AreKnownFiles (course_of sequences mails known) b) (sym same)
    (λ name number is. record {
      keep = found_keeps 0 (mails_of mails known.listing) known.stamps name number is
          (all_rise (mails_of mails known.listing) known.stamps right.ordered right.read.placed)
          right.read.placed;
      size = found_size mails known.listing known.stamps number;
      borne = some_later mails _ a b looks
          (found_borne mails known.listing known.stamps number a right.read.stamps);
    })

-- The messages that were found, from the first look to the last.
pub record MhWalked (mails : List Mail) (known : KnownFolder) (first kept : Kept)
    (old new : Option Past) : Type 0 where
  pub sequences : List ℕ
  pub found : Finding
  pub stored : IsStored found first kept
  pub are : AreKept (course_of sequences mails known) found
  pub saw : GoesOn (MessagesSeen known.path found.keeps found.messages found.stamps) old new

pub folder_walked : (mails : List Mail) (known : KnownFolder) (files listed : List NumberedName)
    (visit : Visit) (first kept : Kept) (a b c d : Option Past) → listed ≡ files
    → LooksOnly a b → LooksOnly b c → LooksOnly c d → Right Mh mails known a
    → visit.files.files.items ≡ files_of (mails_of mails known.listing) known.stamps
    → ListsNumbers known.path files a b → ReadsMarks known.path visit.marks b c
    → ((course : Course) → IsCourse known.path visit c course
    → IsWalked course (plain_names listed) first kept c d)
    → MhWalked mails known first kept a d
folder_walked mails known files listed visit first kept a b c d same one two three right old lists
    reads walked =
    let course : Course = course_of reads.bytes mails known in
    let walk = walked course (record {
      path_is = refl;
      marks_are = reads.are;
      files = known_course reads.bytes mails known visit.files.files.items a c old
          (looks_then a b c one two) right;
    }) in
    let order : plain_names listed ≡ numbers_of lists.names = ap plain_names same
    ∙ lists.order.sorted in
    record {
      sequences = reads.bytes;
      found = walk.found;
      stored = walk.stored;
      are = walk.are;
      saw = goes_then {Q = Both course (plain_names listed) walk.found} a b d
          (λ p q s x y names both.
          seen_messages course lists.names walk.found p q both.mid s x
          both.first both.next names
          both.read walk.are (subst (λ (l : List (List ℕ)). WalkSeen course l walk.found.keeps
          walk.found.messages walk.found.stamps both.mid s) order
          both.walked)) one (looks_then b c d two three) lists.saw
          (goes_then b c d (λ q r s x y read w. record
          { mid = r; first = x; next = y; read = read; walked = w }) two three
          reads.saw walk.saw);
    }

-- the stamps of what is listed are those that are kept
listed_walked : (known : KnownFolder) (first kept : Kept) (a d : Option Past)
    → store_refusal kept.store ≡ None → MhWalked first.store.archive known first kept a d
    → FolderWalked mh_format number_at known (MessagesSeen known.path) kept.stamps first.store
    kept.store a d
listed_walked known first kept a d none w =
    let whole : kept.store ≡ w.stored.store =
    nearly_whole kept.store w.stored.store w.stored.nearly none in
    let taken : list_refusal first.store.letters w.found.keeps w.found.messages ≡ None =
    sym (held_refusal mh_format first.store w.stored.store w.found.keeps w.found.messages
    w.stored.holds) ∙ sym (ap store_refusal whole) ∙ none in
    let stamps : w.found.stamps ≡ kept.stamps = sym (w.stored.stamps_are taken) in
    record {
      messages = w.found.messages;
      keeps = w.found.keeps;
      kept = w.are.keeps_are
          ∙ ap (kept_by_stamp (mails_of first.store.archive known.listing) known.stamps
          w.found.messages) stamps;
      cores = w.are.cores;
      in_order = w.are.in_order;
      placed = w.are.placed;
      holds = subst (Holds mh_format first.store w.found.keeps w.found.messages) (sym whole)
          w.stored.holds;
      saw = subst (λ (l : List ℕ). GoesOn (MessagesSeen known.path w.found.keeps w.found.messages
          l) a d) stamps w.saw;
    }

refused_walked : (known : KnownFolder) (first kept : Kept) (a d : Option Past)
    → (w : MhWalked first.store.archive known first kept a d)
    → FolderWalked mh_format number_at known (MessagesSeen known.path) w.found.stamps first.store
    w.stored.store a d
refused_walked known first kept a d w = record {
  messages = w.found.messages;
  keeps = w.found.keeps;
  kept = w.are.keeps_are;
  cores = w.are.cores;
  in_order = w.are.in_order;
  placed = w.are.placed;
  holds = w.stored.holds;
  saw = w.saw;
}

-- What was read of the folder.

-- the sequences, and then the files
pub folder_reads : (path : List ℕ) (a b c d : Seen) → LooksOnly a.told b.told
    → LooksOnly b.told c.told → LooksOnly c.told d.told
    → RaisesAtMost a.bytes_read b.bytes_read 0 → ReadsBeside path 0 b c
    → RaisesAtMost c.bytes_read d.bytes_read most_bytes → ReadsBeside path most_bytes a d
folder_reads path a b c d one two three names sequences files = record {
  sequences = sequences.sequences;
  held = goes_then {P = HasLooked} {Q = HeldSequences path sequences.sequences} a.told b.told d.told
      (λ p q s x y looked held. record {
        mark = held.mark;
        from = omega (arith, held.from, longer_later p q x);
        to = held.to;
        held = held.held;
      }) one (looks_then b.told c.told d.told two three) one
      (goes_then {Q = HasLooked} b.told c.told d.told (λ p q s x y held looked. record {
        mark = held.mark;
        from = held.from;
        to = omega (arith, held.to, longer_later q s y);
        held = subst (λ (t : List TreeNode). sequences.sequences ≤ length (sequences_at t path))
            (sym (tree_at-longer q s held.mark (looked_longer q s y) held.to)) held.held;
      }) two three sequences.held three);
  reads = raises_more a.bytes_read d.bytes_read (0 + (sequences.sequences + 0) + most_bytes)
      (sequences.sequences + most_bytes) (omega arith)
      (raises_then a.bytes_read c.bytes_read d.bytes_read (0 + (sequences.sequences + 0)) most_bytes
      (raises_then a.bytes_read b.bytes_read c.bytes_read 0 (sequences.sequences + 0) names
      sequences.reads) files);
}

-- the walk was not begun
pub folder_unwalked : (path : List ℕ) (a b c : Seen) → LooksOnly a.told b.told
    → LooksOnly b.told c.told → RaisesAtMost a.bytes_read b.bytes_read 0 → ReadsBeside path 0 b c
    → ReadsBeside path most_bytes a c
folder_unwalked path a b c one two names sequences =
    folder_reads path a b c c one two (looks_same c.told) names sequences
    (raises_more c.bytes_read c.bytes_read 0 most_bytes (omega arith) (raises_same c.bytes_read))

sequences_unread_most : (path : List ℕ) (a b : Seen) → LooksOnly a.told b.told
    → RaisesAtMost a.bytes_read b.bytes_read 0 → ReadsBeside path most_bytes a b
sequences_unread_most path a b looks reads =
    folder_unwalked path a b b looks (looks_same b.told) reads
    (sequences_unread path b b (looks_same b.told) (raises_same b.bytes_read))

-- What a scan lists, or why it does not.

pub folder_taken : {A : Type 0} (known : KnownFolder) (given : A) (listing_of : A → List Listed)
    (stamps_of : A → List ℕ) (first kept : Kept) (a d : Seen)
    → first.store.letters ≡ length first.store.archive
    → listing_of given ≡ kept.store.listing → stamps_of given ≡ kept.stamps
    → store_refusal kept.store ≡ None → OnlyLooks a d
    → GoesOn (λ p q. found_first known.path p q ≡ Some true) a.told d.told
    → ReadsBeside known.path most_bytes a d
    → MhWalked first.store.archive known first kept a.told d.told
    → ListsFolder mh_format number_at known first.store.archive kept.store.archive (Ok given)
    listing_of stamps_of (MessagesSeen known.path) a d
folder_taken known given listing_of stamps_of first kept a d letters listing stamps none only there
    reads w =
    folder_listed mh_format number_at known given listing_of stamps_of (MessagesSeen known.path)
    first.store kept.store a d letters listing none only there reads
    (subst (λ (l : List ℕ). FolderWalked mh_format number_at known (MessagesSeen known.path) l
    first.store kept.store a.told d.told) (sym stamps)
    (listed_walked known first kept a.told d.told none w))

pub folder_limited : {A : Type 0} (known : KnownFolder) (why : ScanError)
    (listing_of : A → List Listed) (stamps_of : A → List ℕ) (first kept : Kept) (a d : Seen)
    → first.store.letters ≡ length first.store.archive
    → store_refusal kept.store ≡ Some why → OnlyLooks a d
    → GoesOn (λ p q. found_first known.path p q ≡ Some true) a.told d.told
    → ReadsBeside known.path most_bytes a d
    → MhWalked first.store.archive known first kept a.told d.told
    → ListsFolder {A = A} mh_format number_at known first.store.archive kept.store.archive
    (Err why) listing_of stamps_of (MessagesSeen known.path) a d
folder_limited {A} known why listing_of stamps_of first kept a d letters some only there reads w =
    subst (λ (l : List Mail). ListsFolder {A = A} mh_format number_at known first.store.archive l
    (Err why) listing_of stamps_of (MessagesSeen known.path) a d)
    (sym (ap (λ (s : Store). s.archive) w.stored.nearly.same))
    (folder_refused mh_format number_at known why listing_of stamps_of (MessagesSeen known.path)
    (MessagesSeen known.path) w.found.stamps first.store w.stored.store a d
    (λ keeps messages p q limit is finds. past_limit is_folder_at
    (FindsMessages kept_by_stamp (λ k m s. MessagesSeen known.path k m s p q)
    first.store.archive known) (length first.store.archive) known.path keeps messages
    w.found.stamps why (length p.journal) (length q.journal) q limit is finds)
    letters (sym (nearly_refusal kept.store w.stored.store w.stored.nearly) ∙ some) only there
    reads (refused_walked known first kept a.told d.told w))

-- a refusal before the walk
pub never_listed : {A B : Type 0} {Sees : A → Option Past → Option Past → Type 0}
    (known : KnownFolder) (path : List ℕ) (archive new_archive : List Mail) (why : ScanError)
    (listing_of : B → List Listed) (stamps_of : B → List ℕ) (Gives : Sights) (a b : Seen)
    → path ≡ known.path → Finds path (Err why) Sees a b
    → ListsFolder {A = B} mh_format number_at known archive new_archive (Err why) listing_of
    stamps_of Gives a b
never_listed {A} {B} {Sees} known path archive new_archive why listing_of stamps_of Gives a b at
    there =
    by_found (subst (λ (l : List ℕ). Finds l (Err why) Sees a b) at there)
  where
    by_found : Finds known.path (Err why) Sees a b
        → ListsFolder {A = B} mh_format number_at known archive new_archive (Err why) listing_of
        stamps_of Gives a b
    by_found found = record {
      ok = tt;
      refused = found.refused archive known;
      first = first_as A B why known.path a.told b.told found.first;
      within = sequences_unread_most known.path a b found.only.looks found.reads;
      full = λ e. absurd (found.never_full (let full : why ≡ ArchiveFull = cc in ap Err full));
      only = found.only;
      cause = λ e. found.cause (let fault : why ≡ Fault = cc in ap Err fault);
    }

-- What the calls before tell, by the path of the known folder.

-- a fault and want of memory are no causes in the tree
pub failed_cause : (known : KnownFolder) (archive : List Mail) (why : ScanError) (p q : Past)
    → (why ≡ Fault) ⊎ (why ≡ NoMemory) → FolderRefused mh_format archive known why p q
failed_cause known archive why p q is = no_cause is_folder_at
    (FindsMessages kept_by_stamp (λ k m s. MessagesSeen known.path k m s p q) archive known)
    (length archive) known.path why (length p.journal) (length q.journal) q is

pub listed_first : {A : Type 0} (given : A) (path at : List ℕ) (a b : Option Past) → at ≡ path
    → GoesOn (TellsMissing (Ok given) at) a b
    → GoesOn (λ p q. found_first path p q ≡ Some true) a b
listed_first given path at a b same tells =
    subst (λ (l : List ℕ). GoesOn (λ p q. found_first l p q ≡ Some true) a b) same
    (stood_first given at a b tells)

pub listed_numbers : (path at : List ℕ) (files : List NumberedName) (a b : Option Past)
    → at ≡ path → ListsNumbers at files a b → ListsNumbers path files a b
listed_numbers path at files a b same lists =
    subst (λ (l : List ℕ). ListsNumbers l files a b) same lists

pub walked_by : (path at : List ℕ) (visit : Visit) (names : List (List ℕ)) (first kept : Kept)
    (c d : Option Past) → at ≡ path
    → ((course : Course) → IsCourse at visit c course → IsWalked course names first kept c d)
    → (course : Course) → IsCourse path visit c course → IsWalked course names first kept c d
walked_by path at visit names first kept c d same walked course goes =
    walked course (subst (λ (l : List ℕ). IsCourse l visit c course) (sym same) goes)

-- after a refusal archive and known folder are as before
pub refused_scans : (archive new_archive later : List Letter) (known new_known : KnownFolder)
    (why : ScanError) (a b : Seen) → later ≡ archive
    → Right Mh (map plain_letter archive) known a.told
    → ScansFolder Mh (map plain_letter archive) (map plain_letter new_archive) known new_known
    (Err why) a b
    → Scans Mh archive later known new_known (Err why) a b
refused_scans archive new_archive later known new_known why a b same right scans = record {
  saw = goes_as {P = Saw Mh (map plain_letter archive) (map plain_letter new_archive) known
      new_known (Err why)} a.told b.told (λ p q s. s) scans.saw;
  lists = tt;
  reads = tt;
  first = scans.first;
  within = scans.within;
  err_archive = same;
  err_known = scans.err_known;
  right = subst (λ (l : List Letter). Right Mh (map plain_letter l) new_known b.told) (sym same)
      (subst (λ (k : KnownFolder). Right Mh (map plain_letter archive) k b.told)
      (sym scans.err_known)
      (right_same Mh (map plain_letter archive) known a.told b.told scans.only.looks right));
  full = λ is. omega (arith, scans.full is, length-map archive plain_letter);
  only = scans.only;
  cause = scans.cause;
}
