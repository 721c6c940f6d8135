-- A mailbox that is as it is known: nothing is gone, nothing came, and all stay listed.
use Rattle.std.proofs.Common.{◌≡◌, ◌-◌, ◌++◌, ◌&&◌, ◌||◌, ◌==◌, ℕ, Bool, true, false, not, List, []}
use Rattle.std.proofs.Common.{◌∷◌, Option, Some, None, Result, Ok, Err, IfErr, IfNone, IfOk, length}
use Rattle.std.proofs.Common.{map, take, drop, if◌then◌else◌, refl, sym, ◌∙◌, ap, subst, arith}
use Rattle.std.proofs.Common.{append-nil, eq-eqb, eqb-true, take_all}
use Rattle.std.proofs.Math.Seq.{drop-length}
use Rattle.std.specs.List.{filter}
use Rattle.std.proofs.lemmas.Bool.{and_parts}
use Rattle.mail_base.specs.declared.kind.Kind.TheVariants.{Mbox}
use Rattle.folder_letters.specs.Letters.{Mail}
use Rattle.folder_letters.specs.declared.listing.Found.{Found}
use Rattle.folder_letters.specs.declared.listing.Listed.{Listed}
use Rattle.folder_core.specs.Keeping.{IsDifference, count_fresh, had_other_flags, ids_differ}
use Rattle.folder_core.specs.Keeping.{lists_id, mails_of, same_flags}
use Rattle.folder_core.specs.Known.{KnownFolder}
use Rattle.folder_core.specs.Limits.{count_refusal}
use Rattle.folder_core.specs.Mbox.{AreAll, IsKeptStamp, begins_mailbox, bytes_refusal, messages_in}
use Rattle.folder_core.specs.Mbox.{raw_messages}
use Rattle.folder_core.specs.Right.{Right}
use Rattle.folder_core.specs.declared.error.ScanError.{ScanError}
use Rattle.folder_core.specs.declared.error.ScanError.TheVariants.{Missing, NotMailbox, TooMany}
use Rattle.folder_core.specs.declared.error.ScanError.TheVariants.{TooLarge, Unfinished}
use Rattle.folder_core.specs.declared.error.ScanError.TheVariants.{ArchiveFull, Fault, NoMemory}
use Rattle.disk_model.specs.declared.answers.FileRead.{FileRead}
use Rattle.folder_core.proofs.RightLemmas.{right_differ}
use Rattle.mbox_folder.specs.FileSeen.{bytes_now}
use Rattle.mbox_folder.specs.ListedFile.{FindsFile, IsNothing, IsUnlisted, ListsFile, letters_from}
use Rattle.mbox_folder.specs.ListedFile.{listed_from, stay_count}
use Rattle.mbox_folder.proofs.Staying.{flags_itself, fresh_count, keeps_of, unchanged}

true_false : ◌≡◌ {A = Bool} true false → ⊥
true_false e = cc

-- A listing differs from itself in nothing.

-- each of these is listed, with the flags that it has there
abbrev AllIn : List Listed → List Listed → Type 0
AllIn all [] = Unit {0}
AllIn all (listed ∷ part) =
    (lists_id all listed.id.0 ≡ true) × ((had_other_flags all listed ≡ false) × AllIn all part)

-- an id that is not listed has no flags
no_flags : (all : List Listed) (listed : Listed) → lists_id all listed.id.0 ≡ false
    → had_other_flags all listed ≡ false
no_flags [] listed none = refl
no_flags (first ∷ all) listed none = by_test (first.id.0 == listed.id.0) none
    (λ again. no_flags all listed again)
  where
    by_test : (t : Bool) → (t || lists_id all listed.id.0) ≡ false
        → (lists_id all listed.id.0 ≡ false → had_other_flags all listed ≡ false)
        → ((t && not (same_flags first.flags listed.flags)) || had_other_flags all listed) ≡ false
    by_test true none again = absurd (true_false none)
    by_test false none again = again none

other_id : (all : List Listed) (first listed : Listed) → lists_id all listed.id.0 ≡ true
    → lists_id all first.id.0 ≡ false → (first.id.0 == listed.id.0) ≡ false
other_id all first listed there none = by_test (first.id.0 == listed.id.0) refl
  where
    by_test : (t : Bool) → (first.id.0 == listed.id.0) ≡ t → (first.id.0 == listed.id.0) ≡ false
    by_test true is = absurd (true_false (sym there
        ∙ ap (lists_id all) (sym (eqb-true first.id.0 listed.id.0 is)) ∙ none))
    by_test false is = is

or_true : (t rest : Bool) → rest ≡ true → (t || rest) ≡ true
or_true true rest is = refl
or_true false rest is = is

all_behind : (first : Listed) (all part : List Listed) → lists_id all first.id.0 ≡ false
    → AllIn all part → AllIn (first ∷ all) part
all_behind first all [] none in_all = tt
all_behind first all (listed ∷ part) none in_all = (
  or_true (first.id.0 == listed.id.0) (lists_id all listed.id.0) in_all.0,
  (
    ap (λ (t : Bool).
        (t && not (same_flags first.flags listed.flags)) || had_other_flags all listed)
        (other_id all first listed in_all.0 none)
        ∙ in_all.1.0,
    all_behind first all part none in_all.1.1,
  ),
)

not_false : (b : Bool) → not b ≡ true → b ≡ false
not_false true is = sym is
not_false false is = refl

in_itself : (all : List Listed) → ids_differ all ≡ true → AllIn all all
in_itself [] once = tt
in_itself (first ∷ all) once =
    let parts = and_parts (not (lists_id all first.id.0)) (ids_differ all) once in
    let none : lists_id all first.id.0 ≡ false = not_false (lists_id all first.id.0) parts.0 in (
      ap (λ (t : Bool). t || lists_id all first.id.0) (eq-eqb first.id.0 first.id.0 refl),
      (
        ap (λ (t : Bool). (t && not (same_flags first.flags first.flags))
            || had_other_flags all first) (eq-eqb first.id.0 first.id.0 refl)
            ∙ ap (λ (t : Bool). not t || had_other_flags all first) (flags_itself first.flags)
            ∙ no_flags all first none,
        all_behind first all all none (in_itself all parts.1),
      ),
    )

none_gone : (all part : List Listed) → AllIn all part
    → filter (λ listed. not (lists_id all listed.id.0)) part ≡ []
none_gone all [] in_all = refl
none_gone all (listed ∷ part) in_all =
    ap (λ (t : Bool). if not t then listed ∷ filter (λ l. not (lists_id all l.id.0)) part
    else filter (λ l. not (lists_id all l.id.0)) part) in_all.0
    ∙ none_gone all part in_all.1.1

none_reflagged : (all part : List Listed) → AllIn all part → filter (had_other_flags all) part ≡ []
none_reflagged all [] in_all = refl
none_reflagged all (listed ∷ part) in_all =
    ap (λ (t : Bool). if t then listed ∷ filter (had_other_flags all) part
    else filter (had_other_flags all) part) in_all.1.0
    ∙ none_reflagged all part in_all.1.1

pub differs_nothing : (listing : List Listed) (found : Found) → ids_differ listing ≡ true
    → IsNothing found → IsDifference listing listing found
differs_nothing listing found once nothing =
    let in_all = in_itself listing once in record {
      gone = nothing.gone ∙ ap (map (λ l. l.id)) (sym (none_gone listing listing in_all));
      came = nothing.came ∙ sym (none_gone listing listing in_all);
      reflagged = nothing.reflagged ∙ sym (none_reflagged listing listing in_all);
    }

-- All stay listed.

-- the messages of a file whose stamp is kept are those that are listed
kept_all : (mails : List Mail) (known : KnownFolder) (stamp : ℕ) → known.stamps ≡ stamp ∷ []
    → Right Mbox mails known None → AreAll (mails_of mails known.listing) (messages_in known.bytes)
kept_all mails known stamp kept right =
    (subst (λ (l : List ℕ). IsKeptStamp (mails_of mails known.listing) known l None) kept
    right.read.stamp).all

counts : (mails : List Mail) (known : KnownFolder) (stamp : ℕ) → known.stamps ≡ stamp ∷ []
    → Right Mbox mails known None
    → (stay_count (mails_of mails known.listing) (raw_messages known.bytes)
    ≡ length (raw_messages known.bytes))
    × (length known.listing ≡ length (raw_messages known.bytes))
counts mails known stamp kept right =
    unchanged mails known.listing (raw_messages known.bytes) (kept_all mails known stamp kept right)

-- none is new, so that the count is tried alone
same_refusal : (letters stay many listed : ℕ) → stay ≡ many → listed ≡ many
    → count_refusal letters (many - stay) many ≡ count_refusal letters 0 listed
same_refusal letters stay many listed same all =
    ap (λ (n : ℕ). count_refusal letters n many) (omega (arith, same))
    ∙ ap (count_refusal letters 0) (sym all)

pub lists_known : (mails : List Mail) (known : KnownFolder) (stamp : ℕ) → known.stamps ≡ stamp ∷ []
    → Right Mbox mails known None → count_refusal (length mails) 0 (length known.listing) ≡ None
    → ListsFile known.bytes mails mails known.listing known.listing
lists_known mails known stamp kept right taken =
    let raws = raw_messages known.bytes in
    let stay = stay_count (mails_of mails known.listing) raws in
    let both = counts mails known stamp kept right in
    let left : drop stay raws ≡ [] = ap (λ (n : ℕ). drop n raws) both.0 ∙ drop-length raws in
    record {
      begins = right.read.begins;
      taken = same_refusal (length mails) stay (length raws) (length known.listing) both.0 both.1
          ∙ taken;
      letters = sym (ap (λ (l : List (List ℕ)). mails ++ letters_from (length mails) l) left
          ∙ append-nil mails);
      listed = sym (ap (λ (l : List (List ℕ)). take stay known.listing
          ++ listed_from (length mails) l) left
          ∙ append-nil (take stay known.listing)
          ∙ take_all stay known.listing (omega (arith, both.0, both.1)));
    }

by_why : (bytes : List ℕ) (mails : List Mail) (old : List Listed) (letters : ℕ) (why : ScanError)
    → bytes_refusal letters (mails_of mails old) bytes ≡ Some why
    → IsUnlisted bytes (mails_of mails old) letters why
by_why bytes mails old letters Missing is = is
by_why bytes mails old letters (NotMailbox place) is = is
by_why bytes mails old letters (TooMany count) is = is
by_why bytes mails old letters (TooLarge size) is = is
by_why bytes mails old letters Unfinished is = is
by_why bytes mails old letters ArchiveFull is = is
by_why bytes mails old letters Fault is = is
by_why bytes mails old letters NoMemory is = tt

-- the refusal of bytes that begin as a mailbox, by how many stand as they are listed
pub begun_refusal : (letters : ℕ) (mails : List Mail) (old : List Listed) (bytes : List ℕ)
    → begins_mailbox bytes ≡ true
    → bytes_refusal letters (mails_of mails old) bytes
    ≡ count_refusal letters
    (length (raw_messages bytes) - stay_count (mails_of mails old) (raw_messages bytes))
    (length (raw_messages bytes))
begun_refusal letters mails old bytes begins =
    let raws = raw_messages bytes in
    let ms = mails_of mails old in
    ap (λ (b : Bool). if b then count_refusal letters (count_fresh (keeps_of ms raws)) (length raws)
    else Some (NotMailbox 0)) begins
    ∙ ap (λ (n : ℕ). count_refusal letters n (length raws)) (fresh_count ms raws)

-- a file that begins as a mailbox is refused by its counts
pub counts_unlisted : (letters : ℕ) (mails : List Mail) (old : List Listed) (bytes : List ℕ)
    (why : ScanError) → begins_mailbox bytes ≡ true
    → count_refusal letters
    (length (raw_messages bytes) - stay_count (mails_of mails old) (raw_messages bytes))
    (length (raw_messages bytes)) ≡ Some why
    → IsUnlisted bytes (mails_of mails old) letters why
counts_unlisted letters mails old bytes why begins is =
    by_why bytes mails old letters why (begun_refusal letters mails old bytes begins ∙ is)

pub known_unlisted : (mails : List Mail) (known : KnownFolder) (stamp letters : ℕ) (why : ScanError)
    → known.stamps ≡ stamp ∷ [] → Right Mbox mails known None
    → count_refusal letters 0 (length known.listing) ≡ Some why
    → IsUnlisted known.bytes (mails_of mails known.listing) letters why
known_unlisted mails known stamp letters why kept right is =
    let raws = raw_messages known.bytes in
    let both = counts mails known stamp kept right in
    counts_unlisted letters mails known.listing known.bytes why right.read.begins
    (same_refusal letters (stay_count (mails_of mails known.listing) raws) (length raws)
    (length known.listing) both.0 both.1 ∙ is)

-- What is found of it.

-- what is so where none was read
known_stamp : (file : Option FileRead) (known : KnownFolder) → file ≡ None
    → IfNone file ((stamp : ℕ) × (known.stamps ≡ stamp ∷ []))
    → (stamp : ℕ) × (known.stamps ≡ stamp ∷ [])
known_stamp file known none kept =
    subst (λ (f : Option FileRead). IfNone f ((stamp : ℕ) × (known.stamps ≡ stamp ∷ []))) none kept

pub finds_nothing : (result : Result Found ScanError) (file : Option FileRead) (mails : List Mail)
    (known : KnownFolder) (letters : ℕ) → file ≡ None → letters ≡ length mails
    → Right Mbox mails known None → IfNone file ((stamp : ℕ) × (known.stamps ≡ stamp ∷ []))
    → IfOk result (λ found. count_refusal letters 0 (length known.listing) ≡ None)
    → IfOk result IsNothing
    → IfOk result (FindsFile file mails mails known known)
finds_nothing (Err why) file mails known letters none at right kept taken nothing = tt
finds_nothing (Ok found) file mails known letters none at right kept taken nothing =
    let stamp = known_stamp file known none kept in
    subst (λ (f : Option FileRead). FindsFile f mails mails known known found) (sym none) (record {
      lists = lists_known mails known stamp.0 stamp.1 right
          (ap (λ (n : ℕ). count_refusal n 0 (length known.listing)) (sym at) ∙ taken);
      difference = differs_nothing known.listing found (right_differ Mbox mails known None right)
          nothing;
      put = refl;
    })

pub refuses_known : (result : Result Found ScanError) (file : Option FileRead) (mails : List Mail)
    (known : KnownFolder) (letters archive : ℕ) → file ≡ None → letters ≡ archive
    → Right Mbox mails known None → IfNone file ((stamp : ℕ) × (known.stamps ≡ stamp ∷ []))
    → IfErr result (λ why. count_refusal letters 0 (length known.listing) ≡ Some why)
    → IfErr result (IsUnlisted (bytes_now known file) (mails_of mails known.listing) archive)
refuses_known (Ok found) file mails known letters archive none at right kept refused = tt
refuses_known (Err why) file mails known letters archive none at right kept refused =
    let stamp = known_stamp file known none kept in
    subst (λ (f : Option FileRead).
    IsUnlisted (bytes_now known f) (mails_of mails known.listing) archive why) (sym none)
    (known_unlisted mails known stamp.0 archive why stamp.1 right
    (ap (λ (n : ℕ). count_refusal n 0 (length known.listing)) (sym at) ∙ refused))
