-- What is known of the stamps of a folder's files after a scan was read.
use Rattle.std.proofs.Common.{◌≡◌, ◌&&◌, ◌==◌, ℕ, Bool, true, false, List, [], ◌∷◌, Option, Some}
use Rattle.std.proofs.Common.{None}
use Rattle.std.proofs.Common.{if◌then◌else◌, refl, sym, ◌∙◌, ap, subst, length}
use Rattle.std.specs.Prelude.{option_and_then}
use Rattle.std.specs.Str.{bytes_eq}
use Rattle.std.proofs.lemmas.Bool.{and_parts, eqb-true}
use Rattle.mail_base.specs.declared.kind.Kind.TheVariants.{Mh}
use Rattle.disk_model.specs.Journal.{Past}
use Rattle.disk_model.specs.Looking.{LooksOnly}
use Rattle.disk_model.specs.State.{tree_at}
use Rattle.folder_letters.specs.Letters.{Mail}
use Rattle.folder_letters.specs.declared.listing.Listed.{Listed}
use Rattle.folder_core.specs.Bore.{Bore, IfTold}
use Rattle.folder_core.specs.Directory.{file_at, path_in}
use Rattle.folder_core.specs.DirectoryScan.{IsListing}
use Rattle.folder_core.specs.Keeping.{KeepCores, ListedMail, kept_by_stamp, mail_of, mails_of}
use Rattle.folder_core.specs.Keeping.{stamped}
use Rattle.folder_core.specs.Known.{KnownFolder}
use Rattle.folder_core.specs.Message.{Message}
use Rattle.folder_core.specs.Mh.{AllBore, AllStood, Stood, message_of, mh_format}
use Rattle.folder_core.specs.Mh.{number_at}
use Rattle.folder_core.specs.Right.{Right}
use Rattle.folder_core.proofs.DirectoryScanLemmas.{IsMessage, ListsMessages, TellsKind}
use Rattle.folder_core.proofs.KeepingLemmas.{EachIs}
use Rattle.folder_core.proofs.RightLemmas.{right_same}
use Rattle.mh_folder.specs.Scan.{MessagesSeen}

-- the bytes of a message are those of its file
made_file : (sequences name : List ℕ) (bytes : Option (List ℕ)) (message : Message)
    → option_and_then (message_of sequences name) bytes ≡ Some message
    → bytes ≡ Some message.raw
made_file sequences name None message is = absurd (cc)
made_file sequences name (Some []) message is = absurd (cc)
made_file sequences name (Some (b ∷ raw)) message is =
    let whole : option_and_then (message_of sequences name) (Some (b ∷ raw)) ≡ Some message = is in
    ap (λ (m : Option Message). raw_of m) whole
  where
    raw_of : Option Message → Option (List ℕ)
    raw_of None = None
    raw_of (Some m) = Some m.raw

-- a message that was not known was read
stood_bore : (path sequences : List ℕ) (m : ℕ) (past : Past) (message : Message) (stamp : ℕ)
    → Stood path sequences m (length past.journal) past None message stamp
    → Bore message.raw stamp past
stood_bore path sequences m past message stamp stood = record {
  mark = stood.mark;
  within = stood.to;
  path = path_in path message.key;
  there = made_file sequences message.key
      (file_at (tree_at past stood.mark) (path_in path message.key)) message stood.there;
  stamp_is = stood.stamp_is;
}

some_same : (a b : ℕ) → Some a ≡ Some b → a ≡ b
some_same a b is = cc

-- one that was known was read before
stamped_bore : (mails : List Mail) (listing : List Listed) (stamps key : List ℕ) (stamp id : ℕ)
    (past : Past) → AllBore (mails_of mails listing) stamps past
    → stamped (mails_of mails listing) stamps key stamp ≡ Some id
    → Bore (mail_of mails id).core stamp past
stamped_bore mails [] stamps key stamp id past all is = absurd (cc)
stamped_bore mails (listed ∷ listing) [] key stamp id past all is = absurd (cc)
stamped_bore mails (listed ∷ listing) (known ∷ stamps) key stamp id past all is =
    by_test (bytes_eq (mail_of mails listed.id.0).key key && known == stamp) refl is
    (λ again. stamped_bore mails listing stamps key stamp id past all.1 again)
  where
    by_test : (t : Bool) → (bytes_eq (mail_of mails listed.id.0).key key && known == stamp) ≡ t
        → (if t then Some listed.id.0 else stamped (mails_of mails listing) stamps key stamp)
        ≡ Some id
        → (stamped (mails_of mails listing) stamps key stamp ≡ Some id
        → Bore (mail_of mails id).core stamp past)
        → Bore (mail_of mails id).core stamp past
    by_test true test is rest =
        let parts = and_parts (bytes_eq (mail_of mails listed.id.0).key key) (known == stamp) test
        in
        let at : listed.id.0 ≡ id = some_same listed.id.0 id is in
        subst (λ (n : ℕ). Bore (mail_of mails n).core stamp past) at
        (subst (λ (s : ℕ). Bore (mail_of mails listed.id.0).core s past)
        (eqb-true known stamp parts.1) all.0)
    by_test false test is rest = rest is

first_keep : (keep other : Option ℕ) (keeps others : List (Option ℕ))
    → keep ∷ keeps ≡ other ∷ others → (keep ≡ other) × (keeps ≡ others)
first_keep keep other keeps others is = (cc, cc)

-- each message that is listed was read once, now or before
all_bore : (path sequences : List ℕ) (m : ℕ) (past : Past) (mails : List Mail)
    (listing : List Listed) (known : List ℕ) (new : List ListedMail) (keeps : List (Option ℕ))
    (messages : List Message) (stamps : List ℕ)
    → AllBore (mails_of mails listing) known past
    → keeps ≡ kept_by_stamp (mails_of mails listing) known messages stamps
    → KeepCores (λ raw. raw) mails keeps messages → EachIs IsMessage new messages
    → AllStood path sequences m (length past.journal) past keeps messages stamps
    → AllBore new stamps past
all_bore path sequences m past mails listing known [] [] [] stamps old is cores each stood = stood
all_bore path sequences m past mails listing known (listed ∷ new) [] [] stamps old is cores each
    stood =
    absurd each
all_bore path sequences m past mails listing known new [] (message ∷ messages) stamps old is cores
    each stood =
    absurd stood
all_bore path sequences m past mails listing known new (keep ∷ keeps) [] stamps old is cores each
    stood =
    absurd stood
all_bore path sequences m past mails listing known [] (keep ∷ keeps) (message ∷ messages) stamps
    old is cores each stood =
    absurd each
all_bore path sequences m past mails listing known (listed ∷ new) (keep ∷ keeps)
    (message ∷ messages) [] old is cores each stood =
    absurd stood
all_bore path sequences m past mails listing known (listed ∷ new) (None ∷ keeps)
    (message ∷ messages) (stamp ∷ stamps) old is cores each stood = (
      subst (λ (raw : List ℕ). Bore raw stamp past) (sym each.0.core)
          (stood_bore path sequences m past message stamp stood.0),
      all_bore path sequences m past mails listing known new keeps messages stamps old
          (first_keep None (stamped (mails_of mails listing) known message.key stamp) keeps
          (kept_by_stamp (mails_of mails listing) known messages stamps) is).1 cores each.1 stood.1,
    )
all_bore path sequences m past mails listing known (listed ∷ new) (Some id ∷ keeps)
    (message ∷ messages) (stamp ∷ stamps) old is cores each stood =
    let parts = first_keep (Some id) (stamped (mails_of mails listing) known message.key stamp)
    keeps (kept_by_stamp (mails_of mails listing) known messages stamps) is in (
      subst (λ (raw : List ℕ). Bore raw stamp past) (cores.0 ∙ sym each.0.core)
          (stamped_bore mails listing known message.key stamp id past old (sym parts.0)),
      all_bore path sequences m past mails listing known new keeps messages stamps old parts.1
          cores.1 each.1 stood.1,
    )

-- What the kind tells of a folder that was listed.

abbrev pub IsMhListing : List Mail → List Mail → KnownFolder → List Listed → List ℕ → Option Past
    → Option Past → Type 0
IsMhListing archive new_archive known listing stamps old new = IsListing mh_format number_at
    (MessagesSeen known.path) archive new_archive known listing stamps old new

stamps_told : (archive new_archive : List Mail) (known : KnownFolder) (listing : List Listed)
    (stamps : List ℕ) (old new : Option Past) → LooksOnly old new → Right Mh archive known old
    → (is : IsMhListing archive new_archive known listing stamps old new)
    → ListsMessages number_at known.listing new_archive listing is.keeps is.messages
    → IfTold (AllBore (mails_of new_archive listing) stamps) new
stamps_told archive new_archive known listing stamps old None looks right is lists = tt
stamps_told archive new_archive known listing stamps None (Some q) looks right is lists =
    absurd (cc)
stamps_told archive new_archive known listing stamps (Some p) (Some q) looks right is lists =
    all_bore known.path _ (length p.journal) q archive known.listing known.stamps
    (mails_of new_archive listing) is.keeps is.messages stamps
    (right_same Mh archive known (Some p) (Some q) looks right).read.stamps is.kept is.cores
    lists.each is.saw.stood

pub tells_mh : (archive new_archive : List Mail) (known : KnownFolder) (listing : List Listed)
    (stamps : List ℕ) (old new : Option Past) → LooksOnly old new → Right Mh archive known old
    → TellsKind Mh number_at archive new_archive known listing stamps (MessagesSeen known.path)
    old new
tells_mh archive new_archive known listing stamps old new looks right = record {
  sees = λ keeps messages p q taken saw. record { saw = saw; taken = taken; bytes = refl };
  read = λ is lists. record {
    placed = lists.placed;
    bytes = refl;
    stamps = stamps_told archive new_archive known listing stamps old new looks right is lists;
  };
}
