-- Listings of messages of which some were known before.
use Rattle.std.proofs.Common.{◌≡◌, ◌≤◌, ◌<◌, ◌+◌, ◌++◌, ◌&&◌, ◌||◌, ◌==◌, inl, inr, ℕ, suc, Bool}
use Rattle.std.proofs.Common.{true, false, not, List, [], ◌∷◌, Option, Some, None, length, map}
use Rattle.std.proofs.Common.{if◌then◌else◌, refl, sym, ◌∙◌, ap, subst, arith}
use Rattle.std.proofs.Common.{append_assoc, length-append}
use Rattle.std.specs.Prelude.{option_map}
use Rattle.std.specs.List.{filter, find}
use Rattle.std.specs.Str.{bytes_eq}
use Rattle.std.proofs.Math.Seq.{get_or-append_seam}
use Rattle.std.proofs.lemmas.Bool.{and_parts, eq-eqb, eqb-true}
use Rattle.std.proofs.lemmas.List.{get_or_append_left}
use Rattle.std.proofs.lemmas.List.Elements.{All-cons, All-head, All-nil, All-tail}
use Rattle.std.proofs.lemmas.Slice.Eq.{bytes_eq-Decides}
use Rattle.mail_base.specs.Ordered.{IsIn}
use Rattle.mail_base.specs.declared.flags.Flags.{Flags}
use Rattle.folder_letters.specs.Letters.{Mail}
use Rattle.folder_letters.specs.Listings.{ids_from}
use Rattle.folder_letters.specs.declared.listing.Listed.{Listed}
use Rattle.folder_core.specs.Keeping.{KeepCores, ListedMail, count_fresh, kept_by_key}
use Rattle.folder_core.specs.Keeping.{kept_by_stamp, kept_front, keyed, letters_by, listed_by}
use Rattle.folder_core.specs.Keeping.{lists_id, mail_of, mails_of, no_mail, same_flags, stamped}
use Rattle.folder_core.specs.ListedSoFar.{listed_as}
use Rattle.folder_core.specs.Message.{Message}
use Rattle.folder_core.proofs.DifferenceLemmas.{AreBelow, lists_far}

true_false : ◌≡◌ {A = Bool} true false → ⊥
true_false e = cc

bytes_same : (a b : List ℕ) → bytes_eq a b ≡ true → a ≡ b
bytes_same a b is = (bytes_eq-Decides a b).0 is

-- What is so of each listed message and the one that was met for it.

-- pairs of listed messages and messages
abbrev pub EachIs : (ListedMail → Message → Type 0) → List ListedMail → List Message → Type 0
EachIs Is [] [] = Unit {0}
EachIs Is [] (message ∷ messages) = ⊥
EachIs Is (listed ∷ old) [] = ⊥
EachIs Is (listed ∷ old) (message ∷ messages) = Is listed message × EachIs Is old messages

-- a letter as a listed message with an id and flags
abbrev pub listed_mail : ℕ → Flags → Mail → ListedMail
listed_mail id flags mail = record { id = id; flags = flags; mail = mail }

-- what is so of each message that was known, by its letter, which the archive has
abbrev pub KeptAre : (ListedMail → Message → Type 0) → List Mail → List (Option ℕ) → List Message
    → Type 0
KeptAre Is mails [] [] = Unit {0}
KeptAre Is mails [] (message ∷ messages) = ⊥
KeptAre Is mails (keep ∷ keeps) [] = ⊥
KeptAre Is mails (None ∷ keeps) (message ∷ messages) = KeptAre Is mails keeps messages
KeptAre Is mails (Some id ∷ keeps) (message ∷ messages) =
    ((id < length mails) × Is (listed_mail id message.flags (mail_of mails id)) message)
    × KeptAre Is mails keeps messages

-- the letter of an id stays where more are added
pub mail_stays : (mails more : List Mail) (id : ℕ) → id < length mails
    → mail_of (mails ++ more) id ≡ mail_of mails id
mail_stays mails more id low = get_or_append_left mails more no_mail id low

kept_more : (Is : ListedMail → Message → Type 0) (mails more : List Mail) (keeps : List (Option ℕ))
    (messages : List Message) → KeptAre Is mails keeps messages
    → KeptAre Is (mails ++ more) keeps messages
kept_more Is mails more [] [] kept = kept
kept_more Is mails more [] (message ∷ messages) kept = kept
kept_more Is mails more (keep ∷ keeps) [] kept = kept
kept_more Is mails more (None ∷ keeps) (message ∷ messages) kept =
    kept_more Is mails more keeps messages kept
kept_more Is mails more (Some id ∷ keeps) (message ∷ messages) kept = (
  (
    omega (arith, kept.0.0, length-append mails more),
    subst (λ (m : Mail). Is (listed_mail id message.flags m) message)
        (sym (mail_stays mails more id kept.0.0)) kept.0.1,
  ),
  kept_more Is mails more keeps messages kept.1,
)

-- what is so of those that were known and of each new letter is so of all that are listed
pub each_listed : (Is : ListedMail → Message → Type 0) (letter : ℕ → Message → Mail)
    → ((id : ℕ) (message : Message)
    → Is (listed_mail id message.flags (letter id message)) message)
    → (front : List Mail) (next : ℕ) (keeps : List (Option ℕ)) (messages : List Message)
    → length front ≡ next → KeptAre Is front keeps messages
    → EachIs Is (mails_of (front ++ letters_by letter next keeps messages)
    (listed_by next keeps messages)) messages
each_listed Is letter new front next [] [] at kept = tt
each_listed Is letter new front next [] (message ∷ messages) at kept = absurd kept
each_listed Is letter new front next (keep ∷ keeps) [] at kept = absurd kept
each_listed Is letter new front next (Some id ∷ keeps) (message ∷ messages) at kept = (
  subst (λ (m : Mail). Is (listed_mail id message.flags m) message)
      (sym (mail_stays front (letters_by letter next keeps messages) id kept.0.0)) kept.0.1,
  each_listed Is letter new front next keeps messages at kept.1,
)
each_listed Is letter new front next (None ∷ keeps) (message ∷ messages) at kept =
    let mail : Mail = letter next message in
    let rest : List Mail = letters_by letter (next + 1) keeps messages in
    let later : length (front ++ mail ∷ []) ≡ next + 1 =
    omega (arith, at, length-append front (mail ∷ [])) in
    let seam : mail_of (front ++ mail ∷ rest) next ≡ mail =
    ap (mail_of (front ++ mail ∷ rest)) (sym at) ∙ get_or-append_seam front mail rest no_mail in (
      subst (λ (m : Mail). Is (listed_mail next message.flags m) message) (sym seam)
          (new next message),
      subst (λ (l : List Mail). EachIs Is (mails_of l (listed_by (next + 1) keeps messages))
          messages) (append_assoc front (mail ∷ []) rest)
          (each_listed Is letter new (front ++ mail ∷ []) (next + 1) keeps messages later
          (kept_more Is front (mail ∷ []) keeps messages kept)),
    )

-- Ids.

-- each id of a message that was known is listed
abbrev pub KeepIds : List Listed → List (Option ℕ) → Type 0
KeepIds old [] = Unit {0}
KeepIds old (None ∷ keeps) = KeepIds old keeps
KeepIds old (Some id ∷ keeps) = (lists_id old id ≡ true) × KeepIds old keeps

pub id_below : (letters : ℕ) (old : List Listed) (id : ℕ) → AreBelow letters old
    → lists_id old id ≡ true → id < letters
id_below letters [] id below is = absurd (true_false (sym is))
id_below letters (listed ∷ old) id below is = by_test (listed.id.0 == id) refl is
    (λ again. id_below letters old id (All-tail (λ l. l.id.0 < letters) listed old below) again)
  where
    by_test : (t : Bool) → (listed.id.0 == id) ≡ t → (t || lists_id old id) ≡ true
        → (lists_id old id ≡ true → id < letters) → id < letters
    by_test true same is again = omega (
      arith,
      eqb-true listed.id.0 id same,
      All-head (λ l. l.id.0 < letters) listed old below,
    )
    by_test false same is again = again is

-- the ids of what is listed are below the archive's new length
pub listed_below : (letters next end : ℕ) (old : List Listed) (keeps : List (Option ℕ))
    (messages : List Message) → AreBelow letters old → letters ≤ next
    → next + count_fresh keeps ≤ end → KeepIds old keeps
    → AreBelow end (listed_by next keeps messages)
listed_below letters next end old keeps [] below up fits kept =
    All-nil (λ listed. listed.id.0 < end)
listed_below letters next end old [] (message ∷ messages) below up fits kept =
    All-nil (λ listed. listed.id.0 < end)
listed_below letters next end old (Some id ∷ keeps) (message ∷ messages) below up fits kept =
    All-cons (λ listed. listed.id.0 < end) (listed_as id message.flags)
    (listed_by next keeps messages)
    (omega (arith, id_below letters old id below kept.0, up, fits))
    (listed_below letters next end old keeps messages below up fits kept.1)
listed_below letters next end old (None ∷ keeps) (message ∷ messages) below up fits kept =
    All-cons (λ listed. listed.id.0 < end) (listed_as next message.flags)
    (listed_by (next + 1) keeps messages) (omega (arith, fits))
    (listed_below letters (next + 1) end old keeps messages below (omega (arith, up))
    (omega (arith, fits)) kept)

pub listed_length : (next : ℕ) (keeps : List (Option ℕ)) (messages : List Message)
    → length keeps ≡ length messages
    → length (listed_by next keeps messages) ≡ length messages
listed_length next [] [] pairs = refl
listed_length next [] (message ∷ messages) pairs = absurd (omega (arith, pairs))
listed_length next (keep ∷ keeps) [] pairs = absurd (omega (arith, pairs))
listed_length next (Some id ∷ keeps) (message ∷ messages) pairs =
    ap suc (listed_length next keeps messages (omega (arith, pairs)))
listed_length next (None ∷ keeps) (message ∷ messages) pairs =
    ap suc (listed_length (next + 1) keeps messages (omega (arith, pairs)))

pub letters_length : (letter : ℕ → Message → Mail) (next : ℕ) (keeps : List (Option ℕ))
    (messages : List Message) → length keeps ≡ length messages
    → length (letters_by letter next keeps messages) ≡ count_fresh keeps
letters_length letter next [] [] pairs = refl
letters_length letter next [] (message ∷ messages) pairs = absurd (omega (arith, pairs))
letters_length letter next (keep ∷ keeps) [] pairs = absurd (omega (arith, pairs))
letters_length letter next (Some id ∷ keeps) (message ∷ messages) pairs =
    letters_length letter next keeps messages (omega (arith, pairs))
letters_length letter next (None ∷ keeps) (message ∷ messages) pairs =
    let more = letters_length letter (next + 1) keeps messages (omega (arith, pairs)) in
    omega (arith, more)

-- cores go with messages one by one
pub cores_pairs : (core : List ℕ → List ℕ) (mails : List Mail) (keeps : List (Option ℕ))
    (messages : List Message) → KeepCores core mails keeps messages
    → length keeps ≡ length messages
cores_pairs core mails [] [] cores = refl
cores_pairs core mails [] (message ∷ messages) cores = absurd cores
cores_pairs core mails (keep ∷ keeps) [] cores = absurd cores
cores_pairs core mails (Some id ∷ keeps) (message ∷ messages) cores =
    ap suc (cores_pairs core mails keeps messages cores.1)
cores_pairs core mails (None ∷ keeps) (message ∷ messages) cores =
    ap suc (cores_pairs core mails keeps messages cores)

-- what came, as the difference has it
abbrev pub came_of : List Listed → List Listed → List Listed
came_of old new = filter (λ listed. not (lists_id old listed.id.0)) new

-- What came are the messages that were not known: their ids are those from the next one on, and
-- there are as many as letters.
pub record CameNew (next fresh : ℕ) (came : List Listed) : Type 0 where
  pub ids : map (λ listed. listed.id) came ≡ ids_from next came
  pub many : length came ≡ fresh

came_known : (old rest : List Listed) (listed : Listed) → lists_id old listed.id.0 ≡ true
    → came_of old (listed ∷ rest) ≡ came_of old rest
came_known old rest listed is =
    ap (λ (t : Bool). if not t then listed ∷ came_of old rest else came_of old rest) is

came_first : (old rest : List Listed) (listed : Listed) → lists_id old listed.id.0 ≡ false
    → came_of old (listed ∷ rest) ≡ listed ∷ came_of old rest
came_first old rest listed is =
    ap (λ (t : Bool). if not t then listed ∷ came_of old rest else came_of old rest) is

pub came_new : (letters next : ℕ) (old : List Listed) (keeps : List (Option ℕ))
    (messages : List Message) → AreBelow letters old → letters ≤ next
    → length keeps ≡ length messages → KeepIds old keeps
    → CameNew next (count_fresh keeps) (came_of old (listed_by next keeps messages))
came_new letters next old [] [] below up pairs kept = record { ids = refl; many = refl }
came_new letters next old [] (message ∷ messages) below up pairs kept =
    absurd (omega (arith, pairs))
came_new letters next old (keep ∷ keeps) [] below up pairs kept = absurd (omega (arith, pairs))
came_new letters next old (Some id ∷ keeps) (message ∷ messages) below up pairs kept =
    subst (CameNew next (count_fresh keeps))
    (sym (came_known old (listed_by next keeps messages) (listed_as id message.flags) kept.0))
    (came_new letters next old keeps messages below up (omega (arith, pairs)) kept.1)
came_new letters next old (None ∷ keeps) (message ∷ messages) below up pairs kept =
    let again = came_new letters (next + 1) old keeps messages below (omega (arith, up))
    (omega (arith, pairs)) kept in
    subst (CameNew next (count_fresh keeps + 1))
    (sym (came_first old (listed_by (next + 1) keeps messages) (listed_as next message.flags)
    (lists_far letters old next below up)))
    (record {
      ids = ap (λ ids. record { 0 = next } ∷ ids) again.ids;
      many = omega (arith, again.many);
    })

-- Which listed message each kind meets again.

-- a message was known as this listed one, which has its key
pub record KnownAs (old : List ListedMail) (id : ℕ) (key : List ℕ) : Type 0 where
  pub listed : ListedMail
  pub held : IsIn listed old
  pub id_is : listed.id ≡ id
  pub key_is : listed.mail.key ≡ key

-- the same of a list that goes on
known_behind : (first : ListedMail) (old : List ListedMail) (id : ℕ) (key : List ℕ)
    → KnownAs old id key → KnownAs (first ∷ old) id key
known_behind first old id key known = record {
  listed = known.listed;
  held = inr known.held;
  id_is = known.id_is;
  key_is = known.key_is;
}

-- each message that was known was known by its key
abbrev pub KeepKeys : List ListedMail → List (Option ℕ) → List Message → Type 0
KeepKeys old [] [] = Unit {0}
KeepKeys old [] (message ∷ messages) = ⊥
KeepKeys old (keep ∷ keeps) [] = ⊥
KeepKeys old (None ∷ keeps) (message ∷ messages) = KeepKeys old keeps messages
KeepKeys old (Some id ∷ keeps) (message ∷ messages) =
    KnownAs old id message.key × KeepKeys old keeps messages

-- one more, known or new
keys_more : (old : List ListedMail) (keep : Option ℕ) (keeps : List (Option ℕ)) (message : Message)
    (messages : List Message) → ((id : ℕ) → keep ≡ Some id → KnownAs old id message.key)
    → KeepKeys old keeps messages → KeepKeys old (keep ∷ keeps) (message ∷ messages)
keys_more old None keeps message messages known again = again
keys_more old (Some id) keeps message messages known again = (known id refl, again)

some_same : (a b : ℕ) → Some a ≡ Some b → a ≡ b
some_same a b is = cc

keyed_known : (old : List ListedMail) (key : List ℕ) (id : ℕ) → keyed old key ≡ Some id
    → KnownAs old id key
keyed_known [] key id is = absurd (cc)
keyed_known (listed ∷ old) key id is =
    by_test (bytes_eq listed.mail.key key) refl is (λ later. keyed_known old key id later)
  where
    by_test : (t : Bool) → bytes_eq listed.mail.key key ≡ t
        → option_map (λ l. l.id) (if t then Some listed
        else find (λ l. bytes_eq l.mail.key key) old) ≡ Some id
        → (keyed old key ≡ Some id → KnownAs old id key)
        → KnownAs (listed ∷ old) id key
    by_test true same is again = record {
      listed = listed;
      held = inl refl;
      id_is = some_same listed.id id is;
      key_is = bytes_same listed.mail.key key same;
    }
    by_test false same is again = known_behind listed old id key (again is)

-- in a Maildir
pub keys_kept : (old : List ListedMail) (messages : List Message)
    → KeepKeys old (kept_by_key old messages) messages
keys_kept old [] = tt
keys_kept old (message ∷ messages) =
    keys_more old (keyed old message.key) (kept_by_key old messages) message messages
    (λ id is. keyed_known old message.key id is) (keys_kept old messages)

stamped_known : (old : List ListedMail) (stamps key : List ℕ) (stamp id : ℕ)
    → stamped old stamps key stamp ≡ Some id → KnownAs old id key
stamped_known [] stamps key stamp id is = absurd (cc)
stamped_known (listed ∷ old) [] key stamp id is = absurd (cc)
stamped_known (listed ∷ old) (known ∷ stamps) key stamp id is =
    by_test (bytes_eq listed.mail.key key && known == stamp) refl is
    (λ later. stamped_known old stamps key stamp id later)
  where
    by_test : (t : Bool) → (bytes_eq listed.mail.key key && known == stamp) ≡ t
        → (if t then Some listed.id else stamped old stamps key stamp) ≡ Some id
        → (stamped old stamps key stamp ≡ Some id → KnownAs old id key)
        → KnownAs (listed ∷ old) id key
    by_test true same is again = record {
      listed = listed;
      held = inl refl;
      id_is = some_same listed.id id is;
      key_is = bytes_same listed.mail.key key
          (and_parts (bytes_eq listed.mail.key key) (known == stamp) same).0;
    }
    by_test false same is again = known_behind listed old id key (again is)

-- in an MH folder, where each message has its stamp
pub stamps_kept : (old : List ListedMail) (stamps : List ℕ) (messages : List Message)
    (new : List ℕ) → length (kept_by_stamp old stamps messages new) ≡ length messages
    → KeepKeys old (kept_by_stamp old stamps messages new) messages
stamps_kept old stamps [] new pairs = tt
stamps_kept old stamps (message ∷ messages) [] pairs = absurd (omega (arith, pairs))
stamps_kept old stamps (message ∷ messages) (stamp ∷ new) pairs =
    keys_more old (stamped old stamps message.key stamp) (kept_by_stamp old stamps messages new)
    message messages (λ id is. stamped_known old stamps message.key stamp id is)
    (stamps_kept old stamps messages new (omega (arith, pairs)))

-- a listed message with its letter is one of the listing
listed_in : (mails : List Mail) (listing : List Listed) (listed : ListedMail)
    → IsIn listed (mails_of mails listing)
    → (lists_id listing listed.id ≡ true) × (mail_of mails listed.id ≡ listed.mail)
listed_in mails [] listed held = absurd held
listed_in mails (first ∷ listing) listed (inl same) =
    let id : first.id.0 ≡ listed.id = ap (λ (l : ListedMail). l.id) same in (
      ap (λ (t : Bool). t || lists_id listing listed.id) (eq-eqb first.id.0 listed.id id),
      ap (mail_of mails) (sym id) ∙ ap (λ (l : ListedMail). l.mail) same,
    )
listed_in mails (first ∷ listing) listed (inr held) =
    let again = listed_in mails listing listed held in
    (or_true (first.id.0 == listed.id) (lists_id listing listed.id) again.0, again.1)
  where
    or_true : (t rest : Bool) → rest ≡ true → (t || rest) ≡ true
    or_true true rest is = refl
    or_true false rest is = is

-- the known one by its id in listing and letters
pub known_listed : (mails : List Mail) (listing : List Listed) (id : ℕ) (key : List ℕ)
    → (known : KnownAs (mails_of mails listing) id key)
    → (lists_id listing id ≡ true) × (mail_of mails id ≡ known.listed.mail)
known_listed mails listing id key known =
    let is = listed_in mails listing known.listed known.held in (
      subst (λ (n : ℕ). lists_id listing n ≡ true) known.id_is is.0,
      ap (mail_of mails) (sym known.id_is) ∙ is.1,
    )

pub keys_ids : (mails : List Mail) (listing : List Listed) (keeps : List (Option ℕ))
    (messages : List Message) → KeepKeys (mails_of mails listing) keeps messages
    → KeepIds listing keeps
keys_ids mails listing [] [] kept = tt
keys_ids mails listing [] (message ∷ messages) kept = absurd kept
keys_ids mails listing (keep ∷ keeps) [] kept = absurd kept
keys_ids mails listing (None ∷ keeps) (message ∷ messages) kept =
    keys_ids mails listing keeps messages kept
keys_ids mails listing (Some id ∷ keeps) (message ∷ messages) kept = (
  (known_listed mails listing id message.key kept.0).0,
  keys_ids mails listing keeps messages kept.1,
)

-- in one file
id_first : (id : ℕ) (listing : List Listed) → (id == id || lists_id listing id) ≡ true
id_first id listing =
    ap (λ (t : Bool). t || lists_id listing id) (eq-eqb id id refl)

ids_behind : (first : Listed) (listing : List Listed) (keeps : List (Option ℕ))
    → KeepIds listing keeps → KeepIds (first ∷ listing) keeps
ids_behind first listing [] kept = tt
ids_behind first listing (None ∷ keeps) kept = ids_behind first listing keeps kept
ids_behind first listing (Some id ∷ keeps) kept =
    (or_true (first.id.0 == id) kept.0, ids_behind first listing keeps kept.1)
  where
    or_true : (t : Bool) → lists_id listing id ≡ true → (t || lists_id listing id) ≡ true
    or_true true is = refl
    or_true false is = is

none_kept : (core : List ℕ → List ℕ) (listing : List Listed) (messages : List Message)
    → KeepIds listing (kept_front core [] messages)
none_kept core listing [] = tt
none_kept core listing (message ∷ messages) = none_kept core listing messages

pub front_ids : (core : List ℕ → List ℕ) (mails : List Mail) (listing : List Listed)
    (messages : List Message)
    → KeepIds listing (kept_front core (mails_of mails listing) messages)
front_ids core mails listing [] = tt
front_ids core mails [] (message ∷ messages) = none_kept core [] messages
front_ids core mails (listed ∷ listing) (message ∷ messages) =
    by_test (bytes_eq (mail_of mails listed.id.0).core (core message.raw)
    && same_flags listed.flags message.flags) (front_ids core mails listing messages)
  where
    by_test : (t : Bool)
        → KeepIds listing (kept_front core (mails_of mails listing) messages)
        → KeepIds (listed ∷ listing) (if t
        then Some listed.id.0 ∷ kept_front core (mails_of mails listing) messages
        else None ∷ kept_front core [] messages)
    by_test true again = (
      id_first listed.id.0 listing,
      ids_behind listed listing (kept_front core (mails_of mails listing) messages) again,
    )
    by_test false again = none_kept core (listed ∷ listing) messages

pub front_length : (core : List ℕ → List ℕ) (old : List ListedMail) (messages : List Message)
    → length (kept_front core old messages) ≡ length messages
front_length core old [] = refl
front_length core [] (message ∷ messages) =
    ap suc (front_length core [] messages)
front_length core (listed ∷ old) (message ∷ messages) =
    by_test (bytes_eq listed.mail.core (core message.raw)
    && same_flags listed.flags message.flags) (front_length core old messages)
    (front_length core [] messages)
  where
    by_test : (t : Bool) → length (kept_front core old messages) ≡ length messages
        → length (kept_front core [] messages) ≡ length messages
        → length (if t then Some listed.id ∷ kept_front core old messages
        else None ∷ kept_front core [] messages)
        ≡ suc (length messages)
    by_test true known new = ap suc known
    by_test false known new = ap suc new
