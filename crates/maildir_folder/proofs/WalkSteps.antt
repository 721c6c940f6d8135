-- Steps of the walk over candidates.
use Rattle.std.proofs.Common.{◌≡◌, ◌≤◌, ◌<◌, ◌+◌, ◌++◌, ℕ, Bool, true, false, List, [], ◌∷◌, Option}
use Rattle.std.proofs.Common.{Some, None, take, drop}
use Rattle.std.proofs.Common.{length, map}
use Rattle.std.proofs.Common.{is_some, refl, sym, ◌∙◌, ap, subst, arith}
use Rattle.std.proofs.lemmas.List.Elements.{All-head, All-same}
use Rattle.std.specs.Prelude.{option_map}
use Rattle.std.specs.List.{All}
use Rattle.disk_model.specs.Seen.{Seen}
use Rattle.disk_model.specs.Looking.{LooksOnly}
use Rattle.folder_core.specs.ListedSoFar.{Store, store_found}
use Rattle.folder_core.specs.Maildir.{MaildirFile, base_of, maildir_format, message_of}
use Rattle.maildir_folder.specs.declared.candidates.Candidate.{Candidate}
use Rattle.maildir_folder.specs.Candidates.{IsCandidate, Rises, plain_file}
use Rattle.maildir_folder.specs.KnownBase.{CanSearch}
use Rattle.maildir_folder.specs.Walk.{HoldsCore, TakesNext, keep_of}
use Rattle.maildir_folder.proofs.Searching.{search_later}
use Rattle.folder_core.specs.Keeping.{ListedMail, keyed, mails_of}
use Rattle.folder_core.specs.Known.{KnownFolder}
use Rattle.folder_core.specs.Message.{Message}
use Rattle.folder_core.proofs.DifferenceLemmas.{AreBelow}
use Rattle.folder_core.proofs.KeepingLemmas.{KeepKeys, id_below, keys_kept, known_listed}
use Rattle.folder_core.proofs.KeepingLemmas.{mail_stays}
use Rattle.folder_core.proofs.RightLemmas.{mails_later}
use Rattle.folder_letters.specs.Letters.{Mail, plain_letter}
use Rattle.folder_letters.specs.declared.letter.Letter.{Letter}
use Rattle.folder_letters.specs.declared.listing.Listed.{Listed}
use Rattle.std.proofs.lemmas.List.{length-map, map-append, take-append-drop}
use Rattle.mail_base.specs.declared.kind.Id.{Id}
use Rattle.maildir_folder.proofs.Walking.{Walking, last_by, rises_next, walking_next}

pub candidate_head : (all rest : List Candidate) (item : Candidate) → all ≡ item ∷ rest
    → All IsCandidate all
    → IsCandidate item
candidate_head all rest item whole each =
    All-head IsCandidate item rest (All-same IsCandidate (item ∷ rest) all (sym whole) each)

count_by : (keep : Option ℕ) (found : Option Message) (store : Store)
    → (store_found maildir_format keep found store).count ≤ store.count + 1
count_by keep None store = omega arith
count_by None (Some message) store = omega arith
count_by (Some id) (Some message) store = omega arith

-- new messages are no more than all
fresh_by : (keep : Option ℕ) (found : Option Message) (store : Store)
    → store.fresh ≤ store.count
    → (store_found maildir_format keep found store).fresh
    ≤ (store_found maildir_format keep found store).count
fresh_by keep None store few = few
fresh_by None (Some message) store few = omega (arith, few)
fresh_by (Some id) (Some message) store few = omega (arith, few)

-- the count goes up by one at most, and a file less is left
pub room_left : {mails : List Mail} {path : List ℕ} {last : Option (List ℕ)} {file : MaildirFile}
    {keep : Option ℕ} {taken : Bool} {store new_store : Store} {a b : Seen}
    (all rest : List Candidate) (item : Candidate) (total : ℕ) → all ≡ item ∷ rest
    → TakesNext mails path last file keep taken store new_store a b
    → store.count + length all ≤ total → new_store.count + length rest ≤ total
room_left {mails} {path} {last} {file} {keep} {taken} {store} {new_store} {a} {b} all rest item
    total whole t room =
    omega (
      arith,
      ap length whole,
      count_by keep (option_map (message_of file) t.found) store,
      ap (λ (s : Store). s.count)
          t.store_is,
      room,
    )

pub fresh_left : {mails : List Mail} {path : List ℕ} {last : Option (List ℕ)} {file : MaildirFile}
    {keep : Option ℕ} {taken : Bool} {store new_store : Store} {a b : Seen}
    → TakesNext mails path last file keep taken store new_store a b
    → store.fresh ≤ store.count → new_store.fresh ≤ new_store.count
fresh_left {mails} {path} {last} {file} {keep} {taken} {store} {new_store} {a} {b} t few =
    omega (
      arith,
      fresh_by keep (option_map (message_of file) t.found) store few,
      ap (λ (s : Store). s.count) t.store_is,
      ap (λ (s : Store). s.fresh) t.store_is,
    )

-- What a step says of the letters so far, by those of the beginning.

-- a known message is one of the listing
pub below_keyed : (mails : List Mail) (listing : List Listed) (base : List ℕ) (id : ℕ)
    → AreBelow (length mails) listing → keyed (mails_of mails listing) base ≡ Some id
    → id < length mails
below_keyed mails listing base id below is =
    let old : List ListedMail = mails_of mails listing in
    let message : Message =
    record (message_of (record { in_cur = true; name = [] }) []) { key = base } in
    let keys : KeepKeys old (Some id ∷ []) (message ∷ []) =
    subst (λ (k : Option ℕ). KeepKeys old (k ∷ []) (message ∷ [])) is
    (keys_kept old (message ∷ [])) in
    id_below (length mails) listing id below
    (known_listed mails listing id base keys.0).0

keep_below : (mails : List Mail) (known : KnownFolder) (file : MaildirFile) (id : ℕ)
    → AreBelow (length mails) known.listing → keep_of mails known file ≡ Some id
    → id < length mails
keep_below mails known file id below is =
    below_keyed mails known.listing (base_of file) id below is

-- what the search of a base has found is what the message is known as
pub found_id : (items letters : List Letter) (known : KnownFolder) (listing : List Listed)
    (base : List ℕ) (file : Candidate) (result : Option Id) (id : Id) → letters ≡ items
    → listing ≡ known.listing → base ≡ base_of (plain_file file) → result ≡ Some id
    → option_map (λ i. i.0) result ≡ keyed (mails_of (map plain_letter letters) listing) base
    → Some id.0 ≡ keep_of (map plain_letter items) known (plain_file file)
found_id items letters known listing base file result id same list at is found =
    sym (ap (option_map (λ (i : Id). i.0)) is) ∙ found
    ∙ (λ i. keyed (mails_of (map plain_letter (same i)) (list i)) (at i))

-- and its letter is there
pub found_there : (items letters : List Letter) (known : KnownFolder) (file : MaildirFile) (id : ℕ)
    → letters ≡ items → CanSearch (map plain_letter items) known.listing
    → Some id ≡ keep_of (map plain_letter items) known file → id < length letters
found_there items letters known file id same search is =
    omega (
      arith,
      keep_below (map plain_letter items) known file id search.within (sym is),
      length-map items plain_letter,
      ap length same,
    )

same_keep : (mails more : List Mail) (known : KnownFolder) (file : MaildirFile)
    → AreBelow (length mails) known.listing
    → keep_of (mails ++ more) known file ≡ keep_of mails known file
same_keep mails more known file below =
    ap (λ (l : List ListedMail). keyed l (base_of file))
    (mails_later mails more known.listing below)

core_first : (mails more : List Mail) (keep : Option ℕ) (found : Option (List ℕ))
    → ((id : ℕ) → keep ≡ Some id → id < length mails) → HoldsCore (mails ++ more) keep found
    → HoldsCore mails keep found
core_first mails more None found low core = tt
core_first mails more (Some id) None low core = tt
core_first mails more (Some id) (Some raw) low core =
    sym (ap (λ (m : Mail). m.core) (mail_stays mails more id (low id refl))) ∙ core

next_more : (mails more : List Mail) (known : KnownFolder) (last : Option (List ℕ))
    (file : MaildirFile) (taken : Bool) (store new_store : Store) (a b : Seen)
    → AreBelow (length mails) known.listing
    → TakesNext (mails ++ more) known.path last file (keep_of (mails ++ more) known file) taken
    store new_store a b
    → TakesNext mails known.path last file (keep_of mails known file) taken store new_store a b
next_more mails more known last file taken store new_store a b below t =
    let same = same_keep mails more known file below in
    let at : TakesNext (mails ++ more) known.path last file (keep_of mails known file) taken store
    new_store a b =
    subst (λ (k : Option ℕ). TakesNext (mails ++ more) known.path last file k taken store new_store
    a b) same t in
    record {
      found = at.found;
      is = at.is;
      store_is = at.store_is;
      once = at.once;
      core = core_first mails more (keep_of mails known file) at.found
          (λ id is. keep_below mails known file id below is) at.core;
      reads = at.reads;
      saw = at.saw;
    }

-- letters are those of the beginning and more
letters_more : (first now : List Letter) → take (length first) now ≡ first
    → map plain_letter now
    ≡ map plain_letter first ++ map plain_letter (drop (length first) now)
letters_more first now front =
    ap (map plain_letter) (sym (take-append-drop (length first) now)
    ∙ ap (λ (l : List Letter). l ++ drop (length first) now) front)
    ∙ map-append plain_letter first (drop (length first) now)

pub next_first : (first now : List Letter) (known : KnownFolder) (last : Option (List ℕ))
    (file : MaildirFile) (taken : Bool) (store new_store : Store) (a b : Seen)
    → take (length first) now ≡ first → CanSearch (map plain_letter first) known.listing
    → TakesNext (map plain_letter now) known.path last file
    (keep_of (map plain_letter now) known file) taken store new_store a b
    → TakesNext (map plain_letter first) known.path last file
    (keep_of (map plain_letter first) known file) taken store new_store a b
next_first first now known last file taken store new_store a b front search t =
    next_more (map plain_letter first) (map plain_letter (drop (length first) now)) known last file
    taken store new_store a b search.within
    (subst (λ (l : List Mail). TakesNext l known.path last file (keep_of l known file) taken store
    new_store a b) (letters_more first now front) t)

-- the known messages can be searched among more letters too
pub search_now : (first now : List Letter) (listing : List Listed) → take (length first) now ≡ first
    → CanSearch (map plain_letter first) listing → CanSearch (map plain_letter now) listing
search_now first now listing front search =
    subst (λ (l : List Mail). CanSearch l listing) (sym (letters_more first now front))
    (search_later (map plain_letter first) (map plain_letter (drop (length first) now)) listing
    search)

last_left : (file : MaildirFile) (found last : Option (List ℕ)) → is_some found ≡ false
    → last_by file found last ≡ last
last_left file None last none = refl
last_left file (Some raw) last none = absurd (cc)

last_taken : (file : MaildirFile) (found last : Option (List ℕ)) → is_some found ≡ true
    → last_by file found last ≡ Some (base_of file)
last_taken file None last some = absurd (cc)
last_taken file (Some raw) last some = refl

-- a step of the walk, and the base that was taken last behind it
pub record Stepped (mails : List Mail) (known : KnownFolder) (files : List MaildirFile)
    (rest : List Candidate) (last : Option (List ℕ)) (first store : Store) (a c : Seen)
    : Type 0 where
  pub rises : Rises last (map plain_file rest)
  pub walked : Walking mails known files (map plain_file rest) last first store a c

stepped : (mails : List Mail) (known : KnownFolder) (files : List MaildirFile)
    (all rest : List Candidate) (item : Candidate)
    (last new_last : Option (List ℕ)) (first store new_store : Store) (taken : Bool)
    (a b c : Seen)
    → all ≡ item ∷ rest → All IsCandidate all → Rises last (map plain_file all)
    → LooksOnly a.told b.told → LooksOnly b.told c.told
    → Walking mails known files (map plain_file all) last first store a b
    → (t : TakesNext mails known.path last (plain_file item) (keep_of mails known (plain_file item))
    taken store new_store b c)
    → last_by (plain_file item) t.found last ≡ new_last
    → Stepped mails known files rest new_last first new_store a c
stepped mails known files all rest item last new_last first store new_store taken a b c whole each
    rises before next w t is =
    let plain : map plain_file all ≡ plain_file item ∷ map plain_file rest =
    ap (map plain_file) whole in
    subst (λ (l : Option (List ℕ)). Stepped mails known files rest l first new_store a c) is
    (record {
      rises = rises_next last (plain_file item) t.found (map plain_file rest)
          (subst (Rises last) plain rises);
      walked = walking_next mails known files (map plain_file all) (map plain_file rest)
          (plain_file item) last first store new_store taken a b c plain rises
          (candidate_head all rest item whole each).shown before next w t;
    })

pub stepped_left : (mails : List Mail) (known : KnownFolder) (files : List MaildirFile)
    (all rest : List Candidate) (item : Candidate)
    {last : Option (List ℕ)} {first store new_store : Store} (taken : Bool) {a b c : Seen}
    → all ≡ item ∷ rest → taken ≡ false → All IsCandidate all → Rises last (map plain_file all)
    → LooksOnly a.told b.told → LooksOnly b.told c.told
    → Walking mails known files (map plain_file all) last first store a b
    → TakesNext mails known.path last (plain_file item) (keep_of mails known (plain_file item))
    taken store new_store b c
    → Stepped mails known files rest last first new_store a c
stepped_left mails known files all rest item {last} {first} {store} {new_store} taken {a} {b} {c}
    whole not each rises before next w t =
    stepped mails known files all rest item last last first store new_store taken a b c whole each
    rises before next w t
    (last_left (plain_file item) t.found last (sym t.is ∙ not))

pub stepped_taken : (mails : List Mail) (known : KnownFolder) (files : List MaildirFile)
    (all rest : List Candidate) (item : Candidate)
    {last : Option (List ℕ)} (base : List ℕ) {first store new_store : Store} (taken : Bool)
    {a b c : Seen}
    → all ≡ item ∷ rest → taken ≡ true → base ≡ item.base.items → All IsCandidate all
    → Rises last (map plain_file all) → LooksOnly a.told b.told → LooksOnly b.told c.told
    → Walking mails known files (map plain_file all) last first store a b
    → TakesNext mails known.path last (plain_file item) (keep_of mails known (plain_file item))
    taken store new_store b c
    → Stepped mails known files rest (Some base) first new_store a c
stepped_taken mails known files all rest item {last} base {first} {store} {new_store} taken {a} {b}
    {c} whole is same each rises before next w t =
    stepped mails known files all rest item last (Some base) first store new_store taken a b c whole
    each rises before next w t
    (last_taken (plain_file item) t.found last (sym t.is ∙ is)
    ∙ ap Some (sym (same ∙ (candidate_head all rest item whole each).base)))
