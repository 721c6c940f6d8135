-- How the message of one file is kept.
use Rattle.std.proofs.Common.{◌≡◌, ◌≢◌, ◌≤◌, ◌<◌, ◌-◌, ◌+◌, ◌++◌, ◌⊎◌, ◌==◌, inl, inr, ℕ, Bool}
use Rattle.std.proofs.Common.{true}
use Rattle.std.proofs.Common.{false, List, [], ◌∷◌, Ok, Err, Result, Option, Some, None, length}
use Rattle.std.proofs.Common.{is_none}
use Rattle.std.proofs.Common.{if◌then◌else◌, refl, sym, ◌∙◌, ap, subst, arith}
use Rattle.std.specs.Prelude.{IfSome, option_and_then, unwrap_or}
use Rattle.std.proofs.lemmas.Bool.{eq-eqb}
use Rattle.std.proofs.lemmas.Bool.Decides.{nat_tests}
use Rattle.mail_base.specs.declared.flags.Flags.{Flags}
use Rattle.disk_model.specs.Journal.{Past, ReadAll}
use Rattle.disk_model.specs.Judge.{GoesOn}
use Rattle.disk_model.specs.Looking.{HasLooked, LooksOnly}
use Rattle.disk_model.specs.Seen.{Seen}
use Rattle.disk_model.specs.State.{tree_at}
use Rattle.disk_model.specs.declared.answers.FileRead.{FileRead}
use Rattle.disk_model.proofs.Looking.{looked_longer}
use Rattle.folder_letters.specs.Letters.{Mail}
use Rattle.folder_core.specs.Bore.{Bore}
use Rattle.folder_core.specs.Directory.{file_at, path_in}
use Rattle.folder_core.specs.Keeping.{IsThere, mail_of}
use Rattle.folder_core.specs.Limits.{most_bytes, told_sum}
use Rattle.folder_core.specs.Costs.{RaisesAtMost}
use Rattle.folder_core.specs.ListedSoFar.{LooksWithin, ReadsLeft, Store, counted_new, known_if}
use Rattle.folder_core.specs.ListedSoFar.{new_if, store_known}
use Rattle.folder_core.specs.ListedSoFar.{store_new, store_refusal}
use Rattle.folder_core.specs.Looked.{FileSeen, FitsLimit, IsContent, OnlyMeets, SawAt}
use Rattle.folder_core.specs.Looked.{content_length}
use Rattle.folder_core.specs.Message.{Message}
use Rattle.folder_core.specs.Mh.{message_at, message_of, number_at}
use Rattle.folder_core.specs.MhNumbers.{number_of}
use Rattle.folder_core.specs.MhSequences.{mh_flags}
use Rattle.folder_core.specs.declared.error.ScanError.{ScanError}
use Rattle.folder_core.specs.declared.listed_so_far.ListedSoFar.{ListedSoFar}
use Rattle.folder_core.specs.declared.looks.Content.{Content}
use Rattle.folder_core.specs.declared.looks.Content.TheVariants.{NoFile, TooLong, Whole}
use Rattle.folder_core.proofs.ListedSoFarLemmas.{long_past, long_seen, none_seen, whole_seen}
use Rattle.folder_core.proofs.ReadsLemmas.{left_counted, left_none, left_then, left_then_failed}
use Rattle.folder_core.proofs.SeenLemmas.{goes_as, goes_then, longer_later, meets_later, only_then}
use Rattle.folder_core.proofs.FileStamps.{same_stamp}
use Rattle.folder_core.proofs.RightLemmas.{bore_later}
use Rattle.mh_folder.specs.KnownFile.{file_in, id_at}
use Rattle.mh_folder.specs.Visit.{BeginsWell, Course, IsCourse, IsFileCourse, IsKnownFile}
use Rattle.mh_folder.specs.Visit.{WasBorne, id_of}
use Rattle.mh_folder.specs.declared.visit.Visit.{Visit}
use Rattle.mh_folder.specs.Walk.{Adds, CountsOne, IsFile, IsLonger as IsLongerFile, IsMet, IsSame}
use Rattle.mh_folder.specs.Walk.{Keeps, Kept}
use Rattle.mh_folder.specs.Walk.{LookSeen, MessageMet, NothingMet, Puts, Stays, Takes}
use Rattle.mh_folder.specs.Walk.{letter_as}
use Rattle.mh_folder.specs.Walk.{message_as}
use Rattle.mh_folder.specs.declared.known_file.KnownFile.{KnownFile}
use Rattle.mh_sequences.specs.declared.marks.Marks.{Marks}
use Rattle.mh_folder.specs.declared.look.Look.{Look}
use Rattle.mh_folder.specs.declared.look.Look.TheVariants.{Nothing, Same}
use Rattle.mh_folder.proofs.StoreLemmas.{nearly_from, nearly_same, refused_bytes, with_fresh}

true_false : ◌≡◌ {A = Bool} true false → ⊥
true_false e = cc

none_some : {A : Type 0} (x : A) → None ≡ Some x → ⊥
none_some x e = cc

-- What stood once bears its bytes.

-- what is known of a file stays so
pub borne_later : (mails : List Mail) (file : KnownFile) (a b : Option Past) → LooksOnly a b
    → WasBorne mails file a → WasBorne mails file b
borne_later mails file None None looks borne = tt
borne_later mails file None (Some q) looks borne = absurd (cc)
borne_later mails file (Some p) None looks borne = absurd looks
borne_later mails file (Some p) (Some q) looks borne =
    bore_later (mail_of mails file.id.0).core file.stamp p q (looked_longer p q looks) borne

pub some_later : (mails : List Mail) (found : Option KnownFile) (a b : Option Past) → LooksOnly a b
    → IfSome found (λ file. WasBorne mails file a) → IfSome found (λ file. WasBorne mails file b)
some_later mails None a b looks borne = tt
some_later mails (Some file) a b looks borne = borne_later mails file a b looks borne

pub known_later : (course : Course) (name : List ℕ) (found : Option KnownFile)
    (a b : Option Past) → LooksOnly a b → IsKnownFile course name a found
    → IsKnownFile course name b found
known_later course name found a b looks known = record {
  keep = known.keep;
  size = known.size;
  borne = some_later course.mails found a b looks known.borne;
}

-- a file that was met bore its bytes
seen_bore : (path bytes : List ℕ) (stamp : ℕ) (p q : Past) → FileSeen path bytes stamp p q
    → Bore bytes stamp q
seen_bore path bytes stamp p q seen = record {
  mark = seen.1.mark;
  within = seen.1.to;
  path = path;
  there = seen.1.tells.0;
  stamp_is = seen.1.tells.1;
}

-- a file with the stamp of a listed one has its bytes
same_bytes : (mails : List Mail) (file : KnownFile) (path bytes : List ℕ) (stamp : ℕ) (p q : Past)
    → LooksOnly (Some p) (Some q) → BeginsWell (Some q) → WasBorne mails file (Some p)
    → file.stamp ≡ stamp → FileSeen path bytes stamp p q
    → bytes ≡ (mail_of mails file.id.0).core
same_bytes mails file path bytes stamp p q looks begins borne same seen =
    same_stamp q bytes (mail_of mails file.id.0).core stamp begins
    (seen_bore path bytes stamp p q seen)
    (subst (λ (s : ℕ). Bore (mail_of mails file.id.0).core s q) same
    (borne_later mails file (Some p) (Some q) looks borne))

-- Messages of a file.

is_new : (found there : Option Message) → there ≡ found → IsMet None found there
is_new None there is = is
is_new (Some message) there is = is

-- a message that was not known
pub met_new : (course : Course) (name bytes : List ℕ) (stamp as_stamp : ℕ) (a b : Option Past)
    → stamp ≡ as_stamp → GoesOn (FileSeen (path_in course.path name) bytes stamp) a b
    → GoesOn (MessageMet course name None (message_of course.sequences name bytes) as_stamp) a b
met_new course name bytes stamp as_stamp a b same saw = goes_as a b (λ p q s. record {
  mark = s.1.mark;
  from = s.1.from;
  to = s.1.to;
  there = is_new (message_of course.sequences name bytes)
      (message_at (tree_at q s.1.mark) course.path course.sequences name)
      (ap (option_and_then (message_of course.sequences name)) s.1.tells.0);
  stamp_is = λ message is. s.1.tells.1 ∙ same;
}) saw

there_known : (sequences name core raw : List ℕ) (id : ℕ) (there : Option (List ℕ)) → raw ≢ []
    → there ≡ Some raw
    → IsThere (Some id) (message_as sequences name core)
    (option_and_then (message_of sequences name) there)
there_known sequences name core [] id there some is = absurd (some refl)
there_known sequences name core (b ∷ raw) id there some is =
    (b ∷ raw, ap (option_and_then (message_of sequences name)) is)

-- a message that was known
pub met_known : (course : Course) (name core raw : List ℕ) (id stamp as_stamp : ℕ)
    (a b : Option Past) → raw ≢ [] → stamp ≡ as_stamp
    → GoesOn (FileSeen (path_in course.path name) raw stamp) a b
    → GoesOn (MessageMet course name (Some id) (Some (message_as course.sequences name core))
    as_stamp) a b
met_known course name core raw id stamp as_stamp a b some same saw = goes_as a b (λ p q s. record {
  mark = s.1.mark;
  from = s.1.from;
  to = s.1.to;
  there = there_known course.sequences name core raw id
      (file_at (tree_at q s.1.mark) (path_in course.path name)) some s.1.tells.0;
  stamp_is = λ message is. s.1.tells.1 ∙ same;
}) saw

-- the message of a file that is not known
file_new : (course : Course) (name raw : List ℕ) (stamp : ℕ)
    → ((raw ≡ []) ⊎ (None ≡ id_of course name stamp))
    → IfSome (message_of course.sequences name raw) (IsFile course name None stamp)
file_new course name [] stamp is = tt
file_new course name (b ∷ raw) stamp (inl none) = absurd (cc)
file_new course name (b ∷ raw) stamp (inr is) =
    record { key = refl; order = refl; keep_is = is; core = tt }

id_same : (file : KnownFile) (stamp : ℕ) → file.stamp ≡ stamp
    → id_at (Some file) stamp ≡ Some file.id.0
id_same file stamp is =
    ap (λ (t : Bool). if t then Some file.id.0 else None) (eq-eqb file.stamp stamp is)

id_other : (file : KnownFile) (stamp : ℕ) → file.stamp ≢ stamp → id_at (Some file) stamp ≡ None
id_other file stamp other = by_test (file.stamp == stamp) refl
  where
    by_test : (t : Bool) → (file.stamp == stamp) ≡ t
        → (if t then Some file.id.0 else None) ≡ None
    by_test true is = absurd (other (grind (arith, nat_tests, is)))
    by_test false is = refl

-- the message of a file that is known
file_known : (course : Course) (name : List ℕ) (told : Option Past) (found : Option KnownFile)
    (file : KnownFile) → IsKnownFile course name told found → found ≡ Some file
    → IsFile course name (Some file.id.0) file.stamp
    (message_as course.sequences name (mail_of course.mails file.id.0).core)
file_known course name told found file known is = record {
  key = refl;
  order = refl;
  keep_is = sym (known.keep file.stamp
      ∙ ap (λ (f : Option KnownFile). id_at f file.stamp) is ∙ id_same file file.stamp refl);
  core = refl;
}

found_size : (mails : List Mail) (found : Option KnownFile) (file : KnownFile)
    → found ≡ Some file → IfSome found (λ f. f.size ≡ length (mail_of mails f.id.0).core)
    → length (mail_of mails file.id.0).core ≡ file.size
found_size mails found file is size =
    sym (subst (λ (o : Option KnownFile).
    IfSome o (λ f. f.size ≡ length (mail_of mails f.id.0).core)) is size)

found_borne : (mails : List Mail) (found : Option KnownFile) (file : KnownFile)
    (told : Option Past) → found ≡ Some file → IfSome found (λ f. WasBorne mails f told)
    → WasBorne mails file told
found_borne mails found file told is borne =
    subst (λ (o : Option KnownFile). IfSome o (λ f. WasBorne mails f told)) is borne

-- What is put of a file.

-- a letter and an entry more
pub message_added : (sequences name raw : List ℕ) (number stamp : ℕ) (flags : Flags) (mail : Mail)
    (kept new_kept : Kept) → raw ≢ [] → number_of name ≡ Some number
    → flags ≡ mh_flags sequences number
    → mail ≡ letter_as number name raw → new_kept.store ≡ store_new flags mail kept.store
    → new_kept.stamps ≡ kept.stamps ++ stamp ∷ [] → Adds sequences name raw stamp kept new_kept
message_added sequences name [] number stamp flags mail kept new_kept some is flagged made stored
    stamped =
    absurd (some refl)
message_added sequences name (b ∷ raw) number stamp flags mail kept new_kept some is flagged made
    stored stamped =
    let at : number ≡ number_at name = sym (ap (λ (n : Option ℕ). unwrap_or n 0) is) in
    let same : new_kept.store
    ≡ store_new (mh_flags sequences (number_at name)) (letter_as (number_at name) name (b ∷ raw))
    kept.store =
    stored ∙ (λ i. store_new (flagged i) (made i) kept.store)
    ∙ ap (λ (n : ℕ). store_new (mh_flags sequences n) (letter_as n name (b ∷ raw)) kept.store)
    at in
    record { store = nearly_from new_kept.store _ same; stamps = λ none. stamped }

-- an empty file is no message
pub nothing_added : (sequences name raw : List ℕ) (stamp : ℕ) (kept : Kept) → raw ≡ []
    → Adds sequences name raw stamp kept kept
nothing_added sequences name [] stamp kept none =
    record { store = nearly_same kept.store; stamps = λ none. refl }
nothing_added sequences name (b ∷ raw) stamp kept none = absurd (cc)

-- a message stays as it is listed
pub message_stays : (sequences name : List ℕ) (number : ℕ) (flags : Flags) (file : KnownFile)
    (kept new_kept : Kept) → number_of name ≡ Some number → flags ≡ mh_flags sequences number
    → new_kept.store ≡ store_known file.id.0 flags file.size kept.store
    → new_kept.stamps ≡ kept.stamps ++ file.stamp ∷ [] → Stays sequences name file kept new_kept
message_stays sequences name number flags file kept new_kept is flagged stored stamped =
    λ core size.
    let at : number ≡ number_at name = sym (ap (λ (n : Option ℕ). unwrap_or n 0) is) in
    let same : new_kept.store
    ≡ store_known file.id.0 (mh_flags sequences (number_at name)) (length core) kept.store =
    stored ∙ (λ i. store_known file.id.0 (flagged i) (sym size i) kept.store)
    ∙ ap (λ (n : ℕ). store_known file.id.0 (mh_flags sequences n) (length core) kept.store) at in
    record { store = nearly_from new_kept.store _ same; stamps = λ none. stamped }

-- One file.

-- no message was found
pub took_nothing : (course : Course) (name : List ℕ) (kept : Kept) (a b : Option Past)
    → GoesOn (NothingMet course.path name) a b → Takes course name kept kept a b
took_nothing course name kept a b saw = record {
  found = None;
  keep = None;
  stamp = 0;
  is = tt;
  keeps = record { store = nearly_same kept.store; stamps = λ none. refl };
  saw = goes_as a b (λ p q s. record {
    mark = s.mark;
    from = s.from;
    to = s.to;
    there = s.none course.sequences;
    stamp_is = λ message none. absurd (none_some message none);
  }) saw;
}

pub took_none : (course : Course) (name at : List ℕ) (limit : ℕ) (content : Content) (kept : Kept)
    (a b : Option Past)
    → at ≡ path_in course.path name → content ≡ NoFile
    → GoesOn (SawAt (ReadAll at limit) (λ tree. IsContent limit content tree at)) a b
    → Takes course name kept kept a b
took_none course name at limit content kept a b is told saw =
    took_nothing course name kept a b (goes_as a b (λ p q s. record {
      mark = s.1.mark;
      from = s.1.from;
      to = s.1.to;
      none = λ sequences. ap (option_and_then (message_of sequences name)) s.1.tells;
    })
    (none_seen at (path_in course.path name) limit content a b is told saw))

took_new : (course : Course) (name raw : List ℕ) (stamp : ℕ) (kept new_kept : Kept)
    (a b : Option Past) → ((raw ≡ []) ⊎ (None ≡ id_of course name stamp))
    → Adds course.sequences name raw stamp kept new_kept
    → GoesOn (FileSeen (path_in course.path name) raw stamp) a b
    → Takes course name kept new_kept a b
took_new course name raw stamp kept new_kept a b new adds saw = record {
  found = message_of course.sequences name raw;
  keep = None;
  stamp = stamp;
  is = file_new course name raw stamp new;
  keeps = adds;
  saw = met_new course name raw stamp stamp a b refl saw;
}

took_same : (course : Course) (name raw : List ℕ) (stamp : ℕ) (found : Option KnownFile)
    (file : KnownFile) (kept new_kept : Kept) (a b : Option Past)
    → IsKnownFile course name a found → IsSame found raw stamp file
    → Stays course.sequences name file kept new_kept
    → GoesOn (FileSeen (path_in course.path name) raw stamp) a b
    → Takes course name kept new_kept a b
took_same course name raw stamp found file kept new_kept a b known is stays saw =
    let core : List ℕ = (mail_of course.mails file.id.0).core in
    record {
      found = Some (message_as course.sequences name core);
      keep = Some file.id.0;
      stamp = file.stamp;
      is = file_known course name a found file known is.is;
      keeps = stays core (found_size course.mails found file is.is known.size);
      saw = met_known course name core raw file.id.0 stamp file.stamp a b is.some
          (sym is.stamp_is) saw;
    }

-- a file with a known stamp and other bytes is none that is told
never_longer : (course : Course) (name raw : List ℕ) (stamp : ℕ) (found : Option KnownFile)
    (file : KnownFile) (p q : Past) → LooksOnly (Some p) (Some q) → BeginsWell (Some q)
    → IsKnownFile course name (Some p) found → IsLongerFile found raw stamp file
    → FileSeen (path_in course.path name) raw stamp p q → ⊥
never_longer course name raw stamp found file p q looks begins known is seen =
    let same = same_bytes course.mails file (path_in course.path name) raw stamp p q looks begins
    (found_borne course.mails found file (Some p) is.is known.borne) is.stamp_is seen in
    let size = found_size course.mails found file is.is known.size in
    omega (arith, ap length same, size, is.more)

other_met : (course : Course) (name raw : List ℕ) (stamp other : ℕ) (found : Option KnownFile)
    (file : KnownFile) (a b : Option Past) → LooksOnly a b → BeginsWell b
    → IsKnownFile course name a found → IsLongerFile found raw stamp file
    → GoesOn (FileSeen (path_in course.path name) raw stamp) a b
    → GoesOn (MessageMet course name None (message_of course.sequences name raw) other) a b
other_met course name raw stamp other found file None b looks begins known is saw = saw
other_met course name raw stamp other found file (Some p) None looks begins known is saw = saw
other_met course name raw stamp other found file (Some p) (Some q) looks begins known is saw =
    absurd (never_longer course name raw stamp found file p q looks begins known is saw)

took_other : (course : Course) (name raw : List ℕ) (stamp other : ℕ) (found : Option KnownFile)
    (file : KnownFile) (kept new_kept : Kept) (a b : Option Past) → LooksOnly a b → BeginsWell b
    → IsKnownFile course name a found → IsLongerFile found raw stamp file → file.stamp ≢ other
    → Adds course.sequences name raw other kept new_kept
    → GoesOn (FileSeen (path_in course.path name) raw stamp) a b
    → Takes course name kept new_kept a b
took_other course name raw stamp other found file kept new_kept a b looks begins known is differs
    adds saw = record {
      found = message_of course.sequences name raw;
      keep = None;
      stamp = other;
      is = file_new course name raw other (inr (sym (known.keep other
          ∙ ap (λ (f : Option KnownFile). id_at f other) is.is ∙ id_other file other differs)));
      keeps = adds;
      saw = other_met course name raw stamp other found file a b looks begins known is saw;
    }

put_new : (course : Course) (name raw : List ℕ) (stamp : ℕ) (found : Option KnownFile)
    (told : Option Past) → IsKnownFile course name told found
    → (raw ≡ []) ⊎ (id_at found stamp ≡ None) → (raw ≡ []) ⊎ (None ≡ id_of course name stamp)
put_new course name raw stamp found told known (inl none) = inl none
put_new course name raw stamp found told known (inr new) = inr (sym (known.keep stamp ∙ new))

took_put : (course : Course) (name raw : List ℕ) (stamp : ℕ) (found : Option KnownFile)
    (kept new_kept : Kept) (a b : Option Past) → LooksOnly a b → BeginsWell b
    → IsKnownFile course name a found
    → Puts course.sequences name found raw stamp kept new_kept
    → GoesOn (FileSeen (path_in course.path name) raw stamp) a b
    → Takes course name kept new_kept a b
took_put course name raw stamp found kept new_kept a b looks begins known (inl new) saw =
    took_new course name raw stamp kept new_kept a b (put_new course name raw stamp found a known
    new.is) new.adds saw
took_put course name raw stamp found kept new_kept a b looks begins known (inr (inl same)) saw =
    took_same course name raw stamp found same.file kept new_kept a b known same.is same.stays saw
took_put course name raw stamp found kept new_kept a b looks begins known (inr (inr other)) saw =
    took_other course name raw stamp other.other found other.file kept new_kept a b looks begins
    known other.is other.differs other.adds saw

pub took_whole : (course : Course) (name at : List ℕ) (limit : ℕ) (content : Content)
    (read : FileRead) (found : Option KnownFile) (kept new_kept : Kept) (a b : Option Past)
    → at ≡ path_in course.path name → content ≡ Whole read → LooksOnly a b → BeginsWell b
    → IsKnownFile course name a found
    → Puts course.sequences name found read.bytes.items read.stat.stamp kept new_kept
    → GoesOn (SawAt (ReadAll at limit) (λ tree. IsContent limit content tree at)) a b
    → Takes course name kept new_kept a b
took_whole course name at limit content read found kept new_kept a b is told looks begins known
    puts saw =
    took_put course name read.bytes.items read.stat.stamp found kept new_kept a b looks begins
    known puts
    (whole_seen at (path_in course.path name) limit content read a b is told saw)

-- A file that is too long.

-- it is counted as new, and nothing is stored
abbrev pub CountsLong : ℕ → Kept → Kept → Type 0
CountsLong size kept new_kept = new_kept.store ≡ counted_new size kept.store

-- past what is left of the bytes
abbrev pub IsPast : ℕ → Kept → Type 0
IsPast size kept = most_bytes - kept.store.bytes < size

past_bytes : (size : ℕ) (kept : Kept) → IsPast size kept
    → most_bytes < told_sum (kept.store.bytes + size)
past_bytes size kept past = omega (arith, past)

never_stored : (size : ℕ) (kept new_kept : Kept) → IsPast size kept
    → CountsLong size kept new_kept → store_refusal new_kept.store ≡ None → ⊥
never_stored size kept new_kept past counted none =
    true_false (sym (ap is_none (sym (ap store_refusal counted) ∙ none))
    ∙ refused_bytes kept.store.letters (kept.store.fresh + 1) (kept.store.count + 1)
    (told_sum (kept.store.bytes + size)) (past_bytes size kept past))

long_new : (sequences name bytes : List ℕ) (stamp size : ℕ) (kept new_kept : Kept)
    → IsPast size kept → size ≡ length bytes → CountsLong size kept new_kept
    → Adds sequences name bytes stamp kept new_kept
long_new sequences name [] stamp size kept new_kept past same counted =
    absurd (omega (arith, past, same))
long_new sequences name (b ∷ raw) stamp size kept new_kept past same counted =
    let flags : Flags = mh_flags sequences (number_at name) in
    let mail : Mail = letter_as (number_at name) name (b ∷ raw) in
    let refused = refused_bytes kept.store.letters (kept.store.fresh + 1) (kept.store.count + 1)
    (told_sum (kept.store.bytes + length mail.core))
    (past_bytes (length mail.core) kept (omega (arith, past, same))) in
    let whole : new_kept.store ≡ store_new flags mail kept.store =
    counted ∙ ap (λ (n : ℕ). counted_new n kept.store) same
    ∙ ap (λ (t : Bool). new_if t flags mail kept.store) (sym refused) in
    record {
      store = nearly_from new_kept.store _ whole;
      stamps = λ none. absurd (never_stored size kept new_kept past counted none);
    }

long_known : (sequences name core : List ℕ) (id stamp size : ℕ) (kept new_kept : Kept)
    → IsPast size kept → size ≡ length core → CountsLong size kept new_kept
    → Keeps (Some id) (Some (message_as sequences name core)) stamp kept new_kept
long_known sequences name core id stamp size kept new_kept past same counted =
    let flags : Flags = mh_flags sequences (number_at name) in
    let high = past_bytes (length core) kept (omega (arith, past, same)) in
    let refused = refused_bytes kept.store.letters kept.store.fresh (kept.store.count + 1)
    (told_sum (kept.store.bytes + length core)) high in
    record {
      store = record {
        same = counted ∙ ap (λ (n : ℕ). counted_new n kept.store) same
            ∙ ap (λ (t : Bool). with_fresh (kept.store.fresh + 1)
            (known_if t id flags (length core) kept.store)) (sym refused)
            ∙ ap (λ (n : ℕ). with_fresh n (store_known id flags (length core) kept.store))
            (sym (ap (λ (s : Store). s.fresh) counted));
        fresh = inr high;
      };
      stamps = λ none. absurd (never_stored size kept new_kept past counted none);
    }

-- a stamp that no known file of the name has
abbrev pub unlike : Option KnownFile → ℕ
unlike None = 0
unlike (Some file) = file.stamp + 1

unlike_none : (found : Option KnownFile) → id_at found (unlike found) ≡ None
unlike_none None = refl
unlike_none (Some file) = id_other file (file.stamp + 1) (λ e. omega (arith, e))

-- a file was met of so many bytes, where the past is told
took_told : (course : Course) (name bytes : List ℕ) (stamp size : ℕ) (found : Option KnownFile)
    (kept new_kept : Kept) (p q : Past) → IsPast size kept → CountsLong size kept new_kept
    → size ≡ length bytes → LooksOnly (Some p) (Some q) → BeginsWell (Some q)
    → IsKnownFile course name (Some p) found
    → FileSeen (path_in course.path name) bytes stamp p q
    → Takes course name kept new_kept (Some p) (Some q)
took_told course name bytes stamp size found kept new_kept p q past counted same looks begins known
    seen =
    by_found found refl
  where
    new : id_at found stamp ≡ None → Takes course name kept new_kept (Some p) (Some q)
    new none =
        took_new course name bytes stamp kept new_kept (Some p) (Some q)
        (inr (sym (known.keep stamp ∙ none)))
        (long_new course.sequences name bytes stamp size kept new_kept past same counted) seen

    old : (file : KnownFile) → found ≡ Some file → file.stamp ≡ stamp
        → Takes course name kept new_kept (Some p) (Some q)
    old file is stamp_is =
        let core : List ℕ = (mail_of course.mails file.id.0).core in
        let borne = found_borne course.mails found file (Some p) is known.borne in
        let whole : bytes ≡ core = same_bytes course.mails file (path_in course.path name) bytes
        stamp p q looks begins borne stamp_is seen in
        let some : bytes ≢ [] = λ none. omega (arith, past, same, ap length none) in
        record {
          found = Some (message_as course.sequences name core);
          keep = Some file.id.0;
          stamp = file.stamp;
          is = file_known course name (Some p) found file known is;
          keeps = long_known course.sequences name core file.id.0 file.stamp size kept new_kept
              past (same ∙ ap length whole) counted;
          saw = met_known course name core bytes file.id.0 stamp file.stamp (Some p) (Some q) some
              (sym stamp_is) seen;
        }

    by_stamp : (file : KnownFile) → found ≡ Some file → (t : Bool) → (file.stamp == stamp) ≡ t
        → Takes course name kept new_kept (Some p) (Some q)
    by_stamp file is true test = old file is (grind (arith, nat_tests, test))
    by_stamp file is false test =
        new (ap (λ (f : Option KnownFile). id_at f stamp) is
        ∙ ap (λ (t : Bool). if t then Some file.id.0 else None) test)

    by_found : (f : Option KnownFile) → found ≡ f
        → Takes course name kept new_kept (Some p) (Some q)
    by_found None is = new (ap (λ (f : Option KnownFile). id_at f stamp) is)
    by_found (Some file) is = by_stamp file is (file.stamp == stamp) refl

took_met : (course : Course) (name bytes : List ℕ) (stamp size : ℕ) (found : Option KnownFile)
    (kept new_kept : Kept) (a b : Option Past) → IsPast size kept
    → CountsLong size kept new_kept → size ≡ length bytes → LooksOnly a b → BeginsWell b
    → IsKnownFile course name a found
    → GoesOn (FileSeen (path_in course.path name) bytes stamp) a b
    → Takes course name kept new_kept a b
took_met course name bytes stamp size found kept new_kept None b past counted same looks begins
    known seen = record {
      found = message_of course.sequences name bytes;
      keep = None;
      stamp = unlike found;
      is = file_new course name bytes (unlike found)
          (inr (sym (known.keep (unlike found) ∙ unlike_none found)));
      keeps = long_new course.sequences name bytes (unlike found) size kept new_kept past same
          counted;
      saw = seen;
    }
took_met course name bytes stamp size found kept new_kept (Some p) None past counted same looks
    begins known seen =
    absurd seen
took_met course name bytes stamp size found kept new_kept (Some p) (Some q) past counted same looks
    begins known seen =
    took_told course name bytes stamp size found kept new_kept p q past counted same looks begins
    known seen

pub took_long : (course : Course) (name at : List ℕ) (limit : ℕ) (content : Content) (size : ℕ)
    (found : Option KnownFile) (kept new_kept : Kept) (a b : Option Past)
    → at ≡ path_in course.path name → limit ≡ most_bytes - kept.store.bytes
    → content ≡ TooLong size → FitsLimit limit content → CountsLong size kept new_kept
    → LooksOnly a b → BeginsWell b → IsKnownFile course name a found
    → GoesOn (SawAt (ReadAll at limit) (λ tree. IsContent limit content tree at)) a b
    → Takes course name kept new_kept a b
took_long course name at limit content size found kept new_kept a b is left told past counted looks
    begins known saw =
    let met = long_seen at (path_in course.path name) limit content size a b is told saw in
    took_met course name met.bytes met.stamp size found kept new_kept a b
    (omega (arith, left, long_past limit content size told past)) counted met.length_is looks
    begins known met.saw

-- By a look alone.

-- what a look has met, by the path of the walk
look_as : (course : Course) (path name : List ℕ) (stamp : ℕ) (look as_look : Look)
    (a b : Option Past) → course.path ≡ path → look ≡ as_look
    → GoesOn (LookSeen path name stamp look) a b
    → GoesOn (LookSeen course.path name stamp as_look) a b
look_as course path name stamp look as_look a b at is saw =
    subst (λ (l : Look). GoesOn (LookSeen course.path name stamp l) a b) is
    (subst (λ (p : List ℕ). GoesOn (LookSeen p name stamp look) a b) (sym at) saw)

pub took_kept : (course : Course) (path name : List ℕ) (look : Look) (file : KnownFile)
    (kept new_kept : Kept) (a b : Option Past) → course.path ≡ path → look ≡ Same
    → IsKnownFile course name a (Some file) → Stays course.sequences name file kept new_kept
    → GoesOn (LookSeen path name file.stamp look) a b
    → Takes course name kept new_kept a b
took_kept course path name look file kept new_kept a b at is known stays saw =
    let core : List ℕ = (mail_of course.mails file.id.0).core in
    record {
      found = Some (message_as course.sequences name core);
      keep = Some file.id.0;
      stamp = file.stamp;
      is = file_known course name a (Some file) file known refl;
      keeps = stays core (found_size course.mails (Some file) file refl known.size);
      saw = goes_as a b (λ p q s. record {
        mark = s.mark;
        from = s.from;
        to = s.to;
        there = (s.raw, s.there course.sequences);
        stamp_is = λ message e. s.stamp_is;
      }) (look_as course path name file.stamp look Same a b at is saw);
    }

pub took_passed : (course : Course) (path name : List ℕ) (look : Look) (stamp : ℕ) (kept : Kept)
    (a b : Option Past) → course.path ≡ path → look ≡ Nothing
    → GoesOn (LookSeen path name stamp look) a b → Takes course name kept kept a b
took_passed course path name look stamp kept a b at is saw =
    took_nothing course name kept a b
    (look_as course path name stamp look Nothing a b at is saw)

-- Behind a look.

pub took_later : (course : Course) (name : List ℕ) (kept new_kept : Kept) (a b c : Option Past)
    → LooksOnly a b → LooksOnly b c → Takes course name kept new_kept b c
    → Takes course name kept new_kept a c
took_later course name kept new_kept a b c before next t = record {
  found = t.found;
  keep = t.keep;
  stamp = t.stamp;
  is = t.is;
  keeps = t.keeps;
  saw = goes_then {P = HasLooked} {Q = MessageMet course name t.keep t.found t.stamp} a b c
      (λ p q r x y looked met. record {
        mark = met.mark;
        from = omega (arith, met.from, longer_later p q x);
        to = met.to;
        there = met.there;
        stamp_is = met.stamp_is;
      }) before next before t.saw;
}

-- what is known of a file stays so behind a look
pub course_later : (path : List ℕ) (marks : Marks) (name : List ℕ) (found : Option KnownFile)
    (course : Course) (a b : Option Past) → LooksOnly a b
    → IsFileCourse path marks name found a course → IsFileCourse path marks name found b course
course_later path marks name found course a b looks is = record {
  path_is = is.path_is;
  marks_are = is.marks_are;
  file = known_later course name found a b looks is.file;
}

-- What was read.

pub read_counted : (old new : ListedSoFar) (limit : ℕ) (read : FileRead) (content : Content)
    (a b : Option ℕ) → limit ≡ most_bytes - old.bytes → content ≡ Whole read
    → FitsLimit limit content → CountsOne (length read.bytes.items) old new
    → RaisesAtMost a b (content_length content)
    → ReadsLeft {A = Unit {0}} (Ok tt) old.bytes new.bytes a b
read_counted old new limit read content a b left is fits counts reads =
    let within : length read.bytes.items ≤ limit =
    subst (λ (d : Content). FitsLimit limit d) is fits in
    left_counted (tt {0}) old.bytes new.bytes counts.more (content_length content) limit a b left
    counts.bytes (omega (arith, ap content_length is, counts.high))
    (omega (arith, ap content_length is, within)) reads

-- a message was kept, of which nothing was read
pub kept_counted : (old new : ListedSoFar) (size : ℕ) (a b : Option ℕ) → CountsOne size old new
    → RaisesAtMost a b 0 → ReadsLeft {A = Unit {0}} (Ok tt) old.bytes new.bytes a b
kept_counted old new size a b counts reads =
    left_counted (tt {0}) old.bytes new.bytes counts.more 0 (most_bytes - old.bytes) a b refl
    counts.bytes (omega arith) (omega arith) reads

-- what a walk does behind a look that reads nothing
pub within_later : {A : Type 0} (result : Result (Unit {0}) ScanError) (given : A)
    (bytes new_bytes : ℕ) (a b c : Seen) → OnlyMeets (Ok given) a b
    → RaisesAtMost a.bytes_read b.bytes_read 0 → LooksWithin result bytes new_bytes b c
    → LooksWithin result bytes new_bytes a c
within_later (Ok done) given bytes new_bytes a b c before none within = record {
  meets = record {
    only = only_then a b c before.only within.meets.only;
    cause = λ is. absurd (cc);
    errors = tt;
  };
  reads = left_then given done done bytes bytes new_bytes a.bytes_read b.bytes_read c.bytes_read
      (left_none given bytes a.bytes_read b.bytes_read none) within.reads;
}
within_later (Err why) given bytes new_bytes a b c before none within = record {
  meets = meets_later why a b c before.only within.meets;
  reads = left_then_failed given bytes bytes a.bytes_read b.bytes_read c.bytes_read
      (left_none given bytes a.bytes_read b.bytes_read none) within.reads;
}

-- what a walk goes by at one name
pub file_course : (path : List ℕ) (visit : Visit) (name : List ℕ) (number : ℕ)
    (found : Option KnownFile) (told : Option Past) (course : Course) → number_of name ≡ Some number
    → file_in visit.files.files.items number ≡ found → IsCourse path visit told course
    → IsFileCourse path visit.marks name found told course
file_course path visit name number found told course is at goes = record {
  path_is = goes.path_is;
  marks_are = goes.marks_are;
  file = subst (IsKnownFile course name told) at (goes.files name number is);
}

-- what it goes by stays so
pub visit_later : (path : List ℕ) (visit : Visit) (course : Course) (a b : Option Past)
    → LooksOnly a b → IsCourse path visit a course → IsCourse path visit b course
visit_later path visit course a b looks goes = record {
  path_is = goes.path_is;
  marks_are = goes.marks_are;
  files = λ name number is.
      known_later course name (file_in visit.files.files.items number) a b looks
      (goes.files name number is);
}

-- bytes of another length than 0
pub some_bytes : (raw : List ℕ) (n : ℕ) → n ≡ length raw → n ≢ 0 → raw ≢ []
some_bytes raw n is other none = other (omega (arith, is, ap length none))
