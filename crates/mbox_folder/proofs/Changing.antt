-- What is told of a file that is read only where it is not as it is known.
use Rattle.std.proofs.Common.{◌≡◌, ◌≤◌, ◌+◌, ◌⊎◌, ◌==◌, ◌&&◌, ℕ, Bool, true, false, not, List, []}
use Rattle.std.proofs.Common.{◌∷◌, Option, Some, None, Result, Ok, Err, IfSome, inl, inr, length}
use Rattle.std.proofs.Common.{nat_lt, is_some, refl, sym, ◌∙◌, ap, subst, arith, eq-eqb, eqb-true}
use Rattle.std.specs.Prelude.{option_and_then}
use Rattle.std.proofs.lemmas.Bool.{and_from, and_parts}
use Rattle.disk_model.specs.Journal.{Past, StatPath}
use Rattle.disk_model.specs.Judge.{GoesOn, stat_node}
use Rattle.disk_model.specs.Lawful.{IsLawful}
use Rattle.disk_model.specs.Looking.{HasLooked, LooksOnly}
use Rattle.disk_model.specs.Seen.{Seen}
use Rattle.disk_model.specs.State.{tree_at}
use Rattle.disk_model.specs.Tree.{TreeNode, is_first_tree, node_at}
use Rattle.disk_model.specs.declared.answers.FileRead.{FileRead}
use Rattle.disk_model.specs.declared.answers.Stat.{Stat}
use Rattle.disk_model.proofs.Looking.{looked_longer, looked_then}
use Rattle.disk_model.proofs.Marks.{tree_at-longer}
use Rattle.folder_core.specs.Bore.{Bore}
use Rattle.folder_core.specs.Costs.{RaisesAtMost}
use Rattle.folder_core.specs.Directory.{node_file, stamp_there}
use Rattle.folder_core.specs.FirstLook.{FindsFirst, TellsMissing}
use Rattle.folder_core.specs.Keeping.{mails_of}
use Rattle.folder_core.specs.Known.{KnownFolder}
use Rattle.folder_core.specs.Limits.{most_bytes}
use Rattle.folder_core.specs.Looked.{Looked, SawAt, node_stat, stat_there}
use Rattle.folder_core.specs.Mbox.{MailboxRefused, ReadsIfChanged, StaysKnown, mbox_refusal}
use Rattle.folder_core.specs.Mbox.{mbox_refused}
use Rattle.folder_core.specs.declared.error.ScanError.{ScanError}
use Rattle.folder_core.specs.declared.error.ScanError.TheVariants.{Missing, NotMailbox, TooMany}
use Rattle.folder_core.specs.declared.error.ScanError.TheVariants.{TooLarge, Unfinished}
use Rattle.folder_core.specs.declared.error.ScanError.TheVariants.{ArchiveFull, Fault, NoMemory}
use Rattle.folder_core.proofs.CostsLemmas.{raises_more, raises_then}
use Rattle.folder_core.proofs.FirstLookLemmas.{first_as, stat_stands, stood_first, stood_later}
use Rattle.folder_core.proofs.FirstLookLemmas.{tells_failed, tells_missing, tells_there}
use Rattle.folder_core.proofs.SeenLemmas.{goes_as, longer_later, only_then, rose_later, saw_later}
use Rattle.folder_core.proofs.RightLemmas.{bore_later}
use Rattle.folder_core.proofs.FileStamps.{same_stamp}
use Rattle.folder_letters.specs.Letters.{Mail}
use Rattle.mbox_folder.specs.FileSeen.{ChangeSeen, FileSeen, IsFile, IsFileAnswer, IsRead}
use Rattle.mbox_folder.specs.FileSeen.{IsFileError, MeetsFile, SeenThere, TellsChange, WasSo}
use Rattle.mbox_folder.specs.FileSeen.{behind_look, is_as_known, kept_stamp}
use Rattle.mbox_folder.proofs.Reading.{alone_at}

-- What `stat` tells.

-- the look met what it tells
abbrev pub StatSeen : List ℕ → Stat → Past → Past → Type 0
StatSeen path stat old new =
    SawAt (StatPath path) (λ tree. Some stat ≡ stat_there (node_at tree path)) old new

-- a file that `stat` tells of
record IsStatOf (stat : Stat) (bytes : List ℕ) (there : Option TreeNode) : Type 0 where
  pub content : option_and_then node_file there ≡ Some bytes
  pub stamp : stamp_there there ≡ stat.stamp
  pub size : stat.length ≡ length bytes

stat_bytes : (b : Option (List ℕ)) (stamp : ℕ) (stat : Stat) → stat ≡ stat_node b stamp
    → stat.folder ≡ false → (bytes : List ℕ) × (b ≡ Some bytes) × (stamp ≡ stat.stamp)
    × (stat.length ≡ length bytes)
stat_bytes None stamp stat is file =
    absurd (let no : true ≡ false = sym (ap (λ (s : Stat). s.folder) is) ∙ file in cc)
stat_bytes (Some bytes) stamp stat is file =
    (bytes, refl, sym (ap (λ (s : Stat). s.stamp) is), ap (λ (s : Stat). s.length) is)

stat_of_file : (there : Option TreeNode) (stat : Stat) → Some stat ≡ stat_there there
    → stat.folder ≡ false → (bytes : List ℕ) × IsStatOf stat bytes there
stat_of_file None stat is file = absurd (cc)
stat_of_file (Some node) stat is file =
    let same : stat ≡ node_stat node = cc in
    let told = stat_bytes node.bytes node.stamp stat same file in
    (told.0, record { content = told.1; stamp = told.2; size = told.3 })

not_false : (b : Bool) → not b ≡ true → b ≡ false
not_false true is = sym is
not_false false is = refl

-- what is as known is a file with the known stamp
known_parts : (size stamp : ℕ) (stat : Stat) → is_as_known size stamp stat ≡ true
    → (stat.folder ≡ false) × (stat.stamp ≡ stamp)
known_parts size stamp stat is =
    let parts = and_parts (not stat.folder) (stat.length == size && stat.stamp == stamp) is in
    let both = and_parts (stat.length == size) (stat.stamp == stamp) parts.1 in
    (not_false stat.folder parts.0, eqb-true stat.stamp stamp both.1)

-- A file of the kept stamp is the known one.

kept_file : (known : KnownFolder) (stamp : ℕ) (stat : Stat) (old new : Past)
    → nat_lt most_bytes (length known.bytes) ≡ false → Bore known.bytes stamp old
    → is_first_tree old.first ≡ true → HasLooked old new → known.stamps ≡ stamp ∷ []
    → is_as_known (length known.bytes) stamp stat ≡ true → StatSeen known.path stat old new
    → SeenThere (IsFile known.bytes known.stamps) known.path old new
kept_file known stamp stat old new few bore first looked kept is saw =
    let parts = known_parts (length known.bytes) stamp stat is in
    let there = node_at (tree_at new saw.mark) known.path in
    let file = stat_of_file there stat saw.tells parts.0 in
    let same : known.bytes ≡ file.0 =
    same_stamp new known.bytes file.0 stamp
    (ap is_first_tree looked.same_first ∙ first)
    (bore_later known.bytes stamp old new (looked_longer old new looked) bore)
    (record {
      mark = saw.mark;
      within = saw.to;
      path = known.path;
      there = file.1.content;
      stamp_is = file.1.stamp ∙ parts.1;
    }) in
    record {
      mark = saw.mark;
      from = saw.from;
      to = saw.to;
      is = is_file there (file.1.content ∙ ap Some (sym same)) (file.1.stamp ∙ parts.1);
      alone = alone_at saw.mark old new looked saw.from;
    }
  where
    is_file : (there : Option TreeNode) → option_and_then node_file there ≡ Some known.bytes
        → stamp_there there ≡ stamp → IsFile known.bytes known.stamps there
    is_file None content at = absurd (cc)
    is_file (Some node) content at = record {
      content = content;
      stamp = ap (λ (n : ℕ). n ∷ []) at ∙ sym kept;
      few = few;
    }

saw_kept : (known : KnownFolder) (stamp marks : ℕ) (stat : Stat) (old new : Option Past)
    → WasSo known old → IfSome old (IsLawful marks) → LooksOnly old new
    → known.stamps ≡ stamp ∷ [] → is_as_known (length known.bytes) stamp stat ≡ true
    → GoesOn (StatSeen known.path stat) old new
    → GoesOn (ChangeSeen known (Ok None)) old new
saw_kept known stamp marks stat None new was lawful looks kept is saw = saw
saw_kept known stamp marks stat (Some old) None was lawful looks kept is saw = absurd saw
saw_kept known stamp marks stat (Some old) (Some new) was lawful looks kept is saw =
    kept_file known stamp stat old new was.few (was.bore stamp kept) lawful.first looks kept is saw

-- Costs.

pub costs_nothing : (known : KnownFolder) (old new : Seen)
    → RaisesAtMost old.bytes_read new.bytes_read 0 → ReadsIfChanged known old new
costs_nothing known old new same = λ stamp past next a b stays. same

pub costs_first : (known : KnownFolder) (old new : Seen) → kept_stamp known.stamps ≡ None
    → ReadsIfChanged known old new
costs_first known old new none = λ stamp past next a b stays.
    let no : ◌≡◌ {A = Option ℕ} (Some stamp) None =
    sym (ap kept_stamp stays.kept) ∙ none in absurd (cc)

stays_as_known : (size stamp other : ℕ) (stat : Stat) (there : Option TreeNode) (bytes : List ℕ)
    → Some stat ≡ stat_there there → option_and_then node_file there ≡ Some bytes
    → length bytes ≡ size → stamp_there there ≡ other → other ≡ stamp
    → is_as_known size stamp stat ≡ true
stays_as_known size stamp other stat None bytes is content long at same = absurd (cc)
stays_as_known size stamp other stat (Some node) bytes is content long at same =
    let told : stat ≡ stat_node (Some bytes) node.stamp =
    (let first : stat ≡ node_stat node = cc in first)
    ∙ ap (λ (b : Option (List ℕ)). stat_node b node.stamp) content in
    ap (is_as_known size stamp) told
    ∙ and_from (length bytes == size) (node.stamp == stamp) (eq-eqb (length bytes) size long)
    (eq-eqb node.stamp stamp (at ∙ same))

one_stamp : (a b : ℕ) → ◌≡◌ {A = List ℕ} (a ∷ []) (b ∷ []) → a ≡ b
one_stamp a b is = cc

not_known : (known : KnownFolder) (stamp other : ℕ) (stat : Stat) (old mid new : Past)
    → StatSeen known.path stat old mid → HasLooked mid new → known.stamps ≡ stamp ∷ []
    → is_as_known (length known.bytes) stamp stat ≡ false → StaysKnown known other old new → ⊥
not_known known stamp other stat old mid new saw looked kept not_so stays =
    let later = saw_later old mid new saw looked in
    let there = stays.stays later.mark later.from later.to in
    let yes : is_as_known (length known.bytes) stamp stat ≡ true =
    stays_as_known (length known.bytes) stamp other stat
    (node_at (tree_at new later.mark) known.path) there.0 later.tells there.1.0 there.1.1.0
    there.1.1.1 (one_stamp other stamp (sym stays.kept ∙ kept)) in
    true_false (sym yes ∙ not_so)
  where
    true_false : ◌≡◌ {A = Bool} true false → ⊥
    true_false e = cc

costs_told : (known : KnownFolder) (stamp other : ℕ) (stat : Stat) (old mid new : Option Past)
    → GoesOn (StatSeen known.path stat) old mid → LooksOnly mid new → known.stamps ≡ stamp ∷ []
    → is_as_known (length known.bytes) stamp stat ≡ false
    → (past next : Past) → old ≡ Some past → new ≡ Some next → StaysKnown known other past next → ⊥
costs_told known stamp other stat None mid new saw looks kept not_so past next a b stays = cc
costs_told known stamp other stat (Some p) None new saw looks kept not_so past next a b stays = saw
costs_told known stamp other stat (Some p) (Some q) None saw looks kept not_so past next a b stays =
    looks
costs_told known stamp other stat (Some p) (Some q)
    (Some r) saw looks kept not_so past next a b stays =
    let first : p ≡ past = cc in
    let last : r ≡ next = cc in
    not_known known stamp other stat p q r saw looks kept not_so
    (subst (λ (x : Past). StaysKnown known other x r) (sym first)
    (subst (λ (y : Past). StaysKnown known other past y) (sym last) stays))

pub costs_looked : (known : KnownFolder) (stamp : ℕ) (stat : Stat) (old mid new : Seen)
    → GoesOn (StatSeen known.path stat) old.told mid.told → LooksOnly mid.told new.told
    → known.stamps ≡ stamp ∷ [] → is_as_known (length known.bytes) stamp stat ≡ false
    → ReadsIfChanged known old new
costs_looked known stamp stat old mid new saw looks kept not_so =
    λ other past next a b stays.
    absurd (costs_told known stamp other stat old.told mid.told new.told saw looks kept not_so past
    next
    a b stays)

-- Refusals.

-- a fault and want of memory are no matter of what stands there
failed_refused : (mails : List Mail) (known : KnownFolder) (why : ScanError) (m n : ℕ) (past : Past)
    → (why ≡ Fault) ⊎ (why ≡ NoMemory) → mbox_refused mails known why m n past
failed_refused mails known why m n past (inl is) =
    subst (λ (e : ScanError). mbox_refused mails known e m n past) (sym is) tt
failed_refused mails known why m n past (inr is) =
    subst (λ (e : ScanError). mbox_refused mails known e m n past) (sym is) tt

-- at a mark the tree shows the cause
shown : (mails : List Mail) (known : KnownFolder) (why : ScanError) (old new : Past)
    → (seen : SeenThere (λ there. mbox_refusal (length mails) (mails_of mails known.listing) there
    ≡ Some why) known.path old new)
    → MailboxRefused mails known why (length old.journal) (length new.journal) new
shown mails known why old new seen =
    record { mark = seen.mark; from = seen.from; to = seen.to; refused = seen.is }

seen_as : (P Q : Option TreeNode → Type 0) (path : List ℕ) (old new : Past)
    → ((there : Option TreeNode) → P there → Q there) → SeenThere P path old new
    → SeenThere Q path old new
seen_as P Q path old new by seen = record {
  mark = seen.mark;
  from = seen.from;
  to = seen.to;
  is = by (node_at (tree_at new seen.mark) path) seen.is;
  alone = seen.alone;
}

read_refused : (mails : List Mail) (known : KnownFolder) (why : ScanError) (old new : Past)
    → FileSeen (Err why) known.path old new
    → mbox_refused mails known why (length old.journal) (length new.journal) new
read_refused mails known Missing old new seen = shown mails known Missing old new
    (seen_as (λ there. there ≡ None) _ known.path old new
    (λ there is. ap (mbox_refusal (length mails) (mails_of mails known.listing)) is) seen)
read_refused mails known (NotMailbox place) old new seen = inl
    (shown mails known (NotMailbox place) old
    new (seen_as (IsRead (Err (NotMailbox place))) _ known.path old new
    (λ there is. is (length mails) (mails_of mails known.listing)) seen))
read_refused mails known (TooMany count) old new seen = shown mails known (TooMany count) old new
    (seen_as (IsRead (Err (TooMany count))) _ known.path old new
    (λ there is. is (length mails) (mails_of mails known.listing)) seen)
read_refused mails known (TooLarge size) old new seen = shown mails known (TooLarge size) old new
    (seen_as (IsRead (Err (TooLarge size))) _ known.path old new
    (λ there is. is (length mails) (mails_of mails known.listing)) seen)
read_refused mails known Unfinished old new seen = shown mails known Unfinished old new
    (seen_as (IsRead (Err Unfinished)) _ known.path old new
    (λ there is. is (length mails) (mails_of mails known.listing)) seen)
read_refused mails known ArchiveFull old new seen = shown mails known ArchiveFull old new
    (seen_as (IsRead (Err ArchiveFull)) _ known.path old new
    (λ there is. is (length mails) (mails_of mails known.listing)) seen)
read_refused mails known Fault old new seen = tt
read_refused mails known NoMemory old new seen = tt

-- what was seen behind a first look was seen by both
seen_behind : (P : Option TreeNode → Type 0) (path : List ℕ) (old mid new : Past)
    → HasLooked old mid → HasLooked mid new → SeenThere P path mid new → SeenThere P path old new
seen_behind P path old mid new first next seen =
    let from : length old.journal ≤ seen.mark =
    omega (arith, seen.from, longer_later old mid first) in
    record {
      mark = seen.mark;
      from = from;
      to = seen.to;
      is = seen.is;
      alone = alone_at seen.mark old new (looked_then old mid new first next) from;
    }

-- what a first look met and the read behind it did not went away
went_away : (mails : List Mail) (known : KnownFolder) (stat : Stat) (old mid new : Past)
    → HasLooked mid new → StatSeen known.path stat old mid
    → SeenThere (λ there. there ≡ None) known.path mid new
    → mbox_refused mails known (NotMailbox 0) (length old.journal) (length new.journal) new
went_away mails known stat old mid new looked saw seen = inr (
  refl,
  record {
    before = saw.mark;
    from = saw.from;
    there = ap (λ (tree : List TreeNode). is_some (node_at tree known.path))
        (tree_at-longer mid new saw.mark (looked_longer mid new looked) saw.to)
        ∙ stat_stands (node_at (tree_at mid saw.mark) known.path) stat saw.tells;
    mark = seen.mark;
    later = omega (arith, saw.to, seen.from);
    to = seen.to;
    nothing = seen.is;
  },
)

-- What is told by the looks.

-- the same of what is told through two calls
told_then : {P Q R : Past → Past → Type 0} (a b c : Option Past)
    → ((p q r : Past) → HasLooked p q → HasLooked q r → P p q → Q q r → R p r)
    → LooksOnly a b → LooksOnly b c → GoesOn P a b → GoesOn Q b c → GoesOn R a c
told_then {P} {Q} {R} None b c by first second p q = silent b c p q
  where
    silent : (b c : Option Past) → b ≡ None → GoesOn Q b c → c ≡ None
    silent None c is goes = goes
    silent (Some past) c is goes = absurd (cc)
told_then {P} {Q} {R} (Some a) None c by first second p q = absurd p
told_then {P} {Q} {R} (Some a) (Some b) None by first second p q = absurd q
told_then {P} {Q} {R} (Some a) (Some b) (Some c) by first second p q = by a b c first second p q

-- what the look at a path has told
pub record LookTold (result : Result (Option Stat) ScanError) (path : List ℕ) (old new : Seen)
    : Type 0 where
  pub looked : Looked result (StatPath path)
      (λ found tree. found ≡ stat_there (node_at tree path)) old new
  pub first : GoesOn (FindsFirst (λ found. is_some found) result path) old.told new.told
  pub reads : RaisesAtMost old.bytes_read new.bytes_read 0

look_at_path : (result : Result (Option Stat) ScanError) (path name : List ℕ) → path ≡ name
    → {old new : Seen} → LookTold result path old new → LookTold result name old new
look_at_path result path name at {old} {new} told =
    subst (λ (p : List ℕ). LookTold result p old new) at told

-- what the read of a path has told
pub record ReadTold (result : Result FileRead ScanError) (path : List ℕ) (old new : Seen) : Type 0
  where
    pub seen : GoesOn (FileSeen result path) old.told new.told
    pub first : GoesOn (TellsMissing result path) old.told new.told
    pub possible : IsFileAnswer result
    pub meets : MeetsFile result old new

pub read_at_path : (result : Result FileRead ScanError) (path name : List ℕ) → path ≡ name
    → {old new : Seen} → ReadTold result path old new → ReadTold result name old new
read_at_path result path name at {old} {new} told =
    subst (λ (p : List ℕ). ReadTold result p old new) at told

-- what a look told of its answer
pub look_is : (found : Option Stat) (path : List ℕ) {other : Option Stat} {old new : Seen}
    → other ≡ found
    → LookTold (Ok other) path old new → LookTold (Ok found) path old new
look_is found path {other} {old} {new} same told =
    subst (λ (o : Option Stat). LookTold (Ok o) path old new) same told

-- a file with the kept stamp: nothing is read
pub tells_kept : (known : KnownFolder) (path : List ℕ) (stamp marks : ℕ) (stat : Stat)
    (old new : Seen)
    → WasSo known old.told → IfSome old.told (IsLawful marks) → known.stamps ≡ stamp ∷ []
    → is_as_known (length known.bytes) stamp stat ≡ true
    → path ≡ known.path → LookTold (Ok (Some stat)) path old new
    → TellsChange known (Ok None) old new
tells_kept known path stamp marks stat old new was lawful kept is at told =
    let look = look_at_path (Ok (Some stat)) path known.path at told in
    let looked = look.looked in
    let first = look.first in
    let reads = look.reads in
    record {
      saw = saw_kept known stamp marks stat old.told new.told was lawful looked.only.looks kept is
          looked.saw;
      few = was.few;
      kept = (stamp, kept);
      first = tells_there (Ok None) known.path old.told new.told (λ e. (cc)) first;
      costs = costs_nothing known old new reads;
      possible = tt;
      meets = record {
        only = looked.only;
        cause = λ is. absurd (cc);
        within = raises_more old.bytes_read new.bytes_read 0 most_bytes (omega arith) reads;
      };
    }

-- the costs of both
within_both : (old mid new : Seen) → RaisesAtMost old.bytes_read mid.bytes_read 0
    → RaisesAtMost mid.bytes_read new.bytes_read most_bytes
    → RaisesAtMost old.bytes_read new.bytes_read most_bytes
within_both old mid new first next =
    raises_more old.bytes_read new.bytes_read (0 + most_bytes) most_bytes (omega arith)
    (raises_then old.bytes_read mid.bytes_read new.bytes_read 0 most_bytes first next)

-- another file: it is read
pub tells_read : (known : KnownFolder) (path : List ℕ) (stamp : ℕ) (stat : Stat) (file : FileRead)
    (old mid new : Seen)
    → known.stamps ≡ stamp ∷ [] → is_as_known (length known.bytes) stamp stat ≡ false
    → path ≡ known.path → LookTold (Ok (Some stat)) path old mid
    → ReadTold (Ok file) path mid new
    → TellsChange known (Ok (Some file)) old new
tells_read known path stamp stat file old mid new kept not_so at told next =
    let look = look_at_path (Ok (Some stat)) path known.path at told in
    let looked = look.looked in
    let first = look.first in
    let reads = look.reads in
    let more = read_at_path (Ok file) path known.path at next in
    let seen = more.seen in
    let meets = more.meets in
    record {
      saw = told_then {P = HasLooked} old.told mid.told new.told
          (λ p q r x y s t. seen_behind (IsRead (Ok file)) known.path p q r x y t)
          looked.only.looks meets.only.looks looked.only.looks seen;
      few = more.possible;
      kept = tt;
      first = tells_there (Ok (Some file)) known.path old.told new.told (λ e. (cc))
          (stood_later known.path old.told mid.told new.told looked.only.looks meets.only.looks
          first);
      costs = costs_looked known stamp stat old mid new looked.saw meets.only.looks kept not_so;
      possible = tt;
      meets = record {
        only = only_then old mid new looked.only meets.only;
        cause = λ is. absurd (cc);
        within = within_both old mid new reads meets.within;
      };
    }

-- the file went away behind the first look
tells_gone : (known : KnownFolder) (path : List ℕ) (stat : Stat) (old mid new : Seen)
    → path ≡ known.path → LookTold (Ok (Some stat)) path old mid
    → ReadTold (Err Missing) path mid new
    → TellsChange known (Err (NotMailbox 0)) old new
tells_gone known path stat old mid new at told next =
    let look = look_at_path (Ok (Some stat)) path known.path at told in
    let looked = look.looked in
    let first = look.first in
    let reads = look.reads in
    let more = read_at_path (Err Missing) path known.path at next in
    let seen = more.seen in
    let meets = more.meets in
    record {
      saw = told_then {P = StatSeen known.path stat} old.told mid.told new.told
          (λ p q r x y s t mails. went_away mails known stat p q r y s t)
          looked.only.looks meets.only.looks looked.saw seen;
      few = tt;
      kept = tt;
      first = tells_there (Err (NotMailbox 0)) known.path old.told new.told (λ e. (cc))
          (stood_later known.path old.told mid.told new.told looked.only.looks meets.only.looks
          first);
      costs = tt;
      possible = refl;
      meets = record {
        only = only_then old mid new looked.only meets.only;
        cause = λ is. absurd (cc);
        within = within_both old mid new reads meets.within;
      };
    }

-- another file is not read, for this cause
tells_unread : (known : KnownFolder) (path : List ℕ) (why : ScanError) (stat : Stat)
    (old mid new : Seen)
    → (why ≡ Missing → ⊥)
    → path ≡ known.path → LookTold (Ok (Some stat)) path old mid
    → ReadTold (Err why) path mid new
    → TellsChange known (Err why) old new
tells_unread known path why stat old mid new other at told next =
    let look = look_at_path (Ok (Some stat)) path known.path at told in
    let looked = look.looked in
    let first = look.first in
    let reads = look.reads in
    let more = read_at_path (Err why) path known.path at next in
    let seen = more.seen in
    let meets = more.meets in
    let possible = more.possible in
    record {
      saw = told_then {P = HasLooked} old.told mid.told new.told
          (λ p q r x y s t mails. read_refused mails known why p r
          (seen_behind (IsRead (Err why)) known.path p q r x y t))
          looked.only.looks meets.only.looks looked.only.looks seen;
      few = tt;
      kept = tt;
      first = tells_there (Err why) known.path old.told new.told (λ e. other (cc))
          (stood_later known.path old.told mid.told new.told looked.only.looks meets.only.looks
          first);
      costs = tt;
      possible = possible;
      meets = record {
        only = only_then old mid new looked.only meets.only;
        cause = λ is. rose_later old.faults mid.faults new.faults looked.only.faults
            (meets.cause (let e : why ≡ Fault = cc in ap Err e));
        within = within_both old mid new reads meets.within;
      };
    }

-- a file that the first look has found is not read
tells_behind : (known : KnownFolder) (path : List ℕ) (why : ScanError) (stat : Stat)
    (old mid new : Seen)
    → path ≡ known.path → LookTold (Ok (Some stat)) path old mid → ReadTold (Err why) path mid new
    → TellsChange known (Err (behind_look why)) old new
tells_behind known path Missing stat old mid new at told next =
    tells_gone known path stat old mid new at told next
tells_behind known path (NotMailbox place) stat old mid new at told next =
    tells_unread known path (NotMailbox place) stat old mid new (λ e. (cc)) at told next
tells_behind known path (TooMany count) stat old mid new at told next =
    tells_unread known path (TooMany count) stat old mid new (λ e. (cc)) at told next
tells_behind known path (TooLarge size) stat old mid new at told next =
    tells_unread known path (TooLarge size) stat old mid new (λ e. (cc)) at told next
tells_behind known path Unfinished stat old mid new at told next =
    tells_unread known path Unfinished stat old mid new (λ e. (cc)) at told next
tells_behind known path ArchiveFull stat old mid new at told next =
    tells_unread known path ArchiveFull stat old mid new (λ e. (cc)) at told next
tells_behind known path Fault stat old mid new at told next =
    tells_unread known path Fault stat old mid new (λ e. (cc)) at told next
tells_behind known path NoMemory stat old mid new at told next =
    tells_unread known path NoMemory stat old mid new (λ e. (cc)) at told next

pub tells_refused : (known : KnownFolder) (path : List ℕ) (why answer : ScanError) (stat : Stat)
    (old mid new : Seen)
    → path ≡ known.path → LookTold (Ok (Some stat)) path old mid → ReadTold (Err why) path mid new
    → answer ≡ behind_look why → TellsChange known (Err answer) old new
tells_refused known path why answer stat old mid new at told next is =
    subst (λ (e : ScanError). TellsChange known (Err e) old new) (sym is)
    (tells_behind known path why stat old mid new at told next)

-- nothing stood there at the first look
pub tells_nothing_there : (known : KnownFolder) (path : List ℕ) (old new : Seen)
    → path ≡ known.path → LookTold (Ok None) path old new
    → TellsChange known (Err Missing) old new
tells_nothing_there known path old new at told =
    let look = look_at_path (Ok None) path known.path at told in
    let looked = look.looked in
    let first = look.first in
    let reads = look.reads in
    record {
      saw = goes_as old.told new.told (λ p q saw mails. record {
        mark = saw.mark;
        from = saw.from;
        to = saw.to;
        refused = ap (mbox_refusal (length mails) (mails_of mails known.listing))
            (nothing (node_at (tree_at q saw.mark) known.path) saw.tells);
      }) looked.saw;
      few = tt;
      kept = tt;
      first = tells_missing (Option FileRead) known.path old.told new.told first;
      costs = tt;
      possible = tt;
      meets = record {
        only = looked.only;
        cause = λ is. absurd (cc);
        within = raises_more old.bytes_read new.bytes_read 0 most_bytes (omega arith) reads;
      };
    }
  where
    nothing : (there : Option TreeNode) → ◌≡◌ {A = Option Stat} None (stat_there there)
        → there ≡ None
    nothing None is = refl
    nothing (Some node) is = absurd (cc)

-- the first look failed
pub tells_no_look : (known : KnownFolder) (path : List ℕ) (why : ScanError) (old new : Seen)
    → path ≡ known.path → LookTold (Err why) path old new
    → TellsChange known (Err why) old new
tells_no_look known path why old new at told =
    let look = look_at_path (Err why) path known.path at told in
    let looked = look.looked in
    let first = look.first in
    let reads = look.reads in
    record {
      saw = goes_as old.told new.told
          (λ p q looks mails. failed_refused mails known why _ _ q looked.errors)
          looked.only.looks;
      few = tt;
      kept = tt;
      first = tells_failed (Option FileRead) why known.path old.told new.told looked.errors first;
      costs = tt;
      possible = possible_error looked.errors;
      meets = record {
        only = looked.only;
        cause = λ is. looked.cause (let e : why ≡ Fault = cc in ap Err e);
        within = raises_more old.bytes_read new.bytes_read 0 most_bytes (omega arith) reads;
      };
    }
  where
    possible_error : (why ≡ Fault) ⊎ (why ≡ NoMemory) → IsFileError why
    possible_error (inl is) = subst IsFileError (sym is) tt
    possible_error (inr is) = subst IsFileError (sym is) tt

-- Where no stamp is kept the read is the first look.

pub tells_first : (known : KnownFolder) (path : List ℕ) (file : FileRead) (old new : Seen)
    → kept_stamp known.stamps ≡ None
    → path ≡ known.path → ReadTold (Ok file) path old new
    → TellsChange known (Ok (Some file)) old new
tells_first known path file old new none at next =
    let more = read_at_path (Ok file) path known.path at next in
    let seen = more.seen in
    let meets = more.meets in
    let first = more.first in
    record {
      saw = seen;
      few = more.possible;
      kept = tt;
      first = tells_there (Ok (Some file)) known.path old.told new.told (λ e. (cc))
          (stood_first file known.path old.told new.told first);
      costs = costs_first known old new none;
      possible = tt;
      meets = record { only = meets.only; cause = λ is. absurd (cc); within = meets.within };
    }

pub tells_no_read : (known : KnownFolder) (path : List ℕ) (why : ScanError) (old new : Seen)
    → path ≡ known.path → ReadTold (Err why) path old new → TellsChange known (Err why) old new
tells_no_read known path why old new at next =
    let more = read_at_path (Err why) path known.path at next in
    record {
      saw = goes_as old.told new.told
          (λ p q seen mails. read_refused mails known why p q seen) more.seen;
      few = tt;
      kept = tt;
      first = first_as FileRead (Option FileRead) why known.path old.told new.told more.first;
      costs = tt;
      possible = more.possible;
      meets = record {
        only = more.meets.only;
        cause = λ is. more.meets.cause (let e : why ≡ Fault = cc in ap Err e);
        within = more.meets.within;
      };
    }

-- what `stat` tells, with the length of the known bytes
pub by_size : (size known stamp : ℕ) (stat : Stat) (result is : Bool) → size ≡ known
    → result ≡ is_as_known size stamp stat → result ≡ is → is_as_known known stamp stat ≡ is
by_size size known stamp stat result is same told answered =
    sym (ap (λ (n : ℕ). is_as_known n stamp stat) same) ∙ sym told ∙ answered
