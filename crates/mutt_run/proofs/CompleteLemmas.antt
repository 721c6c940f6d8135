-- Runs with nothing in their way are done.
use Rattle.std.proofs.Common.{◌≡◌, ◌≤◌, ◌⊎◌, inl, inr, ℕ, ℤ, List, [], ◌∷◌, ◌++◌, Option, Some}
use Rattle.std.proofs.Common.{None, Result, Ok, Err, refl, sym, subst, length}
use Rattle.mail_base.specs.Faults.{Rose}
use Rattle.mail_base.specs.declared.kind.Kind.{Kind}
use Rattle.disk_model.specs.Journal.{Past}
use Rattle.folder_core.specs.Kinds.{KindSeen}
use Rattle.folder_core.specs.declared.error.ScanError.{ScanError}
use Rattle.folder_core.specs.declared.error.ScanError.TheVariants.{Missing, NotMailbox, TooMany}
use Rattle.folder_core.specs.declared.error.ScanError.TheVariants.{TooLarge, Unfinished}
use Rattle.folder_core.specs.declared.error.ScanError.TheVariants.{ArchiveFull, Fault}
use Rattle.folder_core.specs.declared.error.ScanError.TheVariants.{NoMemory as NoRoom}
use Rattle.mutt_words.specs.Options.{PlainOptions}
use Rattle.session.specs.Beginning.{IsStated}
use Rattle.session_events.specs.Events.{AreFiles, Happening, FileRead, FileRefused}
use Rattle.session_events.specs.Events.{FolderRefused}
use Rattle.session.specs.Given.{Given}
use Rattle.session_events.specs.Happened.{AllCounted, Counts, IsCause, WasNotListed}
use Rattle.session.specs.Telling.{AllHappened}
use Rattle.session_events.specs.Happened.{WasRefused, counts_after, counts_of, past_at}
use Rattle.session.specs.Telling.{kind_in}
use Rattle.session.specs.Runs.{State, after}
use Rattle.session.specs.Telling.{IsTold}
use Rattle.session_events.specs.declared.event.Marks.{Marks}
use Rattle.session_events.specs.declared.event.OpenFault.{OpenFault}
use Rattle.session_events.specs.declared.event.OpenFault.TheVariants.{Taken, NoDriver, Folder}
use Rattle.mutt_run.specs.Choice.{first_of}
use Rattle.mutt_run.specs.Complete.{IsPlainEnd, IsReadable, NamesReadable, WereReadable}
use Rattle.mutt_run.specs.Ending.{EndsAs, IsChosen, IsRefused}
use Rattle.mutt_run.specs.Going.{CountsStreams}
use Rattle.mutt_run.specs.Reading.{Outside, Reads}
use Rattle.mutt_run.specs.declared.status.Status.{Status}
use Rattle.mutt_run.specs.declared.status.Status.TheVariants.{Done, Usage, NotOpened, DiskFault}
use Rattle.mutt_run.specs.declared.status.Status.TheVariants.{KeysFault, OutFault, NoMemory}
use Rattle.mutt_run.specs.declared.status.Status.TheVariants.{Empty, TooManyKeys}
use Rattle.mutt_run.proofs.EndLemmas.{IsToldAs, rose_after, rose_sooner}

-- A folder that can be read is not refused.
module _ (Has : Kind → Type 0) (empty : Kind) (owner path : List ℕ) (old new : Past)
    (readable : IsReadable Has empty owner path old new) where
  refused_neither : (why : ScanError) → IsStated (Folder why)
      → KindSeen (Err why) empty path old new ⊎ WasNotListed Has empty owner path why old new → ⊥
  refused_neither why stated (inl was) = readable.there why stated was
  refused_neither why stated (inr was) = readable.listed why stated was

  not_refused : (why : OpenFault) (faults faults' : ℕ) → IsStated why
      → WasRefused Has empty owner path why old new → IsCause Has why faults faults' → ⊥
  not_refused Taken faults faults' stated was cause = stated
  not_refused (NoDriver kind) faults faults' stated was cause = cause (readable.driver kind was)
  not_refused (Folder Fault) faults faults' stated was cause = stated
  not_refused (Folder NoRoom) faults faults' stated was cause = stated
  not_refused (Folder ArchiveFull) faults faults' stated was cause = stated
  not_refused (Folder Missing) faults faults' stated was cause = refused_neither Missing stated was
  not_refused (Folder (NotMailbox n)) faults faults' stated was cause =
      refused_neither (NotMailbox n) stated was
  not_refused (Folder (TooMany n)) faults faults' stated was cause =
      refused_neither (TooMany n) stated was
  not_refused (Folder (TooLarge n)) faults faults' stated was cause =
      refused_neither (TooLarge n) stated was
  not_refused (Folder Unfinished) faults faults' stated was cause =
      refused_neither Unfinished stated was

-- Behind files of commands no folder is refused that could be read.
module _ (Has : Kind → Type 0) (given : Given) (path : List ℕ) (why : OpenFault)
    (marks : Marks) (stated : IsStated why) where
  abbrev last : List Happening
  last = FolderRefused path why marks ∷ []

  none_refused : (s : State) (counts : Counts) (past : Past) (files : List Happening)
      → AreFiles files → WereReadable Has given s (files ++ last) (Some past)
      → AllHappened Has given s (files ++ last) past → AllCounted Has counts (files ++ last) → ⊥
  none_refused s counts past [] are readable happened counted =
      not_refused Has (kind_in s) s.owner path (past_at past marks.mark_before)
      (past_at past marks.mark_after) readable.0 why marks.faults_before marks.faults_after stated
      happened.0 counted.0.cause
  none_refused s counts past (FileRead file text at ∷ files) are readable happened counted =
      none_refused (after given s (FileRead file text at)) (counts_after counts (Some at)) past
      files are.1 readable happened.2 counted.1
  none_refused s counts past (FileRefused file cause at ∷ files) are readable happened counted =
      none_refused (after given s (FileRefused file cause at)) (counts_after counts (Some at)) past
      files are.1 readable happened.2 counted.1
  none_refused s counts past (_ ∷ files) are readable happened counted = absurd are.0

  -- a disk that tells nothing at the end shows no folder that could be read
  none_told : (s : State) (files : List Happening) → AreFiles files
      → WereReadable Has given s (files ++ last) None → ⊥
  none_told s [] are readable = readable.0
  none_told s (FileRead file text at ∷ files) are readable =
      none_told (after given s (FileRead file text at)) files are.1 readable
  none_told s (FileRefused file cause at ∷ files) are readable =
      none_told (after given s (FileRefused file cause at)) files are.1 readable
  none_told s (_ ∷ files) are readable = absurd are.0

  refused_told : (s : State) (counts : Counts) (first now : Option Past) (files : List Happening)
      → AreFiles files → WereReadable Has given s (files ++ last) now
      → IsTold Has given s (files ++ last) first now → AllCounted Has counts (files ++ last) → ⊥
  refused_told s counts None None files are readable told counted =
      none_told s files are readable
  refused_told s counts None (Some past) files are readable told counted = absurd (cc)
  refused_told s counts (Some first) None files are readable told counted = absurd told
  refused_told s counts (Some first) (Some past) files are readable told counted =
      none_refused s counts past files are readable told.1 counted

-- A run whose folders could be read, and in which no fault was counted.
module _ {o : PlainOptions} {start : ℤ} {Has : Kind → Type 0} {given : Given}
    {events : List Happening} {old new : Outside} (status : Status)
    (reads : Reads (Ok o) start Has given status events old new)
    (readable : NamesReadable Has given (Ok o) start events new.disk.told)
    (disk : Rose old.disk.faults new.disk.faults → ⊥) (keys : status ≡ KeysFault → ⊥)
    (out : status ≡ OutFault → ⊥) where
  not_opened : (why : OpenFault) → IsStated why → IsRefused why events → ⊥
  not_opened why stated refused =
      let all : List Happening =
      refused.files ++ FolderRefused refused.path why refused.marks ∷ [] in
      refused_told Has given refused.path why refused.marks stated (first_of o start)
      (counts_of old.disk) old.disk.told new.disk.told refused.files refused.are_files
      (subst (λ (l : List Happening). WereReadable Has given (first_of o start) l new.disk.told)
      refused.events_are readable)
      (subst (λ (l : List Happening). IsTold Has given (first_of o start) l old.disk.told
      new.disk.told)
      refused.events_are reads.told.told)
      (subst (λ (l : List Happening). AllCounted Has (counts_of old.disk) l) refused.events_are
      reads.told.counted)

  plain_by : (end : Status) → status ≡ end → EndsAs given o start end events old.left new.left
      → IsChosen (Ok o) end → IsPlainEnd end
  plain_by Done is ends chosen = tt
  plain_by Empty is ends chosen = tt
  plain_by TooManyKeys is ends chosen = tt
  plain_by NoMemory is ends chosen = tt
  plain_by (Usage word) is ends chosen = chosen
  plain_by (NotOpened why) is ends chosen = not_opened why ends.1 ends.2
  plain_by DiskFault is ends chosen = disk (reads.fault is)
  plain_by KeysFault is ends chosen = keys is
  plain_by OutFault is ends chosen = out is

  plain : IsPlainEnd status
  plain = plain_by status refl reads.ends reads.chosen

-- the same behind the line of the end
plain_told : (status result : Status) (Rises : Type 0) → IsToldAs Rises status result
    → IsPlainEnd status → (Rises → ⊥) → IsPlainEnd result
plain_told status result Rises (inl is) ends none = subst IsPlainEnd (sym is) ends
plain_told status result Rises (inr (inl is)) ends none = subst IsPlainEnd (sym is) tt
plain_told status result Rises (inr (inr is)) ends none = absurd (none is.1)

-- no stream failed
neither : {Out : Type 0} (a b c : ℕ) → a ≤ b → b ≤ c → (Out → ⊥) → (Rose a c → ⊥) → Out ⊎ Rose a b
    → ⊥
neither a b c low high no_out no_errs (inl out) = no_out out
neither a b c low high no_out no_errs (inr rose) = no_errs (rose_sooner a b c low high rose)

pub completes : (choice : Result PlainOptions (List ℕ)) {start : ℤ} {Has : Kind → Type 0}
    {given : Given} {events : List Happening} {old new : Outside} {status result : Status}
    {keys keys' out out' : ℕ} {errs : ℕ} → Reads choice start Has given status events old new
    → CountsStreams status keys keys' out out' old.faults new.faults
    → IsToldAs (Rose new.faults errs) status result → new.faults ≤ errs
    → NamesReadable Has given choice start events new.disk.told
    → (Rose old.disk.faults new.disk.faults → ⊥) → (Rose keys keys' → ⊥) → (Rose out out' → ⊥)
    → (Rose old.faults errs → ⊥) → IsPlainEnd result
completes (Err word) reads counts told high readable disk keys out none = absurd readable
completes (Ok o) {old = old} {new = new} {status = status} {result = result} {errs = errs} reads
    counts told high readable disk keys out none =
    plain_told status result (Rose new.faults errs) told
    (plain status reads readable disk (λ e. keys (counts.keys e))
    (λ e. neither old.faults new.faults errs counts.later high out none (counts.out e)))
    (λ rose. none (rose_after old.faults new.faults errs counts.later rose))
