-- What the words of a command line ask for is done.
use Rattle.std.proofs.Common.{◌≡◌, inl, ℕ, ℤ, Bool, true, false, List, [], ◌∷◌, Option, Some, None}
use Rattle.std.proofs.Common.{Ok, Err, Result, IfErr, option_map, length, refl, sym, ◌∙◌, ◌++◌}
use Rattle.std.proofs.Common.{if◌then◌else◌, map, ap, subst, arith, length-append}
use Rattle.std.proofs.lemmas.List.{append-nil}
use Rattle.std.specs.Io.KnownBytes.{Appends}
use Rattle.std.specs.List.{concat}
use Rattle.mail_base.specs.Series.{Held, plain_texts}
use Rattle.mail_base.specs.declared.kind.Kind.{Kind}
use Rattle.mail_base.proofs.Sending.{appends_none, sent_none}
use Rattle.disk_model.specs.Seen.{Seen}
use Rattle.mail_base.specs.Zone.{IsOffset}
use Rattle.std.proofs.Common.{FitsSigned, w32}
use Rattle.std.proofs.lemmas.Int.{ints as signed_arith}
use Rattle.mutt_words.specs.Options.{PlainOptions, plain_options, plain_text}
use Rattle.mutt_words.specs.declared.options.Options.{Options}
use Rattle.session_events.specs.Events.{AreFiles, Happening}
use Rattle.session.specs.Given.{Given}
use Rattle.session.specs.Runs.{State}
use Rattle.session.specs.Starting.{PlainSetup}
use Rattle.session.specs.Telling.{Driverless, Witnessed}
use Rattle.session.proofs.TellingLemmas.{witnessed_files, witnessed_none}
use Rattle.mutt_run.specs.Choice.{Task, ReadFolder, TellValues, TellVersion, acted_on, first_by}
use Rattle.mutt_run.specs.Choice.{query_task, setup_of, task_by, task_of}
use Rattle.mutt_run.specs.Ending.{EndsAs, EndsDone, IsChosen}
use Rattle.mutt_run.specs.Printed.{Prints, PrintsBut, TellsVersion, pieces, pieces_by, values_text}
use Rattle.mutt_run.specs.Printed.{version_line}
use Rattle.mutt_run.specs.Going.{CountsStreams}
use Rattle.mutt_run.specs.Reading.{Outside, Reads}
use Rattle.mutt_run.specs.Taken.{Gives, TakesKeys}
use Rattle.mutt_run.specs.declared.status.Status.{Status}
use Rattle.mutt_run.specs.declared.status.Status.TheVariants.{Done, Usage, NotOpened, DiskFault}
use Rattle.mutt_run.specs.declared.status.Status.TheVariants.{KeysFault, OutFault, NoMemory}
use Rattle.mutt_run.specs.declared.status.Status.TheVariants.{Empty, TooManyKeys}
use Rattle.mutt_run.proofs.KeysLemmas.{gives_none}
use Rattle.mutt_run.proofs.EndLemmas.{chosen_memory}
use Rattle.mutt_run.proofs.ReadsLemmas.{IsOtherThanDisk, notes_whole, prints_all, takes_none}

-- The words as the options have them.

abbrev setup_with : Options → Option (List ℕ) → Option (List ℕ) → PlainSetup
setup_with o path rc = record {
  path = path;
  rc = rc;
  commands = plain_texts o.commands;
  kind = o.kind;
  read_only = o.read_only;
  window = record { rows = o.rows; cols = o.cols; offset = o.offset };
  owner = o.owner.items;
}

-- an offset of less than a day has room in 32 bits
pub offset_fits : (offset : ℤ) → IsOffset offset → FitsSigned w32 offset
offset_fits offset is = omega (arith, signed_arith, is.0, is.1)

abbrev text_in : Option (Held ℕ) → Option (List ℕ)
text_in text = option_map (λ (t : Held ℕ). t.items) text

text_is : (text : Option (Held ℕ)) → text_in text ≡ plain_text text
text_is None = refl
text_is (Some text) = refl

pub setup_is : (o : Options) → setup_with o (text_in o.folder) (text_in o.rc)
    ≡ setup_of (plain_options o)
setup_is o =
    ap (λ (path : Option (List ℕ)). setup_with o path (text_in o.rc)) (text_is o.folder)
    ∙ ap (λ (rc : Option (List ℕ)). setup_with o (plain_text o.folder) rc) (text_is o.rc)

texts_some : (texts : List (Held ℕ)) → (texts ≡ [] → ⊥)
    → map (λ (t : Held ℕ). t.items) texts ≡ [] → ⊥
texts_some [] some none = some refl
texts_some (text ∷ texts) some none = absurd (cc)

task_at : (o : PlainOptions) → o.version ≡ false → task_of o ≡ query_task o.query
task_at o version = ap (λ (b : Bool). if b then TellVersion else query_task o.query) version

pub task_reads : (o : Options) → o.version ≡ false → o.query.items ≡ []
    → task_of (plain_options o) ≡ ReadFolder
task_reads o version none =
    task_at (plain_options o) version
    ∙ ap (λ (l : List (Held ℕ)). query_task (map (λ (t : Held ℕ). t.items) l)) none

asked : (names : List (List ℕ)) → (names ≡ [] → ⊥) → query_task names ≡ TellValues names
asked [] some = absurd (some refl)
asked (name ∷ names) some = refl

pub task_tells : (o : Options) → o.version ≡ false → (o.query.items ≡ [] → ⊥)
    → task_of (plain_options o) ≡ TellValues (plain_texts o.query)
task_tells o version some =
    task_at (plain_options o) version
    ∙ asked (plain_texts o.query) (texts_some o.query.items some)

abbrev IsDone : Status → Type 0
IsDone Done = Unit {0}
IsDone status = ⊥

abbrev IsOut : Status → Type 0
IsOut OutFault = Unit {0}
IsOut status = ⊥

-- neither the keys nor what is written failed
abbrev pub IsQuiet : Status → Type 0
IsQuiet KeysFault = ⊥
IsQuiet OutFault = ⊥
IsQuiet status = Unit {0}

-- A text that is not printed at all.

but_one : (text : List ℕ) (w : Option (List ℕ)) → PrintsBut (text ∷ []) w w
but_one text w = record {
  rest = text ++ [];
  sent = sent_none w (text ++ []);
  short = omega (arith, ap length (append-nil text));
}

but_none : (given : Given) (task : Task) (s : State) (w : Option (List ℕ))
    → PrintsBut (pieces given task s []) w w
but_none given TellVersion s w = but_one version_line w
but_none given (TellValues names) s w = but_one (values_text names s) w
but_none given ReadFolder s w = prints_all [] w w (appends_none w)

-- Nothing happened: only what stands outside of events was done.
module _ (choice : Result PlainOptions (List ℕ)) (start : ℤ) (Has : Kind → Type 0)
    (given : Given) (events : List Happening) (old new : Outside) (begun : events ≡ [])
    (same_left : new.left ≡ old.left)
    (same_clock : new.moments ≡ old.moments) (same_told : new.told ≡ old.told)
    (same_disk : new.disk ≡ old.disk) where
  untold : Appends old.told new.told []
  untold = subst (λ (t : Option (List ℕ)). Appends old.told t []) (sym same_told)
      (appends_none old.told)

  reads_none : (status : Status) → EndsAs given (acted_on choice) start status [] old.left new.left
      → Prints status (pieces_by given choice start []) old.written new.written
      → PrintsBut (pieces_by given choice start []) old.written new.written
      → (status ≡ DiskFault → ⊥) → IsChosen choice status
      → Reads choice start Has given status [] old new
  reads_none status ends printed but fault chosen = record {
    run = tt;
    ends = ends;
    reader = record { pending = []; taken = 0 };
    takes = subst (λ (l : Option (List ℕ)).
        TakesKeys [] (record { pending = []; taken = 0 }) old.left l) (sym same_left)
        (takes_none old.left);
    start_is = tt;
    clocked = subst (λ (l : Option (List ℤ)). Gives old.moments l []) (sym same_clock)
        (gives_none old.moments);
    printed = printed;
    but = but;
    whole = λ unshown. absurd unshown;
    noted = notes_whole status [] old new untold;
    told = subst (λ (d : Seen). Witnessed Has given (first_by choice start) [] old.disk d)
        (sym same_disk)
        (witnessed_none Has given (first_by choice start) old.disk);
    fault = λ is. absurd (fault is);
    chosen = chosen;
  }

  reads_so : (status : Status) → Reads choice start Has given status [] old new
      → Reads choice start Has given status events old new
  reads_so status reads =
      subst (λ (l : List Happening). Reads choice start Has given status l old new) (sym begun)
      reads

  -- memory ran out at the words
  pub memory_reads : new.written ≡ old.written
      → Reads choice start Has given NoMemory events old new
  memory_reads same =
      let but : PrintsBut (pieces_by given choice start []) old.written new.written =
      subst (λ (w : Option (List ℕ)). PrintsBut (pieces_by given choice start []) old.written w)
      (sym same)
      (but_none given (task_by choice) (first_by choice start) old.written) in
      reads_so NoMemory (reads_none NoMemory tt but but
      (λ is. subst IsOtherThanDisk is tt) (chosen_memory choice))

-- the words are no command line
pub usage_reads : (choice : Result PlainOptions (List ℕ)) (start : ℤ) (Has : Kind → Type 0)
    (given : Given) (events : List Happening) (old new : Outside)
    → events ≡ [] → new.left ≡ old.left → new.moments ≡ old.moments → new.told ≡ old.told
    → new.disk ≡ old.disk → new.written ≡ old.written → (word : Held ℕ) → choice ≡ Err word.items
    → Reads choice start Has given (Usage word) events old new
usage_reads choice start Has given events old new begun same_left same_clock same_told
    same_disk same word is =
    subst (λ (r : Result PlainOptions (List ℕ)).
    Reads r start Has given (Usage word) events old new) (sym is)
    (reads_so (Err word.items) start Has given events old new begun same_left same_clock
    same_told same_disk (Usage word)
    (reads_none (Err word.items) start Has given events old new begun same_left same_clock
    same_told same_disk (Usage word) refl printed
    (prints_all [] old.written new.written printed)
    (λ is. subst IsOtherThanDisk is tt) refl))
  where
    printed : Appends old.written new.written []
    printed = subst (λ (w : Option (List ℕ)). Appends old.written w []) (sym same)
        (appends_none old.written)

-- the version was told
module _ (o : PlainOptions) (start : ℤ) (Has : Kind → Type 0) (given : Given)
    (events : List Happening) (old new : Outside) (begun : events ≡ [])
    (same_left : new.left ≡ old.left) (same_clock : new.moments ≡ old.moments)
    (same_told : new.told ≡ old.told) (same_disk : new.disk ≡ old.disk)
    (version : o.version ≡ true) where
  is_task : task_of o ≡ TellVersion
  is_task = ap (λ (b : Bool). if b then TellVersion else query_task o.query) version

  abbrev texts : List (List ℕ)
  texts = pieces given (task_of o) (first_by (Ok o) start) []

  texts_are : texts ≡ version_line ∷ []
  texts_are = ap (λ (t : Task). pieces given t (first_by (Ok o) start) []) is_task

  ends_so : (status : Status) → EndsAs given o start status [] old.left new.left
      → Prints status texts old.written new.written → PrintsBut texts old.written new.written
      → (status ≡ DiskFault → ⊥) → IsChosen (Ok o) status
      → Reads (Ok o) start Has given status events old new
  ends_so status ends printed but fault chosen =
      reads_so (Ok o) start Has given events old new begun same_left same_clock same_told
      same_disk status (reads_none (Ok o) start Has given events old new begun same_left
      same_clock same_told same_disk status ends printed but fault chosen)

  pub version_reads : (status : Status) (before after : ℕ)
      → TellsVersion status old.written new.written before after
      → Reads (Ok o) start Has given status events old new
  version_reads Done before after told =
      ends_so Done
      (subst (λ (t : Task). EndsDone given t o start [] old.left new.left) (sym is_task) refl)
      all (prints_all texts old.written new.written all)
      (λ is. subst IsOtherThanDisk is tt) tt
    where
      all : Appends old.written new.written (concat texts)
      all = subst (λ (l : List (List ℕ)). Appends old.written new.written (concat l))
          (sym texts_are) (subst (λ (l : List ℕ). Appends old.written new.written l)
          (sym (append-nil version_line)) told)
  version_reads OutFault before after told =
      ends_so OutFault tt but but (λ is. subst IsOtherThanDisk is tt) tt
    where
      but : PrintsBut texts old.written new.written
      but = subst (λ (l : List (List ℕ)). PrintsBut l old.written new.written) (sym texts_are)
          (record {
            rest = told.0.0;
            sent = (told.0.1.0, append-nil version_line ∙ told.0.1.1, told.0.1.2);
            short = omega (arith, ap length told.0.1.1, length-append told.0.1.0 told.0.0);
          })
  version_reads NoMemory before after told = absurd told
  version_reads (Usage word) before after told = absurd told
  version_reads (NotOpened why) before after told = absurd told
  version_reads DiskFault before after told = absurd told
  version_reads KeysFault before after told = absurd told
  version_reads Empty before after told = absurd told
  version_reads TooManyKeys before after told = absurd told

pub version_counts : (status : Status) (old new : Option (List ℕ)) (before after : ℕ)
    {keys errs : ℕ} → TellsVersion status old new before after
    → CountsStreams status keys keys before after errs errs
version_counts Done old new before after told = record {
  keys = λ is. absurd (subst IsDone is tt);
  out = λ is. absurd (subst IsDone is tt);
  later = omega arith;
}
version_counts OutFault old new before after told = record {
  keys = λ is. absurd (subst IsOut is tt);
  out = λ is. inl told.1;
  later = omega arith;
}
version_counts NoMemory old new before after told = absurd told
version_counts (Usage word) old new before after told = absurd told
version_counts (NotOpened why) old new before after told = absurd told
version_counts DiskFault old new before after told = absurd told
version_counts KeysFault old new before after told = absurd told
version_counts Empty old new before after told = absurd told
version_counts TooManyKeys old new before after told = absurd told

-- words that are no command line cause no fault
pub quiet_counts : (status : Status) (keys out errs : ℕ) → IsQuiet status
    → CountsStreams status keys keys out out errs errs
quiet_counts status keys out errs quiet = record {
  keys = λ is. absurd (subst IsQuiet is quiet);
  out = λ is. absurd (subst IsQuiet is quiet);
  later = omega arith;
}

-- files of commands alone need no driver
pub reads_driven : {choice : Result PlainOptions (List ℕ)} {start : ℤ} {given : Given}
    {status : Status} {events : List Happening} {old new : Outside} (Has : Kind → Type 0)
    → AreFiles events → Reads choice start Driverless given status events old new
    → Reads choice start Has given status events old new
reads_driven {choice} {start} {given} {status} {events} {old} {new} Has are reads = record {
  run = reads.run;
  ends = reads.ends;
  reader = reads.reader;
  takes = reads.takes;
  start_is = reads.start_is;
  clocked = reads.clocked;
  printed = reads.printed;
  but = reads.but;
  whole = reads.whole;
  noted = reads.noted;
  told = witnessed_files Driverless Has given (first_by choice start) events old.disk new.disk are
      reads.told;
  fault = reads.fault;
  chosen = reads.chosen;
}

-- words that are a command line choose its options
pub reads_chosen : {choice : Result PlainOptions (List ℕ)} {o : PlainOptions} {moment start : ℤ}
    {Has : Kind → Type 0} {given : Given} {status : Status} {events : List Happening}
    {old new : Outside} → moment ≡ start → choice ≡ Ok o
    → Reads (Ok o) moment Has given status events old new
    → Reads choice start Has given status events old new
reads_chosen {choice} {o} {moment} {start} {Has} {given} {status} {events} {old} {new} at is
    reads =
    subst (λ (r : Result PlainOptions (List ℕ)). Reads r start Has given status events old new)
    (sym is)
    (subst (λ (m : ℤ). Reads (Ok o) m Has given status events old new) at reads)

-- and nothing is owed of faulty ones
pub nothing_owed : {o : PlainOptions} (choice : Result PlainOptions (List ℕ)) (P : Type 0)
    → choice ≡ Ok o → IfErr choice (λ word. P)
nothing_owed (Ok o) P is = tt
nothing_owed (Err word) P is = absurd (cc)

pub owed : (choice : Result PlainOptions (List ℕ)) (P : Type 0) → P → IfErr choice (λ word. P)
owed (Ok o) P p = tt
owed (Err word) P p = p
