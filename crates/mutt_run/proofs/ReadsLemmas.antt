-- How a run that reads a folder ends.
use Rattle.std.proofs.Common.{◌≡◌, ◌≤◌, ◌⊎◌, inl, inr, ℕ, ℤ, true, List, [], ◌∷◌, ◌++◌, Option, Ok}
use Rattle.std.proofs.Common.{map, refl, sym, ◌∙◌, ap, subst, append_assoc, arith}
use Rattle.std.proofs.lemmas.List.{append-nil}
use Rattle.std.specs.Io.KnownBytes.{Appends}
use Rattle.std.specs.List.{concat}
use Rattle.mail_base.specs.Faults.{Rose}
use Rattle.mail_base.specs.Streams.{Sent}
use Rattle.mail_base.specs.declared.kind.Kind.{Kind}
use Rattle.mail_base.proofs.Sending.{appends_none, sent_none}
use Rattle.disk_model.specs.Seen.{Seen}
use Rattle.folder_core.specs.declared.error.ScanError.TheVariants.{Fault}
use Rattle.folder_letters.specs.declared.listing.Listed.{Listed}
use Rattle.keymap.specs.Reader.{PlainReader}
use Rattle.keymap.specs.declared.key.Key.{Key}
use Rattle.mutt_words.specs.Options.{PlainOptions}
use Rattle.session.specs.Beginning.{BeginsRun, Fails, IsStated, Starts}
use Rattle.session.specs.Beginning.{IsRefused as IsRefusedAs}
use Rattle.session_events.specs.Events.{Happening, FolderOpened, FolderRefused}
use Rattle.session.specs.Given.{Given, met_of}
use Rattle.session.specs.Runs.{IsRunFrom, State, after_events}
use Rattle.session.specs.Steps.{StaysToldFrom}
use Rattle.session.specs.Telling.{Witnessed}
use Rattle.session_events.specs.declared.event.OpenFault.{OpenFault}
use Rattle.session_events.specs.declared.event.OpenFault.TheVariants.{Folder}
use Rattle.session.specs.Starting.{PlainSetup, first_state}
use Rattle.session.proofs.StepsLemmas.{begin_keeps}
use Rattle.session_events.specs.declared.setup.StartError.{StartError}
use Rattle.session_events.specs.declared.setup.StartError.TheVariants as error
use Rattle.session_state.specs.declared.stage.Stage.TheVariants.{Over}
use Rattle.mutt_run.specs.Choice.{Task, ReadFolder, first_of, setup_of, task_of}
use Rattle.mutt_run.specs.Ending.{EndsAs, EndsDone, EndsShown, IsNoUsage, IsOpened, IsRefused}
use Rattle.mutt_run.specs.Going.{AreActs, BeginsOut, Breaks, BreaksOut, CountsStreams, Ended}
use Rattle.mutt_run.specs.Going.{EndsKeys, Goes, GoesOut, GoesToEnd, IsUnshown, Streams}
use Rattle.mutt_run.specs.Printed.{Prints, PrintsBut, pieces}
use Rattle.mutt_run.specs.Reading.{Outside, Reads, TellsNotes, TellsRefused, streams_of}
use Rattle.mutt_run.specs.Screens.{printed_lines, screen_text}
use Rattle.mutt_run.specs.Taken.{Gives, TakesKeys, pressed_keys, pressed_moments}
use Rattle.mutt_run.specs.declared.status.Status.{Status}
use Rattle.mutt_run.specs.declared.status.Status.TheVariants.{Done, Usage, NotOpened, DiskFault}
use Rattle.mutt_run.specs.declared.status.Status.TheVariants.{KeysFault, OutFault, NoMemory}
use Rattle.mutt_run.specs.declared.status.Status.TheVariants.{Empty}
use Rattle.mutt_run.specs.declared.status.Status.TheVariants.{TooManyKeys}
use Rattle.mutt_run.proofs.KeysLemmas.{consumes_none, first_none, gives_none}
use Rattle.mutt_run.proofs.TurnLemmas.{text_cut, text_whole}
use Rattle.mutt_run.proofs.RunLemmas.{after-append, all_keys, all_moments}
use Rattle.mutt_run.proofs.RunLemmas.{all_start, begun_breaks}

-- A run of files of commands, an opening, and keys.
module _ (o : PlainOptions) (start : ℤ) (Has : Kind → Type 0) (given : Given)
    (status : Status) (opening events more later : List Happening) (old new : Outside) (mid : Seen)
    (begins : BeginsRun Has given (first_of o start) start opening events old.disk mid)
    (are_acts : AreActs more) (is : later ≡ events ++ more) where
  pub reads_by : IsRunFrom given (first_of o start) later
      → EndsAs given o start status later old.left new.left
      → (reader : PlainReader) → TakesKeys (pressed_keys more) reader old.left new.left
      → Gives old.moments new.moments (pressed_moments more)
      → Prints status (pieces given (task_of o) (first_of o start) later) old.written new.written
      → PrintsBut (pieces given (task_of o) (first_of o start) later) old.written new.written
      → (IsUnshown (after_events given (first_of o start) later).turn.stage
      → Appends old.written new.written
      (concat (pieces given (task_of o) (first_of o start) later)))
      → TellsNotes status (printed_lines (after_events given (first_of o start) later).notes) old
      new
      → Witnessed Has given (first_of o start) later old.disk new.disk
      → (status ≡ DiskFault → Rose old.disk.faults new.disk.faults) → IsNoUsage status
      → Reads (Ok o) start Has given status later old new
  reads_by run ends reader takes ticks printed but whole noted told fault no_usage = record {
    run = run;
    ends = ends;
    reader = reader;
    takes = subst (λ (l : List Key). TakesKeys l reader old.left new.left)
        (sym (all_keys Has given o start opening events old.disk mid begins more later
        are_acts is)) takes;
    start_is = all_start Has given o start opening events old.disk mid begins more later
        are_acts is;
    clocked = subst (λ (l : List ℤ). Gives old.moments new.moments l)
        (sym (all_moments Has given o start opening events old.disk mid begins more later
        are_acts is)) ticks;
    printed = printed;
    but = but;
    whole = whole;
    noted = noted;
    told = told;
    fault = fault;
    chosen = no_usage;
  }

-- Statuses of which a run says nothing but what was printed.
abbrev pub IsBroken : Status → Type 0
IsBroken status = (status ≡ OutFault) ⊎ (status ≡ NoMemory)

prints_broken : (o : PlainOptions) (start : ℤ) (given : Given) (events : List Happening)
    (old new : Option (List ℕ)) (status : Status) → task_of o ≡ ReadFolder → IsBroken status
    → Breaks given (first_of o start) events old new
    → Prints status (pieces given (task_of o) (first_of o start) events) old new
prints_broken o start given events old new status task (inl is) breaks =
    subst (λ (st : Status). Prints st (pieces given (task_of o) (first_of o start) events) old new)
    (sym is) (subst
    (λ (t : Task). Prints OutFault (pieces given t (first_of o start) events) old new)
    (sym task) breaks.prints)
prints_broken o start given events old new status task (inr is) breaks =
    subst (λ (st : Status). Prints st (pieces given (task_of o) (first_of o start) events) old new)
    (sym is) (subst
    (λ (t : Task). Prints NoMemory (pieces given t (first_of o start) events) old new)
    (sym task) breaks.prints)

prints_all_but : (o : PlainOptions) (start : ℤ) (given : Given) (events : List Happening)
    (old new : Option (List ℕ)) → task_of o ≡ ReadFolder
    → Breaks given (first_of o start) events old new
    → PrintsBut (pieces given (task_of o) (first_of o start) events) old new
prints_all_but o start given events old new task breaks =
    subst (λ (t : Task). PrintsBut (pieces given t (first_of o start) events) old new) (sym task)
    breaks.prints

-- no rest is missing
pub prints_all : (texts : List (List ℕ)) (old new : Option (List ℕ))
    → Appends old new (concat texts)
    → PrintsBut texts old new
prints_all texts old new all = record {
  rest = [];
  sent = (concat texts, sym (append-nil (concat texts)), all);
  short = omega arith;
}

whole_broken : (o : PlainOptions) (start : ℤ) (given : Given) (events : List Happening)
    (old new : Option (List ℕ)) → task_of o ≡ ReadFolder
    → Breaks given (first_of o start) events old new
    → IsUnshown (after_events given (first_of o start) events).turn.stage
    → Appends old new (concat (pieces given (task_of o) (first_of o start) events))
whole_broken o start given events old new task breaks unshown =
    subst (λ (t : Task). Appends old new (concat (pieces given t (first_of o start) events)))
    (sym task) (breaks.whole unshown)

pub ends_free : (given : Given) (o : PlainOptions) (start : ℤ) (events : List Happening)
    (a b : Option (List ℕ)) (status : Status)
    → IsBroken status → EndsAs given o start status events a b
ends_free given o start events a b status (inl is) =
    subst (λ (st : Status). EndsAs given o start st events a b) (sym is) tt
ends_free given o start events a b status (inr is) =
    subst (λ (st : Status). EndsAs given o start st events a b) (sym is) tt

abbrev pub IsOtherThanDisk : Status → Type 0
IsOtherThanDisk DiskFault = ⊥
IsOtherThanDisk status = Unit {0}

pub no_fault : (Rises : Type 0) (status : Status) → IsBroken status → status ≡ DiskFault → Rises
no_fault Rises status (inl is) fault = absurd (subst IsOtherThanDisk (sym is ∙ fault) tt)
no_fault Rises status (inr is) fault = absurd (subst IsOtherThanDisk (sym is ∙ fault) tt)

pub usage_free : (status : Status) → IsBroken status → IsNoUsage status
usage_free status (inl is) = subst IsNoUsage (sym is) tt
usage_free status (inr is) = subst IsNoUsage (sym is) tt

pub takes_none : (left : Option (List ℕ))
    → TakesKeys [] (record { pending = []; taken = 0 }) left left
takes_none left = record {
  bytes = [];
  taken = consumes_none left;
  counted = refl;
  few = omega arith;
  waiting = omega arith;
  keys = first_none left;
}

-- the run broke off before a screen
module _ (o : PlainOptions) (start : ℤ) (Has : Kind → Type 0) (given : Given)
    (status : Status) (opening events : List Happening) (old new : Outside)
    (begins : BeginsRun Has given (first_of o start) start opening events old.disk new.disk)
    (task : task_of o ≡ ReadFolder) (same_out : new.written ≡ old.written)
    (same_left : new.left ≡ old.left) (same_clock : new.moments ≡ old.moments) where
  breaks : Breaks given (first_of o start) events old.written new.written
  breaks = subst (λ (w : Option (List ℕ)). Breaks given (first_of o start) events old.written w)
      (sym same_out) (begun_breaks Has given o start opening events old.disk new.disk begins
      old.written)

  pub reads_early : EndsAs given o start status events old.left new.left
      → Prints status (pieces given (task_of o) (first_of o start) events) old.written new.written
      → TellsNotes status (printed_lines (after_events given (first_of o start) events).notes) old
      new
      → (status ≡ DiskFault → Rose old.disk.faults new.disk.faults) → IsNoUsage status
      → Reads (Ok o) start Has given status events old new
  reads_early ends printed noted fault no_usage =
      reads_by o start Has given status opening events [] events old new new.disk begins tt
      (sym (append-nil events)) begins.run ends (record { pending = []; taken = 0 })
      (subst (λ (l : Option (List ℕ)). TakesKeys [] (record { pending = []; taken = 0 }) old.left l)
      (sym same_left) (takes_none old.left))
      (subst (λ (l : Option (List ℤ)). Gives old.moments l []) (sym same_clock)
      (gives_none old.moments))
      printed (prints_all_but o start given events old.written new.written task breaks)
      (whole_broken o start given events old.written new.written task breaks) noted begins.told
      fault no_usage

  pub reads_off : IsBroken status
      → TellsNotes status (printed_lines (after_events given (first_of o start) events).notes) old
      new
      → Reads (Ok o) start Has given status events old new
  reads_off broken noted =
      reads_early (ends_free given o start events old.left new.left status broken)
      (prints_broken o start given events old.written new.written status task broken breaks) noted
      (no_fault (Rose old.disk.faults new.disk.faults) status broken) (usage_free status broken)

  -- an event that ends the run shows no screen
  pub over_prints : IsUnshown (after_events given (first_of o start) events).turn.stage
      → Appends old.written new.written
      (concat (pieces given (task_of o) (first_of o start) events))
  over_prints unshown =
      whole_broken o start given events old.written new.written task breaks unshown

-- What was told of commands.

pub notes_whole : (status : Status) (text : List ℕ) (old new : Outside)
    → Appends old.told new.told text → TellsNotes status text old new
notes_whole status text old new told = text_whole status text (streams_of old) (streams_of new) told

pub notes_cut : (status : Status) (text : List ℕ) (old new : Outside)
    → ((status ≡ OutFault) × Rose old.faults new.faults) ⊎ (status ≡ NoMemory)
    → (rest : List ℕ) × Sent old.told new.told text rest → TellsNotes status text old new
notes_cut status text old new which sent =
    text_cut status text (streams_of old) (streams_of new) which sent

pub cut_status : {Rises : Type 0} (status : Status)
    → ((status ≡ OutFault) × Rises) ⊎ (status ≡ NoMemory) → IsBroken status
cut_status status (inl is) = inl is.0
cut_status status (inr is) = inr is

-- No folder was opened.
module _ (o : PlainOptions) (start : ℤ) (Has : Kind → Type 0) (given : Given)
    (opening events : List Happening) (old new : Outside)
    (begins : BeginsRun Has given (first_of o start) start opening events old.disk new.disk)
    (task : task_of o ≡ ReadFolder) (same_out : new.written ≡ old.written)
    (same_left : new.left ≡ old.left) (same_clock : new.moments ≡ old.moments) where
  module _ (why : OpenFault) (refused : IsRefusedAs why opening) where
    abbrev is_refused : IsRefused why events
    is_refused = record {
      files = begins.files;
      path = refused.path;
      marks = refused.marks;
      are_files = begins.are_files;
      events_are = begins.events_are
          ∙ ap (λ (l : List Happening). begins.files ++ l) refused.is;
    }

    is_over : (after_events given (first_of o start) events).turn.stage ≡ Over
    is_over =
        ap (λ (l : List Happening). (after_events given (first_of o start) l).turn.stage)
        is_refused.events_are
        ∙ ap (λ (s : State). s.turn.stage) (after-append given (first_of o start) begins.files
        (FolderRefused refused.path why refused.marks ∷ []))

    whole : Appends old.written new.written
        (concat (pieces given (task_of o) (first_of o start) events))
    whole = over_prints o start Has given (NotOpened why) opening events old new begins task
        same_out
        same_left same_clock (subst IsUnshown (sym is_over) tt)

    pub reads_refused : IsStated why
        → Appends old.told new.told
        (printed_lines (after_events given (first_of o start) events).notes)
        → Reads (Ok o) start Has given (NotOpened why) events old new
    reads_refused stated told =
        reads_early o start Has given (NotOpened why) opening events old new begins task same_out
        same_left same_clock (task, stated, is_refused) whole told
        (λ fault. absurd (subst IsOtherThanDisk fault tt)) tt

  pub reads_fault : IsRefusedAs (Folder Fault) opening → Rose old.disk.faults new.disk.faults
      → Appends old.told new.told
      (printed_lines (after_events given (first_of o start) events).notes)
      → Reads (Ok o) start Has given DiskFault events old new
  reads_fault refused rose told =
      reads_early o start Has given DiskFault opening events old new begins task same_out
      same_left same_clock (task, is_refused (Folder Fault) refused)
      (whole (Folder Fault) refused) told (λ fault. rose) tt

  pub reads_refusal : (status result : Status)
      → TellsRefused status result
      (printed_lines (after_events given (first_of o start) events).notes)
      old.told new.told old.faults new.faults
      → (Appends old.told new.told
      (printed_lines (after_events given (first_of o start) events).notes)
      → Reads (Ok o) start Has given status events old new)
      → Reads (Ok o) start Has given result events old new
  reads_refusal status result (inl told) reads =
      subst (λ (st : Status). Reads (Ok o) start Has given st events old new) (sym told.0)
      (reads told.1)
  reads_refusal status result (inr (inl told)) reads =
      reads_off o start Has given result opening events old new begins task same_out same_left
      same_clock (inl told.0) (notes_cut result
      (printed_lines (after_events given (first_of o start) events).notes) old new
      (inl (told.0, told.1))
      told.2)
  reads_refusal status result (inr (inr told)) reads =
      reads_off o start Has given result opening events old new begins task same_out same_left
      same_clock (inr told.0) (notes_cut result
      (printed_lines (after_events given (first_of o start) events).notes) old new (inr told.0)
      told.1)

-- The same, as the calls say it.
module _ (o : PlainOptions) (start moment : ℤ) (Has : Kind → Type 0) (given : Given)
    (setup : PlainSetup) (events : List Happening) (old new : Outside) (at : moment ≡ start)
    (is : setup ≡ setup_of o) (task : task_of o ≡ ReadFolder)
    (same_out : new.written ≡ old.written) (same_left : new.left ≡ old.left)
    (same_clock : new.moments ≡ old.moments) where
  fails_here : (why : StartError) (notes : List (List ℕ))
      → Fails Has given (first_state setup moment) moment why notes events old.disk new.disk
      → Fails Has given (first_of o start) start why notes events old.disk new.disk
  fails_here why notes fails =
      subst (λ (m : ℤ). Fails Has given (first_of o m) m why notes events old.disk new.disk) at
      (subst (λ (p : PlainSetup). Fails Has given (first_state p moment) moment why notes events
      old.disk new.disk) is fails)

  pub fails_refused : (why : OpenFault) (notes : List (List ℕ)) (result : Status)
      → Fails Has given (first_state setup moment) moment (error.NotOpened why) notes events
      old.disk
      new.disk
      → TellsRefused (NotOpened why) result (printed_lines notes) old.told new.told old.faults
      new.faults → Reads (Ok o) start Has given result events old new
  fails_refused why notes result fails told =
      let f = fails_here (error.NotOpened why) notes fails in
      reads_refusal o start Has given f.opening events old new f.begins task same_out same_left
      same_clock (NotOpened why) result (subst (λ (l : List (List ℕ)). TellsRefused
      (NotOpened why) result (printed_lines l) old.told new.told old.faults new.faults)
      (sym f.noted) told)
      (reads_refused o start Has given f.opening events old new f.begins task same_out
      same_left same_clock why f.ends.0 f.ends.1)

  pub fails_fault : (notes : List (List ℕ)) (result : Status)
      → Fails Has given (first_state setup moment) moment error.DiskFault notes events old.disk
      new.disk
      → TellsRefused DiskFault result (printed_lines notes) old.told new.told old.faults
      new.faults → Reads (Ok o) start Has given result events old new
  fails_fault notes result fails told =
      let f = fails_here error.DiskFault notes fails in
      reads_refusal o start Has given f.opening events old new f.begins task same_out same_left
      same_clock DiskFault result (subst (λ (l : List (List ℕ)). TellsRefused
      DiskFault result (printed_lines l) old.told new.told old.faults new.faults)
      (sym f.noted) told)
      (reads_fault o start Has given f.opening events old new f.begins task same_out
      same_left same_clock f.ends.0 f.ends.1)

  pub fails_memory : (notes : List (List ℕ)) → new.told ≡ old.told
      → Fails Has given (first_state setup moment) moment error.NoMemory notes events old.disk
      new.disk
      → Reads (Ok o) start Has given NoMemory events old new
  fails_memory notes same_told fails =
      let f = fails_here error.NoMemory notes fails in
      let text : List ℕ = printed_lines (after_events given (first_of o start) events).notes in
      reads_off o start Has given NoMemory f.opening events old new f.begins task same_out
      same_left same_clock (inr refl) (
        text,
        subst (λ (t : Option (List ℕ)). Sent old.told t text text) (sym same_told)
            (sent_none old.told text),
      )

pub starts_here : (o : PlainOptions) (start moment : ℤ) (Has : Kind → Type 0) (given : Given)
    (setup : PlainSetup) (events : List Happening) (state : State) (listing : List Listed)
    (before now : Seen) → moment ≡ start → setup ≡ setup_of o
    → Starts Has given (first_state setup moment) moment events state listing before now
    → Starts Has given (first_of o start) start events state listing before now
starts_here o start moment Has given setup events state listing before now at is begun =
    subst (λ (m : ℤ). Starts Has given (first_of o m) m events state listing before now) at
    (subst (λ (p : PlainSetup). Starts Has given (first_state p moment) moment events state listing
    before now) is begun)

-- A folder was opened.
module _ (o : PlainOptions) (start : ℤ) (Has : Kind → Type 0) (given : Given)
    (events : List Happening) (old new : Outside) (task : task_of o ≡ ReadFolder) (state : State)
    (listing : List Listed) (mid : Seen)
    (starts : Starts Has given (first_of o start) start events state listing old.disk mid)
  where
    notes_are : (after_events given (first_of o start) events).notes ≡ state.notes
    notes_are = ap (λ (s : State). s.notes) starts.waits.state_is
        ∙ (begin_keeps (met_of state.met given) state.turn.core.frames state).0

    opened_at : (more later : List Happening) → AreActs more → later ≡ events ++ more
        → IsOpened starts.came more later
    opened_at more later are_acts put = record {
      files = starts.begins.files;
      path = starts.path;
      kind = starts.kind;
      moment = start;
      marks = starts.marks;
      are_files = starts.begins.are_files;
      are_acts = are_acts;
      events_are = put ∙ ap (λ (l : List Happening). l ++ more) starts.begins.events_are
          ∙ append_assoc starts.begins.files (FolderOpened starts.path starts.kind start
          starts.came starts.marks ∷ []) more;
    }

    module _ (same_disk : mid ≡ new.disk) (same_out : new.written ≡ old.written)
        (same_left : new.left ≡ old.left) (same_clock : new.moments ≡ old.moments) where
      begins_here : BeginsRun Has given (first_of o start) start
          (FolderOpened starts.path starts.kind start starts.came starts.marks ∷ []) events old.disk
          new.disk
      begins_here = subst (λ (s : Seen). BeginsRun Has given (first_of o start) start
          (FolderOpened starts.path starts.kind start starts.came starts.marks ∷ []) events old.disk
          s) same_disk starts.begins

      pub starts_cut : (status : Status)
          → ((status ≡ OutFault) × Rose old.faults new.faults) ⊎ (status ≡ NoMemory)
          → (rest : List ℕ) × Sent old.told new.told (printed_lines state.notes) rest
          → Reads (Ok o) start Has given status events old new
      starts_cut status which sent =
          reads_off o start Has given status (FolderOpened starts.path starts.kind start
          starts.came starts.marks ∷ []) events old new begins_here task same_out same_left
          same_clock (cut_status status which)
          (subst (λ (l : List (List ℕ)). TellsNotes status (printed_lines l) old new)
          (sym notes_are) (notes_cut status (printed_lines state.notes) old new which sent))

      pub starts_empty : o.skip_empty ≡ true → listing ≡ []
          → Appends old.told new.told (printed_lines state.notes)
          → Reads (Ok o) start Has given Empty events old new
      starts_empty skips none told =
          reads_early o start Has given Empty (FolderOpened starts.path starts.kind start
          starts.came starts.marks ∷ []) events old new begins_here task same_out same_left
          same_clock (
            task,
            skips,
            subst (λ (l : List Listed). IsOpened l [] events)
                (sym starts.listed ∙ none) (opened_at [] events tt (sym (append-nil events))),
          )
          (subst (λ (w : Option (List ℕ)). Appends old.written w []) (sym same_out)
          (appends_none old.written))
          (subst (λ (l : List (List ℕ)). Appends old.told new.told (printed_lines l))
          (sym notes_are) told)
          (λ fault. absurd (subst IsOtherThanDisk fault tt)) tt

    -- and keys went on
    module _ (later : List Happening) (next : State)
        (full : o.skip_empty ≡ true → listing ≡ [] → ⊥)
        (witnessed : Witnessed Has given (first_of o start) later old.disk new.disk) where
      abbrev opening : List Happening
      opening = FolderOpened starts.path starts.kind start starts.came starts.marks ∷ []

      module _ (status : Status) (goes : GoesToEnd status events later next.turn.stage old.left
          new.left old.moments new.moments) where
        shown_end : after_events given (first_of o start) later ≡ next
            → EndsShown given o start status later old.left new.left
        shown_end same = record {
          came = starts.came;
          keys = goes.presses.more;
          opened = opened_at goes.presses.more later goes.presses.are_acts goes.presses.events_are;
          full = λ skips none. full skips (starts.listed ∙ none);
          reader = goes.reader;
          takes = subst (λ (l : List Key). TakesKeys l goes.reader old.left new.left)
              (sym (all_keys Has given o start opening events old.disk mid starts.begins
              goes.presses.more later goes.presses.are_acts goes.presses.events_are))
              goes.presses.takes;
          ends = subst (λ (s : State). EndsKeys status s.turn.stage goes.reader new.left)
              (sym same) goes.ends;
        }

        reads_so : IsRunFrom given (first_of o start) later
            → EndsAs given o start status later old.left new.left
            → Prints status (pieces given (task_of o) (first_of o start) later) old.written
            new.written
            → PrintsBut (pieces given (task_of o) (first_of o start) later) old.written new.written
            → (IsUnshown (after_events given (first_of o start) later).turn.stage
            → Appends old.written new.written
            (concat (pieces given (task_of o) (first_of o start) later)))
            → TellsNotes status (printed_lines (after_events given (first_of o start) later).notes)
            old new
            → (status ≡ DiskFault → Rose old.disk.faults new.disk.faults) → IsNoUsage status
            → Reads (Ok o) start Has given status later old new
        reads_so run ends printed but whole noted fault no_usage =
            reads_by o start Has given status opening events goes.presses.more later old new mid
            starts.begins goes.presses.are_acts goes.presses.events_are run ends goes.reader
            goes.presses.takes goes.presses.given printed but whole noted witnessed fault no_usage

        reads_goes : GoesOut given (first_of o start) later next (streams_of old) (streams_of new)
            → (EndsShown given o start status later old.left new.left
            → EndsAs given o start status later old.left new.left)
            → (Appends old.written new.written
            (concat (pieces given (task_of o) (first_of o start) later))
            → Prints status (pieces given (task_of o) (first_of o start) later) old.written
            new.written)
            → (status ≡ DiskFault → Rose old.disk.faults new.disk.faults) → IsNoUsage status
            → Reads (Ok o) start Has given status later old new
        reads_goes out ends printed fault no_usage =
            reads_so went.stands.run (ends (shown_end went.stands.state_is)) (printed all)
            (prints_all (pieces given (task_of o) (first_of o start) later) old.written new.written
            all)
            (λ over. all) (notes_whole status
            (printed_lines (after_events given (first_of o start) later).notes) old new
            (subst (λ (s : State). Appends old.told new.told (printed_lines s.notes))
            (sym went.stands.state_is) out.noted)) fault no_usage
          where
            went : Goes given (first_of o start) later next old.written new.written
            went = out.goes

            all : Appends old.written new.written
                (concat (pieces given (task_of o) (first_of o start) later))
            all = subst (λ (t : Task). Appends old.written new.written
                (concat (pieces given t (first_of o start) later))) (sym task)
                (subst (λ (l : List (List (List ℕ))). Appends old.written new.written
                (concat (map screen_text l))) (sym went.stands.screens_are) went.sent)

        reads_breaks : BreaksOut given status (first_of o start) later (streams_of old)
            (streams_of new)
            → IsBroken status → Reads (Ok o) start Has given status later old new
        reads_breaks out broken =
            reads_so out.breaks.run
            (ends_free given o start later old.left new.left status broken)
            (prints_broken o start given later old.written new.written status task broken
            out.breaks)
            (prints_all_but o start given later old.written new.written task out.breaks)
            (whole_broken o start given later old.written new.written task out.breaks) out.noted
            (no_fault (Rose old.disk.faults new.disk.faults) status broken)
            (usage_free status broken)

      pub starts_went : (status : Status) → Ended given status (first_of o start) later next
          (streams_of old) (streams_of new)
          → GoesToEnd status events later next.turn.stage old.left new.left old.moments new.moments
          → Reads (Ok o) start Has given status later old new
      starts_went Done went goes =
          reads_goes Done goes went
          (λ shown. subst (λ (t : Task). EndsDone given t o start later old.left
          new.left) (sym task) shown) (λ all. all)
          (λ fault. absurd (subst IsOtherThanDisk fault tt)) tt
      starts_went KeysFault went goes =
          reads_goes KeysFault goes went (λ shown. (task, shown)) (λ all. all)
          (λ fault. absurd (subst IsOtherThanDisk fault tt)) tt
      starts_went TooManyKeys went goes =
          reads_goes TooManyKeys goes went (λ shown. (task, shown)) (λ all. all)
          (λ fault. absurd (subst IsOtherThanDisk fault tt)) tt
      starts_went OutFault went goes = reads_breaks OutFault goes went (inl refl)
      starts_went NoMemory went goes = reads_breaks NoMemory goes went (inr refl)
      starts_went (Usage word) went goes = absurd goes.ends
      starts_went (NotOpened why) went goes = absurd goes.ends
      starts_went DiskFault went goes = absurd goes.ends
      starts_went Empty went goes = absurd goes.ends

    pub starts_go : (later : List Happening) (next : State) (status : Status) (now : Streams)
        → (o.skip_empty ≡ true → listing ≡ [] → ⊥)
        → now.out ≡ old.written → Appends old.told now.errs (printed_lines state.notes)
        → old.faults ≤ now.faults
        → ((first : State) → (from : Streams) → BeginsOut given first events state from now
        → Ended given status first later next from (streams_of new))
        → ((first : State) → (from : Streams) → BeginsOut given first events state from now
        → StaysToldFrom Has given first events later mid new.disk)
        → GoesToEnd status events later next.turn.stage old.left new.left old.moments new.moments
        → Reads (Ok o) start Has given status later old new
    starts_go later next status now full unprinted told low went witnessed goes =
        let begun : BeginsOut given (first_of o start) events state (streams_of old) now = record {
          waits = starts.waits;
          unprinted = unprinted;
          noted = told;
          later = low;
        } in
        starts_went later next full
        (witnessed (first_of o start) (streams_of old) begun old.disk starts.begins.told) status
        (went (first_of o start) (streams_of old) begun) goes

abbrev IsEmptyAlone : Status → Type 0
IsEmptyAlone Empty = Unit {0}
IsEmptyAlone status = ⊥

-- an empty folder is no fault
pub empty_counts : {before after out errs errs' : ℕ} → errs ≤ errs'
    → CountsStreams Empty before after out out errs errs'
empty_counts {before} {after} {out} {errs} {errs'} later = record {
  keys = λ e. absurd (subst IsEmptyAlone e tt);
  out = λ e. absurd (subst IsEmptyAlone e tt);
  later = later;
}
