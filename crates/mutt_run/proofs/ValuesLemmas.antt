-- How a run that prints the values of variables ends.
use Rattle.std.proofs.Common.{◌≡◌, ◌⊎◌, inl, inr, ℕ, ℤ, List, [], Option, Ok}
use Rattle.std.proofs.Common.{refl, sym, ◌∙◌, ap, subst, arith, length, length-append}
use Rattle.std.proofs.lemmas.List.{append-nil}
use Rattle.std.specs.Io.KnownBytes.{Appends}
use Rattle.std.specs.List.{concat}
use Rattle.mail_base.specs.Faults.{Rose}
use Rattle.mail_base.specs.Streams.{Sent}
use Rattle.mail_base.proofs.Sending.{sent_none}
use Rattle.disk_model.specs.Seen.{Seen}
use Rattle.mutt_words.specs.Options.{PlainOptions}
use Rattle.patterns.specs.Causes.{Keeps}
use Rattle.people.specs.Judged.{PlainJudged}
use Rattle.session.specs.Beginning.{AnswersNames, BeginsRun}
use Rattle.session_events.specs.Events.{Happening}
use Rattle.session.specs.Given.{Given}
use Rattle.session.specs.Runs.{State, after_events}
use Rattle.session.specs.Starting.{PlainSetup, first_state}
use Rattle.session.specs.Steps.{SourcesOff}
use Rattle.session.proofs.GivenLemmas.{keeps_same, keeps_then}
use Rattle.session.specs.Telling.{Driverless}
use Rattle.mutt_run.specs.Choice.{Task, TellValues, first_of, setup_of, task_of}
use Rattle.mutt_run.specs.Ending.{EndsAs, EndsDone, IsNoUsage}
use Rattle.mutt_run.specs.Printed.{Prints, PrintsBut, pieces, values_text}
use Rattle.mutt_run.specs.Reading.{Outside, Reads, TellsNotes}
use Rattle.mutt_run.specs.Screens.{printed_lines}
use Rattle.mutt_run.specs.Taken.{Gives, TakesKeys}
use Rattle.mutt_run.specs.declared.status.Status.{Status}
use Rattle.mutt_run.specs.declared.status.Status.TheVariants.{Done, DiskFault, OutFault}
use Rattle.mutt_run.specs.declared.status.Status.TheVariants.{NoMemory}
use Rattle.mutt_run.proofs.KeysLemmas.{gives_none}
use Rattle.mutt_run.specs.Going.{IsUnshown}
use Rattle.mutt_run.proofs.ReadsLemmas.{IsBroken, IsOtherThanDisk, cut_status, ends_free}
use Rattle.mutt_run.proofs.ReadsLemmas.{no_fault}
use Rattle.mutt_run.proofs.ReadsLemmas.{notes_cut, notes_whole, prints_all, reads_by, takes_none}
use Rattle.mutt_run.proofs.ReadsLemmas.{usage_free}
use Rattle.session.proofs.StepsLemmas.{files_unopened}

-- what was read of files by some verdicts was so by each list that keeps them
pub sources_kept : {old new : List PlainJudged} {first : State} {events : List Happening}
    {before now : Seen} → Keeps old new → SourcesOff old first events before now
    → SourcesOff new first events before now
sources_kept keeps off = record {
  are = off.are;
  run = λ given h. off.run given (keeps_then keeps h);
  screens_are = λ given h. off.screens_are given (keeps_then keeps h);
  told = λ given h. off.told given (keeps_then keeps h);
  faults = off.faults;
}

-- at a moment that is the same
pub names_at : {given : Given} {events : List Happening} {names lines notes : List (List ℕ)}
    (setup : PlainSetup) (a b : ℤ) → a ≡ b
    → AnswersNames given (first_state setup a) events names lines notes
    → AnswersNames given (first_state setup b) events names lines notes
names_at {given} {events} {names} {lines} {notes} setup a b same answers =
    subst (λ (m : ℤ). AnswersNames given (first_state setup m) events names lines notes) same
    answers

module _ (o : PlainOptions) (start : ℤ) (given : Given) (setup : PlainSetup)
    (events : List Happening) (names : List (List ℕ)) (old new : Outside) (is : setup ≡ setup_of o)
    (task : task_of o ≡ TellValues names)
    (sources : SourcesOff given.verdicts (first_state setup start) events old.disk new.disk)
    (same_left : new.left ≡ old.left) (same_clock : new.moments ≡ old.moments) where
  abbrev read : SourcesOff given.verdicts (first_of o start) events old.disk new.disk
  read = subst (λ (p : PlainSetup). SourcesOff given.verdicts (first_state p start) events old.disk
      new.disk) is sources

  begins : BeginsRun Driverless given (first_of o start) start [] events old.disk new.disk
  begins = record {
    files = events;
    are_files = read.are;
    opens = tt;
    events_are = sym (append-nil events);
    run = read.run given (keeps_same given.verdicts);
    told = read.told given (keeps_same given.verdicts);
  }

  not_unshown : (Rises : Type 0)
      → IsUnshown (after_events given (first_of o start) events).turn.stage → Rises
  not_unshown Rises unshown = absurd (subst IsUnshown
      (files_unopened given (first_of o start) events read.are refl) unshown)

  reads_values : (status : Status) → EndsAs given o start status events old.left new.left
      → Prints status (pieces given (task_of o) (first_of o start) events) old.written new.written
      → PrintsBut (pieces given (task_of o) (first_of o start) events) old.written new.written
      → TellsNotes status (printed_lines (after_events given (first_of o start) events).notes) old
      new
      → (status ≡ DiskFault → Rose old.disk.faults new.disk.faults) → IsNoUsage status
      → Reads (Ok o) start Driverless given status events old new
  reads_values status ends printed but noted fault no_usage =
      reads_by o start Driverless given status [] events [] events old new new.disk begins tt
      (sym (append-nil events)) (read.run given (keeps_same given.verdicts)) ends
      (record { pending = []; taken = 0 })
      (subst (λ (l : Option (List ℕ)). TakesKeys [] (record { pending = []; taken = 0 }) old.left l)
      (sym same_left) (takes_none old.left))
      (subst (λ (l : Option (List ℤ)). Gives old.moments l []) (sym same_clock)
      (gives_none old.moments))
      printed but (not_unshown (Appends old.written new.written
      (concat (pieces given (task_of o) (first_of o start) events)))) noted
      (read.told given (keeps_same given.verdicts)) fault
      no_usage

  abbrev text : List ℕ
  text = values_text names (after_events given (first_of o start) events)

  -- a front of the lines was printed
  pub values_cut : (status : Status) → IsBroken status
      → (rest : List ℕ) × Sent old.written new.written text rest
      → TellsNotes status (printed_lines (after_events given (first_of o start) events).notes) old
      new
      → Reads (Ok o) start Driverless given status events old new
  values_cut status broken sent noted =
      reads_values status (ends_free given o start events old.left new.left status broken)
      (printed status broken) but noted
      (no_fault (Rose old.disk.faults new.disk.faults) status broken) (usage_free status broken)
    where
      but : PrintsBut (pieces given (task_of o) (first_of o start) events) old.written new.written
      but = subst (λ (t : Task). PrintsBut (pieces given t (first_of o start) events) old.written
          new.written) (sym task) (record {
            rest = sent.0;
            sent = (sent.1.0, append-nil text ∙ sent.1.1, sent.1.2);
            short = omega (arith, ap length sent.1.1, length-append sent.1.0 sent.0);
          })

      printed : (status : Status) → IsBroken status
          → Prints status (pieces given (task_of o) (first_of o start) events) old.written
          new.written
      printed status (inl is) = subst (λ (st : Status). Prints st (pieces given (task_of o)
          (first_of o start) events) old.written new.written) (sym is) but
      printed status (inr is) = subst (λ (st : Status). Prints st (pieces given (task_of o)
          (first_of o start) events) old.written new.written) (sym is) but

  -- nothing was printed
  pub values_none : new.written ≡ old.written → (status : Status) → IsBroken status
      → TellsNotes status (printed_lines (after_events given (first_of o start) events).notes) old
      new
      → Reads (Ok o) start Driverless given status events old new
  values_none same status broken noted =
      values_cut status broken (
        text,
        subst (λ (w : Option (List ℕ)). Sent old.written w text text)
            (sym same) (sent_none old.written text),
      ) noted

  -- memory ran out before the files were read
  pub values_early : new.written ≡ old.written → new.told ≡ old.told
      → Reads (Ok o) start Driverless given NoMemory events old new
  values_early same same_told =
      let notes : List ℕ = printed_lines (after_events given (first_of o start) events).notes in
      values_none same NoMemory (inr refl) (
        notes,
        subst (λ (t : Option (List ℕ)). Sent old.told t notes notes) (sym same_told)
            (sent_none old.told notes),
      )

  -- the files were read
  module _ (lines notes : List (List ℕ))
      (answers : AnswersNames given (first_state setup start) events names lines notes) where
    abbrev here : AnswersNames given (first_of o start) events names lines notes
    here = subst
        (λ (p : PlainSetup). AnswersNames given (first_state p start) events names lines notes)
        is answers

    noted_as : (status : Status) → TellsNotes status (printed_lines notes) old new
        → TellsNotes status (printed_lines (after_events given (first_of o start) events).notes) old
        new
    noted_as status told = subst (λ (l : List (List ℕ)). TellsNotes status (printed_lines l) old
        new)
        (sym here.noted) told

    pub values_untold : new.written ≡ old.written → (status : Status)
        → ((status ≡ OutFault) × Rose old.faults new.faults) ⊎ (status ≡ NoMemory)
        → (rest : List ℕ) × Sent old.told new.told (printed_lines notes) rest
        → Reads (Ok o) start Driverless given status events old new
    values_untold same status which sent =
        values_none same status (cut_status status which)
        (noted_as status (notes_cut status (printed_lines notes) old new which sent))

    module _ (told : Appends old.told new.told (printed_lines notes)) where
      pub values_off : new.written ≡ old.written → (status : Status) → IsBroken status
          → Reads (Ok o) start Driverless given status events old new
      values_off same status broken =
          values_none same status broken
          (noted_as status (notes_whole status (printed_lines notes) old new told))

      pub values_part : (status : Status) → status ≡ OutFault
          → (rest : List ℕ) × Sent old.written new.written (printed_lines lines) rest
          → Reads (Ok o) start Driverless given status events old new
      values_part status fault sent =
          values_cut status (inl fault)
          (subst (λ (l : List (List ℕ)). (rest : List ℕ)
          × Sent old.written new.written (printed_lines l) rest) here.lines_are sent)
          (noted_as status (notes_whole status (printed_lines notes) old new told))

      pub values_done : Appends old.written new.written (printed_lines lines)
          → Reads (Ok o) start Driverless given Done events old new
      values_done sent =
          reads_values Done
          (subst (λ (t : Task). EndsDone given t o start events old.left new.left) (sym task)
          (read.are, here.read))
          all
          (prints_all (pieces given (task_of o) (first_of o start) events) old.written new.written
          all)
          (noted_as Done told) (λ fault. absurd (subst IsOtherThanDisk fault tt)) tt
        where
          all : Appends old.written new.written
              (concat (pieces given (task_of o) (first_of o start) events))
          all = subst (λ (t : Task). Appends old.written new.written
              (concat (pieces given t (first_of o start) events))) (sym task)
              (subst (λ (l : List ℕ). Appends old.written new.written l) (sym (append-nil text))
              (subst (λ (l : List (List ℕ)). Appends old.written new.written (printed_lines l))
              here.lines_are sent))
