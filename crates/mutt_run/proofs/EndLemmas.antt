-- A run with the line of its end, which may fail.
use Rattle.std.proofs.Common.{◌≡◌, ◌≤◌, ◌⊎◌, inl, inr, ℕ, ℤ, List, [], ◌∷◌, ◌++◌, Option, Some}
use Rattle.std.proofs.Common.{None, Ok, Err, Result, refl, sym, ◌∙◌, ap, subst, append_assoc, arith}
use Rattle.std.proofs.lemmas.List.{append-nil}
use Rattle.std.specs.Io.KnownBytes.{Appends}
use Rattle.mail_base.specs.Faults.{Rose}
use Rattle.mail_base.specs.Streams.{Sent}
use Rattle.mail_base.proofs.Sending.{appends_then}
use Rattle.mail_base.specs.declared.kind.Kind.{Kind}
use Rattle.disk_model.specs.Journal.{Past}
use Rattle.mutt_words.specs.Options.{PlainOptions}
use Rattle.session_events.specs.Events.{Happening}
use Rattle.session.specs.Given.{Given}
use Rattle.session.specs.Telling.{IsTold}
use Rattle.mutt_run.specs.Choice.{acted_on, first_by}
use Rattle.mutt_run.specs.Ending.{EndsAs, IsChosen}
use Rattle.mutt_run.specs.Notes.{BegunNote, Tells, TellsEnd, note, told_text}
use Rattle.mutt_run.specs.Printed.{Prints, PrintsBut}
use Rattle.mutt_run.specs.Going.{Streams, TellsText}
use Rattle.mutt_run.specs.Reading.{Outside, Reads}
use Rattle.mutt_run.specs.Screens.{printed_lines}
use Rattle.mutt_run.specs.Taken.{Gives, pressed_moments}
use Rattle.mutt_run.specs.declared.status.Status.{Status}
use Rattle.mutt_run.specs.declared.status.Status.TheVariants.{Done, Usage, NotOpened, DiskFault}
use Rattle.mutt_run.specs.declared.status.Status.TheVariants.{KeysFault, OutFault, NoMemory}
use Rattle.mutt_run.specs.declared.status.Status.TheVariants.{Empty, TooManyKeys}
use Rattle.mutt_run.proofs.KeysLemmas.{gives_then}

-- the status stays, or memory was wanted for its line, or a write of it failed
abbrev pub IsToldAs : Type 0 → Status → Status → Type 0
IsToldAs Rises status result =
    (result ≡ status) ⊎ (result ≡ NoMemory) ⊎ ((result ≡ OutFault) × Rises)

pub chosen_memory : (choice : Result PlainOptions (List ℕ)) → IsChosen choice NoMemory
chosen_memory (Ok o) = tt
chosen_memory (Err word) = tt

chosen_fault : (choice : Result PlainOptions (List ℕ)) → IsChosen choice OutFault
chosen_fault (Ok o) = tt
chosen_fault (Err word) = tt

pub prints_told : {Rises : Type 0} {status result : Status} {texts : List (List ℕ)}
    {a b : Option (List ℕ)} → IsToldAs Rises status result → Prints status texts a b
    → PrintsBut texts a b → Prints result texts a b
prints_told {texts = texts} {a = a} {b = b} (inl is) prints but =
    subst (λ (st : Status). Prints st texts a b) (sym is) prints
prints_told {texts = texts} {a = a} {b = b} (inr (inl is)) prints but =
    subst (λ (st : Status). Prints st texts a b) (sym is) but
prints_told {texts = texts} {a = a} {b = b} (inr (inr is)) prints but =
    subst (λ (st : Status). Prints st texts a b) (sym is.0) but

-- What was read before the line of the end.
module _ {choice : Result PlainOptions (List ℕ)} {start : ℤ} {Has : Kind → Type 0}
    {given : Given} {status : Status} {events : List Happening} {old new : Outside}
    (reads : Reads choice start Has given status events old new) where
  pub ends_told : {Rises : Type 0} {result : Status} → IsToldAs Rises status result
      → EndsAs given (acted_on choice) start result events old.left new.left
  ends_told (inl is) =
      subst (λ (st : Status). EndsAs given (acted_on choice) start st events old.left new.left)
      (sym is)
      reads.ends
  ends_told (inr (inl is)) =
      subst (λ (st : Status). EndsAs given (acted_on choice) start st events old.left new.left)
      (sym is) tt
  ends_told (inr (inr is)) =
      subst (λ (st : Status). EndsAs given (acted_on choice) start st events old.left new.left)
      (sym is.0) tt

  pub chosen_told : {Rises : Type 0} {result : Status} → IsToldAs Rises status result
      → IsChosen choice result
  chosen_told (inl is) = subst (λ (st : Status). IsChosen choice st) (sym is) reads.chosen
  chosen_told (inr (inl is)) =
      subst (λ (st : Status). IsChosen choice st) (sym is) (chosen_memory choice)
  chosen_told (inr (inr is)) =
      subst (λ (st : Status). IsChosen choice st) (sym is.0) (chosen_fault choice)

  -- the moment of the start, and then those of the keys
  pub clocked : (first : ℤ) (before : Option (List ℤ)) → Gives before old.moments (first ∷ [])
      → start ≡ first → Gives before new.moments (start ∷ pressed_moments events)
  clocked first before tick same =
      subst (λ (m : ℤ). Gives before new.moments (m ∷ pressed_moments events)) (sym same)
      (gives_then before old.moments new.moments (first ∷ []) (pressed_moments events) tick
      reads.clocked)

-- Pieces that are sent one after the other.

sent_behind : (a b c : Option (List ℕ)) (x y rest : List ℕ) → Appends a b x → Sent b c y rest
    → Sent a c (x ++ y) rest
sent_behind a b c x y rest first next = (
  x ++ next.0,
  ap (λ (l : List ℕ). x ++ l) next.1 ∙ sym (append_assoc x next.0 rest),
  appends_then a b c x next.0 first next.2,
)

sent_before : (a b c : Option (List ℕ)) (x rest : List ℕ) → Sent a b x rest → Appends b c []
    → Sent a c x rest
sent_before a b c x rest first next = (
  first.0,
  first.1,
  subst (λ (l : List ℕ). Appends a c l) (append-nil first.0)
      (appends_then a b c first.0 [] first.2 next),
)

-- nothing of an empty text is sent
none_front : (part rest : List ℕ) → [] ≡ part ++ rest → part ≡ []
none_front [] rest is = refl
none_front (x ∷ part) rest is = absurd (cc)

sent_nothing : (b c : Option (List ℕ)) (rest : List ℕ) → Sent b c [] rest → Appends b c []
sent_nothing b c rest sent =
    subst (λ (l : List ℕ). Appends b c l) (none_front sent.0 rest sent.1) sent.2

pub rose_sooner : (a b c : ℕ) → a ≤ b → b ≤ c → Rose a b → Rose a c
rose_sooner a b c low high rose = grind (arith, low, high, rose)

pub rose_after : (a b c : ℕ) → a ≤ b → Rose b c → Rose a c
rose_after a b c low rose = grind (arith, low, rose)

-- The line of the end behind those of faulty commands.
module _ (Ends : Status → Type 0) (notes : List (List ℕ)) (path : List ℕ) (old mid : Streams)
    (new : Option (List ℕ)) (faults : ℕ) (low : old.faults ≤ mid.faults)
    (high : mid.faults ≤ faults) where
  abbrev text : List ℕ
  text = printed_lines notes

  -- a front of the lines of faulty commands was told in any case
  notes_sent : (status : Status) → TellsText status text old mid
      → (rest : List ℕ) × Sent old.errs mid.errs text rest
  notes_sent OutFault told = (told.0, told.1)
  notes_sent NoMemory told = told
  notes_sent Done told = ([], (text, sym (append-nil text), told))
  notes_sent (Usage word) told = ([], (text, sym (append-nil text), told))
  notes_sent (NotOpened why) told = ([], (text, sym (append-nil text), told))
  notes_sent DiskFault told = ([], (text, sym (append-nil text), told))
  notes_sent KeysFault told = ([], (text, sym (append-nil text), told))
  notes_sent Empty told = ([], (text, sym (append-nil text), told))
  notes_sent TooManyKeys told = ([], (text, sym (append-nil text), told))

  all_told : (status : Status) → Appends old.errs mid.errs text
      → (status ≡ status) × Appends mid.errs new (note path status)
      → Appends old.errs new (told_text notes path status)
  all_told status first next =
      appends_then old.errs mid.errs new text (note path status) first next.1

  begun : (status : Status) → Ends status → (rest : List ℕ)
      → Sent old.errs new (told_text notes path status) rest
      → ((status ≡ OutFault) × (rest ≡ [])) ⊎ Rose old.faults faults
      → BegunNote Ends (Rose old.faults faults) notes path old.errs new
  begun status ends rest sent cause =
      record { status = status; ended = ends; rest = rest; sent = sent; cause = cause }

  cut_cause : (rest : List ℕ) → (rest ≡ []) ⊎ Rose old.faults mid.faults
      → ((OutFault ≡ OutFault) × (rest ≡ [])) ⊎ Rose old.faults faults
  cut_cause rest (inl is) = inl (refl, is)
  cut_cause rest (inr rose) = inr (rose_sooner old.faults mid.faults faults low high rose)

  same_told : (status : Status) → Ends status → TellsText status text old mid
      → TellsEnd path status status mid.errs new
      → Tells Ends (Rose old.faults faults) notes path status old.errs new
  same_told OutFault ends first next =
      begun OutFault ends first.0
      (subst (λ (l : List ℕ). Sent old.errs new l first.0) (sym (append-nil text))
      (sent_before old.errs mid.errs new text first.0 first.1
      (sent_nothing mid.errs new next.0 next.1))) (cut_cause first.0 first.2)
  same_told NoMemory ends first next =
      (first.0, sent_before old.errs mid.errs new text first.0 first.1 next)
  same_told Done ends first next = all_told Done first next
  same_told (Usage word) ends first next = all_told (Usage word) first next
  same_told (NotOpened why) ends first next = all_told (NotOpened why) first next
  same_told DiskFault ends first next = all_told DiskFault first next
  same_told KeysFault ends first next = all_told KeysFault first next
  same_told Empty ends first next = all_told Empty first next
  same_told TooManyKeys ends first next = all_told TooManyKeys first next

  cut_line : (status : Status) → Ends status → Appends old.errs mid.errs text
      → (rest : List ℕ) × Sent mid.errs new (note path status) rest → Rose old.faults faults
      → BegunNote Ends (Rose old.faults faults) notes path old.errs new
  cut_line status ends first next rose =
      begun status ends next.0
      (sent_behind old.errs mid.errs new text (note path status) next.0 first next.1) (inr rose)

  -- the write of the line failed
  cut_told : (status : Status) → Ends status → TellsText status text old mid
      → (rest : List ℕ) × Sent mid.errs new (note path status) rest → Rose old.faults faults
      → BegunNote Ends (Rose old.faults faults) notes path old.errs new
  cut_told OutFault ends first next rose =
      begun OutFault ends first.0
      (subst (λ (l : List ℕ). Sent old.errs new l first.0) (sym (append-nil text))
      (sent_before old.errs mid.errs new text first.0 first.1
      (sent_nothing mid.errs new next.0 next.1))) (inr rose)
  cut_told NoMemory ends first next rose =
      begun NoMemory ends first.0
      (subst (λ (l : List ℕ). Sent old.errs new l first.0) (sym (append-nil text))
      (sent_before old.errs mid.errs new text first.0 first.1
      (sent_nothing mid.errs new next.0 next.1))) (inr rose)
  cut_told Done ends first next rose = cut_line Done ends first next rose
  cut_told (Usage word) ends first next rose = cut_line (Usage word) ends first next rose
  cut_told (NotOpened why) ends first next rose = cut_line (NotOpened why) ends first next rose
  cut_told DiskFault ends first next rose = cut_line DiskFault ends first next rose
  cut_told KeysFault ends first next rose = cut_line KeysFault ends first next rose
  cut_told Empty ends first next rose = cut_line Empty ends first next rose
  cut_told TooManyKeys ends first next rose = cut_line TooManyKeys ends first next rose

  pub notes_told : (here : List ℕ) (status result : Status) → here ≡ path → Ends status
      → TellsText status text old mid → TellsEnd here status result mid.errs new
      → IsToldAs (Rose mid.faults faults) status result
      → Tells Ends (Rose old.faults faults) notes path result old.errs new
  notes_told here status result at ends first told (inl is) =
      subst (λ (st : Status). Tells Ends (Rose old.faults faults) notes path st old.errs new)
      (sym is) (same_told status ends first
      (subst (λ (st : Status). TellsEnd path status st mid.errs new) is
      (subst (λ (p : List ℕ). TellsEnd p status result mid.errs new) at told)))
  notes_told here status result at ends first told (inr (inl is)) =
      let sent = notes_sent status first in
      subst (λ (st : Status). Tells Ends (Rose old.faults faults) notes path st old.errs new)
      (sym is) (
        sent.0,
        sent_before old.errs mid.errs new text sent.0 sent.1
            (subst (λ (st : Status). TellsEnd here status st mid.errs new) is told),
      )
  notes_told here status result at ends first told (inr (inr is)) =
      subst (λ (st : Status). Tells Ends (Rose old.faults faults) notes path st old.errs new)
      (sym is.0) (cut_told status ends first
      (subst (λ (st : Status). TellsEnd path status st mid.errs new) is.0
      (subst (λ (p : List ℕ). TellsEnd p status result mid.errs new) at told))
      (rose_after old.faults mid.faults faults low is.1))

-- Causes of faults.

abbrev IsNoFault : Status → Type 0
IsNoFault DiskFault = ⊥
IsNoFault KeysFault = ⊥
IsNoFault status = Unit {0}

abbrev IsNoOut : Status → Type 0
IsNoOut OutFault = ⊥
IsNoOut status = Unit {0}

pub disk_told : {Rises Disk : Type 0} {status result : Status} → IsToldAs Rises status result
    → (status ≡ DiskFault → Disk) → result ≡ DiskFault → Disk
disk_told (inl is) fault e = fault (sym is ∙ e)
disk_told (inr (inl is)) fault e = absurd (subst IsNoFault (sym is ∙ e) tt)
disk_told (inr (inr is)) fault e = absurd (subst IsNoFault (sym is.0 ∙ e) tt)

pub keys_told : {Rises Keys : Type 0} {status result : Status} → IsToldAs Rises status result
    → (status ≡ KeysFault → Keys) → result ≡ KeysFault → Keys
keys_told (inl is) fault e = fault (sym is ∙ e)
keys_told (inr (inl is)) fault e = absurd (subst IsNoFault (sym is ∙ e) tt)
keys_told (inr (inr is)) fault e = absurd (subst IsNoFault (sym is.0 ∙ e) tt)

module _ {Out : Type 0} {a b c : ℕ} (low : a ≤ b) (high : b ≤ c) where
  wider : Out ⊎ Rose a b → Out ⊎ Rose a c
  wider (inl out) = inl out
  wider (inr rose) = inr (rose_sooner a b c low high rose)

  pub out_told : {status result : Status} → IsToldAs (Rose b c) status result
      → (status ≡ OutFault → Out ⊎ Rose a b) → result ≡ OutFault → Out ⊎ Rose a c
  out_told (inl is) fault e = wider (fault (sym is ∙ e))
  out_told (inr (inl is)) fault e = absurd (subst IsNoOut (sym is ∙ e) tt)
  out_told (inr (inr is)) fault e = inr (rose_after a b c low is.1)
