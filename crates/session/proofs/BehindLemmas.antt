-- How a run goes on by a sync, and by the check behind it.
use Rattle.std.proofs.Common.{◌≡◌, ◌<◌, ◌++◌, ◌∷◌, ◌∙◌, ℕ, ℤ, Bool, true, false, List, [], ap}
use Rattle.std.proofs.Common.{arith}
use Rattle.std.proofs.Common.{Err, Ok, Result, length, refl, subst, sym}
use Rattle.std.specs.Prelude.{OnOk}
use Rattle.std.proofs.lemmas.List.{append-nil}
use Rattle.mail_base.specs.Series.{Held, plain_texts}
use Rattle.mail_base.specs.declared.kind.Kind.{Kind}
use Rattle.mail_base.specs.declared.series.NoMemory.{NoMemory}
use Rattle.disk_model.specs.Seen.{Seen}
use Rattle.folder_letters.specs.Letters.{Mail}
use Rattle.index_items.specs.Changes.{Changed}
use Rattle.patterns.specs.Causes.{Keeps}
use Rattle.session_events.specs.Checking.{IsOpen, standing_over}
use Rattle.session_events.specs.Events.{Happening, CheckRefused, FolderChecked, FolderSynced}
use Rattle.session_events.specs.Events.{IsCheck, IsSync, IsWork, SyncRefused}
use Rattle.session_events.specs.Happened.{AreNext, met_after}
use Rattle.session_events.specs.Telling.{Tells}
use Rattle.session_events.specs.Wishes.{Check, Sync, answered, moment_of}
use Rattle.session_events.specs.declared.event.Trace.{Trace}
use Rattle.session_events.specs.declared.open_folder.OpenFolder.{OpenFolder}
use Rattle.session_events.proofs.CheckLemmas.{tells_more}
use Rattle.session_state.specs.Instants.{IsMoment}
use Rattle.session_state.specs.declared.stage.Stage.{Stage}
use Rattle.session_state.specs.declared.stage.Stage.TheVariants.{Checking, Over, Syncing}
use Rattle.session.specs.Calls.{Becomes, IsGivenIn, IsOpenIn, KeepsGiven, Works, WorksWhole}
use Rattle.session.specs.Calls.{events_in, letters_in, state_in}
use Rattle.session.specs.Core.{CoreState, plain_core}
use Rattle.people.specs.Judged.{PlainJudged}
use Rattle.session_state.specs.Frames.{plain_frames}
use Rattle.session.specs.Fitting.{CanAct, Fits, FitsRun}
use Rattle.session.specs.Given.{Given, given_of, met_of}
use Rattle.session.specs.Looking.{LooksAgain}
use Rattle.session.specs.Runs.{State, acting, after, arrived, arrived_by, behind_check, ground}
use Rattle.session.specs.Runs.{looked_at, looked_by}
use Rattle.session.specs.Runs.{plain_session, quits_at, shown, stage_screens, wanted_changes, wish}
use Rattle.session.specs.Runs.{wish_at, written_by}
use Rattle.session.specs.Steps.{IsChecking, IsSettled, leaves_at}
use Rattle.session.specs.Telling.{kind_in, purges_in, standing_of}
use Rattle.session.specs.Writing.{WritesFolder}
use Rattle.session.specs.declared.session_type.Session.{Session}
use Rattle.session.proofs.CheckedLemmas.{check_after, check_moment}
use Rattle.session.proofs.FittingLemmas.{fits_act, open_fits}
use Rattle.session.proofs.GivenLemmas.{given_so, keeps_same}
use Rattle.session.proofs.SettlingLemmas.{turn_settles}
use Rattle.session.proofs.StepsLemmas.{arrives_on}
use Rattle.session.proofs.WorksLemmas.{whole_event, works_event}

-- A sync.

sync_work : (event : Happening) → IsSync event → IsWork event
sync_work (FolderSynced changes marks) is = tt
sync_work (SyncRefused changes why marks) is = tt
sync_work _ is = absurd is

sync_next : (met : ℕ) (event : Happening) → IsSync event → AreNext met event
sync_next met (FolderSynced changes marks) is = tt
sync_next met (SyncRefused changes why marks) is = tt
sync_next met _ is = absurd is

sync_met : (met : ℕ) (event : Happening) → IsSync event → met_after met event ≡ met
sync_met met (FolderSynced changes marks) is = refl
sync_met met (SyncRefused changes why marks) is = refl
sync_met met _ is = absurd is

-- what the event of a sync leads to
sync_leads : (given : Given) (s : State) (event : Happening) → IsSync event
    → arrived_by given s event ≡ written_by (quits_at s.turn.stage) given.mails s event
sync_leads given s (FolderSynced changes marks) is = refl
sync_leads given s (SyncRefused changes why marks) is = refl
sync_leads given s _ is = absurd is

sync_after : (given : Given) (s : State) (event : Happening) → IsSync event
    → after given s event ≡ arrived given s event
sync_after given s (FolderSynced changes marks) is = refl
sync_after given s (SyncRefused changes why marks) is = refl
sync_after given s _ is = absurd is

sync_notes : (quits : Bool) (mails : List Mail) (s : State) (event : Happening) → IsSync event
    → (written_by quits mails s event).notes ≡ s.notes
sync_notes quits mails s (FolderSynced changes marks) is = refl
sync_notes quits mails s (SyncRefused changes why marks) is = refl
sync_notes quits mails s _ is = absurd is

module _ {X : Type 0} {Is : X → Type 0} (Has : Kind → Type 0) (purge quits : Bool)
    (old new : Session) (was now : Trace X Is) (changes : List Changed) (event : Happening)
    (taken : Result (Unit {0}) NoMemory) (before later : Seen)
    (stage : old.stage ≡ Syncing purge quits) (fits : FitsRun (letters_in was) old)
    (open_is : IsOpenIn Has old was before)
    (wanted : changes ≡ wanted_changes purge (plain_core old.core))
    (written : WritesFolder Has changes quits old new (letters_in was) event taken before later)
    (put : events_in now ≡ events_in was ++ event ∷ []) (notes : now.notes ≡ was.notes)
    (letters : letters_in now ≡ letters_in was) (grows : KeepsGiven was now) where
  abbrev s : State
  s = state_in old was

  met_is : met_after s.met event ≡ length (letters_in now)
  met_is = sync_met s.met event written.sync ∙ fits.met ∙ sym (ap length letters)

  answers : wish s (moment_of event) ≡ answered event
  answers = ap (λ (at : Stage). wish_at at s (moment_of event)) stage ∙ ap Sync (sym wanted)
      ∙ sym written.answers

  silent : (given : Given) → shown given s ≡ []
  silent given = ap (λ (at : Stage). stage_screens given at s) stage

  tells : (given : Given) → IsGivenIn now given
      → Tells Has (standing_of s) given.mails event before later
  tells given is =
      tells_more (letters_in now) given.mails is.first (omega (arith, met_is))
      (subst (λ (l : List Mail). Tells Has (standing_of s) l event before later) (sym letters)
      (written.tells (kind_in s)))

  noted : (given : Given) → (after given s event).notes ≡ plain_texts was.notes
  noted given = ap (λ (t : State). t.notes) (sync_after given s event written.sync
      ∙ sync_leads _ s event written.sync)
      ∙ sync_notes (quits_at s.turn.stage) _ s event written.sync

  known : IsOpenIn Has new now later
  known = record {
    known = subst (λ (l : List Mail). IsOpen l later.told new.folder) (sym letters) written.known;
    has = subst Has (sym written.kind) open_is.has;
    checked = subst IsMoment (sym written.checked) open_is.checked;
  }

  met_on : length (letters_in now) ≡ met_after (length (letters_in was)) event
  met_on = ap length letters ∙ sym (sync_met (length (letters_in was)) event written.sync)

  pub works_sync : Works Has old new was now before later
  works_sync = works_event Has old new was now event before later
      (sync_work event written.sync) put silent noted answers tells
      (sync_next (length (letters_in was)) event written.sync) met_on known written.window grows

  leads : ((notes : Held (Held ℕ)) → plain_session new notes
      ≡ written_by quits (letters_in was) (plain_session old notes) event)
      → (given : Given) → IsGivenIn now given → after given s event ≡ state_in new now
  leads arrives given is = sync_after given s event written.sync
      ∙ sym (arrives_on s (state_in new now) event met_is (λ lent there.
      ap (plain_session new) notes ∙ arrives was.notes
      ∙ ap (λ (l : List Mail). written_by quits l s event) (sym letters ∙ sym there.mails_are)
      ∙ ap (λ (at : Stage). written_by (quits_at at) lent.mails s event) (sym stage)
      ∙ sym (sync_leads lent s event written.sync)) given is)

  pub whole_sync : ((notes : Held (Held ℕ)) → plain_session new notes
      ≡ written_by quits (letters_in was) (plain_session old notes) event)
      → Fits (letters_in was) new → WorksWhole old new was now
  whole_sync arrives fit = whole_event Has old new was now event before later
      (sync_work event written.sync) put silent noted answers tells
      (sync_next (length (letters_in was)) event written.sync) met_on known written.window grows
      (leads arrives) (record {
        fits = subst (λ (l : List Mail). Fits l new) (sym letters) fit;
        met = written.met ∙ fits.met ∙ sym (ap length letters);
      })

-- a sync leaves its stage
checking_by : (quits : Bool) (mails : List Mail) (s : State) (event : Happening) → IsSync event
    → IsChecking (written_by quits mails s event).turn.stage
checking_by quits mails s (FolderSynced changes marks) is = tt
checking_by quits mails s (SyncRefused changes why marks) is = tt
checking_by quits mails s _ is = absurd is

-- a check is to come behind it
pub sync_checking : (quits : Bool) (mails : List Mail) (old new : Session) (event : Happening)
    (notes : Held (Held ℕ)) → IsSync event
    → plain_session new notes ≡ written_by quits mails (plain_session old notes) event
    → IsChecking new.stage
sync_checking quits mails old new event notes is arrives =
    subst (λ (t : State). IsChecking t.turn.stage) (sym arrives)
    (checking_by quits mails (plain_session old notes) event is)

-- The check behind a sync.

check_work : (event : Happening) → IsCheck event → IsWork event
check_work (FolderChecked moment found marks) is = tt
check_work (CheckRefused moment why marks) is = tt
check_work _ is = absurd is

silent_at : (stage : Stage) (given : Given) (s : State) → IsChecking stage
    → stage_screens given stage s ≡ []
silent_at (Checking leaves) given s is = refl
silent_at _ given s is = absurd is

wish_behind : (stage : Stage) (s : State) (moment : ℤ) → IsChecking stage
    → wish_at stage s moment ≡ Check s.moment
wish_behind (Checking leaves) s moment is = refl
wish_behind _ s moment is = absurd is

-- what the event of a check leads to there
behind_leads : (stage : Stage) (given : Given) (s : State) (event : Happening) → IsChecking stage
    → s.turn.stage ≡ stage → IsCheck event → arrived_by given s event
    ≡ behind_check (leaves_at stage) given (looked_by true given.mails s event)
behind_leads (Checking leaves) given s (FolderChecked moment found marks) is at check =
    ap (λ (t : Stage). looked_at t given s (FolderChecked moment found marks)) at
behind_leads (Checking leaves) given s (CheckRefused moment why marks) is at check =
    ap (λ (t : Stage). looked_at t given s (CheckRefused moment why marks)) at
behind_leads (Checking leaves) given s _ is at check = absurd check
behind_leads _ given s event is at check = absurd is

behind_notes : (leaves : Bool) (given : Given) (s : State)
    → (behind_check leaves given s).notes ≡ s.notes
behind_notes true given s = refl
behind_notes false given s = refl

looked_notes : (quiet : Bool) (mails : List Mail) (s : State) (event : Happening) → IsCheck event
    → (looked_by quiet mails s event).notes ≡ s.notes
looked_notes quiet mails s (FolderChecked moment found marks) is = refl
looked_notes quiet mails s (CheckRefused moment why marks) is = refl
looked_notes quiet mails s _ is = absurd is

module _ {X : Type 0} {Is : X → Type 0} (Has : Kind → Type 0) (old mid new : Session)
    (was now : Trace X Is) (event : Happening) (before later : Seen)
    (checking : IsChecking old.stage) (fits : FitsRun (letters_in was) old)
    (open_is : IsOpenIn Has old was before) (is_moment : IsMoment old.moment.0)
    (looks : LooksAgain Has true old.moment.0 old mid was.archive.items now.archive.items event
    before later)
    (put : events_in now ≡ events_in was ++ event ∷ []) (notes : now.notes ≡ was.notes)
    (kept : Keeps was.verdicts.kept now.verdicts.kept)
    (window : new.window ≡ mid.window)
    (folder : new.folder ≡ mid.folder) where
  abbrev at : State
  at = state_in old was

  grown : KeepsGiven was now
  grown = record { added = looks.added; letters = looks.letters; kept = kept }

  met_here : met_after at.met event ≡ length (letters_in now)
  met_here = sym looks.met

  answered_here : wish at (moment_of event) ≡ answered event
  answered_here = wish_behind old.stage at (moment_of event) checking ∙ sym looks.answers

  silent_here : (given : Given) → shown given at ≡ []
  silent_here given = silent_at old.stage given at checking

  tells_here : (given : Given) → IsGivenIn now given
      → Tells Has (standing_of at) given.mails event before later
  tells_here given is =
      tells_more (letters_in now) given.mails is.first (omega (arith, met_here))
      (looks.tells (kind_in at) (purges_in at))

  leads_by : (given : Given) → arrived_by given at event
      ≡ behind_check (leaves_at old.stage) given (looked_by true given.mails at event)
  leads_by given = behind_leads old.stage given at event checking refl looks.check

  noted_here : (given : Given) → (after given at event).notes ≡ plain_texts was.notes
  noted_here given =
      let lent : Given = met_of (met_after at.met event) given in
      ap (λ (t : State). t.notes) (check_after given at event looks.check ∙ leads_by lent)
      ∙ behind_notes (leaves_at old.stage) lent (looked_by true lent.mails at event)
      ∙ looked_notes true lent.mails at event looks.check

  next_here : AreNext (length (letters_in was)) event
  next_here = subst (λ (n : ℕ). AreNext n event) fits.met looks.next

  known_here : IsOpenIn Has new now later
  known_here = record {
    known = subst (λ (f : OpenFolder). IsOpen (letters_in now) later.told f) (sym folder)
        looks.known;
    has = subst (λ (f : OpenFolder). Has f.known.kind) (sym folder)
        (subst Has (sym looks.kind) open_is.has);
    checked = subst (λ (f : OpenFolder). IsMoment f.checked) (sym folder)
        (subst IsMoment (sym looks.checked) is_moment);
  }

  met_later : length (letters_in now) ≡ met_after (length (letters_in was)) event
  met_later = looks.met ∙ ap (λ (n : ℕ). met_after n event) fits.met

  pub works_check : Works Has old new was now before later
  works_check = works_event Has old new was now event before later
      (check_work event looks.check) put silent_here noted_here answered_here tells_here next_here
      met_later known_here (window ∙ looks.window) grown

  module _ (goes : Becomes (letters_in now) now.verdicts.kept
      (behind_check (leaves_at mid.stage)) mid new) (fit : Fits (letters_in now) new) where
    comes : (given : Given) → IsGivenIn now given → state_in new now ≡ arrived given at event
    comes = arrives_on at (state_in new now) event met_here (λ given is.
        goes given is now.notes
        ∙ ap (λ (n : Held (Held ℕ)). behind_check (leaves_at mid.stage) given
        (plain_session mid n)) notes
        ∙ ap (λ (t : State). behind_check (leaves_at mid.stage) given t) (looks.arrives was.notes)
        ∙ ap (λ (t : Stage). behind_check (leaves_at t) given
        (looked_by true (letters_in now) at event)) looks.stage
        ∙ ap (λ (l : List Mail). behind_check (leaves_at old.stage) given
        (looked_by true l at event)) (sym is.mails_are)
        ∙ sym (leads_by given))

    pub whole_check : WorksWhole old new was now
    whole_check = whole_event Has old new was now event before later
        (check_work event looks.check) put silent_here noted_here answered_here tells_here
        next_here met_later known_here (window ∙ looks.window) grown
        (λ given is. check_after given at event looks.check ∙ sym (comes given is))
        (record {
          fits = fit;
          met = ap (λ (f : OpenFolder). f.met) folder ∙ looks.known.met;
        })

-- what holds of a call that was answered Ok, by two things that do
pub ok_both : {P Q S : Type 0} (r : Result (Unit {0}) NoMemory) → OnOk r P → OnOk r Q
    → (P → Q → S) → OnOk r S
ok_both (Ok done) p q f = f p q
ok_both (Err none) p q f = tt

-- keys that went on have settled
pub acting_settles : (mails : List Mail) (kept : List PlainJudged) (old new : Session)
    → Becomes mails kept acting old new → IsSettled new.stage (plain_frames new.core.frames)
acting_settles mails kept old new goes =
    let given : Given = given_of mails kept in
    let notes : Held (Held ℕ) = record { items = []; room = 0 } in
    let s : State = plain_session old notes in
    subst (λ (t : State). IsSettled t.turn.stage t.turn.core.frames)
    (sym (goes given (given_so mails given (keeps_same kept)) notes))
    (turn_settles (ground given s) s.turn)

-- the run is over
pub over_fits : (mails : List Mail) (old : Session) → Fits mails old
    → Fits mails (record old { stage = Over })
over_fits mails old fits =
    let act : CanAct mails old = fits_act mails old fits in
    open_fits mails (record old { stage = Over }) (λ is. absurd (cc))
    (record {
      over = act.over;
      can = record {
        window = act.can.window;
        moment = act.can.moment;
        few = act.can.few;
      };
    })
