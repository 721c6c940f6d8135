-- What calls come to, one behind the other.
use Rattle.std.proofs.Common.{◌≡◌, ◌++◌, ◌∷◌, ◌∙◌, [], ℤ, List, ap, length, map, refl}
use Rattle.std.proofs.Common.{subst}
use Rattle.std.proofs.Common.{sym}
use Rattle.std.proofs.lemmas.List.{append-nil}
use Rattle.mail_base.specs.Series.{Held}
use Rattle.mail_base.specs.declared.kind.Kind.{Kind}
use Rattle.disk_model.specs.Looking.{LooksOnly}
use Rattle.disk_model.specs.Seen.{Seen}
use Rattle.folder_letters.specs.Letters.{Mail, plain_letter}
use Rattle.folder_letters.specs.declared.letter.Letter.{Letter}
use Rattle.patterns.specs.Causes.{Keeps}
use Rattle.session_events.proofs.CheckLemmas.{open_on}
use Rattle.session_events.specs.Checking.{IsOpen}
use Rattle.session_events.specs.Events.{FileRead, FileRefused}
use Rattle.session_events.specs.Events.{Happening, IsFile}
use Rattle.session_events.specs.Telling.{TellsFile}
use Rattle.session_events.specs.Wishes.{answered}
use Rattle.session_events.specs.declared.event.Trace.{Trace}
use Rattle.session_events.specs.declared.open_folder.OpenFolder.{OpenFolder}
use Rattle.session_events.specs.declared.setup.StartError.{StartError}
use Rattle.session_state.specs.Instants.{IsMoment}
use Rattle.session.specs.Calls.{FailsIn, IsGivenIn, IsSourced}
use Rattle.session.specs.Calls.{IsOpenIn, Reads, ReadsWhole, StartsIn, events_in}
use Rattle.session.specs.Calls.{letters_in, state_in}
use Rattle.session.specs.Fitting.{Fits, FitsRun, IsLeft, StaysUnopened}
use Rattle.session.specs.Given.{Given}
use Rattle.session.specs.Runs.{State, arrived, wish}
use Rattle.session.specs.Starting.{PlainSetup, first_state}
use Rattle.session.specs.declared.session_type.Session.{Session}
use Rattle.session.proofs.GivenLemmas.{keeps_then, lent_more}
use Rattle.session.proofs.GivenLemmas.{lent_on}
use Rattle.session.proofs.StepsLemmas.{file_arrives, file_goes, file_has_settled}
use Rattle.session.proofs.StepsLemmas.{file_leads, file_reads, file_stays}
use Rattle.session.proofs.StepsLemmas.{goes_same, goes_then}
use Rattle.session.proofs.StepsLemmas.{stands_goes, to_same}
use Rattle.session.proofs.TellingLemmas.{file_is, reads_none, reads_then}

pub same_letters : {X : Type 0} {Is : X → Type 0} (was now : Trace X Is) → now.archive ≡ was.archive
    → letters_in now ≡ letters_in was
same_letters {X} {Is} was now same = ap (λ (a : Held Letter). map plain_letter a.items) same

-- The open folder stays known while the device only looks.
pub known_on : {X : Type 0} {Is : X → Type 0} (Has : Kind → Type 0) (old new : Session)
    (was now : Trace X Is) (before after : Seen) → new.folder ≡ old.folder
    → now.archive ≡ was.archive → LooksOnly before.told after.told
    → IsOpenIn Has old was before → IsOpenIn Has new now after
known_on {X} {Is} Has old new was now before after same letters looks is = record {
  known = subst (λ (f : OpenFolder). IsOpen (letters_in now) after.told f) (sym same)
      (subst (λ (l : List Mail). IsOpen l after.told old.folder)
      (sym (same_letters was now letters))
      (open_on (letters_in was) before.told after.told old.folder looks is.known));
  has = subst (λ (f : OpenFolder). Has f.known.kind) (sym same) is.has;
  checked = subst (λ (f : OpenFolder). IsMoment f.checked) (sym same) is.checked;
}

-- Files of commands.

-- none was read
pub still_reads : {X : Type 0} {Is : X → Type 0} (s : Session) (was now : Trace X Is)
    (before after : Seen)
    → events_in now ≡ events_in was → now.archive ≡ was.archive
    → Keeps was.verdicts.kept now.verdicts.kept → after ≡ before → Reads s s was now before after
still_reads {X} {Is} s was now before after events archive kept same = record {
  on = λ given lent first screens stands.
      goes_same events (stands_goes [] (sym (append-nil _)) stands);
  files = reads_none _ _ _ _ events same;
  window = refl;
  folder = refl;
  archive = archive;
  kept = kept;
}

pub still_whole : {X : Type 0} {Is : X → Type 0} (s : Session) (was now : Trace X Is)
    → events_in now ≡ events_in was
    → state_in s now ≡ state_in s was → now.archive ≡ was.archive → FitsRun (letters_in was) s
    → ReadsWhole s s was now
still_whole {X} {Is} s was now events state archive fits = record {
  to = λ given lent first is. to_same given first events is ∙ sym state;
  unopened = λ h. h;
  settled = λ h. h;
  view = λ h. refl;
  fits = subst (λ (letters : List Mail). FitsRun letters s) (sym (same_letters was now archive))
      fits;
}

file_leaves : (mails : List Mail) (old new : Session) (event : Happening) → IsFile event
    → IsLeft mails old new event → Fits mails new × StaysUnopened old new
file_leaves mails old new (FileRead path text marks) is left = left
file_leaves mails old new (FileRefused path why marks) is left = left
file_leaves mails old new _ is left = absurd is

-- one was looked for
module _ {X : Type 0} {Is : X → Type 0} (old new : Session) (was now : Trace X Is)
    (event : Happening) (before after : Seen)
    (put : events_in now ≡ events_in was ++ event ∷ []) (tells : TellsFile event before after)
    (wished : (moment : ℤ) → wish (state_in old was) moment ≡ answered event) where
  pub file_read : new.window ≡ old.window → new.folder ≡ old.folder → now.archive ≡ was.archive
      → Keeps was.verdicts.kept now.verdicts.kept → Reads old new was now before after
  file_read window folder archive kept = record {
    on = λ given lent first screens stands. file_goes (state_in old was) _ _ event before after put
        tells wished given first screens stands;
    files = file_reads (state_in old was) _ _ event before after put tells wished;
    window = window;
    folder = folder;
    archive = archive;
    kept = kept;
  }

  module _ (arrives : (given : Given) → IsGivenIn now given
      → state_in new now ≡ arrived given (state_in old was) event)
      (left : IsLeft (letters_in now) old new event)
      (met : old.folder.met ≡ length (letters_in was))
      (folder : new.folder ≡ old.folder) (archive : now.archive ≡ was.archive) where
    leaves : Fits (letters_in now) new × StaysUnopened old new
    leaves = file_leaves (letters_in now) old new event (file_is event tells.marks tells.cause) left

    pub file_whole : ReadsWhole old new was now
    file_whole = record {
      to = λ given lent first is. file_leads (state_in old was) _ _ event before after put tells
          wished given first (state_in new now)
          (file_arrives (state_in old was) _ _ event before after put tells wished
          (state_in new now) arrives given lent) is;
      unopened = file_stays (state_in old was) _ _ event before after put tells wished
          (state_in new now) arrives;
      settled = file_has_settled (state_in old was) _ _ event before after put tells wished
          (state_in new now) arrives;
      view = leaves.1;
      fits = record {
        fits = leaves.0;
        met = ap (λ (f : OpenFolder). f.met) folder ∙ met
            ∙ sym (ap length (same_letters was now archive));
      };
    }

-- at a moment that is the same
pub sourced_at : {X : Type 0} {Is : X → Type 0} {session : Session} {trace : Trace X Is}
    {before now : Seen} (setup : PlainSetup)
    (a b : ℤ) → a ≡ b → IsSourced (first_state setup a) session trace before now
    → IsSourced (first_state setup b) session trace before now
sourced_at {X} {Is} {session} {trace} {before} {now} setup a b same sourced =
    subst (λ (m : ℤ). IsSourced (first_state setup m) session trace before now) same sourced

pub starts_at : {X : Type 0} {Is : X → Type 0} {Has : Kind → Type 0} {first : State}
    {before now : Seen} (session : Session) (trace : Trace X Is) (a b : ℤ) → a ≡ b
    → StartsIn Has first a session trace before now
    → StartsIn Has first b session trace before now
starts_at {X} {Is} {Has} {first} {before} {now} session trace a b same starts =
    subst (λ (m : ℤ). StartsIn Has first m session trace before now) same starts

pub fails_at : {X : Type 0} {Is : X → Type 0} {Has : Kind → Type 0} {first : State}
    {why : StartError} {before now : Seen} (trace : Trace X Is) (a b : ℤ) → a ≡ b
    → FailsIn Has first a why trace before now → FailsIn Has first b why trace before now
fails_at {X} {Is} {Has} {first} {why} {before} {now} trace a b same fails =
    subst (λ (m : ℤ). FailsIn Has first m why trace before now) same fails

-- some were read, and then others
module _ {X : Type 0} {Is : X → Type 0} {old mid new : Session} {was then now : Trace X Is}
    {before between after : Seen}
    (reads : Reads old mid was then before between) (whole : ReadsWhole old mid was then)
    (next : Reads mid new then now between after) where
  letters : letters_in now ≡ letters_in then
  letters = same_letters then now next.archive

  pub then_reads : Reads old new was now before after
  then_reads = record {
    on = λ given lent first screens stands.
        let lent_then = lent_more given old.stage letters next.kept lent in
        goes_then (reads.on given lent_then first screens stands)
        (whole.to given lent_then first stands.state_is)
        (next.on given (lent_on _ _ given old.stage mid.stage whole.unopened lent) first screens);
    files = reads_then _ _ _ _ _ _ reads.files next.files;
    window = next.window ∙ reads.window;
    folder = next.folder ∙ reads.folder;
    archive = next.archive ∙ reads.archive;
    kept = keeps_then reads.kept next.kept;
  }

  pub then_whole : ReadsWhole mid new then now → ReadsWhole old new was now
  then_whole ends = record {
    to = λ given lent first is.
        ends.to given (lent_on _ _ given old.stage mid.stage whole.unopened lent) first
        (whole.to given (lent_more given old.stage letters next.kept lent) first is);
    unopened = λ h. ends.unopened (whole.unopened h);
    settled = λ h. ends.settled (whole.settled h);
    view = λ h. ends.view (whole.unopened h) ∙ whole.view h;
    fits = ends.fits;
  }
