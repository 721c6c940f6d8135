-- What a sync makes of a session.
use Rattle.std.proofs.Common.{◌≡◌, ◌≤◌, ◌∙◌, ℕ, Bool, false, List, Result, Ok, Err, ap, refl, subst}
use Rattle.std.proofs.Common.{sym}
use Rattle.std.specs.Prelude.{OnOk}
use Rattle.mail_base.specs.Series.{Held}
use Rattle.mail_base.specs.declared.kind.Kind.{Kind}
use Rattle.mail_base.specs.declared.series.NoMemory.{NoMemory}
use Rattle.disk_model.specs.Seen.{Seen}
use Rattle.folder_changes.specs.declared.sync_error.SyncError.{SyncError}
use Rattle.folder_letters.specs.Letters.{Mail}
use Rattle.index_items.specs.Changes.{Changed}
use Rattle.rc_lang.specs.declared.variable.Variable.TheVariants.{MhPurge}
use Rattle.session_events.specs.Checking.{IsOpen, standing_over}
use Rattle.session_events.specs.Events.{Happening, FolderSynced, IsSync, SyncRefused, plain_refusal}
use Rattle.session_events.specs.Syncing.{SyncsOpen, sync_event}
use Rattle.session_events.specs.Telling.{Tells}
use Rattle.session_events.specs.Wishes.{Sync, answered}
use Rattle.session_events.specs.declared.event.Marks.{Marks}
use Rattle.session_events.specs.declared.open_folder.OpenFolder.{OpenFolder}
use Rattle.session_pager.specs.Reader.{Index, PlainReader, menu_for}
use Rattle.session_screen.specs.Tuning.{is_set}
use Rattle.session.specs.Checking.{IsIndexShown}
use Rattle.session.specs.Core.{CoreState, plain_core}
use Rattle.session.specs.Fitting.{CanRead, Fits}
use Rattle.session.specs.Runs.{State, plain_session, written_by}
use Rattle.session.specs.Syncing.{synced_core, unsynced_core}
use Rattle.session.specs.Writing.{TakesTried, TakesWrite, WritesFolder}
use Rattle.session.specs.declared.session_type.Session.{Session}
use Rattle.session_state.specs.declared.stage.Stage.{Stage}
use Rattle.session_state.specs.declared.stage.Stage.TheVariants.{Checking}
use Rattle.session.proofs.FittingLemmas.{shown_fits}

-- What the event is.

tried_sync : (changes : List Changed) (answer : Result (Unit {0}) SyncError) (marks : Marks)
    → IsSync (sync_event changes answer marks)
tried_sync changes (Ok done) marks = tt
tried_sync changes (Err why) marks = tt

tried_answers : (changes : List Changed) (answer : Result (Unit {0}) SyncError) (marks : Marks)
    → answered (sync_event changes answer marks) ≡ Sync changes
tried_answers changes (Ok done) marks = refl
tried_answers changes (Err why) marks = refl

-- the session with another folder
abbrev with_folder : OpenFolder → Session → Session
with_folder folder session = record session { folder = folder }

-- What was taken in.
module _ (letters : List Mail) (core : CoreState) (leaves : Bool) (mid new : Session)
    (takes : TakesWrite letters core leaves mid new) (shown : core.reader.showing ≡ Index) where
  reader_is : (plain_core new.core).reader ≡ core.reader
  reader_is = ap (λ (c : CoreState). c.reader) takes.core_is

  write_fits : CanRead mid → Fits letters new
  write_fits can = shown_fits letters mid new
      (takes.same ∙ (λ i. let s : Session = record mid {
        core = new.core;
        folder = (ap (λ (s : Session). s.folder) (sym takes.same)) i;
        stage = (ap (λ (s : Session). s.stage) (sym takes.same)) i;
      } in s))
      takes.is_of (ap (λ (r : PlainReader). r.showing) reader_is ∙ shown) can

  write_index : IsIndexShown (plain_core new.core)
  write_index = subst (λ (c : CoreState). IsIndexShown c) (sym takes.core_is)
      (index_of_showing core shown)
    where
      index_of_showing : (c : CoreState) → c.reader.showing ≡ Index → IsIndexShown c
      index_of_showing c is = ap menu_for is

module _ (Has : Kind → Type 0) (purges : Bool) (letters : List Mail) (changes : List Changed)
    (quits : Bool) (marks : Marks) (old new : Session) (folder : OpenFolder) (before after : Seen)
  where
    abbrev mid : Session
    mid = with_folder folder old

    -- by what was answered
    tried_arrives : (answer : Result (Unit {0}) SyncError)
        → SyncsOpen Has old.owner.items purges letters (sync_event changes answer marks) old.folder
        folder before after
        → TakesTried letters changes answer quits mid new → (notes : Held (Held ℕ))
        → plain_session new notes
        ≡ written_by quits letters (plain_session old notes) (sync_event changes answer marks)
    tried_arrives (Ok done) syncs takes notes =
        let s : State = plain_session old notes in
        ap (λ (n : Session). plain_session n notes) takes.same
        ∙ (λ i. record s {
          turn = record s.turn { core = takes.core_is i; stage = Checking quits };
          folder = record { path = syncs.path i; kind = syncs.kind i };
          listing = syncs.listing i;
          forgot = syncs.forgot i;
          met = syncs.met i;
          checked = syncs.checked i;
          refused = syncs.refused i;
        })
    tried_arrives (Err why) syncs takes notes =
        let s : State = plain_session old notes in
        ap (λ (n : Session). plain_session n notes) takes.same
        ∙ (λ i. record s {
          turn = record s.turn {
            core = (takes.core_is ∙ ap (λ (path : List ℕ).
                unsynced_core path (plain_refusal why) (plain_core old.core)) syncs.path) i;
            stage = Checking false;
          };
          folder = record { path = syncs.path i; kind = syncs.kind i };
          listing = syncs.listing i;
          forgot = syncs.forgot i;
          met = syncs.met i;
          checked = syncs.checked i;
          refused = syncs.refused i;
        })

    tried_fits : (answer : Result (Unit {0}) SyncError)
        → TakesTried letters changes answer quits mid new → CanRead old → Fits letters new
    tried_fits (Ok done) takes can = write_fits letters
        (synced_core letters changes (plain_core mid.core)) quits mid new takes refl
        (record { window = can.window; moment = can.moment; few = can.few })
    tried_fits (Err why) takes can = write_fits letters
        (unsynced_core mid.folder.known.path (plain_refusal why) (plain_core mid.core)) false mid
        new
        takes refl (record { window = can.window; moment = can.moment; few = can.few })

    tried_index : (answer : Result (Unit {0}) SyncError)
        → TakesTried letters changes answer quits mid new → IsIndexShown (plain_core new.core)
    tried_index (Ok done) takes = write_index letters
        (synced_core letters changes (plain_core mid.core)) quits mid new takes refl
    tried_index (Err why) takes = write_index letters
        (unsynced_core mid.folder.known.path (plain_refusal why) (plain_core mid.core)) false mid
        new
        takes refl

-- what holds where a call was answered Ok, by what it took
ok_by : {P Q : Type 0} (r : Result (Unit {0}) NoMemory) → OnOk r P → (P → Q) → OnOk r Q
ok_by (Ok done) h f = f h
ok_by (Err none) h f = tt

-- a sync for the owner of the session
pub syncs_by : {Has : Kind → Type 0} {owner was : List ℕ} {purges : Bool} {mails : List Mail}
    {event : Happening} {folder new_folder : OpenFolder} {before after : Seen} → owner ≡ was
    → SyncsOpen Has owner purges mails event folder new_folder before after
    → SyncsOpen Has was purges mails event folder new_folder before after
syncs_by {Has} {owner} {was} {purges} {mails} {event} {folder} {new_folder} {before} {after} is
    syncs = subst (λ (o : List ℕ). SyncsOpen Has o purges mails event folder new_folder before
    after) is syncs

-- the folder was written, or was not
pub writes : {Has : Kind → Type 0} {purges : Bool} (letters : List Mail) (changes : List Changed)
    (quits : Bool) (marks : Marks) (answer : Result (Unit {0}) SyncError) (old mid new : Session)
    (folder : OpenFolder) (event : Happening) (taken : Result (Unit {0}) NoMemory)
    (before after : Seen) → mid ≡ with_folder folder old
    → event ≡ sync_event changes answer marks
    → purges ≡ is_set (plain_core old.core).rules.settings MhPurge
    → SyncsOpen Has old.owner.items purges letters (sync_event changes answer marks) old.folder
    folder before after
    → OnOk taken (TakesTried letters changes answer quits mid new)
    → new ≡ record mid { core = new.core; stage = new.stage } → Fits letters old
    → WritesFolder Has changes quits old new letters event taken before after
writes {Has} {purges} letters changes quits marks answer old mid new folder event taken before after
    middle is wanted syncs takes rest fits =
    let folder_is : new.folder ≡ folder = ap (λ (s : Session). s.folder) rest
    ∙ ap (λ (s : Session). s.folder) middle in
    let there : OnOk taken (TakesTried letters changes answer quits (with_folder folder old) new) =
    subst (λ (m : Session). OnOk taken (TakesTried letters changes answer quits m new)) middle
    takes in
    subst (λ (e : Happening). WritesFolder Has changes quits old new letters e taken before after)
    (sym is) (record {
      sync = tried_sync changes answer marks;
      answers = tried_answers changes answer marks;
      tells = λ empty. subst (λ (p : Bool). Tells Has (standing_over empty old.owner.items p
          old.folder) letters (sync_event changes answer marks) before after) wanted
          (syncs.tells empty);
      arrives = ok_by taken there (tried_arrives Has purges letters changes quits marks old new
          folder before after answer syncs);
      known = subst (λ (f : OpenFolder). IsOpen letters after.told f) (sym folder_is)
          syncs.is_open;
      kind = ap (λ (f : OpenFolder). f.known.kind) folder_is ∙ syncs.kind;
      met = ap (λ (f : OpenFolder). f.met) folder_is ∙ syncs.met;
      checked = ap (λ (f : OpenFolder). f.checked) folder_is ∙ syncs.checked;
      window = ap (λ (s : Session). s.window) rest ∙ ap (λ (s : Session). s.window) middle;
      fits = ok_by taken there (λ h. tried_fits Has purges letters changes quits marks old new
          folder before after answer h fits.can);
      index = ok_by taken there (tried_index Has purges letters changes quits marks old new folder
          before after answer);
    })
