-- How what the events say of the disk goes on by one event.
use Rattle.std.proofs.Common.{◌≡◌, ◌≤◌, ℕ, ℤ, List, [], ◌∷◌, ◌++◌, Option, Some, None, IfSome}
use Rattle.std.proofs.Common.{length}
use Rattle.std.proofs.Common.{take, refl, sym, ◌∙◌, ap, subst, arith, append_assoc}
use Rattle.std.proofs.Math.Seq.{take-length, take-append_seam}
use Rattle.std.proofs.lemmas.List.{append-nil, take-append-le}
use Rattle.mail_base.specs.declared.kind.Kind.{Kind}
use Rattle.disk_model.specs.Journal.{Past, Entry}
use Rattle.disk_model.specs.Judge.{GoesOn, Grows, IsLonger}
use Rattle.disk_model.specs.Looking.{LooksOnly}
use Rattle.disk_model.specs.Seen.{Seen}
use Rattle.disk_model.specs.Tree.{TreeNode}
use Rattle.disk_model.proofs.Looking.{grows_same, grows_then, looks_same, looks_then}
use Rattle.folder_letters.specs.Letters.{Mail}
use Rattle.keymap.specs.declared.key.Key.{Key}
use Rattle.session_events.specs.declared.event.Marks.{Marks}
use Rattle.session_events.specs.Events.{AreFiles, Happening, FileRead, FileRefused, IsFile}
use Rattle.session_events.specs.Events.{KeyPressed}
use Rattle.session_events.specs.Happened.{AllCounted, Counts, Happened, IsCounted, Standing}
use Rattle.session.specs.Telling.{AllHappened}
use Rattle.session_events.specs.Happened.{IsTrueAt, counts_after, counts_at, counts_of, marks_of}
use Rattle.session.specs.Telling.{TouchesAt, standing_of}
use Rattle.session_events.specs.Happened.{HasCause, past_at}
use Rattle.session.specs.Given.{Given}
use Rattle.session.specs.Runs.{State, after, after_events}
use Rattle.session_events.specs.Telling.{HasFileCause, Tells, TellsFile, Touches}
use Rattle.session_events.proofs.TouchLemmas.{touch_grows}
use Rattle.session.specs.Steps.{ReadsFiles, TellsEach}
use Rattle.session.specs.Telling.{IsTold, Witnessed}

-- Pasts at marks.

abbrev past : List TreeNode → List Entry → Past
past first journal = record { first = first; journal = journal }

past_stays : (mid new : Past) (mark : ℕ) → IsLonger mid new → mark ≤ length mid.journal
    → past_at new mark ≡ past_at mid mark
past_stays mid new mark looked low =
    ap (λ (f : List TreeNode). past f (take mark new.journal)) looked.same_first
    ∙ ap (λ (l : List Entry). past mid.first (take mark l)) looked.journal
    ∙ ap (past mid.first) (take-append-le mark mid.journal looked.more low)

past_seam : (mid new : Past) → IsLonger mid new → past_at new (length mid.journal) ≡ mid
past_seam mid new looked =
    ap (λ (f : List TreeNode). past f (take (length mid.journal) new.journal)) looked.same_first
    ∙ ap (λ (l : List Entry). past mid.first (take (length mid.journal) l)) looked.journal
    ∙ ap (past mid.first) (take-append_seam mid.journal looked.more)

past_end : (new : Past) → past_at new (length new.journal) ≡ new
past_end new = ap (past new.first) (take-length new.journal)

at-append : (counts : Counts) (events : List Happening) (event : Happening)
    → counts_at counts (events ++ event ∷ [])
    ≡ counts_after (counts_at counts events) (marks_of event)
at-append counts [] event = refl
at-append counts (e ∷ events) event =
    at-append (counts_after counts (marks_of e)) events event

module _ (Has : Kind → Type 0) where
  -- Marks only rise.

  rises : (counts : Counts) (event : Happening) (marks : Option Marks)
      → IsCounted Has counts event marks → counts.mark ≤ (counts_after counts marks).mark
  rises counts event None h = omega arith
  rises counts event (Some marks) h = omega (arith, h.mark, h.on)

  rises_all : (counts : Counts) (events : List Happening) → AllCounted Has counts events
      → counts.mark ≤ (counts_at counts events).mark
  rises_all counts [] h = omega arith
  rises_all counts (event ∷ events) h =
      omega (
        arith,
        rises counts event (marks_of event) h.0,
        rises_all (counts_after counts (marks_of event)) events h.1,
      )

  counted-append : (counts : Counts) (events : List Happening) (event : Happening)
      → AllCounted Has counts events
      → IsCounted Has (counts_at counts events) event (marks_of event)
      → AllCounted Has counts (events ++ event ∷ [])
  counted-append counts [] event h k = (k, tt)
  counted-append counts (e ∷ events) event h k =
      (h.0, counted-append (counts_after counts (marks_of e)) events event h.1 k)

  module _ (given : Given) where
    -- What was true stays true.

    true_stays : (mid new : Past) (stood : Standing) (counts : Counts) (event : Happening)
        (marks : Option Marks) → IsCounted Has counts event marks
        → (counts_after counts marks).mark ≤ length mid.journal → IsLonger mid new
        → IsTrueAt Has stood given.mails event marks mid
        → IsTrueAt Has stood given.mails event marks new
    true_stays mid new stood counts event None counted low looked h = tt
    true_stays mid new stood counts event (Some marks) counted low looked h =
        let before : marks.mark_before ≤ length mid.journal = omega (arith, counted.on, low) in
        subst (λ (p : Past). Happened Has stood given.mails event p (past_at new marks.mark_after))
        (sym (past_stays mid new marks.mark_before looked before))
        (subst (λ (p : Past).
        Happened Has stood given.mails event (past_at mid marks.mark_before) p)
        (sym (past_stays mid new marks.mark_after looked low)) h)

    touches_stays : (mid new : Past) (stood : Standing) (counts : Counts) (event : Happening)
        (marks : Option Marks) → IsCounted Has counts event marks
        → (counts_after counts marks).mark ≤ length mid.journal → IsLonger mid new
        → TouchesAt stood event marks mid → TouchesAt stood event marks new
    touches_stays mid new stood counts event None counted low looked h = tt
    touches_stays mid new stood counts event (Some marks) counted low looked h =
        let before : marks.mark_before ≤ length mid.journal = omega (arith, counted.on, low) in
        subst (λ (p : Past). Touches stood event (Some p) (Some (past_at new marks.mark_after)))
        (sym (past_stays mid new marks.mark_before looked before))
        (subst (λ (p : Past).
        Touches stood event (Some (past_at mid marks.mark_before)) (Some p))
        (sym (past_stays mid new marks.mark_after looked low)) h)

    all_stays : (mid new : Past) (s : State) (counts : Counts) (events : List Happening)
        → AllCounted Has counts events → (counts_at counts events).mark ≤ length mid.journal
        → IsLonger mid new → AllHappened Has given s events mid
        → AllHappened Has given s events new
    all_stays mid new s counts [] counted low looked h = tt
    all_stays mid new s counts (event ∷ events) counted low looked h =
        let next : Counts = counts_after counts (marks_of event) in
        let first : next.mark ≤ length mid.journal =
        omega (arith, rises_all (counts_after counts (marks_of event)) events counted.1, low) in (
          true_stays mid new (standing_of s) counts event (marks_of event) counted.0 first looked
              h.0,
          touches_stays mid new (standing_of s) counts event (marks_of event) counted.0 first
              looked h.1,
          all_stays mid new (after given s event) (counts_after counts (marks_of event)) events
              counted.1 low looked h.2,
        )

    happened-append : (s t : State) (events : List Happening) (event : Happening) (new : Past)
        → after_events given s events ≡ t → AllHappened Has given s events new
        → IsTrueAt Has (standing_of t) given.mails event (marks_of event) new
        → TouchesAt (standing_of t) event (marks_of event) new
        → AllHappened Has given s (events ++ event ∷ []) new
    happened-append s t [] event new at h k touched = (
      subst (λ (u : State). IsTrueAt Has (standing_of u) given.mails event (marks_of event) new)
          (sym at) k,
      subst (λ (u : State). TouchesAt (standing_of u) event (marks_of event) new) (sym at) touched,
      tt,
    )
    happened-append s t (e ∷ events) event new at h k touched =
        (h.0, h.1, happened-append (after given s e) t events event new at h.2 k touched)

    true_now : (stood : Standing) (event : Happening) (mid new : Past) (marks : Marks)
        (at : Option Marks) → at ≡ Some marks → marks.mark_before ≡ length mid.journal
        → marks.mark_after ≡ length new.journal → IsLonger mid new
        → Happened Has stood given.mails event mid new → IsTrueAt Has stood given.mails event at new
    true_now stood event mid new marks at is before after looked h =
        subst (λ (o : Option Marks). IsTrueAt Has stood given.mails event o new) (sym is)
        (subst (λ (p : Past). Happened Has stood given.mails event p (past_at new marks.mark_after))
        (sym (ap (past_at new) before ∙ past_seam mid new looked))
        (subst (λ (p : Past). Happened Has stood given.mails event mid p)
        (sym (ap (past_at new) after ∙ past_end new)) h))

    touched_now : (stood : Standing) (event : Happening) (mid new : Past) (marks : Marks)
        (at : Option Marks) → at ≡ Some marks → marks.mark_before ≡ length mid.journal
        → marks.mark_after ≡ length new.journal → IsLonger mid new
        → Touches stood event (Some mid) (Some new) → TouchesAt stood event at new
    touched_now stood event mid new marks at is before after looked h =
        subst (λ (o : Option Marks). TouchesAt stood event o new) (sym is)
        (subst (λ (p : Past). Touches stood event (Some p) (Some (past_at new marks.mark_after)))
        (sym (ap (past_at new) before ∙ past_seam mid new looked))
        (subst (λ (p : Past). Touches stood event (Some mid) (Some p))
        (sym (ap (past_at new) after ∙ past_end new)) h))

    told_push : (s t : State) (events : List Happening) (event : Happening) (counts : Counts)
        (marks : Marks) (low high : ℕ) (first mid new : Option Past)
        → after_events given s events ≡ t
        → IsTold Has given s events first mid
        → AllCounted Has counts events → (counts_at counts events).mark ≡ low
        → marks_of event ≡ Some marks → marks.mark_before ≡ low → marks.mark_after ≡ high
        → IfSome mid (λ p. low ≡ length p.journal) → IfSome new (λ p. high ≡ length p.journal)
        → GoesOn (Happened Has (standing_of t) given.mails event) mid new → Grows mid new
        → Touches (standing_of t) event mid new
        → IsTold Has given s (events ++ event ∷ []) first new
    told_push s t events event counts marks low high None mid new here told counted at is before
        after lows highs h grows touched = grows_then None mid new told grows
    told_push s t events event counts marks low high (Some f) None new here told counted at is
        before after lows highs h grows touched = absurd told
    told_push s t events event counts marks low high (Some f) (Some m) None here told counted at is
        before after lows highs h grows touched = absurd grows
    told_push s t events event counts marks low high (Some f) (Some m) (Some n) here told counted at
        is before after lows highs h grows touched = (
          grows_then (Some f) (Some m) (Some n) told.0 grows,
          happened-append s t events event n here
              (all_stays m n s counts events counted (omega (arith, at, lows)) grows told.1)
              (true_now (standing_of t) event m n marks (marks_of event) is (before ∙ lows)
              (after ∙ highs) grows h)
              (touched_now (standing_of t) event m n marks (marks_of event) is (before ∙ lows)
              (after ∙ highs) grows touched),
        )

    begins : (stood : Standing) (counts : Counts) (event : Happening) (mid new : Seen)
        (tells : Tells Has stood given.mails event mid new) → counts ≡ counts_of mid
        → IsCounted Has counts event (marks_of event)
    begins stood counts event mid new tells at =
        subst (λ (o : Option Marks). IsCounted Has counts event o) (sym tells.marked) (record {
          mark = sym (ap (λ (c : Counts). c.mark) (at ∙ tells.before));
          faults = sym (ap (λ (c : Counts). c.faults) (at ∙ tells.before));
          on = omega (
            arith,
            tells.on,
            ap (λ (c : Counts). c.mark) tells.before,
            ap (λ (c : Counts). c.mark) tells.after,
          );
          faults_on = omega (
            arith,
            tells.faults,
            ap (λ (c : Counts). c.faults) tells.before,
            ap (λ (c : Counts). c.faults) tells.after,
          );
          cause = tells.cause;
        })

    -- an event that tells of the device
    pub witnessed_push : (s t : State) (events : List Happening) (event : Happening)
        (first mid new : Seen) → after_events given s events ≡ t
        → Tells Has (standing_of t) given.mails event mid new
        → Witnessed Has given s events first mid
        → Witnessed Has given s (events ++ event ∷ []) first new
    witnessed_push s t events event first mid new here tells h = record {
      told = told_push s t events event (counts_of first) tells.marks mid.marks new.marks
          first.told mid.told new.told here h.told h.counted (ap (λ (c : Counts). c.mark) h.at)
          tells.marked (sym (ap (λ (c : Counts). c.mark) tells.before))
          (sym (ap (λ (c : Counts). c.mark) tells.after)) tells.first tells.last tells.happened
          (touch_grows (standing_of t) event mid.told new.told tells.touches) tells.touches;
      counted = counted-append (counts_of first) events event h.counted
          (begins (standing_of t) (counts_at (counts_of first) events) event mid new tells h.at);
      at = at-append (counts_of first) events event
          ∙ ap (counts_after (counts_at (counts_of first) events)) tells.marked ∙ sym tells.after;
    }

    key_told : (s : State) (events : List Happening) (key : Key) (moment : ℤ)
        (first now : Option Past) → IsTold Has given s events first now
        → IsTold Has given s (events ++ KeyPressed key moment ∷ []) first now
    key_told s events key moment None now h = h
    key_told s events key moment (Some f) None h = absurd h
    key_told s events key moment (Some f) (Some n) h = (
      h.0,
      happened-append s (after_events given s events) events (KeyPressed key moment) n refl h.1
          tt tt,
    )

    -- a key
    pub witnessed_key : (s : State) (events : List Happening) (key : Key) (moment : ℤ)
        (first now : Seen) → Witnessed Has given s events first now
        → Witnessed Has given s (events ++ KeyPressed key moment ∷ []) first now
    witnessed_key s events key moment first now h = record {
      told = key_told s events key moment first.told now.told h.told;
      counted = counted-append (counts_of first) events (KeyPressed key moment) h.counted tt;
      at = at-append (counts_of first) events (KeyPressed key moment) ∙ h.at;
    }

    none_told : (s : State) (told : Option Past) → IsTold Has given s [] told told
    none_told s None = refl
    none_told s (Some past) = (grows_same (Some past), tt)

    -- no event
    pub witnessed_none : (s : State) (now : Seen) → Witnessed Has given s [] now now
    witnessed_none s now = record { told = none_told s now.told; counted = tt; at = refl }

    -- an event of a file tells of the device
    pub tells_file : (stood : Standing) (event : Happening) (old new : Seen)
        → TellsFile event old new
        → Tells Has stood given.mails event old new
    tells_file stood (FileRead path text kept) old new h = record {
      marks = h.marks;
      marked = h.marked;
      before = h.before;
      after = h.after;
      on = h.on;
      faults = h.faults;
      cause = tt;
      happened = h.happened;
      touches = h.looks;
      first = h.first;
      last = h.last;
    }
    tells_file stood (FileRefused path why kept) old new h = record {
      marks = h.marks;
      marked = h.marked;
      before = h.before;
      after = h.after;
      on = h.on;
      faults = h.faults;
      cause = h.cause;
      happened = h.happened;
      touches = h.looks;
      first = h.first;
      last = h.last;
    }
    tells_file stood _ old new h = absurd h.cause

    -- events of files tell of it one after the other
    pub witnessed_each : (s : State) (events files : List Happening) (first now next : Seen)
        → TellsEach files now next → Witnessed Has given s events first now
        → Witnessed Has given s (events ++ files) first next
    witnessed_each s events [] first now next each h =
        subst (λ (l : List Happening). Witnessed Has given s l first next)
        (sym (append-nil events))
        (subst (λ (n : Seen). Witnessed Has given s events first n) (sym each) h)
    witnessed_each s events (event ∷ files) first now next each h =
        subst (λ (l : List Happening). Witnessed Has given s l first next)
        (append_assoc events (event ∷ []) files)
        (witnessed_each s (events ++ event ∷ []) files first each.0 next each.2
        (witnessed_push s (after_events given s events) events event first now each.0 refl
        (tells_file (standing_of (after_events given s events)) event now each.0 each.1) h))

-- the event of a file is one
pub file_is : (event : Happening) (marks : Marks) → HasFileCause event marks → IsFile event
file_is (FileRead path text kept) marks h = tt
file_is (FileRefused path why kept) marks h = tt
file_is _ marks h = absurd h

pub files_append : (events : List Happening) (event : Happening) → AreFiles events → IsFile event
    → AreFiles (events ++ event ∷ [])
files_append [] event h k = (k, tt)
files_append (e ∷ events) event h k = (h.0, files_append events event h.1 k)

-- Events of files, one after the other.

pub each_are : (files : List Happening) (old new : Seen) → TellsEach files old new → AreFiles files
each_are [] old new each = tt
each_are (event ∷ files) old new each =
    (file_is event each.1.marks each.1.cause, each_are files each.0 new each.2)

pub each_faults : (files : List Happening) (old new : Seen) → TellsEach files old new
    → old.faults ≤ new.faults
each_faults [] old new each = omega (arith, ap (λ (s : Seen). s.faults) each)
each_faults (event ∷ files) old new each =
    omega (arith, each.1.faults, each_faults files each.0 new each.2)

-- the device only looked in them
pub each_looks : (files : List Happening) (old new : Seen) → TellsEach files old new
    → LooksOnly old.told new.told
each_looks [] old new each =
    subst (λ (s : Seen). LooksOnly old.told s.told) (sym each) (looks_same old.told)
each_looks (event ∷ files) old new each = looks_then old.told each.0.told new.told each.1.looks
    (each_looks files each.0 new each.2)

pub files_looks : (events events' : List Happening) (old new : Seen)
    → ReadsFiles events events' old new → LooksOnly old.told new.told
files_looks events events' old new reads = each_looks reads.files old new reads.each

each_then : (files more : List Happening) (old mid new : Seen) → TellsEach files old mid
    → TellsEach more mid new → TellsEach (files ++ more) old new
each_then [] more old mid new first next =
    subst (λ (s : Seen). TellsEach more s new) first next
each_then (event ∷ files) more old mid new first next =
    (first.0, first.1, each_then files more first.0 mid new first.2 next)

pub reads_none : (events events' : List Happening) (old new : Seen) → events' ≡ events → new ≡ old
    → ReadsFiles events events' old new
reads_none events events' old new same still =
    record { files = []; added = same ∙ sym (append-nil events); each = still }

pub reads_then : (a b c : List Happening) (old mid new : Seen) → ReadsFiles a b old mid
    → ReadsFiles b c mid new → ReadsFiles a c old new
reads_then a b c old mid new first next = record {
  files = first.files ++ next.files;
  added = next.added ∙ ap (λ (l : List Happening). l ++ next.files) first.added
      ∙ append_assoc a first.files next.files;
  each = each_then first.files next.files old mid new first.each next.each;
}

pub files_more : (events files : List Happening) → AreFiles events → AreFiles files
    → AreFiles (events ++ files)
files_more [] files are more = more
files_more (event ∷ events) files are more = (are.0, files_more events files are.1 more)

-- Files of commands need no driver.
module _ (Has Other : Kind → Type 0) where
  file_cause : (event : Happening) (marks : Marks) → IsFile event → HasCause Has event marks
      → HasCause Other event marks
  file_cause (FileRead path text kept) marks is h = tt
  file_cause (FileRefused path why kept) marks is h = h
  file_cause _ marks is h = absurd is

  file_counted : (counts : Counts) (event : Happening) (at : Option Marks) → IsFile event
      → IsCounted Has counts event at → IsCounted Other counts event at
  file_counted counts event None is h = tt
  file_counted counts event (Some marks) is h = record {
    mark = h.mark;
    faults = h.faults;
    on = h.on;
    faults_on = h.faults_on;
    cause = file_cause event marks is h.cause;
  }

  files_counted : (counts : Counts) (events : List Happening) → AreFiles events
      → AllCounted Has counts events → AllCounted Other counts events
  files_counted counts [] are h = tt
  files_counted counts (event ∷ events) are h = (
    file_counted counts event (marks_of event) are.0 h.0,
    files_counted (counts_after counts (marks_of event)) events are.1 h.1,
  )

  file_true : (stood : Standing) (archive : List Mail) (event : Happening) (at : Option Marks)
      (past : Past) → IsFile event → IsTrueAt Has stood archive event at past
      → IsTrueAt Other stood archive event at past
  file_true stood archive event None past is h = tt
  file_true stood archive (FileRead path text kept) (Some marks) past is h = h
  file_true stood archive (FileRefused path why kept) (Some marks) past is h = h
  file_true stood archive _ (Some marks) past is h = absurd is

  files_true : (given : Given) (s : State) (events : List Happening) (past : Past)
      → AreFiles events → AllHappened Has given s events past
      → AllHappened Other given s events past
  files_true given s [] past are h = tt
  files_true given s (event ∷ events) past are h = (
    file_true (standing_of s) given.mails event (marks_of event) past are.0 h.0,
    h.1,
    files_true given (after given s event) events past are.1 h.2,
  )

  files_told : (given : Given) (s : State) (events : List Happening)
      (first now : Option Past) → AreFiles events → IsTold Has given s events first now
      → IsTold Other given s events first now
  files_told given s events None now are h = h
  files_told given s events (Some first) None are h = absurd h
  files_told given s events (Some first) (Some now) are h =
      (h.0, files_true given s events now are h.1)

  pub witnessed_files : (given : Given) (s : State) (events : List Happening)
      (first now : Seen) → AreFiles events → Witnessed Has given s events first now
      → Witnessed Other given s events first now
  witnessed_files given s events first now are h = record {
    told = files_told given s events first.told now.told are h.told;
    counted = files_counted (counts_of first) events are h.counted;
    at = h.at;
  }
