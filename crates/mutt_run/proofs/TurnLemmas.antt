-- What is told and shown behind a key.
use Rattle.std.proofs.Common.{◌≡◌, ◌≤◌, ◌⊎◌, ◌++◌, inl, inr, ℕ, List, [], ◌∷◌, Option, length}
use Rattle.std.proofs.Common.{Result, Ok, Err, refl, sym, ◌∙◌, ap, subst, append_assoc, arith, drop}
use Rattle.std.proofs.Common.{take}
use Rattle.std.proofs.lemmas.List.{append-nil}
use Rattle.std.specs.Io.KnownBytes.{Appends}
use Rattle.mail_base.specs.Faults.{Rose}
use Rattle.mail_base.specs.Series.{Held, plain_texts}
use Rattle.mail_base.specs.Streams.{Sent}
use Rattle.mail_base.proofs.Sending.{appends_none, appends_then}
use Rattle.folder_letters.specs.Letters.{Mail}
use Rattle.session_events.specs.Events.{Happening}
use Rattle.session.specs.Given.{Given, met_of}
use Rattle.session.specs.Runs.{State, after_events, screen_in, shown}
use Rattle.session.specs.Steps.{GoesOn, Stands}
use Rattle.session.proofs.StepsLemmas.{goes_stands}
use Rattle.session_state.specs.declared.stage.Stage.TheVariants.{Idle, Over}
use Rattle.std.specs.Prelude.{IsErrAnd}
use Rattle.session_events.specs.declared.setup.Next.{Next}
use Rattle.mutt_run.specs.Going.{BeginsOut, BreaksOut, GoesOut, GoesSo, Streams, TellsText}
use Rattle.mutt_run.specs.Going.{Turned}
use Rattle.mutt_run.specs.Screens.{printed_lines, screen_text}
use Rattle.mutt_run.specs.declared.status.Status.{Status}
use Rattle.mutt_run.specs.declared.status.Status.TheVariants.{Done, Usage, NotOpened, DiskFault}
use Rattle.mutt_run.specs.declared.status.Status.TheVariants.{KeysFault, OutFault, NoMemory}
use Rattle.mutt_run.specs.declared.status.Status.TheVariants.{Empty}
use Rattle.mutt_run.specs.declared.status.Status.TheVariants.{TooManyKeys}
use Rattle.mutt_run.proofs.ScreensLemmas.{breaks_cut, breaks_unshown, cut_given, goes_over}
use Rattle.mutt_run.proofs.ScreensLemmas.{goes_shown, shown_given}

-- What was told of commands.

lines-append : (xs ys : List (List ℕ))
    → printed_lines (xs ++ ys) ≡ printed_lines xs ++ printed_lines ys
lines-append [] ys = refl
lines-append (x ∷ xs) ys =
    ap (λ (l : List ℕ). x ++ 10 ∷ l) (lines-append xs ys)
    ∙ sym (append_assoc x (10 ∷ printed_lines xs) (printed_lines ys))

pub text_whole : (status : Status) (text : List ℕ) (old new : Streams)
    → Appends old.errs new.errs text → TellsText status text old new
text_whole OutFault text old new told = ([], (text, sym (append-nil text), told), inl refl)
text_whole NoMemory text old new told = ([], (text, sym (append-nil text), told))
text_whole Done text old new told = told
text_whole (Usage word) text old new told = told
text_whole (NotOpened why) text old new told = told
text_whole DiskFault text old new told = told
text_whole KeysFault text old new told = told
text_whole Empty text old new told = told
text_whole TooManyKeys text old new told = told

pub text_cut : (status : Status) (text : List ℕ) (old new : Streams)
    → ((status ≡ OutFault) × Rose old.faults new.faults) ⊎ (status ≡ NoMemory)
    → (rest : List ℕ) × Sent old.errs new.errs text rest → TellsText status text old new
text_cut status text old new (inl is) sent =
    subst (λ (st : Status). TellsText st text old new) (sym is.0) (sent.0, sent.1, inr is.1)
text_cut status text old new (inr is) sent =
    subst (λ (st : Status). TellsText st text old new) (sym is) sent

rose_from : (low mid high : ℕ) → low ≤ mid → Rose mid high → Rose low high
rose_from low mid high before rose =
    elim rose [ inl h ↦ inl (omega (arith, before, h)) | inr h ↦ inr h ]

drop-front : {X : Type 0} (xs ys : List X) → drop (length xs) (xs ++ ys) ≡ ys
drop-front [] ys = refl
drop-front (x ∷ xs) ys = drop-front xs ys

-- a front was told, and then a part of the rest
sent_on : (old mid new : Option (List ℕ)) (front more rest : List ℕ) → Appends old mid front
    → Sent mid new more rest → Sent old new (front ++ more) rest
sent_on old mid new front more rest told sent = (
  front ++ sent.0,
  ap (λ (l : List ℕ). front ++ l) sent.1 ∙ sym (append_assoc front sent.0 rest),
  appends_then old mid new front sent.0 told sent.2,
)

module _ (given : Given) (first : State) (events : List Happening)
    (screens : List (List (List ℕ))) (notes : List (List ℕ))
    (goes : GoesOn given first events screens notes) (start now : Streams)
    (so : GoesSo start now screens notes) where
  all_lines : printed_lines (after_events given first events).notes
      ≡ printed_lines notes ++ printed_lines goes.more
  all_lines = ap printed_lines goes.noted ∙ lines-append notes goes.more

  -- memory ran out
  pub runs_out : BreaksOut given NoMemory first events start now
  runs_out = record {
    breaks = breaks_unshown given first (after_events given first events) events screens
        (goes_stands goes refl) start.out now.out so.sent;
    noted = (
      printed_lines goes.more,
      (printed_lines notes, all_lines, so.noted),
    );
  }

  -- the events lead to a state, whose further lines were told
  module _ (s : State) (is : after_events given first events ≡ s) (told : ℕ)
      (before : told ≡ length notes) where
    stands : Stands given first events s (screens ++ shown given s)
    stands = goes_stands goes is

    more_is : drop told s.notes ≡ goes.more
    more_is =
        ap (λ (n : ℕ). drop n s.notes) before
        ∙ ap (λ (l : List (List ℕ)). drop (length notes) l)
        (sym (ap (λ (t : State). t.notes) is) ∙ goes.noted)
        ∙ drop-front notes goes.more

    lines_are : printed_lines s.notes ≡ printed_lines notes ++ printed_lines (drop told s.notes)
    lines_are =
        ap (λ (t : State). printed_lines t.notes) (sym is) ∙ all_lines
        ∙ ap (λ (l : List (List ℕ)). printed_lines notes ++ printed_lines l) (sym more_is)

    -- they were not told whole
    pub tells_part : (status : Status) (errs : Option (List ℕ)) (faults : ℕ)
        → ((status ≡ OutFault) × Rose now.faults faults) ⊎ (status ≡ NoMemory)
        → (rest : List ℕ) × Sent now.errs errs (printed_lines (drop told s.notes)) rest
        → BreaksOut given status first events start
        (record { out = now.out; errs = errs; faults = faults })
    tells_part status errs faults which sent = record {
      breaks = breaks_unshown given first s events screens stands start.out now.out so.sent;
      noted = text_cut status (printed_lines (after_events given first events).notes) start
          (record { out = now.out; errs = errs; faults = faults })
          (elim which [
            | inl h ↦ inl (h.0, rose_from start.faults now.faults faults so.later h.1)
            | inr h ↦ inr h
          ]) (
            sent.0,
            subst (λ (l : List ℕ). Sent start.errs errs l sent.0)
                (sym (ap (λ (t : State). printed_lines t.notes) is ∙ lines_are))
                (sent_on start.errs now.errs errs (printed_lines notes)
                (printed_lines (drop told s.notes)) sent.0 so.noted sent.1),
          );
    }

    -- they were
    module _ (errs : Option (List ℕ)) (faults : ℕ)
        (sent : Appends now.errs errs (printed_lines (drop told s.notes)))
        (later : now.faults ≤ faults) where
      noted : Appends start.errs errs (printed_lines s.notes)
      noted = subst (λ (l : List ℕ). Appends start.errs errs l) (sym lines_are)
          (appends_then start.errs now.errs errs (printed_lines notes)
          (printed_lines (drop told s.notes)) so.noted sent)

      no_less : start.faults ≤ faults
      no_less = omega (arith, later, so.later)

      pub tells_over : s.turn.stage ≡ Over → GoesOut given first events s start
          (record { out = now.out; errs = errs; faults = faults })
      tells_over over = record {
        goes = goes_over given first s events screens stands start.out now.out so.sent over;
        noted = noted;
        later = no_less;
      }

      module _ {mails : List Mail} (same : (met_of s.met given).mails ≡ mails)
          (out : Option (List ℕ))
          (idle : s.turn.stage ≡ Idle) where
        pub tells_shown : Appends now.out out (screen_text (screen_in mails s))
            → GoesOut given first events s start
            (record { out = out; errs = errs; faults = faults })
        tells_shown more = record {
          goes = goes_shown given first s events screens stands start.out now.out so.sent out idle
              (shown_given given mails s now.out out same more);
          noted = noted;
          later = no_less;
        }

        pub tells_cut : (status : Status) → (rest : List ℕ)
            × Sent now.out out (screen_text (screen_in mails s)) rest
            → BreaksOut given status first events start
            (record { out = out; errs = errs; faults = faults })
        tells_cut status cut = record {
          breaks = breaks_cut given first s events screens stands start.out now.out so.sent out
              idle (cut_given given mails s now.out out same cut);
          noted = text_whole status (printed_lines (after_events given first events).notes) start
              (record { out = out; errs = errs; faults = faults })
              (subst (λ (t : State). Appends start.errs errs (printed_lines t.notes)) (sym is)
              noted);
        }

-- the letters that were met are the first of those that are given
pub met_letters : (given : Given) (mails : List Mail) (met : ℕ) → met ≡ length mails
    → take (length mails) given.mails ≡ mails → (met_of met given).mails ≡ mails
met_letters given mails met is first = ap (λ (n : ℕ). take n given.mails) is ∙ first

-- What a run has come to so far.

pub goes_so : {given : Given} {first s : State} {events : List Happening} {old new : Streams}
    (goes : GoesOut given first events s old new) → GoesSo old new goes.goes.screens s.notes
goes_so goes = record { sent = goes.goes.sent; noted = goes.noted; later = goes.later }

-- a check tells no line
pub so_still : {old new : Streams} {screens : List (List (List ℕ))} {notes later : Held (Held ℕ)}
    → later ≡ notes → GoesSo old new screens (plain_texts notes)
    → GoesSo old new screens (plain_texts later)
so_still {old} {new} {screens} same goes =
    subst (λ (n : Held (Held ℕ)). GoesSo old new screens (plain_texts n)) (sym same) goes

pub begins_so : {given : Given} {first s : State} {events : List Happening} {old new : Streams}
    → BeginsOut given first events s old new → GoesSo old new [] s.notes
begins_so {given} {first} {s} {events} {old} {new} begins = record {
  sent = subst (λ (o : Option (List ℕ)). Appends old.out o []) (sym begins.unprinted)
      (appends_none old.out);
  noted = begins.noted;
  later = begins.later;
}

-- a call that failed so
pub turned_off : {given : Given} {first : State} {events : List Happening} {old new : Streams}
    (s : State) (result : Result Next Status) (status : Status)
    → IsErrAnd result (λ e. e ≡ status) → BreaksOut given status first events old new
    → Turned given result first events s old new
turned_off s (Ok next) status is breaks = absurd is
turned_off {given} {first} {events} {old} {new} s (Err e) status is breaks =
    subst (λ (st : Status). BreaksOut given st first events old new) (sym is) breaks
