-- How screens are printed, key by key.
use Rattle.std.proofs.Common.{◌≡◌, ◌≤◌, ◌⊎◌, inl, inr, ℕ, List, [], ◌∷◌, ◌++◌, Option, length}
use Rattle.std.proofs.Common.{map}
use Rattle.std.proofs.Common.{refl, sym, ◌∙◌, ap, subst, append_assoc, arith, length-append}
use Rattle.std.proofs.lemmas.List.{append-nil, map-append}
use Rattle.std.proofs.lemmas.List.Folds.{concat-append}
use Rattle.std.specs.Io.KnownBytes.{Appends}
use Rattle.std.specs.List.{concat}
use Rattle.mail_base.specs.Streams.{Sent}
use Rattle.mail_base.proofs.Sending.{appends_then}
use Rattle.folder_letters.specs.Letters.{Mail}
use Rattle.session_events.specs.Events.{Happening}
use Rattle.session.specs.Given.{Given, met_of}
use Rattle.session.specs.Runs.{State, after_events, screen_in, screens_from, shown}
use Rattle.session.specs.Runs.{stage_screens}
use Rattle.session.specs.Steps.{Stands}
use Rattle.session_state.specs.declared.stage.Stage.{Stage}
use Rattle.session_state.specs.declared.stage.Stage.TheVariants.{Idle}
use Rattle.session_state.specs.declared.stage.Stage.TheVariants.{Checking, Over, Reading, Syncing}
use Rattle.mutt_run.specs.Going.{Breaks, BreaksOut, Ended, Goes, GoesOut, IsUnshown, Streams}
use Rattle.mutt_run.specs.Printed.{last_length}
use Rattle.mutt_run.specs.Screens.{printed_lines, screen_text}
use Rattle.mutt_run.specs.declared.status.Status.{Status}
use Rattle.mutt_run.specs.declared.status.Status.TheVariants.{OutFault, NoMemory}

pub last-append : (xs : List (List ℕ)) (x : List ℕ) → last_length (xs ++ x ∷ []) ≡ length x
last-append [] x = refl
last-append (y ∷ []) x = refl
last-append (y ∷ z ∷ xs) x = last-append (z ∷ xs) x

abbrev texts : List (List (List ℕ)) → List (List ℕ)
texts screens = map screen_text screens

texts-append : (xs ys : List (List (List ℕ)))
    → concat (texts (xs ++ ys)) ≡ concat (texts xs) ++ concat (texts ys)
texts-append xs ys =
    ap concat (map-append screen_text xs ys) ∙ concat-append (texts xs) (texts ys)

-- The letters of a screen are those that were met.
module _ (given : Given) (mails : List Mail) (s : State) (old new : Option (List ℕ))
    (same : (met_of s.met given).mails ≡ mails) where
  pub shown_given : Appends old new (screen_text (screen_in mails s))
      → Appends old new (screen_text (screen_in (met_of s.met given).mails s))
  shown_given more =
      subst (λ (a : List Mail). Appends old new (screen_text (screen_in a s)))
      (sym same) more

  pub cut_given : (rest : List ℕ) × Sent old new (screen_text (screen_in mails s)) rest
      → (rest : List ℕ) × Sent old new (screen_text (screen_in (met_of s.met given).mails s)) rest
  cut_given cut =
      subst (λ (a : List Mail). (rest : List ℕ)
      × Sent old new (screen_text (screen_in a s)) rest) (sym same) cut

module _ (given : Given) (first s : State) (events : List Happening)
    (screens : List (List (List ℕ))) (stands : Stands given first events s
    (screens ++ shown given s)) where
  all_are : (stage : Stage) → s.turn.stage ≡ stage
      → screens_from given first events ≡ screens ++ stage_screens given stage s
  all_are stage is =
      stands.screens_are ∙ ap (λ (t : Stage). screens ++ stage_screens given t s) is

  stage_is : (stage : Stage) → s.turn.stage ≡ stage
      → (after_events given first events).turn.stage ≡ stage
  stage_is stage is = ap (λ (t : State). t.turn.stage) stands.state_is ∙ is

  module _ (old mid : Option (List ℕ)) (sent : Appends old mid (concat (texts screens))) where
    -- without a further screen
    none_more : (stage : Stage) → s.turn.stage ≡ stage → stage_screens given stage s ≡ []
        → Appends old mid (concat (texts (screens_from given first events)))
    none_more stage is none = subst (λ (l : List (List (List ℕ))). Appends old mid (concat (texts
        l)))
        (sym (all_are stage is ∙ ap (λ (l : List (List (List ℕ))). screens ++ l) none
        ∙ append-nil screens)) sent

    -- a key ended the run
    pub goes_over : s.turn.stage ≡ Over → Goes given first events s old mid
    goes_over over = record {
      screens = screens;
      stands = subst (λ (l : List (List (List ℕ))). Stands given first events s l)
          (ap (λ (t : Stage). screens ++ stage_screens given t s) over ∙ append-nil screens)
          stands;
      sent = sent;
    }

    -- memory ran out before the screen
    short_by : (stage : Stage) → s.turn.stage ≡ stage
        → length (concat (texts (stage_screens given stage s)))
        ≤ last_length (texts (screens_from given first events))
    short_by Idle is =
        let here : List (List ℕ) = screen_in (met_of s.met given).mails s in
        omega (
          arith,
          ap (λ (l : List (List (List ℕ))). last_length (texts l)) (all_are Idle is)
              ∙ ap last_length (map-append screen_text screens (here ∷ []))
              ∙ last-append (texts screens) (screen_text here),
          ap length (append-nil (screen_text here)),
        )
    short_by _ is = omega arith

    none_shown : (stage : Stage) → s.turn.stage ≡ stage → IsUnshown stage
        → Appends old mid (concat (texts (screens_from given first events)))
    none_shown Over is unshown = none_more Over is refl
    none_shown Reading is unshown = none_more Reading is refl
    none_shown (Syncing purge quits) is unshown = none_more (Syncing purge quits) is refl
    none_shown (Checking leaves) is unshown = none_more (Checking leaves) is refl
    none_shown _ is unshown = absurd unshown

    pub breaks_unshown : Breaks given first events old mid
    breaks_unshown = record {
      run = stands.run;
      prints = record {
        rest = concat (texts (shown given s));
        sent = (
          concat (texts screens),
          ap (λ (l : List (List (List ℕ))). concat (texts l)) stands.screens_are
              ∙ texts-append screens (shown given s),
          sent,
        );
        short = short_by s.turn.stage refl;
      };
      whole = λ unshown. none_shown s.turn.stage refl
          (subst (λ (t : State). IsUnshown t.turn.stage) stands.state_is unshown);
    }

    -- the screen was printed, whole or not
    module _ (new : Option (List ℕ)) (idle : s.turn.stage ≡ Idle) where
      here : List ℕ
      here = screen_text (screen_in (met_of s.met given).mails s)

      all_here : concat (texts (screens_from given first events)) ≡ concat (texts screens) ++ here
      unfolding here
      all_here =
          ap (λ (l : List (List (List ℕ))). concat (texts l)) (all_are Idle idle)
          ∙ texts-append screens (screen_in (met_of s.met given).mails s ∷ [])
          ∙ ap (λ (l : List ℕ). concat (texts screens) ++ l) (append-nil here)

      pub goes_shown : Appends mid new (screen_text (screen_in (met_of s.met given).mails s))
          → Goes given first events s old new
      unfolding here
      goes_shown more = record {
        screens = screens ++ shown given s;
        stands = stands;
        sent = subst (λ (l : List ℕ). Appends old new l)
            (sym (ap (λ (l : List (List (List ℕ))). concat (texts l)) (sym stands.screens_are)
            ∙ all_here))
            (appends_then old mid new (concat (texts screens)) here sent more);
      }

      pub breaks_cut : (rest : List ℕ)
          × Sent mid new (screen_text (screen_in (met_of s.met given).mails s)) rest
          → Breaks given first events old new
      unfolding here
      breaks_cut cut = record {
        run = stands.run;
        prints = record {
          rest = cut.0;
          sent = (
            concat (texts screens) ++ cut.1.0,
            all_here ∙ ap (λ (l : List ℕ). concat (texts screens) ++ l) cut.1.1
                ∙ sym (append_assoc (concat (texts screens)) cut.1.0 cut.0),
            appends_then old mid new (concat (texts screens)) cut.1.0 sent cut.1.2,
          );
          short = omega (
            arith,
            ap (λ (l : List (List (List ℕ))). last_length (texts l)) (all_are Idle idle)
                ∙ ap last_length
                (map-append screen_text screens
                (screen_in (met_of s.met given).mails s ∷ []))
                ∙ last-append (texts screens) here,
            ap length cut.1.1,
            length-append cut.1.0 cut.0,
          );
        };
        whole = λ unshown. absurd (subst IsUnshown (stage_is Idle idle) unshown);
      }

-- and breaks off
goes_broken : {given : Given} {first s : State} {events : List Happening}
    {old new : Option (List ℕ)} → Goes given first events s old new
    → Breaks given first events old new
goes_broken {given} {first} {s} {events} {old} {new} goes = record {
  run = goes.stands.run;
  prints = record {
    rest = [];
    sent = (
      concat (texts (screens_from given first events)),
      sym (append-nil (concat (texts (screens_from given first events)))),
      sent,
    );
    short = omega arith;
  };
  whole = λ unshown. sent;
}
  where
    sent : Appends old new (concat (texts (screens_from given first events)))
    sent = subst (λ (l : List (List (List ℕ))). Appends old new (concat (texts l)))
        (sym goes.stands.screens_are) goes.sent

-- a run goes on by nothing
pub out_same : {given : Given} {first s : State} {events events' : List Happening}
    {old new : Streams} → events' ≡ events → GoesOut given first events s old new
    → GoesOut given first events' s old new
out_same {given} {first} {s} {events} {events'} {old} {new} same goes =
    subst (λ (l : List Happening). GoesOut given first l s old new) (sym same) goes

-- memory runs out before a key
pub out_broken : {given : Given} {first s : State} {events events' : List Happening}
    {old new : Streams} → events' ≡ events → GoesOut given first events s old new
    → BreaksOut given NoMemory first events' old new
out_broken {given} {first} {s} {events} {events'} {old} {new} same goes =
    subst (λ (l : List Happening). BreaksOut given NoMemory first l old new) (sym same) (record {
      breaks = goes_broken goes.goes;
      noted = (
        [],
        (
          printed_lines (after_events given first events).notes,
          sym (append-nil (printed_lines (after_events given first events).notes)),
          subst (λ (t : State). Appends old.errs new.errs (printed_lines t.notes))
              (sym goes.goes.stands.state_is) goes.noted,
        ),
      );
    })

pub ended_broken : {given : Given} {first : State} {events : List Happening}
    {old new : Streams} (s : State) (status : Status)
    → (status ≡ OutFault) ⊎ (status ≡ NoMemory)
    → BreaksOut given status first events old new → Ended given status first events s old new
ended_broken {given} {first} {events} {old} {new} s status (inl is) breaks =
    subst (λ (st : Status). Ended given st first events s old new) (sym is)
    (subst (λ (st : Status). BreaksOut given st first events old new) is breaks)
ended_broken {given} {first} {events} {old} {new} s status (inr is) breaks =
    subst (λ (st : Status). Ended given st first events s old new) (sym is)
    (subst (λ (st : Status). BreaksOut given st first events old new) is breaks)
