-- A whole run, put together of what was done.
use Rattle.std.proofs.Common.{◌≡◌, ℕ, ℤ, List, [], ◌∷◌, ◌++◌, Option}
use Rattle.std.proofs.Common.{refl, sym, ◌∙◌, ap, subst, append_assoc}
use Rattle.std.proofs.lemmas.List.{append-nil}
use Rattle.mail_base.specs.declared.kind.Kind.{Kind}
use Rattle.mail_base.proofs.Sending.{appends_none}
use Rattle.disk_model.specs.Seen.{Seen}
use Rattle.mutt_words.specs.Options.{PlainOptions}
use Rattle.session.specs.Beginning.{AreOpening, BeginsRun}
use Rattle.session_events.specs.Events.{AreFiles, Happening, FileRead, FileRefused}
use Rattle.session_events.specs.Events.{FolderOpened, FolderRefused}
use Rattle.session.specs.Given.{Given}
use Rattle.session.specs.Runs.{State, after, after_events, screens_from, shown}
use Rattle.session.specs.Runs.{stage_screens}
use Rattle.session.specs.Steps.{Stands}
use Rattle.session.proofs.StepsLemmas.{after_unopened, files_unopened}
use Rattle.session_state.specs.declared.stage.Stage.{Stage}
use Rattle.session_state.specs.declared.stage.Stage.TheVariants.{Unopened}
use Rattle.mutt_run.specs.Choice.{first_of}
use Rattle.mutt_run.specs.Going.{AreActs, Breaks}
use Rattle.mutt_run.specs.Taken.{IsStart, pressed_keys, pressed_moments}
use Rattle.mutt_run.proofs.ScreensLemmas.{breaks_unshown}

-- Files of commands and an opening, and keys behind them.

files_keys : (files rest : List Happening) → AreFiles files
    → pressed_keys (files ++ rest) ≡ pressed_keys rest
files_keys [] rest are = refl
files_keys (FileRead path text marks ∷ files) rest are = files_keys files rest are.1
files_keys (FileRefused path why marks ∷ files) rest are = files_keys files rest are.1
files_keys (_ ∷ files) rest are = absurd are.0

files_moments : (files rest : List Happening) → AreFiles files
    → pressed_moments (files ++ rest) ≡ pressed_moments rest
files_moments [] rest are = refl
files_moments (FileRead path text marks ∷ files) rest are = files_moments files rest are.1
files_moments (FileRefused path why marks ∷ files) rest are = files_moments files rest are.1
files_moments (_ ∷ files) rest are = absurd are.0

files_start : (start : ℤ) (files rest : List Happening) → AreFiles files → IsStart start rest
    → IsStart start (files ++ rest)
files_start start [] rest are h = h
files_start start (FileRead path text marks ∷ files) rest are h =
    files_start start files rest are.1 h
files_start start (FileRefused path why marks ∷ files) rest are h =
    files_start start files rest are.1 h
files_start start (_ ∷ files) rest are h = absurd are.0

acts_start : (start : ℤ) (keys : List Happening) → AreActs keys → IsStart start keys
acts_start start [] are = tt
acts_start start (FolderOpened path kind moment came marks ∷ keys) are = absurd are
acts_start start (FolderRefused path why marks ∷ keys) are = absurd are
acts_start start (_ ∷ keys) are = acts_start start keys are

opening_keys : (start : ℤ) (opening rest : List Happening)
    → AreOpening start opening → pressed_keys (opening ++ rest) ≡ pressed_keys rest
opening_keys start [] rest opens = refl
opening_keys start (FolderOpened path kind moment came marks ∷ []) rest opens = refl
opening_keys start (FolderRefused path why marks ∷ []) rest opens = refl
opening_keys start (_ ∷ []) rest opens = absurd opens
opening_keys start (event ∷ next ∷ opening) rest opens = absurd opens

opening_moments : (start : ℤ) (opening rest : List Happening)
    → AreOpening start opening → pressed_moments (opening ++ rest) ≡ pressed_moments rest
opening_moments start [] rest opens = refl
opening_moments start (FolderOpened path kind moment came marks ∷ []) rest opens = refl
opening_moments start (FolderRefused path why marks ∷ []) rest opens = refl
opening_moments start (_ ∷ []) rest opens = absurd opens
opening_moments start (event ∷ next ∷ opening) rest opens = absurd opens

opening_start : (start : ℤ) (opening rest : List Happening)
    → AreOpening start opening → IsStart start rest → IsStart start (opening ++ rest)
opening_start start [] rest opens h = h
opening_start start (FolderOpened path kind moment came marks ∷ []) rest opens h =
    (opens, h)
opening_start start (FolderRefused path why marks ∷ []) rest opens h = h
opening_start start (_ ∷ []) rest opens h = absurd opens
opening_start start (event ∷ next ∷ opening) rest opens h = absurd opens

pub after-append : (given : Given) (s : State) (xs ys : List Happening)
    → after_events given s (xs ++ ys) ≡ after_events given (after_events given s xs) ys
after-append given s [] ys = refl
after-append given s (x ∷ xs) ys = after-append given (after given s x) xs ys

-- files of commands show no screen before a folder is open
unshown : (given : Given) (s : State) → s.turn.stage ≡ Unopened → shown given s ≡ []
unshown given s stage = ap (λ (t : Stage). stage_screens given t s) stage

files_screens : (given : Given) (s : State) (files rest : List Happening) → AreFiles files
    → s.turn.stage ≡ Unopened
    → screens_from given s (files ++ rest) ≡ screens_from given (after_events given s files) rest
files_screens given s [] rest are stage = refl
files_screens given s (event ∷ files) rest are stage =
    let next : State = after given s event in
    let here : next.turn.stage ≡ Unopened = after_unopened given s event are.0 stage in
    ap (λ (l : List (List (List ℕ))). l ++ screens_from given next (files ++ rest))
    (unshown given next here) ∙ files_screens given next files rest are.1 here

opening_screens : (given : Given) (s : State) (start : ℤ) (opening : List Happening)
    → AreOpening start opening → s.turn.stage ≡ Unopened
    → screens_from given s opening ≡ shown given (after_events given s opening)
opening_screens given s start [] opens stage = sym (unshown given s stage)
opening_screens given s start (event ∷ []) opens stage =
    append-nil (shown given (after given s event))
opening_screens given s start (event ∷ next ∷ opening) opens stage = absurd opens

-- What begins a run.
module _ (Has : Kind → Type 0) (given : Given) (o : PlainOptions) (start : ℤ)
    (opening events : List Happening) (old new : Seen)
    (begins : BeginsRun Has given (first_of o start) start opening events old new) where
  begun_stands : Stands given (first_of o start) events
      (after_events given (first_of o start) events)
      ([] ++ shown given (after_events given (first_of o start) events))
  begun_stands = record {
    run = begins.run;
    state_is = refl;
    screens_are = subst (λ (l : List Happening). screens_from given (first_of o start) l
        ≡ shown given (after_events given (first_of o start) l)) (sym begins.events_are)
        (files_screens given (first_of o start) begins.files opening begins.are_files refl
        ∙ opening_screens given (after_events given (first_of o start) begins.files) start opening
        begins.opens (files_unopened given (first_of o start) begins.files begins.are_files refl)
        ∙ ap (shown given) (sym (after-append given (first_of o start) begins.files opening)));
  }

  -- nothing was printed yet
  pub begun_breaks : (out : Option (List ℕ)) → Breaks given (first_of o start) events out out
  begun_breaks out =
      breaks_unshown given (first_of o start) (after_events given (first_of o start) events) events
      []
      begun_stands out out (appends_none out)

  module _ (more later : List Happening) (are_acts : AreActs more) (is : later ≡ events ++ more)
    where
      all_is : later ≡ begins.files ++ (opening ++ more)
      all_is = is ∙ ap (λ (l : List Happening). l ++ more) begins.events_are
          ∙ append_assoc begins.files opening more

      pub all_keys : pressed_keys later ≡ pressed_keys more
      all_keys = ap pressed_keys all_is ∙ files_keys begins.files (opening ++ more) begins.are_files
          ∙ opening_keys start opening more begins.opens

      pub all_moments : pressed_moments later ≡ pressed_moments more
      all_moments = ap pressed_moments all_is
          ∙ files_moments begins.files (opening ++ more) begins.are_files
          ∙ opening_moments start opening more begins.opens

      pub all_start : IsStart start later
      all_start = subst (IsStart start) (sym all_is)
          (files_start start begins.files (opening ++ more) begins.are_files
          (opening_start start opening more begins.opens
          (acts_start start more are_acts)))
