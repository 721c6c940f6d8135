-- Hooks that count for a message, and what their commands leave.
use Rattle.std.proofs.Common.{◌≡◌, ◌∙◌, ◌++◌, ◌∷◌, [], ℕ, Bool, true, false, List, ap, append_assoc}
use Rattle.std.proofs.Common.{length, map, refl, None, Option, Some, ℤ}
use Rattle.std.specs.Prelude.{filter, if◌then◌else◌}
use Rattle.folder_letters.specs.Letters.{Mail}
use Rattle.hooks.specs.Hooks.{PlainPatternHook}
use Rattle.mail_base.specs.Series.{Held}
use Rattle.mail_base.specs.declared.kind.Id.{Id}
use Rattle.people.specs.Judged.{PlainJudged}
use Rattle.rc_lang.specs.Settings.{plain_names}
use Rattle.session_index.specs.Desk.{PlainDesk}
use Rattle.session_pager.specs.Reader.{PlainReader, with_awaited}
use Rattle.session_screen.specs.declared.window.Window.{Window}
use Rattle.session_state.specs.Frames.{PlainFrame}
use Rattle.session_state.specs.declared.instant.Instant.{Instant}
use Rattle.session.specs.Answers.{caught_up}
use Rattle.session.specs.Core.{CoreState, ground_of, instant_of, with_reader}
use Rattle.session.specs.Reading.{refreshed}
use Rattle.session.specs.Showing.{commands_in, displayed, displaying, displaying_behind}
use Rattle.session.specs.Showing.{hook_counts, hooked, once_hooked, resumed, resumed_by, texts_run}

-- where there are commands, all is done that stands behind them
pub hooks_ran : (verdicts : List PlainJudged) (time : Instant) (mails : List Mail)
    (window : Window) (names : List (Held ℕ)) (c : CoreState) → (length names ≡ 0 → ⊥)
    → refreshed mails window (caught_up mails (texts_run verdicts time (plain_names names) c))
    ≡ hooked verdicts time mails window (plain_names names) c
hooks_ran verdicts time mails window [] c some = absurd (some refl)
hooks_ran verdicts time mails window (name ∷ names) c some = refl

-- a message waits where a file is to be read
pub kept_waiting : (mails : List Mail) (id : Id) (frames : List PlainFrame) (c : CoreState)
    → (frames ≡ [] → ⊥)
    → with_reader (with_awaited (Some id) c.reader) c ≡ displaying_behind mails id frames c
kept_waiting mails id [] c some = absurd (some refl)
kept_waiting mails id (frame ∷ frames) c some = refl

-- a message is displayed where the hooks that count for it have run at its moment
pub displayed_by : (verdicts : List PlainJudged) (mails : List Mail) (window : Window)
    (moment : ℤ) (id : Id) (time : Instant) (texts : List (List ℕ)) (c : CoreState)
    → time ≡ instant_of window moment
    → texts ≡ commands_in verdicts time mails id c.desk c.rules.hooks.messages
    → once_hooked mails id (hooked verdicts time mails window texts c)
    ≡ displayed (ground_of mails verdicts window moment) id c
displayed_by verdicts mails window moment id time texts c at given =
    ap (λ (l : List (List ℕ)). once_hooked mails id (hooked verdicts time mails window l c)) given
    ∙ ap (λ (t : Instant). once_hooked mails id (hooked verdicts t mails window
    (commands_in verdicts t mails id c.desk c.rules.hooks.messages) c)) at

-- the message is shown that waited, and waits no more
pub resumed_shown : (mails : List Mail) (id : Id) (c : CoreState) (r : PlainReader)
    → r ≡ with_awaited None c.reader → Some id ≡ c.reader.awaited
    → displaying mails id (with_reader r c) ≡ resumed mails c
resumed_shown mails id c r taken waits =
    ap (λ (s : PlainReader). displaying mails id (with_reader s c)) taken
    ∙ ap (λ (o : Option Id). resumed_by mails o c) waits

module _ (verdicts : List PlainJudged) (time : Instant) (mails : List Mail) (id : Id)
    (d : PlainDesk) (texts : List (List ℕ)) (hook : PlainPatternHook)
    (hooks : List PlainPatternHook) where
  -- the commands of all by the test of the first
  abbrev by_test : Bool → List (List ℕ)
  by_test counts = texts ++ map (λ h. h.command) (if counts
      then hook ∷ filter (hook_counts verdicts time mails id d) hooks
      else filter (hook_counts verdicts time mails id d) hooks)

  -- a hook that counts adds its command
  pub commands_more : true ≡ hook_counts verdicts time mails id d hook
      → (texts ++ hook.command ∷ []) ++ commands_in verdicts time mails id d hooks
      ≡ texts ++ commands_in verdicts time mails id d (hook ∷ hooks)
  commands_more is = append_assoc texts (hook.command ∷ [])
      (commands_in verdicts time mails id d hooks) ∙ ap by_test is

  -- one that does not count adds none
  pub commands_same : false ≡ hook_counts verdicts time mails id d hook
      → texts ++ commands_in verdicts time mails id d hooks
      ≡ texts ++ commands_in verdicts time mails id d (hook ∷ hooks)
  commands_same is = ap by_test is
