-- Behind keys that acted a further key is wanted, or a file, or the run is over.
use Rattle.std.proofs.Common.{◌≡◌, ◌+◌, ◌-◌, ℕ, zero, suc, List, [], ◌∷◌, ◌++◌, Option, Some, None}
use Rattle.std.proofs.Common.{refl}
use Rattle.keymap.specs.Bindings.{Begun, Bound, Found, Replace, Run, Unbound}
use Rattle.keymap.specs.Keymap.{found_in}
use Rattle.keymap.specs.Press.{called}
use Rattle.keymap.specs.declared.function.Function.{Function}
use Rattle.keymap.specs.declared.key.Key.{Key}
use Rattle.keymap.specs.declared.press.Press.{Press}
use Rattle.keymap.specs.declared.press.Press.TheVariants as press
use Rattle.prompts.specs.Prompts.{PlainPrompt}
use Rattle.session_index.specs.Desk.{PlainWanted, ToEnd, ToSync}
use Rattle.keymap.specs.Queue.{most_replacements}
use Rattle.session_state.specs.Frames.{PlainFrame}
use Rattle.session_state.specs.declared.stage.Stage.{Stage}
use Rattle.session_state.specs.declared.stage.Stage.TheVariants.{Idle}
use Rattle.session_state.specs.declared.stage.Stage.TheVariants.{Opening, Over, Reading, Syncing}
use Rattle.session.specs.Acting.{acted, prompted}
use Rattle.session.specs.Core.{CoreState, Ground, shown_menu}
use Rattle.session.specs.Keys.{TurnState, drop_all, keys_by, put_or, run_keys, stage_after}
use Rattle.session.specs.Keys.{stage_wanted, step}
use Rattle.session.specs.Keys.{once_read, read_first, run_on, step_at, stop_by, stopped, with_begun}
use Rattle.session.specs.Keys.{with_put}
use Rattle.session.specs.Steps.{IsDone, IsNext, IsSettled, next_of}

-- the turn has settled
abbrev HasSettled : TurnState → Type 0
HasSettled turn = IsSettled turn.stage turn.core.frames

-- where no file is wished a key is wanted, or the run is over
pub next_is : (stage : Stage) (frames : List PlainFrame) → IsSettled stage frames
    → IsDone stage frames → IsNext (next_of stage) stage
next_is Idle frames h none = refl
next_is Opening frames h none = absurd (h none)
next_is Reading frames h none = absurd (h none)
next_is Over frames h none = refl
next_is (Syncing purge quits) frames h none = absurd none
next_is _ frames h none = absurd h

module _ (g : Ground) where
  module _ (replaced : ℕ) (keys : List Key) (rest : CoreState → TurnState)
      (goes : (c : CoreState) → HasSettled (rest c)) where
    first_settles : (frames : List PlainFrame) (c : CoreState) → c.frames ≡ frames
        → HasSettled (read_first frames replaced keys rest c)
    first_settles [] c is = goes c
    first_settles (frame ∷ frames) c is = λ none. absurd (cc)

    read_settles : (c : CoreState) → HasSettled (once_read replaced keys rest c)
    read_settles c = first_settles c.frames c refl

    wanted_settles : (wanted : PlainWanted) (c : CoreState)
        → HasSettled (stop_by (stage_wanted wanted) replaced keys (once_read replaced keys rest) c)
    wanted_settles ToEnd c = tt
    wanted_settles (ToSync purge quits) c = tt
    wanted_settles _ c = read_settles c

    stop_settles : (answer : Press) (wanted : PlainWanted) (c : CoreState)
        → HasSettled (stop_by (stage_after answer wanted) replaced keys
        (once_read replaced keys rest) c)
    stop_settles press.Wait wanted c = tt
    stop_settles press.Loop wanted c = tt
    stop_settles press.Unbound wanted c = wanted_settles wanted c
    stop_settles (press.Function function) wanted c = wanted_settles wanted c

    answer_settles : (answer : Press) (c : CoreState)
        → HasSettled (stop_by (stage_after answer (acted g answer c).desk.wanted) replaced keys
        (once_read replaced keys rest) (acted g answer c))
    answer_settles answer c =
        stop_settles answer (acted g answer c).desk.wanted (acted g answer c)

    step_settles : (again : List Key → CoreState → TurnState)
        → ((more : List Key) (c : CoreState) → HasSettled (again more c))
        → (begun : List Key) (function : Option Function) (found : Found) (c : CoreState)
        → HasSettled (step g replaced again keys rest begun function found c)
    step_settles again loops begun (Some function) found c =
        answer_settles (press.Function function) (with_begun [] c)
    step_settles again loops begun None (Bound (Run function)) c =
        answer_settles (press.Function function) (with_begun [] c)
    step_settles again loops begun None (Bound (Replace text)) c =
        loops (text ++ keys) (with_begun [] c)
    step_settles again loops begun None Begun c = goes (with_begun begun c)
    step_settles again loops begun None Unbound c = answer_settles press.Unbound (with_begun [] c)

    at_settles : (again : List Key → CoreState → TurnState)
        → ((more : List Key) (c : CoreState) → HasSettled (again more c))
        → (key : Key) (prompt : Option PlainPrompt) (c : CoreState)
        → HasSettled (step_at g replaced again key keys rest prompt c)
    at_settles again loops key (Some prompt) c =
        wanted_settles (prompted g key c).desk.wanted (prompted g key c)
    at_settles again loops key None c =
        step_settles again loops (c.rules.keymap.begun ++ key ∷ []) (called key)
        (found_in c.rules.keymap (shown_menu c) (c.rules.keymap.begun ++ key ∷ [])) c

  put_settles : (again : List Key → CoreState → TurnState)
      → ((more : List Key) (c : CoreState) → HasSettled (again more c))
      → (texts : List (List Key)) (keys : List Key) (rest : CoreState → TurnState)
      → ((c : CoreState) → HasSettled (rest c)) → (c : CoreState)
      → HasSettled (put_or texts again keys rest c)
  put_settles again loops [] keys rest goes c = goes c
  put_settles again loops (text ∷ texts) keys rest goes c =
      loops (text ++ keys) (with_put texts c)

  keys_settle : (replaced : ℕ) (again : List Key → CoreState → TurnState)
      → ((more : List Key) (c : CoreState) → HasSettled (again more c))
      → (keys : List Key) (c : CoreState) → HasSettled (keys_by g replaced again keys c)
  keys_settle replaced again loops [] c =
      put_settles again loops c.rules.put [] (stopped Idle replaced []) (λ d. tt) c
  keys_settle replaced again loops (key ∷ keys) c =
      put_settles again loops c.rules.put (key ∷ keys)
      (step_at g replaced again key keys (keys_by g replaced again keys) c.desk.prompt)
      (λ d. at_settles replaced keys (keys_by g replaced again keys)
      (λ e. keys_settle replaced again loops keys e) again loops key c.desk.prompt d) c

  run_settles : (left replaced : ℕ) (keys : List Key) (c : CoreState)
      → HasSettled (run_keys g left replaced keys c)
  unfolding run_keys
  run_settles zero replaced keys c =
      keys_settle replaced (drop_all g replaced) (λ more d. tt) keys c
  run_settles (suc left) replaced keys c =
      keys_settle replaced (run_keys g left (replaced + 1))
      (λ more d. run_settles left (replaced + 1) more d) keys c

  -- the keys of a turn have acted
  pub turn_settles : (turn : TurnState) → HasSettled (run_on g turn)
  turn_settles turn =
      run_settles (most_replacements - turn.replaced) turn.replaced turn.queue turn.core
