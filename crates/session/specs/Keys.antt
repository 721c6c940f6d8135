-- Keys that wait act one after the other; a macro's text stands in place of its keys, and what
-- commands put stands before those that wait.
use Rattle.std.specs.Prelude.{◌≡◌, ◌+◌, ◌-◌, ◌*◌, ◌^◌, ℕ, zero, suc, List, [], ◌∷◌, ◌++◌, Option}
use Rattle.std.specs.Prelude.{◌≢◌, Some, None, length, MatchOption}
use Rattle.keymap.specs.Bindings.{Begun, Bound, Found, Replace, Run, Unbound}
use Rattle.keymap.specs.Keymap.{found_in}
use Rattle.keymap.specs.Press.{called}
use Rattle.keymap.specs.Queue.{PlainQueue, most_replacements}
use Rattle.keymap.specs.declared.function.Function.{Function}
use Rattle.keymap.specs.declared.key.Key.{Key}
use Rattle.keymap.specs.declared.press.Press.{Press}
use Rattle.keymap.specs.declared.press.Press.TheVariants as press
use Rattle.prompts.specs.Prompts.{PlainPrompt}
use Rattle.session_index.specs.Desk.{PlainWanted, ToEnd}
use Rattle.session_index.specs.Desk.{ToSync}
use Rattle.session.specs.Acting.{acted, prompted}
use Rattle.session.specs.Answers.{granted}
use Rattle.session.specs.Core.{CoreState, Ground, shown_menu}
use Rattle.session_state.specs.Frames.{PlainFrame}
use Rattle.session_state.specs.declared.stage.Stage.{Stage}
use Rattle.session_state.specs.declared.stage.Stage.TheVariants.{Idle, Over, Reading}
use Rattle.session_state.specs.declared.stage.Stage.TheVariants.{Syncing}

-- what keys act on, the keys that wait, how many replacements were made, and what is wanted next
pub record TurnState : Type 0 where
  pub core : CoreState
  pub queue : List Key
  pub replaced : ℕ
  pub stage : Stage

-- these keys begin a bound sequence
abbrev pub with_begun : List Key → CoreState → CoreState
with_begun begun c = record c {
  rules = record c.rules { keymap = record c.rules.keymap { begun = begun } };
}

-- no key acts any more
abbrev pub stopped : Stage → ℕ → List Key → CoreState → TurnState
stopped stage replaced keys c =
    record { core = granted c; queue = keys; replaced = replaced; stage = stage }

-- where keys stop behind an answer: none waits any more, or something is wanted
abbrev pub stage_wanted : PlainWanted → Option Stage
stage_wanted ToEnd = Some Over
stage_wanted (ToSync purge quits) = Some (Syncing purge quits)
stage_wanted _ = None

-- the stage to which an answer of keys leads, if they do not go on
abbrev pub stage_after : Press → PlainWanted → Option Stage
stage_after press.Wait wanted = Some Idle
stage_after press.Loop wanted = Some Idle
stage_after press.Unbound wanted = stage_wanted wanted
stage_after (press.Function function) wanted = stage_wanted wanted

-- the keys stop at a stage, or go on
abbrev pub stop_by : Option Stage → ℕ → List Key → (CoreState → TurnState) → CoreState → TurnState
stop_by None replaced keys rest c = rest c
stop_by (Some stage) replaced keys rest c = stopped stage replaced keys c

-- the keys wait while files are read that commands have named
abbrev pub read_first : List PlainFrame → ℕ → List Key → (CoreState → TurnState) → CoreState
    → TurnState
read_first [] replaced keys rest c = rest c
read_first (frame ∷ frames) replaced keys rest c = stopped Reading replaced keys c

-- the keys behind what was done: a file that commands have named is read first
abbrev pub once_read : ℕ → List Key → (CoreState → TurnState) → CoreState → TurnState
once_read replaced keys rest c = read_first c.frames replaced keys rest c

-- an answer is acted on, and then these keys act, unless it stops them
abbrev pub behind : Ground → Press → ℕ → List Key → (CoreState → TurnState) → CoreState → TurnState
behind g answer replaced keys rest c =
    stop_by (stage_after answer (acted g answer c).desk.wanted) replaced keys
    (once_read replaced keys rest) (acted g answer c)

-- the first key where no prompt stands: it calls a function, ends a bound sequence, goes on with
-- one, or is bound to nothing
abbrev pub step : Ground → ℕ → (List Key → CoreState → TurnState) → List Key
    → (CoreState → TurnState) → List Key → Option Function → Found → CoreState → TurnState
step g replaced again keys rest begun (Some function) found c =
    behind g (press.Function function) replaced keys rest (with_begun [] c)
step g replaced again keys rest begun None (Bound (Run function)) c =
    behind g (press.Function function) replaced keys rest (with_begun [] c)
step g replaced again keys rest begun None (Bound (Replace text)) c =
    again (text ++ keys) (with_begun [] c)
step g replaced again keys rest begun None Begun c = rest (with_begun begun c)
step g replaced again keys rest begun None Unbound c =
    behind g press.Unbound replaced keys rest (with_begun [] c)

-- these keys act behind a prompt's answer, unless that stops them
abbrev pub behind_prompt : ℕ → List Key → (CoreState → TurnState) → CoreState → TurnState
behind_prompt replaced keys rest c = stop_by (stage_wanted c.desk.wanted) replaced keys
    (once_read replaced keys rest) c

-- the first key: a prompt that stands takes it
abbrev pub step_at : Ground → ℕ → (List Key → CoreState → TurnState) → Key → List Key
    → (CoreState → TurnState) → Option PlainPrompt → CoreState → TurnState
step_at g replaced again key keys rest (Some prompt) c =
    behind_prompt replaced keys rest (prompted g key c)
step_at g replaced again key keys rest None c =
    step g replaced again keys rest (c.rules.keymap.begun ++ key ∷ []) (called key)
    (found_in c.rules.keymap (shown_menu c) (c.rules.keymap.begun ++ key ∷ [])) c

-- these keys that commands have put are left
abbrev pub with_put : List (List Key) → CoreState → CoreState
with_put left c = record c { rules = record c.rules { put = left } }

-- keys that a command has put stand before the others, as one replacement
abbrev pub put_or : List (List Key) → (List Key → CoreState → TurnState) → List Key
    → (CoreState → TurnState) → CoreState → TurnState
put_or [] again keys rest c = rest c
put_or (text ∷ left) again keys rest c = again (text ++ keys) (with_put left c)

-- these keys act, where `again` is what comes after a replacement
abbrev pub keys_by : Ground → ℕ → (List Key → CoreState → TurnState) → List Key → CoreState
    → TurnState
keys_by g replaced again [] c = put_or c.rules.put again [] (stopped Idle replaced []) c
keys_by g replaced again (key ∷ keys) c = put_or c.rules.put again (key ∷ keys)
    (step_at g replaced again key keys (keys_by g replaced again keys) c.desk.prompt) c

-- one replacement too many: all that waits is dropped
abbrev pub drop_all : Ground → ℕ → List Key → CoreState → TurnState
drop_all g replaced keys c = stopped Idle replaced [] (acted g press.Loop (with_put [] c))

-- these keys act, with so many replacements left and so many made
unfoldable pub run_keys : Ground → ℕ → ℕ → List Key → CoreState → TurnState
run_keys g zero replaced keys c = keys_by g replaced (drop_all g replaced) keys c
run_keys g (suc left) replaced keys c =
    keys_by g replaced (run_keys g left (replaced + 1)) keys c

-- the keys that wait act
abbrev pub run_on : Ground → TurnState → TurnState
run_on g turn =
    run_keys g (most_replacements - turn.replaced) turn.replaced turn.queue turn.core

-- the keys of a queue act
abbrev pub settled : Ground → CoreState → PlainQueue → TurnState
settled g c queue =
    run_keys g (most_replacements - queue.replaced) queue.replaced queue.items c

-- a turn of keys at a stage, with these that wait
abbrev pub turn_of : Stage → CoreState → PlainQueue → TurnState
turn_of stage c queue =
    record { core = c; queue = queue.items; replaced = queue.replaced; stage = stage }

-- For the code alone.

-- a key acted: the keys go on, or they stop
abbrev pub Steps : Option Stage → Ground → CoreState → CoreState → PlainQueue → PlainQueue → Type 0
Steps None g old new queue queue' = settled g new queue' ≡ settled g old queue
Steps (Some stage) g old new queue queue' = turn_of stage new queue' ≡ settled g old queue

-- the keys stop at a stage, wait for a file, or go on
abbrev pub Stops : Option Stage → Option Stage → CoreState → CoreState → Type 0
Stops (Some stage) stopped old new = (stopped ≡ Some stage) × (new ≡ granted old)
Stops None stopped old new = MatchOption stopped ((new ≡ old) × (old.frames ≡ []))
    (λ stage. (stage ≡ Reading) × (old.frames ≢ []) × (new ≡ granted old))

-- what is left to be done with a queue
abbrev pub fuel : PlainQueue → ℕ
fuel queue = (most_replacements - queue.replaced) * 2 ^ 64 + length queue.items
