-- What waiting keys do in a menu.
use Rattle.std.specs.Prelude.{◌+◌, ◌-◌, ◌≡◌, ℕ, zero, suc, List, [], ◌∷◌, ◌++◌, Option, Some, None}
use Rattle.keymap.specs.Bindings.{Begun, Bound, Found, Replace, Run, Unbound}
use Rattle.keymap.specs.Keymap.{PlainKeymap, found_in}
use Rattle.keymap.specs.Queue.{PlainQueue, most_replacements}
use Rattle.keymap.specs.Walk.{waiting_on}
use Rattle.keymap.specs.declared.function.Function.{Function}
use Rattle.keymap.specs.declared.key.Key.{Key}
use Rattle.keymap.specs.declared.key.Key.TheVariants.{Call}
use Rattle.keymap.specs.declared.menu.Menu.{Menu}
use Rattle.keymap.specs.declared.press.Press.{Press}
use Rattle.keymap.specs.declared.press.Press.TheVariants as press
use Rattle.keymap.specs.declared.press.Reached.{Reached as ReachedKeys}
use Rattle.keymap.specs.declared.press.Reached.TheVariants as reached_keys
use Rattle.keymap.specs.declared.walk.Walk.{Walk}

-- the function that a key calls
abbrev pub called : Key → Option Function
called (Call function) = Some function
called _ = None

-- what waiting keys come to: an answer, with the begun sequence and the keys that still wait then,
-- or the text of a
-- macro in place of the keys that were taken
pub data Reached : Type 0 where
  Answered : Press → List Key → List Key → Reached
  Replaced : List Key → List Key → Reached

-- what ends a sequence of keys: an answer, or a macro with its text
pub data Ended : Type 0 where
  Answer : Press → Ended
  Text : List Key → Ended

-- an equal sequence runs, the beginning of one goes on, anything else is unbound
abbrev pub answer_of : Found → Option Ended
answer_of (Bound (Run function)) = Some (Answer (press.Function function))
answer_of (Bound (Replace text)) = Some (Text text)
answer_of Begun = None
answer_of Unbound = Some (Answer press.Unbound)

-- what ends keys with these behind them, where something does
abbrev pub ended_by : Option Ended → List Key → Reached → Reached
ended_by (Some (Answer press)) rest further = Answered press [] rest
ended_by (Some (Text text)) rest further = Replaced text rest
ended_by None rest further = further

-- a called function runs at once, and a begun sequence before it is dropped
abbrev pub reached_by : Option Function → Found → List Key → Reached → Reached
reached_by (Some function) found rest further = Answered (press.Function function) [] rest
reached_by None found rest further = ended_by (answer_of found) rest further

-- what the waiting keys come to behind a begun sequence
abbrev pub reached : PlainKeymap → Menu → List Key → List Key → Reached
reached map menu begun [] = Answered press.Wait begun []
reached map menu begun (key ∷ rest) =
    reached_by (called key) (found_in map menu (begun ++ key ∷ [])) rest
    (reached map menu (begun ++ key ∷ []) rest)

-- the answer to a press, with what is begun, what waits and how many replacements were made then
pub record Pressed : Type 0 where
  pub press : Press
  pub begun : List Key
  pub waiting : List Key
  pub replaced : ℕ

-- a further replacement where so many were made is a loop, and drops all keys
abbrev pub last_answer : ℕ → Reached → Pressed
last_answer replaced (Answered press begun waiting) =
    record { press = press; begun = begun; waiting = waiting; replaced = replaced }
last_answer replaced (Replaced text waiting) =
    record { press = press.Loop; begun = []; waiting = []; replaced = replaced }

-- a macro's text stands before the keys that wait
abbrev pub next_answer : ℕ → Reached → (List Key → Pressed) → Pressed
next_answer replaced (Answered press begun waiting) further =
    record { press = press; begun = begun; waiting = waiting; replaced = replaced }
next_answer replaced (Replaced text waiting) further = further (text ++ waiting)

-- the answer where so many replacements are left, and so many were made
abbrev pub pressed : PlainKeymap → Menu → ℕ → ℕ → List Key → List Key → Pressed
pressed map menu zero replaced begun waiting =
    last_answer replaced (reached map menu begun waiting)
pressed map menu (suc left) replaced begun waiting =
    next_answer replaced (reached map menu begun waiting)
    (λ keys. pressed map menu left (replaced + 1) [] keys)

-- the answer to the keys of a queue
abbrev pub pressed_queue : PlainKeymap → Menu → PlainQueue → Pressed
pressed_queue map menu queue =
    pressed map menu (most_replacements - queue.replaced) queue.replaced map.begun queue.items

-- what a press answers and leaves
pub record Presses (press : Press) (menu : Menu) (map map' : PlainKeymap)
    (queue queue' : PlainQueue) : Type 0 where
  pub outcome : record {
    press = press;
    begun = map'.begun;
    waiting = queue'.items;
    replaced = queue'.replaced;
  }
      ≡ pressed_queue map menu queue
  pub bindings : map' ≡ record map { begun = map'.begun }

-- For the code alone.

-- what keys came to, behind a walk over a queue
abbrev pub plain_reached : ReachedKeys → Walk → PlainQueue → Reached
plain_reached (reached_keys.Answer press) walk queue = Answered press walk.begun.items
    (waiting_on walk queue)
plain_reached (reached_keys.Text text) walk queue = Replaced text.now.items (waiting_on walk queue)

-- an answer behind a walk over a queue
abbrev pub pressed_on : Press → Walk → PlainQueue → Pressed
pressed_on press walk queue = record {
  press = press;
  begun = walk.begun.items;
  waiting = waiting_on walk queue;
  replaced = walk.ahead.replaced;
}

-- what ended a sequence, as contracts see it
abbrev pub plain_answer : ReachedKeys → Ended
plain_answer (reached_keys.Answer press) = Answer press
plain_answer (reached_keys.Text text) = Text text.now.items
