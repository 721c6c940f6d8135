-- Sequences of keys and what they are bound to.
use Rattle.std.specs.Prelude.{◌&&◌, ℕ, Bool, true, false, List, [], ◌∷◌, Option, Some, None}
use Rattle.std.specs.Prelude.{length, take}
use Rattle.std.specs.Prelude.{find, nat_lt, option_map, if◌then◌else◌, Vec}
use Rattle.std.specs.declared.alloc.Global.{Global}
use Rattle.std.specs.List.{list_any}
use Rattle.keymap.specs.Keys.{same_keys}
use Rattle.keymap.specs.declared.bindings.Action.{Action}
use Rattle.keymap.specs.declared.bindings.Action.TheVariants as action
use Rattle.keymap.specs.declared.bindings.Found.{Found as FoundKeys}
use Rattle.keymap.specs.declared.bindings.Found.TheVariants as found_keys
use Rattle.keymap.specs.declared.function.Function.{Function}
use Rattle.keymap.specs.declared.key.Key.{Key}

-- what keys do: they run a function, or are replaced by the text of a macro
pub data PlainAction : Type 0 where
  Run : Function → PlainAction
  Replace : List Key → PlainAction

-- what keys do, without the room of a text
abbrev pub plain_action : Action → PlainAction
plain_action (action.Run function) = Run function
plain_action (action.Replace text) = Replace text.items

-- a sequence of keys, and what it is bound to
pub record Binding : Type 0 where
  pub keys : List Key
  pub action : PlainAction

-- a sequence that is bound to this
abbrev pub binding : List Key → PlainAction → Binding
binding keys action = record { keys = keys; action = action }

-- the bindings with these keys bound anew: where they were bound, in that place
abbrev pub bound : List Binding → List Key → PlainAction → List Binding
bound [] keys action = binding keys action ∷ []
bound (b ∷ bindings) keys action =
    if same_keys keys b.keys then binding b.keys action ∷ bindings else b ∷ bound bindings keys
    action

-- what the keys are bound to
abbrev pub action_of : List Binding → List Key → Option PlainAction
action_of bindings keys = option_map (λ b. b.action) (find (λ b. same_keys keys b.keys) bindings)

-- the whole begins with the keys and goes on
abbrev pub is_front : List Key → List Key → Bool
is_front keys whole = nat_lt (length keys) (length whole) && same_keys keys (take
    (length keys) whole)

-- some bound sequence begins with the keys and goes on
abbrev pub is_begun : List Binding → List Key → Bool
is_begun bindings keys = list_any (λ b. is_front keys b.keys) bindings

-- what keys are among bindings: bound, the beginning of a bound sequence, or neither
pub data Found : Type 0 where
  Bound : PlainAction → Found
  Begun : Found
  Unbound : Found

-- what keys are, by what they are bound to and whether a sequence begins with them
abbrev pub found_by : Option PlainAction → Bool → Found
found_by (Some action) begun = Bound action
found_by None true = Begun
found_by None false = Unbound

-- an equal sequence counts before a longer one
abbrev pub found : List Binding → List Key → Found
found bindings keys = found_by (action_of bindings keys) (is_begun bindings keys)

-- what was found, as contracts see it
abbrev pub plain_found : FoundKeys → Found
plain_found (found_keys.Bound action) = Bound (plain_action action.now)
plain_found found_keys.Begun = Begun
plain_found found_keys.Unbound = Unbound

-- For the code alone.

-- an entry of the map of bindings
abbrev pub plain_binding : Vec Key Global × Action → Binding
plain_binding e = binding e.0.items (plain_action e.1)

-- the keys are among these sequences
abbrev pub is_among : List (Vec Key Global) → List Key → Bool
is_among sequences keys = list_any (λ s. same_keys keys s.items) sequences

-- the keys are a front of the whole with fewer keys than so many
abbrev pub is_front_below : ℕ → List Key → List Key → Bool
is_front_below n keys whole = nat_lt (length keys) n && same_keys keys (take (length keys) whole)
