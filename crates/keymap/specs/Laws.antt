-- Laws of the definitions, in the words of one who presses keys.
use Rattle.std.specs.Prelude.{◌≡◌, ◌≢◌, ℕ, true, false, List, [], ◌∷◌, ◌++◌, Some, encode_utf8, map}
use Rattle.keymap.specs.Bindings.{Binding, PlainAction, action_of, bound}
use Rattle.keymap.specs.Functions.{function_named, row_of}
use Rattle.keymap.specs.Keys.{same_keys}
use Rattle.keymap.specs.KeyWords.{key_names, word_keys}
use Rattle.keymap.specs.Queue.{TakesFirst}
use Rattle.keymap.specs.Stream.{first_key, forms, is_open, keys_of}
use Rattle.keymap.specs.declared.function.Function.{Function}
use Rattle.keymap.specs.declared.key.Key.{Key}
use Rattle.keymap.specs.declared.key.Key.TheVariants.{Call, Char}
use lib.Utf8.{scalar}

-- the bytes of a character are the key of that character, but for the line feed
abbrev pub CharsAreRead : Type 0
CharsAreRead = (c : ℕ) → scalar c ≡ true → c ≢ 10 → keys_of (encode_utf8 c) ≡ Char c ∷ []

-- the bytes that a terminal sends for a key are that key
abbrev pub FormsAreRead : Type 0
FormsAreRead = map (λ f. keys_of f.text) forms ≡ map (λ f. f.key ∷ []) forms

-- bytes that are not open tell their first key whatever follows
abbrev pub ClosedTells : Type 0
ClosedTells = (bytes more : List ℕ) → is_open bytes ≡ false
    → first_key (bytes ++ more) ≡ first_key bytes

-- the name of each key is read as that key
abbrev pub NamesAreRead : Type 0
NamesAreRead = map (λ n. word_keys false n.name) key_names ≡ map (λ n. n.key ∷ []) key_names

-- the name of each function is that of this function
abbrev pub FunctionIsFound : Type 0
FunctionIsFound = (function : Function) → function_named (row_of function).name ≡ Some function

-- and in brackets a key that calls it
abbrev pub CallIsRead : Type 0
CallIsRead = (function : Function)
    → word_keys true (60 ∷ (row_of function).name ++ 62 ∷ []) ≡ Call function ∷ []

-- keys that were bound last run that
abbrev pub BoundCounts : Type 0
BoundCounts = (bindings : List Binding) (keys : List Key) (action : PlainAction)
    → action_of (bound bindings keys action) keys ≡ Some action

-- and all others what they did before
abbrev pub OthersStay : Type 0
OthersStay = (bindings : List Binding) (keys others : List Key) (action : PlainAction)
    → same_keys keys others ≡ false
    → action_of (bound bindings keys action) others ≡ action_of bindings others

-- the first key of a text that was put before all others is pressed first
abbrev pub TextIsFirst : Type 0
TextIsFirst = (key : Key) (text waiting : List Key)
    → TakesFirst (Some key) ((key ∷ text) ++ waiting) (text ++ waiting)
