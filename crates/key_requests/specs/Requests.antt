-- What the words of `bind`, `macro`, `push` and `exec` ask for (Mutt's manual, "bind", "macro").
use Rattle.std.specs.Prelude.{◌==◌, ◌&&◌, ℕ, Bool, List, [], ◌∷◌, Option, Some, None, Result, Ok}
use Rattle.std.specs.Prelude.{Err, true, false, codes, length, nat_le, nat_lt, slice_get, unwrap_or}
use Rattle.std.specs.Prelude.{if◌then◌else◌}
use Rattle.std.specs.List.{list_all, slice_split}
use Rattle.std.specs.Str.{bytes_eq}
use Rattle.keymap.specs.Functions.{function_named}
use Rattle.keymap.specs.KeyWords.{word_keys}
use Rattle.keymap.specs.Menus.{has}
use Rattle.keymap.specs.declared.function.Function.{Function}
use Rattle.keymap.specs.declared.key.Key.{Key}
use Rattle.keymap.specs.declared.key.Key.TheVariants.{Call}
use Rattle.keymap.specs.declared.menu.Menu.{Menu}
use Rattle.keymap.specs.declared.menu.Menu.TheVariants.{Index, Pager, Attach, Generic}
use Rattle.rc_lang.specs.Expansion.{before_rest}
use Rattle.rc_lang.specs.Settings.{fault_of}
use Rattle.rc_lang_words.specs.Faults.{Fault}
use Rattle.rc_lang_words.specs.declared.fault.RcFault.TheVariants.{BadKey, UnknownFunction}
use Rattle.rc_lang_words.specs.declared.fault.RcFault.TheVariants.{UnknownMenu}
use Rattle.key_requests.specs.declared.request.BindRequest.{BindRequest}
use Rattle.key_requests.specs.declared.request.MacroRequest.{MacroRequest}

-- Words.

-- a word of a command; one that is not there is empty
abbrev pub word_at : List (List ℕ) → ℕ → List ℕ
word_at words n = unwrap_or (slice_get words n) []

-- keys that can be bound
abbrev pub is_sequence : List Key → Bool
is_sequence keys = nat_lt 0 (length keys) && nat_le (length keys) 8

-- the keys of a word that may be bound
abbrev pub sequence_of : List ℕ → Result (List Key) Fault
sequence_of word =
    if is_sequence (word_keys false word) then Ok (word_keys false word)
    else Err (fault_of BadKey word)

-- the text of a macro or of `push`, in which functions may be called
abbrev pub text_of : List ℕ → Result (List Key) Fault
text_of word =
    if nat_lt 0 (length (word_keys true word)) then Ok (word_keys true word)
    else Err (fault_of BadKey word)

-- the menu with a name
abbrev pub menu_named : List ℕ → Option Menu
menu_named name =
    if bytes_eq name (codes "index") then Some Index
    else (if bytes_eq name (codes "pager") then Some Pager
    else (if bytes_eq name (codes "attach") then Some Attach
    else (if bytes_eq name (codes "generic") then Some Generic else None)))

-- the names in a word, with commas between them
abbrev pub names_in : List ℕ → List (List ℕ)
names_in word = slice_split (λ b. b == 44) word

-- a list of one menu, if there is one
abbrev pub menu_if : List ℕ → Option Menu → Result (List Menu) Fault
menu_if word None = Err (fault_of UnknownMenu word)
menu_if word (Some menu) = Ok (menu ∷ [])

-- the menu with the name, or the whole word is at fault
unfoldable pub menu_of : List ℕ → List ℕ → Result (List Menu) Fault
menu_of word name = menu_if word (menu_named name)

-- the menus with these names
abbrev pub menus_in : List ℕ → List (List ℕ) → Result (List Menu) Fault
menus_in word [] = Ok []
menus_in word (name ∷ names) = before_rest (menu_of word name) (menus_in word names)

-- the menus that a word names
abbrev pub menus_of : List ℕ → Result (List Menu) Fault
menus_of word = menus_in word (names_in word)

-- each of the menus has the function
abbrev pub function_if : List Menu → List ℕ → Option Function → Result Function Fault
function_if menus name None = Err (fault_of UnknownFunction name)
function_if menus name (Some function) =
    if list_all (λ menu. has menu function) menus then Ok function
    else Err (fault_of UnknownFunction name)

-- the function with a name, which all of the menus have
abbrev pub function_of : List Menu → List ℕ → Result Function Fault
function_of menus name = function_if menus name (function_named name)

-- a key that calls a function, if there is one
abbrev pub call_if : List ℕ → Option Function → Result (List Key) Fault
call_if name None = Err (fault_of UnknownFunction name)
call_if name (Some function) = Ok (Call function ∷ [])

-- the function with the name, as a key that calls it
unfoldable pub call_of : List ℕ → Result (List Key) Fault
call_of name = call_if name (function_named name)

-- the functions with these names, as keys that call them
abbrev pub calls_of : List (List ℕ) → Result (List Key) Fault
calls_of [] = Ok []
calls_of (name ∷ names) = before_rest (call_of name) (calls_of names)

-- Requests.

-- keys are to run a function in these menus
pub record PlainBind : Type 0 where
  pub menus : List Menu
  pub keys : List Key
  pub function : Function

-- keys are to be replaced by a text in these menus
pub record PlainMacro : Type 0 where
  pub menus : List Menu
  pub keys : List Key
  pub text : List Key

-- what `bind` asks, as contracts see it
abbrev pub plain_bind : BindRequest → PlainBind
plain_bind b = record { menus = b.menus.items; keys = b.keys.items; function = b.function }

-- what `macro` asks, as contracts see it
abbrev pub plain_macro : MacroRequest → PlainMacro
plain_macro m = record { menus = m.menus.items; keys = m.keys.items; text = m.text.items }

-- what `bind` asks, where the function is right
abbrev pub bind_function : List Key → List Menu → Result Function Fault → Result PlainBind Fault
bind_function keys menus (Ok function) =
    Ok (record { menus = menus; keys = keys; function = function })
bind_function keys menus (Err fault) = Err fault

-- the same, where the menus are right
abbrev pub bind_menus : List Key → List ℕ → Result (List Menu) Fault → Result PlainBind Fault
bind_menus keys name (Ok menus) = bind_function keys menus (function_of menus name)
bind_menus keys name (Err fault) = Err fault

-- the same, where the keys are right
abbrev pub bind_keys : List ℕ → List ℕ → Result (List Key) Fault → Result PlainBind Fault
bind_keys menus name (Ok keys) = bind_menus keys name (menus_of menus)
bind_keys menus name (Err fault) = Err fault

-- what the words of `bind` ask for: menus, keys and the name of a function
abbrev pub bind_of : List (List ℕ) → Result PlainBind Fault
bind_of words = bind_keys (word_at words 1) (word_at words 3) (sequence_of (word_at words 2))

-- what `macro` asks, where the menus are right
abbrev pub macro_menus : List Key → List Key → Result (List Menu) Fault → Result PlainMacro Fault
macro_menus keys text (Ok menus) = Ok (record { menus = menus; keys = keys; text = text })
macro_menus keys text (Err fault) = Err fault

-- the same, where the text is right
abbrev pub macro_text : List Key → List ℕ → Result (List Key) Fault → Result PlainMacro Fault
macro_text keys menus (Ok text) = macro_menus keys text (menus_of menus)
macro_text keys menus (Err fault) = Err fault

-- the same, where the keys are right
abbrev pub macro_keys : List ℕ → List ℕ → Result (List Key) Fault → Result PlainMacro Fault
macro_keys menus text (Ok keys) = macro_text keys menus (text_of text)
macro_keys menus text (Err fault) = Err fault

-- what the words of `macro` ask for: menus, keys and their text
abbrev pub macro_of : List (List ℕ) → Result PlainMacro Fault
macro_of words = macro_keys (word_at words 1) (word_at words 3) (sequence_of (word_at words 2))
