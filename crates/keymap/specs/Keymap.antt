-- The bindings of all menus, and which a function has without muttrc.
use Rattle.std.specs.Prelude.{◌≤◌, ◌∷◌, ℕ, Bool, true, false, List, [], Some, None, fold, length}
use Rattle.mail_base.specs.Words.{first_word}
use Rattle.keymap.specs.Bindings.{Binding, Found, PlainAction, Run, Unbound, bound, found}
use Rattle.keymap.specs.Functions.{MenuKeys, TableRow, rows}
use Rattle.keymap.specs.KeyWords.{word_keys}
use Rattle.keymap.specs.Pieces.{Piece, pieces}
use Rattle.keymap.specs.declared.function.Function.{Function}
use Rattle.keymap.specs.declared.key.Key.{Key}
use Rattle.keymap.specs.declared.menu.Menu.{Menu}
use Rattle.keymap.specs.declared.menu.Menu.TheVariants.{Index, Pager, Attach, Generic}

-- the bindings of each menu, and the keys of a begun sequence
pub record PlainKeymap : Type 0 where
  pub index : List Binding
  pub pager : List Binding
  pub attach : List Binding
  pub generic : List Binding
  pub begun : List Key

-- keys of a sequence wait for its rest
abbrev pub has_begun : List Key → Bool
has_begun [] = false
has_begun (key ∷ keys) = true

-- a sequence that can be bound
pub record IsSequence (keys : List Key) : Type 0 where
  pub some : 1 ≤ length keys
  pub few : length keys ≤ 8

-- the bindings of a menu
abbrev pub bindings_of : PlainKeymap → Menu → List Binding
bindings_of map Index = map.index
bindings_of map Pager = map.pager
bindings_of map Attach = map.attach
bindings_of map Generic = map.generic

-- the same with other bindings of a menu
abbrev pub with_bindings : PlainKeymap → Menu → List Binding → PlainKeymap
with_bindings map Index bindings = record map { index = bindings }
with_bindings map Pager bindings = record map { pager = bindings }
with_bindings map Attach bindings = record map { attach = bindings }
with_bindings map Generic bindings = record map { generic = bindings }

-- the same with keys bound in a menu
abbrev pub bound_in : PlainKeymap → Menu → List Key → PlainAction → PlainKeymap
bound_in map menu keys action = with_bindings map menu (bound (bindings_of map menu) keys action)

-- in every menu but the pager keys that are not bound are looked for in `generic`
abbrev pub or_generic : Menu → Found → Found → Found
or_generic Pager own generic = own
or_generic menu Unbound generic = generic
or_generic menu own generic = own

-- what keys are in a menu
abbrev pub found_in : PlainKeymap → Menu → List Key → Found
found_in map menu keys = or_generic menu (found (bindings_of map menu) keys)
    (found map.generic keys)

-- the first word of a text, with the blank behind it
abbrev pub one_word : List ℕ → Piece (List ℕ)
one_word text = record { value = first_word text; more = length (first_word text) }

-- the bindings with a word of keys bound to a function
abbrev pub bound_word : Function → List Binding → List ℕ → List Binding
bound_word function bindings word = bound bindings (word_keys false word) (Run function)

-- the bindings with a function's default keys
abbrev pub bound_keys : Function → List Binding → MenuKeys → List Binding
bound_keys function bindings None = bindings
bound_keys function bindings (Some text) = fold (bound_word function) bindings
    (pieces one_word text)

-- the bindings with the default keys of a function in each menu
abbrev pub with_row : PlainKeymap → TableRow → PlainKeymap
with_row map r = record map {
  index = bound_keys r.function map.index r.index;
  pager = bound_keys r.function map.pager r.pager;
  attach = bound_keys r.function map.attach r.attach;
}

-- nothing is bound
abbrev pub no_bindings : PlainKeymap
no_bindings = record { index = []; pager = []; attach = []; generic = []; begun = [] }

-- the default keys of all functions
unfoldable pub default_keymap : PlainKeymap
default_keymap = fold with_row no_bindings rows
