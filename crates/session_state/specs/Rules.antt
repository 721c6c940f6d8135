-- What muttrc has set, and what commands make of it.
use Rattle.std.specs.Prelude.{ℕ, Bool, false, List, [], ◌∷◌, ◌++◌, Option, Some, None}
use Rattle.hook_requests.specs.Weeds.{PlainWeeds, first_weeds, weeding_by}
use Rattle.hooks.specs.Hooks.{PlainHooks, no_hooks}
use Rattle.keymap.specs.Keymap.{PlainKeymap, default_keymap}
use Rattle.keymap.specs.declared.key.Key.{Key}
use Rattle.message_text.specs.Weeding.{PlainWeeding}
use Rattle.rc_lang.specs.Settings.{defaults, value_at, value_of}
use Rattle.session_state.specs.Lessons.{PlainLesson}
use Rattle.rc_lang.specs.Values.{Flag, PlainValue, shown_line}
use Rattle.rc_lang.specs.Variables.{place_of}
use Rattle.rc_lang.specs.declared.variable.Variable.TheVariants as variable

-- the values of the variables, the bindings, the names of header fields, the hooks, the texts of
-- the patterns that score, the keys that commands have put, of each apart, and what they tell the
-- index
pub record PlainRules : Type 0 where
  pub settings : List PlainValue
  pub keymap : PlainKeymap
  pub weeds : PlainWeeds
  pub hooks : PlainHooks
  pub scores : List (List ℕ)
  pub put : List (List Key)
  pub lessons : List PlainLesson

-- before a muttrc is read
unfoldable pub first_rules : PlainRules
first_rules = record {
  settings = defaults;
  keymap = default_keymap;
  weeds = first_weeds;
  hooks = no_hooks;
  scores = [];
  put = [];
  lessons = [];
}

-- keys that commands have put, each before those that were put earlier
abbrev pub put_all : List (List Key) → List Key
put_all [] = []
put_all (keys ∷ later) = put_all later ++ keys

-- no keys that commands have put are left
abbrev pub without_puts : PlainRules → PlainRules
without_puts rules = record rules { put = [] }

-- the line of a variable, if there is one
abbrev pub line_of : List ℕ → Option PlainValue → List ℕ
line_of name None = []
line_of name (Some value) = shown_line name value

-- the line that a query of the variable with the name prints
abbrev pub answer_line : List PlainValue → List ℕ → List ℕ
answer_line values name = line_of name (value_at values (place_of name))

-- the boolean of a value
abbrev pub flag_in : Option PlainValue → Bool
flag_in (Some (Flag flag)) = flag
flag_in _ = false

-- what is shown of a header, and in which order
abbrev pub weeding_of : PlainRules → PlainWeeding
weeding_of rules = weeding_by (flag_in (value_of rules.settings variable.Weed)) rules.weeds
