-- What commands of muttrc make of what it has set.
use Rattle.std.specs.Prelude.{◌≡◌, ◌⊎◌, ◌++◌, ℕ, List, [], ◌∷◌, Option, Some, None, Result, Ok}
use Rattle.std.specs.Prelude.{Err, drop, length, nat_le, if◌then◌else◌}
use Rattle.mail_base.specs.Shown.{utf8_text}
use Rattle.hook_requests.specs.HookWords.{hook_words}
use Rattle.hook_requests.specs.Words.{joined}
use Rattle.hook_requests.specs.Places.{CommandPlace}
use Rattle.hook_requests.specs.Weeds.{with_words}
use Rattle.hook_requests.specs.declared.pattern_hook.HookTable.TheVariants as hook
use Rattle.hook_requests.specs.declared.weeds.WeedList.{WeedList}
use Rattle.hook_requests.specs.declared.weeds.WeedList.TheVariants as weed
use Rattle.hooks.specs.Hooks.{PlainHooks}
use Rattle.key_requests.specs.Requests.{PlainBind, PlainMacro, bind_of, calls_of, macro_of, text_of}
use Rattle.key_requests.specs.Requests.{word_at}
use Rattle.keymap.specs.Bindings.{PlainAction, Replace, Run}
use Rattle.keymap.specs.Keymap.{PlainKeymap, bound_in}
use Rattle.keymap.specs.Press.{pressed_queue}
use Rattle.keymap.specs.Queue.{PlainQueue}
use Rattle.keymap.specs.declared.press.Press.{Press}
use Rattle.keymap.specs.declared.key.Key.{Key}
use Rattle.keymap.specs.declared.menu.Menu.{Menu}
use Rattle.rc_lang.specs.Commands.{command_of}
use Rattle.rc_lang.specs.Expansion.{expanded_words}
use Rattle.rc_lang.specs.Settings.{Outcome, fault_of, outcome}
use Rattle.rc_lang.specs.declared.command.Command.{Command}
use Rattle.rc_lang.specs.declared.command.Command.TheVariants.{Set, Unset, Toggle, Reset, Bind}
use Rattle.rc_lang.specs.declared.command.Command.TheVariants.{Macro, Push, Exec}
use Rattle.rc_lang.specs.declared.command.Command.TheVariants.{Source, Lists, Subscribe}
use Rattle.rc_lang.specs.declared.command.Command.TheVariants.{Alternates, Alias, Score, Unscore}
use Rattle.rc_lang.specs.declared.command.Command.TheVariants.{Ignore, Unignore, HdrOrder}
use Rattle.rc_lang.specs.declared.command.Command.TheVariants.{FolderHook, MessageHook, SaveHook}
use Rattle.rc_lang_words.specs.Faults.{Fault, no_memory, plain_error}
use Rattle.rc_lang_words.specs.Words.{PlainPiece}
use Rattle.rc_lang_words.specs.declared.fault.RcError.{RcError}
use Rattle.rc_lang_words.specs.declared.fault.RcFault.TheVariants.{BadValue}
use Rattle.session_state.specs.declared.commands.Answer.{Answer}
use Rattle.session_state.specs.declared.commands.Answer.TheVariants as answer
use Rattle.session_state.specs.declared.commands.Obeyed.{Obeyed}
use Rattle.session_state.specs.declared.commands.Obeyed.TheVariants.{Answered, Refused}
use Rattle.people.specs.Judged.{PlainJudged}
use Rattle.people.specs.declared.people.PeopleTable.TheVariants as table
use Rattle.patterns_match.specs.Scores.{PlainEntry}
use Rattle.session_state.specs.FolderHooks.{with_folder_hook}
use Rattle.session_state.specs.Lessons.{Kept, Named, PlainLesson, Scored, people_of}
use Rattle.session_state.specs.PatternHooks.{with_pattern_hook}
use Rattle.session_state.specs.Rules.{PlainRules}
use Rattle.session_state.specs.Scoring.{entry_of, keeps_of, kept_texts, value_of}
use Rattle.session_state.specs.declared.instant.Instant.{Instant}
use Rattle.session_state.specs.declared.scoring.ScoreValue.{ScoreValue}

-- what a command answers: nothing, a path to be read, or a line to be shown where it was typed
pub data PlainAnswer : Type 0 where
  Quiet : PlainAnswer
  ToRead : (path : List ℕ) → PlainAnswer
  ToShow : (line : List ℕ) → PlainAnswer

-- what muttrc has set behind a command, and its answer, or why it is refused
pub record Ran : Type 0 where
  pub rules : PlainRules
  pub answer : Result PlainAnswer Fault

-- a command that says nothing has set this
abbrev pub done : PlainRules → Ran
done rules = record { rules = rules; answer = Ok Quiet }

-- a command has a fault, and sets nothing
abbrev pub refused : Fault → PlainRules → Ran
refused fault rules = record { rules = rules; answer = Err fault }

-- what `set` answers is shown
abbrev pub shown_by : Result (Option (List ℕ)) Fault → Result PlainAnswer Fault
shown_by (Ok None) = Ok Quiet
shown_by (Ok (Some line)) = Ok (ToShow line)
shown_by (Err fault) = Err fault

-- `set` and its kin; words before a faulty one stay applied
abbrev pub set_by : Outcome → PlainRules → Ran
set_by o rules = record {
  rules = record rules { settings = o.values };
  answer = shown_by o.answer;
}

-- keys do this in all of these menus
abbrev pub bound_all : List Menu → List Key → PlainAction → PlainKeymap → PlainKeymap
bound_all [] keys action map = map
bound_all (menu ∷ menus) keys action map =
    bound_all menus keys action (bound_in map menu keys action)

-- keys are bound to a function
abbrev pub bound_by : Result PlainBind Fault → PlainRules → Ran
bound_by (Ok b) rules =
    done (record rules { keymap = bound_all b.menus b.keys (Run b.function) rules.keymap })
bound_by (Err fault) rules = refused fault rules

-- keys are replaced by a text
abbrev pub replaced_by : Result PlainMacro Fault → PlainRules → Ran
replaced_by (Ok m) rules =
    done (record rules { keymap = bound_all m.menus m.keys (Replace m.text) rules.keymap })
replaced_by (Err fault) rules = refused fault rules

-- keys are put
abbrev pub put_by : Result (List Key) Fault → PlainRules → Ran
put_by (Ok keys) rules = done (record rules { put = rules.put ++ keys ∷ [] })
put_by (Err fault) rules = refused fault rules

-- a file is still to be read
abbrev pub sourcing : List ℕ → PlainRules → Ran
sourcing path rules = record { rules = rules; answer = Ok (ToRead (utf8_text path)) }

-- this is told the index
abbrev pub told_by : Result (List PlainLesson) Fault → PlainRules → Ran
told_by (Ok lessons) rules = done (record rules { lessons = rules.lessons ++ lessons })
told_by (Err fault) rules = refused fault rules

-- the name that `alias` gives a value
abbrev pub alias_of : List (List ℕ) → PlainLesson
alias_of words = Named (word_at words 1) (joined (drop 2 words))

-- an entry of scores is added
abbrev pub with_entry : List ℕ → Result PlainEntry Fault → PlainRules → Ran
with_entry text (Ok entry) rules = done (record rules {
  scores = rules.scores ++ text ∷ [];
  lessons = rules.lessons ++ Scored entry ∷ [];
})
with_entry text (Err fault) rules = refused fault rules

-- a pattern scores a value, of which the word is this one; there are 4,096 entries at most
abbrev pub scored_by : Instant → List PlainJudged → List ℕ → List ℕ → Option ScoreValue
    → PlainRules → Ran
scored_by time verdicts text word None rules = refused (fault_of BadValue word) rules
scored_by time verdicts text word (Some value) rules =
    if nat_le 4_096 (length rules.scores) then refused (fault_of BadValue word) rules
    else with_entry text (entry_of time verdicts text value) rules

-- the entries that these words name are taken away
abbrev pub unscored_by : List (List ℕ) → PlainRules → Ran
unscored_by words rules = done (record rules {
  scores = kept_texts words rules.scores;
  lessons = rules.lessons ++ Kept (keeps_of words rules.scores) ∷ [];
})

-- words are added at the end of a list of names of fields
abbrev pub weeded_by : WeedList → List (List ℕ) → PlainRules → Ran
weeded_by list words rules = done (record rules { weeds = with_words list words rules.weeds })

-- these are the hooks from now on
abbrev pub hooked_by : Result PlainHooks Fault → PlainRules → Ran
hooked_by (Ok hooks) rules = done (record rules { hooks = hooks })
hooked_by (Err fault) rules = refused fault rules

-- a command with the texts of its words, its own name first, by the verdicts on expressions, which
-- is given at a place; the others do nothing yet
abbrev pub obeyed : Instant → List PlainJudged → CommandPlace → Command → List (List ℕ)
    → PlainRules → Ran
obeyed time verdicts at Set words rules = set_by (outcome rules.settings words) rules
obeyed time verdicts at Unset words rules = set_by (outcome rules.settings words) rules
obeyed time verdicts at Toggle words rules = set_by (outcome rules.settings words) rules
obeyed time verdicts at Reset words rules = set_by (outcome rules.settings words) rules
obeyed time verdicts at Bind words rules = bound_by (bind_of words) rules
obeyed time verdicts at Macro words rules = replaced_by (macro_of words) rules
obeyed time verdicts at Push words rules = put_by (text_of (word_at words 1)) rules
obeyed time verdicts at Exec words rules = put_by (calls_of (drop 1 words)) rules
obeyed time verdicts at Source words rules = sourcing (word_at words 1) rules
obeyed time verdicts at Lists words rules =
    told_by (people_of verdicts table.Lists (drop 1 words)) rules
obeyed time verdicts at Subscribe words rules =
    told_by (people_of verdicts table.Subscribed (drop 1 words)) rules
obeyed time verdicts at Alternates words rules =
    told_by (people_of verdicts table.Mine (drop 1 words)) rules
obeyed time verdicts at Alias words rules = told_by (Ok (alias_of words ∷ [])) rules
obeyed time verdicts at Score words rules =
    scored_by time verdicts (word_at words 1) (word_at words 2) (value_of (word_at words 2)) rules
obeyed time verdicts at Unscore words rules = unscored_by (drop 1 words) rules
obeyed time verdicts at Ignore words rules = weeded_by weed.Hidden (drop 1 words) rules
obeyed time verdicts at Unignore words rules = weeded_by weed.Shown (drop 1 words) rules
obeyed time verdicts at HdrOrder words rules = weeded_by weed.Order (drop 1 words) rules
obeyed time verdicts at FolderHook words rules =
    hooked_by (with_folder_hook verdicts at (hook_words (drop 1 words)) rules.hooks) rules
obeyed time verdicts at MessageHook words rules = hooked_by
    (with_pattern_hook time verdicts hook.Messages (hook_words (drop 1 words)) rules.hooks) rules
obeyed time verdicts at SaveHook words rules = hooked_by
    (with_pattern_hook time verdicts hook.Saves (hook_words (drop 1 words)) rules.hooks) rules
obeyed time verdicts at _ words rules = done rules

-- a command is carried out whose words have their values
abbrev pub obeyed_texts : Instant → List PlainJudged → CommandPlace → Command → PlainRules
    → Result (List (List ℕ)) Fault → Ran
obeyed_texts time verdicts at command rules (Ok texts) =
    obeyed time verdicts at command texts rules
obeyed_texts time verdicts at command rules (Err fault) = refused fault rules

-- a command is carried out
abbrev pub obeyed_command : Instant → List PlainJudged → CommandPlace → List (List PlainPiece)
    → PlainRules → Result Command Fault → Ran
obeyed_command time verdicts at words rules (Ok command) =
    obeyed_texts time verdicts at command rules (expanded_words rules.settings words)
obeyed_command time verdicts at words rules (Err fault) = refused fault rules

-- a command by its words as they are written, which is given at a place
unfoldable pub ran : Instant → List PlainJudged → CommandPlace → List (List PlainPiece)
    → PlainRules → Ran
ran time verdicts at words rules =
    obeyed_command time verdicts at words rules (command_of rules.settings words)

-- For the code alone.

-- what a command answers, as contracts see it
abbrev pub plain_answer : Answer → PlainAnswer
plain_answer answer.Quiet = Quiet
plain_answer (answer.Source path) = ToRead path.items
plain_answer (answer.Show line) = ToShow line.items

-- what a command comes to, as contracts see it
abbrev pub plain_obeyed : Obeyed → Result PlainAnswer Fault
plain_obeyed (Answered a) = Ok (plain_answer a)
plain_obeyed (Refused e) = Err (plain_error e)

-- a command left this, or memory ran out
abbrev pub IsRan : Result Answer RcError → PlainRules → Ran → Type 0
IsRan (Ok a) rules wanted = wanted ≡ record { rules = rules; answer = Ok (plain_answer a) }
IsRan (Err e) rules wanted =
    (wanted ≡ record { rules = rules; answer = Err (plain_error e) }) ⊎ (plain_error e ≡ no_memory)

-- What a press of the keys that wait in a menu answers and leaves.
pub record IsPressed (menu : Menu) (answer : Press) (old new : PlainRules)
    (queue queue' : PlainQueue) : Type 0 where
  pub outcome : record {
    press = answer;
    begun = new.keymap.begun;
    waiting = queue'.items;
    replaced = queue'.replaced;
  }
      ≡ pressed_queue old.keymap menu queue
  pub same : new ≡ record old { keymap = record old.keymap { begun = new.keymap.begun } }
