-- What answers to prompts do (Mutt's manual, "Functions").
use Rattle.std.specs.Prelude.{◌++◌, ℕ, Bool, true, false, List, [], ◌∷◌, Option, None, Some, codes}
use Rattle.std.specs.Prelude.{if◌then◌else◌}
use Rattle.folder_letters.specs.Letters.{Mail}
use Rattle.index_items.specs.Kept.{kept}
use Rattle.keymap.specs.declared.menu.Menu.{Menu}
use Rattle.keymap.specs.declared.menu.Menu.TheVariants.{Pager}
use Rattle.patterns_match.specs.Pattern.{PlainPattern}
use Rattle.patterns_match.specs.Scores.{PlainEntry}
use Rattle.people.specs.People.{with_alias, with_expr}
use Rattle.prompts.specs.declared.asking.Asking.{Asking}
use Rattle.prompts.specs.declared.asking.Asking.TheVariants as asking
use Rattle.rc_lang.specs.Settings.{outcome}
use Rattle.rc_lang.specs.Values.{PlainValue}
use Rattle.index_functions.specs.Choosing.{is_no_limit}
use Rattle.session_index.specs.Answering.{answered, chosen, limited}
use Rattle.session_index.specs.Desk.{PlainWanted, ToAnswer, ToChoose, Unasked}
use Rattle.session_index.specs.Effects.{with_index}
use Rattle.session_index.specs.Index.{PlainIndex, given as given_index}
use Rattle.session_index.specs.Opening.{tuned as tuned_desk}
use Rattle.session.specs.Core.{CoreState, Ground, instant_of, refused, shown_menu, with_desk}
use Rattle.session.specs.Reading.{expression_read, refreshed}
use Rattle.session.specs.Rules.{rule_of}
use Rattle.session_state.specs.Days.{reading_of}
use Rattle.session_state.specs.Frames.{Script, typed_script}
use Rattle.session_state.specs.Told.{nothing_told}
use Rattle.session_state.specs.Lessons.{Kept, Named, Person, PlainLesson, Scored}
use Rattle.session_screen.specs.Sorting.{sort_words}
use Rattle.session_screen.specs.Tuning.{options_of}
use Rattle.session_screen.specs.declared.window.Window.{Window}

-- Patterns.

-- the text of a limit is kept for the status line
abbrev pub limit_kept : Asking → List ℕ → CoreState → CoreState
limit_kept asking.Limit text c = record c { limit = Some text }
limit_kept _ text c = c

-- a text that is this pattern, or none, is answered
abbrev pub pattern_answered : List Mail → Asking → List ℕ → Option PlainPattern → CoreState
    → CoreState
pattern_answered mails asking text None c = refused (codes "bad pattern: ") text c
pattern_answered mails asking text (Some pattern) c =
    limit_kept asking text (with_desk (answered mails asking pattern c.desk) c)

-- nothing is limited any more
abbrev pub without_limit : List Mail → CoreState → CoreState
without_limit mails c = record c { desk = limited mails None c.desk; limit = None }

-- a text is read as a pattern, and answered
abbrev pub text_read : Ground → Asking → List ℕ → CoreState → CoreState
text_read g asking text c = pattern_answered g.given.mails asking text
    (reading_of g.given.verdicts (instant_of g.window g.moment) text) c

-- a text that is to limit
abbrev pub limit_answered : Ground → List ℕ → CoreState → CoreState
limit_answered g text c =
    if is_no_limit text then without_limit g.given.mails c else text_read g asking.Limit text c

-- Commands.

-- the index as the variables have it now
abbrev pub tuned : List Mail → CoreState → CoreState
tuned mails c = with_desk (tuned_desk mails (options_of c.rules.settings) c.desk) c

-- the last line shows this of commands, or what it showed before
abbrev pub shown_on : Option (List ℕ) → CoreState → CoreState
shown_on None c = c
shown_on (Some text) c = with_desk (record c.desk { message = text }) c

-- commands have set this, and these files are still to be read
abbrev pub ran_to : Script → CoreState → CoreState
ran_to script c =
    shown_on script.told.shown (record c { rules = script.rules; frames = script.frames })

-- the index by these entries of scores
abbrev pub with_scores : List Mail → List PlainEntry → PlainIndex → PlainIndex
with_scores mails entries i = given_index mails (record i.facts { scores = entries }) i

-- what a command tells is learnt
abbrev pub with_lesson : List Mail → PlainLesson → PlainIndex → PlainIndex
with_lesson mails (Person table expr) i = given_index mails
    (record i.facts { people = with_expr i.facts.people table expr }) i
with_lesson mails (Named name value) i =
    record i { aliases = with_alias i.aliases name value }
with_lesson mails (Scored entry) i = with_scores mails (i.facts.scores ++ entry ∷ []) i
with_lesson mails (Kept keeps) i = with_scores mails (kept keeps i.facts.scores) i

-- what commands tell is learnt, one after the other
abbrev pub with_lessons : List Mail → List PlainLesson → PlainIndex → PlainIndex
with_lessons mails [] i = i
with_lessons mails (lesson ∷ lessons) i = with_lessons mails lessons (with_lesson mails lesson i)

-- the index learns what commands have told it
abbrev pub learnt : List Mail → CoreState → CoreState
learnt mails c = record c {
  rules = record c.rules { lessons = [] };
  desk = with_index (with_lessons mails c.rules.lessons c.desk.index) c.desk;
}

-- the index learns what commands tell it, and stands by the variables
abbrev pub caught_up : List Mail → CoreState → CoreState
caught_up mails c = tuned mails (learnt mails c)

-- a line of commands was typed: they are run, up to one that names a file; what they tell stands on
-- the last line alone
abbrev pub commanded : Ground → List ℕ → CoreState → CoreState
commanded g text c = caught_up g.given.mails (ran_to (typed_script (instant_of g.window g.moment)
    g.given.verdicts text c.frames c.rules nothing_told) c)

-- Texts.

-- what a text does that is answered in the index
abbrev pub text_done : Ground → Asking → List ℕ → CoreState → CoreState
text_done g asking.Limit text c = limit_answered g text c
text_done g asking.Command text c = commanded g text c
text_done g asking text c = text_read g asking text c

-- a text is answered in a menu: in the pager that searches it, and behind all else what is shown is
-- made anew
abbrev pub answered_in : Ground → Menu → Asking → List ℕ → CoreState → CoreState
answered_in g Pager asking.Search text c =
    expression_read g.given.verdicts g.given.mails g.window text c
answered_in g menu asking text c =
    refreshed g.given.mails g.window (text_done g asking text c)

-- a text is answered to a prompt
abbrev pub text_answered : Ground → Asking → List ℕ → CoreState → CoreState
text_answered g asking text c = answered_in g (shown_menu c) asking text c

-- Orders.

-- the variables have these values
abbrev pub with_settings : List PlainValue → CoreState → CoreState
with_settings values c = record c { rules = record c.rules { settings = values } }

-- `$sort` is set, and the index stands by it
abbrev pub sorted : List Mail → Bool → ℕ → CoreState → CoreState
sorted mails reversed key c =
    tuned mails (with_settings (outcome c.rules.settings (sort_words reversed key)).values c)

-- a key is answered to a prompt of one key
abbrev pub choice_made : List Mail → Window → Asking → ℕ → CoreState → CoreState
choice_made mails window asking.Sort key c = sorted mails false key c
choice_made mails window asking.ReverseSort key c = sorted mails true key c
choice_made mails window asking key c =
    with_desk (chosen (rule_of c.rules.settings c.kind window) mails asking key c.desk) c

-- What keys want of the outside.

-- what was wanted is taken up
abbrev pub granted : CoreState → CoreState
granted c = with_desk (record c.desk { wanted = Unasked }) c

-- what is wanted is taken up
abbrev pub heeded_by : Ground → PlainWanted → CoreState → CoreState
heeded_by g (ToAnswer asking text) c = text_answered g asking text (granted c)
heeded_by g (ToChoose asking key) c = refreshed g.given.mails g.window
    (choice_made g.given.mails g.window asking key (granted c))
heeded_by g _ c = c

-- an answer to a prompt is taken up
abbrev pub heeded : Ground → CoreState → CoreState
heeded g c = heeded_by g c.desk.wanted c
