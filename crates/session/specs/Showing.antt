-- How a message comes to be shown: the hooks that count for it run, and then it is on pages and
-- seen (Mutt's manual, "message-hook").
use Rattle.std.specs.Prelude.{Bool, false, not, ℕ, List, [], ◌∷◌, Option, None, Some, filter, map}
use Rattle.std.specs.Prelude.{if◌then◌else◌}
use Rattle.folder_letters.specs.Letters.{Mail}
use Rattle.hooks.specs.Hooks.{PlainPatternHook}
use Rattle.mail_base.specs.declared.kind.Id.{Id}
use Rattle.patterns_match.specs.Pattern.{PlainPattern}
use Rattle.people.specs.Judged.{PlainJudged}
use Rattle.session_index.specs.Desk.{PlainDesk}
use Rattle.session_index.specs.Viewing.{matches, viewed}
use Rattle.session_pager.specs.Opening.{message_opened, parts_listed}
use Rattle.session_pager.specs.Reader.{with_awaited}
use Rattle.session_state.specs.Days.{reading_of}
use Rattle.session_state.specs.Frames.{PlainFrame, displaying_script}
use Rattle.session_state.specs.Told.{nothing_told}
use Rattle.session_state.specs.declared.instant.Instant.{Instant}
use Rattle.session_screen.specs.declared.window.Window.{Window}
use Rattle.session.specs.Answers.{caught_up, ran_to}
use Rattle.session.specs.Core.{CoreState, Ground, instant_of, with_desk, with_reader}
use Rattle.session.specs.Reading.{refreshed}

-- a message satisfies the pattern of a hook, or where the hook is negated does not; a text that is
-- no pattern counts for none
abbrev pub hook_holds : List Mail → Id → PlainDesk → Bool → Option PlainPattern → Bool
hook_holds mails id d negated None = false
hook_holds mails id d negated (Some pattern) =
    if negated then not (matches mails pattern id d) else matches mails pattern id d

-- a hook counts for a message, by its pattern as it is read at this moment
abbrev pub hook_counts : List PlainJudged → Instant → List Mail → Id → PlainDesk → PlainPatternHook
    → Bool
hook_counts verdicts time mails id d hook =
    hook_holds mails id d hook.negated (reading_of verdicts time hook.pattern)

-- the commands of the hooks that count for a message
abbrev pub commands_in : List PlainJudged → Instant → List Mail → Id → PlainDesk
    → List PlainPatternHook → List (List ℕ)
commands_in verdicts time mails id d hooks =
    map (λ hook. hook.command) (filter (hook_counts verdicts time mails id d) hooks)

-- these commands have run, up to one that names a file
abbrev pub texts_run : List PlainJudged → Instant → List (List ℕ) → CoreState → CoreState
texts_run verdicts time texts c =
    ran_to (displaying_script time verdicts texts c.frames c.rules nothing_told) c

-- the same; the index has learnt what they tell it, and what is shown is made anew
abbrev pub hooked : List PlainJudged → Instant → List Mail → Window → List (List ℕ) → CoreState
    → CoreState
hooked verdicts time mails window [] c = c
hooked verdicts time mails window (text ∷ texts) c =
    refreshed mails window (caught_up mails (texts_run verdicts time (text ∷ texts) c))

-- a message is on pages, and seen
abbrev pub displaying : List Mail → Id → CoreState → CoreState
displaying mails id c =
    with_desk (viewed mails id c.desk) (with_reader (message_opened mails id c.reader) c)

-- a file that hooks have named is read first
abbrev pub displaying_behind : List Mail → Id → List PlainFrame → CoreState → CoreState
displaying_behind mails id [] c = displaying mails id c
displaying_behind mails id (frame ∷ frames) c = with_reader (with_awaited (Some id) c.reader) c

-- a message is shown, unless a file is to be read first
abbrev pub once_hooked : List Mail → Id → CoreState → CoreState
once_hooked mails id c = displaying_behind mails id c.frames c

-- a message is shown, behind its hooks
abbrev pub displayed : Ground → Id → CoreState → CoreState
displayed g id c = once_hooked g.given.mails id
    (hooked g.given.verdicts (instant_of g.window g.moment) g.given.mails g.window
    (commands_in g.given.verdicts (instant_of g.window g.moment) g.given.mails id c.desk
    c.rules.hooks.messages) c)

-- a message is shown, if there is one
abbrev pub displayed_at : Ground → Option Id → CoreState → CoreState
displayed_at g None c = c
displayed_at g (Some id) c = displayed g id c

-- the cursor's message is shown
abbrev pub displaying_cursor : Ground → CoreState → CoreState
displaying_cursor g c = displayed_at g c.desk.index.cursor c

-- the parts of a message are listed, if there is one
abbrev pub listed_at : List Mail → Option Id → CoreState → CoreState
listed_at mails None c = c
listed_at mails (Some id) c = with_reader (parts_listed mails id c.reader) c

-- the parts of the cursor's message are listed
abbrev pub listing_cursor : List Mail → CoreState → CoreState
listing_cursor mails c = listed_at mails c.desk.index.cursor c

-- a message that waited for files of commands is shown, if one did
abbrev pub resumed_by : List Mail → Option Id → CoreState → CoreState
resumed_by mails None c = c
resumed_by mails (Some id) c =
    displaying mails id (with_reader (with_awaited None c.reader) c)

-- the message that waits is shown, if one does
abbrev pub resumed : List Mail → CoreState → CoreState
resumed mails c = resumed_by mails c.reader.awaited c
