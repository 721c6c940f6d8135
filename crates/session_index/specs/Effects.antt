-- The basic effects: a line each.
use Rattle.std.specs.Prelude.{◌&&◌, ◌==◌, [], ◌∷◌, Bool, true, false, not, List, Option, None}
use Rattle.std.specs.Prelude.{Some, length, if◌then◌else◌}
use Rattle.std.specs.Option.{option_map_or}
use Rattle.folder_letters.specs.Letters.{Mail}
use Rattle.keymap.specs.declared.function.Function.{Function}
use Rattle.mail_base.specs.declared.kind.Id.{Id}
use Rattle.index_order.specs.Order.{is_threads}
use Rattle.index_listed.specs.Cursor.{is_seen}
use Rattle.patterns_match.specs.Pattern.{PlainPattern}
use Rattle.index_view.specs.View.{messages_over}
use Rattle.session_index.specs.Acts.{acted_all}
use Rattle.session_index.specs.Desk.{PlainDesk, ToDisplay, ToEnd, ToList}
pub use Rattle.session_index.specs.Desk.{asked, said, with_index}
use Rattle.session_index.specs.Folding.{all_folded, thread_folded}
use Rattle.index_functions.specs.Functions.{effects_of, needs_message, writes}
use Rattle.session_index.specs.Index.{PlainIndex, answers_of, seen_of}
use Rattle.session_index.specs.Meant.{ids_of, meant, tagged_of, thread_ids}
use Rattle.session_index.specs.Motions.{way}
use Rattle.session_index.specs.Searching.{place_of, way_found}
use Rattle.session_index.specs.Shown.{shows}
use Rattle.session_index.specs.Syncing.{quit_begun, sync_begun}
use Rattle.index_items.specs.declared.act.Act.{Act}
use Rattle.index_items.specs.declared.act.Act.TheVariants.{Set, Clear}
use Rattle.index_items.specs.declared.act.Mark.TheVariants.{Tagged}
use Rattle.prompts.specs.declared.asking.Asking.TheVariants.{Search}
use Rattle.index_functions.specs.declared.effect.Effect.{Effect}
use Rattle.index_functions.specs.declared.effect.Effect.TheVariants as effect
use Rattle.index_functions.specs.declared.effect.Scope.{Scope}
use Rattle.index_functions.specs.declared.effect.Scope.TheVariants as scope
use Rattle.index_functions.specs.declared.motion.Motion.{Motion}
use Rattle.index_functions.specs.declared.motion.Motion.TheVariants as motion
use Rattle.index_functions.specs.declared.notice.Notice.{Notice}
use Rattle.index_functions.specs.declared.notice.Notice.TheVariants as notice
use Rattle.index_functions.specs.declared.rule.Rule.{Rule}
use Rattle.session_index.specs.declared.sought.Sought.TheVariants as sought
use Rattle.index_functions.specs.declared.way.Way.{Way}
use Rattle.index_functions.specs.declared.way.Way.TheVariants.{To, Stays}

-- the cursor goes to a message, where that is seen
abbrev pub at_id : List Mail → Id → PlainIndex → PlainIndex
at_id mails id i = if is_seen (seen_of mails i) id then record i { cursor = Some id } else i

-- the cursor goes there, or the last line tells why it stays
abbrev pub went : List Mail → Way → PlainDesk → PlainDesk
went mails (To id) d = with_index (at_id mails id d.index) d
went mails (Stays notice) d = said notice d

-- the same without a text
abbrev pub went_quietly : List Mail → Way → PlainDesk → PlainDesk
went_quietly mails (To id) d = with_index (at_id mails id d.index) d
went_quietly mails (Stays notice) d = d

-- where a motion leads
abbrev pub way_of : Rule → List Mail → Motion → PlainDesk → Way
way_of rule mails m d = way m rule.page (answers_of mails d.index) d.index.cursor

-- the messages that an effect means
abbrev pub scope_ids : List Mail → Scope → PlainDesk → List Id
scope_ids mails scope.Meant d = meant d.prefix (answers_of mails d.index) d.index.cursor
scope_ids mails scope.Cursor d = ids_of d.index.cursor
scope_ids mails scope.Thread d = thread_ids (answers_of mails d.index) d.index.cursor

-- this is done to messages, one after the other
abbrev pub done_to : List Mail → Act → List Id → PlainDesk → PlainDesk
done_to mails act ids d = with_index (acted_all mails act ids d.index) d

-- the cursor's message is tagged
abbrev pub is_cursor_tagged : List Mail → PlainDesk → Bool
is_cursor_tagged mails d =
    option_map_or (shows sought.Tagged (answers_of mails d.index)) d.index.cursor false

-- what tag-thread does to each message
abbrev pub tagging : List Mail → PlainDesk → Act
tagging mails d = if is_cursor_tagged mails d then Clear Tagged else Set Tagged

-- where messages do not stand in threads, this says so
abbrev pub if_threaded : PlainIndex → PlainDesk → PlainDesk
if_threaded i d =
    if is_threads d.index.facts.options.sort then with_index i d else said notice.NotThreaded d

-- one thread, or all, where messages stand in threads
abbrev pub fold_done : List Mail → Bool → PlainDesk → PlainDesk
fold_done mails all d =
    if_threaded (if all then all_folded mails d.index else thread_folded mails d.index) d

-- where a search leads
abbrev pub search_way : List Mail → PlainPattern → PlainDesk → Way
search_way mails pattern d = way_found d.index.facts.people pattern
    (messages_over mails d.index.facts) (answers_of mails d.index)
    (place_of (seen_of mails d.index) d.index.cursor)

-- the search goes on, or a text is asked for
abbrev pub searched : List Mail → Option PlainPattern → PlainDesk → PlainDesk
searched mails None d = asked Search d
searched mails (Some pattern) d = went mails (search_way mails pattern d) d

-- the next function works on the tagged messages, where some are seen
abbrev pub begun : List Id → PlainDesk → PlainDesk
begun ids d = if length ids == 0 then said notice.NoTagged d else record d { prefix = true }

-- a basic effect
abbrev pub run_effect : Rule → List Mail → Effect → PlainDesk → PlainDesk
run_effect rule mails (effect.Move m) d = went mails (way_of rule mails m d) d
run_effect rule mails (effect.Do act s) d = done_to mails act (scope_ids mails s d) d
run_effect rule mails effect.TagThread d =
    done_to mails (tagging mails d) (scope_ids mails scope.Thread d) d
run_effect rule mails effect.Fold d = fold_done mails false d
run_effect rule mails effect.FoldAll d = fold_done mails true d
run_effect rule mails effect.Resolve d = if rule.resolves && not d.prefix
    then went_quietly mails (way_of rule mails motion.NextUndeleted d) d else d
run_effect rule mails effect.StepOn d = went_quietly mails (way_of rule mails motion.Next d) d
run_effect rule mails effect.SearchAgain d = searched mails d.search d
run_effect rule mails effect.BeginPrefix d = begun (tagged_of (answers_of mails d.index)) d
run_effect rule mails effect.DropPrefix d = record d { prefix = false }
run_effect rule mails effect.TurnWriting d = record d { read_only = not d.read_only }
run_effect rule mails (effect.Ask asking) d = asked asking d
run_effect rule mails (effect.Say notice) d = said notice d
run_effect rule mails effect.End d = record d { wanted = ToEnd }
run_effect rule mails effect.Display d = record d { wanted = ToDisplay }
run_effect rule mails effect.ListParts d = record d { wanted = ToList }
run_effect rule mails effect.Sync d = sync_begun rule mails d
run_effect rule mails effect.Quit d = quit_begun rule mails d

-- effects, one after the other
abbrev pub run_effects : Rule → List Mail → List Effect → PlainDesk → PlainDesk
run_effects rule mails [] d = d
run_effects rule mails (e ∷ effects) d =
    run_effects rule mails effects (run_effect rule mails e d)

-- a function is refused
abbrev pub refused : Notice → PlainDesk → PlainDesk
refused notice d = said notice (record d { prefix = false })

-- what a function does
abbrev pub performed : Rule → List Mail → Function → PlainDesk → PlainDesk
performed rule mails function d =
    if needs_message function && (length (seen_of mails d.index) == 0)
    then refused notice.NoMessages d
    else (if writes function && d.read_only then refused notice.ReadOnly d
    else run_effects rule mails (effects_of function) d)

-- For the code alone.

-- an effect takes no memory and leaves the view alone
abbrev pub IsPut : Effect → Type 0
IsPut (effect.Move m) = ⊥
IsPut (effect.Do act s) = ⊥
IsPut effect.TagThread = ⊥
IsPut effect.Fold = ⊥
IsPut effect.FoldAll = ⊥
IsPut effect.Resolve = ⊥
IsPut effect.StepOn = ⊥
IsPut effect.SearchAgain = ⊥
IsPut effect.BeginPrefix = ⊥
IsPut effect.DropPrefix = Unit {0}
IsPut effect.TurnWriting = Unit {0}
IsPut (effect.Ask asking) = Unit {0}
IsPut (effect.Say notice) = Unit {0}
IsPut effect.End = Unit {0}
IsPut effect.Display = Unit {0}
IsPut effect.ListParts = Unit {0}
IsPut effect.Sync = ⊥
IsPut effect.Quit = ⊥
