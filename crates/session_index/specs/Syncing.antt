-- How a sync and the end of the run are asked for, and what a sync leaves.
use Rattle.std.specs.Prelude.{◌||◌, ◌==◌, ℕ, Bool, true, false, not, List, length}
use Rattle.std.specs.Prelude.{if◌then◌else◌}
use Rattle.std.specs.List.{count_by}
use Rattle.folder_letters.specs.Letters.{Mail}
use Rattle.mail_base.specs.declared.kind.Kind.{Kind}
use Rattle.rc_lang.specs.declared.quad.Quad.{Quad}
use Rattle.rc_lang.specs.declared.quad.Quad.TheVariants.{Yes, No, AskYes, AskNo}
use Rattle.index_items.specs.Changes.{Changed, changes_of, settled}
use Rattle.index_items.specs.Tally.{is_deleted}
use Rattle.index_items.specs.declared.act.Act.{Act}
use Rattle.index_items.specs.declared.act.Act.TheVariants.{Age, Clear}
use Rattle.index_items.specs.declared.act.Mark.TheVariants.{Deleted}
use Rattle.index_functions.specs.Rules.{is_written}
use Rattle.index_functions.specs.Syncs.{count_discards, synced_text}
use Rattle.index_functions.specs.declared.notice.Notice.TheVariants as notice
use Rattle.index_functions.specs.declared.rule.Rule.{Rule}
use Rattle.prompts.specs.declared.asking.Asking.TheVariants.{Purge, Quit}
use Rattle.session_index.specs.Acts.{all_acted}
use Rattle.session_index.specs.Desk.{PlainDesk, PlainWanted, ToEnd, ToSync, asked, said, wanting}
use Rattle.session_index.specs.Desk.{with_index}
use Rattle.session_index.specs.Index.{PlainIndex, answers_of, given}

-- how many of the listed messages are marked deleted
abbrev pub deleted_count : PlainDesk → ℕ
deleted_count d = count_by is_deleted d.index.facts.items

-- a sync has nothing to do
abbrev pub is_unchanged : Kind → Bool → PlainDesk → Bool
is_unchanged kind purge d = length (changes_of kind purge d.index.facts.items) == 0

-- this is done to all messages at once
abbrev pub done_to_all : List Mail → Act → PlainDesk → PlainDesk
done_to_all mails act d = with_index (all_acted mails act d.index) d

-- where deleted messages do not go, none is marked any longer
abbrev pub dropped_unless : List Mail → Bool → PlainDesk → PlainDesk
dropped_unless mails purge d = if purge then d else done_to_all mails (Clear Deleted) d

-- where that is wished, unread messages are old
abbrev pub aged_if : List Mail → Bool → PlainDesk → PlainDesk
aged_if mails ages d = if ages then done_to_all mails Age d else d

-- what the end of the run wants: a sync first, where that has something to do
abbrev pub end_wanted : Kind → Bool → PlainDesk → PlainWanted
end_wanted kind purge d = if is_unchanged kind purge d then ToEnd else ToSync purge true

-- the run is to end, behind a sync where that has something to do
abbrev pub ended : Kind → Bool → PlainDesk → PlainDesk
ended kind purge d = wanting (end_wanted kind purge d) d

-- a sync is asked for, and whether deleted messages go is known
abbrev pub sync_answered : Rule → Bool → PlainDesk → PlainDesk
sync_answered rule purge d = if is_unchanged rule.kind purge d
    then said notice.Unchanged d else wanting (ToSync purge false) d

-- the end of the run is asked for, and whether deleted messages go is known
abbrev pub quit_answered : Rule → List Mail → Bool → PlainDesk → PlainDesk
quit_answered rule mails purge d =
    ended rule.kind purge (aged_if mails rule.mark_old (dropped_unless mails purge d))

-- whether deleted messages go is known
abbrev pub purge_answered : Rule → List Mail → Bool → Bool → PlainDesk → PlainDesk
purge_answered rule mails purge quits d =
    if quits then quit_answered rule mails purge d else sync_answered rule purge d

-- whether deleted messages go is asked, or said by the variable
abbrev pub purge_by : Quad → Rule → List Mail → Bool → PlainDesk → PlainDesk
purge_by Yes rule mails quits d = purge_answered rule mails true quits d
purge_by No rule mails quits d = purge_answered rule mails false quits d
purge_by AskYes rule mails quits d = asked (Purge (deleted_count d) true quits) d
purge_by AskNo rule mails quits d = asked (Purge (deleted_count d) false quits) d

-- the same, where messages are marked deleted
abbrev pub purge_asked : Rule → List Mail → Bool → PlainDesk → PlainDesk
purge_asked rule mails quits d = if deleted_count d == 0
    then purge_answered rule mails false quits d else purge_by rule.delete rule mails quits d

-- changes are to be written
abbrev pub sync_begun : Rule → List Mail → PlainDesk → PlainDesk
sync_begun rule mails d =
    if is_written rule.kind then purge_asked rule mails false d else said notice.ReadOnly d

-- nothing may be written
abbrev pub is_shielded : Kind → PlainDesk → Bool
is_shielded kind d = d.read_only || not (is_written kind)

-- the run is left
abbrev pub left : Rule → List Mail → PlainDesk → PlainDesk
left rule mails d =
    if is_shielded rule.kind d then wanting ToEnd d else purge_asked rule mails true d

-- whether the run is left was asked
abbrev pub leave_answered : Rule → List Mail → Bool → PlainDesk → PlainDesk
leave_answered rule mails leaves d = if leaves then left rule mails d else d

-- the run is left, or not, or that is asked
abbrev pub quit_by : Quad → Rule → List Mail → PlainDesk → PlainDesk
quit_by Yes rule mails d = left rule mails d
quit_by No rule mails d = said notice.QuitForbidden d
quit_by AskYes rule mails d = asked (Quit true) d
quit_by AskNo rule mails d = asked (Quit false) d

-- the run is to end, as the variable says
abbrev pub quit_begun : Rule → List Mail → PlainDesk → PlainDesk
quit_begun rule mails d = quit_by rule.quit rule mails d

-- the index behind a sync that made these changes
abbrev pub settled_index : List Mail → Kind → List Changed → PlainIndex → PlainIndex
settled_index mails kind changes i =
    given mails (record i.facts { items = settled kind changes i.facts.items }) i

-- how many messages an index has
abbrev pub count_of : List Mail → PlainIndex → ℕ
count_of mails i = length (answers_of mails i).sight.order

-- how many messages a sync left is told
abbrev pub told : List Mail → List Changed → PlainDesk → PlainDesk
told mails changes d =
    record d { message = synced_text (count_of mails d.index) (count_discards changes) }

-- a sync made these changes
abbrev pub synced : List Mail → Kind → List Changed → PlainDesk → PlainDesk
synced mails kind changes d =
    told mails changes (with_index (settled_index mails kind changes d.index) d)
