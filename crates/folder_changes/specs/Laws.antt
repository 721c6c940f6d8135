-- Laws of the definitions.
use Rattle.std.specs.Prelude.{◌≡◌, ◌≤◌, ◌<◌, ◌+◌, ℕ, Bool, true, false, List, Option, None}
use Rattle.std.specs.Prelude.{option_map}
use Rattle.mail_base.specs.Flags.{applied, stored}
use Rattle.mail_base.specs.declared.flags.Flags.{Flags}
use Rattle.mail_base.specs.declared.kind.Kind.{Kind}
use Rattle.mail_base.specs.declared.kind.Kind.TheVariants.{Maildir}
use Rattle.disk_model.specs.Journal.{Past, Remove, Rename}
use Rattle.disk_model.specs.Refusals.{refusal}
use Rattle.disk_model.specs.State.{State, after_done, tree_at, tree_of}
use Rattle.disk_model.specs.Tree.{TreeNode}
use Rattle.index_items.specs.Changes.{PlainChange, Alters, Discards}
use Rattle.folder_core.specs.Maildir.{MaildirFile, base_of, is_shown, maildir_reads, path_of}
use Rattle.folder_core.specs.Message.{Message}
use Rattle.folder_changes.specs.Maildir.{IsSingleNamed, RenamesFile, TakesFile, flags_named}
use Rattle.folder_changes.specs.Wanted.{change_at, wanted}
use Rattle.folder_changes.specs.Worked.{WasCause, Works, others_at, own_at}

-- steps with nobody else between them leave what is wanted of the messages before the first
abbrev pub StepsAloneDoWhatIsWanted : Type 0
StepsAloneDoWhatIsWanted = (kind : Kind) (what : List ℕ → Option PlainChange)
    (reads_at : ℕ → Option (List Message)) (m n : ℕ) (past : Past)
    → ((mark : ℕ) → m ≤ mark → mark < n → own_at mark past ≡ true)
    → Works kind what reads_at m n past → m ≤ n
    → reads_at n ≡ option_map (wanted kind what) (reads_at m)

-- a state of the tree that did not stand at a mark, that comes by actions of others alone, and that
-- stands at a later mark, was no doing of ours
abbrev pub CausesAreOthers : Type 0
CausesAreOthers = (is_so : List TreeNode → Bool) (past : Past) (m i j n : ℕ)
    → is_so (tree_at past i) ≡ false
    → ((k : ℕ) → i ≤ k → is_so (tree_at past k) ≡ false → is_so (tree_at past (k + 1)) ≡ true
    → others_at k past ≡ true)
    → m ≤ i → i ≤ j → j ≤ n → is_so (tree_at past j) ≡ true → WasCause is_so m n past

-- a Maildir of which the file of one base went reads as before without its message
abbrev pub TakenFilesTakeOneMessage : Type 0
TakenFilesTakeOneMessage = (path base : List ℕ) (old new : List TreeNode) → IsSingleNamed path old
    → TakesFile path base old new
    → IsSingleNamed path new × (maildir_reads new path
    ≡ option_map (wanted Maildir (change_at base Discards)) (maildir_reads old path))

-- a Maildir in which the file of one base has another name reads as before but for the flags of
-- its message
abbrev pub RenamedFilesChangeOneMessage : Type 0
RenamedFilesChangeOneMessage = (path base : List ℕ) (change : PlainChange)
    (old new : List TreeNode) → IsSingleNamed path old → RenamesFile path base change old new
    → IsSingleNamed path new × (maildir_reads new path
    ≡ option_map (wanted Maildir (change_at base change)) (maildir_reads old path))

-- an own call that renames a file of a Maildir in which each base stands under one name, to a name
-- of the same base that tells the flags with a change, renames the file of that base
abbrev pub OwnRenamesRenameFiles : Type 0
OwnRenamesRenameFiles = (path : List ℕ) (from to : MaildirFile) (added cleared : Flags)
    (state : State) → IsSingleNamed path (tree_of state) → is_shown from.name ≡ true
    → is_shown to.name ≡ true → base_of to ≡ base_of from
    → flags_named to ≡ stored Maildir (applied (flags_named from) added cleared)
    → refusal (Rename (path_of path from) (path_of path to)) (tree_of state) ≡ None
    → RenamesFile path (base_of from) (Alters added cleared) (tree_of state)
    (tree_of (after_done (Rename (path_of path from) (path_of path to)) state))

-- an own call that removes a file of such a Maildir takes the file of its base
abbrev pub OwnRemovalsTakeFiles : Type 0
OwnRemovalsTakeFiles = (path : List ℕ) (file : MaildirFile) (state : State)
    → IsSingleNamed path (tree_of state) → is_shown file.name ≡ true
    → refusal (Remove (path_of path file)) (tree_of state) ≡ None
    → TakesFile path (base_of file) (tree_of state)
    (tree_of (after_done (Remove (path_of path file)) state))
