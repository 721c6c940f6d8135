-- What small journals leave, computed from the definitions.
use Rattle.std.proofs.Common.{◌≡◌, ◌∷◌, [], ℕ, List, Some, None, refl, codes}
use Rattle.disk_model.specs.Tree.{TreeNode, folder_node}
use Rattle.disk_model.specs.Journal.{Call, Create, WriteAt, Cut, Sync, Rename, Remove, SyncDir}
use Rattle.disk_model.specs.Journal.{MakeDir, Done, Refused, Entry, Own, Others, Appends, Removes}
use Rattle.disk_model.specs.State.{state_after, tree_after}
use Rattle.disk_model.specs.Refusals.{refusal}
use Rattle.disk_model.specs.Fills.{image_of}
use Rattle.disk_model.specs.declared.answers.DiskError.TheVariants.{Missing, WrongNode, Exists}
use Rattle.disk_model.specs.declared.answers.DiskError.TheVariants.{Fault}
use Rattle.disk_model.specs.declared.fill.Fill.{Fill}
use Rattle.disk_model.specs.declared.fill.Fill.TheVariants.{Kept, Written, Byte}

abbrev box : List ℕ
box = codes "box"

abbrev old : List ℕ
old = codes "box/old"

abbrev new : List ℕ
new = codes "box/new"

abbrev file : List ℕ → List ℕ → ℕ → TreeNode
file path bytes stamp = record { path = path; bytes = Some bytes; stamp = stamp }

-- a folder with one file in it
abbrev start : List TreeNode
start = folder_node box ∷ file old (codes "abc") 1 ∷ []

-- the call was answered Ok
abbrev done : Call → Entry
done call = Own call Done

-- what stands behind these entries
abbrev tree_behind : List Entry → List TreeNode
tree_behind journal = tree_after (record { first = start; journal = journal })

-- the image behind these entries in which so many name operations stand
abbrev image_behind : List Entry → ℕ → Fill → List TreeNode
image_behind journal = image_of (state_after (record { first = start; journal = journal }))

-- the folder with this file as an image shows it, without a stamp
abbrev box_with : List ℕ → List TreeNode
box_with bytes = folder_node box ∷ file old bytes 0 ∷ []

-- Bytes that we wrote may be lost, or be any, until they are synced.

abbrev overwriting : List Entry
overwriting = done (WriteAt old 2 (codes "XY")) ∷ []

overwritten-seen : tree_behind overwriting ≡ folder_node box ∷ file old (codes "abXY") 2 ∷ []
overwritten-seen = refl

overwritten-lost : image_behind overwriting 0 Kept ≡ box_with (codes "abc")
overwritten-lost = refl

overwritten-there : image_behind overwriting 0 Written ≡ box_with (codes "abXY")
overwritten-there = refl

overwritten-garbled : image_behind overwriting 0 (Byte 46) ≡ box_with (codes "ab..")
overwritten-garbled = refl

overwritten-synced : image_behind (done (WriteAt old 2 (codes "XY")) ∷ done (Sync old) ∷ []) 0 Kept
    ≡ box_with (codes "abXY")
overwritten-synced = refl

-- the same of a piece at the end: a part of it may be left, also of other bytes
abbrev appending : List Entry
appending = done (WriteAt old 3 (codes "de")) ∷ []

appended-lost : image_behind appending 0 Kept ≡ box_with (codes "abc")
appended-lost = refl

appended-garbled : image_behind appending 0 (Byte 46) ≡ box_with (codes "abc..")
appended-garbled = refl

appended-synced : image_behind (done (WriteAt old 3 (codes "de")) ∷ done (Sync old) ∷ []) 0 Kept
    ≡ box_with (codes "abcde")
appended-synced = refl

-- the places between the end and a later piece hold zero bytes, and are open with it
gap-seen : tree_behind (done (WriteAt old 5 (codes "Z")) ∷ [])
    ≡ folder_node box ∷ file old (97 ∷ 98 ∷ 99 ∷ 0 ∷ 0 ∷ 90 ∷ []) 2 ∷ []
gap-seen = refl

gap-garbled : image_behind (done (WriteAt old 5 (codes "Z")) ∷ []) 0 (Byte 46)
    ≡ box_with (codes "abc...")
gap-garbled = refl

-- what was cut away may come back
cut-lost : image_behind (done (Cut old 1) ∷ []) 0 Kept ≡ box_with (codes "abc")
cut-lost = refl

cut-garbled : image_behind (done (Cut old 1) ∷ []) 0 (Byte 46) ≡ box_with (codes "a..")
cut-garbled = refl

-- a write that failed had written its first bytes
failed-seen : tree_behind (Own (WriteAt old 0 (codes "XYZ")) (Refused Fault 2) ∷ [])
    ≡ folder_node box ∷ file old (codes "XYc") 2 ∷ []
failed-seen = refl

-- what others put behind our own bytes stands, and ours may be any
abbrev followed : List Entry
followed = done (WriteAt old 3 (codes "d")) ∷ Others (Appends old (codes "e")) ∷ []

followed-lost : image_behind followed 0 Kept ≡ box_with (codes "abcde")
followed-lost = refl

followed-garbled : image_behind followed 0 (Byte 46) ≡ box_with (codes "abc.e")
followed-garbled = refl

-- Names stand one behind the other.

-- a file is replaced by a new one, which is synced first
abbrev replacing : List Entry
replacing =
    done (Create new) ∷ done (WriteAt new 0 (codes "xy")) ∷ done (Sync new) ∷ done (Rename new old)
    ∷ []

replaced-seen : tree_behind replacing ≡ file old (codes "xy") 3 ∷ folder_node box ∷ []
replaced-seen = refl

replaced-none : image_behind replacing 0 Kept ≡ box_with (codes "abc")
replaced-none = refl

replaced-made : image_behind replacing 1 Kept ≡ file new (codes "xy") 0 ∷ box_with (codes "abc")
replaced-made = refl

replaced-moved : image_behind replacing 2 Kept ≡ file old (codes "xy") 0 ∷ folder_node box ∷ []
replaced-moved = refl

-- where the folder is synced too, no name operation is open
abbrev replaced_whole : List Entry
replaced_whole =
    done (Create new) ∷ done (WriteAt new 0 (codes "xy")) ∷ done (Sync new) ∷ done (Rename new old)
    ∷ done (SyncDir box)
    ∷ []

replaced_whole-stands : image_behind replaced_whole 0 Kept ≡ file old (codes "xy") 0
    ∷ folder_node box ∷ []
replaced_whole-stands = refl

-- where the new file was not synced, the rename may stand without its bytes
abbrev hasty : List Entry
hasty = done (Create new) ∷ done (WriteAt new 0 (codes "xy")) ∷ done (Rename new old) ∷ []

hasty-empty : image_behind hasty 2 Kept ≡ file old [] 0 ∷ folder_node box ∷ []
hasty-empty = refl

removed-back : image_behind (done (Remove old) ∷ []) 0 Kept ≡ box_with (codes "abc")
removed-back = refl

removed-gone : image_behind (done (Remove old) ∷ []) 1 Kept ≡ folder_node box ∷ []
removed-gone = refl

-- an action of others that does not fit does nothing
unfit-seen : tree_behind (Others (Removes box) ∷ []) ≡ start
unfit-seen = refl

-- Why calls are refused.

make-exists : refusal (Create old) start ≡ Some Exists
make-exists = refl

make-below_file : refusal (MakeDir (codes "box/old/sub")) start ≡ Some Missing
make-below_file = refl

sync-folder : refusal (Sync box) start ≡ Some WrongNode
sync-folder = refl

remove-missing : refusal (Remove new) start ≡ Some Missing
remove-missing = refl

rename-onto_folder : refusal (Rename old box) start ≡ Some WrongNode
rename-onto_folder = refl

-- the root is a folder of every tree
list-root : refusal (SyncDir (codes "/")) start ≡ None
list-root = refl
