-- The images that a disk shows: so many name operations stand, and the open places of files are
-- filled in one way.
use Rattle.std.specs.Prelude.{◌≡◌, ℕ, ◌-◌, List, [], Option, Some, None, length, map, nat_lt}
use Rattle.std.specs.Prelude.{slice_index, slice_index_or, if◌then◌else◌}
use Rattle.std.specs.List.{range_with_len}
use Rattle.mail_base.specs.Series.{Held}
use Rattle.disk_model.specs.Tree.{TreeNode}
use Rattle.disk_model.specs.Journal.{Past}
use Rattle.disk_model.specs.State.{File, Name, State, file_at, state_after}
use Rattle.disk_model.specs.Images.{is_touched}
use Rattle.disk_model.specs.Node.{plain_node}
use Rattle.disk_model.specs.declared.node.Node.{Node}
use Rattle.disk_model.specs.declared.fill.Fill.{Fill}
use Rattle.disk_model.specs.declared.fill.Fill.TheVariants.{Kept, Written, Byte}

-- the names after the first so many name operations since the last barrier, or after all of them
abbrev pub names_after : State → ℕ → List Name
names_after state count =
    if nat_lt count (length state.earlier)
    then slice_index_or state.earlier (length state.earlier - 1 - count) [] else state.names

-- the byte of a place where the touched ones hold this one
abbrev pub filled_byte : File → ℕ → ℕ → ℕ
filled_byte file byte place =
    if is_touched file.touched place then byte else slice_index file.bytes place

-- the bytes of a file in an image
abbrev pub filled : Fill → File → List ℕ
filled Kept file = file.kept
filled Written file = file.bytes
filled (Byte byte) file = map (filled_byte file byte) (range_with_len 0 file.greatest)

-- the bytes of a file of that number, where a name has one
abbrev pub filled_at : Fill → List File → Option ℕ → Option (List ℕ)
filled_at fill files None = None
filled_at fill files (Some number) = Some (filled fill (file_at files number))

-- the names as a tree, without stamps
abbrev pub filled_tree : Fill → List File → List Name → List TreeNode
filled_tree fill files names =
    map (λ name. record { path = name.path; bytes = filled_at fill files name.file; stamp = 0 })
    names

-- the image of a state
abbrev pub image_of : State → ℕ → Fill → List TreeNode
image_of state count fill = filled_tree fill state.files (names_after state count)

-- the image that a disk with this past shows: none where it is not told
abbrev pub IsShown : Option Past → ℕ → Fill → Option (Held Node) → Type 0
IsShown None count fill shown = shown ≡ None
IsShown (Some past) count fill None = ⊥
IsShown (Some past) count fill (Some tree) =
    map plain_node tree.items ≡ image_of (state_after past) count fill
