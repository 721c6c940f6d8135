-- What the looks answer, by why they are refused and what else they give.
use Rattle.std.proofs.Common.{◌≡◌, ℕ, Bool, true, false, List, [], Option, Some, None, Ok, Err}
use Rattle.std.proofs.Common.{length, nat_lt, if◌then◌else◌, is_none, refl}
use Rattle.disk_model.specs.Tree.{TreeNode, node_at}
use Rattle.disk_model.specs.Journal.{StatPath, ReadAll}
use Rattle.disk_model.specs.Judge.{answer_by, bytes_of, node_bytes, read_at, read_node, read_of}
use Rattle.disk_model.specs.Judge.{stat_at, stat_node, stat_of}
use Rattle.disk_model.specs.Reading.{length_of, node_length}
use Rattle.disk_model.specs.Refusals.{file_refusal, first_refusal, length_refusal, long_refusal}
use Rattle.disk_model.specs.Refusals.{missing_refusal, refusal}
use Rattle.disk_model.specs.declared.answers.Stat.{Stat}
use Rattle.disk_model.specs.declared.answers.DiskError.TheVariants.{WrongNode, Long}

-- what `stat` gives of what stands there
abbrev pub stat_value : Option TreeNode → Stat
stat_value None = stat_node None 0
stat_value (Some node) = stat_node node.bytes node.stamp

stat_by : (node : Option TreeNode)
    → stat_at node ≡ answer_by (missing_refusal node) (stat_value node)
stat_by None = refl
stat_by (Some node) = refl

pub stat_answers : (tree : List TreeNode) (path : List ℕ)
    → stat_of tree path ≡ answer_by (refusal (StatPath path) tree) (stat_value (node_at tree path))
stat_answers tree path = stat_by (node_at tree path)

-- what a whole read gives of a file with these bytes
abbrev pub read_bytes : Option (List ℕ) → ℕ → Stat × List ℕ
read_bytes None stamp = (stat_node None 0, [])
read_bytes (Some bytes) stamp = (stat_node (Some bytes) stamp, bytes)

-- what it gives of what stands there
abbrev pub read_value : Option TreeNode → Stat × List ℕ
read_value None = (stat_node None 0, [])
read_value (Some node) = read_bytes node.bytes node.stamp

read_if : (long : Bool) (size : ℕ) (value : Stat × List ℕ)
    → (if long then Err (Long size) else Ok value)
    ≡ answer_by (if long then Some (Long size) else None) value
read_if true size value = refl
read_if false size value = refl

read_by_bytes : (bytes : Option (List ℕ)) (stamp limit : ℕ)
    → read_node bytes stamp limit
    ≡ answer_by
    (first_refusal (if is_none bytes then Some WrongNode else None)
    (length_refusal limit bytes))
    (read_bytes bytes stamp)
read_by_bytes None stamp limit = refl
read_by_bytes (Some bytes) stamp limit =
    read_if (nat_lt limit (length bytes)) (length bytes) (stat_node (Some bytes) stamp, bytes)

read_by : (node : Option TreeNode) (limit : ℕ)
    → read_at node limit
    ≡ answer_by (first_refusal (file_refusal node) (long_refusal limit node)) (read_value node)
read_by None limit = refl
read_by (Some node) limit = read_by_bytes node.bytes node.stamp limit

pub read_answers : (tree : List TreeNode) (path : List ℕ) (limit : ℕ)
    → read_of tree path limit
    ≡ answer_by (refusal (ReadAll path limit) tree) (read_value (node_at tree path))
read_answers tree path limit = read_by (node_at tree path) limit

-- a whole read gives as many bytes as the file is long
length-read_bytes : (bytes : Option (List ℕ)) (stamp : ℕ)
    → length (read_bytes bytes stamp).1 ≡ length_of bytes
length-read_bytes None stamp = refl
length-read_bytes (Some bytes) stamp = refl

pub length-read_value : (node : Option TreeNode) → length (read_value node).1 ≡ node_length node
length-read_value None = refl
length-read_value (Some node) = length-read_bytes node.bytes node.stamp

-- the bytes of a node are as many as it is long
length-bytes_of : (bytes : Option (List ℕ)) → length (bytes_of bytes) ≡ length_of bytes
length-bytes_of None = refl
length-bytes_of (Some bytes) = refl

pub length-node_bytes : (node : Option TreeNode) → length (node_bytes node) ≡ node_length node
length-node_bytes None = refl
length-node_bytes (Some node) = length-bytes_of node.bytes
