-- Which refusals a tree has.
use Rattle.std.proofs.Common.{◌≡◌, ◌<◌, ℕ, Bool, true, false, List, Option, Some, None, length}
use Rattle.std.proofs.Common.{is_none, nat_lt, if◌then◌else◌, refl, arith}
use borrow.Author.Tests.{ltb-true}
use Rattle.disk_model.specs.Tree.{TreeNode, folder_of, node_at}
use Rattle.disk_model.specs.Journal.{Call, ListDir, StatPath, ReadFront, ReadAll, Create, WriteAt}
use Rattle.disk_model.specs.Journal.{Cut, Sync, Rename, Remove, SyncDir, MakeDir}
use Rattle.disk_model.specs.Answers.{IsErrorOf}
use Rattle.disk_model.specs.Refusals.{below_refusal, file_refusal, first_refusal, folder_refusal}
use Rattle.disk_model.specs.Refusals.{free_refusal, length_refusal, long_refusal, make_refusal}
use Rattle.disk_model.specs.Refusals.{missing_refusal, refusal, rename_refusal, target_refusal}
use Rattle.disk_model.specs.declared.answers.DiskError.{DiskError}
use Rattle.disk_model.specs.declared.answers.DiskError.TheVariants.{Missing, WrongNode, Exists}
use Rattle.disk_model.specs.declared.answers.DiskError.TheVariants.{Long, Fault, NoMemory}

-- A fact of each refusal, by those that there are.

by_test : (P : Option DiskError → Type 0) (b : Bool) (one other : Option DiskError) → P one
    → P other
    → P (if b then one else other)
by_test P true one other p q = p
by_test P false one other p q = q

missing_all : (P : Option DiskError → Type 0) → P None → P (Some Missing) → (node : Option TreeNode)
    → P (missing_refusal node)
missing_all P none missing None = missing
missing_all P none missing (Some node) = none

file_all : (P : Option DiskError → Type 0) → P None → P (Some Missing) → P (Some WrongNode)
    → (node : Option TreeNode)
    → P (file_refusal node)
file_all P none missing wrong None = missing
file_all P none missing wrong (Some node) =
    by_test P (is_none node.bytes) (Some WrongNode) None wrong none

folder_all : (P : Option DiskError → Type 0) → P None → P (Some Missing) → P (Some WrongNode)
    → (node : Option TreeNode) → P (folder_refusal node)
folder_all P none missing wrong None = missing
folder_all P none missing wrong (Some node) =
    by_test P (is_none node.bytes) None (Some WrongNode) none wrong

below_all : (P : Option DiskError → Type 0) → P None → P (Some Missing) → (node : Option TreeNode)
    → P (below_refusal node)
below_all P none missing None = missing
below_all P none missing (Some node) =
    by_test P (is_none node.bytes) None (Some Missing) none missing

free_all : (P : Option DiskError → Type 0) → P None → P (Some Exists) → (node : Option TreeNode)
    → P (free_refusal node)
free_all P none exists None = none
free_all P none exists (Some node) = exists

target_all : (P : Option DiskError → Type 0) → P None → P (Some WrongNode)
    → (node : Option TreeNode)
    → P (target_refusal node)
target_all P none wrong None = none
target_all P none wrong (Some node) =
    by_test P (is_none node.bytes) (Some WrongNode) None wrong none

first_all : (P : Option DiskError → Type 0) (one next : Option DiskError) → P one → P next
    → P (first_refusal one next)
first_all P None next p q = q
first_all P (Some why) next p q = p

length_if : (P : Option DiskError → Type 0) (limit size : ℕ) (b : Bool) → nat_lt limit size ≡ b
    → P None
    → ((size : ℕ) → limit < size → P (Some (Long size))) → P (if b then Some (Long size) else None)
length_if P limit size true is none long = long size (omega (arith, ltb-true limit size is))
length_if P limit size false is none long = none

length_all : (P : Option DiskError → Type 0) (limit : ℕ) → P None
    → ((size : ℕ) → limit < size → P (Some (Long size)))
    → (bytes : Option (List ℕ)) → P (length_refusal limit bytes)
length_all P limit none long None = none
length_all P limit none long (Some bytes) =
    length_if P limit (length bytes) (nat_lt limit (length bytes)) refl none long

long_all : (P : Option DiskError → Type 0) (limit : ℕ) → P None
    → ((size : ℕ) → limit < size → P (Some (Long size)))
    → (node : Option TreeNode) → P (long_refusal limit node)
long_all P limit none long None = none
long_all P limit none long (Some node) = length_all P limit none long node.bytes

make_all : (P : Option DiskError → Type 0) → P None → P (Some Missing) → P (Some Exists)
    → (tree : List TreeNode)
    (path : List ℕ) → P (make_refusal tree path)
make_all P none missing exists tree path =
    first_all P (below_refusal (node_at tree (folder_of path))) (free_refusal (node_at tree path))
    (below_all P none missing (node_at tree (folder_of path)))
    (free_all P none exists (node_at tree path))

rename_all : (P : Option DiskError → Type 0) → P None → P (Some Missing) → P (Some WrongNode)
    → (tree : List TreeNode)
    (from to : List ℕ) → P (rename_refusal tree from to)
rename_all P none missing wrong tree from to =
    first_all P (missing_refusal (node_at tree from)) _
    (missing_all P none missing (node_at tree from))
    (first_all P (below_refusal (node_at tree (folder_of to))) _
    (below_all P none missing (node_at tree (folder_of to)))
    (first_all P (file_refusal (node_at tree from)) (target_refusal (node_at tree to))
    (file_all P none missing wrong (node_at tree from))
    (target_all P none wrong (node_at tree to))))

-- neither a fault nor want of memory
abbrev pub IsCause : DiskError → Type 0
IsCause Missing = Unit {0}
IsCause WrongNode = Unit {0}
IsCause Exists = Unit {0}
IsCause (Long size) = Unit {0}
IsCause Fault = ⊥
IsCause NoMemory = ⊥

-- a refusal that a call may have of a tree
abbrev pub MayRefuse : Call → Option DiskError → Type 0
MayRefuse call None = Unit {0}
MayRefuse call (Some why) = IsErrorOf call why × IsCause why

pub may_refuse : (call : Call) (tree : List TreeNode) → MayRefuse call (refusal call tree)
may_refuse (ListDir dir) tree =
    folder_all (MayRefuse (ListDir dir)) tt (tt, tt) (tt, tt) (node_at tree dir)
may_refuse (StatPath path) tree =
    missing_all (MayRefuse (StatPath path)) tt (tt, tt) (node_at tree path)
may_refuse (ReadFront path size) tree =
    file_all (MayRefuse (ReadFront path size)) tt (tt, tt) (tt, tt)
    (node_at tree path)
may_refuse (ReadAll path limit) tree =
    first_all (MayRefuse (ReadAll path limit)) (file_refusal (node_at tree path))
    (long_refusal limit (node_at tree path))
    (file_all (MayRefuse (ReadAll path limit)) tt (tt, tt) (tt, tt) (node_at tree path))
    (long_all (MayRefuse (ReadAll path limit)) limit tt (λ size more. (more, tt))
    (node_at tree path))
may_refuse (Create path) tree = make_all (MayRefuse (Create path)) tt (tt, tt) (tt, tt) tree path
may_refuse (WriteAt path at piece) tree =
    file_all (MayRefuse (WriteAt path at piece)) tt (tt, tt) (tt, tt)
    (node_at tree path)
may_refuse (Cut path size) tree =
    file_all (MayRefuse (Cut path size)) tt (tt, tt) (tt, tt) (node_at tree path)
may_refuse (Sync path) tree =
    file_all (MayRefuse (Sync path)) tt (tt, tt) (tt, tt) (node_at tree path)
may_refuse (Rename from to) tree =
    rename_all (MayRefuse (Rename from to)) tt (tt, tt) (tt, tt) tree from to
may_refuse (Remove path) tree =
    file_all (MayRefuse (Remove path)) tt (tt, tt) (tt, tt) (node_at tree path)
may_refuse (SyncDir dir) tree =
    folder_all (MayRefuse (SyncDir dir)) tt (tt, tt) (tt, tt) (node_at tree dir)
may_refuse (MakeDir path) tree = make_all (MayRefuse (MakeDir path)) tt (tt, tt) (tt, tt) tree path
