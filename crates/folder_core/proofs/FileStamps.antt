-- Two files that stood in one past with one stamp had one content.
use Rattle.std.proofs.Common.{◌≡◌, ◌≤◌, ◌<◌, ◌+◌, ◌-◌, ◌⊎◌, ℕ, zero, suc, true, List, [], ◌∷◌}
use Rattle.std.proofs.Common.{Option, Some, None, inl, inr, length, take, drop, refl, sym, ◌∙◌, ap}
use Rattle.std.proofs.Common.{subst, arith, take-add}
use Rattle.disk_model.specs.Tree.{TreeNode, is_first_tree, node_at}
use Rattle.disk_model.specs.Journal.{Entry, Past}
use Rattle.disk_model.specs.State.{File, State, file_at, name_at, run_entries, state_at, state_of}
use Rattle.disk_model.specs.State.{tree_at}
use Rattle.disk_model.specs.Laws.{AreStampedOnce, HasFiles, IsNew, Older}
use Rattle.disk_model.proofs.LawsOfNames.{each_name_has_its_file, names_are_of_files}
use Rattle.disk_model.proofs.Runs.{run_entries-append}
use Rattle.disk_model.proofs.Trees.{node_at-tree_of, node_by}
use Rattle.folder_core.specs.Bore.{Bore}
use Rattle.folder_core.specs.Directory.{node_file, stamp_there}
use Rattle.std.specs.Prelude.{option_and_then}
use Rattle.folder_core.proofs.LaterStates.{Later, later_entries, stamps_tell}

-- The files of one state.

older_at : (clock : ℕ) (files : List File) (n : ℕ) → n < length files → Older clock files
    → (file_at files n).stamp < clock
older_at clock [] n low old = absurd (omega (arith, low))
older_at clock (file ∷ files) zero low old = old.0
older_at clock (file ∷ files) (suc n) low old = older_at clock files n (omega (arith, low)) old.1

new_at : (stamp : ℕ) (files : List File) (n : ℕ) → n < length files → IsNew stamp files
    → stamp ≡ (file_at files n).stamp → ⊥
new_at stamp [] n low new = absurd (omega (arith, low))
new_at stamp (file ∷ files) zero low new = new.0
new_at stamp (file ∷ files) (suc n) low new = new_at stamp files n (omega (arith, low)) new.1

once_at : (files : List File) (n k : ℕ) → n < length files → k < length files → AreStampedOnce files
    → (file_at files n).stamp ≡ (file_at files k).stamp → n ≡ k
once_at [] n k low high once is = absurd (omega (arith, low))
once_at (file ∷ files) zero zero low high once is = refl
once_at (file ∷ files) zero (suc k) low high once is =
    absurd (new_at file.stamp files k (omega (arith, high)) once.0 is)
once_at (file ∷ files) (suc n) zero low high once is =
    absurd (new_at file.stamp files n (omega (arith, low)) once.0 (sym is))
once_at (file ∷ files) (suc n) (suc k) low high once is =
    ap suc (once_at files n k (omega (arith, low)) (omega (arith, high)) once.1 is)

-- The file that stands at a path.

pub record Stands (state : State) (bytes : List ℕ) (stamp : ℕ) : Type 0 where
  pub number : ℕ
  pub low : number < length state.files
  pub bytes_are : (file_at state.files number).bytes ≡ bytes
  pub stamp_is : (file_at state.files number).stamp ≡ stamp

-- the bytes and the stamp of a node that is a file
pub record IsFileNode (node : Option TreeNode) (bytes : List ℕ) (stamp : ℕ) : Type 0 where
  pub there : TreeNode
  pub node_is : node ≡ Some there
  pub bytes_are : there.bytes ≡ Some bytes
  pub stamp_is : there.stamp ≡ stamp

stands_by : (state : State) (path : List ℕ) (at : Option (Option ℕ)) (bytes : List ℕ) (stamp : ℕ)
    → HasFiles state → name_at state.names path ≡ at
    → IsFileNode (node_by state.files path at) bytes stamp → Stands state bytes stamp
stands_by state path None bytes stamp has at node = absurd (let no = node.node_is in cc)
stands_by state path (Some None) bytes stamp has at node =
    absurd (let same = node.node_is in let no = node.bytes_are in
    none_some bytes (ap (λ (n : Option TreeNode). bytes_in n) same ∙ no))
  where
    bytes_in : Option TreeNode → Option (List ℕ)
    bytes_in None = None
    bytes_in (Some n) = n.bytes

    none_some : (l : List ℕ) → ◌≡◌ {A = Option (List ℕ)} None (Some l) → ⊥
    none_some l e = cc
stands_by state path (Some (Some number)) bytes stamp has at node = record {
  number = number;
  low = (names_are_of_files state path number has at).below;
  bytes_are = some_same _ _ (ap (λ (n : Option TreeNode). bytes_in n) node.node_is
      ∙ node.bytes_are);
  stamp_is = ap (λ (n : Option TreeNode). stamp_in n) node.node_is ∙ node.stamp_is;
}
  where
    bytes_in : Option TreeNode → Option (List ℕ)
    bytes_in None = None
    bytes_in (Some n) = n.bytes

    stamp_in : Option TreeNode → ℕ
    stamp_in None = 0
    stamp_in (Some n) = n.stamp

    some_same : (a b : List ℕ) → ◌≡◌ {A = Option (List ℕ)} (Some a) (Some b) → a ≡ b
    some_same a b e = cc

stands_at : (past : Past) (mark : ℕ) (path bytes : List ℕ) (stamp : ℕ)
    → is_first_tree past.first ≡ true
    → IsFileNode (node_at (tree_at past mark) path) bytes stamp
    → Stands (state_at past mark) bytes stamp
stands_at past mark path bytes stamp first node =
    let state : State = state_at past mark in
    stands_by state path (name_at state.names path) bytes stamp
    (each_name_has_its_file past mark first) refl
    (record {
      there = node.there;
      node_is = sym (node_at-tree_of state path) ∙ node.node_is;
      bytes_are = node.bytes_are;
      stamp_is = node.stamp_is;
    })

-- The states at two marks.

later_at : (past : Past) (m more : ℕ) → Later (state_at past m) (state_at past (m + more))
later_at past m more =
    subst (λ (state : State). Later (state_at past m) state)
    (sym (ap (λ (l : List Entry). run_entries l (state_of past.first))
    (take-add m more past.journal)
    ∙ run_entries-append (take m past.journal) (take more (drop m past.journal))
    (state_of past.first)))
    (later_entries (take more (drop m past.journal)) (state_at past m))

one_content : (past : Past) (m more : ℕ) (a b : List ℕ) (stamp : ℕ)
    → is_first_tree past.first ≡ true
    → Stands (state_at past m) a stamp → Stands (state_at past (m + more)) b stamp → a ≡ b
one_content past m more a b stamp first one two =
    let state : State = state_at past m in
    let next : State = state_at past (m + more) in
    let has : HasFiles state = each_name_has_its_file past m first in
    sym one.bytes_are
    ∙ sym (stamps_tell state next (later_at past m more)
    (λ n low. older_at state.clock state.files n low has.older)
    (λ n k low high is. once_at state.files n k low high has.stamps is)
    one.number two.number one.low two.low (two.stamp_is ∙ sym one.stamp_is))
    ∙ two.bytes_are

in_order : (m n : ℕ) → (m ≤ n) ⊎ (n ≤ m)
in_order m n = grind arith

-- two files of a past with one stamp have one content, whenever and wherever they stood
pub same_file : (past : Past) (m n : ℕ) (p q a b : List ℕ) (stamp : ℕ)
    → is_first_tree past.first ≡ true
    → IsFileNode (node_at (tree_at past m) p) a stamp
    → IsFileNode (node_at (tree_at past n) q) b stamp → a ≡ b
same_file past m n p q a b stamp first one two = by (in_order m n)
  where
    here : Stands (state_at past m) a stamp
    here = stands_at past m p a stamp first one

    there : Stands (state_at past n) b stamp
    there = stands_at past n q b stamp first two

    at : (k d : ℕ) (bytes : List ℕ) → k ≡ d → Stands (state_at past k) bytes stamp
        → Stands (state_at past d) bytes stamp
    at k d bytes is = subst (λ (j : ℕ). Stands (state_at past j) bytes stamp) is

    by : (m ≤ n) ⊎ (n ≤ m) → a ≡ b
    by (inl low) = one_content past m (n - m) a b stamp first here
        (at n (m + (n - m)) b (omega (arith, low)) there)
    by (inr high) = sym (one_content past n (m - n) b a stamp first there
        (at m (n + (m - n)) a (omega (arith, high)) here))

-- What was borne.

node_by_file : (there : Option TreeNode) (bytes : List ℕ) (stamp : ℕ)
    → option_and_then node_file there ≡ Some bytes → stamp_there there ≡ stamp
    → IsFileNode there bytes stamp
node_by_file None bytes stamp is stamp_is = absurd (cc)
node_by_file (Some node) bytes stamp is stamp_is =
    record { there = node; node_is = refl; bytes_are = is; stamp_is = stamp_is }

borne : (past : Past) (bytes : List ℕ) (stamp : ℕ) → (b : Bore bytes stamp past)
    → IsFileNode (node_at (tree_at past b.mark) b.path) bytes stamp
borne past bytes stamp b =
    node_by_file (node_at (tree_at past b.mark) b.path) bytes stamp b.there b.stamp_is

-- two files of one stamp had one content
pub same_stamp : (past : Past) (a b : List ℕ) (stamp : ℕ) → is_first_tree past.first ≡ true
    → Bore a stamp past → Bore b stamp past → a ≡ b
same_stamp past a b stamp first one two =
    same_file past one.mark two.mark one.path two.path a b stamp first (borne past a stamp one)
    (borne past b stamp two)
