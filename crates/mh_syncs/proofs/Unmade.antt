-- What the calls of a sync do not bring about.
use Rattle.std.proofs.Common.{◌≡◌, ◌≢◌, ◌⊎◌, ◌++◌, ◌||◌, ◌∙◌, ℕ, Bool, true, false, not, List}
use Rattle.std.proofs.Common.{Option, ap, codes, inl, inr, is_some, refl, subst, sym, ◌&&◌, ◌==◌}
use Rattle.std.proofs.Common.{arith, length, nat_lt}
use Rattle.std.proofs.lemmas.Bool.{and_parts, lt-ltb}
use Rattle.std.proofs.lemmas.List.{append_cancel_left}
use Rattle.std.specs.List.{list_any}
use Rattle.disk_model.specs.Journal.{Answer, Call, Create, Cut, Done, ListDir, MakeDir, Own}
use Rattle.disk_model.specs.Journal.{ReadAll, ReadFront, Refused, Remove, Rename, StatPath, Sync}
use Rattle.disk_model.specs.Journal.{SyncDir, WriteAt}
use Rattle.disk_model.specs.State.{State, after_done, after_entry, tree_of, without}
use Rattle.disk_model.specs.Tree.{TreeNode, folder_of, node_at}
use Rattle.folder_core.specs.Directory.{is_name, path_in}
use Rattle.folder_core.specs.Mh.{is_number, sequences_path}
use Rattle.folder_core.proofs.KindsLemmas.{number_is_name}
use Rattle.folder_core.proofs.NamesIn.{path_is_in}
use Rattle.folder_changes.specs.Refused.{refuses}
use Rattle.folder_changes.proofs.StateLemmas.{at_root, at_same, still_named}
use Rattle.folder_changes.proofs.TraceLemmas.{IsUnmade}
use Rattle.folder_drivers.specs.MhLeft.{IsNumberCall, bears, bears_no}
use Rattle.folder_drivers.specs.MhNames.{append_path, away_path, new_sequences_path}
use Rattle.folder_drivers.proofs.MhCalls.{no_folder as path_no_folder}
use Rattle.folder_drivers.proofs.Touching.{Misses, removed_node}
use Rattle.mh_syncs.specs.Causes.{IsClearing, IsPutting, IsRemove, IsTaking, IsTakingOne}
use Rattle.mh_syncs.specs.Names.{IsSideName}
use Rattle.mh_syncs.proofs.NodeKinds.{Leaves, LeavesThree, kind_at, kind_of, make_refused}
use Rattle.mh_syncs.proofs.NodeKinds.{missed_left, no_folder, on_file, on_folder, on_make}
use Rattle.mh_syncs.proofs.NodeKinds.{on_rename, unmade}
use Rattle.mh_syncs.proofs.Paths.{append_side, away_no_folder, away_no_number, differ_in, new_side}
use Rattle.mh_syncs.proofs.Paths.{not_number, not_same}

true_false : ◌≡◌ {A = Bool} true false → ⊥
true_false e = cc

or_false : (a b : Bool) → (a || b) ≡ false → (a ≡ false) × (b ≡ false)
or_false true b is = absurd (true_false is)
or_false false b is = (refl, is)

-- calls of two kinds
pub unmade_either : (Is Other : Call → Type 0) (is_so : List TreeNode → Bool)
    → IsUnmade Is is_so → IsUnmade Other is_so → IsUnmade (λ call. Is call ⊎ Other call) is_so
unmade_either Is Other is_so first next call answer state (inl is) not =
    first call answer state is not
unmade_either Is Other is_so first next call answer state (inr is) not =
    next call answer state is not

-- Paths that differ.

module _ (path : List ℕ) where
  abbrev side : List ℕ
  side = new_sequences_path path

  abbrev side_in : (name : List ℕ) → IsSideName name → path_in path name ≢ path
  side_in name is = path_no_folder path name is.named

  sequences_in : sequences_path path ≢ path
  sequences_in = path_no_folder path (codes ".mh_sequences") refl

  number_in : (key : List ℕ) → is_number key ≡ true → path_in path key ≢ path
  number_in key number = path_no_folder path key (number_is_name key number)

  side_number : (name key : List ℕ) → IsSideName name → is_number key ≡ true
      → path_in path name ≢ path_in path key
  side_number name key is number = differ_in path name key (not_number name key is.no_number number)

  sequences_number : (key : List ℕ) → is_number key ≡ true
      → sequences_path path ≢ path_in path key
  sequences_number key number =
      differ_in path (codes ".mh_sequences") key
      (not_number (codes ".mh_sequences") key refl number)

  new_no_append : new_sequences_path path ≢ append_path path
  new_no_append = differ_in path (codes ".mh_sequences.new") (codes ".mutt_append")
      (not_same (codes ".mh_sequences.new") (codes ".mutt_append") refl)

  new_no_away : (key : List ℕ) → new_sequences_path path ≢ away_path path key
  new_no_away key = differ_in path (codes ".mh_sequences.new") (codes "," ++ key)
      (λ same. not_same (codes ".mh_sequences.new") (codes "," ++ key) refl same)

  append_no_away : (key : List ℕ) → append_path path ≢ away_path path key
  append_no_away key = differ_in path (codes ".mutt_append") (codes "," ++ key)
      (λ same. not_same (codes ".mutt_append") (codes "," ++ key) refl same)

  sequences_no_away : (key : List ℕ) → sequences_path path ≢ away_path path key
  sequences_no_away key = differ_in path (codes ".mh_sequences") (codes "," ++ key)
      (λ same. not_same (codes ".mh_sequences") (codes "," ++ key) refl same)

  away_no_other : (key other : List ℕ) → is_number other ≡ true
      → away_path path key ≢ path_in path other
  away_no_other key other number =
      differ_in path (codes "," ++ key) other
      (not_number (codes "," ++ key) other (away_no_number key) number)

  -- What calls miss.

  removed_miss : (at q : List ℕ) → at ≢ q → (call : Call) → IsRemove at call → Misses q call
  removed_miss at q other call is = subst (Misses q) (sym is) other

  pub clearing_miss : (q : List ℕ) → new_sequences_path path ≢ q → append_path path ≢ q
      → (call : Call) → IsClearing path call → Misses q call
  clearing_miss q new other call (inl is) = removed_miss (new_sequences_path path) q new call is
  clearing_miss q new other call (inr is) = removed_miss (append_path path) q other call is

  pub putting_miss : (q : List ℕ) → new_sequences_path path ≢ q → sequences_path path ≢ q
      → (call : Call) → IsPutting path call → Misses q call
  putting_miss q new other (Create at) is = λ same. new (sym is ∙ same)
  putting_miss q new other (WriteAt at place piece) is = λ same. new (sym is ∙ same)
  putting_miss q new other (Sync at) is = λ same. new (sym is ∙ same)
  putting_miss q new other (Rename from to) is =
      (λ same. new (sym is.0 ∙ same), λ same. other (sym is.1 ∙ same))
  putting_miss q new other (ListDir dir) is = absurd is
  putting_miss q new other (StatPath at) is = absurd is
  putting_miss q new other (ReadFront at size) is = absurd is
  putting_miss q new other (ReadAll at limit) is = absurd is
  putting_miss q new other (Cut at size) is = absurd is
  putting_miss q new other (Remove at) is = absurd is
  putting_miss q new other (SyncDir dir) is = absurd is
  putting_miss q new other (MakeDir at) is = absurd is

  pub taking_miss : (q key : List ℕ) → path_in path key ≢ q → away_path path key ≢ q
      → (call : Call) → IsTaking path key call → Misses q call
  taking_miss q key from to call is = by is.1
    where
      by : (call ≡ Remove (path_in path key))
          ⊎ (call ≡ Rename (path_in path key) (away_path path key)) → Misses q call
      by (inl same) = subst (Misses q) (sym same) from
      by (inr same) = subst (Misses q) (sym same) (from, to)

  -- The folder.

  one_left : (q : List ℕ) (call : Call) → Misses q call → LeavesThree q q q call
  one_left q call misses = record {
    first = missed_left q call misses;
    second = missed_left q call misses;
    third = missed_left q call misses;
  }

  pub clearing_no_folder : IsUnmade (IsClearing path) (refuses (SyncDir path))
  clearing_no_folder = unmade (IsClearing path) (refuses (SyncDir path)) path path path
      (on_folder path) (λ call is. one_left path call (clearing_miss path
      (side_in (codes ".mh_sequences.new") new_side) (side_in (codes ".mutt_append") append_side)
      call is))

  pub putting_no_folder : IsUnmade (IsPutting path) (refuses (SyncDir path))
  putting_no_folder = unmade (IsPutting path) (refuses (SyncDir path)) path path path
      (on_folder path) (λ call is. one_left path call (putting_miss path
      (side_in (codes ".mh_sequences.new") new_side) sequences_in call is))

  pub taking_no_folder : IsUnmade (IsTakingOne path) (refuses (SyncDir path))
  taking_no_folder = unmade (IsTakingOne path) (refuses (SyncDir path)) path path path
      (on_folder path) (λ call is. one_left path call (taking_miss path is.key
      (number_in is.key is.is.0) (away_no_folder path is.key) call is.is))

  -- The file of a number.

  -- the call leaves what a message's step hangs on
  abbrev pub LeavesNumber : List ℕ → Call → Type 0
  LeavesNumber key call = LeavesThree (path_in path key) path (away_path path key) call

  away_named : (key : List ℕ) → is_number key ≡ true → is_name (codes "," ++ key) ≡ true
  away_named key number =
      let named = and_parts (nat_lt 0 (length key)) (not (list_any (λ b. b == 47) key))
      (number_is_name key number) in
      (λ i. lt-ltb 0 (length (codes "," ++ key)) (omega arith) i && named.1 i)

  away_folder : (key : List ℕ) → is_number key ≡ true → folder_of (away_path path key) ≡ path
  away_folder key number = (path_is_in path (codes "," ++ key) (away_named key number)).folder

  number_left : (key : List ℕ) (call : Call) → Misses (path_in path key) call → Misses path call
      → Misses (away_path path key) call → LeavesNumber key call
  number_left key call first second third = record {
    first = missed_left (path_in path key) call first;
    second = missed_left path call second;
    third = missed_left (away_path path key) call third;
  }

  pub clearing_left : (key : List ℕ) → is_number key ≡ true → (call : Call) → IsClearing path call
      → LeavesNumber key call
  clearing_left key number call is =
      number_left key call
      (clearing_miss (path_in path key)
      (side_number (codes ".mh_sequences.new") key new_side number)
      (side_number (codes ".mutt_append") key append_side number) call is)
      (clearing_miss path (side_in (codes ".mh_sequences.new") new_side)
      (side_in (codes ".mutt_append") append_side) call is)
      (clearing_miss (away_path path key) (new_no_away key) (append_no_away key) call is)

  pub putting_left : (key : List ℕ) → is_number key ≡ true → (call : Call) → IsPutting path call
      → LeavesNumber key call
  putting_left key number call is =
      number_left key call
      (putting_miss (path_in path key) (side_number (codes ".mh_sequences.new") key new_side number)
      (sequences_number key number) call is)
      (putting_miss path (side_in (codes ".mh_sequences.new") new_side) sequences_in call is)
      (putting_miss (away_path path key) (new_no_away key) (sequences_no_away key) call is)

  pub taking_left : (key other : List ℕ) → is_number key ≡ true → other ≢ key → (call : Call)
      → IsTaking path other call → LeavesNumber key call
  taking_left key other number apart call is =
      number_left key call
      (taking_miss (path_in path key) other (differ_in path other key apart)
      (away_no_other other key number) call is)
      (taking_miss path other (number_in other is.0) (away_no_folder path other) call is)
      (taking_miss (away_path path key) other
      (λ same. away_no_other key other is.0 (sym same))
      (differ_in path (codes "," ++ other) (codes "," ++ key)
      (λ same. apart (append_cancel_left (codes ",") other key same))) call is)

  -- the call that takes the file of a number is refused for nothing that such calls bring about
  pub number_unmade : (Is : Call → Type 0) (key : List ℕ) → is_number key ≡ true
      → ((call : Call) → Is call → LeavesNumber key call)
      → (call : Call) → IsNumberCall path key call → IsUnmade Is (refuses call)
  number_unmade Is key number leaves (Remove at) needs =
      subst (λ (p : List ℕ). IsUnmade Is (refuses (Remove p))) (sym needs)
      (unmade Is (refuses (Remove (path_in path key))) (path_in path key) (path_in path key)
      (path_in path key) (on_file (path_in path key)) (λ call is. record {
        first = (leaves call is).first;
        second = (leaves call is).first;
        third = (leaves call is).first;
      }))
  number_unmade Is key number leaves (Rename from to) needs =
      subst (λ (c : Call). IsUnmade Is (refuses c))
      (sym (λ i. Rename (needs.0 i) (needs.1 i)))
      (unmade Is (refuses (Rename (path_in path key) (away_path path key))) (path_in path key)
      (folder_of (away_path path key)) (away_path path key)
      (on_rename (path_in path key) (away_path path key)) (λ call is. record {
        first = (leaves call is).first;
        second = subst (λ (p : List ℕ). Leaves p call) (sym (away_folder key number))
            (leaves call is).second;
        third = (leaves call is).third;
      }))
  number_unmade Is key number leaves (ListDir dir) needs = absurd needs
  number_unmade Is key number leaves (StatPath at) needs = absurd needs
  number_unmade Is key number leaves (ReadFront at size) needs = absurd needs
  number_unmade Is key number leaves (ReadAll at limit) needs = absurd needs
  number_unmade Is key number leaves (Create at) needs = absurd needs
  number_unmade Is key number leaves (WriteAt at place piece) needs = absurd needs
  number_unmade Is key number leaves (Cut at size) needs = absurd needs
  number_unmade Is key number leaves (Sync at) needs = absurd needs
  number_unmade Is key number leaves (SyncDir dir) needs = absurd needs
  number_unmade Is key number leaves (MakeDir at) needs = absurd needs

  -- Side files.

  pub removed_no_append : IsUnmade (IsRemove side) (refuses (Remove (append_path path)))
  removed_no_append = unmade (IsRemove side) (refuses (Remove (append_path path)))
      (append_path path) (append_path path) (append_path path) (on_file (append_path path))
      (λ call is. one_left (append_path path) call
      (removed_miss side (append_path path) new_no_append call is))

  side_folder : folder_of side ≡ path
  side_folder = (path_is_in path (codes ".mh_sequences.new") refl).folder

  -- a file that is removed makes room for another one
  gone_create : (answer : Answer) (state : State) → refuses (Create side) (tree_of state) ≡ false
      → refuses (Create side) (tree_of (after_entry state (Own (Remove side) answer))) ≡ false
  gone_create (Refused why wrote) state not = not
  gone_create Done state not =
      let new : List TreeNode = tree_of (after_done (Remove side) state) in
      let was = or_false (no_folder (kind_at (tree_of state) (folder_of side)))
      (is_some (kind_at (tree_of state) side))
      (sym (make_refused (node_at (tree_of state) (folder_of side))
      (node_at (tree_of state) side)) ∙ not) in
      make_refused (node_at new (folder_of side)) (node_at new side)
      ∙ (λ i. no_folder (stays i)
      || is_some (kind_of (removed_node side state
      (path_is_in path (codes ".mh_sequences.new") refl).no_root i)))
      ∙ ap (λ (b : Bool). b || false) was.0
    where
      stays : kind_at (tree_of (after_done (Remove side) state)) (folder_of side)
          ≡ kind_at (tree_of state) (folder_of side)
      stays = missed_left (folder_of side) (Remove side)
          (λ same. side_in (codes ".mh_sequences.new") new_side (same ∙ side_folder)) Done state

  gone_no_create : IsUnmade (IsRemove side) (refuses (Create side))
  gone_no_create call answer state is not =
      ap (λ (c : Call). refuses (Create side) (tree_of (after_entry state (Own c answer)))) is
      ∙ gone_create answer state not

  append_no_create : IsUnmade (IsRemove (append_path path)) (refuses (Create side))
  append_no_create = unmade (IsRemove (append_path path)) (refuses (Create side))
      (folder_of side) side side (on_make side) (λ call is. record {
        first = missed_left (folder_of side) call (removed_miss (append_path path) (folder_of side)
            (λ same. side_in (codes ".mutt_append") append_side (same ∙ side_folder)) call is);
        second = missed_left side call (removed_miss (append_path path) side
            (λ same. new_no_append (sym same)) call is);
        third = missed_left side call (removed_miss (append_path path) side
            (λ same. new_no_append (sym same)) call is);
      })

  pub clearing_no_create : IsUnmade (IsClearing path) (refuses (Create side))
  clearing_no_create =
      unmade_either (IsRemove side) (IsRemove (append_path path)) (refuses (Create side))
      gone_no_create append_no_create

  -- Files by their stamps.

  removed_stamp : (at : List ℕ) (stamp : Option ℕ) (q : List ℕ) → at ≢ q
      → IsUnmade (IsRemove at) (bears_no stamp q)
  removed_stamp at stamp q other call answer state is none =
      ap (λ (c : Call). bears_no stamp q (tree_of (after_entry state (Own c answer)))) is
      ∙ by answer
    where
      by : (answer : Answer)
          → bears_no stamp q (tree_of (after_entry state (Own (Remove at) answer))) ≡ false
      by (Refused why wrote) = none
      by Done =
          ap (λ (node : Option TreeNode). not (bears stamp node))
          (at_same state (without at state.names) q (at_root (without at state.names) state.names q
          (still_named at q state.names other))) ∙ none

  pub clearing_no_stamp : (stamp : Option ℕ) (key : List ℕ) → is_number key ≡ true
      → IsUnmade (IsClearing path) (bears_no stamp (path_in path key))
  clearing_no_stamp stamp key number =
      unmade_either (IsRemove side) (IsRemove (append_path path))
      (bears_no stamp (path_in path key))
      (removed_stamp side stamp (path_in path key)
      (side_number (codes ".mh_sequences.new") key new_side number))
      (removed_stamp (append_path path) stamp (path_in path key)
      (side_number (codes ".mutt_append") key append_side number))
