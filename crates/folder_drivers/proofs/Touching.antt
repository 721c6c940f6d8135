-- What our own calls leave at paths that they do not touch.
use Rattle.std.proofs.Common.{◌≡◌, ◌≢◌, ◌==◌, ℕ, Bool, true, false, List, [], ◌∷◌, Option, Some}
use Rattle.std.proofs.Common.{None, refl, sym, ◌∙◌, ap, get_or-set_other, take, if◌then◌else◌}
use Rattle.std.specs.Prelude.{option_and_then}
use Rattle.std.specs.Str.{bytes_eq}
use Rattle.disk_model.specs.Tree.{is_root, node_at}
use Rattle.disk_model.specs.Journal.{Answer, Call, Create, Cut, Done, ListDir, MakeDir, Own}
use Rattle.disk_model.specs.Journal.{ReadAll, ReadFront, Refused, Remove, Rename, StatPath}
use Rattle.disk_model.specs.Journal.{Sync, SyncDir, WriteAt}
use Rattle.disk_model.specs.State.{cut_to}
use Rattle.disk_model.specs.State.{Name, State, after_done, after_entry, after_refused, changed}
use Rattle.disk_model.specs.State.{durable, file_at, moved, name_at, name_in, settled}
use Rattle.disk_model.specs.State.{synced, tree_of, without, written}
use Rattle.disk_model.proofs.Trees.{node_at-tree_of, node_by}
use Rattle.folder_core.specs.Directory.{file_at as file_in, node_file}
use Rattle.folder_stops.proofs.Rows.{named}
use Rattle.folder_stops.proofs.Sides.{IsSameAt, name_without, same_changed, same_if, same_made}
use Rattle.folder_stops.proofs.Sides.{same_moved, same_none}
use Rattle.folder_stops.proofs.Words.{apart, found}
use Rattle.folder_drivers.proofs.Sturdy.{Sturdy, all_paths}

-- the call touches another path, or none
abbrev pub Misses : List ℕ → Call → Type 0
Misses q (ListDir dir) = Unit {0}
Misses q (StatPath path) = Unit {0}
Misses q (ReadFront path size) = Unit {0}
Misses q (ReadAll path limit) = Unit {0}
Misses q (Create path) = path ≢ q
Misses q (WriteAt path at piece) = path ≢ q
Misses q (Cut path size) = path ≢ q
Misses q (Sync path) = path ≢ q
Misses q (Rename from to) = (from ≢ q) × (to ≢ q)
Misses q (Remove path) = path ≢ q
Misses q (SyncDir dir) = Unit {0}
Misses q (MakeDir path) = path ≢ q

same_settled : (q : List ℕ) (at : Option (Option ℕ)) (p : List ℕ) (s : State)
    → name_at s.names p ≡ at → p ≢ q → Sturdy s → IsSameAt q s (settled at s)
same_settled q None p s is ne sound = same_none q s
same_settled q (Some None) p s is ne sound = same_none q s
same_settled q (Some (Some k)) p s is ne sound = record {
  name = refl;
  file = λ n e. get_or-set_other s.files k n (synced (file_at s.files k)) (durable [] 0)
      (λ eq. ne (sound.shared (named p k) (named q n) n (found p s.names k is)
      (found q s.names n e) (ap Some (sym eq)) refl));
}

done_same : (q : List ℕ) (call : Call) (s : State) → Sturdy s → Misses q call
    → IsSameAt q s (after_done call s)
done_same q (ListDir dir) s sound misses = same_none q s
done_same q (StatPath path) s sound misses = same_none q s
done_same q (ReadFront path size) s sound misses = same_none q s
done_same q (ReadAll path limit) s sound misses = same_none q s
done_same q (Create path) s sound misses = same_made q all_paths path [] s misses sound
done_same q (WriteAt path at piece) s sound misses =
    same_changed q all_paths (name_at s.names path) path (written at piece) s refl misses sound
done_same q (Cut path size) s sound misses =
    same_changed q all_paths (name_at s.names path) path (cut_to size) s refl misses sound
done_same q (Sync path) s sound misses =
    same_settled q (name_at s.names path) path s refl misses sound
done_same q (Rename from to) s sound misses =
    same_moved q (name_at s.names from) from to s misses.0 misses.1
done_same q (Remove path) s sound misses = record {
  name = name_without path q s.names misses;
  file = λ n e. refl;
}
done_same q (SyncDir dir) s sound misses = record { name = refl; file = λ n e. refl }
done_same q (MakeDir path) s sound misses = record {
  name = ap (λ (o : Option (Option ℕ)). if is_root q then Some None else o)
      (ap (λ (b : Bool). if b then Some None else name_in s.names q) (apart path q misses));
  file = λ n e. refl;
}

refused_same : (q : List ℕ) (call : Call) (wrote : ℕ) (s : State) → Sturdy s → Misses q call
    → IsSameAt q s (after_refused call wrote s)
refused_same q (ListDir dir) wrote s sound misses = same_none q s
refused_same q (StatPath path) wrote s sound misses = same_none q s
refused_same q (ReadFront path size) wrote s sound misses = same_none q s
refused_same q (ReadAll path limit) wrote s sound misses = same_none q s
refused_same q (Create path) wrote s sound misses = same_none q s
refused_same q (WriteAt path at piece) wrote s sound misses =
    same_if q (wrote == 0) s s
    (changed (name_at s.names path) (written at (take wrote piece)) s) (same_none q s)
    (same_changed q all_paths (name_at s.names path) path (written at (take wrote piece)) s refl
    misses sound)
refused_same q (Cut path size) wrote s sound misses = same_none q s
refused_same q (Sync path) wrote s sound misses = same_none q s
refused_same q (Rename from to) wrote s sound misses = same_none q s
refused_same q (Remove path) wrote s sound misses = same_none q s
refused_same q (SyncDir dir) wrote s sound misses = same_none q s
refused_same q (MakeDir path) wrote s sound misses = same_none q s

-- what stands at a path that a call of ours does not touch stays
pub own_same : (q : List ℕ) (call : Call) (answer : Answer) (s : State) → Sturdy s
    → Misses q call → IsSameAt q s (after_entry s (Own call answer))
own_same q call Done s sound misses = done_same q call s sound misses
own_same q call (Refused why wrote) s sound misses = refused_same q call wrote s sound misses

-- what stands at the path is the same node
pub same_node : (q : List ℕ) (s t : State) → IsSameAt q s t
    → node_at (tree_of t) q ≡ node_at (tree_of s) q
same_node q s t is =
    node_at-tree_of t q ∙ ap (node_by t.files q) is.name
    ∙ by (name_at s.names q) refl ∙ sym (node_at-tree_of s q)
  where
    by : (at : Option (Option ℕ)) → name_at s.names q ≡ at
        → node_by t.files q (name_at s.names q) ≡ node_by s.files q (name_at s.names q)
    by None e = ap (node_by t.files q) e ∙ sym (ap (node_by s.files q) e)
    by (Some None) e = ap (node_by t.files q) e ∙ sym (ap (node_by s.files q) e)
    by (Some (Some n)) e =
        ap (node_by t.files q) e
        ∙ (λ i. Some (record {
          path = q;
          bytes = Some (is.file n e i).bytes;
          stamp = (is.file n e i).stamp;
        }))
        ∙ sym (ap (node_by s.files q) e)

-- What a call of ours takes away.

unnamed : (p : List ℕ) (names : List Name) → name_in (without p names) p ≡ None
unnamed p [] = refl
unnamed p (name ∷ names) = by (bytes_eq name.path p) refl (unnamed p names)
  where
    by : (b : Bool) → bytes_eq name.path p ≡ b → name_in (without p names) p ≡ None
        → name_in (if b then without p names else name ∷ without p names) p ≡ None
    by true is again = again
    by false is again =
        ap (λ (b : Bool). if b then Some name.file else name_in (without p names) p) is ∙ again

at_none : (p : List ℕ) (names : List Name) → is_root p ≡ false
    → name_at (without p names) p ≡ None
at_none p names no_root =
    ap (λ (root : Bool). if root then Some None else name_in (without p names) p) no_root
    ∙ unnamed p names

no_file : (s : State) (p : List ℕ) → name_at s.names p ≡ None → file_in (tree_of s) p ≡ None
no_file s p none =
    ap (option_and_then node_file)
    (node_at-tree_of s p ∙ ap (node_by s.files p) none)

-- nothing stands where we removed a file
pub removed_node : (p : List ℕ) (s : State) → is_root p ≡ false
    → node_at (tree_of (after_done (Remove p) s)) p ≡ None
removed_node p s no_root =
    node_at-tree_of (after_done (Remove p) s) p
    ∙ ap (node_by s.files p) (at_none p s.names no_root)

-- a file that we removed is gone
pub removed_gone : (p : List ℕ) (s : State) → is_root p ≡ false
    → file_in (tree_of (after_done (Remove p) s)) p ≡ None
removed_gone p s no_root =
    no_file (after_done (Remove p) s) p (at_none p s.names no_root)

-- a file that we moved is gone from its place
pub moved_gone : (from to : List ℕ) (s : State) → is_root from ≡ false → to ≢ from
    → file_in (tree_of (after_done (Rename from to) s)) from ≡ None
moved_gone from to s no_root other = by (name_at s.names from) refl
  where
    by : (at : Option (Option ℕ)) → name_at s.names from ≡ at
        → file_in (tree_of (moved at from to s)) from ≡ None
    by None is = no_file s from is
    by (Some None) is =
        ap (option_and_then node_file)
        (node_at-tree_of s from ∙ ap (node_by s.files from) is)
    by (Some (Some n)) is =
        no_file (moved (Some (Some n)) from to s) from
        (ap (λ (o : Option (Option ℕ)). if is_root from then Some None else o)
        (ap (λ (b : Bool). if b then Some (Some n)
        else name_in (without to (without from s.names)) from) (apart to from other))
        ∙ name_without to from (without from s.names) other ∙ at_none from s.names no_root)
