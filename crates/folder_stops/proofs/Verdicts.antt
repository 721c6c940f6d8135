-- What the answer of a call says of the names that it met.
use Rattle.std.proofs.Common.{List, None, Ok, Option, Some, [], ap, map, refl, sym, true, ℕ, ◌++◌}
use Rattle.std.proofs.Common.{◌∙◌, ◌∷◌, ◌≡◌, ◌≢◌}
use Rattle.disk_model.specs.Tree.{TreeNode, folder_of, node_at}
use Rattle.disk_model.specs.Journal.{Action, Call, Create, Done, Entry, Others, Own}
use Rattle.disk_model.specs.State.{File, Name, State, after_entry, is_free, name_at, run_entries}
use Rattle.disk_model.specs.State.{tree_of}
use Rattle.disk_model.specs.Refusals.{below_refusal, first_refusal, free_refusal, refusal}
use Rattle.disk_model.specs.Judge.{answer_by, done_by}
use Rattle.disk_model.specs.declared.answers.DiskError.{DiskError}
use Rattle.disk_model.specs.Lawful.{AreLawful}
use Rattle.disk_model.proofs.Trees.{node_at-tree_of, node_by}
use Rattle.folder_stops.specs.Words.{Among}
use Rattle.folder_stops.proofs.Words.{absent_at, found}

none_there : (first : Option DiskError) (found : Option TreeNode) (v : Unit {0}) → Ok v
    ≡ answer_by (first_refusal first (free_refusal found)) tt → found ≡ None
none_there (Some why) found v is = absurd (cc)
none_there None None v is = refl
none_there None (Some node) v is = absurd (cc)

nothing_named : (files : List File) (path : List ℕ) (at : Option (Option ℕ)) → node_by files path at
    ≡ None → is_free at ≡ true
nothing_named files path None e = refl
nothing_named files path (Some file) e = absurd (cc)

-- a file was made: nothing stood there
pub was_free : (s : State) (p : List ℕ) (v : Unit {0}) → Ok v ≡ done_by (Create p) (tree_of s)
    → (x : Name) → Among x s.names → x.path ≢ p
was_free s p v judged =
    let none : node_at (tree_of s) p ≡ None =
    none_there (below_refusal (node_at (tree_of s) (folder_of p))) (node_at (tree_of s) p) v
    judged in
    absent_at p s.names (nothing_named s.files p (name_at s.names p)
    (sym (node_at-tree_of s p) ∙ none))

-- a call that a lawful journal says was done was not refused by the tree that it met
pub done_lawful : (actions : List Action) (call : Call) (rest : List Entry) (s : State)
    → AreLawful ((map Others actions ++ Own call Done ∷ []) ++ rest) s
    → refusal call (tree_of (run_entries (map Others actions) s)) ≡ None
done_lawful [] call rest s lawful = lawful.0.1
done_lawful (action ∷ actions) call rest s lawful =
    done_lawful actions call rest (after_entry s (Others action)) lawful.1

pub was_made : (s : State) (p : List ℕ) → refusal (Create p) (tree_of s) ≡ None → (x : Name)
    → Among x s.names → x.path ≢ p
was_made s p free = was_free s p tt (sym (ap (λ (r : Option DiskError). answer_by r tt) free))
