-- What a look at the file of a listed message has met.
use Rattle.std.proofs.Common.{◌≡◌, ◌≤◌, ◌||◌, ◌==◌, ℕ, Bool, true, false, List, [], ◌∷◌, Option}
use Rattle.std.proofs.Common.{Some, None}
use Rattle.std.proofs.Common.{length, if◌then◌else◌, refl, sym, ◌∙◌, ap, subst, arith}
use Rattle.std.specs.Prelude.{option_and_then}
use Rattle.std.proofs.lemmas.Bool.{eqb-true}
use Rattle.disk_model.specs.Journal.{Past, StatPath}
use Rattle.disk_model.specs.Judge.{GoesOn}
use Rattle.disk_model.specs.State.{tree_at}
use Rattle.disk_model.specs.Tree.{TreeNode, node_at}
use Rattle.disk_model.specs.declared.answers.Stat.{Stat}
use Rattle.folder_core.specs.Directory.{node_file, path_in, stamp_there}
use Rattle.folder_core.specs.Looked.{SawAt, node_stat, stat_there}
use Rattle.folder_core.specs.Mh.{message_of}
use Rattle.folder_core.proofs.SeenLemmas.{goes_as}
use Rattle.mh_folder.specs.Walk.{LookSeen, look_of, message_as}
use Rattle.mh_folder.specs.declared.look.Look.{Look}
use Rattle.mh_folder.specs.declared.look.Look.TheVariants.{Nothing, Same, Other}

-- what such a look tells of what stands there
abbrev pub LookTells : List ℕ → ℕ → Look → Option TreeNode → Type 0
LookTells name stamp Nothing there = (sequences : List ℕ)
    → option_and_then (message_of sequences name) (option_and_then node_file there) ≡ None
LookTells name stamp Same there = (raw : List ℕ) × (((sequences : List ℕ)
    → option_and_then (message_of sequences name) (option_and_then node_file there)
    ≡ Some (message_as sequences name raw)) × (stamp_there there ≡ stamp))
LookTells name stamp Other there = Unit {0}

file_tells : (name path : List ℕ) (stamp known : ℕ) (bytes : Option (List ℕ))
    → LookTells name known
    (look_of (Some (node_stat (record { path = path; bytes = bytes; stamp = stamp }))) known)
    (Some (record { path = path; bytes = bytes; stamp = stamp }))
file_tells name path stamp known None = λ sequences. refl
file_tells name path stamp known (Some []) = λ sequences. refl
file_tells name path stamp known (Some (b ∷ raw)) = by_length (length (b ∷ raw) == 0) refl
  where
    by_stamp : (t : Bool) → (stamp == known) ≡ t
        → LookTells name known (if t then Same else Other)
        (Some (record { path = path; bytes = Some (b ∷ raw); stamp = stamp }))
    by_stamp true is = (b ∷ raw, ((λ sequences. refl), eqb-true stamp known is))
    by_stamp false is = tt

    by_length : (none : Bool) → (length (b ∷ raw) == 0) ≡ none
        → LookTells name known
        (if false || none then Nothing else (if stamp == known then Same else Other))
        (Some (record { path = path; bytes = Some (b ∷ raw); stamp = stamp }))
    by_length true is = absurd (omega (arith, eqb-true (length (b ∷ raw)) 0 is))
    by_length false is = by_stamp (stamp == known) refl

look_tells : (name : List ℕ) (stamp : ℕ) (node : Option TreeNode)
    → LookTells name stamp (look_of (stat_there node) stamp) node
look_tells name stamp None = λ sequences. refl
look_tells name stamp (Some node) = file_tells name node.path node.stamp stamp node.bytes

-- the same at the mark of a call
seen_at : (path name : List ℕ) (stamp : ℕ) (look : Look) (p q : Past) (mark : ℕ)
    → length p.journal ≤ mark → mark ≤ length q.journal
    → LookTells name stamp look (node_at (tree_at q mark) (path_in path name))
    → LookSeen path name stamp look p q
seen_at path name stamp Nothing p q mark from to tells =
    record { mark = mark; from = from; to = to; none = tells }
seen_at path name stamp Same p q mark from to tells = record {
  mark = mark;
  from = from;
  to = to;
  raw = tells.0;
  there = tells.1.0;
  stamp_is = tells.1.1;
}
seen_at path name stamp Other p q mark from to tells = tt

pub look_seen : (path name : List ℕ) (stamp : ℕ) (found : Option Stat) (look : Look)
    (a b : Option Past) → look ≡ look_of found stamp
    → GoesOn (SawAt (StatPath (path_in path name))
    (λ tree. found ≡ stat_there (node_at tree (path_in path name)))) a b
    → GoesOn (LookSeen path name stamp look) a b
look_seen path name stamp found look a b is saw = goes_as a b (λ p q s.
    seen_at path name stamp look p q s.mark s.from s.to
    (subst (λ (l : Look). LookTells name stamp l
    (node_at (tree_at q s.mark) (path_in path name)))
    (sym (is ∙ ap (λ (f : Option Stat). look_of f stamp) s.tells))
    (look_tells name stamp (node_at (tree_at q s.mark) (path_in path name))))) saw
