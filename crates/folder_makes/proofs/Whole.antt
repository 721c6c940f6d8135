-- A Maildir that was made.
use Rattle.std.proofs.Common.{◌≡◌, ◌<◌, ◌==◌, ◌∷◌, ◌++◌, ◌∙◌, [], ℕ, Bool, true, false, List}
use Rattle.std.proofs.Common.{Option, Some, None, Result, Ok, ap, arith, codes, if◌then◌else◌, sym}
use Rattle.std.proofs.Common.{inl, inr, is_none, is_some, length, map, refl, ◌&&◌, ◌||◌, Err}
use Rattle.std.proofs.lemmas.Bool.{and_parts, cond-true, or_left, or_right}
use Rattle.std.proofs.lemmas.Slice.Eq.{bytes_eq-Decides}
use Rattle.std.specs.Prelude.{IfSome, OnOk}
use Rattle.std.specs.Str.{bytes_eq}
use Rattle.mail_base.specs.Ordered.{in_order_by}
use Rattle.disk_model.specs.Journal.{Past}
use Rattle.disk_model.specs.Lawful.{IsLawful}
use Rattle.disk_model.specs.Names.{names_in}
use Rattle.disk_model.specs.State.{run_entries, tree_of}
use Rattle.disk_model.specs.Tree.{TreeNode, is_folder_node, is_tree, node_at}
use Rattle.folder_core.specs.Directory.{file_at, front_of, is_folder_at, path_in}
use Rattle.folder_core.specs.Kinds.{bytes_kind, directory_kind, has_number, has_sequences, kind_at}
use Rattle.folder_core.specs.Kinds.{node_kind}
use Rattle.folder_core.specs.Maildir.{is_maildir}
use Rattle.folder_core.specs.declared.error.ScanError.TheVariants.{NotMailbox}
use Rattle.mail_base.specs.declared.kind.Kind.{Kind}
use Rattle.mail_base.specs.declared.kind.Kind.TheVariants.{Maildir, Mh}
use Rattle.folder_core.specs.Maildir.{comes_before, directory, files_in, maildir_messages}
use Rattle.folder_core.specs.Maildir.{messages_behind}
use Rattle.folder_changes.specs.declared.sync_error.SyncError.{SyncError}
use Rattle.folder_shapes.specs.Maildir.{maildir_files, maildir_shape, name_key, or_else}
use Rattle.folder_shapes.specs.Reading.{behind}
use Rattle.folder_stops.specs.Along.{Grown}
use Rattle.folder_stops.proofs.Along.{grown_both}
use Rattle.folder_drivers.specs.Made.{MadeAlone, is_its, is_maildir_begun, maildir_makes}
use Rattle.mail_base.specs.Series.{Held}
use Rattle.folder_makes.specs.Parts.{LeavesMaildir, MakesBy, Nowhere}
use Rattle.folder_makes.proofs.Maildirs.{IsOfMaildir}
use Rattle.folder_makes.proofs.Making.{AreApart}
use Rattle.folder_makes.proofs.Messages.{directory_long, made_short, maildir_stays, word_named}
use Rattle.folder_makes.proofs.Messages.{word_of}
use Rattle.folder_makes.proofs.Placing.{grown_from, nothing_at, nothing_in}
use Rattle.folder_core.specs.Directory.{front_of}
use Rattle.folder_shapes.proofs.Nodes.{behind_there}

-- It is made at paths of no message.

behind_short : (front path : List ℕ) → length path < length front → behind front path ≡ None
behind_short [] path short = absurd (omega (arith, short))
behind_short (b ∷ front) [] short = refl
behind_short (b ∷ front) (c ∷ path) short =
    by (b == c) (behind_short front path (omega (arith, short)))
  where
    by : (t : Bool) → behind front path ≡ None → (if t then behind front path else None) ≡ None
    by true is = is
    by false is = refl

no_slot : (path p : List ℕ) → IsOfMaildir path p → (maildir_shape path).slot p ≡ None
no_slot path p is =
    λ i. or_else (name_key (none true i)) (name_key (none false i))
  where
    none : (in_cur : Bool) → behind (front_of (directory in_cur path)) p ≡ None
    none in_cur =
        let long = directory_long path in_cur in
        let short = made_short path p is in
        behind_short (front_of (directory in_cur path)) p (omega (arith, long, short))

in_home : (path name p : List ℕ) → p ≡ path_in path name
    → is_its (maildir_files path) path p ≡ true
in_home path name p is =
    or_right (bytes_eq p path) ((maildir_shape path).home p)
    (ap (maildir_shape path).home is ∙ ap is_some (behind_there (front_of path) name))

home : (path p : List ℕ) → IsOfMaildir path p → is_its (maildir_files path) path p ≡ true
home path p (inl is) =
    or_left (bytes_eq p path) ((maildir_shape path).home p) ((bytes_eq-Decides p path).1 is)
home path p (inr (inl is)) = in_home path (codes "tmp") p is
home path p (inr (inr (inl is))) = in_home path (codes "new") p is
home path p (inr (inr (inr (inl is)))) = in_home path (codes "cur") p is
home path p (inr (inr (inr (inr none)))) = absurd none

pub maildir_apart : (path : List ℕ)
    → AreApart (maildir_files path) path (IsOfMaildir path) Nowhere
maildir_apart path = record {
  dir_home = home path;
  dir_slot = no_slot path;
  file_home = λ p is. absurd is;
  file_slot = λ p is. absurd is;
  file_making = λ p is. absurd is;
}

-- It has the messages that were there.

no_messages : (path : List ℕ) (tree : List TreeNode) → is_tree tree ≡ true
    → node_at tree path ≡ None → maildir_messages tree path ≡ []
no_messages path tree is none =
    λ i. messages_behind tree path None
    (in_order_by comes_before (files_in true (gone true i) ++ files_in false (gone false i)))
  where
    gone : (in_cur : Bool) → names_in tree (directory in_cur path) ≡ []
    gone in_cur = nothing_in tree (directory in_cur path) is
        (nothing_at tree path (word_of in_cur) (word_named in_cur) is none)

-- a Maildir is told to be one
maildir_told : (empty : Kind) (path : List ℕ) (tree : List TreeNode) → is_maildir tree path ≡ true
    → kind_at empty tree path ≡ Ok Maildir
maildir_told empty path tree is =
    let parts = and_parts (is_folder_at tree path && is_folder_at tree (directory true path))
    (is_none (file_at tree (directory false path))) is in
    let two = and_parts (is_folder_at tree path) (is_folder_at tree (directory true path))
    parts.0 in
    by (node_at tree path) two.0
    (cond-true (is_folder_at tree (directory true path)) (Ok Maildir)
    (if has_sequences tree path || has_number tree path then Ok Mh else Err (NotMailbox 0)) two.1)
  where
    by_bytes : (bytes : Option (List ℕ)) → is_none bytes ≡ true
        → directory_kind tree path ≡ Ok Maildir → bytes_kind empty tree path bytes ≡ Ok Maildir
    by_bytes None is told = told
    by_bytes (Some bytes) is told = absurd (cc)

    by : (node : Option TreeNode) → is_folder_node node ≡ true
        → directory_kind tree path ≡ Ok Maildir → node_kind empty tree path node ≡ Ok Maildir
    by None is told = absurd (cc)
    by (Some node) is told = by_bytes node.bytes is told

alone : (marks : ℕ) (path : List ℕ) (a b : Option Past) → IfSome a (IsLawful marks)
    → MakesBy (IsOfMaildir path) Nowhere a b → LeavesMaildir path a b
    → Grown a b (MadeAlone maildir_makes path)
alone marks path a b lawful calls leaves =
    grown_from marks a b _ _ lawful (grown_both a b _ _ calls.grown leaves.grown)
    (λ s es tree is none. record {
      reads = cond-true _ (Some (maildir_messages (tree_of (run_entries es s)) path)) None
          (is.1 none)
          ∙ ap Some (maildir_stays path es s is.0 none);
      none = λ nothing. no_messages path (tree_of s) tree nothing;
      kind = λ empty. maildir_told empty path (tree_of (run_entries es s)) (is.1 none);
    })

pub made_if : (marks : ℕ) (path : List ℕ) (result : Result (Unit {0}) SyncError)
    (a b : Option Past) → IfSome a (IsLawful marks) → MakesBy (IsOfMaildir path) Nowhere a b
    → OnOk result (LeavesMaildir path a b)
    → OnOk result (Grown a b (MadeAlone maildir_makes path))
made_if marks path (Ok done) a b lawful calls leaves = alone marks path a b lawful calls leaves
made_if marks path (Err why) a b lawful calls leaves = tt

-- what the code says of the names
pub begun_is : (names slice : List (Held ℕ)) (result value : Bool)
    → result ≡ is_maildir_begun (map (λ name. name.items) slice) → slice ≡ names → result ≡ value
    → is_maildir_begun (map (λ name. name.items) names) ≡ value
begun_is names slice result value is same told =
    ap (λ (l : List (Held ℕ)). is_maildir_begun (map (λ name. name.items) l)) (sym same)
    ∙ sym is ∙ told
