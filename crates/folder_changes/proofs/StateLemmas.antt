-- What our own renames and removals do to the files of a Maildir.
use Rattle.std.proofs.Common.{◌≡◌, ℕ, Bool, true, false, List, [], ◌∷◌, Option, Some}
use Rattle.std.proofs.Common.{None, is_none, refl, sym, ◌∙◌, ap, subst}
use Rattle.std.proofs.Common.{if◌then◌else◌}
use Rattle.std.proofs.lemmas.Slice.Eq.{bytes_eq-Decides}
use Rattle.std.specs.Prelude.{◌&&◌, option_and_then, option_map}
use Rattle.std.specs.Str.{bytes_eq}
use Rattle.mail_base.specs.Flags.{applied, stored}
use Rattle.mail_base.specs.declared.flags.Flags.{Flags}
use Rattle.mail_base.specs.declared.kind.Kind.TheVariants.{Maildir}
use Rattle.disk_model.specs.Journal.{Remove, Rename}
use Rattle.disk_model.specs.Refusals.{file_refusal, first_refusal, refusal}
use Rattle.disk_model.specs.State.{Name, State, after_done, file_at, moved, name_at, name_in}
use Rattle.disk_model.specs.State.{node_of}
use Rattle.disk_model.specs.State.{tree_of, with_names, without}
use Rattle.disk_model.specs.Tree.{TreeNode, is_folder_node, is_root, node_at}
use Rattle.disk_model.specs.declared.answers.DiskError.{DiskError}
use Rattle.disk_model.specs.declared.answers.DiskError.TheVariants.{Missing, WrongNode}
use Rattle.disk_model.proofs.Trees.{bytes_same, node_at-tree_of, node_by}
use Rattle.index_items.specs.Changes.{Alters}
use Rattle.folder_core.specs.Directory.{node_file}
use Rattle.folder_core.specs.Maildir.{MaildirFile, base_of, directory, is_maildir, is_shown}
use Rattle.folder_core.specs.Maildir.{message_at, message_of, path_of}
use Rattle.folder_core.specs.MaildirNames.{order_of}
use Rattle.folder_core.specs.Message.{Message}
use Rattle.folder_changes.specs.Maildir.{IsMessageAt, IsSingleNamed, RenamesFile, TakesFile}
use Rattle.folder_changes.specs.Maildir.{flags_named}
use Rattle.folder_changes.proofs.PathLemmas.{path_no_directory, path_no_folder, path_no_root}
use Rattle.folder_changes.proofs.PathLemmas.{path_once}

true_false : ◌≡◌ {A = Bool} true false → ⊥
true_false e = cc

none_some : {A : Type 0} (x : A) → ◌≡◌ {A = Option A} None (Some x) → ⊥
none_some x e = cc

-- two paths that differ
pub differ : (p q : List ℕ) → (p ≡ q → ⊥) → bytes_eq p q ≡ false
differ p q other = by (bytes_eq p q) refl
  where
    by : (b : Bool) → bytes_eq p q ≡ b → bytes_eq p q ≡ false
    by true is = absurd (other (bytes_same p q is))
    by false is = is

-- the bytes of a file by its number
abbrev file_bytes_at : State → ℕ → List ℕ
file_bytes_at state n = (file_at state.files n).bytes

-- Names without one.

unnamed : (p : List ℕ) (names : List Name) → name_in (without p names) p ≡ None
unnamed p [] = refl
unnamed p (name ∷ names) = by (bytes_eq name.path p) refl (unnamed p names)
  where
    by : (b : Bool) → bytes_eq name.path p ≡ b → name_in (without p names) p ≡ None
        → name_in (if b then without p names else name ∷ without p names) p ≡ None
    by true is again = again
    by false is again =
        ap (λ (b : Bool). if b then Some name.file else name_in (without p names) p) is ∙ again

pub still_named : (p q : List ℕ) (names : List Name) → (p ≡ q → ⊥)
    → name_in (without p names) q ≡ name_in names q
still_named p q [] other = refl
still_named p q (name ∷ names) other =
    by (bytes_eq name.path p) refl (still_named p q names other)
  where
    by : (b : Bool) → bytes_eq name.path p ≡ b → name_in (without p names) q ≡ name_in names q
        → name_in (if b then without p names else name ∷ without p names) q
        ≡ (if bytes_eq name.path q then Some name.file else name_in names q)
    by true is again = again ∙ sym
        (ap (λ (b : Bool). if b then Some name.file else name_in names q)
        (differ name.path q (λ same. other (sym (bytes_same name.path p is) ∙ same))))
    by false is again =
        ap (λ (found : Option (Option ℕ)). if bytes_eq name.path q then Some name.file else found)
        again

-- What stands at the paths of a state with other names.

pub at_same : (state : State) (names : List Name) (q : List ℕ)
    → name_at names q ≡ name_at state.names q
    → node_at (tree_of (with_names names state)) q ≡ node_at (tree_of state) q
at_same state names q same =
    node_at-tree_of (with_names names state) q
    ∙ ap (node_by state.files q) same
    ∙ sym (node_at-tree_of state q)

pub at_root : (names others : List Name) (q : List ℕ) → name_in names q ≡ name_in others q
    → name_at names q ≡ name_at others q
at_root names others q same =
    ap (λ (found : Option (Option ℕ)). if is_root q then Some None else found) same

-- A Maildir whose other names stand as they stood.

folder_stays : (path : List ℕ) (old new : List TreeNode)
    → node_at new path ≡ node_at old path
    → ((in_cur : Bool) → node_at new (directory in_cur path) ≡ node_at old (directory in_cur path))
    → is_maildir old path ≡ true → is_maildir new path ≡ true
folder_stays path old new at inside is =
    (λ i. is_folder_node (at i) && is_folder_node (inside true i)
    && is_none (option_and_then node_file (inside false i)))
    ∙ is

pub message_stays : (path : List ℕ) (old new : List TreeNode) (file : MaildirFile)
    → node_at new (path_of path file) ≡ node_at old (path_of path file)
    → message_at new path file ≡ message_at old path file
message_stays path old new file same =
    ap (λ (node : Option TreeNode). option_map (message_of file) (option_and_then node_file node))
    same

no_message : (path : List ℕ) (tree : List TreeNode) (file : MaildirFile) (m : Message)
    → node_at tree (path_of path file) ≡ None → message_at tree path file ≡ Some m → ⊥
no_message path tree file m gone there = none_some m
    (sym (ap (λ (node : Option TreeNode). option_map (message_of file)
    (option_and_then node_file node)) gone) ∙ there)

-- A call that was not refused met a file.

first_none : (a b : Option DiskError) → first_refusal a b ≡ None → (a ≡ None) × (b ≡ None)
first_none None b is = (refl, is)
first_none (Some why) b is = absurd (none_some why (sym is))

-- the message of a name that stands at a node
abbrev Met : MaildirFile → Option TreeNode → Type 0
Met file node = (m : Message) × (option_map (message_of file) (option_and_then node_file node)
    ≡ Some m) × (m.flags ≡ flags_named file)

met_file : (file : MaildirFile) (node : Option TreeNode) → file_refusal node ≡ None → Met file node
met_file file None is = absurd (none_some Missing (sym is))
met_file file (Some node) is = by node.bytes refl is
  where
    by : (bytes : Option (List ℕ)) → node.bytes ≡ bytes
        → (if is_none bytes then Some WrongNode else None) ≡ None → Met file (Some node)
    by None at is = absurd (none_some WrongNode (sym is))
    by (Some raw) at is = (message_of file raw, ap (option_map (message_of file)) at, refl)

-- Our own removal of a file.

module _ (path : List ℕ) (file : MaildirFile) (state : State)
    (single : IsSingleNamed path (tree_of state)) (shown : is_shown file.name ≡ true) where
  abbrev pub removed : List TreeNode
  removed = tree_of (after_done (Remove (path_of path file)) state)

  removed_stays : (q : List ℕ) → (path_of path file ≡ q → ⊥)
      → node_at removed q ≡ node_at (tree_of state) q
  removed_stays q other = at_same state (without (path_of path file) state.names) q
      (at_root (without (path_of path file) state.names) state.names q
      (still_named (path_of path file) q state.names other))

  removed_gone : node_at removed (path_of path file) ≡ None
  removed_gone =
      node_at-tree_of (after_done (Remove (path_of path file)) state) (path_of path file)
      ∙ ap (node_by state.files (path_of path file))
      (ap (λ (root : Bool). if root then Some None
      else name_in (without (path_of path file) state.names) (path_of path file))
      (path_no_root path file shown)
      ∙ unnamed (path_of path file) state.names)

  module _ (met : Met file (node_at (tree_of state) (path_of path file))) where
    not_left : (other : MaildirFile) (m : Message) → IsMessageAt path removed other m
        → base_of other ≡ base_of file → (b : Bool)
        → bytes_eq (path_of path file) (path_of path other) ≡ b → ⊥
    not_left other m at same true is = no_message path removed other m
        (subst (λ (q : List ℕ). node_at removed q ≡ None)
        (bytes_same (path_of path file) (path_of path other) is) removed_gone)
        at.there
    not_left other m at same false is =
        let apart : path_of path file ≡ path_of path other → ⊥ = λ e. true_false
        (sym ((bytes_eq-Decides (path_of path file) (path_of path other)).1 e) ∙ is) in
        let was : IsMessageAt path (tree_of state) other m = record {
          shown = at.shown;
          there = sym (message_stays path (tree_of state) removed other
              (removed_stays (path_of path other) apart)) ∙ at.there;
        } in
        apart (ap (path_of path) (single.single file other met.0 m
        (record { shown = shown; there = met.1 }) was (sym same)))

    own_removal : TakesFile path (base_of file) (tree_of state) removed
    own_removal = record {
      folder = folder_stays path (tree_of state) removed
          (removed_stays path (path_no_folder path file shown))
          (λ in_cur. removed_stays (directory in_cur path)
          (path_no_directory path file in_cur shown))
          single.folder;
      others = λ other is apart. message_stays path (tree_of state) removed other
          (removed_stays (path_of path other)
          (λ same. apart (sym (ap base_of (path_once path file other shown is same)))));
      gone = λ other m at same. not_left other m at same
          (bytes_eq (path_of path file) (path_of path other)) refl;
    }

  pub removal_takes : refusal (Remove (path_of path file)) (tree_of state) ≡ None
      → TakesFile path (base_of file) (tree_of state) removed
  removal_takes done =
      own_removal (met_file file (node_at (tree_of state) (path_of path file)) done)

-- Our own renaming of a file.

-- the number of the file at a path, as the tree has it
numbered : (state : State) (p : List ℕ) (at : Option (Option ℕ)) → name_at state.names p ≡ at
    → file_refusal (node_by state.files p at) ≡ None
    → (n : ℕ) × (name_at state.names p ≡ Some (Some n))
numbered state p None is met = absurd (none_some Missing (sym met))
numbered state p (Some None) is met = absurd (none_some WrongNode (sym met))
numbered state p (Some (Some n)) is met = (n, is)

module _ (path : List ℕ) (from to : MaildirFile) (state : State)
    (single : IsSingleNamed path (tree_of state)) (shown_from : is_shown from.name ≡ true)
    (shown_to : is_shown to.name ≡ true) (n : ℕ)
    (numbered_so : name_at state.names (path_of path from) ≡ Some (Some n)) where
  abbrev pub renamed : List TreeNode
  renamed = tree_of (after_done (Rename (path_of path from) (path_of path to)) state)

  abbrev new_names : List Name
  new_names = record { path = path_of path to; file = Some n }
      ∷ without (path_of path to) (without (path_of path from) state.names)

  renamed_is : renamed ≡ tree_of (with_names new_names state)
  renamed_is = ap (λ (at : Option (Option ℕ)).
      tree_of (moved at (path_of path from) (path_of path to) state)) numbered_so

  renamed_at : (q : List ℕ) → node_at renamed q ≡ node_by state.files q (name_at new_names q)
  renamed_at q = ap (λ (t : List TreeNode). node_at t q) renamed_is
      ∙ node_at-tree_of (with_names new_names state) q

  renamed_stays : (q : List ℕ) → (path_of path from ≡ q → ⊥) → (path_of path to ≡ q → ⊥)
      → node_at renamed q ≡ node_at (tree_of state) q
  renamed_stays q other_from other_to =
      renamed_at q
      ∙ ap (node_by state.files q) (at_root new_names state.names q
      (ap (λ (b : Bool). if b then Some (Some n)
      else name_in (without (path_of path to) (without (path_of path from) state.names)) q)
      (differ (path_of path to) q other_to)
      ∙ still_named (path_of path to) q (without (path_of path from) state.names) other_to
      ∙ still_named (path_of path from) q state.names other_from))
      ∙ sym (node_at-tree_of state q)

  renamed_to : node_at renamed (path_of path to)
      ≡ Some (node_of state.files (path_of path to) (Some n))
  renamed_to =
      renamed_at (path_of path to)
      ∙ ap (node_by state.files (path_of path to))
      (ap (λ (root : Bool). if root then Some None else name_in new_names (path_of path to))
      (path_no_root path to shown_to)
      ∙ ap (λ (b : Bool). if b then Some (Some n)
      else name_in (without (path_of path to) (without (path_of path from) state.names))
      (path_of path to))
      ((bytes_eq-Decides (path_of path to) (path_of path to)).1 refl))

  renamed_gone : (path_of path to ≡ path_of path from → ⊥)
      → node_at renamed (path_of path from) ≡ None
  renamed_gone other =
      renamed_at (path_of path from)
      ∙ ap (node_by state.files (path_of path from))
      (ap (λ (root : Bool). if root then Some None else name_in new_names (path_of path from))
      (path_no_root path from shown_from)
      ∙ ap (λ (b : Bool). if b then Some (Some n)
      else name_in (without (path_of path to) (without (path_of path from) state.names))
      (path_of path from))
      (differ (path_of path to) (path_of path from) other)
      ∙ still_named (path_of path to) (path_of path from)
      (without (path_of path from) state.names) other
      ∙ unnamed (path_of path from) state.names)

  -- the message before and behind it
  abbrev message_from : Message
  message_from = message_of from (file_bytes_at state n)

  abbrev message_to : Message
  message_to = message_of to (file_bytes_at state n)

  was_there : IsMessageAt path (tree_of state) from message_from
  was_there = record {
    shown = shown_from;
    there = ap (λ (node : Option TreeNode). option_map (message_of from)
        (option_and_then node_file node))
        (node_at-tree_of state (path_of path from)
        ∙ ap (node_by state.files (path_of path from)) numbered_so);
  }

  is_there : IsMessageAt path renamed to message_to
  is_there = record {
    shown = shown_to;
    there = ap (λ (node : Option TreeNode). option_map (message_of to)
        (option_and_then node_file node)) renamed_to;
  }

  module _ (same_base : base_of to ≡ base_of from) where
    only_to : (file : MaildirFile) (m : Message) → IsMessageAt path renamed file m
        → base_of file ≡ base_of from → (a b : Bool)
        → bytes_eq (path_of path to) (path_of path file) ≡ a
        → bytes_eq (path_of path from) (path_of path file) ≡ b → file ≡ to
    only_to file m at same true b is_to is_from =
        sym (path_once path to file shown_to at.shown
        (bytes_same (path_of path to) (path_of path file) is_to))
    only_to file m at same false true is_to is_from =
        let here : path_of path from ≡ path_of path file =
        bytes_same (path_of path from) (path_of path file) is_from in
        absurd (no_message path renamed file m
        (subst (λ (q : List ℕ). node_at renamed q ≡ None) here (renamed_gone
        (λ e. true_false (sym ((bytes_eq-Decides (path_of path to) (path_of path file)).1
        (e ∙ here)) ∙ is_to)))) at.there)
    only_to file m at same false false is_to is_from =
        let apart_to : path_of path to ≡ path_of path file → ⊥ = λ e. true_false
        (sym ((bytes_eq-Decides (path_of path to) (path_of path file)).1 e) ∙ is_to) in
        let apart_from : path_of path from ≡ path_of path file → ⊥ = λ e. true_false
        (sym ((bytes_eq-Decides (path_of path from) (path_of path file)).1 e) ∙ is_from) in
        let was : IsMessageAt path (tree_of state) file m = record {
          shown = at.shown;
          there = sym (message_stays path (tree_of state) renamed file
              (renamed_stays (path_of path file) apart_from apart_to)) ∙ at.there;
        } in
        absurd (apart_from (ap (path_of path) (single.single from file message_from m was_there was
        (sym same))))

    pub own_rename : (added cleared : Flags)
        → flags_named to ≡ stored Maildir (applied (flags_named from) added cleared)
        → RenamesFile path (base_of from) (Alters added cleared) (tree_of state) renamed
    own_rename added cleared flags = record {
      folder = folder_stays path (tree_of state) renamed
          (renamed_stays path (path_no_folder path from shown_from)
          (path_no_folder path to shown_to))
          (λ in_cur. renamed_stays (directory in_cur path)
          (path_no_directory path from in_cur shown_from)
          (path_no_directory path to in_cur shown_to))
          single.folder;
      others = λ other is apart. message_stays path (tree_of state) renamed other
          (renamed_stays (path_of path other)
          (λ same. apart (sym (ap base_of (path_once path from other shown_from is same))))
          (λ same. apart (sym (ap base_of (path_once path to other shown_to is same))
          ∙ same_base)));
      from = from;
      to = to;
      message = message_from;
      renamed = message_to;
      was = was_there;
      is = is_there;
      base_was = refl;
      base_is = same_base;
      flags = λ i. record {
        order = order_of (sym same_base i);
        key = sym same_base i;
        flags = sym flags i;
        raw = file_bytes_at state n;
      } ∷ [];
      alone = λ file m at same. only_to file m at same
          (bytes_eq (path_of path to) (path_of path file))
          (bytes_eq (path_of path from) (path_of path file)) refl refl;
    }

pub rename_renames : (path : List ℕ) (from to : MaildirFile) (added cleared : Flags)
    (state : State) → IsSingleNamed path (tree_of state) → is_shown from.name ≡ true
    → is_shown to.name ≡ true → base_of to ≡ base_of from
    → flags_named to ≡ stored Maildir (applied (flags_named from) added cleared)
    → refusal (Rename (path_of path from) (path_of path to)) (tree_of state) ≡ None
    → RenamesFile path (base_of from) (Alters added cleared) (tree_of state)
    (tree_of (after_done (Rename (path_of path from) (path_of path to)) state))
rename_renames path from to added cleared state single shown_from shown_to same flags done =
    let here = (first_none _ _ (first_none _ _ (first_none _ _ done).1).1).0 in
    let number = numbered state (path_of path from) (name_at state.names (path_of path from)) refl
    (ap file_refusal (sym (node_at-tree_of state (path_of path from))) ∙ here) in
    own_rename path from to state single shown_from shown_to number.0 number.1 same added cleared
    flags
