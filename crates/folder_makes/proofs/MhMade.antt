-- An MH folder that was made.
use Rattle.std.proofs.Common.{◌≡◌, ◌≤◌, ◌==◌, ◌||◌, ◌⊎◌, ◌∷◌, ◌++◌, ◌∙◌, [], ℕ, Bool, true, false}
use Rattle.std.proofs.Common.{List}
use Rattle.std.proofs.Common.{Option, Some, None, Result, Ok, Err, ap, arith, codes, if◌then◌else◌}
use Rattle.std.proofs.Common.{inl, inr, is_none, is_some, length, map, refl, subst, sym}
use Rattle.std.proofs.lemmas.Bool.{cond-false, cond-true, or_left, or_right}
use Rattle.std.proofs.lemmas.Slice.Eq.{bytes_eq-Decides}
use Rattle.std.specs.List.{filter_map}
use Rattle.std.specs.Prelude.{IfSome, OnOk, option_and_then, unwrap_or}
use Rattle.std.specs.Str.{bytes_eq}
use Rattle.mail_base.specs.Ordered.{IsIn}
use Rattle.mail_base.specs.declared.kind.Kind.{Kind}
use Rattle.mail_base.specs.declared.kind.Kind.TheVariants.{Maildir, Mh}
use Rattle.disk_model.specs.Journal.{Answer, Call, Create, Cut, Done, Entry, ListDir, MakeDir}
use Rattle.disk_model.specs.Journal.{Others}
use Rattle.disk_model.specs.Journal.{Own, Past, ReadAll, ReadFront, Refused, Remove, Rename}
use Rattle.disk_model.specs.Journal.{StatPath}
use Rattle.disk_model.specs.Journal.{Sync, SyncDir, WriteAt, has_foreign}
use Rattle.disk_model.specs.Judge.{Called, answer_by, done_by}
use Rattle.disk_model.specs.Lawful.{AreLawful, IsAllowed, IsLawful}
use Rattle.disk_model.specs.Refusals.{below_refusal, first_refusal, free_refusal}
use Rattle.disk_model.specs.Seen.{Seen}
use Rattle.disk_model.specs.State.{File, State, after_done, after_entry, durable, name_at, name_in}
use Rattle.disk_model.specs.State.{run_entries, state_after, state_of, tree_of}
use Rattle.disk_model.specs.Tree.{TreeNode, folder_of, is_folder_node, is_root, is_tree, node_at}
use Rattle.disk_model.specs.declared.answers.DiskError.{DiskError}
use Rattle.disk_model.specs.declared.answers.DiskError.TheVariants as disk
use Rattle.disk_model.proofs.Runs.{run_entries-append}
use Rattle.disk_model.proofs.Trees.{node_at-tree_of, node_by}
use Rattle.folder_core.specs.Directory.{front_of, is_folder_at, node_file, path_in}
use Rattle.folder_core.specs.Kinds.{bytes_kind, directory_kind, has_number, has_sequences, kind_at}
use Rattle.folder_core.specs.Kinds.{node_kind}
use Rattle.folder_core.specs.Maildir.{directory}
use Rattle.folder_core.specs.Message.{Message}
use Rattle.folder_core.specs.Mh.{is_number, mh_messages, message_at, numbers_of, sequences_at}
use Rattle.folder_core.specs.Mh.{sequences_path}
use Rattle.folder_core.specs.declared.error.ScanError.TheVariants.{NotMailbox}
use Rattle.folder_core.proofs.KindsLemmas.{number_is_name}
use Rattle.folder_core.proofs.NamesIn.{name_held, path_is_in}
use Rattle.folder_changes.proofs.OrderLemmas.{same_lists}
use Rattle.folder_changes.specs.declared.sync_error.SyncError.{SyncError}
use Rattle.folder_drivers.specs.Made.{MadeAlone, is_its, mh_makes}
use Rattle.folder_drivers.specs.MaildirAppend.{is_there}
use Rattle.folder_drivers.proofs.MhCalls.{file_stays, front_long, no_folder}
use Rattle.folder_drivers.proofs.MhMessages.{message_named, message_order, message_same}
use Rattle.folder_drivers.proofs.MhMessages.{messages_rise, named_message, stands_before}
use Rattle.folder_drivers.proofs.Sturdy.{Sturdy, sturdy_entry}
use Rattle.folder_drivers.proofs.Touching.{Misses}
use Rattle.folder_shapes.specs.Mh.{mh_files, mh_shape, number_key}
use Rattle.folder_shapes.specs.Reading.{behind}
use Rattle.folder_shapes.proofs.Nodes.{behind_there}
use Rattle.folder_stops.specs.Along.{Grown}
use Rattle.folder_stops.specs.Does.{AllOwn}
use Rattle.folder_stops.proofs.Along.{grown_both, grown_map, grown_then, judged_grown}
use Rattle.folder_stops.proofs.Steps.{file_last}
use Rattle.folder_makes.specs.Parts.{IsAt, IsCreate, IsKeep, IsMaking, IsPart, Leaves, LeavesNode}
use Rattle.folder_makes.specs.Parts.{MakesBy, NeedsEither, Nowhere, SequencesKept}
use Rattle.folder_makes.proofs.Calling.{IsQuiet}
use Rattle.folder_makes.proofs.Leaving.{foreign_behind, run_last}
use Rattle.folder_makes.proofs.Making.{AreApart}
use Rattle.folder_makes.proofs.Parting.{part_as, part_then}
use Rattle.folder_makes.proofs.Placing.{grown_lawful, nothing_in}
use Rattle.folder_drivers.specs.Refusing.{IsAny}

true_false : ◌≡◌ {A = Bool} true false → ⊥
true_false e = cc

-- It is made at a path of no message.

-- a path that is not longer stands before the front, or is it
behind_end : (front path : List ℕ) → length path ≤ length front
    → (behind front path ≡ None) ⊎ (behind front path ≡ Some [])
behind_end [] [] short = inr refl
behind_end [] (c ∷ path) short = absurd (omega (arith, short))
behind_end (b ∷ front) [] short = inl refl
behind_end (b ∷ front) (c ∷ path) short =
    by (b == c) (behind_end front path (omega (arith, short)))
  where
    by : (t : Bool) → (behind front path ≡ None) ⊎ (behind front path ≡ Some [])
        → ((if t then behind front path else None) ≡ None)
        ⊎ ((if t then behind front path else None) ≡ Some [])
    by true is = is
    by false is = inl refl

no_slot : (path : List ℕ) → (mh_shape path).slot path ≡ None
no_slot path = by (behind_end (front_of path) path (front_long path))
  where
    by : (behind (front_of path) path ≡ None) ⊎ (behind (front_of path) path ≡ Some [])
        → (mh_shape path).slot path ≡ None
    by (inl is) = ap number_key is
    by (inr is) = ap number_key is

-- the file of the sequences is none of a message either
sequences_slot : (path : List ℕ) → (mh_shape path).slot (sequences_path path) ≡ None
sequences_slot path = ap number_key (behind_there (front_of path) (codes ".mh_sequences"))
    ∙ cond-false (is_number (codes ".mh_sequences")) (Some (codes ".mh_sequences")) None refl

sequences_home : (path : List ℕ) → is_its (mh_files path) path (sequences_path path) ≡ true
sequences_home path =
    or_right (bytes_eq (sequences_path path) path) ((mh_shape path).home (sequences_path path))
    (ap is_some (behind_there (front_of path) (codes ".mh_sequences")))

pub mh_apart : (path : List ℕ)
    → AreApart (mh_files path) path (IsAt path) (IsAt (sequences_path path))
mh_apart path = record {
  dir_home = λ p is.
      or_left (bytes_eq p path) ((mh_shape path).home p) ((bytes_eq-Decides p path).1 is);
  dir_slot = λ p is. ap (mh_shape path).slot is ∙ no_slot path;
  file_home = λ p is. ap (is_its (mh_files path) path) is ∙ sequences_home path;
  file_slot = λ p is. ap (mh_shape path).slot is ∙ sequences_slot path;
  file_making = λ p is. ap (mh_shape path).slot is ∙ sequences_slot path;
}

-- the path of the sequences is not that of the folder
sequences_apart : (path : List ℕ) → path ≡ sequences_path path → ⊥
sequences_apart path same = no_folder path (codes ".mh_sequences") refl (sym same)

-- nor that of a number
number_apart : (path name : List ℕ) → is_number name ≡ true
    → sequences_path path ≡ path_in path name → ⊥
number_apart path name number same = true_false (sym number
    ∙ ap is_number (sym (one_name (sym (behind_there (front_of path) (codes ".mh_sequences"))
    ∙ ap (behind (front_of path)) same ∙ behind_there (front_of path) name))))
  where
    one_name : Some (codes ".mh_sequences") ≡ Some name → codes ".mh_sequences" ≡ name
    one_name is = cc

-- Its messages stay.

-- each number has the same message
pub messages_same : (path : List ℕ) (old new : List TreeNode)
    → ((name : List ℕ) → is_number name ≡ true
    → message_at new path (sequences_at new path) name
    ≡ message_at old path (sequences_at old path) name)
    → mh_messages new path ≡ mh_messages old path
messages_same path old new messages =
    same_lists stands_before message_order (mh_messages new path) (mh_messages old path)
    (messages_rise new path) (messages_rise old path)
    (λ m held. to m held) (λ m held. from m held)
  where
    to : (m : Message) → IsIn m (mh_messages new path) → IsIn m (mh_messages old path)
    to m held = let is = message_named path new m held in
        named_message path old m m.key is.0 (sym (messages m.key is.0) ∙ is.1)

    from : (m : Message) → IsIn m (mh_messages old path) → IsIn m (mh_messages new path)
    from m held = let is = message_named path old m held in
        named_message path new m m.key is.0 (messages m.key is.0 ∙ is.1)

-- where nothing stood, no sequences do
no_sequences : (found : Option TreeNode)
    → ◌≡◌ {A = Option DiskError} (free_refusal found) None
    → unwrap_or (option_and_then node_file found) [] ≡ []
no_sequences None is = refl
no_sequences (Some node) is = absurd (cc)

pub free_told : (below found : Option TreeNode)
    → first_refusal (below_refusal below) (free_refusal found) ≡ None → free_refusal found ≡ None
free_told None found is = absurd (cc)
free_told (Some node) found is = by (is_none node.bytes) is
  where
    by : (b : Bool) → first_refusal (if b then None else Some disk.Missing) (free_refusal found)
        ≡ None → free_refusal found ≡ None
    by true is = is
    by false is = absurd (cc)

-- nor in a file that was just made
new_sequences : (path : List ℕ) (s : State)
    → sequences_at (tree_of (after_done (Create (sequences_path path)) s)) path ≡ []
new_sequences path s =
    ap (λ (node : Option TreeNode). unwrap_or (option_and_then node_file node) [])
    (node_at-tree_of t p ∙ ap (node_by t.files p) at)
    ∙ ap (λ (f : File). f.bytes) (file_last s.files (durable [] s.clock))
  where
    p : List ℕ
    p = sequences_path path

    t : State
    t = after_done (Create p) s

    at : name_at t.names p ≡ Some (Some (length s.files))
    at = ap (λ (r : Bool). if r then Some None
        else name_in (record { path = p; file = Some (length s.files) } ∷ s.names) p)
        (path_is_in path (codes ".mh_sequences") refl).no_root
        ∙ ap (λ (b : Bool). if b then Some (Some (length s.files)) else name_in s.names p)
        ((bytes_eq-Decides p p).1 refl)

-- a call that misses the numbers leaves the messages where the sequences are the same
numbers_same : (path : List ℕ) (call : Call) (answer : Answer) (s : State) → Sturdy s
    → ((name : List ℕ) → is_number name ≡ true → Misses (path_in path name) call)
    → sequences_at (tree_of (after_entry s (Own call answer))) path ≡ sequences_at (tree_of s) path
    → mh_messages (tree_of (after_entry s (Own call answer))) path ≡ mh_messages (tree_of s) path
numbers_same path call answer s sturdy misses same =
    messages_same path (tree_of s) (tree_of (after_entry s (Own call answer))) (λ name number.
    message_same path (tree_of s) (tree_of (after_entry s (Own call answer)))
    (sequences_at (tree_of (after_entry s (Own call answer))) path)
    (sequences_at (tree_of s) path) name same
    (file_stays (path_in path name) call answer s sturdy (misses name number)))

mh_call : (path : List ℕ) (call : Call) (answer : Answer) (s : State) → Sturdy s
    → IsAllowed call answer (tree_of s)
    → IsMaking (IsAt path) (IsAt (sequences_path path)) call
    → mh_messages (tree_of (after_entry s (Own call answer))) path ≡ mh_messages (tree_of s) path
mh_call path (ListDir dir) Done s sturdy lawful is = refl
mh_call path (ListDir dir) (Refused why wrote) s sturdy lawful is = refl
mh_call path (SyncDir dir) Done s sturdy lawful is = refl
mh_call path (SyncDir dir) (Refused why wrote) s sturdy lawful is = refl
mh_call path (MakeDir p) answer s sturdy lawful is =
    numbers_same path (MakeDir p) answer s sturdy
    (λ name number same. no_folder path name (number_is_name name number) (sym same ∙ is))
    (ap (λ (o : Option (List ℕ)). unwrap_or o [])
    (file_stays (sequences_path path) (MakeDir p) answer s sturdy
    (λ same. sequences_apart path (sym is ∙ same))))
mh_call path (Create p) Done s sturdy lawful is =
    numbers_same path (Create p) Done s sturdy
    (λ name number same. number_apart path name number (sym is ∙ same))
    (ap (λ (q : List ℕ). sequences_at (tree_of (after_done (Create q) s)) path) is
    ∙ new_sequences path s
    ∙ sym (no_sequences (node_at (tree_of s) (sequences_path path))
    (ap (λ (q : List ℕ). free_refusal (node_at (tree_of s) q)) (sym is)
    ∙ free_told (node_at (tree_of s) (folder_of p)) (node_at (tree_of s) p) lawful)))
mh_call path (Create p) (Refused why wrote) s sturdy lawful is = refl
mh_call path (StatPath at) answer s sturdy lawful is = absurd is
mh_call path (ReadFront at size) answer s sturdy lawful is = absurd is
mh_call path (ReadAll at limit) Done s sturdy lawful is = refl
mh_call path (ReadAll at limit) (Refused why wrote) s sturdy lawful is = refl
mh_call path (WriteAt at from piece) answer s sturdy lawful is = absurd is
mh_call path (Cut at size) answer s sturdy lawful is = absurd is
mh_call path (Sync at) answer s sturdy lawful is = absurd is
mh_call path (Rename from to) answer s sturdy lawful is = absurd is
mh_call path (Remove at) answer s sturdy lawful is = absurd is

-- while nobody else acts
pub mh_stays : (path : List ℕ) (es : List Entry) (s : State) → Sturdy s → AreLawful es s
    → AllOwn (λ call answer. IsMaking (IsAt path) (IsAt (sequences_path path)) call) es
    → has_foreign es ≡ false
    → mh_messages (tree_of (run_entries es s)) path ≡ mh_messages (tree_of s) path
mh_stays path [] s sturdy lawful all none = refl
mh_stays path (Own call answer ∷ es) s sturdy lawful all none =
    mh_stays path es (after_entry s (Own call answer)) (sturdy_entry (Own call answer) s sturdy)
    lawful.1 all.1 none
    ∙ mh_call path call answer s sturdy lawful.0.1 all.0
mh_stays path (Others action ∷ es) s sturdy lawful all none = absurd (cc)

-- It stands, with the messages that were there.

no_messages : (path : List ℕ) (tree : List TreeNode) → is_tree tree ≡ true
    → node_at tree path ≡ None → mh_messages tree path ≡ []
no_messages path tree is none =
    ap (λ (names : List (List ℕ)). filter_map (message_at tree path (sequences_at tree path))
    (numbers_of names)) (nothing_in tree path is none)

-- a directory with the file of the sequences is an MH folder
mh_told : (empty : Kind) (path : List ℕ) (tree : List TreeNode) → is_folder_at tree path ≡ true
    → is_there (sequences_path path) tree ≡ true
    → is_folder_at tree (directory true path) ≡ false → kind_at empty tree path ≡ Ok Mh
mh_told empty path tree folder there no_cur = by (node_at tree path) folder
  where
    told : directory_kind tree path ≡ Ok Mh
    told = cond-false (is_folder_at tree (directory true path)) (Ok Maildir)
        (if has_sequences tree path || has_number tree path then Ok Mh else Err (NotMailbox 0))
        no_cur
        ∙ cond-true (has_sequences tree path || has_number tree path) (Ok Mh) (Err (NotMailbox 0))
        (or_left (has_sequences tree path) (has_number tree path)
        (name_held tree path (codes ".mh_sequences") refl there))

    by_bytes : (bytes : Option (List ℕ)) → is_none bytes ≡ true
        → bytes_kind empty tree path bytes ≡ Ok Mh
    by_bytes None is = told
    by_bytes (Some bytes) is = absurd (cc)

    by : (node : Option TreeNode) → is_folder_node node ≡ true
        → node_kind empty tree path node ≡ Ok Mh
    by None is = absurd (cc)
    by (Some node) is = by_bytes node.bytes is

-- Parts.

pub kept_tree : (es : List Entry) (s : State)
    → AllOwn (λ call answer. IsMaking Nowhere Nowhere call) es → has_foreign es ≡ false
    → tree_of (run_entries es s) ≡ tree_of s
kept_tree [] s all none = refl
kept_tree (Own call answer ∷ es) s all none =
    kept_tree es (after_entry s (Own call answer)) all.1 none ∙ by call answer all.0
  where
    by : (call : Call) (answer : Answer) → IsMaking Nowhere Nowhere call
        → tree_of (after_entry s (Own call answer)) ≡ tree_of s
    by (ListDir dir) Done is = refl
    by (ListDir dir) (Refused why wrote) is = refl
    by (SyncDir dir) Done is = refl
    by (SyncDir dir) (Refused why wrote) is = refl
    by (MakeDir p) answer is = absurd is
    by (Create p) answer is = absurd is
    by (StatPath at) answer is = absurd is
    by (ReadFront at size) answer is = absurd is
    by (ReadAll at limit) Done is = refl
    by (ReadAll at limit) (Refused why wrote) is = refl
    by (WriteAt at from piece) answer is = absurd is
    by (Cut at size) answer is = absurd is
    by (Sync at) answer is = absurd is
    by (Rename from to) answer is = absurd is
    by (Remove at) answer is = absurd is
kept_tree (Others action ∷ es) s all none = absurd (cc)

-- the sequences stand while names are put on the disk
pub sequences_if : (path : List ℕ) (result : Result (Unit {0}) SyncError) (a b c : Option Past)
    → LeavesNode (sequences_path path) a b → MakesBy Nowhere Nowhere b c
    → OnOk result (SequencesKept path a c)
sequences_if path (Err why) a b c first next = tt
sequences_if path (Ok done) a b c first next = record {
  grown = grown_then a b c _ _ _ first.grown next.grown (λ s xs ys one two none.
      ap (λ (t : State). is_there (sequences_path path) (tree_of t)) (run_entries-append xs ys s)
      ∙ ap (is_there (sequences_path path))
      (kept_tree ys (run_entries xs s) two (foreign_behind xs ys none)) ∙ one);
}

pub leaves_if : (D F : List ℕ → Type 0) (path : List ℕ) (result : Result (Unit {0}) SyncError)
    (a b c : Option Past) → MakesBy D F a b → OnOk result (Leaves path b c)
    → OnOk result (Leaves path a c)
leaves_if D F path (Err why) a b c first next = tt
leaves_if D F path (Ok done) a b c first next = record {
  grown = grown_then a b c _ _ _ first.grown next.grown (λ s xs ys one two.
      ap (λ (t : State). is_folder_at (tree_of t) path) (run_entries-append xs ys s) ∙ two);
}

behind_look : (path : List ℕ) (a b c : Option Past) → MakesBy (IsAt path) Nowhere a b
    → SequencesKept path b c → SequencesKept path a c
behind_look path a b c first next = record {
  grown = grown_then a b c _ _ _ first.grown next.grown (λ s xs ys one two none.
      ap (λ (t : State). is_there (sequences_path path) (tree_of t)) (run_entries-append xs ys s)
      ∙ two (foreign_behind xs ys none));
}

pub finished_then : {A : Type 0} (path : List ℕ) (result : Result A SyncError) {given : Unit {0}}
    {old mid new : Seen}
    → IsPart Nowhere (IsAt (sequences_path path)) (IsCreate (sequences_path path)) (Ok given)
    old mid
    → IsPart Nowhere Nowhere (IsKeep path) result mid new
    → IsPart Nowhere (IsAt (sequences_path path))
    (NeedsEither (IsCreate (sequences_path path)) (IsKeep path)) result old new
finished_then path result {given} part next =
    part_then Nowhere (IsAt (sequences_path path)) Nowhere Nowhere Nowhere
    (IsAt (sequences_path path)) (IsCreate (sequences_path path)) (IsKeep path)
    (NeedsEither (IsCreate (sequences_path path)) (IsKeep path)) given result (λ p is. is)
    (λ p is. is) (λ p is. is) (λ p is. absurd is)
    (λ call is. subst (IsQuiet Nowhere (IsAt (sequences_path path))) (sym is)
    (λ f at same. sequences_apart path (sym same ∙ at)))
    (λ call is. inr is) part next

pub finished_not : (path : List ℕ) (why : SyncError) {old new : Seen}
    → IsPart Nowhere (IsAt (sequences_path path)) (IsCreate (sequences_path path)) {A = Unit {0}}
    (Err why) old new
    → IsPart Nowhere (IsAt (sequences_path path))
    (NeedsEither (IsCreate (sequences_path path)) (IsKeep path)) {A = Unit {0}} (Err why) old new
finished_not path why part =
    part_as Nowhere (IsAt (sequences_path path)) Nowhere (IsAt (sequences_path path))
    (IsCreate (sequences_path path)) (NeedsEither (IsCreate (sequences_path path)) (IsKeep path))
    (Err why) (λ p is. is) (λ p is. is) (λ call is. inl is) part

pub mh_then : {A : Type 0} (path : List ℕ) (result : Result (Unit {0}) SyncError) {given : A}
    {old mid new : Seen} → IsPart (IsAt path) Nowhere IsAny (Ok given) old mid
    → IsPart Nowhere (IsAt (sequences_path path))
    (NeedsEither (IsCreate (sequences_path path)) (IsKeep path)) result mid new
    → IsPart (IsAt path) (IsAt (sequences_path path)) IsAny result old new
mh_then path result {given} part next =
    part_then (IsAt path) Nowhere Nowhere (IsAt (sequences_path path)) (IsAt path)
    (IsAt (sequences_path path)) IsAny
    (NeedsEither (IsCreate (sequences_path path)) (IsKeep path)) IsAny given
    result (λ p is. is) (λ p is. absurd is) (λ p is. absurd is) (λ p is. is) quiet
    (λ call is. tt) part next
  where
    quiet : (call : Call) → NeedsEither (IsCreate (sequences_path path)) (IsKeep path) call
        → IsQuiet (IsAt path) Nowhere call
    quiet call (inl is) = subst (IsQuiet (IsAt path) Nowhere) (sym is) (record {
      dirs = λ d at same. sequences_apart path (sym at ∙ same);
      files = λ f none. absurd none;
      around = λ f none. absurd none;
    })
    quiet call (inr is) = subst (IsQuiet (IsAt path) Nowhere) (sym is) (λ f none. absurd none)

pub mh_first : {A : Type 0} (path : List ℕ) (result : Result A SyncError) {old new : Seen}
    → IsPart (IsAt path) Nowhere IsAny result old new
    → IsPart (IsAt path) (IsAt (sequences_path path)) IsAny result old new
mh_first path result part =
    part_as (IsAt path) Nowhere (IsAt path) (IsAt (sequences_path path)) IsAny IsAny result
    (λ p is. is) (λ p is. absurd is) (λ call is. is) part

alone : (marks : ℕ) (path : List ℕ) (a b c : Option Past) → IfSome c (IsLawful marks)
    → MakesBy (IsAt path) Nowhere a b
    → MakesBy (IsAt path) (IsAt (sequences_path path)) a c
    → Leaves path a c → SequencesKept path b c → Grown a c (MadeAlone mh_makes path)
alone marks path a b c lawful first calls leaves sequences =
    grown_lawful marks a c _ _ lawful
    (grown_both a c _ _ calls.grown
    (grown_both a c _ _ leaves.grown (behind_look path a b c first sequences).grown))
    (λ s es tree sturdy are is none. record {
      reads = cond-true _ (Some (mh_messages (tree_of (run_entries es s)) path)) None is.1.0
          ∙ ap Some (mh_stays path es s sturdy are is.0 none);
      none = λ nothing. no_messages path (tree_of s) tree nothing;
      kind = λ empty no_cur. mh_told empty path (tree_of (run_entries es s)) is.1.0 (is.1.1 none)
          no_cur;
    })

pub made_if : (marks : ℕ) (path : List ℕ) (result : Result (Unit {0}) SyncError)
    (a b c : Option Past) → IfSome c (IsLawful marks) → MakesBy (IsAt path) Nowhere a b
    → MakesBy (IsAt path) (IsAt (sequences_path path)) a c
    → OnOk result (Leaves path b c) → OnOk result (SequencesKept path b c)
    → OnOk result (Grown a c (MadeAlone mh_makes path))
made_if marks path (Ok done) a b c lawful first calls leaves sequences =
    alone marks path a b c lawful first calls
    (leaves_if (IsAt path) Nowhere path (Ok done) a b c first leaves) sequences
made_if marks path (Err why) a b c lawful first calls leaves sequences = tt

-- The file of the sequences.

there : (p : List ℕ) (s : State) → is_there p (tree_of (after_done (Create p) s)) ≡ true
there p s = ap is_some (node_at-tree_of t p) ∙ some_by (is_root p)
    ((bytes_eq-Decides p p).1 refl)
  where
    t : State
    t = after_done (Create p) s

    some_by : (root : Bool) → bytes_eq p p ≡ true
        → is_some (node_by t.files p (if root then Some None
        else (if bytes_eq p p then Some (Some (length s.files)) else name_in s.names p))) ≡ true
    some_by true is = refl
    some_by false is = ap (λ (b : Bool). is_some (node_by t.files p
        (if b then Some (Some (length s.files)) else name_in s.names p))) is

pub created_node : (p at : List ℕ) {a b : Option Past} → at ≡ p
    → Called (Ok tt) (Create at) (done_by (Create at)) a b → LeavesNode p a b
created_node p at {a} {b} same took = subst (λ (q : List ℕ). LeavesNode q a b) same (record {
  grown = grown_map a b _ _ (judged_grown tt (Create at) (done_by (Create at)) a b took.goes)
      (λ s es is.
      ap (λ (l : List Entry). is_there at (tree_of (run_entries l s))) is.1
      ∙ ap (λ (t : State). is_there at (tree_of t)) (run_last is.0 (Own (Create at) Done) s)
      ∙ there at (run_entries (map Others is.0) s));
})

way_there : (below found : Option TreeNode)
    → ◌≡◌ {A = Result (Unit {0}) DiskError} (Err disk.Exists)
    (answer_by (first_refusal (below_refusal below) (free_refusal found)) tt)
    → is_some found ≡ true
way_there None found is = absurd (cc)
way_there (Some node) found is = by (is_none node.bytes) found is
  where
    by : (b : Bool) (found : Option TreeNode)
        → ◌≡◌ {A = Result (Unit {0}) DiskError} (Err disk.Exists)
        (answer_by (first_refusal (if b then None else Some disk.Missing) (free_refusal found)) tt)
        → is_some found ≡ true
    by true None is = absurd (cc)
    by true (Some n) is = refl
    by false found is = absurd (cc)

in_way : (p : List ℕ) (a b : Option Past)
    → Called {A = Unit {0}} (Err disk.Exists) (Create p) (done_by (Create p)) a b
    → Grown a b (λ s es. is_there p (tree_of (run_entries es s)) ≡ true)
in_way p None b took = took.goes
in_way p (Some past) None took = absurd took.goes
in_way p (Some past) (Some new) took = let step = took.goes in record {
  same_first = step.same_first;
  more = map Others step.actions ++ Own (Create p) step.answer ∷ [];
  journal = step.journal;
  along = ap (λ (answer : Answer). is_there p (tree_of (run_entries
      (map Others step.actions ++ Own (Create p) answer ∷ []) (state_after past)))) step.answered
      ∙ ap (λ (t : State). is_there p (tree_of t))
      (run_last step.actions (Own (Create p) (Refused disk.Exists 0)) (state_after past))
      ∙ ap (λ (t : State). is_there p (tree_of t))
      (sym (run_entries-append past.journal (map Others step.actions) (state_of past.first)))
      ∙ way_there _ _ step.judged;
}

pub exists_node : (p at : List ℕ) (why : DiskError) {a b : Option Past} → at ≡ p
    → why ≡ disk.Exists → Called {A = Unit {0}} (Err why) (Create at) (done_by (Create at)) a b
    → LeavesNode p a b
exists_node p at why {a} {b} same is took =
    subst (λ (q : List ℕ). LeavesNode q a b) same (record {
      grown = in_way at a b (subst (λ (w : DiskError). Called {A = Unit {0}} (Err w) (Create at)
          (done_by (Create at)) a b) is took);
    })
