-- New sequences are put in place.
use Rattle.std.proofs.Common.{◌≡◌, ◌≢◌, ◌≤◌, ◌<◌, ◌+◌, ◌-◌, ◌++◌, ℕ, zero, suc, Bool, true, false}
use Rattle.std.proofs.Common.{List, [], ◌∷◌, Option, Some, None, length, take, drop, refl, sym, ◌∙◌}
use Rattle.std.proofs.Common.{ap, subst, arith, inl, if◌then◌else◌, Ok}
use Rattle.std.proofs.Common.{get_or-set_same, ltb-true, nat_lt}
use Rattle.std.proofs.lemmas.List.{append-nil}
use Rattle.std.specs.Prelude.{codes, option_and_then, slice_set, unwrap_or}
use Rattle.disk_model.specs.Journal.{Action, Answer, Call, Create, Done, Entry, Others, Own, Past}
use Rattle.disk_model.specs.Journal.{Rename, Sync, WriteAt}
use Rattle.disk_model.specs.Judge.{IsLonger, OneStep, done_by}
use Rattle.disk_model.specs.State.{File, State, after_done, after_entry}
use Rattle.disk_model.specs.State.{changed, durable, file_at, moved, name_at, name_in, of_length}
use Rattle.disk_model.specs.State.{settled, state_at, synced, tree_at, tree_of, without}
use Rattle.disk_model.specs.State.{written}
use Rattle.disk_model.specs.Tree.{TreeNode, is_root, node_at}
use Rattle.disk_model.proofs.Marks.{length_longer}
use Rattle.disk_model.proofs.Trees.{node_at-tree_of, node_by}
use Rattle.folder_core.specs.Directory.{node_file}
use Rattle.folder_core.specs.Mh.{sequences_at, sequences_path}
use Rattle.folder_core.proofs.NamesIn.{path_is_in}
use Rattle.folder_changes.specs.Worked.{own_at}
use Rattle.folder_drivers.specs.MhNames.{new_sequences_path}
use Rattle.folder_drivers.specs.MhSync.{LeavesNumbers, OthersSpare, mh_at}
use Rattle.folder_stops.specs.Others.{SparesPath}
use Rattle.folder_stops.proofs.Rows.{named}
use Rattle.folder_stops.proofs.Sides.{spared}
use Rattle.folder_stops.proofs.Steps.{file_last}
use Rattle.folder_stops.proofs.Words.{found, same}
use Rattle.mh_syncs.specs.Parts.{PlacedAt, Places}
use Rattle.folder_drivers.specs.MhAlike.{AreAlike}
use Rattle.folder_drivers.proofs.MhCalls.{stays_alike}
use Rattle.mh_syncs.proofs.Folders.{create_leaves, over_misses, sync_leaves}
use Rattle.mh_syncs.proofs.Folders.{write_leaves}
use Rattle.mh_syncs.proofs.Marking.{StepMark, longer_then, next_state, step_mark, step_next}
use Rattle.mh_syncs.proofs.Marking.{step_only, step_own}
use Rattle.mh_syncs.proofs.Paths.{new_side}
use Rattle.mh_syncs.proofs.Stretches.{leaves_then, step_leaves}
use Rattle.folder_drivers.proofs.Sturdy.{Sturdy, all_paths, sturdy_at}

not_less : (i j : ℕ) → nat_lt i j ≡ false → j ≤ i
not_less i j is = grind (arith, is)

-- A file of these bytes stands at a path.
pub record StandsAt (path bytes : List ℕ) (s : State) : Type 0 where
  pub n : ℕ
  pub name : name_at s.names path ≡ Some (Some n)
  pub bytes_are : (file_at s.files n).bytes ≡ bytes

module _ (path : List ℕ) (no_root : is_root path ≡ false) where
  created : (s : State) → StandsAt path [] (after_done (Create path) s)
  created s = record {
    n = length s.files;
    name = ap (λ (r : Bool). if r then Some None
        else name_in (named path (length s.files) ∷ s.names) path) no_root
        ∙ ap (λ (b : Bool). if b then Some (Some (length s.files)) else name_in s.names path)
        (same path);
    bytes_are = ap (λ (f : File). f.bytes) (file_last s.files (durable [] s.clock));
  }

  -- what others do elsewhere leaves it
  stands_on : (bytes : List ℕ) (action : Action) (s : State) → Sturdy s
      → SparesPath path action → StandsAt path bytes s
      → StandsAt path bytes (after_entry s (Others action))
  stands_on bytes action s sturdy spares is =
      let keeps = spared all_paths path action s spares sturdy in record {
        n = is.n;
        name = keeps.name ∙ is.name;
        bytes_are = ap (λ (f : File). f.bytes) (keeps.file is.n is.name) ∙ is.bytes_are;
      }

  set_file : (s : State) (n : ℕ) (file : File) → Sturdy s → name_at s.names path ≡ Some (Some n)
      → file_at (slice_set s.files n file) n ≡ file
  set_file s n file sturdy name =
      get_or-set_same s.files n file (durable [] 0)
      (sturdy.below s.names (named path n) n (inl refl) (found path s.names n name) refl)

  wrote : (bytes : List ℕ) (s : State) → Sturdy s → StandsAt path [] s
      → StandsAt path bytes (after_done (WriteAt path 0 bytes) s)
  wrote bytes s sturdy is =
      subst (λ (o : Option (Option ℕ)). StandsAt path bytes (changed o (written 0 bytes) s))
      (sym is.name) (record {
        n = is.n;
        name = is.name;
        bytes_are =
            ap (λ (f : File). f.bytes)
            (set_file s is.n (written 0 bytes s.clock (file_at s.files is.n)) sturdy is.name)
            ∙ written_bytes (file_at s.files is.n).bytes is.bytes_are;
      })
    where
      drop_none : (k : ℕ) → drop {A = ℕ} k [] ≡ []
      drop_none zero = refl
      drop_none (suc k) = refl

      written_bytes : (old : List ℕ) → old ≡ []
          → of_length 0 old ++ (bytes ++ drop (0 + length bytes) old) ≡ bytes
      written_bytes old none =
          ap (λ (l : List ℕ). of_length 0 l ++ (bytes ++ drop (0 + length bytes) l)) none
          ∙ ap (λ (l : List ℕ). bytes ++ l) (drop_none (0 + length bytes)) ∙ append-nil bytes

  settles : (bytes : List ℕ) (s : State) → Sturdy s → StandsAt path bytes s
      → StandsAt path bytes (after_done (Sync path) s)
  settles bytes s sturdy is =
      subst (λ (o : Option (Option ℕ)). StandsAt path bytes (settled o s)) (sym is.name)
      (record {
        n = is.n;
        name = is.name;
        bytes_are =
            ap (λ (f : File). f.bytes)
            (set_file s is.n (synced (file_at s.files is.n)) sturdy is.name)
            ∙ is.bytes_are;
      })

  -- it gets another name
  moved_to : (to bytes : List ℕ) (s : State) → is_root to ≡ false → StandsAt path bytes s
      → StandsAt to bytes (after_done (Rename path to) s)
  moved_to to bytes s no_root_to is =
      subst (λ (o : Option (Option ℕ)). StandsAt to bytes (moved o path to s)) (sym is.name)
      (record {
        n = is.n;
        name = ap (λ (r : Bool). if r then Some None
            else name_in (named to is.n ∷ without to (without path s.names)) to) no_root_to
            ∙ ap (λ (b : Bool). if b then Some (Some is.n)
            else name_in (without to (without path s.names)) to) (same to);
        bytes_are = is.bytes_are;
      })

  -- from one mark to another at which others act alone
  stands_along : (bytes : List ℕ) (past : Past) (m d : ℕ)
      → ((mark : ℕ) → m ≤ mark → mark < m + d
      → (action : Action) × (rest : List Entry) × (drop mark past.journal ≡ Others action ∷ rest)
      × SparesPath path action)
      → StandsAt path bytes (state_at past m) → StandsAt path bytes (state_at past (m + d))
  stands_along bytes past m zero others is =
      subst (λ (k : ℕ). StandsAt path bytes (state_at past k)) no_more is
    where
      no_more : m ≡ m + 0
      no_more = omega arith
  stands_along bytes past m (suc d) others is =
      let so_far = stands_along bytes past m d
      (λ mark from to. others mark from (omega (arith, to))) is in
      let last = others (m + d) (omega arith) (omega arith) in
      subst (λ (k : ℕ). StandsAt path bytes (state_at past k)) one_more
      (subst (λ (s : State). StandsAt path bytes s)
      (sym (next_state past (m + d) (Others last.0) last.1 last.2))
      (stands_on bytes last.0 (state_at past (m + d)) (sturdy_at past (m + d)) last.3 so_far))
    where
      one_more : m + d + 1 ≡ m + suc d
      one_more = omega arith

-- the bytes of what stands at a path
stands_file : (path bytes : List ℕ) (s : State) → StandsAt path bytes s
    → unwrap_or (option_and_then node_file (node_at (tree_of s) path)) [] ≡ bytes
stands_file path bytes s is =
    ap (λ (o : Option TreeNode). unwrap_or (option_and_then node_file o) [])
    (node_at-tree_of s path ∙ ap (node_by s.files path) is.name) ∙ is.bytes_are

module _ (path bytes : List ℕ) where
  abbrev side : List ℕ
  side = new_sequences_path path

  abbrev seqs : List ℕ
  seqs = sequences_path path

  side_no_root : is_root side ≡ false
  side_no_root = (path_is_in path (codes ".mh_sequences.new") refl).no_root

  seqs_no_root : is_root seqs ≡ false
  seqs_no_root = (path_is_in path (codes ".mh_sequences") refl).no_root

  module _ (p a b c q : Past)
      (make : OneStep (Ok tt) (Create side) (done_by (Create side)) p a)
      (write : OneStep (Ok tt) (WriteAt side 0 bytes) (done_by (WriteAt side 0 bytes)) a b)
      (settle : OneStep (Ok tt) (Sync side) (done_by (Sync side)) b c)
      (move : OneStep (Ok tt) (Rename side seqs) (done_by (Rename side seqs)) c q) where
    leaves_first : LeavesNumbers path p c
    leaves_first =
        leaves_then path p a c
        (step_leaves path (Ok tt) (Create side) (done_by (Create side)) p a make
        (create_leaves path (codes ".mh_sequences.new") new_side make.answer))
        (leaves_then path a b c
        (step_leaves path (Ok tt) (WriteAt side 0 bytes) (done_by (WriteAt side 0 bytes)) a b write
        (write_leaves path (codes ".mh_sequences.new") new_side 0 bytes write.answer))
        (step_leaves path (Ok tt) (Sync side) (done_by (Sync side)) b c settle
        (sync_leaves path (codes ".mh_sequences.new") new_side settle.answer)))

    longer_last : IsLonger c q
    longer_last = record { same_first = move.same_first; more = _; journal = move.journal }

    longer_third : IsLonger b c
    longer_third = record { same_first = settle.same_first; more = _; journal = settle.journal }

    longer_second : IsLonger a b
    longer_second = record { same_first = write.same_first; more = _; journal = write.journal }

    longer_first : IsLonger p a
    longer_first = record { same_first = make.same_first; more = _; journal = make.journal }

    longer_all : IsLonger p q
    longer_all = longer_then p c q leaves_first.longer longer_last

    module _ (past : Past) (on : IsLonger q past)
        (spare : OthersSpare path (length p.journal) (length q.journal) past) where
      on_c : IsLonger c past
      on_c = longer_then c q past longer_last on

      on_b : IsLonger b past
      on_b = longer_then b c past longer_third on_c

      on_a : IsLonger a past
      on_a = longer_then a b past longer_second on_b

      m1 : StepMark (Create side) make.answer p a past
      m1 = step_mark (Ok tt) (Create side) (done_by (Create side)) p a past make on_a

      m2 : StepMark (WriteAt side 0 bytes) write.answer a b past
      m2 = step_mark (Ok tt) (WriteAt side 0 bytes) (done_by (WriteAt side 0 bytes)) a b past write
          on_b

      m3 : StepMark (Sync side) settle.answer b c past
      m3 = step_mark (Ok tt) (Sync side) (done_by (Sync side)) b c past settle on_c

      m4 : StepMark (Rename side seqs) move.answer c q past
      m4 = step_mark (Ok tt) (Rename side seqs) (done_by (Rename side seqs)) c q past move on

      low_c : length p.journal ≤ length c.journal
      low_c = length_longer p c leaves_first.longer

      low_a : length p.journal ≤ length a.journal
      low_a = length_longer p a longer_first

      low_b : length a.journal ≤ length b.journal
      low_b = length_longer a b longer_second

      low_d : length b.journal ≤ length c.journal
      low_d = length_longer b c longer_third

      low_q : length c.journal ≤ length q.journal
      low_q = length_longer c q longer_last

      -- others act alone before a call of ours, and spare the side file
      between : {call : Call} {answer : Answer} (k l : Past) (m : StepMark call answer k l past)
          → length p.journal ≤ length k.journal → length l.journal ≤ length q.journal
          → (text : List ℕ) → StandsAt side text (state_at past (length k.journal))
          → StandsAt side text (state_at past m.at)
      between k l m low high text is =
          subst (λ (i : ℕ). StandsAt side text (state_at past i)) whole
          (stands_along side side_no_root text past (length k.journal)
          (m.at - length k.journal)
          (λ mark from to.
          let o = m.before mark from (omega (arith, to, m.from)) in (
            o.0,
            o.1,
            o.2,
            spare mark o.0 (omega (arith, from, low))
                (omega (arith, to, m.from, m.next, high))
                (ap (λ (l : List Entry). take 1 l) o.2),
          )) is)
        where
          whole : length k.journal + (m.at - length k.journal) ≡ m.at
          whole = omega (arith, m.from)

      behind : {call : Call} {answer : Answer} (k l : Past) (m : StepMark call answer k l past)
          → answer ≡ Done → (text : List ℕ)
          → StandsAt side text (after_done call (state_at past m.at))
          → StandsAt side text (state_at past (length l.journal))
      behind {call} {answer} k l m done text is =
          subst (λ (i : ℕ). StandsAt side text (state_at past i)) (sym m.next)
          (subst (λ (s : State). StandsAt side text s)
          (sym (step_next m ∙ ap (λ (x : Answer). after_entry (state_at past m.at) (Own call x))
          done)) is)

      at_a : StandsAt side [] (state_at past (length a.journal))
      at_a = behind p a m1 make.answered [] (created side side_no_root (state_at past m1.at))

      at_b : StandsAt side bytes (state_at past (length b.journal))
      at_b = behind a b m2 write.answered bytes
          (wrote side side_no_root bytes (state_at past m2.at) (sturdy_at past m2.at)
          (between a b m2 low_a (omega (arith, low_d, low_q)) [] at_a))

      at_c : StandsAt side bytes (state_at past (length c.journal))
      at_c = behind b c m3 settle.answered bytes
          (settles side side_no_root bytes (state_at past m3.at) (sturdy_at past m3.at)
          (between b c m3 (omega (arith, low_a, low_b)) low_q bytes at_b))

      before_move : StandsAt side bytes (state_at past m4.at)
      before_move = between c q m4 low_c (omega arith) bytes at_c

      moved_state : state_at past (m4.at + 1)
          ≡ after_done (Rename side seqs) (state_at past m4.at)
      moved_state = step_next m4
          ∙ ap (λ (x : Answer). after_entry (state_at past m4.at) (Own (Rename side seqs) x))
          move.answered

      pub placed_at : PlacedAt path bytes (length p.journal) (length q.journal) past
      placed_at = record {
        placed = m4.at;
        from = omega (arith, low_c, m4.from);
        to = omega (arith, m4.next);
        own = step_own m4;
        written = ap (λ (s : State). sequences_at (tree_of s) path) moved_state
            ∙ stands_file seqs bytes (after_done (Rename side seqs) (state_at past m4.at))
            (moved_to side side_no_root seqs bytes (state_at past m4.at) seqs_no_root
            before_move);
        alike = subst (λ (s : State). AreAlike path (tree_at past m4.at) (tree_of s))
            (sym (step_next m4))
            (stays_alike path (Rename side seqs) move.answer (state_at past m4.at)
            (sturdy_at past m4.at)
            (over_misses path (codes ".mh_sequences.new") new_side));
        leaves = λ mark from to own other. by mark from to own other
            (nat_lt mark (length c.journal)) refl;
      }
        where
          by : (mark : ℕ) → length p.journal ≤ mark → mark < length q.journal
              → own_at mark past ≡ true → mark ≢ m4.at → (t : Bool)
              → nat_lt mark (length c.journal) ≡ t
              → mh_at path past (mark + 1) ≡ mh_at path past mark
          by mark from to own other true is =
              leaves_first.leaves past on_c mark from (ltb-true mark (length c.journal) is) own
          by mark from to own other false is =
              absurd (other (step_only m4 mark (not_less mark (length c.journal) is) to own))

    pub places : Places path bytes p q
    places = record {
      longer = longer_all;
      does = λ past on spare. placed_at past on spare;
    }
