-- The calls that put a message under its number, all of them.
use Rattle.std.proofs.Common.{◌≡◌, ◌++◌, ◌∷◌, ◌∙◌, [], true, false, List, Option, Some, Result, Ok}
use Rattle.std.proofs.Common.{Err, ap, append_assoc, inr, map, refl, subst, sym, ℕ}
use Rattle.std.specs.Prelude.{OnOk, codes}
use Rattle.std.specs.Fmt.{decimal}
use Rattle.std.specs.Result.{IsErrAnd}
use Rattle.std.specs.String.{string_bytes}
use Rattle.mail_base.specs.declared.flags.Flags.{Flags}
use Rattle.disk_model.specs.Journal.{Action, Answer, Call, Create, Done, Entry, Others, Own, Past}
use Rattle.disk_model.specs.Journal.{ReadAll, Rename, Sync, SyncDir, WriteAt}
use Rattle.disk_model.specs.Judge.{Called, done_by}
use Rattle.disk_model.specs.State.{State, after_done, run_entries, tree_of}
use Rattle.disk_model.specs.Tree.{TreeNode, is_root}
use Rattle.disk_model.specs.declared.answers.DiskError.{DiskError}
use Rattle.disk_model.proofs.Runs.{run_entries-append}
use Rattle.folder_core.specs.Directory.{file_at, is_name, path_in}
use Rattle.folder_core.specs.Mh.{is_number, number_at, sequences_at, sequences_path}
use Rattle.folder_core.proofs.NamesIn.{path_is_in}
use Rattle.folder_changes.specs.declared.sync_error.SyncError.{SyncError}
use Rattle.folder_drivers.specs.MhAppend.{AreDone, LeavesMessages, PutsNumber, SparesSides}
use Rattle.folder_drivers.specs.MhAppend.{WritesBoth, calls_beside, calls_writing, number_path}
use Rattle.folder_drivers.specs.MhAppend.{place_call, put_call, sequences_with}
use Rattle.folder_drivers.specs.MhNames.{append_path, new_sequences_path}
use Rattle.folder_drivers.proofs.MhCalls.{LeavesBy}
use Rattle.folder_drivers.proofs.Sturdy.{Sturdy, sturdy_entry, sturdy_run}
use Rattle.folder_drivers.proofs.Touching.{Misses}
use Rattle.folder_shapes.specs.Mh.{is_message, mh_files, number_in}
use Rattle.folder_stops.specs.Along.{Grown}
use Rattle.folder_stops.specs.Appends.{AddedSome, AddsSome}
use Rattle.folder_stops.specs.Does.{AllOwn}
use Rattle.folder_stops.proofs.Along.{allows_left, done_grown, grown_both, grown_map, grown_then}
use Rattle.folder_stops.proofs.Along.{judged_grown}
use Rattle.folder_stops.proofs.Does.{own_append}
use Rattle.mh_appends.specs.Placing.{IsPlaced}
use Rattle.folder_changes.specs.Refused.{refused_by}
use Rattle.mh_appends.specs.Putting.{FailsSequences, Filled, Fills, PutSequences, PutsMessage}
use Rattle.mh_appends.specs.Putting.{PutsSequences}
use Rattle.mh_appends.specs.Replacing.{FailsReplacing, FoundFile, Replaced, WasDone, WasNotDone}
use Rattle.mh_appends.specs.Replacing.{WroteFile}
use Rattle.mh_appends.specs.declared.places.Places.{Places}
use Rattle.mh_appends.proofs.Calls.{MetFile, before_all, both_done, found_met, one_done}
use Rattle.mh_appends.proofs.Calls.{wrote_done}
use Rattle.mh_appends.proofs.Holding.{Gets, allows_as, gets_behind, gets_then, stays_along}
use Rattle.mh_appends.proofs.Holding.{wrote_gets}
use Rattle.mh_appends.proofs.Calls.{only_call}
use Rattle.mh_appends.proofs.Paths.{sides_differ}
use Rattle.mh_appends.proofs.Stages as G
use Rattle.mh_appends.proofs.Working.{all_leave, append_beside, create_leaves, flags_alone}
use Rattle.mh_appends.proofs.Working.{grown_sturdy, hold_leaves, keep_leaves, leaves_then}
use Rattle.mh_appends.proofs.Working.{others_leave, own_as, own_others, place_gains, put_misses}
use Rattle.mh_appends.proofs.Working.{read_leaves, sequences_beside, sequences_come, sync_leaves}
use Rattle.mh_appends.proofs.Working.{write_leaves}

-- Parts of the entries, and what they do.

-- a call of ours leaves the messages, and the message that is written beside
abbrev IsApart : List ℕ → Call → Answer → Type 0
IsApart path call answer = LeavesBy path call answer × Misses (append_path path) call

only_then : (Q : Call → Answer → Type 0) (a b c : Option Past) → Grown a b (λ s es. AllOwn Q es)
    → Grown b c (λ s es. AllOwn Q es) → Grown a c (λ s es. AllOwn Q es)
only_then Q a b c first rest = grown_then a b c _ _ _ first rest
    (λ s xs ys one two. own_append Q xs ys one two)

wrote_only : (Q : Call → Answer → Type 0) (at bytes : List ℕ) (a b : Option Past)
    → ((answer : Answer) → Q (Create at) answer)
    → ((answer : Answer) → Q (WriteAt at 0 bytes) answer)
    → ((answer : Answer) → Q (Sync at) answer) → WroteFile at bytes a b
    → Grown a b (λ s es. AllOwn Q es)
wrote_only Q at bytes a b creates writes syncs is =
    only_then Q a is.made b (only_call Q (Ok tt) creates is.creates)
    (only_then Q is.made is.wrote b (only_call Q (Ok tt) writes is.writes)
    (only_call Q (Ok tt) syncs is.syncs))

module _ (path core : List ℕ) (number : ℕ) (flags : Flags) where
  -- The number is held, and the message written beside.
  record First (s : State) (es : List Entry) : Type 0 where
    done : AreDone (calls_beside path number core) es
    leaves : Sturdy s → LeavesMessages path s es
    gets : Gets (append_path path) core s es

  -- The sequences are read.
  record Second (bytes : List ℕ) (s : State) (es : List Entry) : Type 0 where
    met : MetFile (sequences_path path) bytes s es
    only : AllOwn (IsApart path) es

  -- New ones are written beside.
  record Third (bytes : List ℕ) (s : State) (es : List Entry) : Type 0 where
    done : AreDone (calls_writing (new_sequences_path path)
        (sequences_with number flags bytes)) es
    only : AllOwn (IsApart path) es
    gets : Gets (new_sequences_path path) (sequences_with number flags bytes) s es

  -- The message is put in its place, and the names are kept.
  record Last (s : State) (es : List Entry) : Type 0 where
    waiting : List Action
    behind : List Entry
    is : es ≡ map Others waiting ++ Own (place_call path number) Done ∷ behind
    kept : AreDone (SyncDir path ∷ []) behind
    ends : AllOwn (λ call answer. LeavesBy path call answer) behind

  -- The sequences are put in place before.
  record Tail (s : State) (es : List Entry) : Type 0 where
    before : List Action
    waiting : List Action
    behind : List Entry
    is : es ≡ map Others before ++ (Own (put_call path) Done
        ∷ (map Others waiting ++ (Own (place_call path number) Done ∷ behind)))
    kept : AreDone (SyncDir path ∷ []) behind
    ends : AllOwn (λ call answer. LeavesBy path call answer) behind

  record Rest (bytes : List ℕ) (s : State) (es : List Entry) : Type 0 where
    zs : List Entry
    ts : List Entry
    is : es ≡ zs ++ ts
    third : Third bytes s zs
    tail : Tail (run_entries zs s) ts

  record More (bytes : List ℕ) (s : State) (es : List Entry) : Type 0 where
    ys : List Entry
    more : List Entry
    is : es ≡ ys ++ more
    second : Second bytes s ys
    rest : Rest bytes (run_entries ys s) more

  -- All of them.

  module _ (numbered : is_number (decimal number) ≡ true)
      (order : number_at (decimal number) ≡ number) (counts : is_message core ≡ true)
      (bytes : List ℕ) (s : State) (xs ys zs ts : List Entry) (sturdy : Sturdy s)
      (first : First s xs) (second : Second bytes (run_entries xs s) ys)
      (third : Third bytes (run_entries ys (run_entries xs s)) zs)
      (tail : Tail (run_entries zs (run_entries ys (run_entries xs s))) ts) where
    abbrev others_before : List Entry
    others_before = map Others tail.before

    abbrev lead : List Entry
    lead = xs ++ (ys ++ (zs ++ map Others tail.before))

    abbrev after_lead : List Entry
    after_lead = map Others tail.waiting ++ Own (place_call path number) Done ∷ tail.behind

    abbrev up_to_place : List Entry
    up_to_place = Own (put_call path) Done ∷ map Others tail.waiting

    abbrev put_state : State
    put_state = after_done (put_call path) (run_entries lead s)

    abbrev waited : State
    waited = run_entries (map Others tail.waiting) put_state

    entries_are : xs ++ (ys ++ (zs ++ ts)) ≡ lead ++ Own (put_call path) Done ∷ after_lead
    entries_are =
        ap (λ (l : List Entry). xs ++ (ys ++ (zs ++ l))) tail.is
        ∙ sym (append_assoc xs (ys ++ (zs ++ others_before)) (Own (put_call path) Done ∷ after_lead)
        ∙ ap (λ (l : List Entry). xs ++ l)
        (append_assoc ys (zs ++ others_before) (Own (put_call path) Done ∷ after_lead)
        ∙ ap (λ (l : List Entry). ys ++ l)
        (append_assoc zs others_before (Own (put_call path) Done ∷ after_lead))))

    entries_to : xs ++ (ys ++ (zs ++ ts))
        ≡ (lead ++ up_to_place) ++ Own (place_call path number) Done ∷ tail.behind
    entries_to = entries_are
        ∙ sym (append_assoc lead up_to_place (Own (place_call path number) Done ∷ tail.behind))

    lead_sturdy : Sturdy (run_entries lead s)
    lead_sturdy = sturdy_run lead s sturdy

    put_sturdy : Sturdy put_state
    put_sturdy = sturdy_entry (Own (put_call path) Done) (run_entries lead s) lead_sturdy

    waited_sturdy : Sturdy waited
    waited_sturdy = sturdy_run (map Others tail.waiting) put_state put_sturdy

    behind_first : AllOwn (IsApart path) (ys ++ (zs ++ others_before))
    behind_first = own_append (IsApart path) ys (zs ++ others_before) second.only
        (own_append (IsApart path) zs others_before third.only
        (own_others (IsApart path) tail.before))

    misses : (es : List Entry) → AllOwn (IsApart path) es
        → AllOwn (λ call answer. Misses (append_path path) call) es
    misses es all = own_as (IsApart path) (λ call answer. Misses (append_path path) call)
        (λ call answer is. is.1) es all

    abbrev writes : WritesBoth path number core flags s lead
    writes = record {
      before = xs ++ second.met.before;
      limit = second.met.limit;
      answer = second.met.answer;
      behind = zs ++ others_before;
      is = ap (λ (l : List Entry). xs ++ (l ++ (zs ++ others_before))) second.met.is
          ∙ ap (λ (l : List Entry). xs ++ l) (append_assoc second.met.before
          (Own (ReadAll (sequences_path path) second.met.limit) second.met.answer ∷ [])
          (zs ++ others_before))
          ∙ sym (append_assoc xs second.met.before
          (Own (ReadAll (sequences_path path) second.met.limit) second.met.answer
          ∷ (zs ++ others_before)));
      beside = before_all (calls_beside path number core) xs second.met.before first.done;
      sequences = bytes;
      read = sym (ap (λ (t : State). sequences_at (tree_of t) path)
          (run_entries-append xs second.met.before s) ∙ second.met.told);
      written = before_all (calls_writing (new_sequences_path path)
          (sequences_with number flags bytes)) zs others_before third.done;
    }

    side_there : SparesSides path (xs ++ (ys ++ (zs ++ ts))) s
        → file_at (tree_of (run_entries lead s)) (new_sequences_path path)
        ≡ Some (sequences_with number flags bytes)
    side_there spares =
        gets_behind (new_sequences_path path) (sequences_with number flags bytes) s xs
        (ys ++ (zs ++ others_before))
        (gets_behind (new_sequences_path path) (sequences_with number flags bytes)
        (run_entries xs s) ys (zs ++ others_before)
        (gets_then (new_sequences_path path) (sequences_with number flags bytes)
        (sequences_with number flags bytes) (run_entries ys (run_entries xs s)) zs others_before
        third.gets
        (stays_along (new_sequences_path path) others_before
        (run_entries zs (run_entries ys (run_entries xs s))) (own_others _ tail.before)))) sturdy
        (allows_as _ _ (λ action t spared. spared.0) lead s
        (allows_left _ lead (Own (put_call path) Done ∷ after_lead) s
        (subst (λ (l : List Entry). SparesSides path l s) entries_are spares)))

    message_there : SparesSides path (xs ++ (ys ++ (zs ++ ts))) s
        → file_at (tree_of waited) (append_path path) ≡ Some core
    message_there spares =
        sym (ap (λ (t : State). file_at (tree_of t) (append_path path))
        (run_entries-append lead up_to_place s))
        ∙ gets_then (append_path path) core core s lead up_to_place
        (gets_then (append_path path) core core s xs (ys ++ (zs ++ others_before)) first.gets
        (stays_along (append_path path) (ys ++ (zs ++ others_before)) (run_entries xs s)
        (misses (ys ++ (zs ++ others_before)) behind_first)))
        (stays_along (append_path path) up_to_place (run_entries lead s)
        (put_misses path, own_others _ tail.waiting)) sturdy
        (allows_as _ _ (λ action t spared. spared.1.0) (lead ++ up_to_place) s
        (allows_left _ (lead ++ up_to_place) (Own (place_call path number) Done ∷ tail.behind) s
        (subst (λ (l : List Entry). SparesSides path l s) entries_to spares)))

    all_parts : PutsNumber path number core flags s (xs ++ (ys ++ (zs ++ ts)))
    all_parts = record {
      lead = lead;
      waiting = map Others tail.waiting;
      behind = tail.behind;
      is = entries_are;
      writes = writes;
      kept = tail.kept;
      put = put_state;
      put_is = refl;
      placed = after_done (place_call path number) waited;
      placed_is = refl;
      leads = leaves_then path s xs (ys ++ (zs ++ others_before)) (first.leaves sturdy)
          (all_leave path (ys ++ (zs ++ others_before)) (run_entries xs s)
          (own_as (IsApart path) (λ call answer. LeavesBy path call answer)
          (λ call answer is. is.0) (ys ++ (zs ++ others_before)) behind_first)
          (sturdy_run xs s sturdy));
      waits = others_leave path tail.waiting put_state;
      ends = all_leave path tail.behind (after_done (place_call path number) waited) tail.ends
          (sturdy_entry (Own (place_call path number) Done) waited waited_sturdy);
      flags_only = flags_alone path (run_entries lead s) lead_sturdy;
      sequences_are = λ spares. sequences_come path (sequences_with number flags bytes)
          (run_entries lead s) (side_there spares);
      gains = λ spares none. place_gains path number numbered core waited order counts
          waited_sturdy (message_there spares) none;
    }

  -- The parts, by the calls.

  module _ (numbered : is_number (decimal number) ≡ true)
      (order : number_at (decimal number) ≡ number) (counts : is_message core ≡ true)
      {a b c d e f g h : Option Past} (bytes : List ℕ)
      (holds : WasDone (Create (number_path path number)) a b)
      (beside : WroteFile (append_path path) core b c)
      (reads : FoundFile (sequences_path path) bytes c d)
      (side : WroteFile (new_sequences_path path) (sequences_with number flags bytes) d e)
      (puts : WasDone (put_call path) e f) (places : WasDone (place_call path number) f g)
      (keeps : WasDone (SyncDir path) g h) where
    no_root : (name : List ℕ) → is_name name ≡ true → is_root (path_in path name) ≡ false
    no_root name named = (path_is_in path name named).no_root

    held_leaves : Grown a b (λ s es. Sturdy s → LeavesMessages path s es)
    held_leaves = grown_map a b _ _
        (judged_grown tt (Create (number_path path number)) _ a b holds.goes)
        (λ s es is sturdy. subst (λ (l : List Entry). LeavesMessages path s l) (sym is.1)
        (leaves_then path s (map Others is.0) (Own (Create (number_path path number)) Done ∷ [])
        (others_leave path is.0 s) (
          hold_leaves path number numbered (run_entries (map Others is.0) s) tt
              (sturdy_run (map Others is.0) s sturdy) is.2,
          tt,
        )))

    beside_leaves : Grown b c (λ s es. AllOwn (λ call answer. LeavesBy path call answer) es)
    beside_leaves = wrote_only (λ call answer. LeavesBy path call answer) (append_path path) core b
        c (create_leaves path (codes ".mutt_append") append_beside)
        (write_leaves path (codes ".mutt_append") append_beside core)
        (sync_leaves path (codes ".mutt_append") append_beside) beside

    first : Grown a c First
    first = grown_then a b c _ _ _ (grown_both a b _ _ (one_done holds) held_leaves)
        (grown_both b c _ _ (grown_both b c _ _ (wrote_done (append_path path) core b c beside)
        beside_leaves)
        (wrote_gets (append_path path) core b c (no_root (codes ".mutt_append") refl) beside))
        (λ s xs ys one two. record {
          done = both_done (Create (number_path path number) ∷ [])
              (calls_writing (append_path path) core) xs ys one.0 two.0.0;
          leaves = λ sturdy. leaves_then path s xs ys (one.1 sturdy)
              (all_leave path ys (run_entries xs s) two.0.1 (sturdy_run xs s sturdy));
          gets = gets_behind (append_path path) core s xs ys two.1;
        })

    second_part : Grown c d (Second bytes)
    second_part = grown_map c d _ _
        (grown_both c d _ _ (found_met (sequences_path path) bytes c d reads)
        (only_call (IsApart path) reads.answered
        (λ answer. (read_leaves path (sequences_path path) reads.limit answer, tt)) reads.called))
        (λ s es is. record { met = is.0; only = is.1 })

    third_part : Grown d e (Third bytes)
    third_part = grown_map d e _ _
        (grown_both d e _ _ (grown_both d e _ _
        (wrote_done (new_sequences_path path) (sequences_with number flags bytes) d e side)
        (wrote_only (IsApart path) (new_sequences_path path) (sequences_with number flags bytes) d e
        (λ answer. (
          create_leaves path (codes ".mh_sequences.new") sequences_beside answer,
          sides_differ path,
        ))
        (λ answer. (
          write_leaves path (codes ".mh_sequences.new") sequences_beside
              (sequences_with number flags bytes) answer,
          sides_differ path,
        ))
        (λ answer. (
          sync_leaves path (codes ".mh_sequences.new") sequences_beside answer,
          sides_differ path,
        )) side))
        (wrote_gets (new_sequences_path path) (sequences_with number flags bytes) d e
        (no_root (codes ".mh_sequences.new") refl) side))
        (λ s es is. record { done = is.0.0; only = is.0.1; gets = is.1 })

    last : Grown f h Last
    last = grown_then f g h _ _ _ (done_grown tt (place_call path number) _ f g places.goes)
        (grown_both g h _ _ (one_done keeps)
        (only_call (λ call answer. LeavesBy path call answer) (Ok tt) (keep_leaves path path)
        keeps))
        (λ s xs ys one two. record {
          waiting = one.0;
          behind = ys;
          is = ap (λ (l : List Entry). l ++ ys) one.1
              ∙ append_assoc (map Others one.0) (Own (place_call path number) Done ∷ []) ys;
          kept = two.0;
          ends = two.1;
        })

    tail : Grown e h Tail
    tail = grown_then e f h _ Last _ (done_grown tt (put_call path) _ e f puts.goes) last
        (λ s xs ys one two. record {
          before = one.0;
          waiting = two.waiting;
          behind = two.behind;
          is = ap (λ (l : List Entry). xs ++ l) two.is
              ∙ ap (λ (l : List Entry). l ++ (map Others two.waiting
              ++ Own (place_call path number) Done ∷ two.behind)) one.1
              ∙ append_assoc (map Others one.0) (Own (put_call path) Done ∷ [])
              (map Others two.waiting ++ Own (place_call path number) Done ∷ two.behind);
          kept = two.kept;
          ends = two.ends;
        })

    rest : Grown d h (Rest bytes)
    rest = grown_then d e h (Third bytes) Tail _ third_part tail
        (λ s xs ys one two. record { zs = xs; ts = ys; is = refl; third = one; tail = two })

    more : Grown c h (More bytes)
    more = grown_then c d h (Second bytes) (Rest bytes) _ second_part rest
        (λ s xs ys one two. record { ys = xs; more = ys; is = refl; second = one; rest = two })

    pub puts_number : Grown a h (PutsNumber path number core flags)
    puts_number = grown_sturdy a h _
        (grown_then a c h First (More bytes) _ first more
        (λ s xs es one two sturdy. subst
        (λ (l : List Entry). PutsNumber path number core flags s (xs ++ l))
        (sym (two.is ∙ ap (λ (l : List Entry). two.ys ++ l) two.rest.is))
        (all_parts numbered order counts bytes s xs two.ys two.rest.zs two.rest.ts sturdy one
        two.second two.rest.third two.rest.tail)))

-- the calls by the paths that were made
module _ (path core : List ℕ) (places : Places) (flags : Flags) (is : IsPlaced path places core)
    {a b c : Option Past} (holds : WasDone (Create (string_bytes places.held)) a b)
    (filled : Filled path places flags core b c) where
  renamed : {from to p q : List ℕ} {a b : Option Past} → from ≡ p → to ≡ q
      → WasDone (Rename from to) a b → WasDone (Rename p q) a b
  renamed {from} {to} {p} {q} {a} {b} from_is to_is done =
      subst (λ (r : List ℕ). WasDone (Rename r q) a b) from_is
      (subst (λ (r : List ℕ). WasDone (Rename from r) a b) to_is done)

  pub puts_message : PutsMessage path places.number core flags a c
  puts_message = record {
    grown = puts_number path core places.number flags is.numbered is.order is.counts
        filled.puts.bytes
        (subst (λ (p : List ℕ). WasDone (Create p) a b) is.of.held holds)
        (subst (λ (p : List ℕ). WroteFile p core b filled.wrote) is.of.beside filled.writes)
        (subst (λ (p : List ℕ). FoundFile p filled.puts.bytes filled.wrote filled.puts.read)
        is.of.sequences filled.puts.reads)
        (subst (λ (p : List ℕ). WroteFile p
        (sequences_with places.number flags filled.puts.bytes) filled.puts.read
        filled.puts.replaces.wrote) is.of.side filled.puts.replaces.writes)
        (renamed is.of.side is.of.sequences filled.puts.replaces.renames)
        (renamed is.of.beside is.of.held filled.names.renames) filled.names.keeps;
  }

-- By the answer.

module _ (path core : List ℕ) (places : Places) (flags : Flags) (is : IsPlaced path places core)
    {a b : Option Past} (c : Option Past)
    (holds : WasDone (Create (string_bytes places.held)) a b) where
  pub some_put : (result : Result (Unit {0}) SyncError)
      → Fills path places flags core result b c → AddsSome (mh_files path) core a c
  some_put (Ok v) fills =
      G.may_be_added path core places is
      (G.filled path core places is (G.begun path core places is holds) fills)
  some_put (Err e) fills =
      G.not_filled path core places is (G.begun path core places is holds) fills

  pub all_put : (result : Result (Unit {0}) SyncError)
      → Fills path places flags core result b c
      → OnOk result (AddedSome (mh_files path) core a c)
  all_put (Ok v) fills =
      G.was_added path core places is
      (G.filled path core places is (G.begun path core places is holds) fills)
  all_put (Err e) fills = tt

  pub message_put : (result : Result (Unit {0}) SyncError)
      → Fills path places flags core result b c
      → OnOk result (PutsMessage path places.number core flags a c)
  message_put (Ok v) fills = puts_message path core places flags is holds fills
  message_put (Err e) fills = tt

-- the number was not held
pub none_put : (path core : List ℕ) (places : Places) {e : DiskError} {held : List ℕ}
    {wanted : List TreeNode → Result (Unit {0}) DiskError} {a b : Option Past}
    → IsPlaced path places core → held ≡ string_bytes places.held
    → Called (Err e) (Create held) wanted a b → AddsSome (mh_files path) core a b
none_put path core places is same took =
    G.not_begun path core (ap (number_in path) same ∙ G.at_place path core places is) took

-- the same call by the path that was made
pub holds_at : (places : Places) {held : List ℕ} {v : Unit {0}} {a b : Option Past}
    → held ≡ string_bytes places.held → Called (Ok v) (Create held) (done_by (Create held)) a b
    → WasDone (Create (string_bytes places.held)) a b
holds_at places {a = a} {b = b} same took =
    subst (λ (p : List ℕ). WasDone (Create p) a b) same took

pub not_made : (places : Places) {held : List ℕ} {why : DiskError} {a b : Option Past}
    → held ≡ string_bytes places.held
    → Called {A = Unit {0}} (Err why) (Create held) (done_by (Create held)) a b
    → WasNotDone why (Create (string_bytes places.held)) a b
not_made places {why = why} {a = a} {b = b} same took =
    subst (λ (p : List ℕ). WasNotDone why (Create p) a b) same took

-- The sequences, by the paths that were made.

module _ (places : Places) (flags : Flags) {at side made bytes : List ℕ} {a b c : Option Past}
    (at_is : at ≡ string_bytes places.sequences) (side_is : side ≡ string_bytes places.side)
    (made_is : made ≡ sequences_with places.number flags bytes) (reads : FoundFile at bytes a b)
  where
    pub sequences_put : Replaced side at made b c → PutSequences places flags a c
    sequences_put is = record {
      read = b;
      bytes = bytes;
      reads = subst (λ (p : List ℕ). FoundFile p bytes a b) at_is reads;
      replaces = subst (λ (p : List ℕ). Replaced p (string_bytes places.sequences)
          (sequences_with places.number flags bytes) b c) side_is
          (subst (λ (p : List ℕ). Replaced side p (sequences_with places.number flags bytes) b c)
          at_is (subst (λ (l : List ℕ). Replaced side at l b c) made_is is));
    }

    pub sequences_not_put : {why : DiskError} (told : SyncError) → told ≡ refused_by why
        → FailsReplacing side at made why b c → FailsSequences places flags told a c
    sequences_not_put {why} told is not = inr (inr (record {
      read = b;
      bytes = bytes;
      why = why;
      is = is;
      reads = subst (λ (p : List ℕ). FoundFile p bytes a b) at_is reads;
      fails = subst (λ (p : List ℕ). FailsReplacing p (string_bytes places.sequences)
          (sequences_with places.number flags bytes) why b c) side_is
          (subst (λ (p : List ℕ). FailsReplacing side p (sequences_with places.number flags bytes)
          why b c) at_is (subst (λ (l : List ℕ). FailsReplacing side at l why b c) made_is not));
    }))

-- a refusal that is handed on says that they were not
pub sequences_failed : (places : Places) (flags : Flags) (result : Result (Unit {0}) SyncError)
    (why : DiskError) {a c : Option Past} → IsErrAnd result (λ told. told ≡ refused_by why)
    → ((told : SyncError) → told ≡ refused_by why → FailsSequences places flags told a c)
    → PutsSequences places flags result a c
sequences_failed places flags (Ok v) why is not = absurd is
sequences_failed places flags (Err told) why is not = not told is
