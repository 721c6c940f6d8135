-- What the adding of a message to an MH folder answers.
use Rattle.std.proofs.Common.{◌≡◌, ◌++◌, ◌∷◌, ◌∙◌, [], ℕ, true, List, Option, Result, Ok, Err, ap}
use Rattle.std.proofs.Common.{append_assoc, refl, subst, sym}
use Rattle.std.specs.Prelude.{IfErr, OnOk, option_map}
use Rattle.mail_base.specs.declared.flags.Flags.{Flags}
use Rattle.disk_model.specs.Journal.{Done, Entry, Own, Past, ReadAll}
use Rattle.disk_model.specs.Judge.{Called}
use Rattle.disk_model.specs.Journal.{ListDir}
use Rattle.disk_model.specs.Tree.{TreeNode}
use Rattle.disk_model.specs.declared.answers.DiskError.{DiskError}
use Rattle.mh_appends.proofs.Calls.{only_call}
use Rattle.disk_model.specs.Seen.{Seen}
use Rattle.disk_model.specs.State.{State, after_done, run_entries, tree_of}
use Rattle.disk_model.proofs.Runs.{run_entries-append}
use Rattle.folder_core.specs.Mh.{mh_reads, sequences_at, sequences_path}
use Rattle.folder_letters.specs.Letters.{Mail}
use Rattle.folder_changes.specs.Refused.{IsBetween}
use Rattle.folder_changes.specs.declared.item.Item.{Item}
use Rattle.folder_changes.specs.declared.sync_error.SyncError.{SyncError}
use Rattle.folder_drivers.specs.AppendRow.{AppendsAs}
use Rattle.folder_drivers.specs.FirstLooking.{LooksFirst, MeetsFolder}
use Rattle.folder_drivers.specs.MhAppend.{LeavesMessages, PutsNumber, WasNumbered, calls_beside}
use Rattle.folder_drivers.specs.MhAppend.{MhAppendRefused, mh_additions, mh_core, place_call}
use Rattle.folder_drivers.specs.MhAppend.{put_call}
use Rattle.folder_drivers.specs.MhSync.{reflagged}
use Rattle.folder_drivers.specs.Recovered.{TakesSide}
use Rattle.folder_drivers.proofs.MhCalls.{LeavesBy}
use Rattle.folder_changes.specs.Worked.{nothing_wanted}
use Rattle.folder_stops.proofs.Does.{own_append}
use Rattle.folder_stops.proofs.Along.{allows_right}
use Rattle.mh_appends.specs.Leftovers.{IsPreparing, MakesReady, TakesOver}
use Rattle.mh_appends.proofs.Working.{all_leave, grown_sturdy, leaves_then, own_as}
use Rattle.mh_appends.proofs.Working.{preparing_leaves, taking_prepares}
use Rattle.folder_drivers.specs.Preparing.{Prepares}
use Rattle.folder_drivers.specs.Refusing.{BlamesDisk}
use Rattle.folder_drivers.proofs.FirstLooking as F
use Rattle.folder_drivers.proofs.MetNames.{saw_longer}
use Rattle.folder_drivers.proofs.Preparing as P
use Rattle.folder_drivers.proofs.Refusing.{blames_as, blames_then, serves_adding}
use Rattle.folder_shapes.specs.Mh.{is_message, mh_files}
use Rattle.folder_shapes.proofs.MhLemmas.{an_mh_folder}
use Rattle.folder_stops.specs.Along.{Grown}
use Rattle.folder_stops.specs.Appends.{AddedSome, AddsSome}
use Rattle.folder_stops.proofs.Along.{grown_then}
use Rattle.mh_appends.specs.Placing.{AreChosen, IsPlaced}
use Rattle.mh_appends.proofs.Numbers.{next_named, next_order}
use Rattle.mh_appends.specs.Putting.{PutsMessage}
use Rattle.mh_appends.specs.declared.places.Places.{Places}
use Rattle.mh_appends.proofs.Calls.{behind_all}
use Rattle.mh_appends.proofs.Paths.{item_fits}

-- what is added is a message
pub core_counts : (text : List ℕ) → is_message (mh_core text) ≡ true
core_counts [] = refl
core_counts (b ∷ text) = refl

-- the paths that were chosen are those of a message
pub are_placed : (path core text : List ℕ) (places : Places) (a b : Option Past)
    → core ≡ mh_core text → AreChosen path a b places → IsPlaced path places core
are_placed path core text places a b is chosen = record {
  numbered = next_named chosen.names places.number chosen.next;
  order = next_order chosen.names places.number chosen.next;
  of = chosen.of;
  counts = subst (λ (l : List ℕ). is_message l ≡ true) (sym is) (core_counts text);
}

-- the first look
pub listed : (path : List ℕ) {T : Type 0} {result : Result T DiskError}
    {wanted : List TreeNode → Result T DiskError} {a b : Option Past}
    → Called result (ListDir path) wanted a b → MakesReady path a b
listed path {result = result} took = record {
  prepares = P.listed (mh_files path) (an_mh_folder path) took;
  only = only_call (IsPreparing path) result (λ answer. tt) took;
}

-- and then what was left over was taken away
pub ready_then : (path : List ℕ) {a b c : Option Past} → MakesReady path a b
    → TakesOver path b c → MakesReady path a c
ready_then path {a} {b} {c} first over = record {
  prepares = P.then (mh_files path) (an_mh_folder path) first.prepares over.prepares;
  only = grown_then a b c _ _ _ first.only over.only
      (λ s xs ys one two. own_append (IsPreparing path) xs ys one
      (own_as (TakesSide path) (IsPreparing path) (taking_prepares path) ys two));
}

-- calls that come before, and leave the messages
numbered_behind : (path core : List ℕ) (number : ℕ) (flags : Flags) (s : State)
    (xs ys : List Entry) → LeavesMessages path s xs
    → PutsNumber path number core flags (run_entries xs s) ys
    → PutsNumber path number core flags s (xs ++ ys)
numbered_behind path core number flags s xs ys leaves puts = record {
  lead = xs ++ puts.lead;
  waiting = puts.waiting;
  behind = puts.behind;
  is = ap (λ (l : List Entry). xs ++ l) puts.is
      ∙ sym (append_assoc xs puts.lead (Own (put_call path) Done
      ∷ (puts.waiting ++ (Own (place_call path number) Done ∷ puts.behind))));
  writes = record {
    before = xs ++ puts.writes.before;
    limit = puts.writes.limit;
    answer = puts.writes.answer;
    behind = puts.writes.behind;
    is = ap (λ (l : List Entry). xs ++ l) puts.writes.is
        ∙ sym (append_assoc xs puts.writes.before
        (Own (ReadAll (sequences_path path) puts.writes.limit) puts.writes.answer
        ∷ puts.writes.behind));
    beside = behind_all (calls_beside path number core) xs puts.writes.before
        puts.writes.beside;
    sequences = puts.writes.sequences;
    read = puts.writes.read ∙ ap (λ (t : State). sequences_at (tree_of t) path)
        (sym (run_entries-append xs puts.writes.before s));
    written = puts.writes.written;
  };
  kept = puts.kept;
  put = puts.put;
  put_is = puts.put_is
      ∙ ap (after_done (put_call path)) (sym (run_entries-append xs puts.lead s));
  placed = puts.placed;
  placed_is = puts.placed_is;
  leads = leaves_then path s xs puts.lead leaves puts.leads;
  waits = puts.waits;
  ends = puts.ends;
  flags_only = puts.flags_only ∙ ap (λ (t : State). option_map (reflagged
      (sequences_at (tree_of puts.put) path) nothing_wanted) (mh_reads (tree_of t) path))
      (sym (run_entries-append xs puts.lead s));
  sequences_are = λ spares. puts.sequences_are (allows_right _ xs ys s spares);
  gains = λ spares none. puts.gains (allows_right _ xs ys s spares) none;
}

-- the paths were not chosen
pub not_chosen : (path : List ℕ) (mails : List Mail) (item : Item) (why : SyncError)
    {B : Type 0} (old new : Seen) → Prepares (mh_files path) old.told new.told
    → LooksFirst {A = B} path (Err why) old.told new.told
    → BlamesDisk {A = B} (Err why) old new
    → IsBetween (MhAppendRefused path why) old.told new.told
    → AppendsAs mh_additions path mails item (Err why) old new
not_chosen path mails item why {B} old new prepares first blames cause =
    let keeps : AddsSome (mh_files path) (mh_core item.text.items) old.told new.told =
    P.nothing_added (mh_files path) (an_mh_folder path) (mh_core item.text.items) prepares in
    record {
      keeps = keeps;
      adds = tt;
      works = tt;
      looked = first;
      may_be = blames.errors;
      cause = cause;
      serves = serves_adding (mh_files path) (mh_core item.text.items) (Err why) keeps
          (blames_as why blames);
    }

module _ (path : List ℕ) (mails : List Mail) (item : Item) (places : Places) (core : List ℕ)
    (old mid new : Seen) (is : core ≡ mh_core item.text.items)
    (ready : MakesReady path old.told mid.told)
    (chosen : AreChosen path old.told mid.told places)
    (some : AddsSome (mh_files path) core mid.told new.told) where
  adds_all : (result : Result (Unit {0}) SyncError)
      → OnOk result (AddedSome (mh_files path) core mid.told new.told)
      → OnOk result (AddedSome (mh_files path) (mh_core item.text.items) old.told new.told)
  adds_all (Ok v) added =
      P.then_added (mh_files path) (an_mh_folder path) (mh_core item.text.items)
      (item_fits path (mh_core item.text.items) (core_counts item.text.items)) is ready.prepares
      added
  adds_all (Err why) added = tt

  was_numbered : (result : Result (Unit {0}) SyncError)
      → OnOk result (PutsMessage path places.number core item.flags mid.told new.told)
      → OnOk result (WasNumbered path item old.told new.told)
  was_numbered (Ok v) puts = record {
    names = chosen.names;
    saw = saw_longer _ chosen.saw some.grown;
    number = places.number;
    next = chosen.next;
    steps = subst (λ (bytes : List ℕ). Grown old.told new.told
        (PutsNumber path places.number bytes item.flags)) is
        (grown_sturdy old.told new.told _
        (grown_then old.told mid.told new.told _ _ _ ready.only puts.grown
        (λ s xs ys before steps sturdy.
        numbered_behind path core places.number item.flags s xs ys
        (all_leave path xs s (own_as (IsPreparing path)
        (λ call answer. LeavesBy path call answer) (preparing_leaves path) xs before) sturdy)
        steps)));
  }
  was_numbered (Err why) puts = tt

  -- the message was put in its place, or not
  pub answered : {A : Type 0} (given : A) (result : Result (Unit {0}) SyncError)
      → MeetsFolder path old.told mid.told
      → OnOk result (AddedSome (mh_files path) core mid.told new.told)
      → OnOk result (PutsMessage path places.number core item.flags mid.told new.told)
      → BlamesDisk (Ok given) old mid → BlamesDisk result mid new
      → IfErr result (λ why. IsBetween (MhAppendRefused path why) old.told new.told)
      → AppendsAs mh_additions path mails item result old new
  answered given result first added puts before blames cause =
      let keeps : AddsSome (mh_files path) (mh_core item.text.items) old.told new.told =
      P.then_some (mh_files path) (an_mh_folder path) (mh_core item.text.items)
      (item_fits path (mh_core item.text.items) (core_counts item.text.items)) is ready.prepares
      some in
      let all = blames_then given result before blames in
      record {
        keeps = keeps;
        adds = adds_all result added;
        works = was_numbered result puts;
        looked = F.found_first path result (F.found_added path first some);
        may_be = all.errors;
        cause = cause;
        serves = serves_adding (mh_files path) (mh_core item.text.items) result keeps all;
      }
