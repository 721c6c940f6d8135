-- Calls of ours, by what they leave of the messages.
use Rattle.std.proofs.Common.{◌≡◌, ◌++◌, ℕ, Bool, true, false, List, Option, Some, None}
use Rattle.std.proofs.Common.{Result, Ok, Err, inl, refl, subst}
use Rattle.std.specs.Prelude.{codes}
use Rattle.disk_model.specs.Journal.{Answer, Call, Create, Past, Refused, Remove, Rename, Sync}
use Rattle.disk_model.specs.Journal.{SyncDir, WriteAt}
use Rattle.disk_model.specs.Judge.{Called, GoesOn, done_by}
use Rattle.disk_model.specs.Looking.{LooksOnly}
use Rattle.disk_model.specs.State.{State}
use Rattle.disk_model.specs.Tree.{TreeNode}
use Rattle.disk_model.specs.declared.answers.DiskError.{DiskError}
use Rattle.disk_model.proofs.Looking.{looks_same}
use Rattle.index_items.specs.Changes.{Discards}
use Rattle.folder_core.specs.Directory.{path_in}
use Rattle.folder_core.specs.Mh.{is_number, sequences_path}
use Rattle.folder_core.proofs.SeenLemmas.{goes_as}
use Rattle.folder_drivers.specs.MhNames.{call_away, new_sequences_path}
use Rattle.folder_drivers.specs.MhSync.{LeavesNumbers}
use Rattle.folder_shapes.specs.Mh.{mh_files, mh_shape, number_in}
use Rattle.folder_shapes.proofs.MhLemmas.{mh_formed}
use Rattle.folder_stops.specs.Does.{Does}
use Rattle.folder_stops.specs.Messages.{StoredMessage}
use Rattle.folder_stops.specs.Syncs.{SyncLeads, Syncing}
use Rattle.folder_stops.specs.Words.{has}
use Rattle.folder_stops.proofs.Does.{does_call, does_none, does_refused, does_then}
use Rattle.folder_stops.proofs.Syncs as S
use Rattle.mh_syncs.specs.Names.{IsSideName}
use Rattle.mh_syncs.specs.Parts.{Away, KeepsAllBut, LeavesAll, PutsOver, gone_at}
use Rattle.folder_drivers.proofs.MhCalls.{LeavesBy}
use Rattle.mh_syncs.proofs.Folders.{create_leaves, remove_leaves, sync_dir_leaves}
use Rattle.mh_syncs.proofs.Folders.{sync_leaves, write_leaves}
use Rattle.mh_syncs.proofs.Paths.{away_no_number, home_in, new_side, number_slot, other_slot}
use Rattle.mh_syncs.proofs.Paths.{side_is}
use Rattle.mh_syncs.proofs.Putting.{places}
use Rattle.mh_syncs.proofs.Stretches.{leaves_then, looked_leaves, quiet_leaves, refused_leaves}
use Rattle.mh_syncs.proofs.Stretches.{step_leaves, taken_away}

-- Told pasts, one part behind another.

pub goes_both : {P Q R : Past → Past → Type 0} (a b c : Option Past)
    → ((p q r : Past) → P p q → Q q r → R p r) → GoesOn P a b → GoesOn Q b c → GoesOn R a c
goes_both {P} {Q} {R} None b c by first next =
    subst (λ (o : Option Past). GoesOn Q o c) first next
goes_both (Some a) None c by first next = absurd first
goes_both (Some a) (Some b) None by first next = absurd next
goes_both (Some a) (Some b) (Some c) by first next = by a b c first next

pub both_leave : (path : List ℕ) (a b c : Option Past) → GoesOn (LeavesNumbers path) a b
    → GoesOn (LeavesNumbers path) b c → GoesOn (LeavesNumbers path) a c
both_leave path a b c first next =
    goes_both a b c (λ p q r x y. leaves_then path p q r x y) first next

-- What calls leave of the messages.

pub looks_leave : (path : List ℕ) (old new : Option Past) → LooksOnly old new
    → GoesOn (LeavesNumbers path) old new
looks_leave path old new looks = goes_as old new (λ p q l. looked_leaves path p q l) looks

module _ {old new : Option Past} where
  pub done_leaves : (path : List ℕ) (call : Call) → ((answer : Answer) → LeavesBy path call answer)
      → Called {A = Unit {0}} (Ok tt) call (done_by call) old new
      → GoesOn (LeavesNumbers path) old new
  done_leaves path call leaves took =
      goes_as old new
      (λ p q step. step_leaves path (Ok tt) call (done_by call) p q step (leaves step.answer))
      took.goes

  pub err_leaves : (path : List ℕ) (call : Call) (why : DiskError)
      → ((answer : Answer) → LeavesBy path call answer)
      → Called {A = Unit {0}} (Err why) call (done_by call) old new
      → GoesOn (LeavesNumbers path) old new
  err_leaves path call why leaves took =
      goes_as old new
      (λ p q step. refused_leaves path why call (done_by call) p q
      (λ w wrote. leaves (Refused w wrote)) step) took.goes

-- nothing was called
pub none_leaves : (path : List ℕ) (told : Option Past) → GoesOn (LeavesNumbers path) told told
none_leaves path told = looks_leave path told told (looks_same told)

-- a call by another name of its path
pub call_as : {result : Result (Unit {0}) DiskError} {a b : Option Past} (one other : Call)
    → one ≡ other → Called result one (done_by one) a b → Called result other (done_by other) a b
call_as {result} {a} {b} one other same took =
    subst (λ (c : Call). Called result c (done_by c) a b) same took

-- What each stop leaves.

pub keeps_first : (path : List ℕ) (keys : List (List ℕ)) (told : Option Past)
    → KeepsAllBut path keys told told
keeps_first path keys told = record {
  holds = S.begun (mh_shape path) (mh_files path).sides keys (mh_formed path) told;
  here = does_none (mh_shape path).home (number_in path) None told;
}

pub keeps_then : (path : List ℕ) (keys : List (List ℕ)) (old mid new : Option Past)
    → KeepsAllBut path keys old mid → KeepsAllBut path keys mid new
    → KeepsAllBut path keys old new
keeps_then path keys old mid new first rest = record {
  holds = S.joined (mh_shape path) (mh_files path).sides keys first.holds rest.holds;
  here = does_then (mh_shape path).home (number_in path) None first.here rest.here;
}

pub leaves_first : (path : List ℕ) (told : Option Past) → LeavesAll path told told
leaves_first path told = record {
  does = none_leaves path told;
  holds = λ keys. keeps_first path keys told;
}

pub all_then : (path : List ℕ) (old mid new : Option Past) → LeavesAll path old mid
    → LeavesAll path mid new → LeavesAll path old new
all_then path old mid new first next = record {
  does = both_leave path old mid new first.does next.does;
  holds = λ keys. keeps_then path keys old mid new (first.holds keys) (next.holds keys);
}

pub leaves_at : (at path : List ℕ) (old new : Option Past) → at ≡ path → LeavesAll at old new
    → LeavesAll path old new
leaves_at at path old new is leaves = subst (λ (p : List ℕ). LeavesAll p old new) is leaves

module _ {old new : Option Past} {result : Result (Unit {0}) DiskError}
    {wanted : List TreeNode → Result (Unit {0}) DiskError} (path : List ℕ)
    (keys : List (List ℕ)) where
  -- a side file is removed
  pub keeps_removed : (name : List ℕ) → IsSideName name
      → Called result (Remove (path_in path name)) wanted old new
      → KeepsAllBut path keys old new
  keeps_removed name side took = record {
    holds = S.cleared (mh_shape path) (mh_files path).sides keys (mh_formed path)
        (other_slot path name side.no_number) took;
    here = does_call (mh_shape path).home (number_in path) None took (home_in path name) tt;
  }

  -- names are put on the disk
  pub keeps_named : (dir : List ℕ) → Called result (SyncDir dir) wanted old new
      → KeepsAllBut path keys old new
  keeps_named dir took = record {
    holds = S.synced_dir (mh_shape path) (mh_files path).sides keys (mh_formed path) took;
    here = does_call (mh_shape path).home (number_in path) None took tt tt;
  }

  -- the file of a number goes
  pub keeps_away : (purge : Bool) (key : List ℕ) → is_number key ≡ true → has keys key ≡ true
      → Called result (call_away purge path key) wanted old new → KeepsAllBut path keys old new
  keeps_away true key number one_of took = record {
    holds = S.removed (mh_shape path) (mh_files path).sides keys (mh_formed path)
        (number_slot path key number) one_of took;
    here = does_call (mh_shape path).home (number_in path) None took (home_in path key) tt;
  }
  keeps_away false key number one_of took = record {
    holds = S.hidden (mh_shape path) (mh_files path).sides keys (mh_formed path)
        (number_slot path key number) one_of
        (other_slot path (codes "," ++ key) (away_no_number key))
        (home_in path (codes "," ++ key)) took;
    here = does_call (mh_shape path).home (number_in path) None took
        (home_in path key, home_in path (codes "," ++ key)) tt;
  }

-- A side file that is removed.

pub removed_leaves : (path at name : List ℕ) (old new : Option Past) → IsSideName name
    → at ≡ path_in path name
    → Called {A = Unit {0}} (Ok tt) (Remove at) (done_by (Remove at)) old new
    → LeavesAll path old new
removed_leaves path at name old new side is took =
    by (subst (λ (p : List ℕ). Called {A = Unit {0}} (Ok tt) (Remove p) (done_by (Remove p))
    old new) is took)
  where
    by : Called {A = Unit {0}} (Ok tt) (Remove (path_in path name))
        (done_by (Remove (path_in path name))) old new → LeavesAll path old new
    by took = record {
      does = done_leaves path (Remove (path_in path name)) (remove_leaves path name side) took;
      holds = λ keys. keeps_removed path keys name side took;
    }

pub unremoved_leaves : (path at name : List ℕ) (why : DiskError) (old new : Option Past)
    → IsSideName name → at ≡ path_in path name
    → Called {A = Unit {0}} (Err why) (Remove at) (done_by (Remove at)) old new
    → LeavesAll path old new
unremoved_leaves path at name why old new side is took =
    by (subst (λ (p : List ℕ). Called {A = Unit {0}} (Err why) (Remove p) (done_by (Remove p))
    old new) is took)
  where
    by : Called {A = Unit {0}} (Err why) (Remove (path_in path name))
        (done_by (Remove (path_in path name))) old new → LeavesAll path old new
    by took = record {
      does = err_leaves path (Remove (path_in path name)) why (remove_leaves path name side) took;
      holds = λ keys. keeps_removed path keys name side took;
    }

pub named_leaves : (path dir : List ℕ) (old new : Option Past)
    → Called {A = Unit {0}} (Ok tt) (SyncDir dir) (done_by (SyncDir dir)) old new
    → LeavesAll path old new
named_leaves path dir old new took = record {
  does = done_leaves path (SyncDir dir) (sync_dir_leaves path dir) took;
  holds = λ keys. keeps_named path keys dir took;
}

pub unnamed_leaves : (path dir : List ℕ) (why : DiskError) (old new : Option Past)
    → Called {A = Unit {0}} (Err why) (SyncDir dir) (done_by (SyncDir dir)) old new
    → LeavesAll path old new
unnamed_leaves path dir why old new took = record {
  does = err_leaves path (SyncDir dir) why (sync_dir_leaves path dir) took;
  holds = λ keys. keeps_named path keys dir took;
}

-- New sequences.

abbrev DoesHere : List ℕ → Option Past → Option Past → Type 0
DoesHere path old new = Does (mh_shape path).home (number_in path) None old new

-- four calls, one behind the other
pub goes_four : {P Q R T U : Past → Past → Type 0} (a b c d e : Option Past)
    → ((p q r s t : Past) → P p q → Q q r → R r s → T s t → U p t)
    → GoesOn P a b → GoesOn Q b c → GoesOn R c d → GoesOn T d e → GoesOn U a e
goes_four {P} {Q} {R} {T} {U} None b c d e by first second third last =
    subst (λ (o : Option Past). GoesOn T o e)
    (subst (λ (o : Option Past). GoesOn R o d)
    (subst (λ (o : Option Past). GoesOn Q o c) first second) third) last
goes_four (Some a) None c d e by first second third last = absurd first
goes_four (Some a) (Some b) None d e by first second third last = absurd second
goes_four (Some a) (Some b) (Some c) None e by first second third last = absurd third
goes_four (Some a) (Some b) (Some c) (Some d) None by first second third last = absurd last
goes_four (Some a) (Some b) (Some c) (Some d) (Some e) by first second third last =
    by a b c d e first second third last

module _ (path bytes : List ℕ) where
  abbrev side : List ℕ
  side = new_sequences_path path

  abbrev seqs : List ℕ
  seqs = sequences_path path

  side_inside : (mh_shape path).home side ≡ true
  side_inside = home_in path (codes ".mh_sequences.new")

  side_none : (mh_shape path).slot side ≡ None
  side_none = other_slot path (codes ".mh_sequences.new") refl

  seqs_none : (mh_shape path).slot seqs ≡ None
  seqs_none = other_slot path (codes ".mh_sequences") refl

  module _ {a b : Option Past} where
    pub not_made : (why : DiskError)
        → Called {A = Unit {0}} (Err why) (Create side) (done_by (Create side)) a b
        → PutsOver path bytes (Err why) a b
    not_made why took = record {
      done = tt;
      refused = err_leaves path (Create side) why
          (create_leaves path (codes ".mh_sequences.new") new_side) took;
      holds = λ keys. record {
        holds = S.side_not_made (mh_shape path) (mh_files path).sides keys (mh_formed path) side
            (side_is path (codes ".mh_sequences.new") new_side) (inl refl) took;
        here = does_refused (mh_shape path).home (number_in path) None took side_inside;
      };
    }

    module _
        (made : Called {A = Unit {0}} (Ok tt) (Create side) (done_by (Create side)) a b) where
      module _ (keys : List (List ℕ)) where
        abbrev Writing : List StoredMessage → State → Type 0
        Writing = S.Writing (mh_shape path) (mh_files path).sides keys (mh_formed path) side
            (side_is path (codes ".mh_sequences.new") new_side) (inl refl)

        abbrev WritingLeads : Option Past → Option Past → Type 0
        WritingLeads p q = SyncLeads (mh_shape path) (mh_files path).sides keys p q
            (Syncing (mh_shape path) keys) Writing

        was_made : WritingLeads a b
        was_made = S.side_made (mh_shape path) (mh_files path).sides keys (mh_formed path) side
            (side_is path (codes ".mh_sequences.new") new_side) (inl refl) made

        made_here : DoesHere path a b
        made_here = does_call (mh_shape path).home (number_in path) None made side_inside
            (inl side_none)

        put_down : (p q : Option Past) → WritingLeads p q
            → SyncLeads (mh_shape path) (mh_files path).sides keys p q
            (Syncing (mh_shape path) keys) (Syncing (mh_shape path) keys)
        put_down p q leads =
            S.put_down (mh_shape path) (mh_files path).sides keys (mh_formed path) side
            (side_is path (codes ".mh_sequences.new") new_side) (inl refl) leads

        written_on : {c : Option Past} {result : Result (Unit {0}) DiskError}
            → Called result (WriteAt side 0 bytes) (done_by (WriteAt side 0 bytes)) b c
            → WritingLeads a c
        written_on took = S.joined (mh_shape path) (mh_files path).sides keys was_made
            (S.side_written (mh_shape path) (mh_files path).sides keys (mh_formed path) side
            (side_is path (codes ".mh_sequences.new") new_side) (inl refl) took)

      pub made_leaves : GoesOn (LeavesNumbers path) a b
      made_leaves = done_leaves path (Create side)
          (create_leaves path (codes ".mh_sequences.new") new_side) made

      pub not_written : {c : Option Past} (why : DiskError)
          → Called {A = Unit {0}} (Err why) (WriteAt side 0 bytes)
          (done_by (WriteAt side 0 bytes)) b c
          → PutsOver path bytes (Err why) a c
      not_written {c} why took = record {
        done = tt;
        refused = both_leave path a b c made_leaves
            (err_leaves path (WriteAt side 0 bytes) why
            (write_leaves path (codes ".mh_sequences.new") new_side 0 bytes) took);
        holds = λ keys. record {
          holds = put_down keys a c (written_on keys took);
          here = does_then (mh_shape path).home (number_in path) None (made_here keys)
              (does_call (mh_shape path).home (number_in path) None took side_inside tt);
        };
      }

      module _ {c : Option Past}
          (wrote : Called {A = Unit {0}} (Ok tt) (WriteAt side 0 bytes)
          (done_by (WriteAt side 0 bytes)) b c) where
        wrote_here : (keys : List (List ℕ)) → DoesHere path a c
        wrote_here keys = does_then (mh_shape path).home (number_in path) None (made_here keys)
            (does_call (mh_shape path).home (number_in path) None wrote side_inside tt)

        wrote_leaves : GoesOn (LeavesNumbers path) a c
        wrote_leaves = both_leave path a b c made_leaves
            (done_leaves path (WriteAt side 0 bytes)
            (write_leaves path (codes ".mh_sequences.new") new_side 0 bytes) wrote)

        synced_on : {d : Option Past} (keys : List (List ℕ)) {result : Result (Unit {0}) DiskError}
            → Called result (Sync side) (done_by (Sync side)) c d
            → WritingLeads keys a d
        synced_on keys took =
            S.joined (mh_shape path) (mh_files path).sides keys (written_on keys wrote)
            (S.side_synced (mh_shape path) (mh_files path).sides keys (mh_formed path) side
            (side_is path (codes ".mh_sequences.new") new_side) (inl refl) took)

        pub not_synced : {d : Option Past} (why : DiskError)
            → Called {A = Unit {0}} (Err why) (Sync side) (done_by (Sync side)) c d
            → PutsOver path bytes (Err why) a d
        not_synced {d} why took = record {
          done = tt;
          refused = both_leave path a c d wrote_leaves
              (err_leaves path (Sync side) why
              (sync_leaves path (codes ".mh_sequences.new") new_side) took);
          holds = λ keys. record {
            holds = put_down keys a d (synced_on keys took);
            here = does_then (mh_shape path).home (number_in path) None (wrote_here keys)
                (does_call (mh_shape path).home (number_in path) None took side_inside tt);
          };
        }

        module _ {d : Option Past}
            (settled : Called {A = Unit {0}} (Ok tt) (Sync side) (done_by (Sync side)) c d) where
          settled_here : (keys : List (List ℕ)) → DoesHere path a d
          settled_here keys = does_then (mh_shape path).home (number_in path) None
              (wrote_here keys)
              (does_call (mh_shape path).home (number_in path) None settled side_inside tt)

          settled_leaves : GoesOn (LeavesNumbers path) a d
          settled_leaves = both_leave path a c d wrote_leaves
              (done_leaves path (Sync side)
              (sync_leaves path (codes ".mh_sequences.new") new_side) settled)

          over_keeps : {e : Option Past} (keys : List (List ℕ))
              {result : Result (Unit {0}) DiskError}
              → Called result (Rename side seqs) (done_by (Rename side seqs)) d e
              → KeepsAllBut path keys a e
          over_keeps keys took = record {
            holds = S.joined (mh_shape path) (mh_files path).sides keys (synced_on keys settled)
                (S.side_put_over (mh_shape path) (mh_files path).sides keys (mh_formed path) side
                (side_is path (codes ".mh_sequences.new") new_side) (inl refl) seqs_none
                (home_in path (codes ".mh_sequences")) took);
            here = does_then (mh_shape path).home (number_in path) None (settled_here keys)
                (does_call (mh_shape path).home (number_in path) None took
                (side_inside, home_in path (codes ".mh_sequences")) tt);
          }

          pub not_placed : {e : Option Past} (why : DiskError)
              → Called {A = Unit {0}} (Err why) (Rename side seqs)
              (done_by (Rename side seqs)) d e
              → PutsOver path bytes (Err why) a e
          not_placed {e} why took = record {
            done = tt;
            refused = both_leave path a d e settled_leaves
                (goes_as d e (λ p q step. quiet_leaves path why (Rename side seqs)
                (done_by (Rename side seqs)) p q (λ w wrote s. refl) step) took.goes);
            holds = λ keys. over_keeps keys took;
          }

          pub was_placed : {e : Option Past} → Called {A = Unit {0}} (Ok tt) (Rename side seqs)
              (done_by (Rename side seqs)) d e
              → PutsOver path bytes (Ok tt) a e
          was_placed {e} took = record {
            done = goes_four a b c d e
                (λ p q r s t x y z w. places path bytes p q r s t x y z w) made.goes
                wrote.goes settled.goes took.goes;
            refused = tt;
            holds = λ keys. over_keeps keys took;
          }

          pub was_put : {e : Option Past} (result : Result (Unit {0}) DiskError)
              → Called result (Rename side seqs) (done_by (Rename side seqs)) d e
              → PutsOver path bytes result a e
          was_put (Ok done) took = was_placed took
          was_put (Err why) took = not_placed why took

-- A file of a discarded message.

pub away_taken : (purge : Bool) (path key : List ℕ) (old new : Option Past)
    → is_number key ≡ true
    → Called {A = Unit {0}} (Ok tt) (call_away purge path key) (done_by (call_away purge path key))
    old new
    → GoesOn (Away purge path (gone_at key Discards)) old new
away_taken purge path key old new number took =
    goes_as old new (λ p q step. taken_away purge path key p q number step) took.goes

pub away_refused : (purge : Bool) (path key : List ℕ) (why : DiskError) (old new : Option Past)
    → Called {A = Unit {0}} (Err why) (call_away purge path key)
    (done_by (call_away purge path key)) old new
    → GoesOn (LeavesNumbers path) old new
away_refused purge path key why old new took = by purge took
  where
    by : (purge : Bool) → Called {A = Unit {0}} (Err why) (call_away purge path key)
        (done_by (call_away purge path key)) old new → GoesOn (LeavesNumbers path) old new
    by true took = goes_as old new (λ p q step. quiet_leaves path why (call_away true path key)
        (done_by (call_away true path key)) p q (λ w wrote s. refl) step) took.goes
    by false took = goes_as old new (λ p q step. quiet_leaves path why (call_away false path key)
        (done_by (call_away false path key)) p q (λ w wrote s. refl) step) took.goes
