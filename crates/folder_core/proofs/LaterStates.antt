-- States of one past: a file keeps its bytes and its stamp, or has a stamp that no file had before.
use Rattle.std.proofs.Common.{◌≡◌, ◌≢◌, ◌≤◌, ◌<◌, ◌+◌, ◌==◌, ◌⊎◌, ℕ, Bool, true, false, List, []}
use Rattle.std.proofs.Common.{◌∷◌, ◌++◌, Option, Some, None, inl, inr, length, take, slice_set}
use Rattle.std.proofs.Common.{if◌then◌else◌, refl, sym, ◌∙◌, ap, arith, length-append}
use Rattle.std.proofs.lemmas.Bool.Decides.{eqb_tells}
use Rattle.std.proofs.Math.Dec.{eqb}
use Rattle.std.proofs.lemmas.Grind.{get_or-set_at}
use Rattle.std.proofs.Math.Seq.{get_or-append_seam}
use Rattle.std.proofs.lemmas.List.{get_or-set_other, get_or_append_left, length-set}
use Rattle.disk_model.specs.Journal.{Call, ListDir, StatPath, ReadFront, ReadAll, Create, WriteAt}
use Rattle.disk_model.specs.Journal.{Cut, Sync, Rename, Remove, SyncDir, MakeDir, Action, Appends}
use Rattle.disk_model.specs.Journal.{Puts, Renames, Removes, Writes, Done, Refused, Entry, Own}
use Rattle.disk_model.specs.Journal.{Others}
use Rattle.disk_model.specs.State.{File, State, after_action, after_done, after_entry, run_entries}
use Rattle.disk_model.specs.State.{after_refused, appended, can_make, can_take, changed, cut_to}
use Rattle.disk_model.specs.State.{durable, file_at, is_file, moved, name_at, replaced, settled}
use Rattle.disk_model.specs.State.{with_made, with_names, without, written, synced, barrier}
use Rattle.disk_model.specs.State.{with_synced, with_file}

-- the file of a number is as before, or has a stamp that no file had
pub record SameFile (n : ℕ) (old new : State) : Type 0 where
  pub there : n < length old.files
  pub stamp : (file_at new.files n).stamp ≡ (file_at old.files n).stamp
  pub bytes : (file_at new.files n).bytes ≡ (file_at old.files n).bytes

pub record Later (old new : State) : Type 0 where
  pub clock : old.clock ≤ new.clock
  pub long : length old.files ≤ length new.files
  pub each : (n : ℕ) → n < length new.files
      → SameFile n old new ⊎ (old.clock ≤ (file_at new.files n).stamp)
  pub below : ((n : ℕ) → n < length old.files → (file_at old.files n).stamp < old.clock)
      → (n : ℕ) → n < length new.files → (file_at new.files n).stamp < new.clock

same_files : (old new : State) → new.files ≡ old.files → new.clock ≡ old.clock → Later old new
same_files old new files clock = record {
  clock = omega (arith, clock);
  long = omega (arith, ap length files);
  each = λ n low. inl (record {
    there = omega (arith, low, ap length files);
    stamp = ap (λ (l : List File). (file_at l n).stamp) files;
    bytes = ap (λ (l : List File). (file_at l n).bytes) files;
  });
  below = λ all n low. omega (
    arith,
    clock,
    all n (omega (arith, low, ap length files)),
    ap
        (λ (l : List File). (file_at l n).stamp) files,
  );
}

later_then : (a b c : State) → Later a b → Later b c → Later a c
later_then a b c first next = record {
  clock = omega (arith, first.clock, next.clock);
  long = omega (arith, first.long, next.long);
  each = λ n low. by n (next.each n low);
  below = λ all. next.below (first.below all);
}
  where
    on : (n : ℕ) → SameFile n b c → SameFile n a b ⊎ (a.clock ≤ (file_at b.files n).stamp)
        → SameFile n a c ⊎ (a.clock ≤ (file_at c.files n).stamp)
    on n same (inl before) = inl (record {
      there = before.there;
      stamp = same.stamp ∙ before.stamp;
      bytes = same.bytes ∙ before.bytes;
    })
    on n same (inr high) = inr (omega (arith, high, same.stamp))

    by : (n : ℕ) → SameFile n b c ⊎ (b.clock ≤ (file_at c.files n).stamp)
        → SameFile n a c ⊎ (a.clock ≤ (file_at c.files n).stamp)
    by n (inl same) = on n same (first.each n same.there)
    by n (inr high) = inr (omega (arith, high, first.clock))

-- a file is changed, and has a stamp that no file had
changed_one : (number : ℕ) (file : File) (state : State) → file.stamp ≡ state.clock
    → Later state
    (record state { files = slice_set state.files number file; clock = state.clock + 1 })
changed_one number file state is = record {
  clock = omega arith;
  long = omega (arith, length-set state.files number file);
  each = λ n low. by n (omega (arith, low, length-set state.files number file))
      (eqb_tells n number);
  below = λ all n low. under n (omega (arith, low, length-set state.files number file)) (all n)
      (eqb_tells n number);
}
  where
    by : (n : ℕ) → n < length state.files
        → ((eqb n number ≡ true) × (n ≡ number)) ⊎ ((eqb n number ≡ false) × (n ≢ number))
        → SameFile n state
        (record state { files = slice_set state.files number file; clock = state.clock + 1 })
        ⊎ (state.clock ≤ (file_at (slice_set state.files number file) n).stamp)
    by n low (inl same) = inr (omega (
      arith,
      is,
      ap (λ (f : File). f.stamp)
          (get_or-set_at state.files number n file (durable [] 0) same.1
          (omega (arith, low, same.1))),
    ))
    by n low (inr other) = inl (record {
      there = low;
      stamp = ap (λ (f : File). f.stamp)
          (get_or-set_other state.files number n file (durable [] 0) other.1);
      bytes = ap (λ (f : File). f.bytes)
          (get_or-set_other state.files number n file (durable [] 0) other.1);
    })

    under : (n : ℕ) → n < length state.files
        → (n < length state.files → (file_at state.files n).stamp < state.clock)
        → ((eqb n number ≡ true) × (n ≡ number)) ⊎ ((eqb n number ≡ false) × (n ≢ number))
        → (file_at (slice_set state.files number file) n).stamp < state.clock + 1
    under n low all (inl same) = omega (
      arith,
      is,
      ap (λ (f : File). f.stamp)
          (get_or-set_at state.files number n file (durable [] 0) same.1
          (omega (arith, low, same.1))),
    )
    under n low all (inr other) = omega (
      arith,
      all low,
      ap (λ (f : File). f.stamp)
          (get_or-set_other state.files number n file (durable [] 0) other.1),
    )

-- a file is put on the disk: bytes and stamp stay
synced_one : (number : ℕ) (state : State) → Later state (with_synced number state)
synced_one number state = record {
  clock = omega arith;
  long = omega (arith, length-set state.files number kept);
  each = λ n low. inl (record {
    there = omega (arith, low, length-set state.files number kept);
    stamp = stamp_is n (omega (arith, low, length-set state.files number kept))
        (eqb_tells n number);
    bytes = bytes_is n (omega (arith, low, length-set state.files number kept))
        (eqb_tells n number);
  });
  below = λ all n low. omega (
    arith,
    all n (omega (arith, low, length-set state.files number kept)),
    stamp_is n (omega (arith, low, length-set state.files number kept)) (eqb_tells n number),
  );
}
  where
    kept : File
    kept = synced (file_at state.files number)

    stamp_is : (n : ℕ) → n < length state.files
        → ((eqb n number ≡ true) × (n ≡ number)) ⊎ ((eqb n number ≡ false) × (n ≢ number))
        → (file_at (slice_set state.files number kept) n).stamp ≡ (file_at state.files n).stamp
    stamp_is n low (inl same) =
        ap (λ (f : File). f.stamp)
        (get_or-set_at state.files number n kept (durable [] 0) same.1
        (omega (arith, low, same.1)))
        ∙ ap (λ (k : ℕ). (file_at state.files k).stamp) (sym same.1)
    stamp_is n low (inr other) = ap (λ (f : File). f.stamp)
        (get_or-set_other state.files number n kept (durable [] 0) other.1)

    bytes_is : (n : ℕ) → n < length state.files
        → ((eqb n number ≡ true) × (n ≡ number)) ⊎ ((eqb n number ≡ false) × (n ≢ number))
        → (file_at (slice_set state.files number kept) n).bytes ≡ (file_at state.files n).bytes
    bytes_is n low (inl same) =
        ap (λ (f : File). f.bytes)
        (get_or-set_at state.files number n kept (durable [] 0) same.1
        (omega (arith, low, same.1)))
        ∙ ap (λ (k : ℕ). (file_at state.files k).bytes) (sym same.1)
    bytes_is n low (inr other) = ap (λ (f : File). f.bytes)
        (get_or-set_other state.files number n kept (durable [] 0) other.1)

-- a file is made
at_or_last : (n k : ℕ) → n < k + 1 → (n < k) ⊎ (n ≡ k)
at_or_last n k low = grind (arith, low)

made_one : (bytes : List ℕ) (state : State) → Later state (with_file bytes state)
made_one bytes state = record {
  clock = omega arith;
  long = omega (arith, length-append state.files (durable bytes state.clock ∷ []));
  each = λ n low. by n
      (at_or_last n (length state.files)
      (omega (arith, low, length-append state.files (durable bytes state.clock ∷ []))));
  below = λ all n low. under n (all n)
      (at_or_last n (length state.files)
      (omega (arith, low, length-append state.files (durable bytes state.clock ∷ []))));
}
  where
    made : File
    made = durable bytes state.clock

    front : (n : ℕ) → n < length state.files
        → file_at (state.files ++ made ∷ []) n ≡ file_at state.files n
    front n low = get_or_append_left state.files (made ∷ []) (durable [] 0) n low

    last : (n : ℕ) → n ≡ length state.files → file_at (state.files ++ made ∷ []) n ≡ made
    last n is = ap (λ (k : ℕ). file_at (state.files ++ made ∷ []) k) is
        ∙ get_or-append_seam state.files made [] (durable [] 0)

    by : (n : ℕ) → (n < length state.files) ⊎ (n ≡ length state.files)
        → SameFile n state (with_file bytes state)
        ⊎ (state.clock ≤ (file_at (state.files ++ made ∷ []) n).stamp)
    by n (inl low) = inl (record {
      there = low;
      stamp = ap (λ (f : File). f.stamp) (front n low);
      bytes = ap (λ (f : File). f.bytes) (front n low);
    })
    by n (inr is) = inr (omega (arith, ap (λ (f : File). f.stamp) (last n is)))

    under : (n : ℕ) → (n < length state.files → (file_at state.files n).stamp < state.clock)
        → (n < length state.files) ⊎ (n ≡ length state.files)
        → (file_at (state.files ++ made ∷ []) n).stamp < state.clock + 1
    under n all (inl low) = omega (arith, all low, ap (λ (f : File). f.stamp) (front n low))
    under n all (inr is) = omega (arith, ap (λ (f : File). f.stamp) (last n is))

-- Each entry.

same : (state : State) → Later state state
same state = same_files state state refl refl

later_changed : (at : Option (Option ℕ)) (change : ℕ → File → File) (state : State)
    → ((stamp : ℕ) (file : File) → (change stamp file).stamp ≡ stamp)
    → Later state (changed at change state)
later_changed None change state stamps = same state
later_changed (Some None) change state stamps = same state
later_changed (Some (Some number)) change state stamps =
    changed_one number (change state.clock (file_at state.files number)) state
    (stamps state.clock (file_at state.files number))

later_settled : (at : Option (Option ℕ)) (state : State) → Later state (settled at state)
later_settled None state = same state
later_settled (Some None) state = same state
later_settled (Some (Some number)) state = synced_one number state

later_moved : (at : Option (Option ℕ)) (from to : List ℕ) (state : State)
    → Later state (moved at from to state)
later_moved None from to state = same state
later_moved (Some None) from to state = same state
later_moved (Some (Some number)) from to state = same_files state _ refl refl

later_made : (path bytes : List ℕ) (state : State) → Later state (with_made path bytes state)
later_made path bytes state = later_then state (with_file bytes state) (with_made path bytes state)
    (made_one bytes state)
    (same_files (with_file bytes state) (with_made path bytes state) refl refl)

later_if : (b : Bool) (state next other : State) → Later state next → Later state other
    → Later state (if b then next else other)
later_if true state next other n o = n
later_if false state next other n o = o

appended_stamp : (piece : List ℕ) (stamp : ℕ) (file : File)
    → (appended piece stamp file).stamp ≡ stamp
appended_stamp [] stamp file = refl
appended_stamp (b ∷ piece) stamp file = refl

later_done : (call : Call) (state : State) → Later state (after_done call state)
later_done (ListDir dir) state = same state
later_done (StatPath path) state = same state
later_done (ReadFront path size) state = same state
later_done (ReadAll path limit) state = same state
later_done (Create path) state = later_made path [] state
later_done (WriteAt path at piece) state =
    later_changed (name_at state.names path) (written at piece) state (λ stamp file. refl)
later_done (Cut path size) state =
    later_changed (name_at state.names path) (cut_to size) state (λ stamp file. refl)
later_done (Sync path) state = later_settled (name_at state.names path) state
later_done (Rename from to) state = later_moved (name_at state.names from) from to state
later_done (Remove path) state = same_files state _ refl refl
later_done (SyncDir dir) state = same_files state _ refl refl
later_done (MakeDir path) state = same_files state _ refl refl

later_refused : (call : Call) (wrote : ℕ) (state : State)
    → Later state (after_refused call wrote state)
later_refused (WriteAt path at piece) wrote state = later_if (wrote == 0) state state
    (changed (name_at state.names path) (written at (take wrote piece)) state) (same state)
    (later_changed (name_at state.names path) (written at (take wrote piece)) state
    (λ stamp file. refl))
later_refused (ListDir dir) wrote state = same state
later_refused (StatPath path) wrote state = same state
later_refused (ReadFront path size) wrote state = same state
later_refused (ReadAll path limit) wrote state = same state
later_refused (Create path) wrote state = same state
later_refused (Cut path size) wrote state = same state
later_refused (Sync path) wrote state = same state
later_refused (Rename from to) wrote state = same state
later_refused (Remove path) wrote state = same state
later_refused (SyncDir dir) wrote state = same state
later_refused (MakeDir path) wrote state = same state

later_action : (action : Action) (state : State) → Later state (after_action action state)
later_action (Appends path piece) state =
    later_changed (name_at state.names path) (appended piece) state (appended_stamp piece)
later_action (Puts path bytes) state =
    later_if (can_make state.names path) state (with_made path bytes state) state
    (later_made path bytes state) (same state)
later_action (Renames from to) state =
    later_if (can_take state.names to) state (moved (name_at state.names from) from to state) state
    (later_moved (name_at state.names from) from to state) (same state)
later_action (Removes path) state =
    later_if (is_file (name_at state.names path)) state
    (with_names (without path state.names) state) state
    (same_files state _ refl refl) (same state)
later_action (Writes path bytes) state =
    later_changed (name_at state.names path) (replaced bytes) state (λ stamp file. refl)

later_entry : (entry : Entry) (state : State) → Later state (after_entry state entry)
later_entry (Own call Done) state = later_done call state
later_entry (Own call (Refused why wrote)) state = later_refused call wrote state
later_entry (Others action) state = later_then state (after_action action state)
    (barrier (after_action action state))
    (later_action action state)
    (same_files (after_action action state) (barrier (after_action action state)) refl refl)

pub later_entries : (entries : List Entry) (state : State) → Later state (run_entries entries state)
later_entries [] state = same state
later_entries (entry ∷ entries) state = later_then state (after_entry state entry)
    (run_entries entries (after_entry state entry))
    (later_entry entry state) (later_entries entries (after_entry state entry))

-- A file that has the stamp of an earlier one has its bytes.
pub stamps_tell : (a b : State) → Later a b
    → ((n : ℕ) → n < length a.files → (file_at a.files n).stamp < a.clock)
    → ((n k : ℕ) → n < length a.files → k < length a.files
    → (file_at a.files n).stamp ≡ (file_at a.files k).stamp → n ≡ k)
    → (n k : ℕ) → n < length a.files → k < length b.files
    → (file_at b.files k).stamp ≡ (file_at a.files n).stamp
    → (file_at b.files k).bytes ≡ (file_at a.files n).bytes
stamps_tell a b later below single n k low high is = by (later.each k high)
  where
    by : SameFile k a b ⊎ (a.clock ≤ (file_at b.files k).stamp)
        → (file_at b.files k).bytes ≡ (file_at a.files n).bytes
    by (inl same) = same.bytes
        ∙ ap (λ (j : ℕ). (file_at a.files j).bytes)
        (single k n same.there low (sym same.stamp ∙ is))
    by (inr above) = absurd (omega (arith, above, below n low, is))
