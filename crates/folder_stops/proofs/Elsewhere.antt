-- A call in another folder leaves the messages.
use Rattle.std.proofs.Common.{List, None, Option, Some, [], ap, arith, false, get_or-set_other, inl}
use Rattle.std.proofs.Common.{inr, length, refl, slice_set, subst, sym, take, true, ℕ, ⊎_elim, ◌++◌}
use Rattle.std.proofs.Common.{◌+◌, ◌==◌, ◌||◌, ◌∙◌, ◌∷◌, ◌≡◌}
use Rattle.std.proofs.lemmas.Bool.{and_parts, cases_Bool, cond-false, cond-true}
use Rattle.disk_model.specs.Journal.{Answer, Call, Create, Cut, Done, Entry, ListDir, MakeDir}
use Rattle.disk_model.specs.Journal.{Others, Own, ReadAll, ReadFront, Refused, Remove, Rename}
use Rattle.disk_model.specs.Journal.{StatPath, Sync, SyncDir, WriteAt}
use Rattle.disk_model.specs.State.{File, Name, State, after_done, after_entry, after_refused}
use Rattle.disk_model.specs.State.{changed, cut_to, durable, file_at, moved, name_at, settled}
use Rattle.disk_model.specs.State.{synced, with_folder, with_made, without, written}
use Rattle.disk_model.specs.Looking.{all_look, is_look}
use Rattle.disk_model.proofs.Marks.{look_keeps, refusal_keeps}
use Rattle.folder_stops.specs.Along.{Allows, Along}
use Rattle.folder_stops.specs.Does.{AreElsewhere, IsElsewhere, IfChanged}
use Rattle.folder_stops.specs.Messages.{Must, StoredMessage}
use Rattle.folder_stops.specs.Others.{MayDo, with_entry}
use Rattle.folder_stops.specs.Rows.{Holds, Row}
use Rattle.folder_stops.specs.Shape.{IsWellFormed, Shape}
use Rattle.folder_stops.specs.Words.{Among}
use Rattle.folder_stops.proofs.Rows.{dropped_row, files_row, named, plain_row}
use Rattle.folder_stops.proofs.Sounds.{file_before, sound_less, sound_made, sound_moved, sound_push}
use Rattle.folder_stops.proofs.Sounds.{sound_set, with_file_at}
use Rattle.folder_stops.proofs.Steps.{holds_barrier, holds_others, holds_push}
use Rattle.folder_stops.proofs.Words.{found}

module _ (shape : Shape) (formed : IsWellFormed shape) where
  outside_case : (path : List ℕ) (slot : Option (List ℕ)) → shape.slot path ≡ slot → shape.home path
      ≡ false → slot ≡ None
  outside_case path None e out = refl
  outside_case path (Some key) e out = let yes : shape.home path ≡ true =
      formed.inside path key e in absurd (cc)

  -- what is outside is no message's
  pub outside : (path : List ℕ) → shape.home path ≡ false → shape.slot path ≡ None
  outside path out = outside_case path (shape.slot path) refl out

  other_set : (n : ℕ) (file : File) (clock' : ℕ) (path : List ℕ) (all : List StoredMessage)
      (s : State) → name_at s.names path ≡ Some (Some n) → shape.home path ≡ false
      → Holds shape all s → Holds shape all (with_file_at n file clock' s)
  other_set n file clock' path all s is out h = record {
    sound = sound_set shape.home n file clock' s h.sound;
    rows = λ row in_rows. files_row shape all s.files (slice_set s.files n file) row
        (λ x key k in_it of_key. get_or-set_other s.files n k file (durable [] 0)
        (λ e. let yes : shape.home x.path ≡ true = formed.inside x.path key of_key.0 in
        let same : shape.home x.path ≡ shape.home path =
        h.sound.alike row x (named path n) k in_rows in_it (found path s.names n is) of_key.1
        (ap Some (sym e)) in absurd (cc)))
        (h.rows row in_rows);
    single = h.single;
    in_order = h.in_order;
  }

  other_changed : (at : Option (Option ℕ)) (path : List ℕ) (change : ℕ → File → File)
      (all : List StoredMessage) (s : State) → name_at s.names path ≡ at → shape.home path ≡ false
      → Holds shape all s → Holds shape all (changed at change s)
  other_changed None path change all s is out h = h
  other_changed (Some None) path change all s is out h = h
  other_changed (Some (Some n)) path change all s is out h =
      other_set n (change s.clock (file_at s.files n)) (s.clock + 1) path all s is out h

  other_settled : (at : Option (Option ℕ)) (path : List ℕ) (all : List StoredMessage) (s : State)
      → name_at s.names path ≡ at → shape.home path ≡ false → Holds shape all s
      → Holds shape all (settled at s)
  other_settled None path all s is out h = h
  other_settled (Some None) path all s is out h = h
  other_settled (Some (Some n)) path all s is out h =
      other_set n (synced (file_at s.files n)) s.clock path all s is out h

  pub other_made : (path : List ℕ) (all : List StoredMessage) (s : State) → shape.slot path ≡ None
      → Holds shape all s → Holds shape all (with_made path [] s)
  other_made path all s none h =
      let files' = s.files ++ durable [] s.clock ∷ [] in
      let grown = λ (row : List Name) (in_rows : Among row (s.names ∷ s.earlier)). files_row shape
      all s.files files' row
      (λ x key n in_it of_key.
      file_before s.files (durable [] s.clock) n (h.sound.below row x n in_rows in_it of_key.1))
      (h.rows row in_rows) in
      record {
        sound = sound_made shape.home path [] s h.sound;
        rows = λ row in_rows. ⊎_elim
            (λ (is : row ≡ named path (length s.files) ∷ s.names). subst (Row shape all files')
            (sym is) (plain_row shape all files' s.names path (Some (length s.files)) none
            (grown s.names (inl refl))))
            (λ (was : Among row (s.names ∷ s.earlier)). grown row was)
            in_rows;
        single = h.single;
        in_order = h.in_order;
      }

  pub other_folder : (path : List ℕ) (all : List StoredMessage) (s : State) → shape.slot path ≡ None
      → Holds shape all s → Holds shape all (with_folder path s)
  other_folder path all s none h =
      holds_push shape formed all s (record { path = path; file = None } ∷ s.names)
      (sound_push shape.home (record { path = path; file = None } ∷ s.names) s.files s.clock s
      h.sound (omega arith)
      (λ x n in_it file. h.sound.below s.names x n (inl refl) (old x n in_it file) file)
      (λ x y n in_x in_y file file'.
      h.sound.shared x y n (old x n in_x file) (old y n in_y file') file file')
      (λ row y x n in_rows in_row in_it file file'.
      h.sound.alike row y x n in_rows in_row (old x n in_it file') file file'))
      (plain_row shape all s.files s.names path None none (h.rows s.names (inl refl))) h
    where
      old : (x : Name) (n : ℕ) → Among x (record { path = path; file = None } ∷ s.names) → x.file
          ≡ Some n → Among x s.names
      old x n (inl is) file = let none : x.file ≡ None = ap (λ (y : Name). y.file) is in absurd (cc)
      old x n (inr later) file = later

  pub other_moved : (at : Option (Option ℕ)) (from to : List ℕ) (all : List StoredMessage)
      (s : State) → name_at s.names from ≡ at → shape.home from ≡ shape.home to → shape.slot to
      ≡ None → ((m : StoredMessage) → Among m all → Must m → shape.slot from ≡ Some m.key → ⊥)
      → Holds shape all s → Holds shape all (moved at from to s)
  other_moved None from to all s is home none free h = h
  other_moved (Some None) from to all s is home none free h = h
  other_moved (Some (Some n)) from to all s is home none free h =
      holds_push shape formed all s (named to n ∷ without to (without from s.names))
      (sound_moved shape.home from to n s (found from s.names n is) home h.sound)
      (plain_row shape all s.files (without to (without from s.names)) to (Some n) none
      (dropped_row shape all s.files (without from s.names) to (λ m in_all must e.
      let no : shape.slot to ≡ None = none in absurd (cc))
      (dropped_row shape all s.files s.names from free (h.rows s.names (inl refl))))) h

  done_elsewhere : (call : Call) (all : List StoredMessage) (s : State) → IsElsewhere shape call
      → Holds shape all s → Holds shape all (after_done call s)
  done_elsewhere (ListDir dir) all s is h = h
  done_elsewhere (StatPath path) all s is h = h
  done_elsewhere (ReadFront path size) all s is h = h
  done_elsewhere (ReadAll path limit) all s is h = h
  done_elsewhere (Create path) all s is h = other_made path all s (outside path is) h
  done_elsewhere (WriteAt path at piece) all s is h =
      other_changed (name_at s.names path) path (written at piece) all s refl is h
  done_elsewhere (Cut path size) all s is h =
      other_changed (name_at s.names path) path (cut_to size) all s refl is h
  done_elsewhere (Sync path) all s is h = other_settled (name_at s.names path) path all s refl is h
  done_elsewhere (Rename from to) all s is h =
      other_moved (name_at s.names from) from to all s refl (is.0 ∙ sym is.1) (outside to is.1)
      (λ m in_all must e. let none : shape.slot from ≡ None = outside from is.0 in
      absurd (cc)) h
  done_elsewhere (Remove path) all s is h =
      holds_push shape formed all s (without path s.names) (sound_less shape.home path s h.sound)
      (dropped_row shape all s.files s.names path (λ m in_all must e.
      let none : shape.slot path ≡ None = outside path is in
      absurd (cc)) (h.rows s.names (inl refl))) h
  done_elsewhere (SyncDir dir) all s is h = holds_barrier shape formed all s h
  done_elsewhere (MakeDir path) all s is h = other_folder path all s (outside path is) h

  refused_elsewhere : (call : Call) (wrote : ℕ) (all : List StoredMessage) (s : State)
      → ((wrote == 0) ≡ false → IsElsewhere shape call) → Holds shape all s
      → Holds shape all (after_refused call wrote s)
  refused_elsewhere (ListDir dir) wrote all s is h = h
  refused_elsewhere (StatPath path) wrote all s is h = h
  refused_elsewhere (ReadFront path size) wrote all s is h = h
  refused_elsewhere (ReadAll path limit) wrote all s is h = h
  refused_elsewhere (Create path) wrote all s is h = h
  refused_elsewhere (WriteAt path at piece) wrote all s is h = ⊎_elim
      (λ (e : (wrote == 0) ≡ true). subst (Holds shape all) (sym (cond-true (wrote == 0) _ _ e)) h)
      (λ (e : (wrote == 0) ≡ false). subst (Holds shape all) (sym (cond-false (wrote == 0) _ _ e))
      (other_changed (name_at s.names path) path (written at (take wrote piece)) all s refl (is e)
      h))
      (cases_Bool (wrote == 0))
  refused_elsewhere (Cut path size) wrote all s is h = h
  refused_elsewhere (Sync path) wrote all s is h = h
  refused_elsewhere (Rename from to) wrote all s is h = h
  refused_elsewhere (Remove path) wrote all s is h = h
  refused_elsewhere (SyncDir dir) wrote all s is h = h
  refused_elsewhere (MakeDir path) wrote all s is h = h

  pub own_elsewhere : (call : Call) (answer : Answer) (all : List StoredMessage) (s : State)
      → IfChanged answer (IsElsewhere shape call) → Holds shape all s
      → Holds shape all (after_entry s (Own call answer))
  own_elsewhere call Done all s is h = done_elsewhere call all s is h
  own_elsewhere call (Refused why wrote) all s is h = refused_elsewhere call wrote all s is h

  -- a call in another folder, with what others do
  pub holds_elsewhere : (keys : List (List ℕ)) (entries : List Entry) (all : List StoredMessage)
      (s : State) → AreElsewhere shape entries → Allows (MayDo shape) entries s → Holds shape all s
      → Along (with_entry shape keys) (Holds shape) entries all s
  holds_elsewhere keys [] all s are may h = h
  holds_elsewhere keys (Own call answer ∷ entries) all s are may h = (
    h,
    holds_elsewhere keys entries all (after_entry s (Own call answer)) are.1 may
        (own_elsewhere call answer all s are.0 h),
  )
  holds_elsewhere keys (Others action ∷ entries) all s are may h = (
    h,
    holds_elsewhere keys entries _ (after_entry s (Others action)) are may.1
        (holds_others shape formed keys action all s may.0 h),
  )

  still : (s t : State) → t ≡ s → (all : List StoredMessage) → Holds shape all s → Holds shape all t
  still s t e all h = subst (Holds shape all) (sym e) h

  -- entries in which we changed nothing, with what others do
  pub holds_quiet : (keys : List (List ℕ)) (entries : List Entry) (all : List StoredMessage)
      (s : State) → all_look entries ≡ true → Allows (MayDo shape) entries s → Holds shape all s
      → Along (with_entry shape keys) (Holds shape) entries all s
  holds_quiet keys [] all s look may h = h
  holds_quiet keys (Own call Done ∷ entries) all s look may h =
      let is = and_parts (is_look call) (all_look entries) look in (
        h,
        holds_quiet keys entries all (after_done call s) is.1 may
            (still s (after_done call s) (look_keeps call s is.0) all h),
      )
  holds_quiet keys (Own call (Refused why wrote) ∷ entries) all s look may h =
      let is = and_parts (is_look call || wrote == 0) (all_look entries) look in (
        h,
        holds_quiet keys entries all (after_refused call wrote s) is.1 may
            (still s (after_refused call wrote s) (refusal_keeps call wrote s is.0) all h),
      )
  holds_quiet keys (Others action ∷ entries) all s look may h =
      let is = and_parts true (all_look entries) look in (
        h,
        holds_quiet keys entries _ (after_entry s (Others action)) is.1 may.1
            (holds_others shape formed keys action all s may.0 h),
      )
