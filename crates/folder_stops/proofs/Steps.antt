-- What each call and each action of others leaves of a folder that holds its messages.
use Rattle.std.proofs.Common.{Bool, List, None, Option, Some, [], ap, false, get_or-set_other}
use Rattle.std.proofs.Common.{if◌then◌else◌, inl, length, refl, subst, sym, true, ℕ, ⊎_elim, ◌++◌}
use Rattle.std.proofs.Common.{◌+◌, ◌∙◌, ◌∷◌, ◌≡◌, ◌≢◌}
use Rattle.std.proofs.lemmas.Bool.{cases_Bool, cond-false, cond-true}
use Rattle.std.proofs.Math.Seq.{get_or-append_seam}
use Rattle.disk_model.specs.Journal.{Action, Appends, Puts, Removes, Renames, Writes}
use Rattle.disk_model.specs.State.{File, Name, State, after_action, barrier, can_make, can_take}
use Rattle.disk_model.specs.State.{changed, durable, file_at, is_file, moved, name_at, with_change}
use Rattle.disk_model.specs.State.{with_made, with_names, without}
use Rattle.folder_stops.specs.Messages.{IsInOrder, IsLooser, IsSingle, Must, StoredMessage, arrived}
use Rattle.folder_stops.specs.Messages.{loosened, taken}
use Rattle.folder_stops.specs.Others.{MayDo, MayMove, MayPut, with_action, with_move, with_put}
use Rattle.folder_stops.specs.Rows.{Holds, IsDurable, IsUnused, Row, Sound}
use Rattle.folder_stops.specs.Shape.{IsWellFormed, Shape}
use Rattle.folder_stops.specs.Words.{Among}
use Rattle.folder_stops.proofs.Messages.{order_less, order_loosened, order_looser, order_with}
use Rattle.folder_stops.proofs.Messages.{single_less, single_loosened, single_looser, single_with}
use Rattle.folder_stops.proofs.Rows.{IsAbsent, blank_row, came_row, dropped_row, files_row}
use Rattle.folder_stops.proofs.Rows.{gone_row, loosened_row, moved_row, named, plain_row}
use Rattle.folder_stops.proofs.Rows.{row_looser}
use Rattle.folder_stops.proofs.Sounds.{file_before, sound_barrier, sound_less, sound_made}
use Rattle.folder_stops.proofs.Sounds.{sound_moved, sound_set}
use Rattle.folder_stops.proofs.Words.{absent_made, among_without, found}

pub is_durable : (bytes : List ℕ) (stamp : ℕ) → IsDurable bytes (durable bytes stamp)
is_durable bytes stamp = record {
  holds = refl;
  least = refl;
  greatest = refl;
  untouched = λ i lt. refl;
}

pub file_last : (files : List File) (f : File) → file_at (files ++ f ∷ []) (length files) ≡ f
file_last files f = get_or-append_seam files f [] (durable [] 0)

module _ (shape : Shape) (formed : IsWellFormed shape) where
  pub holds_loosened : (keys : List (List ℕ)) (all : List StoredMessage) (s : State)
      → Holds shape all s → Holds shape (loosened keys all) s
  holds_loosened keys all s h = record {
    sound = h.sound;
    rows = λ row in_rows. loosened_row shape keys all s.files row (h.rows row in_rows);
    single = single_loosened keys all h.single;
    in_order = order_loosened shape.before keys all h.in_order;
  }

  -- no fewer may go: a call may let go fewer than are named
  pub holds_looser : (all more : List StoredMessage) (s : State) → IsLooser all more
      → Holds shape all s → Holds shape more s
  holds_looser all more s loose h = record {
    sound = h.sound;
    rows = λ row in_rows. row_looser shape all more s.files row loose (h.rows row in_rows);
    single = single_looser all more loose h.single;
    in_order = order_looser shape.before all more loose h.in_order;
  }

  pub holds_barrier : (all : List StoredMessage) (s : State) → Holds shape all s
      → Holds shape all (barrier s)
  holds_barrier all s h = record {
    sound = sound_barrier shape.home s h.sound;
    rows = λ row in_rows.
        ⊎_elim (λ (is : row ≡ s.names). h.rows row (inl is)) (λ (no : ⊥). absurd no) in_rows;
    single = h.single;
    in_order = h.in_order;
  }

  -- other names, and the old ones beside them
  pub holds_push : (all : List StoredMessage) (s : State) (names' : List Name)
      → Sound shape.home (with_names names' s) → Row shape all s.files names' → Holds shape all s
      → Holds shape all (with_names names' s)
  holds_push all s names' sound row h = record {
    sound = sound;
    rows = λ r in_rows. ⊎_elim (λ (is : r ≡ names'). subst (Row shape all s.files) (sym is) row)
        (λ (was : Among r (s.names ∷ s.earlier)). h.rows r was) in_rows;
    single = h.single;
    in_order = h.in_order;
  }

  -- a file gets another name and keeps its key
  pub holds_moved : (at : Option (Option ℕ)) (from to key : List ℕ) (all : List StoredMessage)
      (s : State) → name_at s.names from ≡ at → shape.slot from ≡ Some key → shape.slot to
      ≡ Some key
      → Holds shape all s → Holds shape all (moved at from to s)
  holds_moved None from to key all s is at_from at_to h = h
  holds_moved (Some None) from to key all s is at_from at_to h = h
  holds_moved (Some (Some n)) from to key all s is at_from at_to h =
      let there = found from s.names n is in
      holds_push all s (named to n ∷ without to (without from s.names))
      (sound_moved shape.home from to n s there
      (formed.inside from key at_from ∙ sym (formed.inside to key at_to)) h.sound)
      (moved_row shape all s.files s.names from to key n there at_from at_to
      (h.rows s.names (inl refl))) h

  -- a file goes away whose message may go
  pub holds_removed : (path key : List ℕ) (all : List StoredMessage) (s : State) → shape.slot path
      ≡ Some key → ((m : StoredMessage) → Among m all → m.key ≡ key → m.may_go ≡ true)
      → Holds shape all s → Holds shape all (with_names (without path s.names) s)
  holds_removed path key all s at loose h =
      holds_push all s (without path s.names) (sound_less shape.home path s h.sound)
      (dropped_row shape all s.files s.names path
      (λ m in_all must is. let e : m.key ≡ key = (cc) in
      let may : m.may_go ≡ true = loose m in_all e in absurd (cc))
      (h.rows s.names (inl refl))) h

  -- a file of no message goes away
  pub holds_cleared : (path : List ℕ) (all : List StoredMessage) (s : State) → shape.slot path
      ≡ None → Holds shape all s → Holds shape all (with_names (without path s.names) s)
  holds_cleared path all s none h =
      holds_push all s (without path s.names) (sound_less shape.home path s h.sound)
      (dropped_row shape all s.files s.names path (λ m in_all must is.
      let no : shape.slot path ≡ None = none in absurd (cc)) (h.rows s.names (inl refl))) h

  -- The same of the names now alone: others act, and then no others may stand.
  pub record Now (all : List StoredMessage) (s : State) : Type 0 where
    pub sound : Sound shape.home s
    pub row : Row shape all s.files s.names
    pub single : IsSingle all
    pub in_order : IsInOrder shape.before all

  pub now_of : (all : List StoredMessage) (s : State) → Holds shape all s → Now all s
  now_of all s h = record {
    sound = h.sound;
    row = h.rows s.names (inl refl);
    single = h.single;
    in_order = h.in_order;
  }

  pub then_barrier : (all : List StoredMessage) (s : State) → Now all s
      → Holds shape all (barrier s)
  then_barrier all s h = record {
    sound = sound_barrier shape.home s h.sound;
    rows = λ row in_rows.
        ⊎_elim (λ (is : row ≡ s.names). subst (Row shape all s.files) (sym is) h.row)
        (λ (no : ⊥). absurd no) in_rows;
    single = h.single;
    in_order = h.in_order;
  }

  unused_single : (m : StoredMessage) (all : List StoredMessage) (s : State)
      → IsUnused shape m.key s.names → Now all s → (n : StoredMessage) → Among n all → Must m
      → Must n → m.key ≢ n.key
  unused_single m all s unused h n in_all must must' e =
      let at = h.row.present n in_all must' in
      unused at.0 at.1 at.2 (at.3.0 ∙ ap Some (sym e), at.3.1)

  files_grown : (all : List StoredMessage) (bytes : List ℕ) (s : State) → Now all s
      → Row shape all (s.files ++ durable bytes s.clock ∷ []) s.names
  files_grown all bytes s h =
      files_row shape all s.files (s.files ++ durable bytes s.clock ∷ []) s.names
      (λ x key n in_it of_key.
      file_before s.files (durable bytes s.clock) n
      (h.sound.below s.names x n (inl refl) in_it of_key.1)) h.row

  new_durable : (bytes : List ℕ) (s : State)
      → IsDurable bytes (file_at (s.files ++ durable bytes s.clock ∷ []) (length s.files))
  new_durable bytes s =
      subst (IsDurable bytes) (sym (file_last s.files (durable bytes s.clock)))
      (is_durable bytes s.clock)

  put_now : (keys : List (List ℕ)) (path bytes : List ℕ) (all : List StoredMessage) (s : State)
      (at : Option (List ℕ)) → shape.slot path ≡ at → MayPut shape at s.names
      → IsAbsent path s.names
      → Now all s → Now (with_put shape keys at bytes all) (with_made path bytes s)
  put_now keys path bytes all s None at may free h = record {
    sound = sound_made shape.home path bytes s h.sound;
    row = plain_row shape all (s.files ++ durable bytes s.clock ∷ []) s.names path
        (Some (length s.files)) at (files_grown all bytes s h);
    single = h.single;
    in_order = h.in_order;
  }
  put_now keys path bytes all s (Some key) at may free h = ⊎_elim
      (λ (e : shape.counts bytes ≡ true). subst
      (λ (l : List StoredMessage). Now l (with_made path bytes s))
      (sym (cond-true (shape.counts bytes) _ _ e)) (record {
        sound = sound_made shape.home path bytes s h.sound;
        row = came_row shape all (s.files ++ durable bytes s.clock ∷ []) s.names
            (arrived keys key bytes) path (length s.files) at may free (new_durable bytes s) e
            (files_grown all bytes s h);
        single = single_with shape.before (arrived keys key bytes) all
            (unused_single (arrived keys key bytes) all s may h) h.single;
        in_order = order_with shape.before formed.order (arrived keys key bytes) all h.in_order;
      }))
      (λ (e : shape.counts bytes ≡ false). subst
      (λ (l : List StoredMessage). Now l (with_made path bytes s))
      (sym (cond-false (shape.counts bytes) _ _ e)) (record {
        sound = sound_made shape.home path bytes s h.sound;
        row = blank_row shape all (s.files ++ durable bytes s.clock ∷ []) s.names path key
            (length s.files) at may free (bytes, new_durable bytes s, e)
            (files_grown all bytes s h);
        single = h.single;
        in_order = h.in_order;
      }))
      (cases_Bool (shape.counts bytes))

  move_now : (keys : List (List ℕ)) (from to : List ℕ) (all : List StoredMessage) (s : State)
      (file : Option (Option ℕ)) (a b : Option (List ℕ)) → name_at s.names from ≡ file
      → shape.slot from ≡ a → shape.slot to ≡ b
      → shape.home from ≡ shape.home to → MayMove shape file a b s → Now all s
      → Now (with_move shape keys file a b s.files all) (moved file from to s)
  move_now keys from to all s None a b is at_from at_to home may h = h
  move_now keys from to all s (Some None) a b is at_from at_to home may h = h
  move_now keys from to all s (Some (Some n)) None None is at_from at_to home may h =
      let there = found from s.names n is in
      record {
        sound = sound_moved shape.home from to n s there home h.sound;
        row = plain_row shape all s.files (without to (without from s.names)) to (Some n) at_to
            (dropped_row shape all s.files (without from s.names) to (λ m in_all must e.
            let x : shape.slot to ≡ None = at_to in absurd (cc))
            (dropped_row shape all s.files s.names from (λ m in_all must e.
            let x : shape.slot from ≡ None = at_from in absurd (cc)) h.row));
        single = h.single;
        in_order = h.in_order;
      }
  move_now keys from to all s (Some (Some n)) None (Some key) is at_from at_to home may h =
      let there = found from s.names n is in
      let m = arrived keys key (file_at s.files n).bytes in
      let sound = sound_moved shape.home from to n s there home h.sound in
      let unused = λ (x : Name) (k : ℕ) (in_it : Among x (without to (without from s.names))). may.0
      x k (among_without x from s.names (among_without x to (without from s.names) in_it).0).0
      in
      let free = λ (y : Name) (later : Among y (without to (without from s.names))).
      (among_without y to (without from s.names) later).1 in
      let row = dropped_row shape all s.files (without from s.names) to (λ p in_all must e.
      let at = h.row.present p in_all must in
      may.0 at.0 at.1 at.2 (at.3.0 ∙ sym e ∙ at_to, at.3.1))
      (dropped_row shape all s.files s.names from (λ p in_all must e.
      let x : shape.slot from ≡ None = at_from in absurd (cc)) h.row) in
      ⊎_elim
      (λ (e : shape.counts (file_at s.files n).bytes ≡ true). subst
      (λ (l : List StoredMessage). Now l
      (with_names (named to n ∷ without to (without from s.names)) s))
      (sym (cond-true (shape.counts (file_at s.files n).bytes) _ _ e)) (record {
        sound = sound;
        row = came_row shape all s.files (without to (without from s.names)) m to n at_to unused
            free may.1 e row;
        single = single_with shape.before m all (unused_single m all s may.0 h) h.single;
        in_order = order_with shape.before formed.order m all h.in_order;
      }))
      (λ (e : shape.counts (file_at s.files n).bytes ≡ false). subst
      (λ (l : List StoredMessage). Now l
      (with_names (named to n ∷ without to (without from s.names)) s))
      (sym (cond-false (shape.counts (file_at s.files n).bytes) _ _ e)) (record {
        sound = sound;
        row = blank_row shape all s.files (without to (without from s.names)) to key n at_to unused
            free ((file_at s.files n).bytes, may.1, e) row;
        single = h.single;
        in_order = h.in_order;
      }))
      (cases_Bool (shape.counts (file_at s.files n).bytes))
  move_now keys from to all s (Some (Some n)) (Some key) None is at_from at_to home may h =
      let there = found from s.names n is in
      record {
        sound = sound_moved shape.home from to n s there home h.sound;
        row = plain_row shape (taken key all) s.files (without to (without from s.names)) to
            (Some n) at_to
            (dropped_row shape (taken key all) s.files (without from s.names) to (λ m in_all must e.
            let x : shape.slot to ≡ None = at_to in absurd (cc))
            (gone_row shape all s.files s.names from key n there at_from h.row));
        single = single_less key all h.single;
        in_order = order_less shape.before key all h.in_order;
      }
  move_now keys from to all s (Some (Some n)) (Some key) (Some other) is at_from at_to home may h =
      let there = found from s.names n is in
      record {
        sound = sound_moved shape.home from to n s there home h.sound;
        row = moved_row shape all s.files s.names from to key n there at_from
            (at_to ∙ ap Some (sym may)) h.row;
        single = h.single;
        in_order = h.in_order;
      }

  -- a file outside the folder is changed
  change_now : (at : Option (Option ℕ)) (path : List ℕ) (change : ℕ → File → File)
      (all : List StoredMessage) (s : State) → name_at s.names path ≡ at → shape.slot path ≡ None
      → Now all s → Now all (changed at change s)
  change_now None path change all s is out h = h
  change_now (Some None) path change all s is out h = h
  change_now (Some (Some n)) path change all s is out h = record {
    sound = sound_set shape.home n (change s.clock (file_at s.files n)) (s.clock + 1) s h.sound;
    row = files_row shape all s.files (with_change n change s).files s.names
        (λ x key k in_it of_key.
        get_or-set_other s.files n k (change s.clock (file_at s.files n)) (durable [] 0)
        (λ e. let some : shape.slot x.path ≡ Some key = of_key.0 in
        let same : x.path ≡ path =
        h.sound.shared x (named path n) k in_it (found path s.names n is) of_key.1
        (ap Some (sym e)) in
        let none : shape.slot x.path ≡ None = ap shape.slot same ∙ out in absurd (cc))) h.row;
    single = h.single;
    in_order = h.in_order;
  }

  pub action_now : (keys : List (List ℕ)) (action : Action) (all : List StoredMessage) (s : State)
      → MayDo shape action s → Now all s
      → Now (with_action shape keys action s all) (after_action action s)
  action_now keys (Appends path piece) all s may h =
      change_now (name_at s.names path) path _ all s refl may h
  action_now keys (Writes path bytes) all s may h =
      change_now (name_at s.names path) path _ all s refl may h
  action_now keys (Puts path bytes) all s may h = ⊎_elim
      (λ (e : can_make s.names path ≡ true). subst
      (λ (b : Bool). Now (if b then with_put shape keys (shape.slot path) bytes all else all)
      (if b then with_made path bytes s else s)) (sym e)
      (put_now keys path bytes all s (shape.slot path) refl may (absent_made path s.names e) h))
      (λ (e : can_make s.names path ≡ false). subst
      (λ (b : Bool). Now (if b then with_put shape keys (shape.slot path) bytes all else all)
      (if b then with_made path bytes s else s)) (sym e) h)
      (cases_Bool (can_make s.names path))
  action_now keys (Renames from to) all s may h = ⊎_elim
      (λ (e : can_take s.names to ≡ true). subst
      (λ (b : Bool). Now (if b then with_move shape keys (name_at s.names from) (shape.slot from)
      (shape.slot to) s.files all else all)
      (if b then moved (name_at s.names from) from to s else s)) (sym e)
      (move_now keys from to all s (name_at s.names from) (shape.slot from) (shape.slot to) refl
      refl refl may.0 may.1 h))
      (λ (e : can_take s.names to ≡ false). subst
      (λ (b : Bool). Now (if b then with_move shape keys (name_at s.names from) (shape.slot from)
      (shape.slot to) s.files all else all)
      (if b then moved (name_at s.names from) from to s else s)) (sym e) h)
      (cases_Bool (can_take s.names to))
  action_now keys (Removes path) all s may h = ⊎_elim
      (λ (e : is_file (name_at s.names path) ≡ true). subst
      (λ (b : Bool). Now all (if b then with_names (without path s.names) s else s)) (sym e)
      (record {
        sound = sound_less shape.home path s h.sound;
        row = dropped_row shape all s.files s.names path (λ m in_all must at.
            let none : shape.slot path ≡ None = may in absurd (cc)) h.row;
        single = h.single;
        in_order = h.in_order;
      }))
      (λ (e : is_file (name_at s.names path) ≡ false). subst
      (λ (b : Bool). Now all (if b then with_names (without path s.names) s else s)) (sym e) h)
      (cases_Bool (is_file (name_at s.names path)))

  -- others keep it, with what they bring and take away
  pub holds_others : (keys : List (List ℕ)) (action : Action) (all : List StoredMessage) (s : State)
      → MayDo shape action s → Holds shape all s
      → Holds shape (with_action shape keys action s all) (barrier (after_action action s))
  holds_others keys action all s may h =
      then_barrier _ _ (action_now keys action all s may (now_of all s h))
