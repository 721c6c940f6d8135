-- A file beside the messages: what others leave of it, and what its writing leaves of them.
use Rattle.std.proofs.Common.{Bool, List, None, Option, Some, [], ap, arith, false}
use Rattle.std.proofs.Common.{get_or-set_other, if◌then◌else◌, inl, length, refl, slice_set, subst}
use Rattle.std.proofs.Common.{sym, take, true, ℕ, ⊎_elim, ◌+◌, ◌==◌, ◌∙◌, ◌∷◌, ◌≡◌, ◌≢◌}
use Rattle.std.proofs.lemmas.Bool.{cases_Bool, cond-false, cond-true}
use Rattle.std.specs.Str.{bytes_eq}
use Rattle.disk_model.specs.Tree.{is_root}
use Rattle.disk_model.specs.Journal.{Action, Appends, Puts, Removes, Renames, WriteAt, Writes}
use Rattle.disk_model.specs.State.{File, Name, State, after_action, after_refused, barrier}
use Rattle.disk_model.specs.State.{can_make, can_take, changed, durable, file_at, is_file, moved}
use Rattle.disk_model.specs.State.{name_at, name_in, settled, synced, with_made, without, written}
use Rattle.folder_stops.specs.Messages.{StoredMessage}
use Rattle.folder_stops.specs.Others.{SparesPath}
use Rattle.folder_stops.specs.Rows.{Holds, IsOfKey, Sound}
use Rattle.folder_stops.specs.Shape.{Shape}
use Rattle.folder_stops.specs.Words.{Among}
use Rattle.folder_stops.proofs.Rows.{files_row, named}
use Rattle.folder_stops.proofs.Sounds.{file_before, sound_set, with_file_at}
use Rattle.folder_stops.proofs.Words.{among_without, apart, equal, found, same}

-- a name at another path
name_other : (x : Name) (names : List Name) (path : List ℕ) → x.path ≢ path
    → name_at (x ∷ names) path ≡ name_at names path
name_other x names path ne =
    ap (λ (o : Option (Option ℕ)). if is_root path then Some None else o)
    (cond-false (bytes_eq x.path path) _ _ (apart x.path path ne))

step_without : (x : Name) (p path : List ℕ) (names : List Name) → p ≢ path
    → name_in (without p names) path ≡ name_in names path → name_in (without p (x ∷ names)) path
    ≡ name_in (x ∷ names) path
step_without x p path names ne rest = ⊎_elim
    (λ (e : bytes_eq x.path p ≡ true). ap (λ (l : List Name). name_in l path)
    (cond-true (bytes_eq x.path p) _ _ e) ∙ rest
    ∙ sym (cond-false (bytes_eq x.path path) _ _
    (apart x.path path (λ at. ne (sym (equal x.path p e) ∙ at)))))
    (λ (e : bytes_eq x.path p ≡ false). ap (λ (l : List Name). name_in l path)
    (cond-false (bytes_eq x.path p) _ _ e)
    ∙ ap (λ (o : Option (Option ℕ)). if bytes_eq x.path path then Some x.file else o) rest)
    (cases_Bool (bytes_eq x.path p))

in_without : (p path : List ℕ) (names : List Name) → p ≢ path → name_in (without p names) path
    ≡ name_in names path
in_without p path [] ne = refl
in_without p path (x ∷ names) ne = step_without x p path names ne (in_without p path names ne)

pub name_without : (p path : List ℕ) (names : List Name) → p ≢ path → name_at (without p names) path
    ≡ name_at names path
name_without p path names ne =
    ap (λ (o : Option (Option ℕ)). if is_root path then Some None else o)
    (in_without p path names ne)

module _ (path : List ℕ) where
  -- the path has the same file, of the same bytes
  pub record IsSameAt (s t : State) : Type 0 where
    pub name : name_at t.names path ≡ name_at s.names path
    pub file : (n : ℕ) → name_at s.names path ≡ Some (Some n) → file_at t.files n
        ≡ file_at s.files n

  pub same_changed : (home : List ℕ → Bool) (at : Option (Option ℕ)) (p : List ℕ)
      (change : ℕ → File → File) (s : State) → name_at s.names p ≡ at → p ≢ path → Sound home s
      → IsSameAt s (changed at change s)
  same_changed home None p change s is ne sound = record { name = refl; file = λ n e. refl }
  same_changed home (Some None) p change s is ne sound = record { name = refl; file = λ n e. refl }
  same_changed home (Some (Some k)) p change s is ne sound = record {
    name = refl;
    file = λ n e. get_or-set_other s.files k n (change s.clock (file_at s.files k)) (durable [] 0)
        (λ eq. ne (sound.shared (named p k) (named path n) n (found p s.names k is)
        (found path s.names n e) (ap Some (sym eq)) refl));
  }

  pub same_moved : (at : Option (Option ℕ)) (from to : List ℕ) (s : State) → from ≢ path → to ≢ path
      → IsSameAt s (moved at from to s)
  same_moved None from to s ne ne' = record { name = refl; file = λ n e. refl }
  same_moved (Some None) from to s ne ne' = record { name = refl; file = λ n e. refl }
  same_moved (Some (Some k)) from to s ne ne' = record {
    name = name_other (named to k) (without to (without from s.names)) path ne'
        ∙ name_without to path (without from s.names) ne' ∙ name_without from path s.names ne;
    file = λ n e. refl;
  }

  pub same_made : (home : List ℕ → Bool) (p bytes : List ℕ) (s : State) → p ≢ path → Sound home s
      → IsSameAt s (with_made p bytes s)
  same_made home p bytes s ne sound = record {
    name = name_other (named p (length s.files)) s.names path ne;
    file = λ n e. file_before s.files (durable bytes s.clock) n
        (sound.below s.names (named path n) n (inl refl) (found path s.names n e) refl);
  }

  pub same_if : (b : Bool) (s x y : State) → IsSameAt s x → IsSameAt s y
      → IsSameAt s (if b then x else y)
  same_if true s x y e f = e
  same_if false s x y e f = f

  pub same_none : (s : State) → IsSameAt s s
  same_none s = record { name = refl; file = λ n e. refl }

pub spared : (home : List ℕ → Bool) (path : List ℕ) (action : Action) (s : State)
    → SparesPath path action → Sound home s → IsSameAt path s (after_action action s)
spared home path (Appends at piece) s ne sound =
    same_changed path home (name_at s.names at) at _ s refl ne sound
spared home path (Writes at bytes) s ne sound =
    same_changed path home (name_at s.names at) at _ s refl ne sound
spared home path (Puts at bytes) s ne sound =
    same_if path (can_make s.names at) s _ _ (same_made path home at bytes s ne sound)
    (same_none path s)
spared home path (Renames from to) s ne sound =
    same_if path (can_take s.names to) s _ _
    (same_moved path (name_at s.names from) from to s ne.0 ne.1) (same_none path s)
spared home path (Removes at) s ne sound =
    same_if path (is_file (name_at s.names at)) s _ _ (record {
      name = name_without at path s.names ne;
      file = λ n e. refl;
    }) (same_none path s)

-- The file beside is there under this number, which no name has but its own.
pub record IsAt (path : List ℕ) (n : ℕ) (s : State) : Type 0 where
  pub at : name_at s.names path ≡ Some (Some n)
  pub only : (row : List Name) (x : Name) → Among row (s.names ∷ s.earlier) → Among x row → x.file
      ≡ Some n → x.path ≡ path

-- it stays there while another file is made or moved

pub at_past_made : (home : List ℕ → Bool) (path p : List ℕ) (n : ℕ) (s : State) → p ≢ path
    → Sound home s → IsAt path n s → IsAt path n (with_made p [] s)
at_past_made home path p n s ne sound at = record {
  at = (same_made path home p [] s ne sound).name ∙ at.at;
  only = λ row x in_rows in_row file. ⊎_elim {C = x.path ≡ path}
      (λ (is : row ≡ named p (length s.files) ∷ s.names). ⊎_elim {C = x.path ≡ path}
      (λ (new : x ≡ named p (length s.files)).
      let number : length s.files ≡ n =
      (let e : x.file ≡ Some (length s.files) = ap (λ (y : Name). y.file) new in cc) in
      let lt = sound.below s.names (named path n) n (inl refl) (found path s.names n at.at) refl in
      absurd (omega (arith, number, lt)))
      (λ (old : Among x s.names). at.only s.names x (inl refl) old file)
      (subst (Among x) is in_row))
      (λ (was : Among row (s.names ∷ s.earlier)). at.only row x was in_row file)
      in_rows;
}

pub at_past_moved : (path from to : List ℕ) (n m : ℕ) (s : State) → from ≢ path → to ≢ path
    → (m ≡ n → ⊥) → IsAt path n s → IsAt path n (moved (Some (Some m)) from to s)
at_past_moved path from to n m s ne ne' other at = record {
  at = (same_moved path (Some (Some m)) from to s ne ne').name ∙ at.at;
  only = λ row x in_rows in_row file. ⊎_elim {C = x.path ≡ path}
      (λ (is : row ≡ named to m ∷ without to (without from s.names)). ⊎_elim {C = x.path ≡ path}
      (λ (new : x ≡ named to m). absurd
      (other (let e : x.file ≡ Some m = ap (λ (y : Name). y.file) new in cc)))
      (λ (later : Among x (without to (without from s.names))). at.only s.names x (inl refl)
      (among_without x from s.names (among_without x to (without from s.names) later).0).0 file)
      (subst (Among x) is in_row))
      (λ (was : Among row (s.names ∷ s.earlier)). at.only row x was in_row file)
      in_rows;
}

module _ (shape : Shape) (path : List ℕ) (apart : shape.slot path ≡ None)
    (no_root : is_root path ≡ false) where
  pub at_stable : (n : ℕ) (action : Action) (s : State) → SparesPath path action
      → Sound shape.home s → Sound shape.home (barrier (after_action action s)) → IsAt path n s
      → IsAt path n (barrier (after_action action s))
  at_stable n action s spares sound sound' at =
      let is = (spared shape.home path action s spares sound).name ∙ at.at in
      record {
        at = is;
        only = λ row x in_rows in_row file. ⊎_elim
            (λ (e : row ≡ (after_action action s).names). sound'.shared x (named path n) n
            (subst (Among x) e in_row) (found path _ n is) file refl)
            (λ (no : ⊥). absurd no)
            in_rows;
      }

  pub at_made : (s : State) → Sound shape.home s → IsAt path (length s.files) (with_made path [] s)
  at_made s sound = record {
    at = cond-false (is_root path) _ _ no_root ∙ cond-true (bytes_eq path path) _ _ (same path);
    only = λ row x in_rows in_row file. ⊎_elim {C = x.path ≡ path}
        (λ (is : row ≡ named path (length s.files) ∷ s.names). ⊎_elim {C = x.path ≡ path}
        (λ (new : x ≡ named path (length s.files)). ap (λ (y : Name). y.path) new)
        (λ (old : Among x s.names). absurd
        (let lt = sound.below s.names x (length s.files) (inl refl) old file in omega arith))
        (subst (Among x) is in_row))
        (λ (was : Among row (s.names ∷ s.earlier)). absurd
        (let lt = sound.below row x (length s.files) was in_row file in omega arith))
        in_rows;
  }

  -- another content leaves it there, and leaves the messages
  pub at_set : (n : ℕ) (file : File) (clock' : ℕ) (s : State) → IsAt path n s
      → IsAt path n (with_file_at n file clock' s)
  at_set n file clock' s at = record { at = at.at; only = at.only }

  -- no message's file has its number
  pub other_number : (row : List Name) (x : Name) (key : List ℕ) (k n : ℕ) (file : File) (s : State)
      → IsAt path n s → Among row (s.names ∷ s.earlier) → Among x row → IsOfKey shape x key k
      → file_at (slice_set s.files n file) k ≡ file_at s.files k
  other_number row x key k n file s at in_rows in_it of_key =
      get_or-set_other s.files n k file (durable [] 0)
      (λ e. let is : x.path ≡ path = at.only row x in_rows in_it (of_key.1 ∙ ap Some e) in
      let none : shape.slot x.path ≡ None = ap shape.slot is ∙ apart in let some : shape.slot x.path
      ≡ Some key = of_key.0 in absurd (cc))

  pub holds_set : (n : ℕ) (file : File) (clock' : ℕ) (all : List StoredMessage) (s : State)
      → IsAt path n s → Holds shape all s → Holds shape all (with_file_at n file clock' s)
  holds_set n file clock' all s at h = record {
    sound = sound_set shape.home n file clock' s h.sound;
    rows = λ row in_rows. files_row shape all s.files (slice_set s.files n file) row
        (λ x key k in_it of_key. other_number row x key k n file s at in_rows in_it of_key)
        (h.rows row in_rows);
    single = h.single;
    in_order = h.in_order;
  }

  -- the stage of a side file that is there
  pub record IsHeldAt (all : List StoredMessage) (s : State) : Type 0 where
    pub holds : Holds shape all s
    pub n : ℕ
    pub at : IsAt path n s

  pub side_changed : (change : ℕ → File → File) (all : List StoredMessage) (s : State)
      → IsHeldAt all s → IsHeldAt all (changed (name_at s.names path) change s)
  side_changed change all s is =
      subst (λ (o : Option (Option ℕ)). IsHeldAt all (changed o change s)) (sym is.at.at)
      (record {
        holds = holds_set is.n (change s.clock (file_at s.files is.n)) (s.clock + 1) all s
            is.at is.holds;
        n = is.n;
        at = at_set is.n (change s.clock (file_at s.files is.n)) (s.clock + 1) s is.at;
      })

  pub side_settled : (all : List StoredMessage) (s : State) → IsHeldAt all s
      → IsHeldAt all (settled (name_at s.names path) s)
  side_settled all s is =
      subst (λ (o : Option (Option ℕ)). IsHeldAt all (settled o s)) (sym is.at.at)
      (record {
        holds = holds_set is.n (synced (file_at s.files is.n)) s.clock all s is.at is.holds;
        n = is.n;
        at = at_set is.n (synced (file_at s.files is.n)) s.clock s is.at;
      })

  -- a write that was refused
  pub side_torn : (from : ℕ) (bytes : List ℕ) (wrote : ℕ) (all : List StoredMessage) (s : State)
      → IsHeldAt all s → IsHeldAt all (after_refused (WriteAt path from bytes) wrote s)
  side_torn from bytes wrote all s is = ⊎_elim
      (λ (e : (wrote == 0) ≡ true). subst (IsHeldAt all) (sym (cond-true (wrote == 0) _ _ e)) is)
      (λ (e : (wrote == 0) ≡ false). subst (IsHeldAt all) (sym (cond-false (wrote == 0) _ _ e))
      (side_changed (written from (take wrote bytes)) all s is))
      (cases_Bool (wrote == 0))
