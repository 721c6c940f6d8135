-- The stage of an append in which the item has its name.
use Rattle.std.proofs.Common.{List, None, Option, Some, [], ap, inl, inr, refl, subst, sym, ℕ}
use Rattle.std.proofs.Common.{⊎_elim, ◌∙◌, ◌∷◌, ◌≡◌, ◌≢◌}
use Rattle.disk_model.specs.Journal.{Action, Rename}
use Rattle.disk_model.specs.State.{File, Name, State, after_action, after_done, barrier, file_at}
use Rattle.disk_model.specs.State.{moved, with_names, without}
use Rattle.folder_stops.specs.Appends.{HoldsBeside, IsFit, MayDoBeside, NewItem, message}
use Rattle.folder_stops.specs.Messages.{IsSingle, StoredMessage, loosen, loosened}
use Rattle.folder_stops.specs.Others.{with_action}
use Rattle.folder_stops.specs.Rows.{Holds, IsDurable, IsKnown, IsOfKey, IsPresent, Row}
use Rattle.folder_stops.specs.Shape.{IsWellFormed, Shape}
use Rattle.folder_stops.specs.Words.{Among}
use Rattle.folder_stops.proofs.Loosening.{single_same}
use Rattle.folder_stops.proofs.Messages.{loosened_among, order_back}
use Rattle.folder_stops.proofs.Rows.{alone_with, known_tight, loosened_row, named}
use Rattle.folder_stops.proofs.Sounds.{sound_moved}
use Rattle.folder_stops.proofs.Steps.{Now, action_now, holds_loosened, holds_push, now_of}
use Rattle.folder_stops.proofs.Steps.{then_barrier}
use Rattle.folder_stops.proofs.Words.{among_without, cases_path, found, without_among}
use Rattle.folder_stops.proofs.Additions as A
use Rattle.folder_stops.proofs.Arrivals as R

module _ (shape : Shape) (sides : List (List ℕ)) (item : NewItem) (formed : IsWellFormed shape)
    (fit : IsFit shape item) where
  -- the item's key
  abbrev keys : List (List ℕ)
  keys = item.key ∷ []

  -- the file beside is there, and has Q
  abbrev Made : (File → Type 0) → List StoredMessage → State → Type 0
  Made Q all s = A.Made shape sides item formed fit Q all s

  -- The item has its name now, though a stop may leave the names from before.
  pub record Named (all : List StoredMessage) (s : State) : Type 0 where
    pub holds : HoldsBeside shape item all s
    pub now : Now shape formed all s

  added_row : (all : List StoredMessage) (files : List File) (names : List Name) (to : List ℕ)
      (n : ℕ) → shape.slot to ≡ Some item.key → IsDurable item.core (file_at files n)
      → ((x : Name) (k : ℕ) → Among x names → IsOfKey shape x item.key k → x.path ≡ to)
      → IsSingle all → Among (message item) all
      → Row shape (loosened keys all) files names
      → Row shape all files (named to n ∷ without to (without item.beside names))
  added_row all files names to n at lasts only single among row =
      record {
        known = λ x k j in_it of_key. ⊎_elim {C = IsKnown shape all files k j}
            (λ (is : x ≡ named to n).
            let key : item.key ≡ k =
            (let a : shape.slot x.path ≡ shape.slot to = ap (λ (y : Name). shape.slot y.path)
            is in let b : shape.slot x.path ≡ Some k = of_key.0 in
            let c : shape.slot to ≡ Some item.key = at in cc) in
            let number : n ≡ j = (let a : x.file ≡ Some n = ap (λ (y : Name). y.file) is in
            let b : x.file ≡ Some j = of_key.1 in cc) in
            inr (
              message item,
              among,
              key,
              subst (λ (i : ℕ). IsDurable item.core (file_at files i)) number lasts,
            ))
            (λ (later : Among x (without to (without item.beside names))).
            known_tight shape keys all files k j (row.known x k j (old x later) of_key))
            in_it;
        once = λ x y k i j in_x in_y at_x at_y. ⊎_elim
            (λ (is : x ≡ named to n). ⊎_elim
            (λ (is' : y ≡ named to n). is ∙ sym is')
            (λ (later : Among y (without to (without item.beside names))). absurd
            (not_both x y k i j is later at_x at_y))
            in_y)
            (λ (later : Among x (without to (without item.beside names))). ⊎_elim
            (λ (is' : y ≡ named to n). absurd (not_both y x k j i is' later at_y at_x))
            (λ (later' : Among y (without to (without item.beside names))). row.once x y k i j
            (old x later) (old y later') at_x at_y)
            in_y)
            in_x;
        alone = alone_with shape (without to (without item.beside names)) to (Some n) (λ y later.
            (among_without y to (without item.beside names) later).1) (λ x y k i in_x in_y.
            row.alone x y k i (old x in_x) (old y in_y));
        present = λ m in_all must.
            ⊎_elim {C = IsPresent shape files
            (named to n ∷ without to (without item.beside names)) m}
            (λ (e : m.key ≡ item.key).
            let is : m ≡ message item =
            single_same all m (message item) single in_all among must refl e in (
              named to n,
              n,
              inl refl,
              (at ∙ ap Some (sym e), refl),
              subst (λ (l : List ℕ). IsDurable l (file_at files n))
                  (sym (ap (λ (y : StoredMessage). y.core) is)) lasts,
              ap (λ (y : StoredMessage). shape.counts y.core) is ∙ fit.counts,
            ))
            (λ (ne : m.key ≢ item.key).
            let was = row.present (loosen keys m) (loosened_among keys m all in_all)
            (R.still_must shape item m must ne) in (
              was.0,
              was.1,
              inr (without_among was.0 to (without item.beside names)
                  (without_among was.0 item.beside names was.2
                  (λ e. let none : shape.slot was.0.path ≡ None = ap shape.slot e
                  ∙ fit.side.apart in
                  let some : shape.slot was.0.path ≡ Some m.key = was.3.0 in absurd (cc)))
                  (λ e. let a : shape.slot was.0.path ≡ shape.slot to = ap shape.slot e in
                  let b : shape.slot was.0.path ≡ Some m.key = was.3.0 in
                  let c : shape.slot to ≡ Some item.key = at in ne (cc))),
              was.3,
              was.4,
              was.5,
            ))
            (cases_path m.key item.key);
      }
    where
      old : (x : Name) → Among x (without to (without item.beside names)) → Among x names
      old x later = (among_without x item.beside names
          (among_without x to (without item.beside names) later).0).0

      not_both : (x y : Name) (k : List ℕ) (i j : ℕ) → x ≡ named to n
          → Among y (without to (without item.beside names)) → IsOfKey shape x k i
          → IsOfKey shape y k j → ⊥
      not_both x y k i j is later at_x at_y =
          let a : shape.slot x.path ≡ shape.slot to = ap (λ (z : Name). shape.slot z.path) is in
          let b : shape.slot x.path ≡ Some k = at_x.0 in
          (among_without y to (without item.beside names) later).1
          (only y j (old y later) (at_y.0 ∙ sym b ∙ a ∙ at, at_y.1))

  pub name_beside : (to : List ℕ) (all : List StoredMessage) (s : State) → to ≡ item.place
      → shape.slot to ≡ Some item.key → Made (IsDurable item.core) all s
      → Named all (after_done (Rename item.beside to) s)
  name_beside to all s is_place at m =
      subst (λ (o : Option (Option ℕ)). Named all (moved o item.beside to s)) (sym m.at.at) there
    where
      names' : List Name
      names' = named to m.n ∷ without to (without item.beside s.names)

      there : Named all (with_names (named to m.n ∷ without to (without item.beside s.names)) s)
      there =
          let sound = sound_moved shape.home item.beside to m.n s
          (found item.beside s.names m.n m.at.at)
          (fit.side.inside ∙ sym (formed.inside to item.key at)) m.ready.holds.sound in
          let row = added_row all s.files s.names to m.n at m.has_it (λ x k in_it of_key.
          (m.ready.vacant x k in_it of_key).0 ∙ sym is_place) m.ready.single m.ready.among
          (m.ready.holds.rows s.names (inl refl)) in
          record {
            holds = holds_push shape formed (loosened keys all) s
                (named to m.n ∷ without to (without item.beside s.names)) sound
                (loosened_row shape keys all s.files _ row) m.ready.holds;
            now = record {
              sound = sound;
              row = row;
              single = m.ready.single;
              in_order = order_back shape.before keys all m.ready.holds.in_order;
            };
          }

  pub named_stable : (action : Action) (all : List StoredMessage) (s : State)
      → MayDoBeside shape sides item action s → Named all s
      → Named (with_action shape [] action s all) (barrier (after_action action s))
  named_stable action all s may h =
      let holds = then_barrier shape formed _ _
      (action_now shape formed [] action all s may.0.0 h.now) in
      record {
        holds = holds_loosened shape formed keys _ _ holds;
        now = now_of shape formed _ _ holds;
      }

  pub keep_names : (all : List StoredMessage) (s : State) → Named all s
      → Holds shape all (barrier s)
  keep_names all s h = then_barrier shape formed all s h.now
