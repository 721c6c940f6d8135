-- A side file that is written while an item's file waits beside its place.
use Rattle.std.proofs.Common.{List, None, Ok, Option, Result, Some, [], ap, false, get_or-set_other}
use Rattle.std.proofs.Common.{inl, length, refl, slice_set, subst, sym, take, true, ℕ, ⊎_elim, ◌+◌}
use Rattle.std.proofs.Common.{◌==◌, ◌∙◌, ◌≡◌, ◌≢◌}
use Rattle.std.proofs.lemmas.Bool.{cases_Bool, cond-false, cond-true}
use Rattle.std.specs.Str.{bytes_eq}
use Rattle.disk_model.specs.Tree.{TreeNode}
use Rattle.disk_model.specs.Journal.{Create, Past, Rename, Sync, WriteAt}
use Rattle.disk_model.specs.State.{File, State, after_done, after_refused, changed, durable}
use Rattle.disk_model.specs.State.{file_at, moved, name_at, settled, synced, with_made, written}
use Rattle.disk_model.specs.Judge.{Called}
use Rattle.disk_model.specs.declared.answers.DiskError.{DiskError}
use Rattle.folder_stops.specs.Appends.{AddLeads, HoldsBeside, IsFit, MayDoBeside, NewItem, adding}
use Rattle.folder_stops.specs.Appends.{but_for}
use Rattle.folder_stops.specs.Folder.{IsSide}
use Rattle.folder_stops.specs.Messages.{StoredMessage}
use Rattle.folder_stops.specs.Shape.{IsWellFormed, Shape}
use Rattle.folder_stops.specs.Words.{Among}
use Rattle.folder_stops.proofs.Elsewhere.{other_made, other_moved}
use Rattle.folder_stops.proofs.Rows.{named}
use Rattle.folder_stops.proofs.Sides.{IsAt, at_made, at_past_made, at_past_moved, at_set, at_stable}
use Rattle.folder_stops.proofs.Sides.{holds_set, other_number}
use Rattle.folder_stops.proofs.Sounds.{file_before, with_file_at}
use Rattle.folder_stops.proofs.Syncs.{spares_one}
use Rattle.folder_stops.proofs.Words.{apart, found}
use Rattle.folder_stops.proofs.Sparing as P
use Rattle.folder_stops.proofs.Leading as G
use Rattle.folder_stops.proofs.Additions as A
use Rattle.folder_stops.proofs.Appends as H

module _ (shape : Shape) (sides : List (List ℕ)) (item : NewItem) (formed : IsWellFormed shape)
    (fit : IsFit shape item) (side : List ℕ) (side_fit : IsSide shape side)
    (among : Among side sides) (other : side ≢ item.beside) where
  -- The side file is there, and the item's file has Q.
  pub record Waiting (Q : File → Type 0) (all : List StoredMessage) (s : State) : Type 0 where
    pub made : A.Made shape sides item formed fit Q all s
    pub number : ℕ
    pub at : IsAt side number s

  pub waiting_stage : (Q : File → Type 0) → H.IsOwnStage shape sides item (Waiting Q)
  waiting_stage Q = record {
    stable = λ action all s may w. let next =
        A.made_stable shape sides item formed fit Q action all s may w.made in record {
          made = next;
          number = w.number;
          at = at_stable shape side side_fit.apart side_fit.no_root w.number action s
              (spares_one side sides action among may.0.1) w.made.ready.holds.sound
              next.ready.holds.sound w.at;
        };
    good = λ all s w. w.made.ready.holds;
  }

  no_key : shape.slot side ≢ Some item.key
  no_key e = let none : shape.slot side ≡ None = side_fit.apart in cc

  -- the two files have two numbers
  two_numbers : (Q : File → Type 0) (all : List StoredMessage) (s : State) (w : Waiting Q all s)
      → w.number ≡ w.made.n → ⊥
  two_numbers Q all s w e =
      other (w.made.at.only s.names (named side w.number) (inl refl)
      (found side s.names w.number w.at.at) (ap Some e))

  pub side_made : (Q : File → Type 0) (all : List StoredMessage) (s : State)
      → A.Made shape sides item formed fit Q all s → Waiting Q all (with_made side [] s)
  side_made Q all s m = record {
    made = record {
      ready = record {
        holds = other_made shape formed side (but_for item all) s side_fit.apart m.ready.holds;
        single = m.ready.single;
        among = m.ready.among;
        vacant = P.vacant_made shape item side [] s no_key m.ready.holds.sound
            m.ready.vacant;
      };
      n = m.n;
      at = at_past_made shape.home item.beside side m.n s other m.ready.holds.sound m.at;
      has_it = subst Q (sym
          (file_before s.files (durable [] s.clock) m.n
          (m.ready.holds.sound.below s.names (named item.beside m.n) m.n (inl refl)
          (found item.beside s.names m.n m.at.at) refl))) m.has_it;
    };
    number = length s.files;
    at = at_made shape side side_fit.apart side_fit.no_root s m.ready.holds.sound;
  }

  -- the side file gets another content
  side_set : (Q : File → Type 0) (file : File) (clock' : ℕ) (all : List StoredMessage) (s : State)
      (w : Waiting Q all s) → Waiting Q all (with_file_at w.number file clock' s)
  side_set Q file clock' all s w = record {
    made = record {
      ready = record {
        holds = holds_set shape side side_fit.apart side_fit.no_root w.number file clock'
            (but_for item all) s w.at w.made.ready.holds;
        single = w.made.ready.single;
        among = w.made.ready.among;
        vacant = P.vacant_files shape item s (slice_set s.files w.number file)
            clock'
            (λ x k in_it of_key. other_number shape side side_fit.apart side_fit.no_root s.names x
            item.key k w.number file s w.at (inl refl) in_it of_key) w.made.ready.vacant;
      };
      n = w.made.n;
      at = record { at = w.made.at.at; only = w.made.at.only };
      has_it = subst Q (sym (get_or-set_other s.files w.number w.made.n file (durable [] 0) (λ e.
          two_numbers Q all s w (sym e)))) w.made.has_it;
    };
    number = w.number;
    at = at_set shape side side_fit.apart side_fit.no_root w.number file clock' s w.at;
  }

  side_changed : (Q : File → Type 0) (change : ℕ → File → File) (all : List StoredMessage)
      (s : State) → Waiting Q all s → Waiting Q all (changed (name_at s.names side) change s)
  side_changed Q change all s w =
      subst (λ (o : Option (Option ℕ)). Waiting Q all (changed o change s)) (sym w.at.at)
      (side_set Q (change s.clock (file_at s.files w.number)) (s.clock + 1) all s w)

  side_settled : (Q : File → Type 0) (all : List StoredMessage) (s : State) → Waiting Q all s
      → Waiting Q all (settled (name_at s.names side) s)
  side_settled Q all s w =
      subst (λ (o : Option (Option ℕ)). Waiting Q all (settled o s)) (sym w.at.at)
      (side_set Q (synced (file_at s.files w.number)) s.clock all s w)

  side_torn : (Q : File → Type 0) (from : ℕ) (bytes : List ℕ) (wrote : ℕ) (all : List StoredMessage)
      (s : State) → Waiting Q all s
      → Waiting Q all (after_refused (WriteAt side from bytes) wrote s)
  side_torn Q from bytes wrote all s w = ⊎_elim
      (λ (e : (wrote == 0) ≡ true). subst (Waiting Q all) (sym (cond-true (wrote == 0) _ _ e)) w)
      (λ (e : (wrote == 0) ≡ false). subst (Waiting Q all) (sym (cond-false (wrote == 0) _ _ e))
      (side_changed Q (written from (take wrote bytes)) all s w))
      (cases_Bool (wrote == 0))

  side_moved : (Q : File → Type 0) (to : List ℕ) (all : List StoredMessage) (s : State)
      → shape.slot to ≡ None → shape.home to ≡ true → to ≢ item.beside → Waiting Q all s
      → A.Made shape sides item formed fit Q all (after_done (Rename side to) s)
  side_moved Q to all s none home apart_to w =
      subst (λ (o : Option (Option ℕ)). A.Made shape sides item formed fit Q all
      (moved o side to s)) (sym w.at.at) (record {
        ready = record {
          holds = other_moved shape formed (Some (Some w.number)) side to (but_for item all) s
              w.at.at
              (side_fit.inside ∙ sym home) none (λ m in_all must e.
              let no : shape.slot side ≡ None = side_fit.apart in cc) w.made.ready.holds;
          single = w.made.ready.single;
          among = w.made.ready.among;
          vacant = P.vacant_moved shape item (Some (Some w.number)) side to s
              w.at.at
              (λ n is e. let no : shape.slot to ≡ None = none in cc) w.made.ready.vacant;
        };
        n = w.made.n;
        at = at_past_moved item.beside side to w.made.n w.number s other apart_to
            (two_numbers Q all s w) w.made.at;
        has_it = w.made.has_it;
      })

  -- it is written no more
  pub put_down : {Q : File → Type 0} {a b : Option Past} {X : List StoredMessage → State → Type 0}
      → AddLeads shape sides item a b X (Waiting Q)
      → AddLeads shape sides item a b X (H.Made shape sides item formed fit Q)
  put_down leads = H.weakened shape sides item (λ all s w. w.made) leads

  -- The calls, one line each.

  module _ {Q : File → Type 0} {wanted : List TreeNode → Result (Unit {0}) DiskError}
      {a b : Option Past} where
    pub made_while : {v : Unit {0}} → bytes_eq side item.made ≡ false
        → Called (Ok v) (Create side) wanted a b
        → AddLeads shape sides item a b (H.Made shape sides item formed fit Q) (Waiting Q)
    made_while apart took =
        G.goes_on (adding shape item) (MayDoBeside shape sides item) (HoldsBeside shape item)
        (H.begun shape sides item a (H.made_stage shape sides item formed fit Q)) took
        (H.made_stage shape sides item formed fit Q) (waiting_stage Q)
        (λ all s m. subst (λ (l : List StoredMessage). Waiting Q l (after_done (Create side) s))
        (sym (cond-false (bytes_eq side item.made) _ _ apart)) (side_made Q all s m))

    module _ {result : Result (Unit {0}) DiskError} where
      pub written_while : {from : ℕ} {bytes : List ℕ}
          → Called result (WriteAt side from bytes) wanted a b
          → AddLeads shape sides item a b (Waiting Q) (Waiting Q)
      written_while {from = from} {bytes = bytes} took =
          G.stays_on (adding shape item) (MayDoBeside shape sides item) (HoldsBeside shape item)
          took (waiting_stage Q)
          (side_changed Q (written from bytes)) (λ why wrote all s w.
          side_torn Q from bytes wrote all s w)

      pub synced_while : Called result (Sync side) wanted a b
          → AddLeads shape sides item a b (Waiting Q) (Waiting Q)
      synced_while took = G.stays_on (adding shape item) (MayDoBeside shape sides item)
          (HoldsBeside shape item) took (waiting_stage Q)
          (side_settled Q) (λ why wrote all s w. w)

    pub put_over_while : {v : Unit {0}} {to : List ℕ} → shape.slot to ≡ None → shape.home to ≡ true
        → to ≢ item.beside → Called (Ok v) (Rename side to) wanted a b
        → AddLeads shape sides item a b (Waiting Q) (H.Made shape sides item formed fit Q)
    put_over_while {to = to} none home apart_to took =
        G.goes_on (adding shape item) (MayDoBeside shape sides item) (HoldsBeside shape item)
        (H.begun shape sides item a (waiting_stage Q)) took (waiting_stage Q)
        (H.made_stage shape sides item formed fit Q)
        (λ all s w. side_moved Q to all s none home apart_to w)
