-- The stage of an append before its first file is made, and the making of it.
use Rattle.std.proofs.Common.{Bool, List, None, Some, [], ap, false, inl, length, refl, subst, sym}
use Rattle.std.proofs.Common.{true, ℕ, ⊎_elim, ◌++◌, ◌||◌, ◌∙◌, ◌∷◌, ◌≡◌}
use Rattle.std.specs.Str.{bytes_eq}
use Rattle.disk_model.specs.Journal.{Action, MakeDir, Remove}
use Rattle.disk_model.specs.State.{Name, State, after_action, after_done, barrier, durable, file_at}
use Rattle.disk_model.specs.State.{with_folder, with_made, with_names, without}
use Rattle.folder_stops.specs.Appends.{IsFit, IsFree, IsVacant, MayDoBeside, NewItem, Opening}
use Rattle.folder_stops.specs.Appends.{message}
use Rattle.folder_stops.specs.Messages.{StoredMessage, loosened, with_message}
use Rattle.folder_stops.specs.Others.{with_action}
use Rattle.folder_stops.specs.Rows.{Holds, IsBlank, IsDurable, IsUnused, Row}
use Rattle.folder_stops.specs.Shape.{IsWellFormed, Shape}
use Rattle.folder_stops.specs.Words.{Among}
use Rattle.folder_stops.proofs.Elsewhere.{other_folder}
use Rattle.folder_stops.proofs.Messages.{among_loosened, among_with, loosened_among, order_loosened}
use Rattle.folder_stops.proofs.Messages.{order_with, single_loosened, single_with, with_new}
use Rattle.folder_stops.proofs.Messages.{with_old}
use Rattle.folder_stops.proofs.Rows.{IsAbsent, blank_row, files_row, loosened_row, more_row, named}
use Rattle.folder_stops.proofs.Sounds.{file_before, sound_made}
use Rattle.folder_stops.proofs.Steps.{file_last, holds_cleared, holds_others, is_durable}
use Rattle.folder_stops.proofs.Words.{among_without, same}
use Rattle.folder_stops.proofs.Additions as A
use Rattle.folder_stops.proofs.Sparing as P

module _ (shape : Shape) (sides : List (List ℕ)) (item : NewItem) (formed : IsWellFormed shape)
    (fit : IsFit shape item) where
  -- the item's key
  abbrev keys : List (List ℕ)
  keys = item.key ∷ []

  -- before the item has its name
  abbrev Ready : List StoredMessage → State → Type 0
  Ready all s = A.Ready shape sides item formed fit all s

  -- the item is added to the messages, and may go
  pub ready_start : (all : List StoredMessage) (s : State) → Holds shape all s
      → IsUnused shape item.key s.names → Ready (with_message shape.before (message item) all) s
  ready_start all s h unused =
      let single = single_with shape.before (message item) all (λ n in_all must must' e.
      let at = (h.rows s.names (inl refl)).present n in_all must' in
      unused at.0 at.1 at.2 (at.3.0 ∙ ap Some (sym e), at.3.1)) h.single in
      record {
        holds = record {
          sound = h.sound;
          rows = λ row in_rows.
              more_row shape (loosened keys all)
              (loosened keys (with_message shape.before (message item) all)) s.files row
              (λ m in_all. let was = among_loosened keys m all in_all in
              subst (λ (y : StoredMessage). Among y
              (loosened keys (with_message shape.before (message item) all))) (sym was.2)
              (loosened_among keys was.0 (with_message shape.before (message item) all)
              (with_old shape.before was.0 (message item) all was.1)))
              (λ m in_more must. let was = among_loosened keys m
              (with_message shape.before (message item) all) in_more in ⊎_elim
              (λ (is : was.0 ≡ message item).
              let may : m.may_go ≡ true = ap (λ (y : StoredMessage). y.may_go) was.2
              ∙ ap (λ (y : StoredMessage). y.may_go || (bytes_eq item.key y.key || false)) is
              ∙ ap (λ (b : Bool). b || false) (same item.key) in absurd (cc))
              (λ (old : Among was.0 all). subst
              (λ (y : StoredMessage). Among y (loosened keys all)) (sym was.2)
              (loosened_among keys was.0 all old))
              (among_with shape.before was.0 (message item) all was.1))
              (loosened_row shape keys all s.files row (h.rows row in_rows));
          single = single_loosened keys _ single;
          in_order = order_loosened shape.before keys _
              (order_with shape.before formed.order (message item) all h.in_order);
        };
        single = single;
        among = with_new shape.before (message item) all;
        vacant = λ x n in_it of_key. absurd (unused x n in_it of_key);
      }

  free_less : (tells : Bool) (names' : List Name) (s : State)
      → ((x : Name) → Among x names' → Among x s.names) → IsFree tells shape item.key s
      → IsFree tells shape item.key (with_names names' s)
  free_less true names' s fewer free = tt
  free_less false names' s fewer free = λ x n in_it. free x n (fewer x in_it)

  free_plain : (tells : Bool) (path : List ℕ) (s : State) → shape.slot path ≡ None
      → IsFree tells shape item.key s → IsFree tells shape item.key (with_folder path s)
  free_plain true path s none free = tt
  free_plain false path s none free = λ x n in_it of_key. ⊎_elim {C = ⊥}
      (λ (is : x ≡ record { path = path; file = None }).
      let e : x.file ≡ None = ap (λ (y : Name). y.file) is in let f : x.file ≡ Some n =
      of_key.1 in cc)
      (λ (later : Among x s.names). free x n later of_key)
      in_it

  free_action : (tells : Bool) (action : Action) (all : List StoredMessage) (s : State)
      → MayDoBeside shape sides item action s → IsFree tells shape item.key s
      → IsFree tells shape item.key (barrier (after_action action s))
  free_action true action all s may free = tt
  free_action false action all s may free =
      let vacant : IsVacant shape item s = λ x n in_it of_key. absurd (free x n in_it of_key) in
      P.unused_action shape item action s may.0.0 (may.1 vacant) free

  -- before it begins, a file of no message is removed, or a folder made
  pub opening_cleared : (tells : Bool) (path : List ℕ) (all : List StoredMessage) (s : State)
      → shape.slot path ≡ None → Opening shape tells item all s
      → Opening shape tells item all (after_done (Remove path) s)
  opening_cleared tells path all s none o = record {
    holds = holds_cleared shape formed path all s none o.holds;
    free = free_less tells (without path s.names) s (λ x in_it.
        (among_without x path s.names in_it).0) o.free;
  }

  pub opening_folder : (tells : Bool) (path : List ℕ) (all : List StoredMessage) (s : State)
      → shape.slot path ≡ None → Opening shape tells item all s
      → Opening shape tells item all (after_done (MakeDir path) s)
  opening_folder tells path all s none o = record {
    holds = other_folder shape formed path all s none o.holds;
    free = free_plain tells path s none o.free;
  }

  pub opening_stable : (tells : Bool) (action : Action) (all : List StoredMessage) (s : State)
      → MayDoBeside shape sides item action s → Opening shape tells item all s
      → Opening shape tells item (with_action shape [] action s all)
      (barrier (after_action action s))
  opening_stable tells action all s may o =
      record {
        holds = holds_others shape formed [] action all s may.0.0 o.holds;
        free = free_action tells action all s may o.free;
      }

  -- an empty file holds the place
  pub open_place : shape.slot item.place ≡ Some item.key → shape.counts [] ≡ false
      → (all : List StoredMessage) (s : State) → Ready all s → IsUnused shape item.key s.names
      → IsAbsent item.place s.names → Ready all (with_made item.place [] s)
  open_place at blank all s r unused free =
      let files' = s.files ++ durable [] s.clock ∷ [] in
      let lasts : IsDurable [] (file_at files' (length s.files)) =
      subst (IsDurable []) (sym (file_last s.files (durable [] s.clock)))
      (is_durable [] s.clock) in
      let grown = λ (row : List Name) (in_rows : Among row (s.names ∷ s.earlier)). files_row shape
      (loosened keys all) s.files files' row
      (λ x key n in_it of_key.
      file_before s.files (durable [] s.clock) n
      (r.holds.sound.below row x n in_rows in_it of_key.1)) (r.holds.rows row in_rows) in
      record {
        holds = record {
          sound = sound_made shape.home item.place [] s r.holds.sound;
          rows = λ row in_rows. ⊎_elim
              (λ (is : row ≡ named item.place (length s.files) ∷ s.names). subst
              (Row shape (loosened keys all) files') (sym is)
              (blank_row shape (loosened keys all) files' s.names item.place item.key
              (length s.files) at unused free ([], lasts, blank)
              (grown s.names (inl refl))))
              (λ (was : Among row (s.names ∷ s.earlier)). grown row was)
              in_rows;
          single = r.holds.single;
          in_order = r.holds.in_order;
        };
        single = r.single;
        among = r.among;
        vacant = λ x n in_it of_key. ⊎_elim {C = (x.path ≡ item.place) × IsBlank shape files' n}
            (λ (is : x ≡ named item.place (length s.files)).
            let number : length s.files ≡ n =
            (let e : x.file ≡ Some (length s.files) = ap (λ (y : Name). y.file) is in
            let f : x.file ≡ Some n = of_key.1 in cc) in (
              ap (λ (y : Name). y.path) is,
              subst (IsBlank shape files') number ([], lasts, blank),
            ))
            (λ (later : Among x s.names). absurd (unused x n later of_key))
            in_it;
      }
