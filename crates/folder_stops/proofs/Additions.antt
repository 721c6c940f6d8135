-- The stages of an append before the item has its name, and what calls and others leave of them.
use Rattle.std.proofs.Common.{List, None, Option, Some, [], ap, drop, false, get_or-set_same, inl}
use Rattle.std.proofs.Common.{length, refl, slice_set, subst, sym, take, true, ℕ, ⊎_elim, ◌++◌, ◌+◌}
use Rattle.std.proofs.Common.{◌==◌, ◌∙◌, ◌∷◌, ◌≡◌}
use Rattle.std.proofs.lemmas.Bool.{cases_Bool, cond-false, cond-true}
use Rattle.std.proofs.lemmas.List.{append-nil}
use Rattle.std.proofs.Math.Seq.{drop-nil}
use Rattle.disk_model.specs.Journal.{Action, Remove, Sync, WriteAt}
use Rattle.disk_model.specs.State.{File, Name, State, after_action, after_done, after_refused}
use Rattle.disk_model.specs.State.{barrier, changed, durable, file_at, name_at, settled, synced}
use Rattle.disk_model.specs.State.{with_made, written}
use Rattle.folder_stops.specs.Appends.{HoldsBeside, IsFit, IsVacant, MayDoBeside, NewItem, but_for}
use Rattle.folder_stops.specs.Appends.{message}
use Rattle.folder_stops.specs.Messages.{IsSingle, StoredMessage, loosened}
use Rattle.folder_stops.specs.Others.{MayDo, with_action}
use Rattle.folder_stops.specs.Rows.{Holds, IsDurable, Row}
use Rattle.folder_stops.specs.Shape.{IsWellFormed, Shape}
use Rattle.folder_stops.specs.Words.{Among}
use Rattle.folder_stops.proofs.Loosening.{loosened_action}
use Rattle.folder_stops.proofs.Rows.{files_row, named, plain_row}
use Rattle.folder_stops.proofs.Sides.{IsAt, at_made, at_set, at_stable, holds_set, other_number}
use Rattle.folder_stops.proofs.Sides.{spared}
use Rattle.folder_stops.proofs.Sounds.{file_before, sound_made, with_file_at}
use Rattle.folder_stops.proofs.Steps.{file_last, holds_cleared, holds_others, holds_removed}
use Rattle.folder_stops.proofs.Steps.{is_durable}
use Rattle.folder_stops.proofs.Words.{among_without, found}
use Rattle.folder_stops.proofs.Sparing as P
use Rattle.folder_stops.proofs.Arrivals as R

module _ (shape : Shape) (sides : List (List ℕ)) (item : NewItem) (formed : IsWellFormed shape)
    (fit : IsFit shape item) where
  -- the item's key
  abbrev keys : List (List ℕ)
  keys = item.key ∷ []

  -- The stage before the item has its name.
  pub record Ready (all : List StoredMessage) (s : State) : Type 0 where
    pub holds : HoldsBeside shape item all s
    pub single : IsSingle all
    pub among : Among (message item) all
    pub vacant : IsVacant shape item s

  holds_beside_others : (action : Action) (all : List StoredMessage) (s : State)
      → MayDo shape action s → HoldsBeside shape item all s
      → HoldsBeside shape item (with_action shape [] action s all)
      (barrier (after_action action s))
  holds_beside_others action all s may h =
      subst (λ (l : List StoredMessage). Holds shape l (barrier (after_action action s)))
      (sym (loosened_action shape keys action s all))
      (holds_others shape formed keys action (loosened keys all) s may h)

  pub ready_stable : (action : Action) (all : List StoredMessage) (s : State)
      → MayDoBeside shape sides item action s → Ready all s
      → Ready (with_action shape [] action s all) (barrier (after_action action s))
  ready_stable action all s may r =
      let spares = may.1 r.vacant in
      record {
        holds = holds_beside_others action all s may.0.0 r.holds;
        single = R.single_action shape item action all s may.0.0 spares r.vacant r.holds r.single;
        among = P.among_action shape item action s all spares r.vacant r.among;
        vacant = P.vacant_action shape item action s may.0.0 spares r.holds.sound r.vacant;
      }

  -- The file beside is there, and has Q.
  pub record Made (Q : File → Type 0) (all : List StoredMessage) (s : State) : Type 0 where
    pub ready : Ready all s
    pub n : ℕ
    pub at : IsAt item.beside n s
    pub has_it : Q (file_at s.files n)

  pub made_stable : (Q : File → Type 0) (action : Action) (all : List StoredMessage) (s : State)
      → MayDoBeside shape sides item action s → Made Q all s
      → Made Q (with_action shape [] action s all) (barrier (after_action action s))
  made_stable Q action all s may m =
      let ready = ready_stable action all s may m.ready in
      let spares = P.spares_beside shape item action (may.1 m.ready.vacant) in
      record {
        ready = ready;
        n = m.n;
        at = at_stable shape item.beside fit.side.apart fit.side.no_root m.n action s spares
            m.ready.holds.sound ready.holds.sound m.at;
        has_it = subst Q (sym
            ((spared shape.home item.beside action s spares m.ready.holds.sound).file m.n
            m.at.at)) m.has_it;
      }

  -- the file beside is made
  pub create_beside : (all : List StoredMessage) (s : State) → Ready all s
      → Made (λ file. file.bytes ≡ []) all (with_made item.beside [] s)
  create_beside all s r =
      let files' = s.files ++ durable [] s.clock ∷ [] in
      let grown = λ (row : List Name) (in_rows : Among row (s.names ∷ s.earlier)). files_row shape
      (loosened keys all) s.files files' row
      (λ x key n in_it of_key.
      file_before s.files (durable [] s.clock) n
      (r.holds.sound.below row x n in_rows in_it of_key.1)) (r.holds.rows row in_rows) in
      record {
        ready = record {
          holds = record {
            sound = sound_made shape.home item.beside [] s r.holds.sound;
            rows = λ row in_rows. ⊎_elim
                (λ (is : row ≡ named item.beside (length s.files) ∷ s.names). subst
                (Row shape (loosened keys all) files') (sym is)
                (plain_row shape (loosened keys all) files' s.names item.beside
                (Some (length s.files)) fit.side.apart (grown s.names (inl refl))))
                (λ (was : Among row (s.names ∷ s.earlier)). grown row was)
                in_rows;
            single = r.holds.single;
            in_order = r.holds.in_order;
          };
          single = r.single;
          among = r.among;
          vacant = P.vacant_made shape item item.beside [] s (λ e.
              let no : shape.slot item.beside ≡ None = fit.side.apart in
              cc) r.holds.sound r.vacant;
        };
        n = length s.files;
        at = at_made shape item.beside fit.side.apart fit.side.no_root s r.holds.sound;
        has_it = ap (λ (f : File). f.bytes) (file_last s.files (durable [] s.clock));
      }

  -- the file beside gets another content
  set_beside : (Q R : File → Type 0) (file : File) (clock' : ℕ) (all : List StoredMessage)
      (s : State) (m : Made Q all s) → R file → Made R all (with_file_at m.n file clock' s)
  set_beside Q R file clock' all s m is = record {
    ready = record {
      holds = holds_set shape item.beside fit.side.apart fit.side.no_root m.n file clock'
          (but_for item all) s m.at m.ready.holds;
      single = m.ready.single;
      among = m.ready.among;
      vacant = P.vacant_files shape item s (slice_set s.files m.n file) clock'
          (λ x k in_it of_key. other_number shape item.beside fit.side.apart fit.side.no_root
          s.names x item.key k m.n file s m.at (inl refl) in_it of_key) m.ready.vacant;
    };
    n = m.n;
    at = at_set shape item.beside fit.side.apart fit.side.no_root m.n file clock' s m.at;
    has_it = subst R (sym (get_or-set_same s.files m.n file (durable [] 0)
        (m.ready.holds.sound.below s.names (named item.beside m.n) m.n (inl refl)
        (found item.beside s.names m.n m.at.at) refl))) is;
  }

  change_beside : (Q R : File → Type 0) (change : ℕ → File → File)
      → ((stamp : ℕ) (file : File) → Q file → R (change stamp file))
      → (all : List StoredMessage) (s : State) → Made Q all s
      → Made R all (changed (name_at s.names item.beside) change s)
  change_beside Q R change gives all s m =
      subst (λ (o : Option (Option ℕ)). Made R all (changed o change s)) (sym m.at.at)
      (set_beside Q R (change s.clock (file_at s.files m.n)) (s.clock + 1) all s m
      (gives s.clock (file_at s.files m.n) m.has_it))

  -- a write that was refused
  pub torn : (Q : File → Type 0) (from : ℕ) (bytes : List ℕ) (wrote : ℕ)
      (all : List StoredMessage) (s : State) → Made Q all s
      → Ready all (after_refused (WriteAt item.beside from bytes) wrote s)
  torn Q from bytes wrote all s m = ⊎_elim
      (λ (e : (wrote == 0) ≡ true). subst (Ready all) (sym (cond-true (wrote == 0) _ _ e))
      m.ready)
      (λ (e : (wrote == 0) ≡ false). subst (Ready all) (sym (cond-false (wrote == 0) _ _ e))
      (change_beside Q (λ file. Unit {0}) (written from (take wrote bytes)) (λ stamp file q.
      tt) all s m).ready)
      (cases_Bool (wrote == 0))

  pub write_beside : (all : List StoredMessage) (s : State) → Made (λ file. file.bytes ≡ []) all s
      → Made (λ file. file.bytes ≡ item.core) all (after_done (WriteAt item.beside 0 item.core) s)
  write_beside all s m =
      change_beside (λ file. file.bytes ≡ []) (λ file. file.bytes ≡ item.core)
      (written 0 item.core)
      (λ stamp file empty. ap
      (λ (l : List ℕ). (take 0 (l ++ []) ++ item.core) ++ drop (0 + length item.core) l) empty
      ∙ ap (λ (l : List ℕ). item.core ++ l) (drop-nil (0 + length item.core))
      ∙ append-nil item.core) all s m

  pub sync_beside : (all : List StoredMessage) (s : State)
      → Made (λ file. file.bytes ≡ item.core) all s
      → Made (IsDurable item.core) all (after_done (Sync item.beside) s)
  sync_beside all s m =
      subst (λ (o : Option (Option ℕ)). Made (IsDurable item.core) all (settled o s))
      (sym m.at.at)
      (set_beside (λ file. file.bytes ≡ item.core) (IsDurable item.core)
      (synced (file_at s.files m.n)) s.clock all s m
      (subst (λ (l : List ℕ). IsDurable item.core (durable l (file_at s.files m.n).stamp))
      (sym m.has_it) (is_durable item.core (file_at s.files m.n).stamp)))

  -- the file beside is removed
  pub clear_beside : (all : List StoredMessage) (s : State) → Ready all s
      → Ready all (after_done (Remove item.beside) s)
  clear_beside all s r = record {
    holds = holds_cleared shape formed item.beside (but_for item all) s fit.side.apart r.holds;
    single = r.single;
    among = r.among;
    vacant = λ x k in_it. r.vacant x k (among_without x item.beside s.names in_it).0;
  }

  -- and so is what holds the item's place
  pub clear_place : shape.slot item.place ≡ Some item.key → (all : List StoredMessage) (s : State)
      → Ready all s → Ready all (after_done (Remove item.place) s)
  clear_place at all s r = record {
    holds = holds_removed shape formed item.place item.key (but_for item all) s at
        (R.loose_key shape item all)
        r.holds;
    single = r.single;
    among = r.among;
    vacant = λ x k in_it. r.vacant x k (among_without x item.place s.names in_it).0;
  }
