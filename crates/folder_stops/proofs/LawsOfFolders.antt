-- The laws of folders with one file a message.
use Rattle.std.proofs.Common.{List, None, Option, Some, [], ap, inl, inr, map, refl, subst, sym}
use Rattle.std.proofs.Common.{true, ℕ, ⊎_elim, ◌&&◌, ◌∙◌, ◌∷◌, ◌≡◌}
use Rattle.std.proofs.lemmas.Bool.{and_from, and_parts, or_cases, or_left, or_right}
use Rattle.std.specs.Str.{bytes_eq}
use Rattle.disk_model.specs.Journal.{Call, Create, Cut, Done, Entry, ListDir, MakeDir, Others, Own}
use Rattle.disk_model.specs.Journal.{ReadAll, ReadFront, Refused, Remove, Rename, StatPath, Sync}
use Rattle.disk_model.specs.Journal.{SyncDir, WriteAt}
use Rattle.disk_model.specs.State.{State, after_done, after_entry, after_refused, moved, name_at}
use Rattle.disk_model.specs.State.{with_names, without}
use Rattle.disk_model.specs.declared.answers.DiskError.{DiskError}
use Rattle.folder_stops.specs.Along.{Allows, Along}
use Rattle.folder_stops.specs.Does.{AllOwn}
use Rattle.folder_stops.specs.Laws.{ElsewhereKeeps, FirstStands, HoldsStands, IsRest, IsSyncCall}
use Rattle.folder_stops.specs.Laws.{IsSyncMove, IsSyncRemoval, KeptIsRest, LooksKeep, RestIsKept}
use Rattle.folder_stops.specs.Laws.{SyncKeeps, as_read}
use Rattle.folder_stops.specs.Messages.{StoredMessage, loosened}
use Rattle.folder_stops.specs.Others.{MayDo, with_entry}
use Rattle.folder_stops.specs.Reads.{ReadMessage, is_same, kept}
use Rattle.folder_stops.specs.Rows.{Holds}
use Rattle.folder_stops.specs.Shape.{IsWellFormed, Shape}
use Rattle.folder_stops.specs.Syncs.{Syncing}
use Rattle.folder_stops.specs.Words.{has}
use Rattle.folder_stops.proofs.Along.{along_map}
use Rattle.folder_stops.proofs.Elsewhere.{holds_elsewhere, holds_quiet, other_folder, other_made}
use Rattle.folder_stops.proofs.Elsewhere.{other_moved, own_elsewhere}
use Rattle.folder_stops.proofs.First.{stands_first}
use Rattle.folder_stops.proofs.Images.{stands}
use Rattle.folder_stops.proofs.Loosening.{loose_action}
use Rattle.folder_stops.proofs.Steps.{holds_barrier, holds_cleared, holds_moved, holds_others}
use Rattle.folder_stops.proofs.Steps.{holds_removed}
use Rattle.folder_stops.proofs.Syncs.{sync_begins}
use Rattle.folder_stops.proofs.Words.{equal, same}

-- What is kept.

same_read : (m : StoredMessage) (l : ReadMessage) → is_same m l ≡ true → l ≡ as_read m
same_read m l e = let parts = and_parts (bytes_eq m.key l.key) (bytes_eq m.core l.core) e in
    λ i. record {
      key = sym (equal m.key l.key parts.0) i;
      core = sym (equal m.core l.core parts.1) i;
    }

-- what was read is all but for some that may go
abbrev IsKeptRest : List StoredMessage → List ReadMessage → Type 0
IsKeptRest all seen = (rest : List StoredMessage) × IsRest all rest × (seen ≡ map as_read rest)

skipped : (m : StoredMessage) (all : List StoredMessage) (seen : List ReadMessage) → m.may_go ≡ true
    → IsKeptRest all seen → IsKeptRest (m ∷ all) seen
skipped m all seen may is = (is.0, inr (may, is.1), is.2)

pub kept_is_rest : KeptIsRest
kept_is_rest [] [] e = ([], refl, refl)
kept_is_rest [] (l ∷ seen) e = absurd (cc)
kept_is_rest (m ∷ all) [] e =
    let parts = and_parts m.may_go (kept all []) e in
    skipped m all [] parts.0 (kept_is_rest all [] parts.1)
kept_is_rest (m ∷ all) (l ∷ seen) e = ⊎_elim {C = IsKeptRest (m ∷ all) (l ∷ seen)}
    (λ (here : (is_same m l && kept all seen) ≡ true).
    let parts = and_parts (is_same m l) (kept all seen) here in let less =
    kept_is_rest all seen parts.1 in
    (m ∷ less.0, inl (less.0, refl, less.1), λ i. same_read m l parts.0 i ∷ less.2 i))
    (λ (gone : (m.may_go && kept all (l ∷ seen)) ≡ true).
    let parts = and_parts m.may_go (kept all (l ∷ seen)) gone in
    skipped m all (l ∷ seen) parts.0 (kept_is_rest all (l ∷ seen) parts.1))
    (or_cases (is_same m l && kept all seen) (m.may_go && kept all (l ∷ seen)) e)

kept_skip : (m : StoredMessage) (all : List StoredMessage) (seen : List ReadMessage) → m.may_go
    ≡ true → kept all seen ≡ true → kept (m ∷ all) seen ≡ true
kept_skip m all [] may e = and_from m.may_go (kept all []) may e
kept_skip m all (l ∷ seen) may e =
    or_right (is_same m l && kept all seen) (m.may_go && kept all (l ∷ seen))
    (and_from m.may_go (kept all (l ∷ seen)) may e)

pub rest_is_kept : RestIsKept
rest_is_kept [] rest is =
    subst (λ (l : List StoredMessage). kept [] (map as_read l) ≡ true) (sym is) refl
rest_is_kept (m ∷ all) rest (inl some) =
    subst (λ (l : List StoredMessage). kept (m ∷ all) (map as_read l) ≡ true) (sym some.1)
    (or_left (is_same m (as_read m) && kept all (map as_read some.0))
    (m.may_go && kept all (as_read m ∷ map as_read some.0))
    (and_from (is_same m (as_read m)) (kept all (map as_read some.0))
    (and_from (bytes_eq m.key m.key) (bytes_eq m.core m.core) (same m.key) (same m.core))
    (rest_is_kept all some.0 some.2)))
rest_is_kept (m ∷ all) rest (inr gone) =
    kept_skip m all (map as_read rest) gone.0 (rest_is_kept all rest gone.1)

pub holds_stands : HoldsStands
holds_stands folder all state tree is holds image =
    (stands folder.shape is.formed folder.reads is.reading all state holds).images tree image

-- At the first mark, and elsewhere.

pub first_stands : FirstStands
first_stands folder tree is good once =
    stands_first folder.shape is.formed folder.reads is.reading tree good once

pub elsewhere_keeps : ElsewhereKeeps
elsewhere_keeps folder entries all state is holds elsewhere allowed =
    along_map (with_entry folder.shape []) (Holds folder.shape) _
    (stands folder.shape is.formed folder.reads is.reading) entries all state
    (holds_elsewhere folder.shape is.formed [] entries all state elsewhere allowed holds)

pub looks_keep : LooksKeep
looks_keep folder entries all state is holds look allowed =
    along_map (with_entry folder.shape []) (Holds folder.shape) _
    (stands folder.shape is.formed folder.reads is.reading) entries all state
    (holds_quiet folder.shape is.formed [] entries all state look allowed holds)

-- A sync.

module _ (shape : Shape) (formed : IsWellFormed shape) (keys : List (List ℕ)) where
  moved_in : (a b : Option (List ℕ)) (from to : List ℕ) (all : List StoredMessage) (s : State)
      → shape.slot from ≡ a → shape.slot to ≡ b → shape.home from ≡ shape.home to
      → IsSyncMove keys a b → Syncing shape keys all s
      → Holds shape all (moved (name_at s.names from) from to s)
  moved_in None b from to all s at_from at_to home move is =
      other_moved shape formed (name_at s.names from) from to all s refl home (at_to ∙ move)
      (λ m in_all must e. let none : shape.slot from ≡ None = at_from in cc) is.holds
  moved_in (Some key) b from to all s at_from at_to home (inl keeps) is =
      holds_moved shape formed (name_at s.names from) from to key all s refl at_from (at_to ∙ keeps)
      is.holds
  moved_in (Some key) b from to all s at_from at_to home (inr hides) is =
      other_moved shape formed (name_at s.names from) from to all s refl home (at_to ∙ hides.0)
      (λ m in_all must e. let k : m.key ≡ key = (let x : shape.slot from ≡ Some key = at_from in
      cc) in let may : m.may_go ≡ true = is.loose m in_all (ap (has keys) k ∙ hides.1) in
      cc) is.holds

  removed_in : (a : Option (List ℕ)) (path : List ℕ) (all : List StoredMessage) (s : State)
      → shape.slot path ≡ a → IsSyncRemoval keys a → Syncing shape keys all s
      → Holds shape all (with_names (without path s.names) s)
  removed_in None path all s at removal is = holds_cleared shape formed path all s at is.holds
  removed_in (Some key) path all s at removal is =
      holds_removed shape formed path key all s at (λ m in_all e.
      is.loose m in_all (ap (has keys) e ∙ removal)) is.holds

  done_in : (call : Call) (all : List StoredMessage) (s : State) → IsSyncCall shape keys call
      → Syncing shape keys all s → Holds shape all (after_done call s)
  done_in (ListDir dir) all s call is = is.holds
  done_in (StatPath path) all s call is = is.holds
  done_in (ReadFront path size) all s call is = is.holds
  done_in (ReadAll path limit) all s call is = is.holds
  done_in (Create path) all s call is = other_made shape formed path all s call is.holds
  done_in (WriteAt path at piece) all s call is =
      own_elsewhere shape formed (WriteAt path at piece) Done all s call is.holds
  done_in (Cut path size) all s call is =
      own_elsewhere shape formed (Cut path size) Done all s call is.holds
  done_in (Sync path) all s call is =
      own_elsewhere shape formed (Sync path) Done all s call is.holds
  done_in (Rename from to) all s call is =
      moved_in (shape.slot from) (shape.slot to) from to all s refl refl call.0 call.1 is
  done_in (Remove path) all s call is = removed_in (shape.slot path) path all s refl call is
  done_in (SyncDir dir) all s call is = holds_barrier shape formed all s is.holds
  done_in (MakeDir path) all s call is = other_folder shape formed path all s call is.holds

  refused_in : (call : Call) (why : DiskError) (wrote : ℕ) (all : List StoredMessage) (s : State)
      → IsSyncCall shape keys call → Holds shape all s
      → Holds shape all (after_refused call wrote s)
  refused_in (ListDir dir) why wrote all s call h = h
  refused_in (StatPath path) why wrote all s call h = h
  refused_in (ReadFront path size) why wrote all s call h = h
  refused_in (ReadAll path limit) why wrote all s call h = h
  refused_in (Create path) why wrote all s call h = h
  refused_in (WriteAt path at piece) why wrote all s call h =
      own_elsewhere shape formed (WriteAt path at piece) (Refused why wrote) all s
      (λ changed. call) h
  refused_in (Cut path size) why wrote all s call h = h
  refused_in (Sync path) why wrote all s call h = h
  refused_in (Rename from to) why wrote all s call h = h
  refused_in (Remove path) why wrote all s call h = h
  refused_in (SyncDir dir) why wrote all s call h = h
  refused_in (MakeDir path) why wrote all s call h = h

  pub sync_along : (entries : List Entry) (all : List StoredMessage) (s : State)
      → AllOwn (λ call answer. IsSyncCall shape keys call) entries → Allows (MayDo shape) entries s
      → Syncing shape keys all s → Along (with_entry shape keys) (Holds shape) entries all s
  sync_along [] all s calls may is = is.holds
  sync_along (Own call Done ∷ entries) all s calls may is = (
    is.holds,
    sync_along entries all (after_done call s) calls.1 may (record {
      holds = done_in call all s calls.0 is;
      loose = is.loose;
    }),
  )
  sync_along (Own call (Refused why wrote) ∷ entries) all s calls may is = (
    is.holds,
    sync_along entries all (after_refused call wrote s) calls.1 may (record {
      holds = refused_in call why wrote all s calls.0 is.holds;
      loose = is.loose;
    }),
  )
  sync_along (Others action ∷ entries) all s calls may is = (
    is.holds,
    sync_along entries _ (after_entry s (Others action)) calls may.1 (record {
      holds = holds_others shape formed keys action all s may.0 is.holds;
      loose = loose_action shape keys action s all is.loose;
    }),
  )

pub sync_keeps : SyncKeeps
sync_keeps folder keys entries all state is holds calls allowed =
    along_map (with_entry folder.shape keys) (Holds folder.shape) _
    (stands folder.shape is.formed folder.reads is.reading) entries (loosened keys all) state
    (sync_along folder.shape is.formed keys entries (loosened keys all) state calls allowed
    (sync_begins folder.shape is.formed keys all state holds))
