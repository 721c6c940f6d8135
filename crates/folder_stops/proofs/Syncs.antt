-- The calls of a sync, one line each.
use Rattle.std.proofs.Common.{Err, List, None, Ok, Option, Result, Some, [], ap, inl, inr, length}
use Rattle.std.proofs.Common.{refl, subst, sym, true, ℕ, ◌∙◌, ◌∷◌, ◌≡◌}
use Rattle.std.proofs.lemmas.Bool.{or_right}
use Rattle.disk_model.specs.Tree.{TreeNode}
use Rattle.disk_model.specs.Journal.{Action, Call, Create, MakeDir, Past, Remove, Rename, Sync}
use Rattle.disk_model.specs.Journal.{SyncDir, WriteAt}
use Rattle.disk_model.specs.State.{State, after_done, name_at, written}
use Rattle.disk_model.specs.Looking.{is_look}
use Rattle.disk_model.specs.Judge.{Called}
use Rattle.disk_model.specs.declared.answers.DiskError.{DiskError}
use Rattle.folder_stops.specs.Folder.{FileFolder, IsFolder, IsSide}
use Rattle.folder_stops.specs.Messages.{IsLoose, StoredMessage, loosened}
use Rattle.folder_stops.specs.Others.{MayDoTo, SparesAll, SparesPath, with_entry}
use Rattle.folder_stops.specs.Rows.{Holds}
use Rattle.folder_stops.specs.Shape.{IsWellFormed, Shape}
use Rattle.folder_stops.specs.Syncs.{KeepsHolds, SyncLeads, Syncing, Syncs}
use Rattle.folder_stops.specs.Words.{Among, has}
use Rattle.folder_stops.proofs.Along.{along_map, grown_map}
use Rattle.folder_stops.proofs.Elsewhere.{other_folder, other_made, other_moved}
use Rattle.folder_stops.proofs.Images.{stands}
use Rattle.folder_stops.proofs.Loosening.{loose_action}
use Rattle.folder_stops.proofs.Messages.{among_loosened}
use Rattle.folder_stops.proofs.Sides.{IsHeldAt, at_made, at_stable, side_changed, side_settled}
use Rattle.folder_stops.proofs.Sides.{side_torn}
use Rattle.folder_stops.proofs.Steps.{holds_barrier, holds_cleared, holds_loosened, holds_moved}
use Rattle.folder_stops.proofs.Steps.{holds_others, holds_removed}
use Rattle.folder_stops.proofs.Leading as G

pub spares_one : (side : List ℕ) (sides : List (List ℕ)) (action : Action) → Among side sides
    → SparesAll sides action → SparesPath side action
spares_one side [] action in_it spares = absurd in_it
spares_one side (first ∷ sides) action (inl is) spares =
    subst (λ (p : List ℕ). SparesPath p action) (sym is) spares.0
spares_one side (first ∷ sides) action (inr later) spares =
    spares_one side sides action later spares.1

module _ (shape : Shape) (sides keys : List (List ℕ)) where
  -- a stage of a sync: others leave it, and it holds the messages
  abbrev pub IsOwnStage : (List StoredMessage → State → Type 0) → Type 0
  IsOwnStage X = G.IsOwnStage (with_entry shape keys) (MayDoTo shape sides) (Holds shape) X

  pub joined : {X Y Z : List StoredMessage → State → Type 0} {a b c : Option Past}
      → SyncLeads shape sides keys a b X Y → SyncLeads shape sides keys b c Y Z
      → SyncLeads shape sides keys a c X Z
  joined first rest = G.then (with_entry shape keys) (MayDoTo shape sides) (Holds shape) first rest

  module _ (formed : IsWellFormed shape) where
    pub syncing_stage : IsOwnStage (Syncing shape keys)
    syncing_stage = record {
      stable = λ action all s may is. record {
        holds = holds_others shape formed keys action all s may.0 is.holds;
        loose = loose_action shape keys action s all is.loose;
      };
      good = λ all s is. is.holds;
    }

    -- nothing was done yet
    pub begun : (a : Option Past) → Syncs shape sides keys a a
    begun a = G.start (with_entry shape keys) (MayDoTo shape sides) (Holds shape) a syncing_stage

    module _ {T : Type 0} {result : Result T DiskError}
        {wanted : List TreeNode → Result T DiskError} {a b : Option Past} where
      -- a call that changes nothing
      pub looked : {call : Call} → is_look call ≡ true → Called result call wanted a b
          → Syncs shape sides keys a b
      looked look took = G.looks_on (with_entry shape keys) (MayDoTo shape sides) (Holds shape) took
          look (λ answer all s. refl) syncing_stage

      -- a message's file gets another name and keeps its key
      pub renamed : {from to key : List ℕ} → shape.slot from ≡ Some key → shape.slot to ≡ Some key
          → Called result (Rename from to) wanted a b → Syncs shape sides keys a b
      renamed {from = from} {to = to} {key = key} at_from at_to took =
          G.stays_on (with_entry shape keys) (MayDoTo shape sides) (Holds shape) took syncing_stage
          (λ all s is. record {
            holds = holds_moved shape formed (name_at s.names from) from to key all s refl at_from
                at_to is.holds;
            loose = is.loose;
          }) (λ why wrote all s is. is)

      -- a message's file that may go gets a name that no message has
      pub hidden : {from to key : List ℕ} → shape.slot from ≡ Some key → has keys key ≡ true
          → shape.slot to ≡ None → shape.home to ≡ true → Called result (Rename from to) wanted a b
          → Syncs shape sides keys a b
      hidden {from = from} {to = to} {key = key} at one_of none home took =
          G.stays_on (with_entry shape keys) (MayDoTo shape sides) (Holds shape) took syncing_stage
          (λ all s is. record {
            holds = other_moved shape formed (name_at s.names from) from to all s refl
                (formed.inside from key at ∙ sym home) none
                (λ m in_all must e. let k : m.key
                ≡ key = (let x : shape.slot from ≡ Some key = at in cc) in
                let may : m.may_go ≡ true = is.loose m in_all (ap (has keys) k ∙ one_of) in
                absurd (cc)) is.holds;
            loose = is.loose;
          }) (λ why wrote all s is. is)

      -- a message's file that may go is removed
      pub removed : {path key : List ℕ} → shape.slot path ≡ Some key → has keys key ≡ true
          → Called result (Remove path) wanted a b → Syncs shape sides keys a b
      removed {path = path} {key = key} at one_of took =
          G.stays_on (with_entry shape keys) (MayDoTo shape sides) (Holds shape) took syncing_stage
          (λ all s is. record {
            holds = holds_removed shape formed path key all s at (λ m in_all e.
                is.loose m in_all (ap (has keys) e ∙ one_of)) is.holds;
            loose = is.loose;
          })
          (λ why wrote all s is. is)

      -- a file of no message is removed
      pub cleared : {path : List ℕ} → shape.slot path ≡ None
          → Called result (Remove path) wanted a b → Syncs shape sides keys a b
      cleared {path = path} none took =
          G.stays_on (with_entry shape keys) (MayDoTo shape sides) (Holds shape) took syncing_stage
          (λ all s is. record {
            holds = holds_cleared shape formed path all s none is.holds;
            loose = is.loose;
          }) (λ why wrote all s is. is)

      -- a folder is made where no message may stand
      pub folder_made : {path : List ℕ} → shape.slot path ≡ None
          → Called result (MakeDir path) wanted a b → Syncs shape sides keys a b
      folder_made {path = path} none took =
          G.stays_on (with_entry shape keys) (MayDoTo shape sides) (Holds shape) took syncing_stage
          (λ all s is. record {
            holds = other_folder shape formed path all s none is.holds;
            loose = is.loose;
          }) (λ why wrote all s is. is)

      pub synced_dir : {dir : List ℕ} → Called result (SyncDir dir) wanted a b
          → Syncs shape sides keys a b
      synced_dir took = G.stays_on (with_entry shape keys) (MayDoTo shape sides) (Holds shape) took
          syncing_stage (λ all s is. record {
            holds = holds_barrier shape formed all s is.holds;
            loose = is.loose;
          }) (λ why wrote all s is. is)

    -- A side file that others leave alone: it is made, written, synced and put over another one.
    module _ (side : List ℕ) (fit : IsSide shape side) (among : Among side sides) where
      -- the side file is being written
      pub record Writing (all : List StoredMessage) (s : State) : Type 0 where
        pub held : IsHeldAt shape side fit.apart fit.no_root all s
        pub loose : IsLoose keys all

      pub writing_stage : IsOwnStage Writing
      writing_stage = record {
        stable = λ action all s may is. let next =
            syncing_stage.stable action all s may (record {
              holds = is.held.holds;
              loose = is.loose;
            }) in record {
              held = record {
                holds = next.holds;
                n = is.held.n;
                at = at_stable shape side fit.apart fit.no_root is.held.n action s
                    (spares_one side sides action among may.1) is.held.holds.sound next.holds.sound
                    is.held.at;
              };
              loose = next.loose;
            };
        good = λ all s is. is.held.holds;
      }

      -- it is written no more
      pub put_down : {X : List StoredMessage → State → Type 0} {a b : Option Past}
          → SyncLeads shape sides keys a b X Writing
          → SyncLeads shape sides keys a b X (Syncing shape keys)
      put_down {a = a} {b = b} leads = record {
        grown = grown_map a b _ _ leads.grown (λ s es k all allowed x. let is = k all allowed x in
            (is.0, record { holds = is.1.held.holds; loose = is.1.loose }));
      }

      moved_over : (to : List ℕ) → shape.slot to ≡ None → shape.home to ≡ true
          → (all : List StoredMessage) (s : State) → Writing all s
          → Syncing shape keys all (after_done (Rename side to) s)
      moved_over to none home all s r = record {
        holds = other_moved shape formed (name_at s.names side) side to all s refl
            (fit.inside ∙ sym home) none (λ m in_all must e.
            let no : shape.slot side ≡ None = fit.apart in cc) r.held.holds;
        loose = r.loose;
      }

      module _ {wanted : List TreeNode → Result (Unit {0}) DiskError} {a b : Option Past} where
        pub side_made : {v : Unit {0}} → Called (Ok v) (Create side) wanted a b
            → SyncLeads shape sides keys a b (Syncing shape keys) Writing
        side_made took = G.goes_on (with_entry shape keys) (MayDoTo shape sides) (Holds shape)
            (begun a) took syncing_stage writing_stage
            (λ all s r. record {
              held = record {
                holds = other_made shape formed side all s fit.apart r.holds;
                n = length s.files;
                at = at_made shape side fit.apart fit.no_root s r.holds.sound;
              };
              loose = r.loose;
            })

        pub side_not_made : {e : DiskError} → Called (Err e) (Create side) wanted a b
            → Syncs shape sides keys a b
        side_not_made took = G.stops_short (with_entry shape keys) (MayDoTo shape sides)
            (Holds shape) (begun a) took syncing_stage syncing_stage (λ all s is.
            is) (λ why wrote all s is. is)

        module _ {result : Result (Unit {0}) DiskError} where
          pub side_written : {from : ℕ} {bytes : List ℕ}
              → Called result (WriteAt side from bytes) wanted a b
              → SyncLeads shape sides keys a b Writing Writing
          side_written {from = from} {bytes = bytes} took =
              G.stays_on (with_entry shape keys) (MayDoTo shape sides) (Holds shape) took
              writing_stage
              (λ all s r. record {
                held = side_changed shape side fit.apart fit.no_root
                    (written from bytes) all s r.held;
                loose = r.loose;
              })
              (λ why wrote all s r. record {
                held = side_torn shape side fit.apart fit.no_root from bytes wrote all s r.held;
                loose = r.loose;
              })

          pub side_synced : Called result (Sync side) wanted a b
              → SyncLeads shape sides keys a b Writing Writing
          side_synced took = G.stays_on (with_entry shape keys) (MayDoTo shape sides) (Holds shape)
              took writing_stage
              (λ all s r. record {
                held = side_settled shape side fit.apart fit.no_root all s
                    r.held;
                loose = r.loose;
              })
              (λ why wrote all s r. r)

        pub side_put_over : {result : Result (Unit {0}) DiskError} {to : List ℕ} → shape.slot to
            ≡ None → shape.home to ≡ true → Called result (Rename side to) wanted a b
            → SyncLeads shape sides keys a b Writing (Syncing shape keys)
        side_put_over {result = Ok v} {to = to} none home took =
            G.goes_on (with_entry shape keys) (MayDoTo shape sides) (Holds shape)
            (G.start (with_entry shape keys) (MayDoTo shape sides) (Holds shape) a
            writing_stage) took writing_stage syncing_stage (moved_over to none home)
        side_put_over {result = Err e} none home took =
            put_down (G.stops_short (with_entry shape keys) (MayDoTo shape sides) (Holds shape)
            (G.start (with_entry shape keys) (MayDoTo shape sides) (Holds shape) a
            writing_stage) took writing_stage writing_stage (λ all s r.
            r) (λ why wrote all s r. r))

-- the first stage of a sync: those with its keys may go
pub sync_begins : (shape : Shape) → IsWellFormed shape
    → (keys : List (List ℕ)) (all : List StoredMessage) (s : State) → Holds shape all s
    → Syncing shape keys (loosened keys all) s
sync_begins shape formed keys all s holds = record {
  holds = holds_loosened shape formed keys all s holds;
  loose = λ m in_it there. let was = among_loosened keys m all in_it in
      ap (λ (y : StoredMessage). y.may_go) was.2
      ∙ or_right was.0.may_go (has keys was.0.key)
      (sym (ap (λ (y : StoredMessage). has keys y.key) was.2) ∙ there);
}

-- what a run of such calls keeps
pub kept_holds : (folder : FileFolder) (keys : List (List ℕ)) → IsFolder folder
    → {a b : Option Past} → Syncs folder.shape folder.sides keys a b → KeepsHolds folder keys a b
kept_holds folder keys is {a} {b} leads = record {
  grown = grown_map a b _ _ leads.grown (λ s es k all holds allowed.
      along_map (with_entry folder.shape keys) (Holds folder.shape) _
      (stands folder.shape is.formed folder.reads is.reading) es _ s
      (k (loosened keys all) allowed (sync_begins folder.shape is.formed keys all s holds)).0);
}
