-- The stages of an append to an MH folder, call by call.
use Rattle.std.proofs.Common.{◌≡◌, ◌≢◌, ◌∙◌, ◌∷◌, [], List, None, Option, Result, Some, Err, ap}
use Rattle.std.proofs.Common.{inl, inr, refl, subst, sym, true, false, ℕ}
use Rattle.std.specs.Prelude.{codes}
use Rattle.std.specs.Fmt.{decimal}
use Rattle.std.specs.Str.{bytes_eq}
use Rattle.std.specs.String.{string_bytes}
use Rattle.mail_base.specs.declared.flags.Flags.{Flags}
use Rattle.disk_model.specs.Tree.{TreeNode}
use Rattle.disk_model.specs.Journal.{Call, Create, Done, Past, Rename}
use Rattle.disk_model.specs.Journal.{WriteAt}
use Rattle.disk_model.specs.Judge.{Called}
use Rattle.disk_model.specs.State.{State, after_refused}
use Rattle.disk_model.specs.declared.answers.DiskError.{DiskError}
use Rattle.folder_drivers.specs.MhNames.{new_sequences_path}
use Rattle.folder_shapes.specs.Mh.{mh_files, mh_shape, number_in}
use Rattle.folder_shapes.proofs.MhLemmas.{an_mh_folder, mh_formed, one_place}
use Rattle.folder_stops.specs.Appends.{AddLeads, AddedSome, AddsSome, IsFit, IsItemOf, MakesIn}
use Rattle.folder_stops.specs.Appends.{NewItem, Opening}
use Rattle.folder_stops.specs.Does.{Does, IsWithin, MakesAt}
use Rattle.folder_stops.specs.Folder.{IsSide}
use Rattle.folder_stops.specs.Messages.{StoredMessage}
use Rattle.folder_stops.specs.Rows.{Holds, IsDurable}
use Rattle.folder_stops.specs.Shape.{IsWellFormed}
use Rattle.folder_stops.specs.Words.{Among}
use Rattle.folder_stops.proofs.Does.{does_call, does_refused, does_then}
use Rattle.folder_stops.proofs.Words.{same}
use Rattle.folder_stops.proofs.Appends as H
use Rattle.folder_stops.proofs.Waiting as W
use Rattle.mh_appends.specs.Placing.{IsPlaced}
use Rattle.folder_changes.specs.declared.sync_error.SyncError.{SyncError}
use Rattle.mh_appends.specs.Putting.{FailsFilling, FailsNaming, FailsSequences, Filled}
use Rattle.mh_appends.specs.Putting.{NamedMessage}
use Rattle.mh_appends.specs.Putting.{PutSequences}
use Rattle.mh_appends.specs.Replacing.{FailsReplacing, FailsWriting, FoundFile, Replaced, WasDone}
use Rattle.mh_appends.specs.Replacing.{WasNotDone, WroteFile}
use Rattle.mh_appends.specs.declared.places.Places.{Places}
use Rattle.mh_appends.proofs.Paths.{apart_number, is_home, item_fits}
use Rattle.mh_appends.proofs.Paths.{number_slot, sequences_apart, sequences_differ, sequences_side}
use Rattle.mh_appends.proofs.Paths.{sides_differ}

module _ (path core : List ℕ) (places : Places) (is : IsPlaced path places core) where
  abbrev held_at : List ℕ
  held_at = string_bytes places.held

  abbrev beside_at : List ℕ
  beside_at = string_bytes places.beside

  abbrev side_at : List ℕ
  side_at = string_bytes places.side

  abbrev sequences_there : List ℕ
  sequences_there = string_bytes places.sequences

  abbrev pub item : NewItem
  item = record {
    key = decimal places.number;
    core = core;
    beside = string_bytes places.beside;
    place = string_bytes places.held;
    made = string_bytes places.held;
  }

  abbrev sides : List (List ℕ)
  sides = new_sequences_path path ∷ []

  pub at_place : (mh_shape path).slot held_at ≡ Some (decimal places.number)
  at_place = ap (mh_shape path).slot is.of.held
      ∙ number_slot path (decimal places.number) is.numbered

  pub is_item : IsItemOf (mh_files path) core item
  is_item = record {
    core_is = refl;
    making_is = at_place;
    place_is = at_place;
    beside_is = is.of.beside;
  }

  pub fit : IsFit (mh_shape path) item
  fit = item_fits path core is.counts item is_item

  pub formed : IsWellFormed (mh_shape path)
  formed = mh_formed path

  side_fit : IsSide (mh_shape path) side_at
  side_fit = subst (IsSide (mh_shape path)) (sym is.of.side) (sequences_side path)

  side_in : Among side_at sides
  side_in = inl is.of.side

  two_sides : side_at ≢ beside_at
  two_sides e = sides_differ path (sym is.of.side ∙ e ∙ is.of.beside)

  beside_made : bytes_eq beside_at held_at ≡ false
  beside_made = (λ i. bytes_eq (is.of.beside i) (is.of.held i))
      ∙ apart_number path (decimal places.number) (codes ".mutt_append") is.numbered refl

  side_made : bytes_eq side_at held_at ≡ false
  side_made = (λ i. bytes_eq (is.of.side i) (is.of.held i))
      ∙ apart_number path (decimal places.number) (codes ".mh_sequences.new") is.numbered refl

  only_place : (q : List ℕ) → (mh_shape path).slot q ≡ Some (decimal places.number) → q ≡ held_at
  only_place q e = one_place path q (decimal places.number) e ∙ sym is.of.held

  no_message : (mh_shape path).slot sequences_there ≡ None
  no_message = ap (mh_shape path).slot is.of.sequences ∙ sequences_apart path

  in_folder : (mh_shape path).home sequences_there ≡ true
  in_folder = ap (mh_shape path).home is.of.sequences ∙ is_home path (codes ".mh_sequences")

  not_beside : sequences_there ≢ beside_at
  not_beside e = sequences_differ path (sym is.of.sequences ∙ e ∙ is.of.beside)

  held_home : (mh_shape path).home held_at ≡ true
  held_home = formed.inside held_at (decimal places.number) at_place

  -- The stages.

  abbrev Readied : List StoredMessage → State → Type 0
  Readied all s = H.Readied (mh_shape path) sides item formed fit all s

  abbrev Lasting : List StoredMessage → State → Type 0
  Lasting all s = H.Lasting (mh_shape path) sides item formed fit all s

  abbrev Waits : List StoredMessage → State → Type 0
  Waits all s = W.Waiting (mh_shape path) sides item formed fit side_at side_fit side_in two_sides
      (IsDurable core) all s

  abbrev Named : List StoredMessage → State → Type 0
  Named all s = H.Named (mh_shape path) sides item formed fit all s

  -- The message began, and this is so of its file.
  pub record HasBegun (Y : List StoredMessage → State → Type 0) (a b : Option Past) : Type 0 where
    pub makes : MakesIn held_at a b
    pub does : Does (mh_shape path).home (number_in path) (Some held_at) a b
    pub leads : AddLeads (mh_shape path) sides item a b (Opening (mh_shape path) true item) Y

  pub may_be_added : {Y : List StoredMessage → State → Type 0} {a b : Option Past} → HasBegun Y a b
      → AddsSome (mh_files path) core a b
  may_be_added begun = H.some_added (mh_files path) (an_mh_folder path) core item is_item
      begun.makes begun.does begun.leads

  pub was_added : {a b : Option Past} → HasBegun (Holds (mh_shape path)) a b
      → AddedSome (mh_files path) core a b
  was_added begun = H.item_added (mh_files path) (an_mh_folder path) core item is_item begun.makes
      begun.does begun.leads

  -- one more call
  further : {Y Z : List StoredMessage → State → Type 0} {T : Type 0} {result : Result T DiskError}
      {call : Call} {wanted : List TreeNode → Result T DiskError} {a b c : Option Past}
      → IsWithin (mh_shape path).home call
      → MakesAt (number_in path) (Some held_at) Done call → HasBegun Y a b
      → Called result call wanted b c → AddLeads (mh_shape path) sides item b c Y Z
      → HasBegun Z a c
  further within makes begun took leads = record {
    makes = H.makes_then begun.makes took;
    does = does_then (mh_shape path).home (number_in path) (Some held_at) begun.does
        (does_call (mh_shape path).home (number_in path) (Some held_at) took within makes);
    leads = H.joined (mh_shape path) sides item begun.leads leads;
  }

  -- a call that is refused and changes nothing
  stays : {Y : List StoredMessage → State → Type 0} {call : Call} {why : DiskError}
      {a b c : Option Past}
      → H.IsOwnStage (mh_shape path) sides item Y
      → ((wrote : ℕ) (s : State) → after_refused call wrote s ≡ s)
      → IsWithin (mh_shape path).home call → MakesAt (number_in path) (Some held_at) Done call
      → HasBegun Y a b → WasNotDone why call b c → HasBegun Y a c
  stays stage unchanged within makes begun not =
      further within makes begun not
      (H.not_done (mh_shape path) sides item stage unchanged not)

  durable_stage : H.IsOwnStage (mh_shape path) sides item Lasting
  durable_stage = H.made_stage (mh_shape path) sides item formed fit (IsDurable core)

  pub begun : {a b : Option Past} → WasDone (Create held_at) a b → HasBegun Readied a b
  begun took = record {
    makes = H.made_in took;
    does = does_call (mh_shape path).home (number_in path) (Some held_at) took held_home
        (inr refl);
    leads = H.held (mh_shape path) sides item formed fit {tells = true} (same held_at) only_place
        at_place refl took;
  }

  beside_apart : MakesAt (number_in path) (Some held_at) Done (Create beside_at)
  beside_apart = inl (fit.side.apart)

  side_apart : MakesAt (number_in path) (Some held_at) Done (Create side_at)
  side_apart = inl (side_fit.apart)

  module _ {a b c : Option Past} where
    -- the message is written beside
    pub written : HasBegun Readied a b → WroteFile beside_at core b c → HasBegun Lasting a c
    written so_far wrote =
        let made = further fit.side.inside beside_apart so_far wrote.creates
        (H.made_beside (mh_shape path) sides item formed fit beside_made wrote.creates) in
        let filled = further fit.side.inside tt made wrote.writes
        (H.was_written (mh_shape path) sides item formed fit wrote.writes) in
        further fit.side.inside tt filled wrote.syncs
        (H.was_synced (mh_shape path) sides item formed fit wrote.syncs)

    pub not_written : {why : DiskError} → HasBegun Readied a b
        → FailsWriting beside_at core why b c
        → AddsSome (mh_files path) core a c
    not_written so_far (inl not) = may_be_added
        (stays (H.ready_stage (mh_shape path) sides item formed fit) (λ wrote s. refl)
        fit.side.inside beside_apart so_far not)
    not_written so_far (inr (inl not)) =
        let made = further fit.side.inside beside_apart so_far not.creates
        (H.made_beside (mh_shape path) sides item formed fit beside_made not.creates) in
        may_be_added (further fit.side.inside tt made not.fails
        (H.not_written (mh_shape path) sides item formed fit not.fails))
    not_written so_far (inr (inr not)) =
        let made = further fit.side.inside beside_apart so_far not.creates
        (H.made_beside (mh_shape path) sides item formed fit beside_made not.creates) in
        let filled = further fit.side.inside tt made not.writes
        (H.was_written (mh_shape path) sides item formed fit not.writes) in
        may_be_added (stays (H.made_stage (mh_shape path) sides item formed fit _)
        (λ wrote s. refl) fit.side.inside tt filled not.fails)

  -- new sequences are written beside
  side_waits : {a b made : Option Past} → HasBegun Lasting a b → WasDone (Create side_at) b made
      → HasBegun Waits a made
  side_waits so_far creates = further side_fit.inside side_apart so_far creates
      (W.made_while (mh_shape path) sides item formed fit side_at side_fit side_in two_sides
      side_made creates)

  side_holds : {a made wrote : Option Past} {bytes : List ℕ} → HasBegun Waits a made
      → WasDone (WriteAt side_at 0 bytes) made wrote → HasBegun Waits a wrote
  side_holds so_far writes = further side_fit.inside tt so_far writes
      (W.written_while (mh_shape path) sides item formed fit side_at side_fit side_in two_sides
      writes)

  module _ {a b c : Option Past} where
    side_written : {bytes : List ℕ} → HasBegun Lasting a b → WroteFile side_at bytes b c
        → HasBegun Waits a c
    side_written so_far wrote =
        further side_fit.inside tt (side_holds (side_waits so_far wrote.creates) wrote.writes)
        wrote.syncs
        (W.synced_while (mh_shape path) sides item formed fit side_at side_fit side_in two_sides
        wrote.syncs)

    side_not_written : {bytes : List ℕ} {why : DiskError} → HasBegun Lasting a b
        → FailsWriting side_at bytes why b c
        → AddsSome (mh_files path) core a c
    side_not_written so_far (inl not) = may_be_added
        (stays durable_stage (λ wrote s. refl) side_fit.inside side_apart so_far not)
    side_not_written so_far (inr (inl not)) = may_be_added
        (further side_fit.inside tt (side_waits so_far not.creates) not.fails
        (W.written_while (mh_shape path) sides item formed fit side_at side_fit side_in two_sides
        not.fails))
    side_not_written so_far (inr (inr not)) = may_be_added
        (further side_fit.inside tt (side_holds (side_waits so_far not.creates) not.writes)
        not.fails
        (W.synced_while (mh_shape path) sides item formed fit side_at side_fit side_in two_sides
        not.fails))

  waits_stage : H.IsOwnStage (mh_shape path) sides item Waits
  waits_stage = W.waiting_stage (mh_shape path) sides item formed fit side_at side_fit side_in
      two_sides (IsDurable core)

  over : IsWithin (mh_shape path).home (Rename side_at sequences_there)
  over = (side_fit.inside, in_folder)

  naming : IsWithin (mh_shape path).home (Rename beside_at held_at)
  naming = (fit.side.inside, held_home)

  module _ {a b c : Option Past} where
    -- and put in place
    replaced : {bytes : List ℕ} → HasBegun Lasting a b
        → Replaced side_at sequences_there bytes b c → HasBegun Lasting a c
    replaced so_far is = further over tt (side_written so_far is.writes) is.renames
        (W.put_over_while (mh_shape path) sides item formed fit side_at side_fit side_in two_sides
        no_message in_folder not_beside is.renames)

    not_replaced : {bytes : List ℕ} {why : DiskError} → HasBegun Lasting a b
        → FailsReplacing side_at sequences_there bytes why b c → AddsSome (mh_files path) core a c
    not_replaced so_far (inl not) = side_not_written so_far not
    not_replaced so_far (inr not) = may_be_added
        (stays waits_stage (λ wrote s. refl) over tt (side_written so_far not.writes) not.fails)

    read_first : {bytes : List ℕ} → HasBegun Lasting a b → FoundFile sequences_there bytes b c
        → HasBegun Lasting a c
    read_first so_far found = further tt tt so_far found.called
        (H.looked (mh_shape path) sides item durable_stage refl found.called)

    -- the message gets its name
    named : HasBegun Lasting a b → WasDone (Rename beside_at held_at) b c → HasBegun Named a c
    named so_far took = further naming tt so_far took
        (H.was_named (mh_shape path) sides item formed fit at_place took)

  module _ {a b c : Option Past} {flags : Flags} where
    pub put_in_place : HasBegun Lasting a b → PutSequences places flags b c → HasBegun Lasting a c
    put_in_place so_far put = replaced (read_first so_far put.reads) put.replaces

    pub not_put : {told : SyncError} → HasBegun Lasting a b → FailsSequences places flags told b c
        → AddsSome (mh_files path) core a c
    not_put so_far (inl not) = may_be_added (further tt tt so_far not.fails.called
        (H.looked (mh_shape path) sides item durable_stage refl not.fails.called))
    not_put so_far (inr (inl only)) = may_be_added (read_first so_far only.reads)
    not_put so_far (inr (inr not)) = not_replaced (read_first so_far not.reads) not.fails

  module _ {a b c : Option Past} where
    pub kept : HasBegun Lasting a b → NamedMessage path places b c
        → HasBegun (Holds (mh_shape path)) a c
    kept so_far is = further tt tt (named so_far is.renames) is.keeps
        (H.was_kept (mh_shape path) sides item formed fit is.keeps)

    pub not_named : {why : DiskError} → HasBegun Lasting a b → FailsNaming path places why b c
        → AddsSome (mh_files path) core a c
    not_named so_far (inl not) = may_be_added
        (stays durable_stage (λ wrote s. refl) naming tt so_far not)
    not_named so_far (inr not) = may_be_added
        (stays (H.named_stage (mh_shape path) sides item formed fit) (λ wrote s. refl) tt tt
        (named so_far not.renames) not.fails)

  -- All of it.

  module _ {a b c : Option Past} {flags : Flags} where
    pub filled : HasBegun Readied a b → Filled path places flags core b c
        → HasBegun (Holds (mh_shape path)) a c
    filled so_far is = kept (put_in_place (written so_far is.writes) is.puts) is.names

    pub not_filled : {told : SyncError} → HasBegun Readied a b
        → FailsFilling path places flags core told b c
        → AddsSome (mh_files path) core a c
    not_filled so_far (inl not) = not_written so_far not.fails
    not_filled so_far (inr (inl not)) = not_put (written so_far not.writes) not.fails
    not_filled so_far (inr (inr not)) =
        not_named (put_in_place (written so_far not.writes) not.puts) not.fails

-- the number was not held
pub not_begun : (path core : List ℕ) {e : DiskError} {held key : List ℕ}
    {wanted : List TreeNode → Result (Unit {0}) DiskError} {a b : Option Past}
    → number_in path held ≡ Some key → Called (Err e) (Create held) wanted a b
    → AddsSome (mh_files path) core a b
not_begun path core {held = held} {key = key} made took =
    H.none_added (mh_files path) (an_mh_folder path) core
    (H.quiet_not_made (mh_shape path) (new_sequences_path path ∷ []) (mh_formed path) took)
    (does_refused (mh_shape path).home (number_in path) None took
    ((mh_formed path).inside held key made))
