-- The calls of an append, one line each.
use Rattle.std.proofs.Common.{Bool, Err, List, None, Ok, Option, Result, Some, [], false, inl, inr}
use Rattle.std.proofs.Common.{map, refl, subst, sym, true, ℕ, ◌∷◌, ◌≡◌, ◌≢◌}
use Rattle.std.proofs.lemmas.Bool.{cond-false, cond-true}
use Rattle.std.specs.Str.{bytes_eq}
use Rattle.disk_model.specs.Tree.{TreeNode}
use Rattle.disk_model.specs.Journal.{Answer, Call, Create, Cut, Done, Entry, ListDir, MakeDir}
use Rattle.disk_model.specs.Journal.{Others, Own, Past, ReadAll, ReadFront, Refused, Remove, Rename}
use Rattle.disk_model.specs.Journal.{StatPath, Sync, SyncDir, WriteAt}
use Rattle.disk_model.specs.State.{File, Name, State, after_done, after_refused}
use Rattle.disk_model.specs.Looking.{is_look}
use Rattle.disk_model.specs.Judge.{Called, done_by}
use Rattle.disk_model.specs.declared.answers.DiskError.{DiskError}
use Rattle.folder_stops.specs.Along.{Grown, Keeps}
use Rattle.folder_stops.specs.Appends.{AddLeads, AddedSome, AddsSome, HoldsBeside, IsFit, IsFree}
use Rattle.folder_stops.specs.Appends.{IsItemOf, IsMade, MakesIn, MayDoBeside, NewItem, Opening}
use Rattle.folder_stops.specs.Appends.{Quiet, adding, but_for, with_item, with_own}
use Rattle.folder_stops.specs.Does.{AllOwn, Does, IsOurs}
use Rattle.folder_stops.specs.Folder.{FileFolder, IsFolder}
use Rattle.folder_stops.specs.Messages.{IsLoose, StoredMessage}
use Rattle.folder_stops.specs.Others.{MayDoTo, with_entry}
use Rattle.folder_stops.specs.Rows.{Holds, IsDurable, IsUnused}
use Rattle.folder_stops.specs.Shape.{IsWellFormed, Shape}
use Rattle.folder_stops.specs.Syncs.{StandsIn, Syncs}
use Rattle.folder_stops.specs.Words.{Among}
use Rattle.folder_stops.proofs.Along.{IsStage, along_map, done_grown, grown_both, grown_map}
use Rattle.folder_stops.proofs.Along.{grown_then, refused_grown}
use Rattle.folder_stops.proofs.Images.{stands}
use Rattle.folder_stops.proofs.Steps.{holds_barrier, holds_loosened, holds_others}
use Rattle.folder_stops.proofs.Verdicts.{was_free}
use Rattle.folder_stops.proofs.Words.{among_left, among_right, same}
use Rattle.folder_stops.proofs.Naming as N
use Rattle.folder_stops.proofs.Openings as O
use Rattle.folder_stops.proofs.Leading as G
use Rattle.folder_stops.proofs.Additions as A

-- a look of ours leaves the messages
own_look : (shape : Shape) (item : NewItem) (answer : Answer) (call : Call)
    (all : List StoredMessage) → is_look call ≡ true → with_own shape item answer call all ≡ all
own_look shape item (Refused why wrote) call all look = refl
own_look shape item Done (ListDir dir) all look = refl
own_look shape item Done (StatPath path) all look = refl
own_look shape item Done (ReadFront path size) all look = refl
own_look shape item Done (ReadAll path limit) all look = refl
own_look shape item Done (Create path) all look = absurd (cc)
own_look shape item Done (WriteAt path at piece) all look = absurd (cc)
own_look shape item Done (Cut path size) all look = absurd (cc)
own_look shape item Done (Sync path) all look = absurd (cc)
own_look shape item Done (Rename from to) all look = absurd (cc)
own_look shape item Done (Remove path) all look = absurd (cc)
own_look shape item Done (SyncDir dir) all look = absurd (cc)
own_look shape item Done (MakeDir path) all look = absurd (cc)

module _ (shape : Shape) (sides : List (List ℕ)) (item : NewItem) where
  -- a stage of an append: others leave it, and it holds the messages beside the item
  abbrev pub IsOwnStage : (List StoredMessage → State → Type 0) → Type 0
  IsOwnStage X = G.IsOwnStage (adding shape item) (MayDoBeside shape sides item)
      (HoldsBeside shape item) X

  pub joined : {X Y Z : List StoredMessage → State → Type 0} {a b c : Option Past}
      → AddLeads shape sides item a b X Y → AddLeads shape sides item b c Y Z
      → AddLeads shape sides item a c X Z
  joined first rest = G.then (adding shape item) (MayDoBeside shape sides item)
      (HoldsBeside shape item) first rest

  -- less is said of the end
  pub weakened : {X Y Z : List StoredMessage → State → Type 0} {a b : Option Past}
      → ((all : List StoredMessage) (s : State) → Y all s → Z all s)
      → AddLeads shape sides item a b X Y → AddLeads shape sides item a b X Z
  weakened {a = a} {b = b} less leads =
      record {
        grown = grown_map a b _ _ leads.grown (λ s es k all allowed x.
            let is = k all allowed x in (is.0, less _ _ is.1));
      }

  pub begun : {X : List StoredMessage → State → Type 0} (a : Option Past) → IsOwnStage X
      → AddLeads shape sides item a a X X
  begun a x = G.start (adding shape item) (MayDoBeside shape sides item) (HoldsBeside shape item) a
      x

  -- a look leaves a stage as it is
  pub looked : {X : List StoredMessage → State → Type 0} {T : Type 0} {result : Result T DiskError}
      {wanted : List TreeNode → Result T DiskError} {a b : Option Past} {call : Call} → IsOwnStage X
      → is_look call ≡ true → Called result call wanted a b → AddLeads shape sides item a b X X
  looked {call = call} x look took =
      G.looks_on (adding shape item) (MayDoBeside shape sides item) (HoldsBeside shape item) took
      look (λ answer all s. own_look shape item answer call all look) x

  -- and so does a refused call that writes nothing
  pub not_done : {X : List StoredMessage → State → Type 0} {T : Type 0} {e : DiskError}
      {wanted : List TreeNode → Result T DiskError} {a b : Option Past} {call : Call} → IsOwnStage X
      → ((wrote : ℕ) (s : State) → after_refused call wrote s ≡ s)
      → Called (Err e) call wanted a b → AddLeads shape sides item a b X X
  not_done {X = X} {a = a} x same took =
      G.stops_short (adding shape item) (MayDoBeside shape sides item) (HoldsBeside shape item)
      (begun a x) took x x (λ all s is. is)
      (λ why wrote all s is. subst (X all) (sym (same wrote s)) is)

  module _ (formed : IsWellFormed shape) (fit : IsFit shape item) where
    -- before the item has its name
    abbrev pub Readied : List StoredMessage → State → Type 0
    Readied all s = A.Ready shape sides item formed fit all s

    -- its file is there, and has Q
    abbrev pub Made : (File → Type 0) → List StoredMessage → State → Type 0
    Made Q all s = A.Made shape sides item formed fit Q all s

    -- its file is empty
    abbrev pub Empty : List StoredMessage → State → Type 0
    Empty all s = Made (λ file. file.bytes ≡ []) all s

    -- its file has its bytes
    abbrev pub Written : List StoredMessage → State → Type 0
    Written all s = Made (λ file. file.bytes ≡ item.core) all s

    -- and they are on the disk
    abbrev pub Lasting : List StoredMessage → State → Type 0
    Lasting all s = Made (IsDurable item.core) all s

    -- it has its name, which a stop may lose
    abbrev pub Named : List StoredMessage → State → Type 0
    Named all s = N.Named shape sides item formed fit all s

    pub opening_stage : (tells : Bool) → IsOwnStage (Opening shape tells item)
    opening_stage tells = record {
      stable = O.opening_stable shape sides item formed fit tells;
      good = λ all s o. holds_loosened shape formed (item.key ∷ []) all s o.holds;
    }

    pub ready_stage : IsOwnStage Readied
    ready_stage = record {
      stable = A.ready_stable shape sides item formed fit;
      good = λ all s r. r.holds;
    }

    pub made_stage : (Q : File → Type 0) → IsOwnStage (Made Q)
    made_stage Q = record {
      stable = A.made_stable shape sides item formed fit Q;
      good = λ all s m. m.ready.holds;
    }

    pub named_stage : IsOwnStage Named
    named_stage = record {
      stable = N.named_stable shape sides item formed fit;
      good = λ all s n. n.holds;
    }

    pub added_stage : IsOwnStage (Holds shape)
    added_stage = record {
      stable = λ action all s may h. holds_others shape formed [] action all s may.0.0 h;
      good = λ all s h. holds_loosened shape formed (item.key ∷ []) all s h;
    }

    -- the item is one of the messages once its first file is made
    pub first_made : bytes_eq item.beside item.made ≡ true → (all : List StoredMessage) (s : State)
        → Holds shape all s → IsUnused shape item.key s.names
        → Empty (with_own shape item Done (Create item.beside) all)
        (after_done (Create item.beside) s)
    first_made is all s holds unused =
        subst (λ (l : List StoredMessage). Empty l (after_done (Create item.beside) s))
        (sym (cond-true (bytes_eq item.beside item.made) _ _ is))
        (A.create_beside shape sides item formed fit (with_item shape item all) s
        (O.ready_start shape sides item formed fit all s holds unused))

    -- the file beside is made, and is not the item's first one
    pub beside_made : bytes_eq item.beside item.made ≡ false
        → (all : List StoredMessage) (s : State) → Readied all s
        → Empty (with_own shape item Done (Create item.beside) all)
        (after_done (Create item.beside) s)
    beside_made other all s r =
        subst (λ (l : List StoredMessage). Empty l (after_done (Create item.beside) s))
        (sym (cond-false (bytes_eq item.beside item.made) _ _ other))
        (A.create_beside shape sides item formed fit all s r)

    module _ {wanted : List TreeNode → Result (Unit {0}) DiskError} {a b : Option Past} where
      -- before it begins: what an earlier append left is removed, and a folder that is missing made
      pub cleared_before : {tells : Bool} {result : Result (Unit {0}) DiskError} {path : List ℕ}
          → shape.slot path ≡ None → Called result (Remove path) wanted a b
          → AddLeads shape sides item a b (Opening shape tells item) (Opening shape tells item)
      cleared_before {tells} {path = path} none took =
          G.stays_on (adding shape item) (MayDoBeside shape sides item) (HoldsBeside shape item)
          took (opening_stage tells)
          (λ all s o. O.opening_cleared shape sides item formed fit tells path all s none o)
          (λ why wrote all s o. o)

      pub folder_made : {tells : Bool} {result : Result (Unit {0}) DiskError} {path : List ℕ}
          → shape.slot path ≡ None → Called result (MakeDir path) wanted a b
          → AddLeads shape sides item a b (Opening shape tells item) (Opening shape tells item)
      folder_made {tells} {path = path} none took =
          G.stays_on (adding shape item) (MayDoBeside shape sides item) (HoldsBeside shape item)
          took (opening_stage tells)
          (λ all s o. O.opening_folder shape sides item formed fit tells path all s none o)
          (λ why wrote all s o. o)

      -- the file beside is made, as the item's first one
      pub made_first : {tells : Bool} {v : Unit {0}} → tells ≡ false
          → bytes_eq item.beside item.made ≡ true → Called (Ok v) (Create item.beside) wanted a b
          → AddLeads shape sides item a b (Opening shape tells item) Empty
      made_first {tells} none is took =
          G.goes_on (adding shape item) (MayDoBeside shape sides item) (HoldsBeside shape item)
          (begun a (opening_stage tells)) took (opening_stage tells)
          (made_stage (λ file. file.bytes ≡ []))
          (λ all s o. first_made is all s o.holds
          (subst (λ (t : Bool). IsFree t shape item.key s) none o.free))

      -- it is made behind the item's first one
      pub made_beside : {v : Unit {0}} → bytes_eq item.beside item.made ≡ false
          → Called (Ok v) (Create item.beside) wanted a b
          → AddLeads shape sides item a b Readied Empty
      made_beside other took =
          G.goes_on (adding shape item) (MayDoBeside shape sides item) (HoldsBeside shape item)
          (begun a ready_stage) took ready_stage (made_stage (λ file. file.bytes ≡ []))
          (beside_made other)

      -- the item's bytes are written
      pub was_written : {v : Unit {0}} → Called (Ok v) (WriteAt item.beside 0 item.core) wanted a b
          → AddLeads shape sides item a b Empty Written
      was_written took = G.goes_on (adding shape item) (MayDoBeside shape sides item)
          (HoldsBeside shape item) (begun a (made_stage (λ file. file.bytes ≡ []))) took
          (made_stage (λ file. file.bytes ≡ [])) (made_stage (λ file. file.bytes ≡ item.core))
          (A.write_beside shape sides item formed fit)

      -- a refused write leaves any bytes
      pub not_written : {Q : File → Type 0} {e : DiskError} {from : ℕ} {bytes : List ℕ}
          → Called (Err e) (WriteAt item.beside from bytes) wanted a b
          → AddLeads shape sides item a b (Made Q) Readied
      not_written {Q = Q} {from = from} {bytes = bytes} took =
          G.stops_short (adding shape item) (MayDoBeside shape sides item) (HoldsBeside shape item)
          (begun a (made_stage Q)) took (made_stage Q) ready_stage (λ all s m. m.ready)
          (λ why wrote all s m. A.torn shape sides item formed fit Q from bytes wrote all s m)

      pub was_synced : {v : Unit {0}} → Called (Ok v) (Sync item.beside) wanted a b
          → AddLeads shape sides item a b Written Lasting
      was_synced took = G.goes_on (adding shape item) (MayDoBeside shape sides item)
          (HoldsBeside shape item) (begun a (made_stage (λ file. file.bytes ≡ item.core))) took
          (made_stage (λ file. file.bytes ≡ item.core)) (made_stage (IsDurable item.core))
          (A.sync_beside shape sides item formed fit)

      -- it gets its name
      pub was_named : {v : Unit {0}} → shape.slot item.place ≡ Some item.key
          → Called (Ok v) (Rename item.beside item.place) wanted a b
          → AddLeads shape sides item a b Lasting Named
      was_named at took = G.goes_on (adding shape item) (MayDoBeside shape sides item)
          (HoldsBeside shape item) (begun a (made_stage (IsDurable item.core))) took
          (made_stage (IsDurable item.core)) named_stage
          (λ all s m. N.name_beside shape sides item formed fit item.place all s refl at m)

      -- and the names are kept
      pub was_kept : {v : Unit {0}} {dir : List ℕ} → Called (Ok v) (SyncDir dir) wanted a b
          → AddLeads shape sides item a b Named (Holds shape)
      was_kept took = G.goes_on (adding shape item) (MayDoBeside shape sides item)
          (HoldsBeside shape item) (begun a named_stage) took named_stage added_stage
          (N.keep_names shape sides item formed fit)

      pub still_kept : {result : Result (Unit {0}) DiskError} {dir : List ℕ}
          → Called result (SyncDir dir) wanted a b
          → AddLeads shape sides item a b (Holds shape) (Holds shape)
      still_kept took = G.stays_on (adding shape item) (MayDoBeside shape sides item)
          (HoldsBeside shape item) took added_stage (holds_barrier shape formed)
          (λ why wrote all s h. h)

      -- What is left of a refused append is taken away.
      pub cleared : {result : Result (Unit {0}) DiskError}
          → Called result (Remove item.beside) wanted a b
          → AddLeads shape sides item a b Readied Readied
      cleared took = G.stays_on (adding shape item) (MayDoBeside shape sides item)
          (HoldsBeside shape item) took ready_stage
          (A.clear_beside shape sides item formed fit) (λ why wrote all s r. r)

      pub given_back : {result : Result (Unit {0}) DiskError} → shape.slot item.place
          ≡ Some item.key → Called result (Remove item.place) wanted a b
          → AddLeads shape sides item a b Readied Readied
      given_back at took = G.stays_on (adding shape item) (MayDoBeside shape sides item)
          (HoldsBeside shape item) took ready_stage
          (A.clear_place shape sides item formed fit at) (λ why wrote all s r. r)

    -- an empty file holds the place: that it was made tells that the key was free
    pub place_held : bytes_eq item.place item.made ≡ true
        → ((q : List ℕ) → shape.slot q ≡ Some item.key → q ≡ item.place) → shape.slot item.place
        ≡ Some item.key → shape.counts [] ≡ false
        → (all : List StoredMessage) (s : State)
        → ((x : Name) → Among x s.names → x.path ≢ item.place) → Holds shape all s
        → Readied (with_own shape item Done (Create item.place) all)
        (after_done (Create item.place) s)
    place_held is only at blank all s free holds =
        let unused : IsUnused shape item.key s.names = λ x n in_it of_key.
        free x in_it (only x.path of_key.0) in
        subst (λ (l : List StoredMessage). Readied l (after_done (Create item.place) s))
        (sym (cond-true (bytes_eq item.place item.made) _ _ is))
        (O.open_place shape sides item formed fit at blank (with_item shape item all) s
        (O.ready_start shape sides item formed fit all s holds unused) unused free)

    pub held : {tells : Bool} {v : Unit {0}} {a b : Option Past} → bytes_eq item.place item.made
        ≡ true → ((q : List ℕ) → shape.slot q ≡ Some item.key → q ≡ item.place)
        → shape.slot item.place ≡ Some item.key → shape.counts [] ≡ false
        → Called (Ok v) (Create item.place) (done_by (Create item.place)) a b
        → AddLeads shape sides item a b (Opening shape tells item) Readied
    held {tells} {v} {a} is only at blank took =
        G.goes_judged (adding shape item) (MayDoBeside shape sides item) (HoldsBeside shape item)
        (begun a (opening_stage tells)) took (opening_stage tells) ready_stage
        (λ all s judged o. place_held is only at blank all s (was_free s item.place v judged)
        o.holds)

-- That the first file was made.

-- any call makes the journal longer
call_grown : {T : Type 0} (result : Result T DiskError) (call : Call)
    (wanted : List TreeNode → Result T DiskError) (a b : Option Past)
    → Called result call wanted a b → Grown a b (λ s es. Unit {0})
call_grown (Ok v) call wanted a b took =
    grown_map a b _ _ (done_grown v call wanted a b took.goes) (λ s es is. tt)
call_grown (Err e) call wanted a b took =
    grown_map a b _ _ (refused_grown e call wanted a b took.goes) (λ s es is. tt)

pub made_in : {T : Type 0} {v : T} {p : List ℕ} {wanted : List TreeNode → Result T DiskError}
    {a b : Option Past} → Called (Ok v) (Create p) wanted a b → MakesIn p a b
made_in {T} {v} {p} {wanted} {a} {b} took = record {
  grown = grown_map a b _ _ (done_grown v (Create p) wanted a b took.goes) (λ s es is.
      subst (λ (l : List Entry). Among (Own (Create p) Done) l) (sym is.1)
      (among_right (Own (Create p) Done) (map Others is.0) (Own (Create p) Done ∷ [])
      (inl refl)));
}

-- it stays made behind a further call, and where it was made behind another one
pub makes_then : {T : Type 0} {result : Result T DiskError} {p : List ℕ} {call : Call}
    {wanted : List TreeNode → Result T DiskError} {a b c : Option Past} → MakesIn p a b
    → Called result call wanted b c → MakesIn p a c
makes_then {T} {result} {p} {call} {wanted} {a} {b} {c} makes took = record {
  grown = grown_then a b c _ _ _ makes.grown (call_grown result call wanted b c took)
      (λ s xs ys in_it more. among_left (Own (Create p) Done) xs ys in_it);
}

pub then_makes : {T : Type 0} {result : Result T DiskError} {p : List ℕ} {call : Call}
    {wanted : List TreeNode → Result T DiskError} {a b c : Option Past}
    → Called result call wanted a b → MakesIn p b c → MakesIn p a c
then_makes {T} {result} {p} {call} {wanted} {a} {b} {c} took makes = record {
  grown = grown_then a b c _ _ _ (call_grown result call wanted a b took) makes.grown
      (λ s xs ys more in_it. among_right (Own (Create p) Done) xs ys in_it);
}

-- Where no item began.

loose_none : (all : List StoredMessage) → IsLoose [] all
loose_none all m in_it is = absurd (cc)

pub quiet_of : (shape : Shape) (sides : List (List ℕ)) {a b : Option Past}
    → Syncs shape sides [] a b → Quiet shape sides a b
quiet_of shape sides {a} {b} leads = record {
  grown = grown_map a b _ _ leads.grown (λ s es k all allowed holds.
      let is = k all allowed (record { holds = holds; loose = loose_none all }) in
      (is.0, is.1.holds));
}

pub then_quiet : (shape : Shape) (sides : List (List ℕ)) {a b c : Option Past}
    → Quiet shape sides a b → Quiet shape sides b c → Quiet shape sides a c
then_quiet shape sides first rest =
    G.then (with_entry shape []) (MayDoTo shape sides) (Holds shape) first rest

-- the making of a first file was refused
pub quiet_not_made : (shape : Shape) (sides : List (List ℕ)) → IsWellFormed shape
    → {T : Type 0} {e : DiskError} {p : List ℕ} {wanted : List TreeNode → Result T DiskError}
    {a b : Option Past} → Called (Err e) (Create p) wanted a b → Quiet shape sides a b
quiet_not_made shape sides formed {a = a} took =
    G.stops_short (with_entry shape []) (MayDoTo shape sides) (Holds shape)
    (G.start (with_entry shape []) (MayDoTo shape sides) (Holds shape) a holding) took holding
    holding (λ all s h. h) (λ why wrote all s h. h)
  where
    holding : IsStage (with_entry shape []) (MayDoTo shape sides) (Holds shape) (Holds shape)
    holding = record {
      stable = λ action all s may h.
          holds_others shape formed [] action all s may.0 h;
      good = λ all s h. h;
    }

-- What such runs say of the messages.
module _ (folder : FileFolder) (is : IsFolder folder) (core : List ℕ) where
  stands_in : (all : List StoredMessage) (s : State) → Holds folder.shape all s
      → StandsIn folder all s
  stands_in all s h = stands folder.shape is.formed folder.reads is.reading all s h

  pub none_added : {a b : Option Past} → Quiet folder.shape folder.sides a b
      → Does folder.shape.home folder.making None a b → AddsSome folder core a b
  none_added {a} {b} quiet does = record {
    grown = grown_map a b _ _ (grown_both a b _ _ quiet.grown does.grown) (λ s es k. inl (record {
      does = k.1;
      keeps = λ all holds allowed.
          along_map (with_entry folder.shape []) (Holds folder.shape) _ stands_in es all s
          (k.0 all allowed holds).0;
    }));
  }

  module _ (item : NewItem) (is_item : IsItemOf folder core item) where
    made_item : (Y : List StoredMessage → State → Type 0) (s : State) (es : List Entry)
        → Among (Own (Create item.made) Done) es
        → AllOwn (IsOurs folder.shape.home folder.making (Some item.made)) es
        → Keeps (adding folder.shape item) (MayDoBeside folder.shape folder.sides item)
        (HoldsBeside folder.shape item) (Opening folder.shape folder.tells_free item) Y s es
        → IsMade folder core s es item
    made_item Y s es among does leads = record {
      is_item = is_item;
      among = among;
      does = does;
      keeps = λ all holds free allowed.
          along_map (adding folder.shape item) (HoldsBeside folder.shape item) _ (λ all s.
          stands_in (but_for item all) s) es all s
          (leads all allowed (record { holds = holds; free = free })).0;
    }

    pub some_added : {a b : Option Past} {Y : List StoredMessage → State → Type 0}
        → MakesIn item.made a b → Does folder.shape.home folder.making (Some item.made) a b
        → AddLeads folder.shape folder.sides item a b (Opening folder.shape folder.tells_free item)
        Y → AddsSome folder core a b
    some_added {a} {b} {Y} makes does leads = record {
      grown = grown_map a b _ _
          (grown_both a b _ _ (grown_both a b _ _ makes.grown does.grown) leads.grown) (λ s es k.
          inr (item, made_item Y s es k.0.0 k.0.1 k.1));
    }

    pub item_added : {a b : Option Past} → MakesIn item.made a b
        → Does folder.shape.home folder.making (Some item.made) a b
        → AddLeads folder.shape folder.sides item a b (Opening folder.shape folder.tells_free item)
        (Holds folder.shape) → AddedSome folder core a b
    item_added {a} {b} makes does leads = record {
      grown = grown_map a b _ _
          (grown_both a b _ _ (grown_both a b _ _ makes.grown does.grown) leads.grown) (λ s es k.
          record {
            item = item;
            made = made_item (Holds folder.shape) s es k.0.0 k.0.1 k.1;
            ends = λ all holds free allowed.
                stands_in _ _ (k.1 all allowed (record { holds = holds; free = free })).1;
          });
    }

-- An item that was added is one that may have been.
pub added_some : (folder : FileFolder) (core : List ℕ) {a b : Option Past}
    → AddedSome folder core a b → AddsSome folder core a b
added_some folder core {a} {b} leads =
    record { grown = grown_map a b _ _ leads.grown (λ s es k. inr (k.item, k.made)) }
