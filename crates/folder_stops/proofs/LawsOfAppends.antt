-- The laws of appends to folders with one file a message.
use Rattle.std.proofs.Common.{List, None, Some, [], false, refl, subst, sym, true, ℕ, ◌++◌, ◌≡◌}
use Rattle.std.specs.Str.{bytes_eq}
use Rattle.disk_model.specs.Journal.{Action, Call, Create, Done, Entry, Rename, Sync, SyncDir}
use Rattle.disk_model.specs.Journal.{WriteAt}
use Rattle.disk_model.specs.State.{State, after_done, run_entries, tree_of}
use Rattle.disk_model.specs.Refusals.{refusal}
use Rattle.disk_model.specs.Lawful.{AreLawful}
use Rattle.folder_stops.specs.Along.{Keeps}
use Rattle.folder_stops.specs.Appends.{HoldsBeside, IsFit, MayDoBeside, NewItem, Opening, adding}
use Rattle.folder_stops.specs.Appends.{but_for, with_own}
use Rattle.folder_stops.specs.Laws.{AppendStands, BeginsHeld, Company, NumberedStands}
use Rattle.folder_stops.specs.Laws.{append_entries, numbered_entries, then_done}
use Rattle.folder_stops.specs.Messages.{StoredMessage}
use Rattle.folder_stops.specs.Rows.{Holds, IsDurable}
use Rattle.folder_stops.specs.Shape.{IsWellFormed, Shape}
use Rattle.folder_stops.proofs.Along.{along_map, done, keeps_then, step_judged}
use Rattle.folder_stops.proofs.Images.{stands}
use Rattle.folder_stops.proofs.Verdicts.{done_lawful, was_made}
use Rattle.folder_stops.proofs.Words.{apart, same}
use Rattle.folder_stops.proofs.Naming as N
use Rattle.folder_stops.proofs.Additions as A
use Rattle.folder_stops.proofs.Appends as H

module _ (shape : Shape) (formed : IsWellFormed shape) (item : NewItem) (fit : IsFit shape item)
  where
    -- from one stage on to another, with no side files
    abbrev Leading : (List StoredMessage → State → Type 0) → (List StoredMessage → State → Type 0)
        → State → List Entry → Type 0
    Leading Pre Post s entries =
        Keeps (adding shape item) (MayDoBeside shape [] item) (HoldsBeside shape item) Pre Post s
        entries

    -- others act, and then a call of ours leads from one stage to the next
    step_leads : (X Y : List StoredMessage → State → Type 0) → H.IsOwnStage shape [] item X
        → H.IsOwnStage shape [] item Y → (call : Call)
        → ((all : List StoredMessage) (s : State) → X all s → Y (with_own shape item Done call all)
        (after_done call s))
        → (actions : List Action) (s : State) → Leading X Y s (then_done actions call)
    step_leads X Y x y call goes actions s =
        done (adding shape item) (MayDoBeside shape [] item) (HoldsBeside shape item) X Y x y.good
        call goes s (then_done actions call) (actions, refl)

    both_lead : (X Y Z : List StoredMessage → State → Type 0) (s : State) (xs ys : List Entry)
        → Leading X Y s xs → Leading Y Z (run_entries xs s) ys → Leading X Z s (xs ++ ys)
    both_lead X Y Z s xs ys first rest =
        keeps_then (adding shape item) (MayDoBeside shape [] item) (HoldsBeside shape item) X Y Z s
        xs
        ys first rest

    -- before it begins
    abbrev Begun : List StoredMessage → State → Type 0
    Begun all s = Opening shape false item all s

    -- its file is empty
    abbrev Empty : List StoredMessage → State → Type 0
    Empty all s = H.Empty shape [] item formed fit all s

    -- its file has its bytes
    abbrev Written : List StoredMessage → State → Type 0
    Written all s = H.Written shape [] item formed fit all s

    -- and they are on the disk
    abbrev Lasting : List StoredMessage → State → Type 0
    Lasting all s = H.Lasting shape [] item formed fit all s

    -- it has its name
    abbrev Named : List StoredMessage → State → Type 0
    Named all s = H.Named shape [] item formed fit all s

    -- from a stage on from which the making of the file beside leads to an empty one
    append_from : (X : List StoredMessage → State → Type 0) → H.IsOwnStage shape [] item X
        → ((all : List StoredMessage) (s : State) → X all s
        → Empty (with_own shape item Done (Create item.beside) all)
        (after_done (Create item.beside) s))
        → (dir : List ℕ) (others : Company) (s : State) → shape.slot item.place ≡ Some item.key
        → Leading X (Holds shape) s (append_entries item dir others)
    append_from X x first dir others s at =
        let create = then_done others.making (Create item.beside) in
        let write = then_done others.writing (WriteAt item.beside 0 item.core) in
        let sync = then_done others.syncing (Sync item.beside) in
        let rename = then_done others.naming (Rename item.beside item.place) in
        let keep = then_done others.keeping (SyncDir dir) in
        let s1 = run_entries create s in
        let s2 = run_entries write s1 in
        let s3 = run_entries sync s2 in
        let s4 = run_entries rename s3 in
        let empty = H.made_stage shape [] item formed fit (λ file. file.bytes ≡ []) in
        let full = H.made_stage shape [] item formed fit (λ file. file.bytes ≡ item.core) in
        let lasting = H.made_stage shape [] item formed fit (IsDurable item.core) in
        let named = H.named_stage shape [] item formed fit in
        both_lead X Empty (Holds shape) s create (write ++ (sync ++ (rename ++ keep)))
        (step_leads X Empty x empty (Create item.beside) first others.making s)
        (both_lead Empty Written (Holds shape) s1 write (sync ++ (rename ++ keep))
        (step_leads Empty Written empty full (WriteAt item.beside 0 item.core)
        (A.write_beside shape [] item formed fit) others.writing s1)
        (both_lead Written Lasting (Holds shape) s2 sync (rename ++ keep)
        (step_leads Written Lasting full lasting (Sync item.beside)
        (A.sync_beside shape [] item formed fit) others.syncing s2)
        (both_lead Lasting Named (Holds shape) s3 rename keep
        (step_leads Lasting Named lasting named (Rename item.beside item.place) (λ all t m.
        N.name_beside shape [] item formed fit item.place all t refl at m) others.naming s3)
        (step_leads Named (Holds shape) named (H.added_stage shape [] item formed fit) (SyncDir dir)
        (N.keep_names shape [] item formed fit) others.keeping s4))))

    pub append_leads : (dir : List ℕ) (others : Company) (s : State)
        → bytes_eq item.beside item.made
        ≡ true → shape.slot item.place ≡ Some item.key
        → Leading Begun (Holds shape) s (append_entries item dir others)
    append_leads dir others s made_is at =
        append_from Begun (H.opening_stage shape [] item formed fit false) (λ all t o.
        H.first_made shape [] item formed fit made_is all t o.holds o.free) dir others s at

    -- before it begins, where its making tells that its key was free
    abbrev Told : List StoredMessage → State → Type 0
    Told all s = Opening shape true item all s

    -- before it has its name
    abbrev Ready : List StoredMessage → State → Type 0
    Ready all s = H.Readied shape [] item formed fit all s

    -- an empty file holds the place before
    pub numbered_leads : (dir : List ℕ) (holding : List Action) (others : Company) (s : State)
        → BeginsHeld shape item → AreLawful (numbered_entries item dir holding others) s
        → Leading Told (Holds shape) s (numbered_entries item dir holding others)
    numbered_leads dir holding others s begins lawful =
        let hold = then_done holding (Create item.place) in
        let made_is = subst (λ (p : List ℕ). bytes_eq item.place p ≡ true) (sym begins.made_is)
        (same item.place) in
        let not_made = subst (λ (p : List ℕ). bytes_eq item.beside p ≡ false) (sym begins.made_is)
        (apart item.beside item.place begins.apart) in
        let ready = H.ready_stage shape [] item formed fit in
        both_lead Told Ready (Holds shape) s hold (append_entries item dir others)
        (step_judged (adding shape item) (MayDoBeside shape [] item) (HoldsBeside shape item)
        (λ t. refusal (Create item.place) (tree_of t) ≡ None) Told Ready
        (H.opening_stage shape [] item formed fit true) ready.good (Create item.place) Done
        (λ all t free o. H.place_held shape [] item formed fit made_is begins.only begins.place_is
        begins.blank all t (was_made t item.place free) o.holds)
        holding s (done_lawful holding (Create item.place) (append_entries item dir others) s
        lawful))
        (append_from Ready ready (H.beside_made shape [] item formed fit not_made) dir others
        (run_entries hold s) begins.place_is)

pub append_stands : AppendStands
append_stands folder item dir others all state is holds begins allowed =
    let made_is = subst (λ (p : List ℕ). bytes_eq item.beside p ≡ true) (sym begins.made_is)
    (same item.beside) in
    let leads = append_leads folder.shape is.formed item begins.fit dir others state made_is
    begins.place_is all allowed (record { holds = holds; free = begins.unused }) in (
      along_map (adding folder.shape item) (HoldsBeside folder.shape item) _ (λ all s.
          stands folder.shape is.formed folder.reads is.reading (but_for item all) s)
          (append_entries item dir others) all state leads.0,
      stands folder.shape is.formed folder.reads is.reading _ _ leads.1,
    )

pub numbered_stands : NumberedStands
numbered_stands folder item dir holding others all state is holds begins lawful allowed =
    let leads = numbered_leads folder.shape is.formed item begins.fit dir holding others state
    begins lawful all allowed (record { holds = holds; free = tt }) in (
      along_map (adding folder.shape item) (HoldsBeside folder.shape item) _ (λ all s.
          stands folder.shape is.formed folder.reads is.reading (but_for item all) s)
          (numbered_entries item dir holding others) all state leads.0,
      stands folder.shape is.formed folder.reads is.reading _ _ leads.1,
    )
