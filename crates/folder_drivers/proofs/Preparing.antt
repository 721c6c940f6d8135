-- Calls before an append begins its message, and what they leave to one that begins it.
use Rattle.std.proofs.Common.{List, Option, Result, Some, None, [], inl, inr, refl, subst, sym}
use Rattle.std.proofs.Common.{true, ℕ, ◌++◌, ◌∙◌, ◌≡◌}
use Rattle.std.proofs.lemmas.List.{append_cancel_left}
use Rattle.disk_model.specs.Tree.{TreeNode}
use Rattle.disk_model.specs.Journal.{Create, Done, Entry, ListDir, MakeDir, Own, Past, Remove}
use Rattle.disk_model.specs.Journal.{StatPath}
use Rattle.disk_model.specs.State.{State, run_entries, state_after}
use Rattle.disk_model.specs.Judge.{Called}
use Rattle.disk_model.specs.declared.answers.DiskError.{DiskError}
use Rattle.folder_stops.specs.Along.{Grown, Keeps, Onward}
use Rattle.folder_stops.specs.Appends.{AddedSome, AddsSome, EndsWith, HoldsBeside, IsFit}
use Rattle.folder_stops.specs.Appends.{IsItemOf, IsMade}
use Rattle.folder_stops.specs.Appends.{IsNone, MayBeAdded, MayDoBeside}
use Rattle.folder_stops.specs.Appends.{NewItem, Opening, WasAdded, adding, but_for}
use Rattle.folder_stops.specs.Does.{AllOwn, IsOurs}
use Rattle.folder_stops.specs.Folder.{FileFolder, IsFolder}
use Rattle.folder_stops.specs.Others.{MayDoTo, with_entry}
use Rattle.folder_stops.specs.Rows.{Holds}
use Rattle.folder_stops.specs.Syncs.{StandsIn}
use Rattle.folder_stops.proofs.Along.{along_map, grown_then, keeps_then}
use Rattle.folder_stops.proofs.Does.{does_call, does_none, does_then, own_append}
use Rattle.folder_stops.proofs.Images.{stands}
use Rattle.folder_stops.proofs.Words.{among_right}
use Rattle.folder_stops.proofs.Appends as H
use Rattle.folder_stops.proofs.Syncs as S
use Rattle.folder_drivers.specs.Preparing.{Prepares}

-- what one growth says is said of the entries of another
same_more : (past new : Past) (P : State → List Entry → Type 0) (more : List Entry)
    → new.journal ≡ past.journal ++ more → Onward P past new → P (state_after past) more
same_more past new P more journal onward =
    subst (λ (es : List Entry). P (state_after past) es)
    (append_cancel_left past.journal onward.more more (sym onward.journal ∙ journal)) onward.along

module _ (folder : FileFolder) (is : IsFolder folder) where
  pub started : (a : Option Past) → Prepares folder a a
  started a = record {
    does = λ made. does_none folder.shape.home folder.making made a;
    quiet = H.quiet_of folder.shape folder.sides (S.begun folder.shape folder.sides [] is.formed a);
    opening = λ item fit. H.begun folder.shape folder.sides item a
        (H.opening_stage folder.shape folder.sides item is.formed fit folder.tells_free);
  }

  pub listed : {T : Type 0} {result : Result T DiskError}
      {wanted : List TreeNode → Result T DiskError} {a b : Option Past} {dir : List ℕ}
      → Called result (ListDir dir) wanted a b → Prepares folder a b
  listed took = record {
    does = λ made. does_call folder.shape.home folder.making made took tt tt;
    quiet = H.quiet_of folder.shape folder.sides
        (S.looked folder.shape folder.sides [] is.formed refl took);
    opening = λ item fit. H.looked folder.shape folder.sides item
        (H.opening_stage folder.shape folder.sides item is.formed fit folder.tells_free) refl took;
  }

  pub stated : {T : Type 0} {result : Result T DiskError}
      {wanted : List TreeNode → Result T DiskError} {a b : Option Past} {path : List ℕ}
      → Called result (StatPath path) wanted a b → Prepares folder a b
  stated took = record {
    does = λ made. does_call folder.shape.home folder.making made took tt tt;
    quiet = H.quiet_of folder.shape folder.sides
        (S.looked folder.shape folder.sides [] is.formed refl took);
    opening = λ item fit. H.looked folder.shape folder.sides item
        (H.opening_stage folder.shape folder.sides item is.formed fit folder.tells_free) refl took;
  }

  pub dir_made : {result : Result (Unit {0}) DiskError}
      {wanted : List TreeNode → Result (Unit {0}) DiskError} {a b : Option Past} {path : List ℕ}
      → folder.shape.slot path ≡ None → folder.shape.home path ≡ true
      → Called result (MakeDir path) wanted a b → Prepares folder a b
  dir_made none home took = record {
    does = λ made. does_call folder.shape.home folder.making made took home tt;
    quiet = H.quiet_of folder.shape folder.sides
        (S.folder_made folder.shape folder.sides [] is.formed none took);
    opening = λ item fit. H.folder_made folder.shape folder.sides item is.formed fit none took;
  }

  -- a file of no message is removed
  pub cleared : {result : Result (Unit {0}) DiskError}
      {wanted : List TreeNode → Result (Unit {0}) DiskError} {a b : Option Past} {path : List ℕ}
      → folder.shape.slot path ≡ None → folder.shape.home path ≡ true
      → Called result (Remove path) wanted a b → Prepares folder a b
  cleared none home took = record {
    does = λ made. does_call folder.shape.home folder.making made took home tt;
    quiet = H.quiet_of folder.shape folder.sides
        (S.cleared folder.shape folder.sides [] is.formed none took);
    opening = λ item fit. H.cleared_before folder.shape folder.sides item is.formed fit none took;
  }

  pub then : {a b c : Option Past} → Prepares folder a b → Prepares folder b c
      → Prepares folder a c
  then first rest = record {
    does = λ made.
        does_then folder.shape.home folder.making made (first.does made) (rest.does made);
    quiet = H.then_quiet folder.shape folder.sides first.quiet rest.quiet;
    opening = λ item fit. H.joined folder.shape folder.sides item (first.opening item fit)
        (rest.opening item fit);
  }

  -- what was prepared before a call that may add a message

  none_then : (s : State) (xs ys : List Entry)
      → AllOwn (IsOurs folder.shape.home folder.making None) xs
      → Keeps (with_entry folder.shape []) (MayDoTo folder.shape folder.sides) (Holds folder.shape)
      (Holds folder.shape) (Holds folder.shape) s xs
      → IsNone folder (run_entries xs s) ys → IsNone folder s (xs ++ ys)
  none_then s xs ys does quiet rest = record {
    does = own_append (IsOurs folder.shape.home folder.making None) xs ys does rest.does;
    keeps = λ all holds allowed. (keeps_then (with_entry folder.shape [])
        (MayDoTo folder.shape folder.sides) (StandsIn folder) (Holds folder.shape)
        (Holds folder.shape) (λ all s. Unit {0}) s xs ys
        (λ all allowed holds. let k = quiet all allowed holds in (
          along_map (with_entry folder.shape []) (Holds folder.shape) (StandsIn folder)
              (stands folder.shape is.formed folder.reads is.reading) xs all s k.0,
          k.1,
        ))
        (λ all allowed holds. (rest.keeps all holds allowed, tt)) all allowed holds).0;
  }

  module _ (item : NewItem) where
    abbrev Stays : State → List Entry → Type 0
    Stays s xs = Keeps (adding folder.shape item) (MayDoBeside folder.shape folder.sides item)
        (HoldsBeside folder.shape item) (Opening folder.shape folder.tells_free item)
        (Opening folder.shape folder.tells_free item) s xs

    -- the same with what each stop leaves
    stays_standing : (s : State) (xs : List Entry) → Stays s xs
        → Keeps (adding folder.shape item) (MayDoBeside folder.shape folder.sides item)
        (λ all s. StandsIn folder (but_for item all) s)
        (Opening folder.shape folder.tells_free item)
        (Opening folder.shape folder.tells_free item) s xs
    stays_standing s xs stays all allowed opened = let k = stays all allowed opened in (
      along_map (adding folder.shape item) (HoldsBeside folder.shape item) _ (λ all s.
          stands folder.shape is.formed folder.reads is.reading (but_for item all) s) xs all s k.0,
      k.1,
    )

    made_then : (core : List ℕ) (s : State) (xs ys : List Entry)
        → AllOwn (IsOurs folder.shape.home folder.making (Some item.made)) xs → Stays s xs
        → IsMade folder core (run_entries xs s) ys item → IsMade folder core s (xs ++ ys) item
    made_then core s xs ys does stays made = record {
      is_item = made.is_item;
      among = among_right (Own (Create item.made) Done) xs ys made.among;
      does = own_append (IsOurs folder.shape.home folder.making (Some item.made)) xs ys does
          made.does;
      keeps = λ all holds free allowed. (keeps_then (adding folder.shape item)
          (MayDoBeside folder.shape folder.sides item)
          (λ all s. StandsIn folder (but_for item all) s)
          (Opening folder.shape folder.tells_free item)
          (Opening folder.shape folder.tells_free item) (λ all s. Unit {0}) s xs ys
          (stays_standing s xs stays)
          (λ all allowed opened. (made.keeps all opened.holds opened.free allowed, tt)) all allowed
          (record { holds = holds; free = free })).0;
    }

    added_then : (core : List ℕ) (s : State) (xs ys : List Entry)
        → AllOwn (IsOurs folder.shape.home folder.making (Some item.made)) xs → Stays s xs
        → (made : IsMade folder core (run_entries xs s) ys item)
        → (ends : EndsWith folder item (run_entries xs s) ys)
        → WasAdded folder core s (xs ++ ys)
    added_then core s xs ys does stays made ends = record {
      item = item;
      made = made_then core s xs ys does stays made;
      ends = λ all holds free allowed. (keeps_then (adding folder.shape item)
          (MayDoBeside folder.shape folder.sides item)
          (λ all s. StandsIn folder (but_for item all) s)
          (Opening folder.shape folder.tells_free item)
          (Opening folder.shape folder.tells_free item) (StandsIn folder) s xs ys
          (stays_standing s xs stays)
          (λ all allowed opened. (
            made.keeps all opened.holds opened.free allowed,
            ends all opened.holds opened.free allowed,
          )) all allowed (record { holds = holds; free = free })).1;
    }

  -- what was prepared, by the entries alone
  record IsReady (s : State) (xs : List Entry) : Type 0 where
    pub does : (made : Option (List ℕ))
        → AllOwn (IsOurs folder.shape.home folder.making made) xs
    pub quiet : Keeps (with_entry folder.shape []) (MayDoTo folder.shape folder.sides)
        (Holds folder.shape) (Holds folder.shape) (Holds folder.shape) s xs
    pub stays : (fit : (item : NewItem) × IsFit folder.shape item) → Stays fit.0 s xs

  ready_of : (past new : Past)
      → (quiet : Onward (Keeps (with_entry folder.shape []) (MayDoTo folder.shape folder.sides)
      (Holds folder.shape) (Holds folder.shape) (Holds folder.shape)) past new)
      → ((made : Option (List ℕ))
      → Onward (λ s xs. AllOwn (IsOurs folder.shape.home folder.making made) xs) past new)
      → ((fit : (item : NewItem) × IsFit folder.shape item) → Onward (Stays fit.0) past new)
      → Onward IsReady past new
  ready_of past new quiet does stays = record {
    same_first = quiet.same_first;
    more = quiet.more;
    journal = quiet.journal;
    along = record {
      does = λ made. same_more past new _ quiet.more quiet.journal (does made);
      quiet = quiet.along;
      stays = λ fit. same_more past new (Stays fit.0) quiet.more quiet.journal (stays fit);
    };
  }

  prepared : (a b : Option Past) → Prepares folder a b → Grown a b IsReady
  prepared None b p = p.quiet.grown
  prepared (Some past) None p = absurd p.quiet.grown
  prepared (Some past) (Some new) p = ready_of past new p.quiet.grown (λ made. (p.does made).grown)
      (λ fit. (p.opening fit.0 fit.1).grown)

  module _ (core : List ℕ)
      (fits : (item : NewItem) → IsItemOf folder core item → IsFit folder.shape item) where
    some_then : (s : State) (xs ys : List Entry) → IsReady s xs
        → MayBeAdded folder core (run_entries xs s) ys → MayBeAdded folder core s (xs ++ ys)
    some_then s xs ys ready (inl none) =
        inl (none_then s xs ys (ready.does None) ready.quiet none)
    some_then s xs ys ready (inr some) =
        inr (
          some.0,
          made_then some.0 core s xs ys (ready.does (Some some.0.made))
              (ready.stays (some.0, fits some.0 some.1.is_item)) some.1,
        )

    pub then_some : {a b c : Option Past} {text : List ℕ} → text ≡ core → Prepares folder a b
        → AddsSome folder text b c → AddsSome folder core a c
    then_some {a} {b} {c} same first rest = record {
      grown = grown_then a b c _ _ _ (prepared a b first)
          (subst (λ (t : List ℕ). AddsSome folder t b c) same rest).grown some_then;
    }

    pub then_added : {a b c : Option Past} {text : List ℕ} → text ≡ core → Prepares folder a b
        → AddedSome folder text b c → AddedSome folder core a c
    then_added {a} {b} {c} same first rest = record {
      grown = grown_then a b c _ _ _ (prepared a b first)
          (subst (λ (t : List ℕ). AddedSome folder t b c) same rest).grown (λ s xs ys ready was.
          added_then was.item core s xs ys (ready.does (Some was.item.made))
          (ready.stays (was.item, fits was.item was.made.is_item)) was.made was.ends);
    }

  -- where nothing more was done
  pub nothing_added : (core : List ℕ) {a b : Option Past} → Prepares folder a b
      → AddsSome folder core a b
  nothing_added core p = H.none_added folder is core p.quiet (p.does None)
