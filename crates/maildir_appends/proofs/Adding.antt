-- The calls that put one message into a Maildir.
use Rattle.std.proofs.Common.{Err, List, None, Ok, Option, Result, Some, [], false, inr}
use Rattle.std.proofs.Common.{OnOk, ap, refl, true, ℕ, ◌∙◌, ◌≡◌}
use Rattle.disk_model.specs.Tree.{TreeNode}
use Rattle.disk_model.specs.Journal.{Call, Create, Done, Past, Rename, Sync, SyncDir}
use Rattle.disk_model.specs.Journal.{WriteAt}
use Rattle.disk_model.specs.State.{State}
use Rattle.disk_model.specs.Judge.{Called}
use Rattle.disk_model.specs.declared.answers.DiskError.{DiskError}
use Rattle.folder_stops.specs.Appends.{AddLeads, AddedSome, AddsSome, IsFit, IsItemOf, MakesIn}
use Rattle.folder_stops.specs.Appends.{NewItem, Opening}
use Rattle.folder_stops.specs.Does.{Does, IsWithin, MakesAt}
use Rattle.folder_stops.specs.Messages.{StoredMessage}
use Rattle.folder_stops.specs.Rows.{Holds}
use Rattle.folder_stops.specs.Shape.{IsWellFormed}
use Rattle.folder_stops.proofs.Does.{does_call, does_refused, does_then}
use Rattle.folder_stops.proofs.Words.{same}
use Rattle.folder_stops.proofs.Appends as H
use Rattle.folder_shapes.specs.Maildir.{maildir_files, maildir_making, maildir_shape}
use Rattle.folder_shapes.proofs.MaildirLemmas.{a_maildir, maildir_formed}
use Rattle.maildir_appends.proofs.Paths.{item_fits, made_side}
use Rattle.maildir_appends.specs.Placing.{IsPlaced, PutsAt}
use Rattle.disk_model.specs.Journal.{Own}
use Rattle.disk_model.specs.Judge.{Grows}
use Rattle.disk_model.proofs.Looking.{grows_then}
use Rattle.folder_stops.specs.Words.{Among}
use Rattle.folder_stops.proofs.Along.{grown_map, grown_then}
use Rattle.folder_stops.proofs.Among.{among_left, among_more, among_right, done_among}
use Rattle.std.proofs.Common.{subst}

-- the making of its file was refused
pub not_begun : (dir core : List ℕ) {e : DiskError} {beside key : List ℕ}
    {wanted : List TreeNode → Result (Unit {0}) DiskError} {a b : Option Past}
    → maildir_making dir beside ≡ Some key → Called (Err e) (Create beside) wanted a b
    → AddsSome (maildir_files dir) core a b
not_begun dir core {beside = beside} {key = key} made took =
    H.none_added (maildir_files dir) (a_maildir dir) core
    (H.quiet_not_made (maildir_shape dir) [] (maildir_formed dir) took)
    (does_refused (maildir_shape dir).home (maildir_making dir) None took
    (made_side dir beside key made).inside)

module _ (dir core beside place : List ℕ) (is : IsPlaced dir beside place) where
  abbrev pub item : NewItem
  item = record { key = is.key; core = core; beside = beside; place = place; made = beside }

  pub is_item : IsItemOf (maildir_files dir) core item
  is_item = record {
    core_is = refl;
    making_is = is.made;
    place_is = is.placed;
    beside_is = refl;
  }

  pub fit : IsFit (maildir_shape dir) item
  fit = item_fits dir core item is_item

  pub formed : IsWellFormed (maildir_shape dir)
  formed = maildir_formed dir

  inside : (maildir_shape dir).home beside ≡ true
  inside = fit.side.inside

  -- The message began, and this is so of its file.
  pub record HasBegun (Y : List StoredMessage → State → Type 0) (a b : Option Past) : Type 0 where
    pub makes : MakesIn beside a b
    pub does : Does (maildir_shape dir).home (maildir_making dir) (Some beside) a b
    pub leads : AddLeads (maildir_shape dir) [] item a b (Opening (maildir_shape dir) false item) Y

  pub may_be_added : {Y : List StoredMessage → State → Type 0} {a b : Option Past} → HasBegun Y a b
      → AddsSome (maildir_files dir) core a b
  may_be_added begun = H.some_added (maildir_files dir) (a_maildir dir) core item is_item
      begun.makes begun.does begun.leads

  pub was_added : {a b : Option Past} → HasBegun (Holds (maildir_shape dir)) a b
      → AddedSome (maildir_files dir) core a b
  was_added begun = H.item_added (maildir_files dir) (a_maildir dir) core item is_item begun.makes
      begun.does begun.leads

  -- one more call
  further : {Y Z : List StoredMessage → State → Type 0} {result : Result (Unit {0}) DiskError}
      {call : Call} {wanted : List TreeNode → Result (Unit {0}) DiskError} {a b c : Option Past}
      → IsWithin (maildir_shape dir).home call
      → MakesAt (maildir_making dir) (Some beside) Done call → HasBegun Y a b
      → Called result call wanted b c → AddLeads (maildir_shape dir) [] item b c Y Z
      → HasBegun Z a c
  further within makes begun took leads = record {
    makes = H.makes_then begun.makes took;
    does = does_then (maildir_shape dir).home (maildir_making dir) (Some beside) begun.does
        (does_call (maildir_shape dir).home (maildir_making dir) (Some beside) took within makes);
    leads = H.joined (maildir_shape dir) [] item begun.leads leads;
  }

  module _ {wanted : List TreeNode → Result (Unit {0}) DiskError} {a b : Option Past} where
    pub begun : {v : Unit {0}} → Called (Ok v) (Create beside) wanted a b
        → HasBegun (H.Empty (maildir_shape dir) [] item formed fit) a b
    begun took = record {
      makes = H.made_in took;
      does = does_call (maildir_shape dir).home (maildir_making dir) (Some beside) took inside
          (inr refl);
      leads = H.made_first (maildir_shape dir) [] item formed fit {tells = false} refl
          (same beside) took;
    }

    module _ {c : Option Past} where
      pub not_written : {e : DiskError} → HasBegun (H.Empty (maildir_shape dir) [] item formed fit)
          a b → Called (Err e) (WriteAt beside 0 core) wanted b c
          → HasBegun (H.Readied (maildir_shape dir) [] item formed fit) a c
      not_written so_far took = further inside tt so_far took
          (H.not_written (maildir_shape dir) [] item formed fit took)

      pub written : {v : Unit {0}} → HasBegun (H.Empty (maildir_shape dir) [] item formed fit) a b
          → Called (Ok v) (WriteAt beside 0 core) wanted b c
          → HasBegun (H.Written (maildir_shape dir) [] item formed fit) a c
      written so_far took = further inside tt so_far took
          (H.was_written (maildir_shape dir) [] item formed fit took)

      pub not_synced : {e : DiskError} → HasBegun (H.Written (maildir_shape dir) [] item formed fit)
          a b → Called (Err e) (Sync beside) wanted b c
          → HasBegun (H.Written (maildir_shape dir) [] item formed fit) a c
      not_synced so_far took = further inside tt so_far took
          (H.not_done (maildir_shape dir) [] item
          (H.made_stage (maildir_shape dir) [] item formed fit _) (λ wrote s. refl) took)

      pub synced : {v : Unit {0}} → HasBegun (H.Written (maildir_shape dir) [] item formed fit) a b
          → Called (Ok v) (Sync beside) wanted b c
          → HasBegun (H.Lasting (maildir_shape dir) [] item formed fit) a c
      synced so_far took = further inside tt so_far took
          (H.was_synced (maildir_shape dir) [] item formed fit took)

      pub not_named : {e : DiskError} → HasBegun (H.Lasting (maildir_shape dir) [] item formed fit)
          a b → Called (Err e) (Rename beside place) wanted b c
          → HasBegun (H.Lasting (maildir_shape dir) [] item formed fit) a c
      not_named so_far took =
          further (inside, formed.inside place is.key is.placed) tt so_far took
          (H.not_done (maildir_shape dir) [] item
          (H.made_stage (maildir_shape dir) [] item formed fit _) (λ wrote s. refl) took)

      pub named : {v : Unit {0}} → HasBegun (H.Lasting (maildir_shape dir) [] item formed fit) a b
          → Called (Ok v) (Rename beside place) wanted b c
          → HasBegun (H.Named (maildir_shape dir) [] item formed fit) a c
      named so_far took = further (inside, formed.inside place is.key is.placed) tt so_far took
          (H.was_named (maildir_shape dir) [] item formed fit is.placed took)

      pub not_kept : {e : DiskError} {directory : List ℕ}
          → HasBegun (H.Named (maildir_shape dir) [] item formed fit) a b
          → Called (Err e) (SyncDir directory) wanted b c
          → HasBegun (H.Named (maildir_shape dir) [] item formed fit) a c
      not_kept so_far took = further tt tt so_far took
          (H.not_done (maildir_shape dir) [] item
          (H.named_stage (maildir_shape dir) [] item formed fit) (λ wrote s. refl) took)

      pub kept : {v : Unit {0}} {directory : List ℕ}
          → HasBegun (H.Named (maildir_shape dir) [] item formed fit) a b
          → Called (Ok v) (SyncDir directory) wanted b c
          → HasBegun (Holds (maildir_shape dir)) a c
      kept so_far took = further tt tt so_far took
          (H.was_kept (maildir_shape dir) [] item formed fit took)

      pub still_kept : {result : Result (Unit {0}) DiskError} {directory : List ℕ}
          → HasBegun (Holds (maildir_shape dir)) a b
          → Called result (SyncDir directory) wanted b c
          → HasBegun (Holds (maildir_shape dir)) a c
      still_kept so_far took = further tt tt so_far took
          (H.still_kept (maildir_shape dir) [] item formed fit took)

-- the same places by other words for their paths
pub placed_as : {dir a b c d : List ℕ} → c ≡ a → d ≡ b → IsPlaced dir a b → IsPlaced dir c d
placed_as {dir} e f is = record {
  key = is.key;
  made = ap (maildir_making dir) e ∙ is.made;
  placed = ap (maildir_shape dir).slot f ∙ is.placed;
}

pub on_ok : {T E P : Type 0} (result : Result T E) → P → OnOk result P
on_ok (Ok v) p = p
on_ok (Err e) p = tt

-- Which calls were made.

-- the file was made, written, put on the disk, and got its name
pub puts_at : {beside place at to : List ℕ} {v w : Unit {0}}
    {made named : List TreeNode → Result (Unit {0}) DiskError} {a b d e h : Option Past}
    (c f : Option Past) → at ≡ beside → to ≡ place → Called (Ok v) (Create at) made a b → Grows b c
    → Grows c d
    → Called (Ok w) (Rename at to) named d e → Grows e f → Grows f h → PutsAt beside place a h
puts_at {beside} {place} {at} {to} {a = a} {b = b} {d = d} {e = e} {h = h} c f
    is_at is_to makes writes syncs names keeps keeps_more = record {
      grown = grown_map a h _ _
          (grown_then a d h _ _ (λ s es. Among (Own (Create at) Done) es
          × Among (Own (Rename at to) Done) es)
          (among_more (Own (Create at) Done) a b d (done_among makes)
          (grows_then b c d writes syncs))
          (among_more (Own (Rename at to) Done) d e h (done_among names)
          (grows_then e f h keeps keeps_more))
          (λ s xs ys first rest. (
            among_left (Own (Create at) Done) xs ys first,
            among_right (Own (Rename at to) Done) xs ys rest,
          )))
          (λ s es both. (
            subst (λ (p : List ℕ). Among (Own (Create p) Done) es) is_at both.0,
            subst (λ (p : List ℕ). Among (Own (Rename p place) Done) es) is_at
                (subst (λ (p : List ℕ). Among (Own (Rename at p) Done) es) is_to both.1),
          ));
    }
