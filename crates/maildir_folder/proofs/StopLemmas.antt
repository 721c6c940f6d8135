-- What a stop in a sync may leave.
use Rattle.std.proofs.Common.{◌≡◌, ◌∙◌, ◌||◌, ◌==◌, ℕ, true, false, List, [], ◌∷◌, Option}
use Rattle.std.proofs.Common.{Some, None, Result, ap, map, subst, sym}
use Rattle.std.proofs.lemmas.Bool.{and_parts, or_left, or_right}
use Rattle.std.specs.Str.{bytes_eq}
use Rattle.disk_model.specs.Tree.{TreeNode}
use Rattle.disk_model.specs.Journal.{Done, Entry, MakeDir, Others, Own, Past, Refused, SyncDir}
use Rattle.disk_model.specs.State.{State, after_done, after_entry, after_refused, state_after}
use Rattle.disk_model.specs.Judge.{Called}
use Rattle.disk_model.specs.Looking.{LooksOnly, all_look, is_look}
use Rattle.disk_model.specs.declared.answers.DiskError.{DiskError}
use Rattle.disk_model.proofs.Looking.{looks_same}
use Rattle.disk_model.proofs.Marks.{look_keeps, refusal_keeps}
use Rattle.index_items.specs.Changes.{Alters, Changed, Discards, PlainChange}
use Rattle.folder_letters.specs.Letters.{Mail, plain_letter}
use Rattle.folder_letters.specs.declared.letter.Letter.{Letter}
use Rattle.folder_core.specs.Keeping.{mail_of}
use Rattle.folder_core.specs.Maildir.{MaildirFile, base_of, directory}
use Rattle.folder_core.proofs.SeenLemmas.{goes_as}
use Rattle.folder_stops.specs.Along.{Keeps}
use Rattle.folder_stops.specs.Messages.{StoredMessage}
use Rattle.folder_stops.specs.Others.{MayDoTo, with_entry}
use Rattle.folder_stops.specs.Rows.{Holds}
use Rattle.folder_stops.specs.Syncs.{KeepsHolds, Syncing}
use Rattle.folder_stops.specs.Words.{has}
use Rattle.folder_stops.proofs.Words.{same}
use Rattle.folder_stops.proofs.Syncs as S
use Rattle.folder_stops.specs.Does.{Does}
use Rattle.folder_stops.proofs.Does.{does_call, does_looked, does_none, does_then}
use Rattle.folder_shapes.specs.Maildir.{maildir_files, maildir_making, maildir_shape}
use Rattle.folder_shapes.proofs.Nodes.{behind_there}
use Rattle.folder_core.specs.Directory.{front_of}
use Rattle.std.specs.Prelude.{codes, is_some}
use Rattle.folder_shapes.proofs.MaildirLemmas.{a_maildir, maildir_formed, slot_new, slot_of}
use Rattle.maildir_folder.specs.Steps.{AreSteps, IsStep, IsStepOf, KeepsAllBut, LeavesAll}
use Rattle.maildir_folder.specs.Steps.{MayChange, PlainStep, call_by, call_of}
use Rattle.folder_changes.specs.Asked.{discarded}
use Rattle.folder_changes.specs.Asked.{with_discarded}
use Rattle.maildir_folder.proofs.StepLemmas.{looks_did, nothing_then}

-- Stretches, one behind the other.

-- nothing was called
pub keeps_first : (path : List ℕ) (keys : List (List ℕ)) (told : Option Past)
    → KeepsAllBut path keys told told
keeps_first path keys told = record {
  holds = S.begun (maildir_shape path) [] keys (maildir_formed path) told;
  here = does_none (maildir_shape path).home (maildir_making path) None told;
}

-- one stretch behind another
pub keeps_then : (path : List ℕ) (keys : List (List ℕ)) (old mid new : Option Past)
    → KeepsAllBut path keys old mid → KeepsAllBut path keys mid new
    → KeepsAllBut path keys old new
keeps_then path keys old mid new first rest = record {
  holds = S.joined (maildir_shape path) [] keys first.holds rest.holds;
  here = does_then (maildir_shape path).home (maildir_making path) None first.here rest.here;
}

module _ (path : List ℕ) (keys : List (List ℕ)) where
  still : (s t : State) (all : List StoredMessage) → t ≡ s → Syncing (maildir_shape path) keys all s
      → Syncing (maildir_shape path) keys all t
  still s t all e is = subst (Syncing (maildir_shape path) keys all) (sym e) is

  -- entries in which we changed nothing, with what others do
  quiet : (entries : List Entry) (s : State) → all_look entries ≡ true
      → Keeps (with_entry (maildir_shape path) keys) (MayDoTo (maildir_shape path) [])
      (Holds (maildir_shape path)) (Syncing (maildir_shape path) keys)
      (Syncing (maildir_shape path) keys) s entries
  quiet [] s look all may is = (is.holds, is)
  quiet (Own call Done ∷ entries) s look all may is =
      let both = and_parts (is_look call) (all_look entries) look in
      let rest = quiet entries (after_done call s) both.1 all may
      (still s (after_done call s) all (look_keeps call s both.0) is) in
      ((is.holds, rest.0), rest.1)
  quiet (Own call (Refused why wrote) ∷ entries) s look all may is =
      let both = and_parts (is_look call || wrote == 0) (all_look entries) look in
      let rest = quiet entries (after_refused call wrote s) both.1 all may
      (still s (after_refused call wrote s) all (refusal_keeps call wrote s both.0) is) in
      ((is.holds, rest.0), rest.1)
  quiet (Others action ∷ entries) s look all may is =
      let both = and_parts true (all_look entries) look in
      let stage = S.syncing_stage (maildir_shape path) [] keys (maildir_formed path) in
      let rest = quiet entries (after_entry s (Others action)) both.1
      (with_entry (maildir_shape path) keys (Others action) s all) may.1
      (stage.stable action all s may.0 is) in
      ((is.holds, rest.0), rest.1)

  -- looks leave all messages
  pub keeps_looked : (old new : Option Past) → LooksOnly old new → KeepsAllBut path keys old new
  keeps_looked old new looks = record {
    holds = record {
      grown = goes_as old new (λ p q looked. record {
        same_first = looked.same_first;
        more = looked.more;
        journal = looked.journal;
        along = quiet looked.more (state_after p) looked.look;
      }) looks;
    };
    here = does_looked (maildir_shape path).home (maildir_making path) None looks;
  }

-- Parts that do nothing to the messages.

-- looks leave all messages
pub leaves_looked : (path : List ℕ) (old new : Option Past) → LooksOnly old new
    → LeavesAll path old new
leaves_looked path old new looks = record {
  does = looks_did path old new looks;
  holds = λ keys. keeps_looked path keys old new looks;
}

-- nothing was called
pub leaves_first : (path : List ℕ) (told : Option Past) → LeavesAll path told told
leaves_first path told = leaves_looked path told told (looks_same told)

-- one part behind another
pub leaves_then : (path : List ℕ) (old mid new : Option Past) → LeavesAll path old mid
    → LeavesAll path mid new → LeavesAll path old new
leaves_then path old mid new first next = record {
  does = nothing_then path old mid new first.does next.does;
  holds = λ keys. keeps_then path keys old mid new (first.holds keys) (next.holds keys);
}

-- a path by another name
pub leaves_at : (at path : List ℕ) (old new : Option Past) → at ≡ path → LeavesAll at old new
    → LeavesAll path old new
leaves_at at path old new is leaves =
    subst (λ (p : List ℕ). LeavesAll p old new) is leaves

-- the directory `new` is inside the folder
home_directory : (path : List ℕ) → (maildir_shape path).home (directory false path) ≡ true
home_directory path = ap is_some (behind_there (front_of path) (codes "new"))

-- Calls.

module _ {result : Result (Unit {0}) DiskError}
    {wanted : List TreeNode → Result (Unit {0}) DiskError} {old new : Option Past} where
  -- the directory `new` is made
  pub keeps_made : (path dir : List ℕ) (keys : List (List ℕ)) → dir ≡ directory false path
      → Called result (MakeDir dir) wanted old new → KeepsAllBut path keys old new
  keeps_made path dir keys is took = record {
    holds = S.folder_made (maildir_shape path) [] keys (maildir_formed path)
        (ap (maildir_shape path).slot is ∙ slot_new path) took;
    here = does_call (maildir_shape path).home (maildir_making path) None took
        (ap (maildir_shape path).home is ∙ home_directory path) tt;
  }

  -- names are put on the disk
  pub keeps_named : (path dir : List ℕ) (keys : List (List ℕ))
      → Called result (SyncDir dir) wanted old new → KeepsAllBut path keys old new
  keeps_named path dir keys took = record {
    holds = S.synced_dir (maildir_shape path) [] keys (maildir_formed path) took;
    here = does_call (maildir_shape path).home (maildir_making path) None took tt tt;
  }

  keeps_by : (path : List ℕ) (file : MaildirFile) (change : PlainChange) (keys : List (List ℕ))
      (from : List ℕ) (to : Option (List ℕ))
      → IsStep path file change (record { from = from; to = to })
      → MayChange keys (base_of file) change → Called result (call_by from to) wanted old new
      → KeepsAllBut path keys old new
  keeps_by path file (Alters added cleared) keys from None is may took = absurd is.to
  keeps_by path file (Alters added cleared) keys from (Some to) is may took =
      let at_from : (maildir_shape path).slot from ≡ Some (base_of file) =
      ap (maildir_shape path).slot is.from ∙ slot_of path file.in_cur file.name is.shown in
      let at_to : (maildir_shape path).slot to ≡ Some (base_of file) =
      ap (maildir_shape path).slot is.to.goes
      ∙ slot_of path is.to.target.in_cur is.to.target.name is.to.shown
      ∙ ap Some is.to.base in
      record {
        holds = S.renamed (maildir_shape path) [] keys (maildir_formed path) at_from at_to took;
        here = does_call (maildir_shape path).home (maildir_making path) None took (
          (maildir_formed path).inside from (base_of file) at_from,
          (maildir_formed path).inside to (base_of file) at_to,
        ) tt;
      }
  keeps_by path file Discards keys from (Some to) is may took = absurd is.to
  keeps_by path file Discards keys from None is may took =
      let at_from : (maildir_shape path).slot from ≡ Some (base_of file) =
      ap (maildir_shape path).slot is.from ∙ slot_of path file.in_cur file.name is.shown in
      record {
        holds = S.removed (maildir_shape path) [] keys (maildir_formed path) at_from may took;
        here = does_call (maildir_shape path).home (maildir_making path) None took
            ((maildir_formed path).inside from (base_of file) at_from) tt;
      }

  -- a step, whatever its answer
  pub keeps_step : (path base : List ℕ) (change : PlainChange) (keys : List (List ℕ))
      (step : PlainStep) → IsStepOf path base change step → MayChange keys base change
      → Called result (call_of step) wanted old new → KeepsAllBut path keys old new
  keeps_step path base change keys step is may took =
      keeps_by path is.file change keys step.from step.to is.does
      (subst (λ (b : List ℕ). MayChange keys b change) (sym is.named) may) took

-- Steps.

-- each of these messages may change so
abbrev pub MayAll : List (List ℕ) → List Mail → List Changed → Type 0
MayAll keys mails [] = Unit {0}
MayAll keys mails (changed ∷ changes) =
    MayChange keys (mail_of mails changed.id.0).key changed.change × MayAll keys mails changes

may_more : (key : List ℕ) (one : PlainChange) (keys : List (List ℕ)) (mails : List Mail)
    (changes : List Changed) → MayAll keys mails changes
    → MayAll (with_discarded key one keys) mails changes
may_more key one keys mails [] all = tt
may_more key one keys mails (changed ∷ changes) all =
    (by one changed.change all.0, may_more key one keys mails changes all.1)
  where
    by : (one change : PlainChange) → MayChange keys (mail_of mails changed.id.0).key change
        → MayChange (with_discarded key one keys) (mail_of mails changed.id.0).key change
    by one (Alters added cleared) may = tt
    by (Alters added cleared) Discards may = may
    by Discards Discards may =
        or_right (bytes_eq key (mail_of mails changed.id.0).key)
        (has keys (mail_of mails changed.id.0).key) may

may_discarded : (mails : List Mail) (changes : List Changed)
    → MayAll (discarded mails changes) mails changes
may_discarded mails [] = tt
may_discarded mails (changed ∷ changes) = (
  by changed.change,
  may_more (mail_of mails changed.id.0).key changed.change (discarded mails changes) mails changes
      (may_discarded mails changes),
)
  where
    by : (change : PlainChange)
        → MayChange
        (with_discarded (mail_of mails changed.id.0).key change (discarded mails changes))
        (mail_of mails changed.id.0).key change
    by (Alters added cleared) = tt
    by Discards =
        or_left (bytes_eq (mail_of mails changed.id.0).key (mail_of mails changed.id.0).key)
        (has (discarded mails changes) (mail_of mails changed.id.0).key)
        (same (mail_of mails changed.id.0).key)

-- the steps that are left are of changes that may be, and so far the messages were kept
pub record HeldSoFar (path : List ℕ) (keys : List (List ℕ)) (mails : List Mail)
    (left : List PlainStep) (old now : Option Past) : Type 0 where
  pub rest : List Changed
  pub steps : AreSteps path mails rest left
  pub may : MayAll keys mails rest
  pub held : KeepsAllBut path keys old now

-- no step is taken
pub held_first : (path : List ℕ) (mails : List Mail) (changes : List Changed)
    (steps : List PlainStep) (told : Option Past) → AreSteps path mails changes steps
    → HeldSoFar path (discarded mails changes) mails steps told told
held_first path mails changes steps told are = record {
  rest = changes;
  steps = are;
  may = may_discarded mails changes;
  held = keeps_first path (discarded mails changes) told;
}

-- one step more, whatever its answer
pub held_more : (path : List ℕ) (keys : List (List ℕ)) (mails : List Mail) (step : PlainStep)
    (all left : List PlainStep) (old now next : Option Past) → all ≡ step ∷ left
    → HeldSoFar path keys mails all old now
    → ((path base : List ℕ) (change : PlainChange) (keys : List (List ℕ))
    → IsStepOf path base change step → MayChange keys base change
    → KeepsAllBut path keys now next)
    → HeldSoFar path keys mails left old next
held_more path keys mails step all left old now next whole so_far holds =
    by so_far.rest so_far.may
    (subst (λ (l : List PlainStep). AreSteps path mails so_far.rest l) whole so_far.steps)
  where
    by : (rest : List Changed) → MayAll keys mails rest
        → AreSteps path mails rest (step ∷ left) → HeldSoFar path keys mails left old next
    by [] may are = absurd are
    by (changed ∷ rest) may are = record {
      rest = rest;
      steps = are.1;
      may = may.1;
      held = keeps_then path keys old now next so_far.held
          (holds path (mail_of mails changed.id.0).key changed.change keys are.0 may.0);
    }

-- The whole.

-- what was kept, by the letters as a slice
pub holds_letters : (slice letters : List Letter) (changes : List Changed) (path : List ℕ)
    (old new : Option Past) → slice ≡ letters
    → KeepsAllBut path (discarded (map plain_letter slice) changes) old new
    → KeepsHolds (maildir_files path) (discarded (map plain_letter letters) changes) old new
holds_letters slice letters changes path old new is kept =
    S.kept_holds (maildir_files path) (discarded (map plain_letter letters) changes)
    (a_maildir path)
    (subst (λ (l : List Letter). KeepsAllBut path (discarded (map plain_letter l) changes) old new)
    is kept).holds

-- our calls changed the folder alone
pub here_only : (path : List ℕ) (keys : List (List ℕ)) {old new : Option Past}
    → KeepsAllBut path keys old new
    → Does (maildir_files path).shape.home (maildir_files path).making None old new
here_only path keys kept = kept.here

-- nothing was called
pub holds_first : (path : List ℕ) (keys : List (List ℕ)) (told : Option Past)
    → KeepsHolds (maildir_files path) keys told told
holds_first path keys told =
    S.kept_holds (maildir_files path) keys (a_maildir path) (keeps_first path keys told).holds
