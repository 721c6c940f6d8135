-- Side files that are removed, or are not there.
use Rattle.std.proofs.Common.{◌≡◌, ℕ, Bool, true, false, List, Option, Some, None, Result, Ok, Err}
use Rattle.std.proofs.Common.{◌+◌, [], append-nil, arith, is_none, length, refl, sym, ◌∙◌, ap}
use Rattle.std.proofs.Common.{subst, if◌then◌else◌}
use Rattle.disk_model.specs.Journal.{Answer, Own, Past, Remove}
use Rattle.disk_model.specs.Judge.{Called, Grows, OneStep, answer_by, done_by}
use Rattle.disk_model.specs.Refusals.{file_refusal}
use Rattle.disk_model.specs.State.{State, after_entry, state_at, tree_at, tree_of}
use Rattle.disk_model.specs.Tree.{TreeNode, is_root, node_at}
use Rattle.disk_model.specs.declared.answers.DiskError.{DiskError}
use Rattle.disk_model.specs.declared.answers.DiskError.TheVariants.{Missing, WrongNode}
use Rattle.disk_model.proofs.Marks.{met_at}
use Rattle.folder_core.specs.Directory.{path_in}
use Rattle.folder_core.proofs.NamesIn.{path_is_in}
use Rattle.folder_core.proofs.SeenLemmas.{goes_as}
use Rattle.std.specs.Prelude.{OnOk}
use Rattle.folder_changes.specs.declared.sync_error.SyncError.{SyncError}
use Rattle.mh_syncs.specs.Met.{IsGone, MetAt}
use Rattle.mh_syncs.specs.Names.{IsSideName}
use Rattle.mh_syncs.proofs.Marking.{step_mark, step_next}
use Rattle.mh_syncs.proofs.Meeting.{met_earlier, met_later}
use Rattle.folder_drivers.proofs.Touching.{removed_node}

-- a file that was removed is gone behind it
pub removed_is_gone : (path at name : List ℕ) (old new : Option Past) → IsSideName name
    → at ≡ path_in path name
    → Called {A = Unit {0}} (Ok tt) (Remove at) (done_by (Remove at)) old new
    → IsGone (path_in path name) old new
removed_is_gone path at name old new side is took =
    subst (λ (p : List ℕ). IsGone p old new) is
    (goes_as old new (λ p q step. by p q step) took.goes)
  where
    no_root : is_root at ≡ false
    no_root = ap is_root is ∙ (path_is_in path name side.named).no_root

    by : (p q : Past) → OneStep {A = Unit {0}} (Ok tt) (Remove at) (done_by (Remove at)) p q
        → MetAt (λ tree. node_at tree at ≡ None) (length p.journal) (length q.journal) q
    by p q step =
        let m = step_mark (Ok tt) (Remove at) (done_by (Remove at)) p q q step
        (record { same_first = refl; more = []; journal = sym (append-nil q.journal) }) in
        record {
          mark = m.at + 1;
          from = omega (arith, m.from);
          to = omega (arith, m.next);
          is = ap (λ (s : State). node_at (tree_of s) at)
              (step_next m ∙ ap (λ (a : Answer). after_entry (state_at q m.at) (Own (Remove at) a))
              step.answered)
              ∙ removed_node at (state_at q m.at) no_root;
        }

-- what is missing where a removal is refused so
missing_node : (node : Option TreeNode)
    → ◌≡◌ {A = Result (Unit {0}) DiskError} (Err Missing) (answer_by (file_refusal node) tt)
    → node ≡ None
missing_node None is = refl
missing_node (Some node) is = by (is_none node.bytes) is
  where
    by : (t : Bool) → ◌≡◌ {A = Result (Unit {0}) DiskError} (Err Missing)
        (answer_by (if t then Some WrongNode else None) tt) → Some node ≡ None
    by true is = absurd (cc)
    by false is = absurd (cc)

pub missing_is_gone : (path at name : List ℕ) (why : DiskError) (old new : Option Past)
    → why ≡ Missing → at ≡ path_in path name
    → Called {A = Unit {0}} (Err why) (Remove at) (done_by (Remove at)) old new
    → IsGone (path_in path name) old new
missing_is_gone path at name why old new missing is took =
    subst (λ (p : List ℕ). IsGone p old new) is
    (goes_as old new (λ p q step. by p q step)
    (subst (λ (w : DiskError). Called {A = Unit {0}} (Err w) (Remove at) (done_by (Remove at)) old
    new) missing took).goes)
  where
    by : (p q : Past) → OneStep {A = Unit {0}} (Err Missing) (Remove at) (done_by (Remove at)) p q
        → MetAt (λ tree. node_at tree at ≡ None) (length p.journal) (length q.journal) q
    by p q step =
        let m = met_at (Err Missing) (Remove at) (done_by (Remove at)) p q step in record {
          mark = m.mark;
          from = m.from;
          to = m.to;
          is = missing_node (node_at (tree_at q m.mark) at) m.judged;
        }

pub gone_later : (path : List ℕ) (a b c : Option Past) → IsGone path a b → Grows b c
    → IsGone path a c
gone_later path a b c gone grows = met_later (λ tree. node_at tree path ≡ None) a b c gone grows

pub gone_earlier : (path : List ℕ) (a b c : Option Past) → Grows a b → IsGone path b c
    → IsGone path a c
gone_earlier path a b c grows gone =
    met_earlier (λ tree. node_at tree path ≡ None) a b c grows gone

pub on_ok : {P : Type 0} (result : Result (Unit {0}) SyncError) → P → OnOk result P
on_ok (Ok done) is = is
on_ok (Err why) is = tt

pub gone_if : (path : List ℕ) (result : Result (Unit {0}) SyncError) (a b c : Option Past)
    → Grows a b → OnOk result (IsGone path b c) → OnOk result (IsGone path a c)
gone_if path (Ok done) a b c grows gone = gone_earlier path a b c grows gone
gone_if path (Err why) a b c grows gone = tt
