-- Why a file that was left over was not taken away.
use Rattle.std.proofs.Common.{◌≡◌, ◌≢◌, ◌∙◌, ℕ, List, Option, Result, Ok, Err, Some, None, codes}
use Rattle.std.proofs.Common.{ap, false, inl, inr, refl, subst, sym}
use Rattle.std.specs.Prelude.{IfErr}
use Rattle.std.specs.Result.{IsErrAnd}
use Rattle.disk_model.specs.Journal.{Answer, Call, ListDir, Past, Remove, StatPath}
use Rattle.disk_model.specs.Judge.{Called, GoesOn, StepBy, answer_by, list_of, stat_at, stat_node}
use Rattle.disk_model.specs.Judge.{stat_of}
use Rattle.disk_model.specs.Looking.{LooksOnly}
use Rattle.disk_model.specs.Names.{names_in}
use Rattle.disk_model.specs.Refusals.{missing_refusal, refusal}
use Rattle.disk_model.specs.Tree.{TreeNode, node_at}
use Rattle.disk_model.specs.declared.answers.DiskError.{DiskError}
use Rattle.disk_model.specs.declared.answers.DiskError.TheVariants as disk
use Rattle.disk_model.specs.declared.answers.Stat.{Stat}
use Rattle.folder_core.specs.Directory.{path_in}
use Rattle.folder_core.specs.declared.error.ScanError.{ScanError}
use Rattle.folder_core.specs.declared.error.ScanError.TheVariants.{Missing}
use Rattle.folder_changes.specs.Refused.{IsBetween, IsOfTree, refused_by}
use Rattle.folder_changes.specs.declared.sync_error.SyncError.{SyncError}
use Rattle.folder_drivers.specs.MhAppend.{IsAppendCall, MhAppendRefused}
use Rattle.folder_drivers.specs.Recovered.{IsLeftCall, MissesLeft}
use Rattle.folder_stops.proofs.Along.{grown_map}
use Rattle.mh_appends.specs.Leftovers.{FailsTaking, IsLeftName, NotTaken, TakesOne, left_error}
use Rattle.mh_appends.proofs.Hushing.{At, misses_hushes, no_file}
use Rattle.mh_appends.proofs.Paths.{sides_differ}
use Rattle.mh_appends.proofs.Refusing.{told_by, told_call}
use Rattle.disk_model.specs.State.{tree_at}
use Rattle.folder_drivers.specs.MhAppend.{IsLater, MissesStep, StopsStep}
use Rattle.mh_appends.proofs.Tracing.{Hushes, NoneNew, Traces, Turns, old_reason, refused_for}
use Rattle.mh_appends.proofs.Tracing.{traces_looked}
use Rattle.mh_appends.proofs.Tracing.{traces_none, traces_own, traces_then}
use Rattle.mh_appends.proofs.Working.{own_as}

-- One of the two, behind a look.

module _ (path : List ℕ) (Needs : Call → Type 0)
    (needs : (name : List ℕ) → IsLeftName name
    → Needs (Remove (path_in path name)))
    (why : DiskError) (of_tree : IsOfTree why) (P : ℕ → ℕ → Past → Type 0)
    (turns : (name : List ℕ) → why ≢ disk.Missing
    → Turns Needs (Remove (path_in path name)) why NoneNew P) where
  not_taken : (name : List ℕ)
      → IsLeftName name → (a b c : Option Past)
      → Traces false (At no_file (path_in path name)) a b → NotTaken path name why b c
      → IsBetween P a c
  not_taken name left a b c traces not =
      refused_for Needs (Remove (path_in path name)) (needs name left) (λ tree. tt {0}) why of_tree
      NoneNew P a b c (turns name not.other)
      (old_reason (refusal (Remove (path_in path name))) a b traces) not.fails.goes

  first_taken : (a b : Option Past) → TakesOne path (codes ".mh_sequences.new") a b
      → Traces false (At no_file (path_in path (codes ".mutt_append"))) a b
  first_taken a b first = traces_own (At no_file (path_in path (codes ".mutt_append"))) a b
      (grown_map a b _ _ first.only (λ s es all. own_as _
      (Hushes (At no_file (path_in path (codes ".mutt_append")))) by es all))
    where
      by : (call : Call) (answer : Answer)
          → call ≡ Remove (path_in path (codes ".mh_sequences.new"))
          → Hushes (At no_file (path_in path (codes ".mutt_append"))) call answer
      by call answer is =
          subst (λ (other : Call).
          Hushes (At no_file (path_in path (codes ".mutt_append"))) other answer) (sym is)
          (misses_hushes no_file (path_in path (codes ".mutt_append"))
          (Remove (path_in path (codes ".mh_sequences.new"))) (sides_differ path) answer)

  pub taking_refused : (a b c : Option Past) → LooksOnly a b → FailsTaking path why b c
      → IsBetween P a c
  taking_refused a b c looked (inl not) =
      not_taken (codes ".mh_sequences.new") (inl refl) a b c (traces_looked _ a b looked) not
  taking_refused a b c looked (inr second) =
      not_taken (codes ".mutt_append") (inr refl) a second.mid c
      (traces_then _ false a b second.mid (traces_looked _ a b looked)
      (first_taken b second.mid second.first)) second.fails

-- For an append.

module _ (path : List ℕ) where
  append_needs : (name : List ℕ)
      → IsLeftName name
      → IsAppendCall path (Remove (path_in path name))
  append_needs name (inl is) = inl (ap (path_in path) is)
  append_needs name (inr is) = inr (ap (path_in path) is)

  pub look_refused : (told : SyncError) (why : DiskError) → told ≡ refused_by why
      → (a b c : Option Past) → LooksOnly a b → FailsTaking path why b c
      → IsBetween (MhAppendRefused path told) a c
  look_refused told why is a b c looked fails =
      told_by path told why a c is (λ of_tree. taking_refused path (IsAppendCall path) append_needs
      why of_tree (MissesStep path) (λ name other m n past step same that new. record {
        step = step;
        stops = subst (λ (call : Call). StopsStep call step.why) (sym that)
            (λ none. other (sym same ∙ none));
        later = λ l. absurd (subst (λ (call : Call).
            IsLater path call (tree_at past step.refused.mark)) that l);
      }) a b c looked fails)

  -- the folder could not be listed
  pub list_refused : {T : Type 0} (result : Result T SyncError) (why : DiskError)
      (a b : Option Past) → IsErrAnd result (λ told. told ≡ refused_by why)
      → Called {A = List (List ℕ)} (Err why) (ListDir path) (λ tree. list_of tree path) a b
      → IfErr result (λ told. IsBetween (MhAppendRefused path told) a b)
  list_refused (Ok given) why a b is took = tt
  list_refused (Err told) why a b is took =
      told_call path (ListDir path) refl NoneNew (λ tree l. l) told why is tt
      (λ tree. names_in tree path) a a b
      (old_reason (refusal (ListDir path)) a a (traces_none _ a)) took.goes

-- For a recovery.

abbrev stat_value : Option TreeNode → Stat
stat_value None = stat_node None 0
stat_value (Some node) = stat_node node.bytes node.stamp

stat_asked : (node : Option TreeNode)
    → stat_at node ≡ answer_by (missing_refusal node) (stat_value node)
stat_asked None = refl
stat_asked (Some node) = refl

of_missing : (why : DiskError) → left_error why ≡ Missing → IsOfTree why
of_missing disk.Missing is = tt
of_missing disk.WrongNode is = tt
of_missing disk.Exists is = tt
of_missing (disk.Long size) is = tt
of_missing disk.Fault is = absurd (cc)
of_missing disk.NoMemory is = absurd (cc)

module _ (path : List ℕ) where
  left_needs : (name : List ℕ)
      → IsLeftName name
      → IsLeftCall path (Remove (path_in path name))
  left_needs name (inl is) = inl (ap (path_in path) is)
  left_needs name (inr is) = inr (ap (path_in path) is)

  pub left_misses : (told : ScanError) (why : DiskError) → told ≡ left_error why
      → (a b c : Option Past) → LooksOnly a b → FailsTaking path why b c → told ≡ Missing
      → IsBetween (MissesLeft path) a c
  left_misses told why is a b c looked fails missing =
      taking_refused path (IsLeftCall path) left_needs why (of_missing why (sym is ∙ missing))
      (MissesLeft path) (λ name other m n past step same that new. record {
        step = step;
        looked = λ none. absurd (other (sym same ∙ none));
      }) a b c looked fails

  -- nothing stood at the path
  pub path_misses : (told : ScanError) (why : DiskError) → told ≡ left_error why
      → (a b : Option Past)
      → Called {A = Stat} (Err why) (StatPath path) (λ tree. stat_of tree path) a b
      → told ≡ Missing → IsBetween (MissesLeft path) a b
  path_misses told why is a b took missing =
      refused_for (IsLeftCall path) (StatPath path) refl
      (λ tree. stat_value (node_at tree path)) why (of_missing why (sym is ∙ missing)) NoneNew
      (MissesLeft path) a a b (λ m n past step same that new. record {
        step = step;
        looked = λ none. that;
      })
      (old_reason (refusal (StatPath path)) a a (traces_none _ a))
      (subst (λ (asks : List TreeNode → Result Stat DiskError).
      GoesOn (StepBy (Err why) (StatPath path) asks) a b)
      (λ i tree. stat_asked (node_at tree path) i) took.goes)
