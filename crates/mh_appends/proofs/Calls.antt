-- Which calls of ours were done, one behind another, and what a file held that was read.
use Rattle.std.proofs.Common.{◌≡◌, ◌++◌, ◌∷◌, ◌∙◌, [], Bool, true, false, ℕ, List, Option, Some}
use Rattle.std.proofs.Common.{None}
use Rattle.std.proofs.Common.{Result, Ok, Err, ap, if◌then◌else◌, inl, inr, length, map}
use Rattle.std.proofs.Common.{nat_lt, option_and_then, refl, subst, sym, unwrap_or}
use Rattle.disk_model.specs.Tree.{TreeNode, node_at}
use Rattle.disk_model.specs.Journal.{Answer, Call, Create, Done, Entry, Others, Own, Past}
use Rattle.disk_model.specs.Journal.{ReadAll, Sync, WriteAt}
use Rattle.disk_model.specs.Judge.{Called, GoesOn, OneStep, done_by, read_at}
use Rattle.disk_model.specs.Judge.{read_node, read_of, stat_node}
use Rattle.disk_model.specs.State.{State, run_entries, state_after, state_of, tree_of}
use Rattle.disk_model.specs.declared.answers.DiskError.{DiskError}
use Rattle.disk_model.specs.declared.answers.DiskError.TheVariants as disk
use Rattle.disk_model.specs.declared.answers.Stat.{Stat}
use Rattle.disk_model.proofs.Runs.{run_entries-append}
use Rattle.folder_core.specs.Directory.{file_at, node_file}
use Rattle.folder_drivers.specs.MhAppend.{AreDone, calls_writing}
use Rattle.folder_stops.specs.Along.{Grown, Onward}
use Rattle.disk_model.specs.Journal.{Action, Refused}
use Rattle.folder_stops.specs.Does.{AllOwn}
use Rattle.folder_stops.proofs.Along.{IsRefused, done_grown, grown_map, grown_then, judged_grown}
use Rattle.folder_stops.proofs.Along.{refused_grown}
use Rattle.mh_appends.specs.Replacing.{AreBytes, FoundFile, WasDone, WritesFile, WroteFile}
use Rattle.mail_base.specs.Series.{Held}
use Rattle.std.specs.Prelude.{IfErr, IfOk, OnOk}
use Rattle.mh_appends.specs.Replacing.{ReadsFile}

-- The calls.

pub behind_all : (calls : List Call) (xs ys : List Entry) → AreDone calls ys
    → AreDone calls (xs ++ ys)
behind_all [] xs ys done = tt
behind_all (call ∷ calls) [] ys done = done
behind_all (call ∷ calls) (x ∷ xs) ys done = inr (behind_all (call ∷ calls) xs ys done)

pub before_all : (calls : List Call) (xs ys : List Entry) → AreDone calls xs
    → AreDone calls (xs ++ ys)
before_all [] xs ys done = tt
before_all (call ∷ calls) [] ys done = absurd done
before_all (call ∷ calls) (x ∷ xs) ys (inl first) =
    inl (first.0, before_all calls xs ys first.1)
before_all (call ∷ calls) (x ∷ xs) ys (inr later) =
    inr (before_all (call ∷ calls) xs ys later)

-- calls behind calls
pub both_done : (first next : List Call) (xs ys : List Entry) → AreDone first xs → AreDone next ys
    → AreDone (first ++ next) (xs ++ ys)
both_done [] next xs ys done more = behind_all next xs ys more
both_done (call ∷ first) next [] ys done more = absurd done
both_done (call ∷ first) next (x ∷ xs) ys (inl is) more =
    inl (is.0, both_done first next xs ys is.1 more)
both_done (call ∷ first) next (x ∷ xs) ys (inr later) more =
    inr (both_done (call ∷ first) next xs ys later more)

pub one_done : {call : Call} {a b : Option Past} → WasDone call a b
    → Grown a b (λ s es. AreDone (call ∷ []) es)
one_done {call} {a} {b} took =
    grown_map a b _ _ (done_grown tt call _ a b took.goes)
    (λ s es is. subst (AreDone (call ∷ [])) (sym is.1)
    (behind_all (call ∷ []) (map Others is.0) (Own call Done ∷ []) (inl (refl, tt))))

pub done_then : (first next : List Call) (a b c : Option Past)
    → Grown a b (λ s es. AreDone first es) → Grown b c (λ s es. AreDone next es)
    → Grown a c (λ s es. AreDone (first ++ next) es)
done_then first next a b c one two = grown_then a b c _ _ _ one two
    (λ s xs ys done more. both_done first next xs ys done more)

pub wrote_done : (at bytes : List ℕ) (a b : Option Past) → WroteFile at bytes a b
    → Grown a b (λ s es. AreDone (calls_writing at bytes) es)
wrote_done at bytes a b wrote =
    done_then (Create at ∷ []) (WriteAt at 0 bytes ∷ Sync at ∷ []) a wrote.made b
    (one_done wrote.creates)
    (done_then (WriteAt at 0 bytes ∷ []) (Sync at ∷ []) wrote.made wrote.wrote b
    (one_done wrote.writes) (one_done wrote.syncs))

pub own_step : (Q : Call → Answer → Type 0) (actions : List Action) (call : Call) (answer : Answer)
    → Q call answer → AllOwn Q (map Others actions ++ Own call answer ∷ [])
own_step Q [] call answer is = (is, tt)
own_step Q (action ∷ actions) call answer is = own_step Q actions call answer is

own_refused : (Q : Call → Answer → Type 0) (call : Call) (s : State) (es : List Entry)
    → ((answer : Answer) → Q call answer) → IsRefused call s es → AllOwn Q es
own_refused Q call s es is (inl none) = subst (AllOwn Q) (sym none) tt
own_refused Q call s es is (inr some) =
    subst (AllOwn Q) (sym some.3)
    (own_step Q some.0 call (Refused some.1 some.2) (is (Refused some.1 some.2)))

-- each call of ours in what it adds is so, whatever it answers
pub only_call : {T : Type 0} (Q : Call → Answer → Type 0) (result : Result T DiskError)
    {call : Call}
    {wanted : List TreeNode → Result T DiskError} {a b : Option Past}
    → ((answer : Answer) → Q call answer) → Called result call wanted a b
    → Grown a b (λ s es. AllOwn Q es)
only_call Q (Ok v) {call} {wanted} {a} {b} is took =
    grown_map a b _ _ (done_grown v call wanted a b took.goes)
    (λ s es done. subst (AllOwn Q) (sym done.1) (own_step Q done.0 call Done (is Done)))
only_call Q (Err e) {call} {wanted} {a} {b} is took =
    grown_map a b _ _ (refused_grown e call wanted a b took.goes)
    (λ s es not. own_refused Q call s es is not)

-- What was read.

module _ (limit : ℕ) (read : Stat × List ℕ) where
  bytes_read : (bytes : Option (List ℕ)) (stamp : ℕ) → Ok read ≡ read_node bytes stamp limit
      → bytes ≡ Some read.1
  bytes_read None stamp e = absurd (cc)
  bytes_read (Some bytes) stamp e = by (nat_lt limit (length bytes)) e
    where
      by : (long : Bool) → Ok read ≡ (if long then Err (disk.Long (length bytes))
          else Ok (stat_node (Some bytes) stamp, bytes)) → Some bytes ≡ Some read.1
      by true is = absurd (cc)
      by false is = let same : read ≡ (stat_node (Some bytes) stamp, bytes) = cc in
          ap (λ (r : Stat × List ℕ). Some r.1) (sym same)

  node_read : (node : Option TreeNode) → Ok read ≡ read_at node limit
      → option_and_then node_file node ≡ Some read.1
  node_read None e = absurd (cc)
  node_read (Some node) e = bytes_read node.bytes node.stamp e

module _ (limit : ℕ) where
  bytes_missing : (bytes : Option (List ℕ)) (stamp : ℕ)
      → ◌≡◌ {A = Result (Stat × List ℕ) DiskError} (Err disk.Missing) (read_node bytes stamp limit)
      → ⊥
  bytes_missing None stamp e = cc
  bytes_missing (Some bytes) stamp e = by (nat_lt limit (length bytes)) e
    where
      by : (long : Bool) → ◌≡◌ {A = Result (Stat × List ℕ) DiskError} (Err disk.Missing)
          (if long then Err (disk.Long (length bytes))
          else Ok (stat_node (Some bytes) stamp, bytes)) → ⊥
      by true is = cc
      by false is = cc

  node_missing : (node : Option TreeNode) → Err disk.Missing ≡ read_at node limit
      → option_and_then node_file node ≡ None
  node_missing None e = refl
  node_missing (Some node) e = absurd (bytes_missing node.bytes node.stamp e)

-- One of our calls read these bytes of a file, last of all.
pub record MetFile (at bytes : List ℕ) (state : State) (entries : List Entry) : Type 0 where
  pub before : List Entry
  pub limit : ℕ
  pub answer : Answer
  pub is : entries ≡ before ++ Own (ReadAll at limit) answer ∷ []
  pub told : unwrap_or (file_at (tree_of (run_entries before state)) at) [] ≡ bytes

met_missing : (at bytes : List ℕ) (limit : ℕ) (past new : Past) → bytes ≡ []
    → OneStep (Err disk.Missing) (ReadAll at limit) (λ tree. read_of tree at limit) past new
    → Onward (MetFile at bytes) past new
met_missing at bytes limit past new none step = record {
  same_first = step.same_first;
  more = map Others step.actions ++ Own (ReadAll at limit) step.answer ∷ [];
  journal = step.journal;
  along = record {
    before = map Others step.actions;
    limit = limit;
    answer = step.answer;
    is = refl;
    told = ap (λ (o : Option (List ℕ)). unwrap_or o [])
        (node_missing limit
        (node_at (tree_of (run_entries (map Others step.actions) (state_after past))) at)
        (step.judged ∙ ap (λ (state : State). read_of (tree_of state) at limit)
        (run_entries-append past.journal (map Others step.actions) (state_of past.first))))
        ∙ sym none;
  };
}

by_missing : (at bytes : List ℕ) (limit : ℕ) (a b : Option Past) → bytes ≡ []
    → GoesOn (OneStep (Err disk.Missing) (ReadAll at limit) (λ tree. read_of tree at limit)) a b
    → Grown a b (MetFile at bytes)
by_missing at bytes limit None b none step = step
by_missing at bytes limit (Some past) None none step = absurd step
by_missing at bytes limit (Some past) (Some new) none step =
    met_missing at bytes limit past new none step

by_answer : (at bytes : List ℕ) (limit : ℕ) (answered : Result (Stat × List ℕ) DiskError)
    (a b : Option Past) → AreBytes answered bytes
    → Called answered (ReadAll at limit) (λ tree. read_of tree at limit) a b
    → Grown a b (MetFile at bytes)
by_answer at bytes limit (Ok read) a b are took =
    grown_map a b _ _
    (judged_grown read (ReadAll at limit) (λ tree. read_of tree at limit) a b took.goes)
    (λ s es is. record {
      before = map Others is.0;
      limit = limit;
      answer = Done;
      is = is.1;
      told = ap (λ (o : Option (List ℕ)). unwrap_or o [])
          (node_read limit read (node_at (tree_of (run_entries (map Others is.0) s)) at) is.2)
          ∙ sym are;
    })
by_answer at bytes limit (Err disk.Missing) a b are took =
    by_missing at bytes limit a b are took.goes
by_answer at bytes limit (Err disk.WrongNode) a b are took = absurd are
by_answer at bytes limit (Err disk.Exists) a b are took = absurd are
by_answer at bytes limit (Err (disk.Long size)) a b are took = absurd are
by_answer at bytes limit (Err disk.Fault) a b are took = absurd are
by_answer at bytes limit (Err disk.NoMemory) a b are took = absurd are

pub found_met : (at bytes : List ℕ) (a b : Option Past) → FoundFile at bytes a b
    → Grown a b (MetFile at bytes)
found_met at bytes a b found = by_answer at bytes found.limit found.answered a b found.found
    found.called

-- The functions of files.

-- the last of three calls decides
pub writes_last : {at bytes : List ℕ} (result : Result (Unit {0}) DiskError) {v w : Unit {0}}
    {a b c d : Option Past} → Called (Ok v) (Create at) (done_by (Create at)) a b
    → Called (Ok w) (WriteAt at 0 bytes) (done_by (WriteAt at 0 bytes)) b c
    → Called result (Sync at) (done_by (Sync at)) c d → WritesFile at bytes result a d
writes_last (Ok v) {b = b} {c = c} creates writes syncs = record {
  made = b;
  wrote = c;
  creates = creates;
  writes = writes;
  syncs = syncs;
}
writes_last (Err why) {b = b} {c = c} creates writes not = inr (inr (record {
  made = b;
  wrote = c;
  creates = creates;
  writes = writes;
  fails = not;
}))

-- a file that is missing has no bytes
pub read_none : {at bytes : List ℕ} {limit : ℕ} {why : DiskError} {a b : Option Past}
    → why ≡ disk.Missing → bytes ≡ []
    → Called {A = Stat × List ℕ} (Err why) (ReadAll at limit) (λ tree. read_of tree at limit) a b
    → FoundFile at bytes a b
read_none {at} {bytes} {limit} {why} {a} {b} missing none took = record {
  limit = limit;
  answered = Err disk.Missing;
  called = subst (λ (e : DiskError). Called {A = Stat × List ℕ} (Err e) (ReadAll at limit)
      (λ tree. read_of tree at limit) a b) missing took;
  found = none;
}

-- or it was not read
pub read_anyway : (at : List ℕ) (limit : ℕ) (why : DiskError) (result : Result (Held ℕ) DiskError)
    {a b : Option Past} → IfOk result (λ bytes. bytes.items ≡ [])
    → OnOk result (why ≡ disk.Missing) → IfErr result (λ told. told ≡ why)
    → IfErr result (λ told. told ≡ disk.Missing → ⊥)
    → Called {A = Stat × List ℕ} (Err why) (ReadAll at limit) (λ tree. read_of tree at limit) a b
    → ReadsFile at result a b
read_anyway at limit why (Ok bytes) none missing same other took = read_none missing none took
read_anyway at limit why (Err told) {a} {b} none missing same other took = record {
  limit = limit;
  other = other;
  called = subst (λ (e : DiskError). Called {A = Stat × List ℕ} (Err e) (ReadAll at limit)
      (λ tree. read_of tree at limit) a b) (sym same) took;
}
