-- What a call that looks has told.
use Rattle.std.proofs.Common.{◌≡◌, ◌≤◌, ◌<◌, ℕ, Bool, true, false, List, [], ◌∷◌, ◌++◌, Option}
use Rattle.std.proofs.Common.{Some, None}
use Rattle.std.specs.Prelude.{option_and_then}
use Rattle.std.proofs.Common.{Result, Ok, Err, map, length, take, drop, nat_lt, is_none, is_some}
use Rattle.std.proofs.Common.{if◌then◌else◌, refl, ◌⊎◌, inl, inr, ltb-false, ltb-true, sym, ◌∙◌, ap}
use Rattle.std.proofs.Common.{subst, arith, append_assoc, length-append}
use Rattle.std.proofs.Math.Seq.{drop-append_seam, take-append_seam}
use Rattle.disk_model.specs.Journal.{Call, Entry, Others, Own, Past, ReadAll}
use Rattle.disk_model.specs.Judge.{Counted, GoesOn, IsJudged, MakesStep, OneStep, StepBy, answer_by}
use Rattle.disk_model.specs.Judge.{bytes_of, front_of, list_of, node_bytes, read_at, read_node}
use Rattle.disk_model.specs.Judge.{read_of, stat_at, stat_node, stat_of}
use Rattle.disk_model.specs.Looking.{LooksOnly}
use Rattle.disk_model.specs.Names.{names_in}
use Rattle.disk_model.specs.Refusals.{file_refusal, folder_refusal}
use Rattle.disk_model.specs.Seen.{Seen}
use Rattle.disk_model.specs.State.{run_entries, state_of, tree_of}
use Rattle.disk_model.specs.Tree.{TreeNode, is_folder_node, node_at}
use Rattle.disk_model.specs.declared.answers.DiskError.{DiskError}
use Rattle.disk_model.specs.declared.answers.DiskError.TheVariants.{Missing, WrongNode, Exists}
use Rattle.disk_model.specs.declared.answers.DiskError.TheVariants.{Long, Fault, NoMemory}
use Rattle.disk_model.specs.declared.answers.FileRead.{FileRead}
use Rattle.disk_model.specs.declared.answers.Stat.{Stat}
use Rattle.folder_core.specs.Directory.{file_at, is_folder_at, node_file}
use Rattle.folder_core.specs.declared.error.ScanError.{ScanError}
use Rattle.folder_core.specs.declared.looks.Content.{Content}
use Rattle.folder_core.specs.declared.looks.Content.TheVariants.{NoFile, TooLong, Whole}
use Rattle.folder_core.specs.Looked.{IsContent, Looked, SawAt, node_stat, stat_there}
use Rattle.folder_core.specs.Directory.{stamp_there}

-- One step.

-- a call that gave this met a tree of which that is told
saw_step : {R : Type 0} (outcome : Result R DiskError) (call : Call)
    (wanted : List TreeNode → Result R DiskError)
    (Tells : List TreeNode → Type 0) (old new : Past) → OneStep outcome call wanted old new
    → ((tree : List TreeNode) → IsJudged outcome (wanted tree) → Tells tree)
    → SawAt call Tells old new
saw_step outcome call wanted Tells old new s tells =
    let before : List Entry = old.journal ++ map Others s.actions in
    let own : List Entry = Own call s.answer ∷ [] in
    let journal : new.journal ≡ before ++ own =
    s.journal ∙ sym (append_assoc old.journal (map Others s.actions) own) in
    record {
      mark = length before;
      from = omega (arith, length-append old.journal (map Others s.actions));
      to = omega (arith, ap length journal, length-append before own);
      answer = s.answer;
      own =
          ap (λ (l : List Entry). take 1 (drop (length before) l)) journal
          ∙ ap (take 1) (drop-append_seam before own);
      tells =
          subst Tells
          (sym (ap (λ (tree : List TreeNode). tree_of
          (run_entries (take (length before) new.journal) (state_of tree)))
          s.same_first
          ∙ ap (λ (l : List Entry). tree_of
          (run_entries (take (length before) l) (state_of old.first))) journal
          ∙ ap (λ (l : List Entry). tree_of (run_entries l (state_of old.first)))
          (take-append_seam before own)))
          (tells (tree_of (run_entries before (state_of old.first))) s.judged);
    }

saw_told : {R : Type 0} (outcome : Result R DiskError) (call : Call)
    (wanted : List TreeNode → Result R DiskError)
    (Tells : List TreeNode → Type 0) (old new : Option Past)
    → GoesOn (OneStep outcome call wanted) old new
    → ((tree : List TreeNode) → IsJudged outcome (wanted tree) → Tells tree)
    → GoesOn (SawAt call Tells) old new
saw_told outcome call wanted Tells None new step tells = step
saw_told outcome call wanted Tells (Some old) None step tells = absurd step
saw_told outcome call wanted Tells (Some old) (Some new) step tells =
    saw_step outcome call wanted Tells old new step tells

looked_from : {R A : Type 0} (given : A) (outcome : Result R DiskError) (call : Call)
    (wanted : List TreeNode → Result R DiskError) (Tells : A → List TreeNode → Type 0)
    (old new : Seen)
    → GoesOn (OneStep outcome call wanted) old.told new.told → Counted outcome old new
    → LooksOnly old.told new.told
    → ((tree : List TreeNode) → IsJudged outcome (wanted tree) → Tells given tree)
    → Looked (Ok given) call Tells old new
looked_from given outcome call wanted Tells old new step counts looks tells = record {
  saw = saw_told outcome call wanted (Tells given) old.told new.told step tells;
  only = record { looks = looks; marks = counts.marks; faults = counts.faults };
  cause = λ is. absurd (cc);
  errors = tt;
}

-- a call that gave a value
pub looked_ok : {R A : Type 0} {call : Call} {wanted : List TreeNode → Result R DiskError}
    {count : ℕ}
    {Tells : A → List TreeNode → Type 0} {old new : Seen} (given : A) (value : R)
    → MakesStep (Ok value) call wanted count old new
    → LooksOnly old.told new.told
    → ((tree : List TreeNode) → Ok value ≡ wanted tree → Tells given tree)
    → Looked (Ok given) call Tells old new
looked_ok {R} {A} {call} {wanted} {count} {Tells} {old} {new} given value step looks tells =
    looked_from given (Ok value) call wanted Tells old new step.called.goes step.counts looks tells

-- a refusal that stands in the journal
abbrev pub is_entered : DiskError → Bool
is_entered NoMemory = false
is_entered Missing = true
is_entered WrongNode = true
is_entered Exists = true
is_entered (Long size) = true
is_entered Fault = true

entered_step : {R : Type 0} (why : DiskError) (call : Call)
    (wanted : List TreeNode → Result R DiskError)
    (old new : Option Past) → is_entered why ≡ true → GoesOn (StepBy (Err why) call wanted) old new
    → GoesOn (OneStep (Err why) call wanted) old new
entered_step NoMemory call wanted old new entered step = absurd (cc)
entered_step Missing call wanted old new entered step = step
entered_step WrongNode call wanted old new entered step = step
entered_step Exists call wanted old new entered step = step
entered_step (Long size) call wanted old new entered step = step
entered_step Fault call wanted old new entered step = step

-- a call that was refused for this cause
pub looked_err : {R A : Type 0} {call : Call} {wanted : List TreeNode → Result R DiskError}
    {count : ℕ}
    {Tells : A → List TreeNode → Type 0} {old new : Seen} (given : A)
    (error why : DiskError)
    → error ≡ why → is_entered why ≡ true
    → MakesStep (Err error) call wanted count old new
    → LooksOnly old.told new.told
    → ((tree : List TreeNode) → IsJudged (Err why) (wanted tree) → Tells given tree)
    → Looked (Ok given) call Tells old new
looked_err {R} {A} {call} {wanted} {count} {Tells} {old} {new} given error why is entered step looks
    tells =
    let made : MakesStep {A = R} (Err why) call wanted count old new =
    subst (λ (e : DiskError). MakesStep {A = R} (Err e) call wanted count old new) is step in
    looked_from {R = R} given (Err why) call wanted Tells old new
    (entered_step why call wanted old.told new.told entered made.called.goes) made.counts looks
    tells

-- What the answers tell of what stands there.

stat_is : (node : Option TreeNode) (stat : Stat) → Ok stat ≡ stat_at node
    → Some stat ≡ stat_there node
stat_is None stat is = absurd (cc)
stat_is (Some node) stat is = let same : stat ≡ node_stat node = cc in ap Some same

pub stat_tells : (tree : List TreeNode) (path : List ℕ) (stat : Stat) → Ok stat ≡ stat_of tree path
    → Some stat ≡ stat_there (node_at tree path)
stat_tells tree path stat is = stat_is (node_at tree path) stat is

no_stat : (node : Option TreeNode) → Err Missing ≡ stat_at node → None ≡ stat_there node
no_stat None is = refl
no_stat (Some node) is = absurd (cc)

pub stat_missing : (tree : List TreeNode) (path : List ℕ) → Err Missing ≡ stat_of tree path
    → None ≡ stat_there (node_at tree path)
stat_missing tree path is = no_stat (node_at tree path) is

list_bytes : (bytes : Option (List ℕ)) (names all : List (List ℕ))
    → Ok names ≡ answer_by (if is_none bytes then None else Some WrongNode) all
    → (is_none bytes ≡ true) × (names ≡ all)
list_bytes None names all is = (refl, cc)
list_bytes (Some bytes) names all is = absurd (cc)

list_is : (node : Option TreeNode) (names all : List (List ℕ))
    → Ok names ≡ answer_by (folder_refusal node) all
    → (is_folder_node node ≡ true) × (names ≡ all)
list_is None names all is = absurd (cc)
list_is (Some node) names all is = list_bytes node.bytes names all is

pub list_tells : (tree : List TreeNode) (dir : List ℕ) (names : List (List ℕ))
    → Ok names ≡ list_of tree dir
    → (is_folder_at tree dir ≡ true) × (names ≡ names_in tree dir)
list_tells tree dir names is = list_is (node_at tree dir) names (names_in tree dir) is

folder_missing : (bytes : Option (List ℕ)) (all : List (List ℕ))
    → Err Missing ≡ answer_by (if is_none bytes then None else Some WrongNode) all → ⊥
folder_missing None all is = cc
folder_missing (Some bytes) all is = cc

no_list : (node : Option TreeNode) (all : List (List ℕ))
    → Err Missing ≡ answer_by (folder_refusal node) all
    → node ≡ None
no_list None all is = refl
no_list (Some node) all is = absurd (folder_missing node.bytes all is)

pub list_missing : (tree : List TreeNode) (dir : List ℕ) → Err Missing ≡ list_of tree dir
    → node_at tree dir ≡ None
list_missing tree dir is = no_list (node_at tree dir) (names_in tree dir) is

file_bytes : (bytes : Option (List ℕ)) (all : List (List ℕ))
    → Err WrongNode ≡ answer_by (if is_none bytes then None else Some WrongNode) all
    → is_some bytes ≡ true
file_bytes None all is = absurd (cc)
file_bytes (Some bytes) all is = refl

file_list : (node : Option TreeNode) (all : List (List ℕ))
    → Err WrongNode ≡ answer_by (folder_refusal node) all
    → is_some (option_and_then node_file node) ≡ true
file_list None all is = absurd (cc)
file_list (Some node) all is = file_bytes node.bytes all is

pub list_wrong : (tree : List TreeNode) (dir : List ℕ) → Err WrongNode ≡ list_of tree dir
    → is_some (file_at tree dir) ≡ true
list_wrong tree dir is = file_list (node_at tree dir) (names_in tree dir) is

content_bytes : (bytes : Option (List ℕ)) (stamp limit : ℕ) (stat : Stat) (read : List ℕ)
    → ◌≡◌ {A = Result (Stat × List ℕ) DiskError} (Ok (stat, read)) (read_node bytes stamp limit)
    → (bytes ≡ Some read) × (stamp ≡ stat.stamp) × (length read ≤ limit)
content_bytes None stamp limit stat read is = absurd (cc)
content_bytes (Some bytes) stamp limit stat read is =
    by_length (nat_lt limit (length bytes)) refl is
  where
    by_length : (long : Bool) → nat_lt limit (length bytes) ≡ long
        → ◌≡◌ {A = Result (Stat × List ℕ) DiskError} (Ok (stat, read))
        (if long then Err (Long (length bytes)) else Ok (stat_node (Some bytes) stamp, bytes))
        → (Some bytes ≡ Some read) × (stamp ≡ stat.stamp) × (length read ≤ limit)
    by_length true long is = absurd (cc)
    by_length false long is =
        let both : ◌≡◌ {A = Stat × List ℕ} (stat, read) (stat_node (Some bytes) stamp, bytes) =
        cc in
        let same : read ≡ bytes = ap (λ (p : Stat × List ℕ). p.1) both in (
          ap Some (sym same),
          sym (ap (λ (p : Stat × List ℕ). p.0.stamp) both),
          omega (arith, ltb-false limit (length bytes) long, ap length same),
        )

long_bytes : (bytes : Option (List ℕ)) (stamp limit size : ℕ)
    → Err (Long size) ≡ read_node bytes stamp limit
    → (limit < size) × ((all : List ℕ) × (bytes ≡ Some all) × (size ≡ length all))
long_bytes None stamp limit size is = absurd (cc)
long_bytes (Some bytes) stamp limit size is = by_length (nat_lt limit (length bytes)) refl is
  where
    by_length : (long : Bool) → nat_lt limit (length bytes) ≡ long
        → ◌≡◌ {A = Result (Stat × List ℕ) DiskError} (Err (Long size))
        (if long then Err (Long (length bytes)) else Ok (stat_node (Some bytes) stamp, bytes))
        → (limit < size) × ((all : List ℕ) × (Some bytes ≡ Some all) × (size ≡ length all))
    by_length false long is = absurd (cc)
    by_length true long is =
        let same : size ≡ length bytes = cc in
        (omega (arith, ltb-true limit (length bytes) long, same), (bytes, refl, same))

no_bytes : (bytes : Option (List ℕ)) (stamp limit : ℕ) (why : DiskError)
    → (why ≡ Missing) ⊎ (why ≡ WrongNode) → Err why ≡ read_node bytes stamp limit → bytes ≡ None
no_bytes None stamp limit why which is = refl
no_bytes (Some bytes) stamp limit why which is = by_length (nat_lt limit (length bytes)) which is
  where
    by_length : (long : Bool) → (why ≡ Missing) ⊎ (why ≡ WrongNode)
        → ◌≡◌ {A = Result (Stat × List ℕ) DiskError} (Err why)
        (if long then Err (Long (length bytes)) else Ok (stat_node (Some bytes) stamp, bytes))
        → Some bytes ≡ None
    by_length true (inl e) is = absurd (cc)
    by_length true (inr e) is = absurd (cc)
    by_length false which is = absurd (cc)

content_is : (node : Option TreeNode) (limit : ℕ) (read : FileRead)
    → Ok (read.stat, read.bytes.items) ≡ read_at node limit
    → (option_and_then node_file node ≡ Some read.bytes.items) ×
    (stamp_there node ≡ read.stat.stamp)
    × (length read.bytes.items ≤ limit)
content_is None limit read is = absurd (cc)
content_is (Some node) limit read is =
    content_bytes node.bytes node.stamp limit read.stat read.bytes.items is

pub read_tells : (tree : List TreeNode) (path : List ℕ) (limit : ℕ) (read : FileRead)
    → Ok (read.stat, read.bytes.items) ≡ read_of tree path limit
    → IsContent limit (Whole read) tree path
read_tells tree path limit read is = content_is (node_at tree path) limit read is

long_is : (node : Option TreeNode) (limit size : ℕ) → Err (Long size) ≡ read_at node limit
    → (limit < size) ×
    ((all : List ℕ) × (option_and_then node_file node ≡ Some all) × (size ≡ length all))
long_is None limit size is = absurd (cc)
long_is (Some node) limit size is = long_bytes node.bytes node.stamp limit size is

pub read_long : (tree : List TreeNode) (path : List ℕ) (limit size : ℕ)
    → Err (Long size) ≡ read_of tree path limit
    → IsContent limit (TooLong size) tree path
read_long tree path limit size is = long_is (node_at tree path) limit size is

no_content : (node : Option TreeNode) (limit : ℕ) (why : DiskError)
    → (why ≡ Missing) ⊎ (why ≡ WrongNode)
    → Err why ≡ read_at node limit → option_and_then node_file node ≡ None
no_content None limit why which is = refl
no_content (Some node) limit why which is = no_bytes node.bytes node.stamp limit why which is

pub read_nothing : (tree : List TreeNode) (path : List ℕ) (limit : ℕ) (why : DiskError)
    → (why ≡ Missing) ⊎ (why ≡ WrongNode) → Err why ≡ read_of tree path limit
    → IsContent limit NoFile tree path
read_nothing tree path limit why which is = no_content (node_at tree path) limit why which is

missing_bytes : (bytes : Option (List ℕ)) (stamp limit : ℕ)
    → Err Missing ≡ read_node bytes stamp limit → ⊥
missing_bytes None stamp limit is = cc
missing_bytes (Some bytes) stamp limit is = by_length (nat_lt limit (length bytes)) is
  where
    by_length : (long : Bool) → ◌≡◌ {A = Result (Stat × List ℕ) DiskError} (Err Missing)
        (if long then Err (Long (length bytes)) else Ok (stat_node (Some bytes) stamp, bytes)) → ⊥
    by_length true is = cc
    by_length false is = cc

no_read : (node : Option TreeNode) (limit : ℕ) → Err Missing ≡ read_at node limit → node ≡ None
no_read None limit is = refl
no_read (Some node) limit is = absurd (missing_bytes node.bytes node.stamp limit is)

pub read_missing : (tree : List TreeNode) (path : List ℕ) (limit : ℕ)
    → Err Missing ≡ read_of tree path limit → node_at tree path ≡ None
read_missing tree path limit is = no_read (node_at tree path) limit is

wrong_read : (node : Option TreeNode) (limit : ℕ) → Err WrongNode ≡ read_at node limit
    → is_some node ≡ true
wrong_read None limit is = absurd (cc)
wrong_read (Some node) limit is = refl

pub read_wrong : (tree : List TreeNode) (path : List ℕ) (limit : ℕ)
    → Err WrongNode ≡ read_of tree path limit → is_some (node_at tree path) ≡ true
read_wrong tree path limit is = wrong_read (node_at tree path) limit is

front_bytes : (bytes : Option (List ℕ)) (front : List ℕ)
    → Ok front
    ≡ answer_by (if is_none bytes then Some WrongNode else None) (take 5 (bytes_of bytes))
    → (all : List ℕ) × (bytes ≡ Some all) × (take 5 all ≡ front)
front_bytes None front is = absurd (cc)
front_bytes (Some bytes) front is = (bytes, refl, cc)

front_is : (node : Option TreeNode) (front : List ℕ)
    → Ok front ≡ answer_by (file_refusal node) (take 5 (node_bytes node))
    → (all : List ℕ) × (option_and_then node_file node ≡ Some all) × (take 5 all ≡ front)
front_is None front is = absurd (cc)
front_is (Some node) front is = front_bytes node.bytes front is

-- the first bytes, where the call took a list of five
pub front_tells : (tree : List TreeNode) (path front : List ℕ) (size : ℕ) → size ≡ 5
    → Ok front ≡ front_of tree path size
    → (all : List ℕ) × (file_at tree path ≡ Some all) × (take 5 all ≡ front)
front_tells tree path front size five is =
    front_is (node_at tree path) front
    (is ∙ ap (λ (n : ℕ). front_of tree path n) five)

front_free : (bytes : Option (List ℕ)) (value : List ℕ)
    → Err Missing ≡ answer_by (if is_none bytes then Some WrongNode else None) value → ⊥
front_free None value is = cc
front_free (Some bytes) value is = cc

no_front : (node : Option TreeNode) (value : List ℕ)
    → Err Missing ≡ answer_by (file_refusal node) value → node ≡ None
no_front None value is = refl
no_front (Some node) value is = absurd (front_free node.bytes value is)

pub front_missing : (tree : List TreeNode) (path : List ℕ) (size : ℕ)
    → Err Missing ≡ front_of tree path size → node_at tree path ≡ None
front_missing tree path size is =
    no_front (node_at tree path) (take size (node_bytes (node_at tree path))) is

folder_bytes : (bytes : Option (List ℕ)) (value : List ℕ)
    → Err WrongNode ≡ answer_by (if is_none bytes then Some WrongNode else None) value
    → is_none bytes ≡ true
folder_bytes None value is = refl
folder_bytes (Some bytes) value is = absurd (cc)

folder_front : (node : Option TreeNode) (value : List ℕ)
    → Err WrongNode ≡ answer_by (file_refusal node) value
    → is_folder_node node ≡ true
folder_front None value is = absurd (cc)
folder_front (Some node) value is = folder_bytes node.bytes value is

pub front_wrong : (tree : List TreeNode) (path : List ℕ) (size : ℕ)
    → Err WrongNode ≡ front_of tree path size → is_folder_at tree path ≡ true
front_wrong tree path size is =
    folder_front (node_at tree path) (take size (node_bytes (node_at tree path))) is

-- the same look by another name of the path
pub looked_content : (result : Result Content ScanError) (limit : ℕ) (at path : List ℕ)
    (old new : Seen) → at ≡ path
    → Looked result (ReadAll at limit) (λ content tree. IsContent limit content tree at) old new
    → Looked result (ReadAll path limit) (λ content tree. IsContent limit content tree path) old new
looked_content result limit at path old new same looked =
    subst (λ (l : List ℕ). Looked result (ReadAll l limit)
    (λ content tree. IsContent limit content tree l) old new) same looked
