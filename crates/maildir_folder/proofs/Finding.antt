-- What looks at the directories of a folder tell.
use Rattle.std.proofs.Common.{◌≡◌, ◌≤◌, ◌&&◌, ℕ, Bool, true, false, not, List, [], ◌∷◌, Option}
use Rattle.std.proofs.Common.{Some, None, Ok, Err, length, map, if◌then◌else◌, refl, sym, ◌∙◌, ap}
use Rattle.std.proofs.Common.{subst, arith, is_some, is_none}
use Rattle.std.specs.Prelude.{IfSome, option_and_then}
use Rattle.std.specs.Str.{bytes_eq, is_utf8}
use Rattle.std.proofs.lemmas.Bool.{and_parts}
use Rattle.mail_base.specs.Series.{Held}
use Rattle.disk_model.specs.Journal.{ListDir, Past}
use Rattle.disk_model.specs.Judge.{GoesOn}
use Rattle.disk_model.specs.Lawful.{IsLawful}
use Rattle.disk_model.specs.Looking.{HasLooked, LooksOnly, OnlyLooks}
use Rattle.disk_model.specs.Names.{more_names, name_of, names_in, put_name}
use Rattle.disk_model.specs.Seen.{Seen}
use Rattle.disk_model.specs.State.{tree_at}
use Rattle.disk_model.specs.Tree.{TreeNode, are_distinct, are_placed, folder_of, is_folder_node}
use Rattle.disk_model.specs.Tree.{is_placed, is_root, is_tree, node_at}
use Rattle.disk_model.proofs.Folders.{folder_stays}
use Rattle.disk_model.proofs.LawsOfTrees.{each_mark_has_a_tree}
use Rattle.disk_model.proofs.Looking.{looked_then}
use Rattle.disk_model.proofs.Trees.{bytes_same}
use Rattle.folder_core.specs.Costs.{RaisesAtMost}
use Rattle.folder_core.specs.Directory.{file_at, is_folder_at, node_file}
use Rattle.folder_core.specs.FirstLook.{found_first}
use Rattle.folder_core.specs.Looked.{IsContents, SawAt}
use Rattle.folder_core.specs.Maildir.{directory, is_maildir}
use Rattle.folder_core.proofs.CostsLemmas.{raises_then}
use Rattle.folder_core.proofs.FirstLookLemmas.{folder_stands, stood_later, tells_there}
use Rattle.folder_core.specs.declared.error.ScanError.{ScanError}
use Rattle.folder_core.specs.declared.error.ScanError.TheVariants.{Missing, NotMailbox, TooMany}
use Rattle.folder_core.specs.declared.error.ScanError.TheVariants.{TooLarge, Unfinished}
use Rattle.folder_core.specs.declared.error.ScanError.TheVariants.{ArchiveFull, Fault, NoMemory}
use Rattle.folder_core.specs.declared.looks.Contents.{Contents}
use Rattle.folder_core.specs.declared.looks.Contents.TheVariants.{File, Nothing}
use Rattle.folder_core.proofs.SeenLemmas.{goes_as, goes_then, longer_later, only_then, rose_later}
use Rattle.folder_core.proofs.SeenLemmas.{saw_earlier, saw_later}
use Rattle.maildir_folder.specs.Files.{CurSeen, Finds, FindsNames, FolderSeen, IsListError}
use Rattle.maildir_folder.specs.Files.{IsNamesError, NamesSeen, NewSeen, StaysFolder, WasRefused}
use Rattle.maildir_folder.specs.Files.{plain_names}

true_false : ◌≡◌ {A = Bool} true false → ⊥
true_false e = cc

-- In a tree nothing stands in a directory that is not there.

no_names : (tree : List TreeNode) (dir : List ℕ) (nodes : List TreeNode) → node_at tree dir ≡ None
    → are_placed tree nodes ≡ true → more_names [] dir nodes ≡ []
no_names tree dir [] none placed = refl
no_names tree dir (node ∷ nodes) none placed =
    let parts = and_parts (is_placed tree node.path) (are_placed tree nodes) placed in
    by_folder (bytes_eq (folder_of node.path) dir) refl
    (and_parts (not (is_root node.path) && is_utf8 node.path)
    (is_folder_node (node_at tree (folder_of node.path)))
    parts.0).1 (no_names tree dir nodes none parts.1)
  where
    by_folder : (t : Bool) → bytes_eq (folder_of node.path) dir ≡ t
        → is_folder_node (node_at tree (folder_of node.path)) ≡ true → more_names [] dir nodes ≡ []
        → more_names (if t then put_name (name_of node.path) [] else []) dir nodes ≡ []
    by_folder true same folder rest =
        absurd (true_false (sym folder ∙ ap (λ (d : List ℕ). is_folder_node (node_at tree d))
        (bytes_same (folder_of node.path) dir same) ∙ ap is_folder_node none))
    by_folder false same folder rest = rest

nothing_in : (tree : List TreeNode) (dir : List ℕ) → is_tree tree ≡ true → node_at tree dir ≡ None
    → names_in tree dir ≡ []
nothing_in tree dir is none =
    no_names tree dir tree none (and_parts (are_distinct tree) (are_placed tree tree) is).1

-- Refusals.

pub refused_from : (path : List ℕ) (why : ScanError) (old mid new : Past)
    → length old.journal ≤ length mid.journal
    → WasRefused path why mid new → WasRefused path why old new
refused_from path Missing old mid new low was =
    record {
      mark = was.mark;
      from = omega (arith, was.from, low);
      to = was.to;
      nothing = was.nothing;
    }
refused_from path (NotMailbox place) old mid new low was = (
  was.0,
  record {
    mark = was.1.mark;
    from = omega (arith, was.1.from, low);
    to = was.1.to;
    there = was.1.there;
    other = was.1.other;
  },
)
refused_from path (TooMany count) old mid new low was = absurd was.sees
refused_from path (TooLarge bytes) old mid new low was = absurd was.sees
refused_from path Unfinished old mid new low was = was
refused_from path ArchiveFull old mid new low was = absurd was.sees
refused_from path Fault old mid new low was = tt
refused_from path NoMemory old mid new low was = tt

-- a directory that a look has met stays there
pub folder_later : (path : List ℕ) (old mid new : Past) → HasLooked old mid → HasLooked mid new
    → FolderSeen path old mid → StaysFolder path mid new
folder_later path old mid new first next seen mark low high =
    let folder = saw_later {Tells = λ tree. is_folder_at tree path ≡ true} old mid new seen next in
    folder_stays old new mark folder.mark path (looked_then old mid new first next)
    (omega (arith, low, longer_later old mid first)) folder.from
    ∙ folder.tells

pub folder_seen : (path : List ℕ) (a b c : Option Past) → LooksOnly a b → LooksOnly b c
    → GoesOn (FolderSeen path) a b → GoesOn (FolderSeen path) a c
folder_seen path a b c first next seen =
    goes_then {Q = HasLooked} a b c (λ p q r x y s looked.
    saw_later {Tells = λ tree. is_folder_at tree path ≡ true} p q r s y) first next seen next

-- a refusal behind other looks
names_refused : (path : List ℕ) (why : ScanError) (p q r : Past) → HasLooked p q → HasLooked q r
    → FolderSeen path p q → (StaysFolder path q r → WasRefused path why q r)
    → WasRefused path why p r
names_refused path why p q r first next seen was =
    refused_from path why p q r (longer_later p q first)
    (was (folder_later path p q r first next seen))

names_error : (why : ScanError) → IsNamesError why → IsListError why
names_error Missing is = absurd is
names_error (NotMailbox place) is = is
names_error (TooMany count) is = is
names_error (TooLarge bytes) is = is
names_error Unfinished is = is
names_error ArchiveFull is = is
names_error Fault is = is
names_error NoMemory is = is

pub refused_later : {A B : Type 0} {Sees : A → Option Past → Option Past → Type 0}
    {Gives : B → Option Past → Option Past → Type 0} (path : List ℕ) (why : ScanError)
    (a b c : Seen) → OnlyLooks a b → GoesOn (FolderSeen path) a.told b.told
    → GoesOn (λ p q. found_first path p q ≡ Some true) a.told b.told
    → RaisesAtMost a.bytes_read b.bytes_read 0
    → FindsNames path (Err why) Sees b c → Finds path (Err why) Gives a c
refused_later {A} {B} path why a b c before folder there reads found = record {
  saw = tt;
  refused = goes_then a.told b.told c.told (λ p q r x y seen was.
      names_refused path why p q r x y seen was) before.looks found.only.looks folder found.refused;
  errors = names_error why found.errors;
  first = tells_there {A = B} (Err why) path a.told c.told
      (λ e. let missing : why ≡ Missing = cc in subst IsNamesError missing found.errors)
      (stood_later path a.told b.told c.told before.looks found.only.looks there);
  only = only_then a b c before found.only;
  reads = raises_then a.bytes_read b.bytes_read c.bytes_read 0 0 reads found.reads;
  cause = λ is. rose_later a.faults b.faults c.faults before.faults
      (found.cause (let e : why ≡ Fault = cc in ap Err e));
}

-- memory ran out behind looks
pub no_memory : {A : Type 0} {Sees : A → Option Past → Option Past → Type 0} (path : List ℕ)
    (a b : Seen)
    → OnlyLooks a b → GoesOn (λ p q. found_first path p q ≡ Some true) a.told b.told
    → RaisesAtMost a.bytes_read b.bytes_read 0 → Finds path (Err NoMemory) Sees a b
no_memory {A} path a b before there reads = record {
  saw = tt;
  refused = goes_as a.told b.told (λ p q x. tt) before.looks;
  errors = tt;
  first = tells_there {A = A} (Err NoMemory) path a.told b.told (λ e. (cc)) there;
  only = before;
  reads = reads;
  cause = λ is. absurd (cc);
}

-- what was found
pub was_found : {A : Type 0} {Sees : A → Option Past → Option Past → Type 0} (path : List ℕ)
    (given : A) (a b : Seen)
    → OnlyLooks a b → GoesOn (λ p q. found_first path p q ≡ Some true) a.told b.told
    → RaisesAtMost a.bytes_read b.bytes_read 0 → Sees given a.told b.told
    → Finds path (Ok given) Sees a b
was_found path given a b only there reads saw = record {
  saw = saw;
  refused = tt;
  errors = tt;
  first = tells_there (Ok given) path a.told b.told (λ e. (cc)) there;
  only = only;
  reads = reads;
  cause = λ is. absurd (cc);
}

pub names_found : {A : Type 0} {Sees : A → Option Past → Option Past → Type 0} (path : List ℕ)
    (given : A) (a b : Seen)
    → OnlyLooks a b → RaisesAtMost a.bytes_read b.bytes_read 0 → Sees given a.told b.told
    → FindsNames path (Ok given) Sees a b
names_found path given a b only reads saw = record {
  saw = saw;
  refused = tt;
  errors = tt;
  only = only;
  reads = reads;
  cause = λ is. absurd (cc);
}

-- a directory of the folder was none, so that the folder is no Maildir
pub names_none : {A : Type 0} {Sees : A → Option Past → Option Past → Type 0} (path dir : List ℕ)
    (contents : Contents) (a b : Seen) → OnlyLooks a b
    → RaisesAtMost a.bytes_read b.bytes_read 0
    → ((tree : List TreeNode) → IsContents contents tree dir → is_maildir tree path ≡ false)
    → GoesOn (SawAt (ListDir dir) (λ tree. IsContents contents tree dir)) a.told b.told
    → FindsNames path (Err (NotMailbox 0)) Sees a b
names_none path dir contents a b only reads none saw = record {
  saw = tt;
  refused = goes_as a.told b.told (λ p q s stays. (
    refl,
    record {
      mark = s.mark;
      from = s.from;
      to = s.to;
      there = folder_stands (node_at (tree_at q s.mark) path) (stays s.mark s.from s.to);
      other = none (tree_at q s.mark) s.tells;
    },
  )) saw;
  errors = tt;
  only = only;
  reads = reads;
  cause = λ is. absurd (cc);
}

-- The directories.

no_cur : (tree : List TreeNode) (path : List ℕ) → is_folder_at tree (directory true path) ≡ false
    → is_maildir tree path ≡ false
no_cur tree path none =
    ap (λ (t : Bool). is_folder_at tree path && t && is_none (file_at tree (directory false path)))
    none ∙ by_folder (is_folder_at tree path)
  where
    by_folder : (t : Bool)
        → (t && false && is_none (file_at tree (directory false path))) ≡ false
    by_folder true = refl
    by_folder false = refl

file_no_folder : (node : Option TreeNode) → is_some (option_and_then node_file node) ≡ true
    → is_folder_node node ≡ false
file_no_folder None is = refl
file_no_folder (Some node) is = by_bytes node.bytes is
  where
    by_bytes : (bytes : Option (List ℕ)) → is_some bytes ≡ true → is_none bytes ≡ false
    by_bytes None is = sym is
    by_bytes (Some bytes) is = refl

pub cur_missing : (path : List ℕ) (tree : List TreeNode)
    → IsContents Nothing tree (directory true path) → is_maildir tree path ≡ false
cur_missing path tree none = no_cur tree path (ap is_folder_node none)

pub cur_file : (path : List ℕ) (tree : List TreeNode)
    → IsContents File tree (directory true path) → is_maildir tree path ≡ false
cur_file path tree file =
    no_cur tree path (file_no_folder (node_at tree (directory true path)) file)

pub new_file : (path : List ℕ) (tree : List TreeNode)
    → IsContents File tree (directory false path) → is_maildir tree path ≡ false
new_file path tree file =
    by_bytes (file_at tree (directory false path)) (is_folder_at tree path)
    (is_folder_at tree (directory true path)) file
  where
    by_bytes : (bytes : Option (List ℕ)) (a b : Bool) → is_some bytes ≡ true
        → (a && b && is_none bytes) ≡ false
    by_bytes None a b is = absurd (true_false (sym is))
    by_bytes (Some bytes) true true is = refl
    by_bytes (Some bytes) true false is = refl
    by_bytes (Some bytes) false b is = refl

pub new_missing : (path : List ℕ) (names : Held (Held ℕ)) (marks : ℕ) (a b : Option Past)
    → names.items ≡ []
    → IfSome b (IsLawful marks)
    → GoesOn (SawAt (ListDir (directory false path))
    (λ tree. IsContents Nothing tree (directory false path))) a b
    → GoesOn (NewSeen path (plain_names names)) a b
new_missing path names marks None b none lawful saw = saw
new_missing path names marks (Some p) None none lawful saw = absurd saw
new_missing path names marks (Some p) (Some q) none lawful saw = record {
  mark = saw.mark;
  from = saw.from;
  to = saw.to;
  answer = saw.answer;
  own = saw.own;
  tells = (
    ap (map (λ (name : Held ℕ). name.items)) none
        ∙ sym (nothing_in (tree_at q saw.mark) (directory false path)
        (each_mark_has_a_tree q marks saw.mark lawful)
        saw.tells),
    ap (option_and_then node_file) saw.tells,
  );
}

-- what a look at a directory told, by its path and by what it gave
pub contents_told : (at dir : List ℕ) (contents given : Contents) (a b : Option Past) → at ≡ dir
    → contents ≡ given
    → GoesOn (SawAt (ListDir at) (λ tree. IsContents contents tree at)) a b
    → GoesOn (SawAt (ListDir dir) (λ tree. IsContents given tree dir)) a b
contents_told at dir contents given a b same is saw =
    subst (λ (l : List ℕ). GoesOn (SawAt (ListDir l) (λ tree. IsContents given tree l)) a b) same
    (subst (λ (x : Contents). GoesOn (SawAt (ListDir at) (λ tree. IsContents x tree at)) a b) is
    saw)

-- All of them.

pub names_seen : (path : List ℕ) (cur new : List (List ℕ)) (a b c d : Option Past) → LooksOnly a b
    → LooksOnly b c
    → LooksOnly c d → LooksOnly b d → GoesOn (FolderSeen path) a b → GoesOn (NewSeen path new) b c
    → GoesOn (CurSeen path cur) c d → GoesOn (NamesSeen path cur new) a d
names_seen path cur new a b c d first second third last folder news curs =
    let both : GoesOn (λ p q. NewSeen path new p q × CurSeen path cur p q) b d =
    goes_then b c d (λ p q r x y s t. (
      saw_later {Tells = λ tree. (new ≡ names_in tree (directory false path))
          × (file_at tree (directory false path) ≡ None)} p q r s y,
      saw_earlier {Tells = λ tree. (cur ≡ names_in tree (directory true path))
          × (is_folder_at tree (directory true path) ≡ true)} p q r x t,
    )) second third news curs in
    goes_then a b d (λ p q r x y s t. record {
      folder = saw_later {Tells = λ tree. is_folder_at tree path ≡ true} p q r s y;
      new_names = saw_earlier {Tells = λ tree. (new ≡ names_in tree (directory false path))
          × (file_at tree (directory false path) ≡ None)} p q r x t.0;
      cur_names = saw_earlier {Tells = λ tree. (cur ≡ names_in tree (directory true path))
          × (is_folder_at tree (directory true path) ≡ true)} p q r x t.1;
    }) first last folder both
