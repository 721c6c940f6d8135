-- Why parts of a sync are refused.
use Rattle.std.proofs.Common.{◌≡◌, ◌==◌, ◌≤◌, ◌&&◌, ◌∷◌, ◌++◌, ◌∙◌, ℕ, Bool, true, false, List, []}
use Rattle.std.proofs.Common.{◌||◌}
use Rattle.std.proofs.Common.{Option, Some, None, Result, Ok, Err, ap, arith, codes, find, inl, inr}
use Rattle.std.proofs.Common.{length, map, not, refl, subst, sym, if◌then◌else◌, is_none}
use Rattle.std.proofs.lemmas.List.{append-nil}
use Rattle.std.specs.List.{list_any}
use Rattle.std.specs.Prelude.{IfErr, IfSome}
use Rattle.std.specs.Str.{bytes_eq}
use Rattle.mail_base.specs.Ordered.{IsIn, in_order_by}
use Rattle.mail_base.specs.declared.kind.Id.{Id}
use Rattle.mail_base.proofs.OrderedLemmas.{in_order_held}
use Rattle.disk_model.specs.Journal.{Call, Create, Cut, ListDir, MakeDir, Past, ReadAll, ReadFront}
use Rattle.disk_model.specs.Journal.{Remove, Rename, StatPath, Sync, SyncDir, WriteAt}
use Rattle.disk_model.specs.Judge.{GoesOn, Grows, IsLonger, StepBy, done_by}
use Rattle.disk_model.specs.Looking.{HasLooked, LooksOnly}
use Rattle.disk_model.specs.Names.{names_in}
use Rattle.disk_model.specs.Refusals.{below_refusal, first_refusal, free_refusal, refusal}
use Rattle.disk_model.specs.State.{tree_at}
use Rattle.disk_model.specs.Tree.{TreeNode, is_folder_node, node_at}
use Rattle.disk_model.specs.declared.answers.DiskError.{DiskError}
use Rattle.disk_model.specs.declared.answers.DiskError.TheVariants.{Exists, Long}
use Rattle.disk_model.specs.declared.answers.DiskError.TheVariants.{Missing, WrongNode}
use Rattle.disk_model.specs.declared.answers.DiskError.TheVariants.{Fault as DiskFault}
use Rattle.disk_model.specs.declared.answers.DiskError.TheVariants.{NoMemory as DiskNoMemory}
use Rattle.disk_model.proofs.Marks.{length_longer}
use Rattle.index_items.specs.Changes.{Changed}
use Rattle.folder_letters.specs.Letters.{Mail}
use Rattle.folder_letters.specs.declared.listing.Listed.{Listed}
use Rattle.folder_core.specs.Directory.{file_at, is_folder_at}
use Rattle.folder_core.specs.Keeping.{lists_id, mail_of}
use Rattle.folder_core.specs.Known.{KnownFolder}
use Rattle.folder_core.specs.Looked.{SawAt}
use Rattle.folder_core.specs.Maildir.{MaildirFile, base_of, comes_before, directory, files_in}
use Rattle.folder_core.specs.Maildir.{path_of}
use Rattle.folder_core.proofs.NamesIn.{path_is_in}
use Rattle.folder_core.specs.declared.error.ScanError.{ScanError}
use Rattle.folder_core.specs.declared.error.ScanError.TheVariants as scan
use Rattle.folder_changes.specs.Asked.{AreListed, ids_of}
use Rattle.folder_changes.specs.Calls.{GoesBy}
use Rattle.folder_changes.specs.Refused.{IsBetween, IsOfTree, OnChanged, refuses}
use Rattle.folder_changes.specs.Serving.{IsErrorAt}
use Rattle.folder_changes.specs.Worked.{WasCause}
use Rattle.folder_changes.specs.declared.sync_error.Spot.TheVariants.{At, Name}
use Rattle.folder_changes.specs.declared.sync_error.SyncError.{SyncError}
use Rattle.folder_changes.specs.declared.sync_error.SyncError.TheVariants.{Changed as IsChanged}
use Rattle.folder_changes.specs.declared.sync_error.SyncError.TheVariants.{Fault, Locked, NoMemory}
use Rattle.folder_changes.specs.declared.sync_error.SyncError.TheVariants.{NotFolder, TooLarge}
use Rattle.folder_changes.specs.declared.sync_error.SyncError.TheVariants.{TooMany, Unfinished}
use Rattle.folder_changes.proofs.OrderLemmas.{in_left, in_right}
use Rattle.folder_changes.proofs.TraceLemmas.{IsUnmade, between_as, between_call, between_earlier}
use Rattle.folder_changes.proofs.TraceLemmas.{calls_looked, calls_not_ours, cause_earlier}
use Rattle.folder_changes.proofs.TraceLemmas.{met_refusal, met_step, met_traced, refused_as}
use Rattle.folder_changes.proofs.TraceLemmas.{refused_earlier, traced_back, traced_here}
use Rattle.folder_drivers.specs.MaildirSync.{IsSyncError, MaildirRefused, NeedsDirectory}
use Rattle.folder_drivers.specs.MaildirSync.{NeedsFile, file_known, has_no_file, is_no_maildir}
use Rattle.folder_drivers.specs.MaildirSync.{is_nothing}
use Rattle.mail_base.specs.declared.flags.Flags.{Flags}
use Rattle.std.proofs.Common.{is_some}
use Rattle.std.proofs.lemmas.Bool.{and_parts, or_left, or_right}
use Rattle.std.proofs.lemmas.Slice.Eq.{bytes_eq-Decides}
use Rattle.std.specs.List.{filter}
use Rattle.disk_model.proofs.Trees.{bytes_same}
use Rattle.folder_core.specs.Maildir.{is_shown}
use Rattle.folder_core.proofs.NamesIn.{holds_name, name_held}
use Rattle.folder_changes.proofs.TraceLemmas.{cause_as}
use Rattle.maildir_names.proofs.NameLemmas.{made_is_split}
use Rattle.maildir_folder.specs.Candidates.{AreInOrder, plain_file}
use Rattle.maildir_folder.specs.Causes.{CallCause, FolderCause, IsCallOf, IsMakeNew}
use Rattle.maildir_folder.specs.Causes.{IsNoFolder, IsOfFolder}
use Rattle.maildir_folder.specs.Causes.{IsStepCall, StepsCause}
use Rattle.maildir_folder.specs.Files.{ListsFiles, NamesSeen, WasRefused}
use Rattle.maildir_folder.specs.NamedFile.{file_named}
use Rattle.maildir_folder.specs.Steps.{PlainStep, call_by}
use Rattle.maildir_folder.specs.declared.candidates.Candidate.{Candidate}
use Rattle.maildir_folder.proofs.StepLemmas.{goes_both}
use Rattle.maildir_folder.proofs.UnmadeLemmas.{made_no_dir, made_no_file, made_no_maildir}
use Rattle.maildir_folder.proofs.UnmadeLemmas.{made_no_refusal, on_changed, step_no_dir}
use Rattle.maildir_folder.proofs.UnmadeLemmas.{synced_nothing}

true_false : ◌≡◌ {A = Bool} true false → ⊥
true_false e = cc

-- two parts of what a past went on by
goes_pair : (P Q : Past → Past → Type 0) (a b : Option Past) → GoesOn P a b → GoesOn Q a b
    → GoesOn (λ p q. P p q × Q p q) a b
goes_pair P Q None b first next = first
goes_pair P Q (Some a) None first next = absurd first
goes_pair P Q (Some a) (Some b) first next = (first, next)

-- One call.

-- a call that the tree refused
pub call_cause : (Needs : Call → Type 0) (why : DiskError) (call : Call) (told : SyncError)
    (old new : Option Past) → Needs call → OnChanged told (IsOfTree why)
    → GoesOn (StepBy {A = Unit {0}} (Err why) call (done_by call)) old new
    → IsBetween (CallCause Needs told) old new
call_cause Needs why call told old new needs changed step =
    between_call (StepBy {A = Unit {0}} (Err why) call (done_by call)) (CallCause Needs told) old new
    (λ p q s. on_changed told (λ of_tree.
    met_step Needs why call p q needs (met_refusal why call p q of_tree s)) changed) step

-- a folder that is none is no Maildir
no_folder : (path : List ℕ) (tree : List TreeNode) → is_folder_at tree path ≡ false
    → is_no_maildir path tree ≡ true
no_folder path tree is =
    ap (λ (b : Bool). not (b && is_folder_at tree (directory true path)
    && is_none (file_at tree (directory false path)))) is

-- a directory is not made in a folder that is none
not_made : (path : List ℕ) (why : DiskError) (tree : List TreeNode) → (why ≡ Exists → ⊥)
    → refusal (MakeDir (directory false path)) tree ≡ Some why → is_no_maildir path tree ≡ true
not_made path why tree other is =
    by (is_folder_at tree path) refl
    (ap (λ (p : List ℕ). first_refusal (below_refusal (node_at tree p))
    (free_refusal (node_at tree (directory false path))))
    (sym (path_is_in path (codes "new") refl).folder) ∙ is)
  where
    free : (node : Option TreeNode) → free_refusal node ≡ Some why → ⊥
    free None e = absurd (cc)
    free (Some node) e = other (let same : Exists ≡ why = cc in sym same)

    below : (node at : Option TreeNode) → is_folder_node node ≡ true
        → first_refusal (below_refusal node) (free_refusal at) ≡ Some why → ⊥
    below None at folder e = absurd (true_false (sym folder))
    below (Some node) at folder e =
        free at (ap (λ (b : Bool). first_refusal (if b then None else Some Missing) (free_refusal at))
        (sym folder) ∙ e)

    by : (b : Bool) → is_folder_at tree path ≡ b
        → first_refusal (below_refusal (node_at tree path))
        (free_refusal (node_at tree (directory false path))) ≡ Some why
        → is_no_maildir path tree ≡ true
    by true folder e = absurd (below (node_at tree path) (node_at tree (directory false path))
        folder e)
    by false none e = no_folder path tree none

of_tree : (why : DiskError) → IsNoFolder why → IsOfTree why
of_tree Missing none = none
of_tree WrongNode none = none
of_tree Exists none = absurd none
of_tree (Long size) none = none
of_tree DiskFault none = none
of_tree DiskNoMemory none = none

not_there : (why : DiskError) → IsNoFolder why → why ≡ Exists → ⊥
not_there why none same = subst IsNoFolder same none

-- `new` was not made, as no folder was there
pub make_cause : (path at : List ℕ) (why : DiskError) (told : SyncError) (old new : Option Past)
    → at ≡ directory false path → OnChanged told (IsNoFolder why)
    → GoesOn (StepBy {A = Unit {0}} (Err why) (MakeDir at) (done_by (MakeDir at))) old new
    → IsBetween (FolderCause path told) old new
make_cause path at why told old new same changed step =
    between_call (StepBy {A = Unit {0}} (Err why) (MakeDir at) (done_by (MakeDir at)))
    (FolderCause path told) old new
    (λ p q s. on_changed told (λ none. (met_traced (is_no_maildir path) why (MakeDir at) p q
    (met_refusal why (MakeDir at) p q (of_tree why none) s)
    (λ tree is. not_made path why tree (not_there why none)
    (ap (λ (d : List ℕ). refusal (MakeDir d) tree) (sym same) ∙ is))).cause) changed) step

-- What looks have found.

longer_same : (past : Past) → IsLonger past past
longer_same past = record { same_first = refl; more = []; journal = sym (append-nil past.journal) }

-- a state that was seen behind calls that do not bring it about
seen_cause : (Is : Call → Type 0) (is_so : List TreeNode → Bool) (p r : Past) (mark : ℕ)
    → IsUnmade Is is_so → GoesBy Is p r → length p.journal ≤ mark → mark ≤ length r.journal
    → is_so (tree_at r mark) ≡ true → WasCause is_so (length p.journal) (length r.journal) r
seen_cause Is is_so p r mark unmade goes low high so =
    (traced_back is_so (length r.journal) mark r (length p.journal) mark low
    (λ x from to. calls_not_ours Is is_so p r r unmade goes (longer_same r) x from
    (omega (arith, to, high)))
    (traced_here is_so mark (length r.journal) r high so)).cause

-- files that were not listed
unlisted_cause : (path : List ℕ) (why : ScanError) (p r : Past) → HasLooked p r
    → WasRefused path why p r → IsOfFolder why
    → WasCause (is_no_maildir path) (length p.journal) (length r.journal) r
unlisted_cause path scan.Missing p r looked was of =
    seen_cause (IsMakeNew path) (is_no_maildir path) p r was.mark (made_no_maildir path)
    (calls_looked (IsMakeNew path) (Some p) (Some r) looked) was.from was.to
    (no_folder path (tree_at r was.mark) (ap is_folder_node was.nothing))
unlisted_cause path (scan.NotMailbox place) p r looked was of =
    seen_cause (IsMakeNew path) (is_no_maildir path) p r was.1.mark (made_no_maildir path)
    (calls_looked (IsMakeNew path) (Some p) (Some r) looked) was.1.from was.1.to
    (ap not was.1.other)
unlisted_cause path (scan.TooMany count) p r looked was of = absurd was.sees
unlisted_cause path (scan.TooLarge bytes) p r looked was of = absurd was.sees
unlisted_cause path scan.ArchiveFull p r looked was of = absurd was.sees
unlisted_cause path scan.Unfinished p r looked was of = absurd was
unlisted_cause path scan.Fault p r looked was of = absurd of
unlisted_cause path scan.NoMemory p r looked was of = absurd of

-- a cause at the folder behind calls that make `new`
folder_earlier : (path : List ℕ) (told : SyncError) (old mid new : Option Past)
    → GoesOn (GoesBy (IsMakeNew path)) old mid → Grows mid new
    → IsBetween (FolderCause path told) mid new → IsBetween (FolderCause path told) old new
folder_earlier path told old mid new calls grows was =
    between_earlier (GoesBy (IsMakeNew path)) (FolderCause path told) (FolderCause path told)
    old mid new (λ p q r goes on cause. on_changed told (λ c.
    cause_earlier (IsMakeNew path) (is_no_maildir path) p q r (length r.journal)
    (made_no_maildir path) goes on c) cause) calls grows was

pub list_cause : (path : List ℕ) (why : ScanError) (told : SyncError) (old mid new : Option Past)
    → GoesOn (GoesBy (IsMakeNew path)) old mid → Grows mid new → LooksOnly mid new
    → GoesOn (WasRefused path why) mid new → OnChanged told (IsOfFolder why)
    → IsBetween (FolderCause path told) old new
list_cause path why told old mid new calls grows looks was changed =
    folder_earlier path told old mid new calls grows
    (between_call (λ p q. HasLooked p q × WasRefused path why p q) (FolderCause path told) mid new
    (λ p q s. on_changed told (λ of. unlisted_cause path why p q s.0 s.1 of) changed)
    (goes_pair HasLooked (WasRefused path why) mid new looks was))

-- the same by another name of the path
pub calls_at : (at path : List ℕ) (old new : Option Past) → at ≡ path
    → GoesOn (GoesBy (IsMakeNew at)) old new → GoesOn (GoesBy (IsMakeNew path)) old new
calls_at at path old new is calls =
    subst (λ (p : List ℕ). GoesOn (GoesBy (IsMakeNew p)) old new) is calls

pub lists_at : (at path : List ℕ) (files : List Candidate) (old new : Option Past) → at ≡ path
    → ListsFiles at files old new → ListsFiles path files old new
lists_at at path files old new is lists =
    subst (λ (p : List ℕ). ListsFiles p files old new) is lists

-- what was listed behind an earlier part
pub lists_earlier : (path : List ℕ) (files : List Candidate) (old mid new : Option Past)
    → Grows old mid → ListsFiles path files mid new → ListsFiles path files old new
lists_earlier path files old mid new grows lists = record {
  cur = lists.cur;
  new_names = lists.new_names;
  order = lists.order;
  saw = goes_both old mid new (λ p q r on seen.
      let low = length_longer p q on in record {
        folder = saw_from p q r low seen.folder;
        new_names = saw_from p q r low seen.new_names;
        cur_names = saw_from p q r low seen.cur_names;
      }) grows lists.saw;
}
  where
    saw_from : {call : Call} {Tells : List TreeNode → Type 0} (p q r : Past)
        → length p.journal ≤ length q.journal → SawAt call Tells q r → SawAt call Tells p r
    saw_from p q r low saw = record {
      mark = saw.mark;
      from = omega (arith, saw.from, low);
      to = saw.to;
      answer = saw.answer;
      own = saw.own;
      tells = saw.tells;
    }

-- No file of a base.

-- none of the files has a base of which none was found
none_named : (files : List MaildirFile) (base : List ℕ) (file : MaildirFile)
    → file_named files base ≡ None → IsIn file files → bytes_eq (base_of file) base ≡ false
none_named [] base file none held = absurd held
none_named (first ∷ files) base file none held =
    by (bytes_eq (base_of first) base) refl none held
    (λ rest more. none_named files base file rest more)
  where
    by : (t : Bool) → bytes_eq (base_of first) base ≡ t
        → (if t then Some first else file_named files base) ≡ None → IsIn file (first ∷ files)
        → (file_named files base ≡ None → IsIn file files
        → bytes_eq (base_of file) base ≡ false)
        → bytes_eq (base_of file) base ≡ false
    by true is none held again = absurd (cc)
    by false is none (inl same) again =
        ap (λ (f : MaildirFile). bytes_eq (base_of f) base) (sym same) ∙ is
    by false is none (inr held) again = again none held

none_any : (p : MaildirFile → Bool) (files : List MaildirFile)
    → ((file : MaildirFile) → IsIn file files → p file ≡ false) → list_any p files ≡ false
none_any p [] each = refl
none_any p (file ∷ files) each =
    (λ i. each file (inl refl) i || list_any p files)
    ∙ none_any p files (λ other held. each other (inr held))

-- so is none of the names of a directory
none_there : (cur new : List (List ℕ)) (base : List ℕ) (in_cur : Bool)
    → file_named (in_order_by comes_before (files_in true cur ++ files_in false new)) base ≡ None
    → not (list_any (λ file. bytes_eq (base_of file) base)
    (files_in in_cur (if in_cur then cur else new))) ≡ true
none_there cur new base in_cur none =
    ap not (none_any (λ file. bytes_eq (base_of file) base)
    (files_in in_cur (if in_cur then cur else new)) (λ file held.
    none_named (in_order_by comes_before (files_in true cur ++ files_in false new)) base file none
    (in_order_held comes_before file (files_in true cur ++ files_in false new)
    (by in_cur file held))))
  where
    by : (in_cur : Bool) (file : MaildirFile)
        → IsIn file (files_in in_cur (if in_cur then cur else new))
        → IsIn file (files_in true cur ++ files_in false new)
    by true file held = in_left file (files_in true cur) (files_in false new) held
    by false file held = in_right file (files_in true cur) (files_in false new) held

-- no file of a base was there, which is no doing of ours
no_file_cause : (path base : List ℕ) (cur new : List (List ℕ)) (files : List Candidate) (p r : Past)
    (in_cur : Bool) → GoesBy (IsMakeNew path) p r → NamesSeen path cur new p r
    → AreInOrder cur new files → file_named (map plain_file files) base ≡ None
    → WasCause (has_no_file path base in_cur) (length p.journal) (length r.journal) r
no_file_cause path base cur new files p r in_cur goes seen order none = by in_cur
  where
    ordered : file_named (in_order_by comes_before (files_in true cur ++ files_in false new)) base
        ≡ None
    ordered = ap (λ (l : List MaildirFile). file_named l base) (sym order.sorted) ∙ none

    by : (in_cur : Bool)
        → WasCause (has_no_file path base in_cur) (length p.journal) (length r.journal) r
    by true = seen_cause (IsMakeNew path) (has_no_file path base true) p r seen.cur_names.mark
        (made_no_file path base true) goes seen.cur_names.from seen.cur_names.to
        (ap (λ (names : List (List ℕ)). not (list_any (λ file. bytes_eq (base_of file) base)
        (files_in true names))) (sym seen.cur_names.tells.0) ∙ none_there cur new base true ordered)
    by false = seen_cause (IsMakeNew path) (has_no_file path base false) p r seen.new_names.mark
        (made_no_file path base false) goes seen.new_names.from seen.new_names.to
        (ap (λ (names : List (List ℕ)). not (list_any (λ file. bytes_eq (base_of file) base)
        (files_in false names))) (sym seen.new_names.tells.0)
        ∙ none_there cur new base false ordered)

-- a listed message is found
pub not_unlisted : (listing : List Listed) (id : ℕ) → lists_id listing id ≡ true
    → find (λ listed. listed.id.0 == id) listing ≡ None → ⊥
not_unlisted [] id is none = true_false (sym is)
not_unlisted (first ∷ listing) id is none =
    by (first.id.0 == id) is none (λ rest more. not_unlisted listing id rest more)
  where
    by : (t : Bool) → (t || lists_id listing id) ≡ true
        → (if t then Some first else find (λ listed. listed.id.0 == id) listing) ≡ None
        → (lists_id listing id ≡ true → find (λ listed. listed.id.0 == id) listing ≡ None → ⊥)
        → ⊥
    by true is none again = absurd (cc)
    by false is none again = again is none

-- the messages that change are listed
pub change_listed : (listing : List Listed) (changes : List Changed) (id : Id)
    → AreListed listing changes → IsIn id (ids_of changes) → lists_id listing id.0 ≡ true
change_listed listing [] id are held = absurd held
change_listed listing (changed ∷ changes) id are (inl same) =
    ap (λ (i : Id). lists_id listing i.0) (sym same) ∙ are.0
change_listed listing (changed ∷ changes) id are (inr held) =
    change_listed listing changes id are.1 held

-- a name that a directory has is one of its files
name_there : (base : List ℕ) (in_cur : Bool) (name : List ℕ) (names : List (List ℕ))
    → is_shown name ≡ true → base_of (record { in_cur = in_cur; name = name }) ≡ base
    → holds_name name names ≡ true
    → list_any (λ file. bytes_eq (base_of file) base) (files_in in_cur names) ≡ true
name_there base in_cur name [] shown named held = absurd (true_false (sym held))
name_there base in_cur name (other ∷ names) shown named held =
    by (bytes_eq other name) refl held
    (λ rest. name_there base in_cur name names shown named rest)
  where
    has : List (List ℕ) → Bool
    has left = list_any (λ file. bytes_eq (base_of file) base)
        (map (λ (n : List ℕ). record { in_cur = in_cur; name = n }) left)

    later : (t : Bool) → has (filter is_shown names) ≡ true
        → has (if t then other ∷ filter is_shown names else filter is_shown names) ≡ true
    later true rest = or_right _ _ rest
    later false rest = rest

    by : (t : Bool) → bytes_eq other name ≡ t → (t || holds_name name names) ≡ true
        → (holds_name name names ≡ true → has (filter is_shown names) ≡ true)
        → has (if is_shown other then other ∷ filter is_shown names else filter is_shown names)
        ≡ true
    by true is held again =
        let same : other ≡ name = bytes_same other name is in
        ap (λ (b : Bool). has (if b then other ∷ filter is_shown names
        else filter is_shown names)) (ap is_shown same ∙ shown)
        ∙ or_left _ _ ((bytes_eq-Decides _ base).1
        (ap (λ (n : List ℕ). base_of (record { in_cur = in_cur; name = n })) same ∙ named))
    by false is held again = later (is_shown other) (again held)

-- where a directory has no file of a base, nothing stands at the path of one
nothing_there : (path base : List ℕ) (file : MaildirFile) (tree : List TreeNode)
    → is_shown file.name ≡ true → base_of file ≡ base
    → has_no_file path base file.in_cur tree ≡ true → is_nothing (path_of path file) tree ≡ true
nothing_there path base file tree shown named none =
    by (node_at tree (path_of path file)) refl
  where
    by : (node : Option TreeNode) → node_at tree (path_of path file) ≡ node
        → is_none node ≡ true
    by None at = refl
    by (Some node) at = absurd (true_false (sym none ∙ ap not
        (name_there base file.in_cur file.name (names_in tree (directory file.in_cur path)) shown
        named (name_held tree (directory file.in_cur path) file.name (and_parts _ _ shown).0
        (ap is_some at)))))

module _ (known : KnownFolder) (mails : List Mail) (changes : List Changed) where
  -- nor does anything at the path of a file that is known
  known_away : (id : Id) (name : List ℕ) (flags : Flags) (m n : ℕ) (past : Past)
      → name ≡ path_of known.path (file_known (mail_of mails id.0).key flags)
      → ((in_cur : Bool)
      → WasCause (has_no_file known.path (mail_of mails id.0).key in_cur) m n past)
      → is_shown (file_known (mail_of mails id.0).key flags).name ≡ true
      → WasCause (is_nothing name) m n past
  known_away id name flags m n past at none shown =
      let key = (mail_of mails id.0).key in
      let file = file_known key flags in
      subst (λ (p : List ℕ). WasCause (is_nothing p) m n past) (sym at)
      (cause_as (has_no_file known.path key file.in_cur) (is_nothing (path_of known.path file))
      m n past (λ tree is. nothing_there known.path key file tree shown (ap (λ (p : List ℕ × List ℕ).
      p.0) (made_is_split (record { base = key; flags = flags; others = [] }))) is)
      (none file.in_cur))

  -- the refusal of a message names the file that is known
  gone_by : (id : Id) (told : SyncError) (m n : ℕ) (past : Past) (listed : Listed)
      → find (λ l. l.id.0 == id.0) known.listing ≡ Some listed → IsIn id (ids_of changes)
      → IsErrorAt (path_of known.path (file_known (mail_of mails id.0).key listed.flags)) told
      → ((in_cur : Bool)
      → WasCause (has_no_file known.path (mail_of mails id.0).key in_cur) m n past)
      → MaildirRefused known mails changes told m n past
  gone_by id (IsChanged (Name name)) m n past listed found among is none = inr (record {
    of = record {
      id = id;
      among = among;
      file = file_known (mail_of mails id.0).key listed.flags;
      base = ap (λ (p : List ℕ × List ℕ). p.0) (made_is_split (record {
        base = (mail_of mails id.0).key;
        flags = listed.flags;
        others = [];
      }));
      at = is;
    };
    why = inl (record {
      listed = listed;
      is_listed = found;
      named = is;
      none = none;
      away = known_away id name.items listed.flags m n past is none;
    });
  })
  gone_by id (IsChanged (At place)) m n past listed found among is none = is
  gone_by id Locked m n past listed found among is none = is
  gone_by id Unfinished m n past listed found among is none = is
  gone_by id (TooMany count) m n past listed found among is none = is
  gone_by id (TooLarge bytes) m n past listed found among is none = is
  gone_by id Fault m n past listed found among is none = tt
  gone_by id NoMemory m n past listed found among is none = tt
  gone_by id NotFolder m n past listed found among is none = is

  -- a message of which no file was listed
  pub gone_cause : (files : List Candidate) (id : Id) (told : SyncError) (old new : Option Past)
      → GoesOn (GoesBy (IsMakeNew known.path)) old new → ListsFiles known.path files old new
      → file_named (map plain_file files) (mail_of mails id.0).key ≡ None
      → IsIn id (ids_of changes) → AreListed known.listing changes
      → IfSome (find (λ l. l.id.0 == id.0) known.listing) (λ listed. IsErrorAt
      (path_of known.path (file_known (mail_of mails id.0).key listed.flags)) told)
      → IsBetween (MaildirRefused known mails changes told) old new
  gone_cause files id told old new calls lists none among are is =
      between_call (λ p q. GoesBy (IsMakeNew known.path) p q
      × NamesSeen known.path lists.cur lists.new_names p q)
      (MaildirRefused known mails changes told) old new
      (λ p q s. by (find (λ l. l.id.0 == id.0) known.listing) refl is
      (λ in_cur. no_file_cause known.path (mail_of mails id.0).key lists.cur lists.new_names files
      p q in_cur s.0 s.1 lists.order none))
      (goes_pair (GoesBy (IsMakeNew known.path)) (NamesSeen known.path lists.cur lists.new_names)
      old new calls lists.saw)
    where
      by : {m n : ℕ} {past : Past} (found : Option Listed)
          → find (λ l. l.id.0 == id.0) known.listing ≡ found
          → IfSome found (λ listed. IsErrorAt
          (path_of known.path (file_known (mail_of mails id.0).key listed.flags)) told)
          → ((in_cur : Bool)
          → WasCause (has_no_file known.path (mail_of mails id.0).key in_cur) m n past)
          → MaildirRefused known mails changes told m n past
      by None e is none = absurd (not_unlisted known.listing id.0
          (change_listed known.listing changes id are among) e)
      by {m} {n} {past} (Some listed) e is none =
          gone_by id told m n past listed e among is none

  -- a cause at the folder
  folder_by : (told : SyncError) (m n : ℕ) (past : Past) → IsErrorAt known.path told
      → FolderCause known.path told m n past → MaildirRefused known mails changes told m n past
  folder_by (IsChanged (Name name)) m n past is cause = inl (is, inl cause)
  folder_by (IsChanged (At place)) m n past is cause = is
  folder_by Locked m n past is cause = is
  folder_by Unfinished m n past is cause = is
  folder_by (TooMany count) m n past is cause = is
  folder_by (TooLarge bytes) m n past is cause = is
  folder_by Fault m n past is cause = tt
  folder_by NoMemory m n past is cause = tt
  folder_by NotFolder m n past is cause = is

  pub folder_refused : (path : List ℕ) (told : SyncError) (old new : Option Past)
      → path ≡ known.path → IsErrorAt path told → IsBetween (FolderCause path told) old new
      → IsBetween (MaildirRefused known mails changes told) old new
  folder_refused path told old new same is cause =
      between_as (FolderCause known.path told) (MaildirRefused known mails changes told) old new
      (λ m n past c. folder_by told m n past (subst (λ (p : List ℕ). IsErrorAt p told) same is) c)
      (subst (λ (p : List ℕ). IsBetween (FolderCause p told) old new) same cause)

  -- a directory that was not there to be put on the disk
  dir_by : (told : SyncError) (m n : ℕ) (past : Past) → IsErrorAt known.path told
      → CallCause (NeedsDirectory known.path) told m n past
      → MaildirRefused known mails changes told m n past
  dir_by (IsChanged (Name name)) m n past is cause = inl (is, inr cause)
  dir_by (IsChanged (At place)) m n past is cause = is
  dir_by Locked m n past is cause = is
  dir_by Unfinished m n past is cause = is
  dir_by (TooMany count) m n past is cause = is
  dir_by (TooLarge bytes) m n past is cause = is
  dir_by Fault m n past is cause = tt
  dir_by NoMemory m n past is cause = tt
  dir_by NotFolder m n past is cause = is

  -- a step that was refused
  file_needed : (step : PlainStep) (name : List ℕ) (call : Call) → name ≡ step.from
      → IsCallOf step call → NeedsFile name call
  file_needed step name call at is =
      subst (NeedsFile name) (sym is) (by step.from step.to at)
    where
      by : (from : List ℕ) (to : Option (List ℕ)) → name ≡ from
          → NeedsFile name (call_by from to)
      by from None at = sym at
      by from (Some to) at = sym at

  step_by : (told : SyncError) (p q r : Past)
      → IsSyncError known.path mails (ids_of changes) told
      → GoesBy (IsMakeNew known.path) p q → IsLonger q r
      → StepsCause known.path mails (ids_of changes) told (length q.journal) (length r.journal) r
      → MaildirRefused known mails changes told (length p.journal) (length r.journal) r
  step_by (IsChanged (Name name)) p q r names goes on step = inr (record {
    of = record {
      id = step.id;
      among = step.among;
      file = step.is.file;
      base = step.is.named;
      at = step.at ∙ step.is.does.from;
    };
    why = inr (refused_as (IsCallOf step.step) (NeedsFile name.items) (length p.journal)
        (length r.journal) r (λ call is. file_needed step.step name.items call step.at is)
        (refused_earlier (IsMakeNew known.path) (IsCallOf step.step) p q r (length r.journal)
        (λ call is. subst (λ (c : Call). IsUnmade (IsMakeNew known.path) (refuses c)) (sym is)
        (made_no_refusal known.path (mail_of mails step.id.0).key step.change step.step step.is))
        goes on step.refused));
  })
  step_by (IsChanged (At place)) p q r names goes on step = names
  step_by Locked p q r names goes on step = names
  step_by Unfinished p q r names goes on step = names
  step_by (TooMany count) p q r names goes on step = names
  step_by (TooLarge bytes) p q r names goes on step = names
  step_by Fault p q r names goes on step = tt
  step_by NoMemory p q r names goes on step = tt
  step_by NotFolder p q r names goes on step = names

  pub steps_refused : (told : SyncError) (old mid new : Option Past)
      → IsSyncError known.path mails (ids_of changes) told
      → GoesOn (GoesBy (IsMakeNew known.path)) old mid → Grows mid new
      → IsBetween (StepsCause known.path mails (ids_of changes) told) mid new
      → IsBetween (MaildirRefused known mails changes told) old new
  steps_refused told old mid new names calls grows cause =
      between_earlier (GoesBy (IsMakeNew known.path))
      (StepsCause known.path mails (ids_of changes) told) (MaildirRefused known mails changes told)
      old mid new (λ p q r goes on c. step_by told p q r names goes on c) calls grows cause

-- Names that were not put on the disk.

dir_needed : (path : List ℕ) (Is : Call → Type 0)
    → ((in_cur : Bool) → IsUnmade Is (refuses (SyncDir (directory in_cur path))))
    → (call : Call) → NeedsDirectory path call → IsUnmade Is (refuses call)
dir_needed path Is unmade (SyncDir at) needs =
    subst (λ (d : List ℕ). IsUnmade Is (refuses (SyncDir d))) (sym needs.1) (unmade needs.0)
dir_needed path Is unmade (ListDir dir) needs = absurd needs
dir_needed path Is unmade (StatPath at) needs = absurd needs
dir_needed path Is unmade (ReadFront at size) needs = absurd needs
dir_needed path Is unmade (ReadAll at limit) needs = absurd needs
dir_needed path Is unmade (Create at) needs = absurd needs
dir_needed path Is unmade (WriteAt at place piece) needs = absurd needs
dir_needed path Is unmade (Cut at size) needs = absurd needs
dir_needed path Is unmade (Sync at) needs = absurd needs
dir_needed path Is unmade (Rename from to) needs = absurd needs
dir_needed path Is unmade (Remove at) needs = absurd needs
dir_needed path Is unmade (MakeDir at) needs = absurd needs

-- behind calls that take no directory away
dir_earlier : (path : List ℕ) (Is : Call → Type 0) (told : SyncError) (old mid new : Option Past)
    → ((in_cur : Bool) → IsUnmade Is (refuses (SyncDir (directory in_cur path))))
    → GoesOn (GoesBy Is) old mid → Grows mid new
    → IsBetween (CallCause (NeedsDirectory path) told) mid new
    → IsBetween (CallCause (NeedsDirectory path) told) old new
dir_earlier path Is told old mid new unmade calls grows was =
    between_earlier (GoesBy Is) (CallCause (NeedsDirectory path) told)
    (CallCause (NeedsDirectory path) told) old mid new
    (λ p q r goes on cause. on_changed told (λ c.
    refused_earlier Is (NeedsDirectory path) p q r (length r.journal)
    (dir_needed path Is unmade) goes on c) cause) calls grows was

pub names_refused : (known : KnownFolder) (mails : List Mail) (changes : List Changed)
    (path : List ℕ) (result : Result (Unit {0}) SyncError) (old mid late new : Option Past)
    → path ≡ known.path → GoesOn (GoesBy (IsMakeNew known.path)) old mid
    → GoesOn (GoesBy (IsStepCall known.path)) mid late → Grows mid new → Grows late new
    → IfErr result (IsErrorAt path)
    → IfErr result (λ why. IsBetween (CallCause (NeedsDirectory path) why) late new)
    → IfErr result (λ why. IsBetween (MaildirRefused known mails changes why) old new)
names_refused known mails changes path (Ok done) old mid late new same calls steps on more is
    cause = tt
names_refused known mails changes path (Err told) old mid late new same calls steps on more is
    cause =
    between_as (CallCause (NeedsDirectory known.path) told)
    (MaildirRefused known mails changes told) old new
    (λ m n past c. dir_by known mails changes told m n past
    (subst (λ (p : List ℕ). IsErrorAt p told) same is) c)
    (dir_earlier known.path (IsMakeNew known.path) told old mid new (made_no_dir known.path) calls
    on
    (dir_earlier known.path (IsStepCall known.path) told mid late new (step_no_dir known.path) steps
    more
    (subst (λ (p : List ℕ). IsBetween (CallCause (NeedsDirectory p) told) late new) same cause)))

-- a directory that was not there, by its name
pub dir_cause : (path : List ℕ) (in_cur : Bool) (told : SyncError) (old new : Option Past)
    → IsBetween (CallCause (λ call. call ≡ SyncDir (directory in_cur path)) told) old new
    → IsBetween (CallCause (NeedsDirectory path) told) old new
dir_cause path in_cur told old new cause =
    between_as (CallCause (λ call. call ≡ SyncDir (directory in_cur path)) told)
    (CallCause (NeedsDirectory path) told) old new
    (λ m n past c. on_changed told (λ refused. refused_as
    (λ call. call ≡ SyncDir (directory in_cur path)) (NeedsDirectory path) m n past
    (λ call is. subst (NeedsDirectory path) (sym is) (in_cur, refl)) refused) c) cause

-- the directory `cur` was not there, once the names in `new` were put on the disk
pub dirs_cause : (path : List ℕ) (result : Result (Unit {0}) SyncError) (old mid new : Option Past)
    → GoesOn (GoesBy (λ call. call ≡ SyncDir (directory false path))) old mid → Grows mid new
    → IfErr result (λ told. IsBetween (CallCause (λ call. call ≡ SyncDir (directory true path))
    told) mid new)
    → IfErr result (λ told. IsBetween (CallCause (NeedsDirectory path) told) old new)
dirs_cause path (Ok done) old mid new calls grows cause = tt
dirs_cause path (Err told) old mid new calls grows cause =
    dir_earlier path (λ call. call ≡ SyncDir (directory false path)) told old mid new
    (λ in_cur. synced_nothing (directory false path) (refuses (SyncDir (directory in_cur path))))
    calls grows (dir_cause path true told mid new cause)
