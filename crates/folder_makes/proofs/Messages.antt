-- The messages of a folder while its directories are made.
use Rattle.std.proofs.Common.{◌≡◌, ◌≤◌, ◌<◌, ◌+◌, ◌==◌, ◌∷◌, ◌++◌, ◌∙◌, [], ℕ, Bool, true, false}
use Rattle.std.proofs.Common.{List}
use Rattle.std.proofs.Common.{Option, Some, None, ap, arith, codes, if◌then◌else◌, inl, inr, length}
use Rattle.std.proofs.Common.{length-append, refl, sym}
use Rattle.mail_base.specs.Ordered.{in_order_by}
use Rattle.disk_model.specs.Journal.{Answer, Call, Create, Cut, Done, Entry, ListDir, MakeDir}
use Rattle.disk_model.specs.Journal.{Others}
use Rattle.disk_model.specs.Journal.{Own, ReadAll, ReadFront, Refused, Remove, Rename, StatPath}
use Rattle.disk_model.specs.Journal.{Sync}
use Rattle.disk_model.specs.Journal.{SyncDir, WriteAt, has_foreign}
use Rattle.disk_model.specs.Names.{more_names, name_of, names_in, put_name}
use Rattle.disk_model.specs.State.{State, after_entry, run_entries, tree_of, with_folder}
use Rattle.disk_model.specs.Tree.{TreeNode, before_slash, folder_before, folder_of, is_root}
use Rattle.disk_model.specs.Tree.{with_byte}
use Rattle.folder_core.specs.Directory.{front_of, is_name, path_in}
use Rattle.folder_core.specs.Maildir.{MaildirFile, all_files, base_of, comes_before, directory}
use Rattle.folder_core.specs.Maildir.{files_in, is_taken, maildir_messages, message_at}
use Rattle.folder_core.specs.Maildir.{messages_behind, path_of, with_message}
use Rattle.folder_core.proofs.NamesIn.{path_is_in}
use Rattle.folder_changes.proofs.CallLemmas.{made_stays}
use Rattle.folder_changes.proofs.StateLemmas.{differ, message_stays}
use Rattle.folder_drivers.proofs.MhCalls.{front_long, no_folder}
use Rattle.folder_stops.specs.Does.{AllOwn}
use Rattle.folder_makes.specs.Parts.{IsMaking, Nowhere}
use Rattle.folder_makes.proofs.Maildirs.{IsOfMaildir}

-- Paths.

-- what stands before the last slash is shorter
slash_short : (path front : List ℕ) → before_slash path ≡ Some front → length front < length path
slash_short [] front is = absurd (cc)
slash_short (b ∷ path) front is =
    by (before_slash path) refl (λ before at. slash_short path before at) is
  where
    by_byte : (t : Bool) → (if t then Some [] else None) ≡ Some front
        → length front < length (b ∷ path)
    by_byte true e = let same : [] ≡ front = cc in omega (arith, ap length same)
    by_byte false e = absurd (cc)

    by : (found : Option (List ℕ)) → before_slash path ≡ found
        → ((before : List ℕ) → before_slash path ≡ Some before → length before < length path)
        → with_byte b found ≡ Some front → length front < length (b ∷ path)
    by None at again e = by_byte (b == 47) e
    by (Some before) at again e =
        let same : b ∷ before ≡ front = cc in
        let low = again before at in
        omega (arith, low, ap length same)

folder_short : (path : List ℕ) → length (folder_of path) ≤ length path
folder_short path = by (before_slash path) refl
  where
    by : (found : Option (List ℕ)) → before_slash path ≡ found
        → length (folder_before found) ≤ length path
    by None at = omega arith
    by (Some []) at = let low = slash_short path [] at in omega (arith, low)
    by (Some (b ∷ front)) at = let low = slash_short path (b ∷ front) at in omega (arith, low)

no_root_front : (dir : List ℕ) → is_root dir ≡ false → front_of dir ≡ dir ++ 47 ∷ []
no_root_front dir no_root = ap (λ (b : Bool). if b then dir else dir ++ 47 ∷ []) no_root

abbrev pub word_of : Bool → List ℕ
word_of in_cur = if in_cur then codes "cur" else codes "new"

pub word_named : (in_cur : Bool) → is_name (word_of in_cur) ≡ true
word_named true = refl
word_named false = refl

word_long : (in_cur : Bool) → length (word_of in_cur) ≡ 3
word_long true = refl
word_long false = refl

-- the directories of messages have longer paths than all that is made of a Maildir
pub made_short : (path p : List ℕ) → IsOfMaildir path p → length p ≤ length (front_of path) + 3
made_short path p (inl is) = let front = front_long path in omega (arith, front, ap length is)
made_short path p (inr (inl is)) =
    omega (arith, ap length is, length-append (front_of path) (codes "tmp"))
made_short path p (inr (inr (inl is))) =
    omega (arith, ap length is, length-append (front_of path) (codes "new"))
made_short path p (inr (inr (inr (inl is)))) =
    omega (arith, ap length is, length-append (front_of path) (codes "cur"))
made_short path p (inr (inr (inr (inr none)))) = absurd none

pub directory_long : (path : List ℕ) (in_cur : Bool)
    → length (front_of path) + 4 ≤ length (front_of (directory in_cur path))
directory_long path in_cur =
    let dir = directory in_cur path in
    omega (
      arith,
      ap length (no_root_front dir (path_is_in path (word_of in_cur) (word_named in_cur)).no_root),
      length-append dir (47 ∷ []),
      length-append (front_of path) (word_of in_cur),
      word_long in_cur,
    )

pub made_apart : (path p : List ℕ) (file : MaildirFile) → IsOfMaildir path p
    → p ≡ path_of path file → ⊥
made_apart path p file is same =
    let long = directory_long path file.in_cur in
    let short = made_short path p is in
    omega (
      arith,
      long,
      short,
      ap length same,
      length-append (front_of (directory file.in_cur path)) file.name,
    )

in_path : (path name p : List ℕ) (in_cur : Bool) → is_name name ≡ true → p ≡ path_in path name
    → folder_of p ≡ directory in_cur path → ⊥
in_path path name p in_cur named is same =
    no_folder path (word_of in_cur) (word_named in_cur)
    (sym same ∙ ap folder_of is ∙ (path_is_in path name named).folder)

pub made_around : (path p : List ℕ) (in_cur : Bool) → IsOfMaildir path p
    → folder_of p ≡ directory in_cur path → ⊥
made_around path p in_cur (inl is) same =
    let short = folder_short path in
    let front = front_long path in
    omega (
      arith,
      short,
      front,
      ap length (sym (ap folder_of is) ∙ same),
      length-append (front_of path) (word_of in_cur),
      word_long in_cur,
    )
made_around path p in_cur (inr (inl is)) same = in_path path (codes "tmp") p in_cur refl is same
made_around path p in_cur (inr (inr (inl is))) same =
    in_path path (codes "new") p in_cur refl is same
made_around path p in_cur (inr (inr (inr (inl is)))) same =
    in_path path (codes "cur") p in_cur refl is same
made_around path p in_cur (inr (inr (inr (inr none)))) same = none

-- Names.

-- a directory that is made elsewhere is not among the names
pub names_stay : (dir p : List ℕ) (s : State) → (folder_of p ≡ dir → ⊥)
    → names_in (tree_of (with_folder p s)) dir ≡ names_in (tree_of s) dir
names_stay dir p s other =
    ap (λ (b : Bool). more_names (if b then put_name (name_of p) [] else []) dir (tree_of s))
    (differ (folder_of p) dir other)

-- Messages.

messages_same : (path : List ℕ) (old new : List TreeNode)
    → ((file : MaildirFile) → message_at new path file ≡ message_at old path file)
    → (files : List MaildirFile) (last : Option (List ℕ))
    → messages_behind new path last files ≡ messages_behind old path last files
messages_same path old new alike [] last = refl
messages_same path old new alike (file ∷ files) last =
    λ i. if is_taken last (base_of file) then messages_same path old new alike files last i
    else with_message (alike file i) (messages_same path old new alike files last i)
    (messages_same path old new alike files (Some (base_of file)) i)

maildir_made : (path p : List ℕ) (s : State) → IsOfMaildir path p
    → maildir_messages (tree_of (with_folder p s)) path ≡ maildir_messages (tree_of s) path
maildir_made path p s is =
    ap (λ (files : List MaildirFile). messages_behind (tree_of (with_folder p s)) path None
    (in_order_by comes_before files))
    (λ i. files_in true (names_stay (directory true path) p s (made_around path p true is) i)
    ++ files_in false (names_stay (directory false path) p s (made_around path p false is) i))
    ∙ messages_same path (tree_of s) (tree_of (with_folder p s))
    (λ file. message_stays path (tree_of s) (tree_of (with_folder p s)) file
    (made_stays s p (path_of path file) (made_apart path p file is)))
    (in_order_by comes_before (all_files (tree_of s) path)) None

maildir_call : (path : List ℕ) (call : Call) (answer : Answer) (s : State)
    → IsMaking (IsOfMaildir path) Nowhere call
    → maildir_messages (tree_of (after_entry s (Own call answer))) path
    ≡ maildir_messages (tree_of s) path
maildir_call path (ListDir dir) Done s is = refl
maildir_call path (ListDir dir) (Refused why wrote) s is = refl
maildir_call path (SyncDir dir) Done s is = refl
maildir_call path (SyncDir dir) (Refused why wrote) s is = refl
maildir_call path (MakeDir p) Done s is = maildir_made path p s is
maildir_call path (MakeDir p) (Refused why wrote) s is = refl
maildir_call path (Create p) answer s is = absurd is
maildir_call path (StatPath at) answer s is = absurd is
maildir_call path (ReadFront at size) answer s is = absurd is
maildir_call path (ReadAll at limit) Done s is = refl
maildir_call path (ReadAll at limit) (Refused why wrote) s is = refl
maildir_call path (WriteAt at from piece) answer s is = absurd is
maildir_call path (Cut at size) answer s is = absurd is
maildir_call path (Sync at) answer s is = absurd is
maildir_call path (Rename from to) answer s is = absurd is
maildir_call path (Remove at) answer s is = absurd is

-- while nobody else acts the messages stay
pub maildir_stays : (path : List ℕ) (es : List Entry) (s : State)
    → AllOwn (λ call answer. IsMaking (IsOfMaildir path) Nowhere call) es → has_foreign es ≡ false
    → maildir_messages (tree_of (run_entries es s)) path ≡ maildir_messages (tree_of s) path
maildir_stays path [] s all none = refl
maildir_stays path (Own call answer ∷ es) s all none =
    maildir_stays path es (after_entry s (Own call answer)) all.1 none
    ∙ maildir_call path call answer s all.0
maildir_stays path (Others action ∷ es) s all none = absurd (cc)
