-- What the looks of the rule of kinds have told.
use Rattle.std.proofs.Common.{◌≡◌, ◌≤◌, ◌==◌, ◌&&◌, ◌||◌, ℕ, Bool, true, false, not, List, [], ◌∷◌}
use Rattle.std.proofs.Common.{Option, Some, None, Result, Ok, Err, length, nat_lt, is_none, is_some}
use Rattle.std.proofs.Common.{take, if◌then◌else◌, inl, inr, refl, sym, ◌∙◌, ap, subst, arith, map}
use Rattle.std.specs.Char.{is_ascii_digit}
use Rattle.std.specs.List.{list_any}
use Rattle.std.specs.Prelude.{IfErr, option_and_then}
use Rattle.std.specs.Str.{all_ascii_digits, bytes_eq}
use Rattle.std.specs.Str.Parse.{digits_value}
use Rattle.std.proofs.lemmas.Bool.{and_parts, lt-ltb}
use Rattle.mail_base.specs.Series.{Held}
use Rattle.mail_base.specs.Decimal.{decimal_in, in_range, is_digits}
use Rattle.mail_base.specs.declared.kind.Kind.{Kind}
use Rattle.mail_base.specs.declared.kind.Kind.TheVariants.{Maildir, Mh}
use Rattle.disk_model.specs.Journal.{Call, ListDir, Past, StatPath}
use Rattle.disk_model.specs.Judge.{GoesOn, stat_node}
use Rattle.disk_model.specs.Looking.{HasLooked, LooksOnly}
use Rattle.disk_model.specs.Names.{names_in}
use Rattle.disk_model.specs.State.{tree_at}
use Rattle.disk_model.specs.Tree.{TreeNode, is_folder_node, node_at}
use Rattle.disk_model.specs.declared.answers.Stat.{Stat}
use Rattle.disk_model.proofs.Folders.{folder_stays}
use Rattle.disk_model.proofs.Looking.{looked_longer, looked_then}
use Rattle.disk_model.proofs.Marks.{tree_at-longer}
use Rattle.folder_core.specs.Directory.{file_at, is_folder_at, is_name, node_file, path_in}
use Rattle.folder_core.specs.Kinds.{DirectorySeen, IsDirectoryError, IsKindError, IsRuleSeen}
use Rattle.folder_core.specs.Kinds.{MhSeen, NumberSeen, RuleSeen}
use Rattle.folder_core.specs.Kinds.{NumbersSeen, WasKind, bytes_kind, directory_kind, file_kind}
use Rattle.folder_core.specs.Kinds.{front_kind, names_sequences, has_number, has_sequences}
use Rattle.folder_core.specs.Kinds.{is_filled, is_message, kind_at, node_kind}
use Rattle.folder_core.specs.declared.error.ScanError.TheVariants.{Missing, NotMailbox, TooMany}
use Rattle.folder_core.specs.declared.error.ScanError.TheVariants.{TooLarge, Unfinished}
use Rattle.folder_core.specs.declared.error.ScanError.TheVariants.{ArchiveFull, Fault, NoMemory}
use Rattle.folder_core.specs.Maildir.{directory}
use Rattle.folder_core.specs.declared.looks.Front.{Front}
use Rattle.folder_core.specs.declared.looks.Front.TheVariants.{Directory}
use Rattle.folder_core.specs.Looked.{IsContents, IsFrontOf, SawAt, is_names, node_stat}
use Rattle.folder_core.specs.Looked.{stat_there}
use Rattle.folder_core.specs.declared.looks.Contents.{Contents}
use Rattle.folder_core.specs.declared.looks.Contents.TheVariants.{Nothing, File, Names}
use Rattle.folder_core.specs.declared.error.ScanError.{ScanError}
use Rattle.folder_core.specs.Mh.{is_number, message_at, message_of}
use Rattle.folder_core.specs.MhNumbers.{begins_zero}
use Rattle.disk_model.proofs.Trees.{bytes_same}
use Rattle.folder_core.proofs.NamesIn.{file_held, holds_name}
use Rattle.folder_core.proofs.SeenLemmas.{goes_as, goes_then, longer_later, saw_later}

true_false : ◌≡◌ {A = Bool} true false → ⊥
true_false e = cc

-- Numbers are names.

digits_free : (text : List ℕ) → all_ascii_digits text ≡ true → list_any (λ b. b == 47) text ≡ false
digits_free [] digits = refl
digits_free (b ∷ text) digits =
    let parts = and_parts (is_ascii_digit b) (all_ascii_digits text) digits in
    both (b == 47) refl parts.0 (digits_free text parts.1)
  where
    both : (t : Bool) → (b == 47) ≡ t → is_ascii_digit b ≡ true
        → list_any (λ b. b == 47) text ≡ false
        → (t || list_any (λ b. b == 47) text) ≡ false
    both true is digit rest =
        let here : b ≡ 47 = grind (arith, is) in
        absurd (true_false (sym digit ∙ ap is_ascii_digit here))
    both false is digit rest = rest

number_digits : (name : List ℕ) → is_number name ≡ true → is_digits name ≡ true
number_digits name number = by_zero (begins_zero name) number
  where
    by_zero : (zero : Bool) → is_some (if zero then None else decimal_in 1 4294967295 name) ≡ true
        → is_digits name ≡ true
    by_zero true is = absurd (true_false (sym is))
    by_zero false is = by_digits (is_digits name) refl is
      where
        by_digits : (digits : Bool) → is_digits name ≡ digits
            → is_some (if digits then in_range 1 4294967295 (digits_value 10 name) else None)
            ≡ true → is_digits name ≡ true
        by_digits true told is = told
        by_digits false told is = absurd (true_false (sym is))

pub number_is_name : (name : List ℕ) → is_number name ≡ true → is_name name ≡ true
number_is_name name number =
    let parts =
    and_parts (nat_lt 0 (length name)) (all_ascii_digits name) (number_digits name number) in
    ap (λ (t : Bool). t && not (list_any (λ b. b == 47) name)) parts.0
    ∙ ap not (digits_free name parts.1)

-- A stat tells of a message and of a folder.

filled_bytes : (name : List ℕ) (bytes : Option (List ℕ)) (stamp : ℕ)
    → is_some (option_and_then (message_of [] name) bytes) ≡ is_filled (stat_node bytes stamp)
filled_bytes name None stamp = refl
filled_bytes name (Some []) stamp = refl
filled_bytes name (Some (b ∷ bytes)) stamp = sym (lt-ltb 0 (length (b ∷ bytes)) (omega arith))

filled_node : (name : List ℕ) (node : Option TreeNode) (stat : Stat) → Some stat ≡ stat_there node
    → is_some (option_and_then (message_of [] name) (option_and_then node_file node))
    ≡ is_filled stat
filled_node name None stat is = absurd (cc)
filled_node name (Some node) stat is =
    let same : stat ≡ node_stat node = cc in
    filled_bytes name node.bytes node.stamp ∙ ap is_filled (sym same)

unfilled_node : (name : List ℕ) (node : Option TreeNode) → None ≡ stat_there node
    → is_some (option_and_then (message_of [] name) (option_and_then node_file node)) ≡ false
unfilled_node name None is = refl
unfilled_node name (Some node) is = absurd (cc)

-- whether a stat told of a message
abbrev pub tells_message : Option Stat → Bool
tells_message None = false
tells_message (Some stat) = is_filled stat

pub told_message : (tree : List TreeNode) (path name file : List ℕ) (found : Option Stat)
    → file ≡ path_in path name
    → found ≡ stat_there (node_at tree file)
    → is_some (message_at tree path [] name) ≡ tells_message found
told_message tree path name file found at is =
    by_found found (is ∙ ap (λ (f : List ℕ). stat_there (node_at tree f)) at)
  where
    by_found : (found : Option Stat) → found ≡ stat_there (node_at tree (path_in path name))
        → is_some (message_at tree path [] name) ≡ tells_message found
    by_found None is = unfilled_node name (node_at tree (path_in path name)) is
    by_found (Some stat) is = filled_node name (node_at tree (path_in path name)) stat is

folder_bytes : (bytes : Option (List ℕ)) (stamp : ℕ)
    → is_none bytes ≡ (stat_node bytes stamp).folder
folder_bytes None stamp = refl
folder_bytes (Some bytes) stamp = refl

folder_node : (node : Option TreeNode) (stat : Stat) → Some stat ≡ stat_there node
    → is_folder_node node ≡ stat.folder
folder_node None stat is = absurd (cc)
folder_node (Some node) stat is =
    let same : stat ≡ node_stat node = cc in
    folder_bytes node.bytes node.stamp ∙ ap (λ (s : Stat). s.folder) (sym same)

no_folder_node : (node : Option TreeNode) → None ≡ stat_there node → is_folder_node node ≡ false
no_folder_node None is = refl
no_folder_node (Some node) is = absurd (cc)

-- whether a stat told of a folder
abbrev pub tells_folder : Option Stat → Bool
tells_folder None = false
tells_folder (Some stat) = stat.folder

pub told_folder : (node : Option TreeNode) (found : Option Stat) → found ≡ stat_there node
    → is_folder_node node ≡ tells_folder found
told_folder node None is = no_folder_node node is
told_folder node (Some stat) is = folder_node node stat is

-- One name.

held_any : (p : List ℕ → Bool) (name : List ℕ) (names : List (List ℕ))
    → holds_name name names ≡ true
    → p name ≡ true → list_any p names ≡ true
held_any p name [] held is = absurd (true_false (sym held))
held_any p name (other ∷ names) held is =
    by_other (bytes_eq other name) refl held (λ rest. held_any p name names rest is)
  where
    by_other : (t : Bool) → bytes_eq other name ≡ t → (t || holds_name name names) ≡ true
        → (holds_name name names ≡ true → list_any p names ≡ true)
        → (p other || list_any p names) ≡ true
    by_other true same held again =
        ap (λ (n : List ℕ). p n || list_any p names) (bytes_same other name same)
        ∙ ap (λ (t : Bool). t || list_any p names) is
    by_other false same held again = by_p (p other)
      where
        by_p : (t : Bool) → (t || list_any p names) ≡ true
        by_p true = refl
        by_p false = again held

some_file : (name : List ℕ) (bytes : Option (List ℕ))
    → is_some (option_and_then (message_of [] name) bytes) ≡ true → is_some bytes ≡ true
some_file name None is = is
some_file name (Some bytes) is = refl

-- a message is among the names of its directory
pub message_held : (tree : List TreeNode) (path name : List ℕ) → is_message tree path name ≡ true
    → holds_name name (names_in tree path) ≡ true
message_held tree path name is =
    let parts = and_parts (is_number name) (is_some (message_at tree path [] name)) is in
    file_held tree path name (number_is_name name parts.0)
    (some_file name (file_at tree (path_in path name)) parts.1)

pub number_seen : (there : Bool) (name path : List ℕ) (old new : Past) (mark : ℕ)
    → length old.journal ≤ mark
    → mark ≤ length new.journal → is_number name ≡ true
    → is_some (message_at (tree_at new mark) path [] name) ≡ there
    → NumberSeen there name path old new
number_seen true name path old new mark from to number is =
    let here : is_message (tree_at new mark) path name ≡ true =
    ap (λ (t : Bool). t && is_some (message_at
    (tree_at new mark) path [] name)) number ∙ is in (
      mark,
      from,
      to,
      held_any (is_message (tree_at new mark) path) name (names_in (tree_at new mark) path)
          (message_held (tree_at new mark) path name here) here,
    )
number_seen false name path old new mark from to number is = λ all.
    let parts =
    and_parts (is_number name) (is_some (message_at (tree_at new mark) path [] name))
    (all mark from to) in
    true_false (sym parts.1 ∙ is)

-- no number is no message
pub no_number : (name path : List ℕ) (told : Option Past) → is_number name ≡ false
    → GoesOn (NumberSeen false name path) told told
no_number name path None number = refl
no_number name path (Some past) number = λ all.
    let parts =
    and_parts (is_number name)
    (is_some (message_at (tree_at past (length past.journal)) path [] name))
    (all (length past.journal) (omega arith) (omega arith)) in
    true_false (sym parts.0 ∙ number)

pub stat_number : (found : Option Stat) (there : Bool) (name path file : List ℕ)
    (old new : Option Past)
    → file ≡ path_in path name → is_number name ≡ true → there ≡ tells_message found
    → GoesOn (SawAt (StatPath file) (λ tree. found ≡ stat_there (node_at tree file))) old new
    → GoesOn (NumberSeen there name path) old new
stat_number found there name path file old new at number is seen =
    goes_as old new (λ p q saw. number_seen there name path p q saw.mark saw.from saw.to number
    (told_message (tree_at q saw.mark) path name file found at saw.tells ∙ sym is)) seen

-- All names.

-- what is at each mark of a range is so at each mark of a part of it
part_of : (path name : List ℕ) (old mid new : Past) → HasLooked mid new
    → ((mark : ℕ) → length old.journal ≤ mark → mark ≤ length new.journal
    → is_message (tree_at new mark) path name ≡ true)
    → (mark : ℕ) → length old.journal ≤ mark → mark ≤ length mid.journal
    → is_message (tree_at mid mark) path name ≡ true
part_of path name old mid new looked all mark from to =
    ap (λ (tree : List TreeNode). is_message tree path name)
    (sym (tree_at-longer mid new mark (looked_longer mid new looked) to))
    ∙ all mark from (omega (arith, to, longer_later mid new looked))

-- a name of these that is a message at each mark is one of those that are left
abbrev pub LeftOf : List (List ℕ) → List (List ℕ) → List ℕ → Past → Past → Type 0
LeftOf names left path old new = (name : List ℕ) → holds_name name names ≡ true
    → ((mark : ℕ) → length old.journal ≤ mark → mark ≤ length new.journal
    → is_message (tree_at new mark) path name ≡ true) → holds_name name left ≡ true

pub left_first : (names : List (List ℕ)) (path : List ℕ) (told : Option Past)
    → GoesOn (LeftOf names names path) told told
left_first names path None = refl
left_first names path (Some past) = λ name held all. held

left_behind : (names left : List (List ℕ)) (name path : List ℕ) (old mid new : Past)
    → HasLooked old mid
    → HasLooked mid new → LeftOf names (name ∷ left) path old mid
    → NumberSeen false name path mid new
    → LeftOf names left path old new
left_behind names left name path old mid new first next rest not_there other held all =
    by_name (bytes_eq name other) refl (rest other held (part_of path other old mid new next all))
  where
    by_name : (t : Bool) → bytes_eq name other ≡ t → (t || holds_name other left) ≡ true
        → holds_name other left ≡ true
    by_name true same is = absurd (not_there (λ mark from to.
        ap (is_message (tree_at new mark) path) (bytes_same name other same)
        ∙ all mark (omega (arith, from, longer_later old mid first)) to))
    by_name false same is = is

-- one name more was no message
pub left_next : (names all left : List (List ℕ)) (there : Bool) (name path : List ℕ)
    (a b c : Option Past)
    → all ≡ name ∷ left → there ≡ false → LooksOnly a b
    → LooksOnly b c → GoesOn (LeftOf names all path) a b → GoesOn (NumberSeen there name path) b c
    → GoesOn (LeftOf names left path) a c
left_next names all left there name path a b c whole not_there first next rest seen =
    let none : GoesOn (NumberSeen false name path) b c =
    subst (λ (t : Bool). GoesOn (NumberSeen t name path) b c) not_there seen in
    let rest : GoesOn (LeftOf names (name ∷ left) path) a b =
    subst (λ (l : List (List ℕ)). GoesOn (LeftOf names l path) a b) whole rest in
    goes_then a b c (λ p q r x y. left_behind names left name path p q r x y) first next rest none

-- one of them was a message
pub number_found : (names left : List (List ℕ)) (there : Bool) (name path : List ℕ)
    (a b c : Option Past)
    → there ≡ true → LooksOnly a b
    → LooksOnly b c → GoesOn (LeftOf names left path) a b → GoesOn (NumberSeen there name path) b c
    → GoesOn (NumbersSeen true names path) a c
number_found names left there name path a b c is first next rest seen =
    let found : GoesOn (NumberSeen true name path) b c =
    subst (λ (t : Bool). GoesOn (NumberSeen t name path) b c) is seen in
    goes_then a b c (λ p q r x y left there.
    (there.0, omega (arith, there.1, longer_later p q x), there.2, there.3)) first next rest found

-- none was
pub no_numbers : (names left : List (List ℕ)) (path : List ℕ) (a b : Option Past) → left ≡ []
    → GoesOn (LeftOf names left path) a b → GoesOn (NumbersSeen false names path) a b
no_numbers names left path a b none rest =
    let rest : GoesOn (LeftOf names [] path) a b =
    subst (λ (l : List (List ℕ)). GoesOn (LeftOf names l path) a b) none rest in
    goes_as a b (λ p q left name held all. true_false (sym (left name held all))) rest

-- The kind of a directory.

kind_of_node : (empty : Kind) (tree : List TreeNode) (path : List ℕ) (node : Option TreeNode)
    → is_folder_node node ≡ true → node_kind empty tree path node ≡ directory_kind tree path
kind_of_node empty tree path None folder = absurd (true_false (sym folder))
kind_of_node empty tree path (Some node) folder = by_bytes node.bytes folder
  where
    by_bytes : (bytes : Option (List ℕ)) → is_none bytes ≡ true
        → bytes_kind empty tree path bytes ≡ directory_kind tree path
    by_bytes None folder = refl
    by_bytes (Some bytes) folder = absurd (true_false (sym folder))

kind_folder : (empty : Kind) (tree : List TreeNode) (path : List ℕ) → is_folder_at tree path ≡ true
    → kind_at empty tree path ≡ directory_kind tree path
kind_folder empty tree path folder = kind_of_node empty tree path (node_at tree path) folder

maildir_kind : (empty : Kind) (tree : List TreeNode) (path : List ℕ) → is_folder_at tree path ≡ true
    → is_folder_at tree (directory true path) ≡ true → Ok Maildir ≡ kind_at empty tree path
maildir_kind empty tree path folder cur =
    sym (kind_folder empty tree path folder
    ∙ ap (λ (t : Bool). if t then Ok Maildir
    else (if has_sequences tree path || has_number tree path then Ok Mh else Err (NotMailbox 0)))
    cur)

mh_kind : (empty : Kind) (tree : List TreeNode) (path : List ℕ) → is_folder_at tree path ≡ true
    → is_folder_at tree (directory true path) ≡ false
    → (has_sequences tree path || has_number tree path) ≡ true
    → Ok Mh ≡ kind_at empty tree path
mh_kind empty tree path folder cur some =
    sym (kind_folder empty tree path folder
    ∙ ap (λ (t : Bool). if t then Ok Maildir
    else (if has_sequences tree path || has_number tree path then Ok Mh else Err (NotMailbox 0)))
    cur
    ∙ ap (λ (t : Bool). if t then Ok Mh else Err (NotMailbox 0)) some)

pub maildir_seen : (empty : Kind) (path : List ℕ) (there : Bool) (call : Call) (a b : Option Past)
    → there ≡ true
    → GoesOn (SawAt call (λ tree. there ≡ is_folder_at tree (directory true path))) a b
    → GoesOn (DirectorySeen (Ok Maildir) empty path) a b
maildir_seen empty path there call a b is seen =
    goes_as a b (λ p q saw all. record {
      mark = saw.mark;
      from = saw.from;
      to = saw.to;
      is = maildir_kind empty (tree_at q saw.mark) path (all saw.mark saw.from saw.to)
          (sym saw.tells ∙ is);
    }) seen

-- at each mark no folder `cur` stands in the directory
abbrev pub NoCur : List ℕ → Past → Past → Type 0
NoCur path old new = (mark : ℕ) → length old.journal ≤ mark → mark ≤ length new.journal
    → is_folder_at (tree_at new mark) (directory true path) ≡ false

-- a look that told of none, and others that followed
no_cur : (path : List ℕ) (there : Bool) (call : Call) (p q r : Past) → there ≡ false
    → HasLooked p q → HasLooked q r
    → SawAt call (λ tree. there ≡ is_folder_at tree (directory true path)) p q → NoCur path p r
no_cur path there call p q r is first next saw mark from to =
    let later =
    saw_later {Tells = λ tree. there ≡ is_folder_at tree (directory true path)} p q r saw
    next in
    folder_stays p r mark later.mark (directory true path) (looked_then p q r first next) from
    later.from
    ∙ sym later.tells ∙ is

-- The refusal of a directory.

folder_is_no_file : (node : Option TreeNode) → is_folder_node node ≡ true
    → is_some (option_and_then node_file node) ≡ true → ⊥
folder_is_no_file None folder file = true_false (sym folder)
folder_is_no_file (Some node) folder file = by_bytes node.bytes folder file
  where
    by_bytes : (bytes : Option (List ℕ)) → is_none bytes ≡ true → is_some bytes ≡ true → ⊥
    by_bytes None folder file = true_false (sym file)
    by_bytes (Some bytes) folder file = true_false (sym folder)

-- a directory that stands there all along can be listed
no_names : (contents : Contents) (tree : List TreeNode) (path : List ℕ) → is_names contents ≡ false
    → IsContents contents tree path → is_folder_at tree path ≡ true → ⊥
no_names Nothing tree path none is folder = true_false (sym folder ∙ ap is_folder_node is)
no_names File tree path none is folder = folder_is_no_file (node_at tree path) folder is
no_names (Names names) tree path none is folder = true_false none

-- no cur was seen, and then the names
abbrev pub NamesSeen : List (List ℕ) → List ℕ → Past → Past → Type 0
NamesSeen names path old new =
    NoCur path old new × SawAt (ListDir path) (λ tree. names ≡ names_in tree path) old new

not_names : (contents : Contents) → ((names : Held (Held ℕ)) → contents ≡ Names names → ⊥)
    → is_names contents ≡ false
not_names Nothing never = refl
not_names File never = refl
not_names (Names names) never = absurd (never names refl)

pub unlisted_seen : (result : Result Kind ScanError) (empty : Kind) (path : List ℕ)
    (contents : Contents)
    (a b c : Option Past) → ((names : Held (Held ℕ)) → contents ≡ Names names → ⊥) → LooksOnly a b
    → LooksOnly b c
    → GoesOn (SawAt (ListDir path) (λ tree. IsContents contents tree path)) b c
    → GoesOn (DirectorySeen result empty path) a c
unlisted_seen result empty path contents a b c never first next seen =
    let none = not_names contents never in
    goes_then {P = HasLooked} a b c
    (λ p q r x y looked saw all. absurd (no_names contents (tree_at r saw.mark) path
    none saw.tells (all saw.mark (omega (arith, saw.from, longer_later p q x)) saw.to))) first next
    first seen

pub names_seen : (names : Held (Held ℕ)) (items : List (Held ℕ)) (path : List ℕ)
    (contents : Contents)
    (there : Bool) (call : Call) (a b c : Option Past) → items ≡ names.items
    → contents ≡ Names names → there ≡ false → LooksOnly a b → LooksOnly b c
    → GoesOn (SawAt call (λ tree. there ≡ is_folder_at tree (directory true path))) a b
    → GoesOn (SawAt (ListDir path) (λ tree. IsContents contents tree path)) b c
    → GoesOn (NamesSeen (map (λ name. name.items) items) path) a c
names_seen names items path contents there call a b c same told is first next seen list =
    let listed : GoesOn (SawAt (ListDir path) (λ tree. IsContents (Names names) tree path)) b c =
    subst (λ (x : Contents). GoesOn (SawAt (ListDir path) (λ tree. IsContents x tree path)) b c)
    told list in
    goes_then a b c (λ p q r x y saw listed. (
      no_cur path there call p q r is x y saw,
      record {
        mark = listed.mark;
        from = omega (arith, listed.from, longer_later p q x);
        to = listed.to;
        answer = listed.answer;
        own = listed.own;
        tells = ap (map (λ (name : Held ℕ). name.items)) same ∙ listed.tells.1;
      },
    )) first next seen listed

or_true : (t : Bool) → (t || true) ≡ true
or_true true = refl
or_true false = refl

-- no cur from the first past to the last
still_no_cur : (path : List ℕ) (p q r : Past) → HasLooked p q → HasLooked q r
    → length p.journal ≤ length q.journal → NoCur path p q → NoCur path p r
still_no_cur path p q r first next low none mark from to =
    let whole : HasLooked p r = looked_then p q r first next in
    folder_stays p r mark (length p.journal) (directory true path) whole from (omega arith)
    ∙ ap (λ (tree : List TreeNode). is_folder_at tree (directory true path))
    (tree_at-longer q r (length p.journal) (looked_longer q r next) low)
    ∙ none (length p.journal) (omega arith) low

-- a directory whose names are those of an MH folder
mh_names : (empty : Kind) (names : List (List ℕ)) (path : List ℕ) (p q r : Past) → HasLooked p q
    → HasLooked q r
    → NamesSeen names path p q → MhSeen true names path q r → DirectorySeen (Ok Mh) empty path p r
mh_names empty names path p q r x y saw (inl some) all =
    let later = saw_later {Tells = λ tree. names ≡ names_in tree path} p q r saw.1 y in
    record {
      mark = later.mark;
      from = later.from;
      to = later.to;
      is = mh_kind empty (tree_at r later.mark) path (all later.mark later.from later.to)
          (still_no_cur path p q r x y (longer_later p q x) saw.0 later.mark later.from later.to)
          (ap (λ (t : Bool). t || has_number (tree_at r later.mark) path)
          (ap names_sequences (sym later.tells) ∙ some));
    }
mh_names empty names path p q r x y saw (inr there) all =
    let from : length p.journal ≤ there.0 = omega (arith, there.1, longer_later p q x) in
    record {
      mark = there.0;
      from = from;
      to = there.2;
      is = mh_kind empty (tree_at r there.0) path (all there.0 from there.2)
          (still_no_cur path p q r x y (longer_later p q x) saw.0 there.0 from there.2)
          (ap (λ (t : Bool). has_sequences (tree_at r there.0) path || t) there.3
          ∙ or_true (has_sequences (tree_at r there.0) path));
    }

-- a directory whose names are not
no_mh_names : (empty : Kind) (names : List (List ℕ)) (path : List ℕ) (p q r : Past) → HasLooked p q
    → HasLooked q r
    → NamesSeen names path p q → MhSeen false names path q r
    → DirectorySeen (Err (NotMailbox 0)) empty path p r
no_mh_names empty names path p q r x y saw rest all =
    let later = saw_later {Tells = λ tree. names ≡ names_in tree path} p q r saw.1 y in
    inr (
      refl,
      record {
        mark = later.mark;
        from = later.from;
        to = later.to;
        folder = all later.mark later.from later.to;
        no_cur = still_no_cur path p q r x y (longer_later p q x) saw.0 later.mark later.from
            later.to;
        no_sequences = ap names_sequences (sym later.tells) ∙ rest.0;
        numbers = λ name there. rest.1 name
            (ap (holds_name name) later.tells
            ∙ message_held (tree_at r later.mark) path name (there later.mark later.from later.to))
            (λ mark from to. there mark (omega (arith, from, longer_later p q x)) to);
      },
    )

-- the kind that the names tell
abbrev pub kind_by : Bool → Result Kind ScanError
kind_by true = Ok Mh
kind_by false = Err (NotMailbox 0)

by_names : (empty : Kind) (names : List (List ℕ)) (path : List ℕ) (there : Bool)
    (a b c : Option Past)
    → LooksOnly a b → LooksOnly b c → GoesOn (NamesSeen names path) a b
    → GoesOn (MhSeen there names path) b c
    → GoesOn (DirectorySeen (kind_by there) empty path) a c
by_names empty names path true a b c first next seen mh =
    goes_then a b c (λ p q r x y saw told. mh_names empty names path p q r x y saw told) first next
    seen mh
by_names empty names path false a b c first next seen mh =
    goes_then a b c (λ p q r x y saw told. no_mh_names empty names path p q r x y saw told) first
    next seen mh

pub kind_seen : (result : Result Kind ScanError) (empty : Kind) (names : List (List ℕ))
    (path : List ℕ) (there : Bool)
    (a b c : Option Past) → result ≡ kind_by there
    → LooksOnly a b → LooksOnly b c → GoesOn (NamesSeen names path) a b
    → GoesOn (MhSeen there names path) b c
    → GoesOn (DirectorySeen result empty path) a c
kind_seen result empty names path there a b c is first next seen mh =
    subst (λ (r : Result Kind ScanError). GoesOn (DirectorySeen r empty path) a c) (sym is)
    (by_names empty names path there a b c first next seen mh)

-- The kind of a path.

-- a cause or a kind that one mark shows
was_seen : (result : Result Kind ScanError) (empty : Kind) (path : List ℕ) (m n : ℕ) (past : Past)
    → WasKind result empty path m n past → IsRuleSeen result empty path m n past
was_seen (Ok kind) empty path m n past was = was
was_seen (Err Fault) empty path m n past was = tt
was_seen (Err NoMemory) empty path m n past was = tt
was_seen (Err (NotMailbox place)) empty path m n past was = inl was
was_seen (Err Missing) empty path m n past was = was
was_seen (Err (TooMany count)) empty path m n past was = was
was_seen (Err (TooLarge bytes)) empty path m n past was = was
was_seen (Err Unfinished) empty path m n past was = was
was_seen (Err ArchiveFull) empty path m n past was = was

free_kind : (empty : Kind) (tree : List TreeNode) (path : List ℕ) (node : Option TreeNode)
    → node ≡ None
    → Err Missing ≡ node_kind empty tree path node
free_kind empty tree path None is = refl
free_kind empty tree path (Some node) is = absurd (cc)

front_kind_is : (empty : Kind) (tree : List TreeNode) (path all : List ℕ) (node : Option TreeNode)
    → option_and_then node_file node ≡ Some all
    → file_kind empty all ≡ node_kind empty tree path node
front_kind_is empty tree path all None is = absurd (cc)
front_kind_is empty tree path all (Some node) is = by_bytes node.bytes is
  where
    by_bytes : (bytes : Option (List ℕ)) → bytes ≡ Some all
        → file_kind empty all ≡ bytes_kind empty tree path bytes
    by_bytes None is = absurd (cc)
    by_bytes (Some bytes) is = let same : bytes ≡ all = cc in ap (file_kind empty) (sym same)

pub free_seen : (empty : Kind) (path : List ℕ) (call : Call) (a b : Option Past)
    → GoesOn (SawAt call (λ tree. node_at tree path ≡ None)) a b
    → GoesOn (RuleSeen (Err Missing) empty path) a b
free_seen empty path call a b seen =
    goes_as a b (λ p q saw. record {
      mark = saw.mark;
      from = saw.from;
      to = saw.to;
      is = free_kind empty (tree_at q saw.mark) path (node_at (tree_at q saw.mark) path) saw.tells;
    }) seen

pub front_seen : (result : Result Kind ScanError) (empty : Kind) (path front : List ℕ) (call : Call)
    (a b : Option Past)
    → result ≡ front_kind empty front
    → GoesOn (SawAt call
    (λ tree. (bytes : List ℕ) × (file_at tree path ≡ Some bytes) × (take 5 bytes ≡ front))) a b
    → GoesOn (RuleSeen result empty path) a b
front_seen result empty path front call a b is seen =
    goes_as a b
    (λ p q saw. was_seen result empty path (length p.journal) (length q.journal) q (record {
      mark = saw.mark;
      from = saw.from;
      to = saw.to;
      is = is ∙ ap (front_kind empty) (sym saw.tells.2)
          ∙ front_kind_is empty (tree_at q saw.mark) path saw.tells.0
          (node_at (tree_at q saw.mark) path) saw.tells.1;
    })) seen

-- what was seen from a later mark on was seen from an earlier one on
earlier_kind : (result : Result Kind ScanError) (empty : Kind) (path : List ℕ) (k m n : ℕ)
    (past : Past) → k ≤ m
    → WasKind result empty path m n past → WasKind result empty path k n past
earlier_kind result empty path k m n past low was =
    record { mark = was.mark; from = omega (arith, low, was.from); to = was.to; is = was.is }

seen_earlier : (result : Result Kind ScanError) (empty : Kind) (path : List ℕ) (k m n : ℕ)
    (past : Past) → k ≤ m
    → IsRuleSeen result empty path m n past → IsRuleSeen result empty path k n past
seen_earlier (Ok kind) empty path k m n past low was =
    earlier_kind (Ok kind) empty path k m n past low was
seen_earlier (Err Fault) empty path k m n past low was = tt
seen_earlier (Err NoMemory) empty path k m n past low was = tt
seen_earlier (Err (NotMailbox place)) empty path k m n past low (inl was) =
    inl (earlier_kind (Err (NotMailbox place)) empty path k m n past low was)
seen_earlier (Err (NotMailbox place)) empty path k m n past low (inr was) = inr (
  was.0,
  record {
    mark = was.1.mark;
    from = omega (arith, low, was.1.from);
    to = was.1.to;
    folder = was.1.folder;
    no_cur = was.1.no_cur;
    no_sequences = was.1.no_sequences;
    numbers =
        λ name all. was.1.numbers name (λ mark from to. all mark (omega (arith, low, from)) to);
  },
)
seen_earlier (Err Missing) empty path k m n past low was =
    earlier_kind (Err Missing) empty path k m n past low was
seen_earlier (Err (TooMany count)) empty path k m n past low was =
    earlier_kind (Err (TooMany count)) empty path k m n past low was
seen_earlier (Err (TooLarge bytes)) empty path k m n past low was =
    earlier_kind (Err (TooLarge bytes)) empty path k m n past low was
seen_earlier (Err Unfinished) empty path k m n past low was =
    earlier_kind (Err Unfinished) empty path k m n past low was
seen_earlier (Err ArchiveFull) empty path k m n past low was =
    earlier_kind (Err ArchiveFull) empty path k m n past low was

-- a directory was seen, and then its kind
pub directory_seen : (result : Result Kind ScanError) (front : Front) (call : Call) (empty : Kind)
    (path : List ℕ)
    (a b c : Option Past) → front ≡ Directory → LooksOnly a b → LooksOnly b c
    → GoesOn (SawAt call (λ tree. IsFrontOf front tree path)) a b
    → GoesOn (DirectorySeen result empty path) b c → GoesOn (RuleSeen result empty path) a c
directory_seen result front call empty path a b c is first next saw told =
    let seen : GoesOn (SawAt call (λ tree. is_folder_at tree path ≡ true)) a b =
    subst (λ (f : Front). GoesOn (SawAt call (λ tree. IsFrontOf f tree path)) a b) is saw in
    goes_then a b c (λ p q r x y saw kind.
    let later = saw_later {Tells = λ tree. is_folder_at tree path ≡ true} p q r saw y in
    seen_earlier result empty path (length p.journal) (length q.journal) (length r.journal) r
    (longer_later p q x)
    (kind (λ mark from to. folder_stays p r mark later.mark path (looked_then p q r x y)
    (omega (arith, from, longer_later p q x)) later.from ∙ later.tells))) first next seen told

-- Refusals.

pub not_missing : (result : Result Kind ScanError) → IfErr result IsDirectoryError
    → result ≡ Err Missing → ⊥
not_missing result errors is =
    subst (λ (r : Result Kind ScanError). IfErr r IsDirectoryError) is errors

pub directory_error : (why : ScanError) → IsDirectoryError why → IsKindError why
directory_error Missing error = absurd error
directory_error (NotMailbox place) error = error
directory_error (TooMany count) error = error
directory_error (TooLarge bytes) error = error
directory_error Unfinished error = error
directory_error ArchiveFull error = error
directory_error Fault error = error
directory_error NoMemory error = error

pub directory_errors : (result : Result Kind ScanError) → IfErr result IsDirectoryError
    → IfErr result IsKindError
directory_errors (Ok kind) errors = tt
directory_errors (Err why) errors = directory_error why errors
