-- Which messages a Maildir reads as: those of its names, in order.
use Rattle.std.proofs.Common.{◌≡◌, ◌⊎◌, inl, inr, ◌||◌, Bool, true, false, List, [], ◌∷◌}
use Rattle.std.proofs.Common.{Option}
use Rattle.std.proofs.Common.{Some, None, is_some, map, refl, sym, ◌∙◌, ap, subst, if◌then◌else◌, ℕ}
use Rattle.std.proofs.lemmas.Bool.{and_parts}
use Rattle.std.proofs.lemmas.Cmp.{on_total, then_total, back_total, nat_cmp_total}
use Rattle.std.proofs.lemmas.Cmp.{nat_list_cmp_total}
use Rattle.std.proofs.lemmas.List.Sorted.{ranks_by}
use Rattle.std.proofs.lemmas.Slice.Eq.{bytes_eq-Decides}
use Rattle.std.specs.Cmp.{IsTotalOrder, IsStrictWeakOrder, bool_cmp_total}
use Rattle.std.specs.Cmp.Lexicographic.{slice_cmp}
use Rattle.std.specs.List.{filter}
use Rattle.std.specs.Ordering.{bool_cmp, is_lt, nat_cmp, ordering_reverse, ordering_then}
use Rattle.std.specs.Prelude.{option_map}
use Rattle.std.specs.Str.{bytes_eq}
use Rattle.std.specs.declared.cmp.Ordering.{Ordering}
use Rattle.std.specs.declared.cmp.Ordering.TheVariants.{Less, Equal, Greater}
use Rattle.disk_model.specs.Names.{names_in}
use Rattle.disk_model.specs.Tree.{TreeNode}
use Rattle.disk_model.proofs.Trees.{bytes_same}
use Rattle.mail_base.specs.Ordered.{IsIn, in_order_by}
use Rattle.mail_base.proofs.OrderedLemmas.{in_order_held, text_same, then_equal}
use Rattle.folder_core.specs.Directory.{file_at}
use Rattle.folder_core.specs.Maildir.{MaildirFile, all_files, base_of, comes_before, directory}
use Rattle.folder_core.specs.Maildir.{files_in, is_shown, is_taken, maildir_messages}
use Rattle.folder_core.specs.Maildir.{message_at, message_of, messages_behind, path_of}
use Rattle.folder_core.specs.Maildir.{with_message}
use Rattle.folder_core.specs.MaildirNames.{order_of}
use Rattle.folder_core.specs.Message.{Message, stands_before}
use Rattle.folder_core.proofs.NamesIn.{file_held, holds_name}
use Rattle.folder_changes.specs.Maildir.{IsMessageAt, IsSingleNamed}
use Rattle.folder_changes.proofs.OrderLemmas.{Rise, StaysUp, in_either, in_left, in_right}
use Rattle.folder_changes.proofs.OrderLemmas.{ordered_holds, ordered_up}

true_false : ◌≡◌ {A = Bool} true false → ⊥
true_false e = cc

none_some : {A : Type 0} (x : A) → ◌≡◌ {A = Option A} None (Some x) → ⊥
none_some x e = cc

some_same : {A : Type 0} (x y : A) → ◌≡◌ {A = Option A} (Some x) (Some y) → x ≡ y
some_same x y e = cc

-- The order of bases and of files.

-- bases by their orders, and by their bytes where these are the same
abbrev pub base_cmp : List ℕ → List ℕ → Ordering
base_cmp a b = ordering_then (nat_cmp (order_of a) (order_of b)) (slice_cmp nat_cmp a b)

base_total : IsTotalOrder base_cmp
base_total = then_total (on_total order_of nat_cmp_total) nat_list_cmp_total

file_order : IsStrictWeakOrder comes_before
file_order = ranks_by
    (then_total (on_total (λ (f : MaildirFile). order_of (base_of f)) nat_cmp_total)
    (then_total (on_total base_of nat_list_cmp_total)
    (then_total (back_total (on_total (λ (f : MaildirFile). f.in_cur) bool_cmp_total))
    (on_total (λ (f : MaildirFile). f.name) nat_list_cmp_total))))
    (λ (f : MaildirFile). f)

pub message_order : IsStrictWeakOrder stands_before
message_order = ranks_by
    (then_total (on_total (λ (m : Message). m.order) nat_cmp_total)
    (on_total (λ (m : Message). m.key) nat_list_cmp_total))
    (λ (m : Message). m)

less_first : (p q r : Ordering) → is_lt (ordering_then p q) ≡ true
    → is_lt (ordering_then p (ordering_then q r)) ≡ true
less_first Less q r e = refl
less_first Equal Less r e = refl
less_first Equal Equal r e = absurd (true_false (sym e))
less_first Equal Greater r e = absurd (true_false (sym e))
less_first Greater q r e = absurd (true_false (sym e))

-- a file comes before those of later bases
base_first : (f g : MaildirFile) → is_lt (base_cmp (base_of f) (base_of g)) ≡ true
    → comes_before f g ≡ true
base_first f g less = less_first (nat_cmp (order_of (base_of f)) (order_of (base_of g)))
    (slice_cmp nat_cmp (base_of f) (base_of g))
    (ordering_then (bool_cmp g.in_cur f.in_cur) (slice_cmp nat_cmp f.name g.name)) less

-- of two bases one stands before the other, or they are the same
base_behind : (a b : List ℕ) → is_lt (base_cmp b a) ≡ false → (b ≡ a → ⊥)
    → is_lt (base_cmp a b) ≡ true
base_behind a b above other = by_cmp (base_cmp b a) refl above
  where
    by_cmp : (r : Ordering) → base_cmp b a ≡ r → is_lt r ≡ false → is_lt (base_cmp a b) ≡ true
    by_cmp Less e is = absurd (true_false is)
    by_cmp Equal e is = absurd (other (text_same b a
        (then_equal (nat_cmp (order_of b) (order_of a)) (slice_cmp nat_cmp b a) e).1))
    by_cmp Greater e is = ap is_lt (base_total.antisymm a b ∙ ap ordering_reverse e)

-- a file that does not come before another one has no earlier base
base_not_before : (f g : MaildirFile) → comes_before g f ≡ false
    → is_lt (base_cmp (base_of g) (base_of f)) ≡ false
base_not_before f g not = by_test (is_lt (base_cmp (base_of g) (base_of f))) refl
  where
    by_test : (t : Bool) → is_lt (base_cmp (base_of g) (base_of f)) ≡ t
        → is_lt (base_cmp (base_of g) (base_of f)) ≡ false
    by_test true is = absurd (true_false (sym (base_first g f is) ∙ not))
    by_test false is = is

-- Names of a directory.

held_in : (name : List ℕ) (names : List (List ℕ)) → holds_name name names ≡ true → IsIn name names
held_in name [] held = absurd (true_false (sym held))
held_in name (other ∷ names) held =
    by_first (bytes_eq other name) refl held (λ rest. held_in name names rest)
  where
    by_first : (t : Bool) → bytes_eq other name ≡ t
        → (t || holds_name name names) ≡ true
        → (holds_name name names ≡ true → IsIn name names) → IsIn name (other ∷ names)
    by_first true is held again = inl (bytes_same other name is)
    by_first false is held again = inr (again held)

map_in : {A B : Type 0} (f : A → B) (x : A) (xs : List A) → IsIn x xs → IsIn (f x) (map f xs)
map_in f x [] held = held
map_in f x (y ∷ xs) (inl same) = inl (ap f same)
map_in f x (y ∷ xs) (inr held) = inr (map_in f x xs held)

filter_in : {A : Type 0} (p : A → Bool) (x : A) (xs : List A) → p x ≡ true → IsIn x xs
    → IsIn x (filter p xs)
filter_in p x [] is held = held
filter_in p x (y ∷ xs) is held = by_test (p y) refl held (λ rest. filter_in p x xs is rest)
  where
    by_test : (t : Bool) → p y ≡ t → IsIn x (y ∷ xs) → (IsIn x xs → IsIn x (filter p xs))
        → IsIn x (if t then y ∷ filter p xs else filter p xs)
    by_test true at (inl same) again = inl same
    by_test true at (inr rest) again = inr (again rest)
    by_test false at (inl same) again = absurd (true_false (sym is ∙ ap p (sym same) ∙ at))
    by_test false at (inr rest) again = again rest

-- Each file of a list may be a message's.
abbrev pub AreShown : List MaildirFile → Type 0
AreShown files = (file : MaildirFile) → IsIn file files → is_shown file.name ≡ true

files_shown : (in_cur : Bool) (names : List (List ℕ)) → AreShown (files_in in_cur names)
files_shown in_cur [] file held = absurd held
files_shown in_cur (name ∷ names) file held =
    by_test (is_shown name) refl held (λ rest. files_shown in_cur names file rest)
  where
    named : List ℕ → MaildirFile
    named n = record { in_cur = in_cur; name = n }

    by_test : (t : Bool) → is_shown name ≡ t
        → IsIn file (map named (if t then name ∷ filter is_shown names else filter is_shown names))
        → (IsIn file (map named (filter is_shown names)) → is_shown file.name ≡ true)
        → is_shown file.name ≡ true
    by_test true is (inl same) again = ap (λ (f : MaildirFile). is_shown f.name) (sym same) ∙ is
    by_test true is (inr rest) again = again rest
    by_test false is rest again = again rest

all_shown : (tree : List TreeNode) (path : List ℕ)
    → AreShown (in_order_by comes_before (all_files tree path))
all_shown tree path file held =
    by (in_either file (files_in true (names_in tree (directory true path)))
    (files_in false (names_in tree (directory false path)))
    (ordered_holds comes_before file (all_files tree path) held))
  where
    by : IsIn file (files_in true (names_in tree (directory true path)))
        ⊎ IsIn file (files_in false (names_in tree (directory false path)))
        → is_shown file.name ≡ true
    by (inl cur) = files_shown true (names_in tree (directory true path)) file cur
    by (inr new) = files_shown false (names_in tree (directory false path)) file new

-- A name of a message is among the files.

some_file : (file : MaildirFile) (raw : Option (List ℕ)) (m : Message)
    → option_map (message_of file) raw ≡ Some m → is_some raw ≡ true
some_file file None m e = absurd (none_some m e)
some_file file (Some raw) m e = refl

all_held : (tree : List TreeNode) (path : List ℕ) (file : MaildirFile) (m : Message)
    → IsMessageAt path tree file m → IsIn file (in_order_by comes_before (all_files tree path))
all_held tree path file m at =
    in_order_held comes_before file (all_files tree path) (by file.in_cur refl)
  where
    named : IsIn file.name (names_in tree (directory file.in_cur path))
    named = held_in file.name (names_in tree (directory file.in_cur path))
        (file_held tree (directory file.in_cur path) file.name
        (and_parts _ _ at.shown).0
        (some_file file (file_at tree (path_of path file)) m at.there))

    by : (in_cur : Bool) → file.in_cur ≡ in_cur → IsIn file (all_files tree path)
    by true is =
        let here = map_in (λ (n : List ℕ). record { in_cur = true; name = n }) file.name
        (filter is_shown (names_in tree (directory true path)))
        (filter_in is_shown file.name (names_in tree (directory true path)) at.shown
        (subst (λ (b : Bool). IsIn file.name (names_in tree (directory b path))) is named)) in
        in_left file (files_in true (names_in tree (directory true path)))
        (files_in false (names_in tree (directory false path)))
        (subst (λ (f : MaildirFile). IsIn f (files_in true (names_in tree (directory true path))))
        (λ i. record { in_cur = sym is i; name = file.name }) here)
    by false is =
        let here = map_in (λ (n : List ℕ). record { in_cur = false; name = n }) file.name
        (filter is_shown (names_in tree (directory false path)))
        (filter_in is_shown file.name (names_in tree (directory false path)) at.shown
        (subst (λ (b : Bool). IsIn file.name (names_in tree (directory b path))) is named)) in
        in_right file (files_in true (names_in tree (directory true path)))
        (files_in false (names_in tree (directory false path)))
        (subst (λ (f : MaildirFile). IsIn f (files_in false (names_in tree (directory false path))))
        (λ i. record { in_cur = sym is i; name = file.name }) here)

-- The messages of files, each the first of its base.

-- a message of these files is that of one of them
behind_at : (tree : List TreeNode) (path : List ℕ) (last : Option (List ℕ))
    (files : List MaildirFile) (m : Message) → IsIn m (messages_behind tree path last files)
    → (file : MaildirFile) × IsIn file files × (message_at tree path file ≡ Some m)
behind_at tree path last [] m held = absurd held
behind_at tree path last (file ∷ files) m held =
    by_taken (is_taken last (base_of file)) (message_at tree path file) refl held
    (λ l rest. behind_at tree path l files m rest)
  where
    one_more : (f : MaildirFile) × IsIn f files × (message_at tree path f ≡ Some m)
        → (f : MaildirFile) × IsIn f (file ∷ files) × (message_at tree path f ≡ Some m)
    one_more at = (at.0, inr at.1, at.2)

    by_taken : (taken : Bool) (there : Option Message) → message_at tree path file ≡ there
        → IsIn m (if taken then messages_behind tree path last files
        else with_message there (messages_behind tree path last files)
        (messages_behind tree path (Some (base_of file)) files))
        → ((l : Option (List ℕ)) → IsIn m (messages_behind tree path l files)
        → (f : MaildirFile) × IsIn f files × (message_at tree path f ≡ Some m))
        → (f : MaildirFile) × IsIn f (file ∷ files) × (message_at tree path f ≡ Some m)
    by_taken true there is held again = one_more (again last held)
    by_taken false None is held again = one_more (again last held)
    by_taken false (Some x) is (inl same) again =
        (file, inl refl, is ∙ ap (λ (n : Message). Some n) same)
    by_taken false (Some x) is (inr rest) again = one_more (again (Some (base_of file)) rest)

-- where each base has one name, a message of one of them is among them
behind_holds : (tree : List TreeNode) (path : List ℕ) (last : Option (List ℕ))
    (files : List MaildirFile) (file : MaildirFile) (m : Message) → AreShown files
    → IsSingleNamed path tree → IsIn file files → IsMessageAt path tree file m
    → is_taken last (base_of file) ≡ false → IsIn m (messages_behind tree path last files)
behind_holds tree path last [] file m shown single held at new = absurd held
behind_holds tree path last (first ∷ files) file m shown single held at new =
    by_taken (is_taken last (base_of first)) (message_at tree path first) refl refl held
    (λ l rest fresh. behind_holds tree path l files file m (λ f inside. shown f (inr inside))
    single rest at fresh)
  where
    here : first ≡ file → message_at tree path first ≡ Some m
    here same = ap (message_at tree path) same ∙ at.there

    other_base : (x : Message) → message_at tree path first ≡ Some x → (b : Bool)
        → bytes_eq (base_of first) (base_of file) ≡ b
        → (x ≡ m) ⊎ (is_taken (Some (base_of first)) (base_of file) ≡ false)
    other_base x is true same =
        let one : first ≡ file = single.single first file x m
        (record { shown = shown first (inl refl); there = is }) at
        (bytes_same (base_of first) (base_of file) same) in
        inl (some_same x m (sym is ∙ here one))
    other_base x is false same = inr same

    by_taken : (taken : Bool) (there : Option Message) → is_taken last (base_of first) ≡ taken
        → message_at tree path first ≡ there → IsIn file (first ∷ files)
        → ((l : Option (List ℕ)) → IsIn file files → is_taken l (base_of file) ≡ false
        → IsIn m (messages_behind tree path l files))
        → IsIn m (if taken then messages_behind tree path last files
        else with_message there (messages_behind tree path last files)
        (messages_behind tree path (Some (base_of first)) files))
    by_taken true there t is (inl same) again = absurd (true_false
        (sym t ∙ ap (λ (f : MaildirFile). is_taken last (base_of f)) same ∙ new))
    by_taken true there t is (inr rest) again = again last rest new
    by_taken false None t is (inl same) again = absurd (none_some m (sym is ∙ here same))
    by_taken false None t is (inr rest) again = again last rest new
    by_taken false (Some x) t is (inl same) again =
        inl (some_same x m (sym is ∙ here same))
    by_taken false (Some x) t is (inr rest) again =
        by_base (other_base x is (bytes_eq (base_of first) (base_of file)) refl)
      where
        by_base : (x ≡ m) ⊎ (is_taken (Some (base_of first)) (base_of file) ≡ false)
            → IsIn m (x ∷ messages_behind tree path (Some (base_of first)) files)
        by_base (inl same) = inl same
        by_base (inr fresh) = inr (again (Some (base_of first)) rest fresh)

-- Messages of files in order are in order.

-- no message behind one of a base has that base
behind_other : (tree : List TreeNode) (path : List ℕ) (f : MaildirFile)
    (files : List MaildirFile) (m : Message) → StaysUp comes_before files
    → ((g : MaildirFile) → IsIn g files → comes_before g f ≡ false)
    → IsIn m (messages_behind tree path (Some (base_of f)) files)
    → (h : MaildirFile) × IsIn h files × (message_at tree path h ≡ Some m)
    × (base_of h ≡ base_of f → ⊥)
behind_other tree path f [] m up above held = absurd held
behind_other tree path f (g ∷ files) m up above held =
    by_taken (bytes_eq (base_of f) (base_of g)) (message_at tree path g) refl refl held
    (λ rest. behind_other tree path f files m up.1 (λ h inside. above h (inr inside)) rest)
  where
    Found : List MaildirFile → Type 0
    Found inside = (h : MaildirFile) × IsIn h inside × (message_at tree path h ≡ Some m)
        × (base_of h ≡ base_of f → ⊥)

    one_more : Found files → Found (g ∷ files)
    one_more at = (at.0, inr at.1, at.2, at.3)

    apart : bytes_eq (base_of f) (base_of g) ≡ false → base_of g ≡ base_of f → ⊥
    apart not same =
        true_false (sym ((bytes_eq-Decides (base_of f) (base_of g)).1 (sym same)) ∙ not)

    later : bytes_eq (base_of f) (base_of g) ≡ false
        → (h : MaildirFile) × IsIn h files × (message_at tree path h ≡ Some m)
        → Found (g ∷ files)
    later not at = (
      at.0,
      inr at.1,
      at.2,
      λ same. true_false
          (sym (base_first at.0 g (subst (λ (b : List ℕ). is_lt (base_cmp b (base_of g)) ≡ true)
          (sym same) (base_behind (base_of f) (base_of g)
          (base_not_before f g (above g (inl refl))) (apart not))))
          ∙ up.0 at.0 at.1),
    )

    by_taken : (taken : Bool) (there : Option Message)
        → bytes_eq (base_of f) (base_of g) ≡ taken → message_at tree path g ≡ there
        → IsIn m (if taken then messages_behind tree path (Some (base_of f)) files
        else with_message there (messages_behind tree path (Some (base_of f)) files)
        (messages_behind tree path (Some (base_of g)) files))
        → (IsIn m (messages_behind tree path (Some (base_of f)) files) → Found files)
        → Found (g ∷ files)
    by_taken true there t is held again = one_more (again held)
    by_taken false None t is held again = one_more (again held)
    by_taken false (Some x) t is (inl same) again =
        (g, inl refl, is ∙ ap (λ (n : Message). Some n) same, apart t)
    by_taken false (Some x) t is (inr rest) again =
        later t (behind_at tree path (Some (base_of g)) files m rest)

-- order and key of a message are those of its name's base
placed_by : (file : MaildirFile) (raw : Option (List ℕ)) (m : Message)
    → option_map (message_of file) raw ≡ Some m
    → (m.order ≡ order_of (base_of file)) × (m.key ≡ base_of file)
placed_by file None m e = absurd (none_some m e)
placed_by file (Some raw) m e =
    let same : message_of file raw ≡ m = some_same (message_of file raw) m e in
    (sym (ap (λ (n : Message). n.order) same), sym (ap (λ (n : Message). n.key) same))

pub message_placed : (tree : List TreeNode) (path : List ℕ) (file : MaildirFile) (m : Message)
    → message_at tree path file ≡ Some m
    → (m.order ≡ order_of (base_of file)) × (m.key ≡ base_of file)
message_placed tree path file m at = placed_by file (file_at tree (path_of path file)) m at

behind_rise : (tree : List TreeNode) (path : List ℕ) (last : Option (List ℕ))
    (files : List MaildirFile) → StaysUp comes_before files
    → Rise stands_before (messages_behind tree path last files)
behind_rise tree path last [] up = tt
behind_rise tree path last (file ∷ files) up =
    by_taken (is_taken last (base_of file)) (message_at tree path file) refl
    (λ l. behind_rise tree path l files up.1)
  where
    before : (x n : Message) → message_at tree path file ≡ Some x
        → (h : MaildirFile) × IsIn h files × (message_at tree path h ≡ Some n)
        × (base_of h ≡ base_of file → ⊥)
        → stands_before x n ≡ true
    before x n is at =
        let p = message_placed tree path file x is in
        let q = message_placed tree path at.0 n at.2 in
        (λ i. is_lt (ordering_then (nat_cmp (p.0 i) (q.0 i)) (slice_cmp nat_cmp (p.1 i) (q.1 i))))
        ∙ base_behind (base_of file) (base_of at.0)
        (base_not_before file at.0 (up.0 at.0 at.1)) at.3

    by_taken : (taken : Bool) (there : Option Message) → message_at tree path file ≡ there
        → ((l : Option (List ℕ)) → Rise stands_before (messages_behind tree path l files))
        → Rise stands_before (if taken then messages_behind tree path last files
        else with_message there (messages_behind tree path last files)
        (messages_behind tree path (Some (base_of file)) files))
    by_taken true there is again = again last
    by_taken false None is again = again last
    by_taken false (Some x) is again = (
      λ n held. before x n is
          (behind_other tree path file files n up.1 up.0 held),
      again (Some (base_of file)),
    )

-- What a Maildir reads as.

-- its messages are in order
pub messages_rise : (tree : List TreeNode) (path : List ℕ)
    → Rise stands_before (maildir_messages tree path)
messages_rise tree path = behind_rise tree path None (in_order_by comes_before (all_files tree
    path))
    (ordered_up comes_before file_order (all_files tree path))

-- each is that of a name
pub message_named : (tree : List TreeNode) (path : List ℕ) (m : Message)
    → IsIn m (maildir_messages tree path) → (file : MaildirFile) × IsMessageAt path tree file m
message_named tree path m held =
    let at = behind_at tree path None (in_order_by comes_before (all_files tree path)) m held in
    (at.0, record { shown = all_shown tree path at.0 at.1; there = at.2 })

-- where each base has one name, each message of a name is one of them
pub named_message : (tree : List TreeNode) (path : List ℕ) (file : MaildirFile) (m : Message)
    → IsSingleNamed path tree → IsMessageAt path tree file m
    → IsIn m (maildir_messages tree path)
named_message tree path file m single at =
    behind_holds tree path None (in_order_by comes_before (all_files tree path)) file m
    (all_shown tree path) single (all_held tree path file m at) at refl
