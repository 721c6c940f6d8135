-- A Maildir is read as its shape says.
use Rattle.std.proofs.Common.{◌≡◌, ◌⊎◌, inl, inr, ⊎_elim, ℕ, ◌==◌, Bool, true, false, not, ◌||◌}
use Rattle.std.proofs.Common.{List, [], ◌∷◌, ◌++◌, Option, Some, None, map, is_some, if◌then◌else◌}
use Rattle.std.proofs.Common.{refl, sym, ◌∙◌, ap, subst, append_assoc, codes}
use Rattle.std.proofs.lemmas.List.{append-nil}
use Rattle.std.specs.Prelude.{option_map, unwrap_or}
use Rattle.std.specs.List.{filter}
use Rattle.std.specs.Cmp.{IsStrictWeakOrder, IsTotalOrder, bool_cmp_total}
use Rattle.std.specs.Cmp.Lexicographic.{slice_cmp}
use Rattle.std.specs.Ordering.{bool_cmp, is_lt, nat_cmp, ordering_reverse, ordering_then}
use Rattle.std.specs.declared.cmp.Ordering.{Ordering}
use Rattle.std.specs.declared.cmp.Ordering.TheVariants.{Less, Equal, Greater}
use Rattle.std.proofs.lemmas.Cmp.{on_total, then_total, back_total, nat_cmp_total}
use Rattle.std.proofs.lemmas.Cmp.{nat_list_cmp_total}
use Rattle.std.proofs.lemmas.List.Sorted.{ranks_by}
use Rattle.std.specs.Str.{bytes_eq}
use Rattle.std.proofs.lemmas.Bool.{cases_Bool, cond-true, cond-false, eq-eqb}
use Rattle.std.proofs.lemmas.Bool.{false_from_ne_true, and_parts}
use Rattle.disk_model.specs.Tree.{TreeNode, is_root}
use Rattle.disk_model.specs.Names.{names_in}
use Rattle.mail_base.specs.Ordered.{in_order_by, put_by}
use Rattle.mail_base.proofs.OrderedLemmas.{text_same, then_equal}
use Rattle.folder_core.specs.Directory.{file_at, front_of, is_name, path_in}
use Rattle.folder_core.specs.Message.{Message}
use Rattle.folder_core.specs.Maildir.{MaildirFile, all_files, base_of, comes_before, directory}
use Rattle.folder_core.specs.Maildir.{file_cmp, files_in, is_shown, is_taken, message_at}
use Rattle.folder_core.specs.Maildir.{message_of, messages_behind, path_of, with_message}
use Rattle.folder_core.specs.MaildirNames.{begins_dot, order_of, split_name}
use Rattle.folder_core.proofs.NamesIn.{file_held, holds_name, path_is_in}
use Rattle.folder_stops.specs.Words.{Among}
use Rattle.folder_stops.specs.Folder.{IsFolder}
use Rattle.folder_stops.specs.Shape.{IsOrder, IsWellFormed}
use Rattle.folder_stops.specs.Reads.{ReadMessage, HasKey, IsReading, IsRising}
use Rattle.folder_stops.proofs.Words.{among_left, among_right, equal, same}
use Rattle.folder_shapes.specs.Reading.{behind, plain_message}
use Rattle.folder_shapes.specs.Maildir.{base_before, base_cmp, maildir_files, maildir_read}
use Rattle.folder_shapes.specs.Maildir.{maildir_shape, name_in, name_key, or_else}
use Rattle.folder_shapes.proofs.Nodes.{behind_is, behind_there, file_node, node_has}
use Rattle.folder_shapes.proofs.Sorting.{in_put, in_sorted, sorted_in}

-- the orders

pub base_total : IsTotalOrder base_cmp
base_total = then_total (on_total order_of nat_cmp_total) nat_list_cmp_total

base_order : IsStrictWeakOrder base_before
base_order = ranks_by base_total (λ (b : List ℕ). b)

base_tie : (a b : List ℕ) → base_before a b ≡ false → base_before b a ≡ false → a ≡ b
base_tie a b first second = by_cmp (base_cmp a b) refl first
  where
    by_cmp : (r : Ordering) → base_cmp a b ≡ r → is_lt r ≡ false → a ≡ b
    by_cmp Less e off = absurd (cc)
    by_cmp Equal e off = text_same a b
        (then_equal (nat_cmp (order_of a) (order_of b)) (slice_cmp nat_cmp a b) e).1
    by_cmp Greater e off = let f : is_lt (base_cmp b a) ≡ true =
        ap is_lt (base_total.antisymm b a ∙ ap ordering_reverse e) in absurd (cc)

file_total : IsTotalOrder file_cmp
file_total =
    then_total (on_total (λ (f : MaildirFile). order_of (base_of f)) nat_cmp_total)
    (then_total (on_total base_of nat_list_cmp_total)
    (then_total (back_total (on_total (λ (f : MaildirFile). f.in_cur) bool_cmp_total))
    (on_total (λ (f : MaildirFile). f.name) nat_list_cmp_total)))

file_order : IsStrictWeakOrder comes_before
file_order = ranks_by file_total (λ (f : MaildirFile). f)

never : (a : List ℕ) → base_before a a ≡ false
never a = false_from_ne_true (base_before a a) (λ e.
    let f : base_before a a ≡ false = base_order.one_way a a e in cc)

through : (a b c : List ℕ) → base_before a b ≡ true → base_before b c ≡ true → base_before a c
    ≡ true
through a b c first second = ⊎_elim {C = base_before a c ≡ true} (λ e. e)
    (λ (e : base_before a c ≡ false).
    let f : base_before a b ≡ false = base_order.chain a c b e (base_order.one_way b c second) in
    absurd (cc))
    (cases_Bool (base_before a c))

either : (a b : List ℕ) → (a ≡ b) ⊎ ((base_before a b ≡ true) ⊎ (base_before b a ≡ true))
either a b = ⊎_elim {C = (a ≡ b) ⊎ ((base_before a b ≡ true) ⊎ (base_before b a ≡ true))}
    (λ e. inr (inl e))
    (λ (e : base_before a b ≡ false).
    ⊎_elim {C = (a ≡ b) ⊎ ((base_before a b ≡ true) ⊎ (base_before b a ≡ true))}
    (λ f. inr (inr f)) (λ (f : base_before b a ≡ false). inl (base_tie a b e f))
    (cases_Bool (base_before b a)))
    (cases_Bool (base_before a b))

pub maildir_order : IsOrder base_before
maildir_order = record { never = never; trans = through; either = either }

-- files in order

not_lower : (p q r : Ordering) → is_lt (ordering_then p (ordering_then q r)) ≡ false
    → is_lt (ordering_then p q) ≡ false
not_lower Less q r e = e
not_lower Equal Less r e = e
not_lower Equal Equal r e = refl
not_lower Equal Greater r e = refl
not_lower Greater q r e = refl

base_not_lower : (a b : MaildirFile) → comes_before a b ≡ false
    → base_before (base_of a) (base_of b) ≡ false
base_not_lower a b e =
    not_lower (nat_cmp (order_of (base_of a)) (order_of (base_of b)))
    (slice_cmp nat_cmp (base_of a) (base_of b))
    (ordering_then (bool_cmp b.in_cur a.in_cur) (slice_cmp nat_cmp a.name b.name)) e

abbrev Upward : List MaildirFile → Type 0
Upward [] = Unit {0}
Upward (x ∷ xs) = ((y : MaildirFile) → Among y xs → comes_before y x ≡ false) × Upward xs

up_put : (x : MaildirFile) (xs : List MaildirFile) → Upward xs → Upward (put_by comes_before x xs)
up_put x [] up = ((λ y in_it. absurd in_it), tt)
up_put x (z ∷ xs) up = ⊎_elim {C = Upward (put_by comes_before x (z ∷ xs))}
    (λ (t : comes_before z x ≡ true). subst Upward
    (sym (cond-true (comes_before z x) (z ∷ put_by comes_before x xs) (x ∷ z ∷ xs) t)) (
      (λ y in_it. ⊎_elim {C = comes_before y z ≡ false}
          (λ (is : y ≡ x). subst (λ (f : MaildirFile). comes_before f z ≡ false) (sym is)
          (file_order.one_way z x t)) (λ (old : Among y xs). up.0 y old) (in_put comes_before y x
          xs in_it)),
      up_put x xs up.1,
    ))
    (λ (t : comes_before z x ≡ false). subst Upward
    (sym (cond-false (comes_before z x) (z ∷ put_by comes_before x xs) (x ∷ z ∷ xs) t)) (
      (λ y in_it. ⊎_elim {C = comes_before y x ≡ false}
          (λ (is : y ≡ z). subst (λ (f : MaildirFile). comes_before f x ≡ false) (sym is) t)
          (λ (old : Among y xs). file_order.chain y z x (up.0 y old) t) in_it),
      up,
    ))
    (cases_Bool (comes_before z x))

up_sorted : (xs : List MaildirFile) → Upward (in_order_by comes_before xs)
up_sorted [] = tt
up_sorted (x ∷ xs) = up_put x (in_order_by comes_before xs) (up_sorted xs)

-- names that may be messages

abbrev file_in : Bool → List ℕ → MaildirFile
file_in in_cur name = record { in_cur = in_cur; name = name }

shown_in : (in_cur : Bool) (f : MaildirFile) (names : List (List ℕ))
    → Among f (files_in in_cur names) → is_shown f.name ≡ true
shown_in in_cur f [] in_it = absurd in_it
shown_in in_cur f (n ∷ names) in_it = ⊎_elim {C = is_shown f.name ≡ true}
    (λ (t : is_shown n ≡ true). ⊎_elim {C = is_shown f.name ≡ true}
    (λ (is : f ≡ record { in_cur = in_cur; name = n }). ap (λ (g : MaildirFile). is_shown g.name) is
    ∙ t) (λ (later : Among f (files_in in_cur names)). shown_in in_cur f names later)
    (subst (λ (l : List (List ℕ)). Among f (map (file_in in_cur) l))
    (cond-true (is_shown n) (n ∷ filter is_shown names) (filter is_shown names) t) in_it))
    (λ (t : is_shown n ≡ false). shown_in in_cur f names
    (subst (λ (l : List (List ℕ)). Among f (map (file_in in_cur) l))
    (cond-false (is_shown n) (n ∷ filter is_shown names) (filter is_shown names) t) in_it))
    (cases_Bool (is_shown n))

in_shown : (in_cur : Bool) (name : List ℕ) (names : List (List ℕ)) → is_shown name ≡ true
    → holds_name name names ≡ true
    → Among {A = MaildirFile} (record { in_cur = in_cur; name = name }) (files_in in_cur names)
in_shown in_cur name [] shown held = absurd (cc)
in_shown in_cur name (n ∷ names) shown held =
    ⊎_elim {C = Among {A = MaildirFile} (record { in_cur = in_cur; name = name })
    (files_in in_cur (n ∷ names))}
    (λ (t : bytes_eq n name ≡ true). let is : n ≡ name = equal n name t in
    subst (λ (l : List (List ℕ)). Among {A = MaildirFile} (record { in_cur = in_cur; name = name })
    (map (file_in in_cur) l))
    (sym (cond-true (is_shown n) (n ∷ filter is_shown names) (filter is_shown names)
    (ap is_shown is ∙ shown)))
    (inl (ap (λ (k : List ℕ). record { in_cur = in_cur; name = k }) (sym is))))
    (λ (t : bytes_eq n name ≡ false).
    let rest = in_shown in_cur name names shown
    (sym (ap (λ (b : Bool). b || holds_name name names) t) ∙ held) in
    more (is_shown n) rest)
    (cases_Bool (bytes_eq n name))
  where
    more : (b : Bool) → Among {A = MaildirFile} (record { in_cur = in_cur; name = name })
        (files_in in_cur names)
        → Among {A = MaildirFile} (record { in_cur = in_cur; name = name })
        (map (file_in in_cur) (if b then n ∷ filter is_shown names else filter is_shown names))
    more true rest = inr rest
    more false rest = rest

shown_all : (tree : List TreeNode) (dir : List ℕ) (f : MaildirFile) → Among f (all_files tree dir)
    → is_shown f.name ≡ true
shown_all tree dir f in_it =
    split (files_in true (names_in tree (directory true dir)))
    (files_in false (names_in tree (directory false dir))) (λ g h.
    shown_in true g (names_in tree (directory true dir)) h) (λ g h.
    shown_in false g (names_in tree (directory false dir)) h) f in_it
  where
    split : (xs ys : List MaildirFile) → ((g : MaildirFile) → Among g xs → is_shown g.name ≡ true)
        → ((g : MaildirFile) → Among g ys → is_shown g.name ≡ true) → (g : MaildirFile)
        → Among g (xs ++ ys) → is_shown g.name ≡ true
    split [] ys one two g in_it = two g in_it
    split (x ∷ xs) ys one two g (inl is) = one g (inl is)
    split (x ∷ xs) ys one two g (inr later) = split xs ys (λ h in_h. one h (inr in_h)) two g later

all_shown : (tree : List TreeNode) (dir : List ℕ) (in_cur : Bool) (name : List ℕ) → is_shown name
    ≡ true → holds_name name (names_in tree (directory in_cur dir)) ≡ true
    → Among {A = MaildirFile} (record { in_cur = in_cur; name = name }) (all_files tree dir)
all_shown tree dir true name shown held =
    among_left (record { in_cur = true; name = name })
    (files_in true (names_in tree (directory true dir)))
    (files_in false (names_in tree (directory false dir)))
    (in_shown true name (names_in tree (directory true dir)) shown held)
all_shown tree dir false name shown held =
    among_right (record { in_cur = false; name = name })
    (files_in true (names_in tree (directory true dir)))
    (files_in false (names_in tree (directory false dir)))
    (in_shown false name (names_in tree (directory false dir)) shown held)

-- messages of files

module _ (tree : List TreeNode) (dir : List ℕ) where
  abbrev there : MaildirFile → Option Message
  there f = message_at tree dir f

  gives_found : (found : Option (List ℕ)) (f : MaildirFile) (m : Message)
      → option_map (message_of f) found ≡ Some m → (m.key ≡ base_of f) × (found ≡ Some m.raw)
  gives_found None f m e = absurd (cc)
  gives_found (Some raw) f m e =
      let is : message_of f raw ≡ m = ap (λ (o : Option Message). unwrap_or o m) e in
      (sym (ap (λ (y : Message). y.key) is), ap Some (ap (λ (y : Message). y.raw) is))

  gives : (f : MaildirFile) (m : Message) → there f ≡ Some m → (m.key ≡ base_of f)
      × (file_at tree (path_of dir f) ≡ Some m.raw)
  gives f m e = gives_found (file_at tree (path_of dir f)) f m e

  abbrev read_files : Option (List ℕ) → List MaildirFile → List ReadMessage
  read_files last files = map plain_message (messages_behind tree dir last files)

  -- what is read of a file and of those behind it
  abbrev read_step : Bool → Option Message → Option (List ℕ) → MaildirFile → List MaildirFile
      → List ReadMessage
  read_step taken found last f files =
      map plain_message (if taken then messages_behind tree dir last files else with_message found
      (messages_behind tree dir last files) (messages_behind tree dir (Some (base_of f)) files))

  step_from : (taken : Bool) (found : Option Message) (last : Option (List ℕ)) (f : MaildirFile)
      (files : List MaildirFile) (l : ReadMessage) → Among l (read_step taken found last f files)
      → ((taken ≡ false) × (m : Message) × (found ≡ Some m) × (l ≡ plain_message m))
      ⊎ ((Among l (read_files last files))
      ⊎ ((taken ≡ false) × Among l (read_files (Some (base_of f)) files)))
  step_from true found last f files l in_it = inr (inl in_it)
  step_from false None last f files l in_it = inr (inl in_it)
  step_from false (Some m) last f files l (inl is) = inl (refl, m, refl, is)
  step_from false (Some m) last f files l (inr later) = inr (inr (refl, later))

  from_files : (last : Option (List ℕ)) (files : List MaildirFile) (l : ReadMessage)
      → Among l (read_files last files) → (f : MaildirFile) × (m : Message) × Among f files
      × (there f ≡ Some m) × (l ≡ plain_message m)
  from_files last [] l in_it = absurd in_it
  from_files last (f ∷ files) l in_it =
      ⊎_elim {C = (g : MaildirFile) × (m : Message) × Among g (f ∷ files) × (there g ≡ Some m)
      × (l ≡ plain_message m)}
      (λ (here : (is_taken last (base_of f) ≡ false) × (m : Message) × (there f ≡ Some m)
      × (l ≡ plain_message m)). (f, here.1, inl refl, here.2, here.3))
      (λ (later : (Among l (read_files last files))
      ⊎ ((is_taken last (base_of f) ≡ false) × Among l (read_files (Some (base_of f)) files))).
      ⊎_elim {C = (g : MaildirFile) × (m : Message) × Among g (f ∷ files) × (there g ≡ Some m)
      × (l ≡ plain_message m)}
      (λ (old : Among l (read_files last files)). let rest = from_files last files l old in
      (rest.0, rest.1, inr rest.2, rest.3, rest.4))
      (λ (new : (is_taken last (base_of f) ≡ false)
      × Among l (read_files (Some (base_of f)) files)).
      let rest = from_files (Some (base_of f)) files l new.1 in
      (rest.0, rest.1, inr rest.2, rest.3, rest.4))
      later)
      (step_from (is_taken last (base_of f)) (there f) last f files l in_it)

  -- no base stands base_before this one
  abbrev NoneBelow : List ℕ → List MaildirFile → Type 0
  NoneBelow b files = (f : MaildirFile) → Among f files → base_before (base_of f) b ≡ false

  above : (b : List ℕ) (files : List MaildirFile) → Upward files → NoneBelow b files
      → (l : ReadMessage) → Among l (read_files (Some b) files) → base_before b l.key ≡ true
  above b [] up none l in_it = absurd in_it
  above b (f ∷ files) up none l in_it = ⊎_elim {C = base_before b l.key ≡ true}
      (λ (here : (is_taken (Some b) (base_of f) ≡ false) × (m : Message) × (there f ≡ Some m)
      × (l ≡ plain_message m)).
      let key : l.key ≡ base_of f = ap (λ (y : ReadMessage). y.key) here.3
      ∙ (gives f here.1 here.2).0 in
      subst (λ (k : List ℕ). base_before b k ≡ true) (sym key) (past here.0))
      (λ (later : (Among l (read_files (Some b) files))
      ⊎ ((is_taken (Some b) (base_of f) ≡ false) × Among l (read_files (Some (base_of f)) files))).
      ⊎_elim {C = base_before b l.key ≡ true}
      (λ (old : Among l (read_files (Some b) files)). above b files up.1 (λ g in_g.
      none g (inr in_g)) l old)
      (λ (new : (is_taken (Some b) (base_of f) ≡ false)
      × Among l (read_files (Some (base_of f)) files)).
      through b (base_of f) l.key (past new.0)
      (above (base_of f) files up.1 (λ g in_g. base_not_lower g f (up.0 g in_g)) l new.1))
      later)
      (step_from (is_taken (Some b) (base_of f)) (there f) (Some b) f files l in_it)
    where
      past : bytes_eq b (base_of f) ≡ false → base_before b (base_of f) ≡ true
      past ne = ⊎_elim {C = base_before b (base_of f) ≡ true}
          (λ (is : b ≡ base_of f).
          let yes : bytes_eq b (base_of f) ≡ true =
          subst (λ (k : List ℕ). bytes_eq b k ≡ true) is (same b) in absurd (cc))
          (λ (w : (base_before b (base_of f) ≡ true) ⊎ (base_before (base_of f) b ≡ true)).
          ⊎_elim {C = base_before b (base_of f) ≡ true} (λ t.
          t) (λ (t : base_before (base_of f) b ≡ true). let no : base_before (base_of f) b ≡ false =
          none f (inl refl) in absurd (cc)) w)
          (either b (base_of f))

  step_rising : (taken : Bool) (found : Option Message) (last : Option (List ℕ)) (f : MaildirFile)
      (files : List MaildirFile) → there f ≡ found → Upward (f ∷ files)
      → IsRising base_before (read_files last files)
      → IsRising base_before (read_files (Some (base_of f)) files)
      → IsRising base_before (read_step taken found last f files)
  step_rising true found last f files e up old new = old
  step_rising false None last f files e up old new = old
  step_rising false (Some m) last f files e up old new = (
    (λ l in_it. subst (λ (k : List ℕ). base_before k l.key ≡ true) (sym (gives f m e).0)
        (above (base_of f) files up.1 (λ g in_g. base_not_lower g f (up.0 g in_g)) l in_it)),
    new,
  )

  files_rising : (last : Option (List ℕ)) (files : List MaildirFile) → Upward files
      → IsRising base_before (read_files last files)
  files_rising last [] up = tt
  files_rising last (f ∷ files) up =
      step_rising (is_taken last (base_of f)) (there f) last f files refl up
      (files_rising last files up.1) (files_rising (Some (base_of f)) files up.1)

  -- each file's base is read, unless it was taken base_before
  abbrev IsTakenBy : Option (List ℕ) → List ℕ → Type 0
  IsTakenBy last base = is_taken last base ≡ true

  step_there : (taken : Bool) (found : Option Message) (last : Option (List ℕ)) (f : MaildirFile)
      (files : List MaildirFile) (key : List ℕ) → there f ≡ found
      → HasKey key (read_files last files) ⊎ IsTakenBy last key
      → HasKey key (read_files (Some (base_of f)) files) ⊎ IsTakenBy (Some (base_of f)) key
      → HasKey key (read_step taken found last f files) ⊎ IsTakenBy last key
  step_there true found last f files key e old new = old
  step_there false None last f files key e old new = old
  step_there false (Some m) last f files key e old (inl has) = inl (has.0, inr has.1, has.2)
  step_there false (Some m) last f files key e old (inr taken) =
      inl (plain_message m, inl refl, (gives f m e).0 ∙ equal (base_of f) key taken)

  own_there : (taken : Bool) (found : Option Message) (last : Option (List ℕ)) (f : MaildirFile)
      (files : List MaildirFile) (m : Message) → is_taken last (base_of f) ≡ taken → there f ≡ found
      → there f ≡ Some m → HasKey (base_of f) (read_step taken found last f files)
      ⊎ IsTakenBy last (base_of f)
  own_there true found last f files m t e is = inr t
  own_there false None last f files m t e is = let no : None ≡ Some m = sym e ∙ is in absurd (cc)
  own_there false (Some n) last f files m t e is = inl (plain_message n, inl refl, (gives f n e).0)

  to_files : (last : Option (List ℕ)) (files : List MaildirFile) (f : MaildirFile) (m : Message)
      → Among f files → there f ≡ Some m → HasKey (base_of f) (read_files last files)
      ⊎ IsTakenBy last (base_of f)
  to_files last [] f m in_it e = absurd in_it
  to_files last (x ∷ files) f m (inl is) e =
      subst (λ (y : MaildirFile). HasKey (base_of y) (read_files last (x ∷ files)) ⊎ IsTakenBy last
      (base_of y)) (sym is)
      (own_there (is_taken last (base_of x)) (there x) last x files m refl refl
      (ap there (sym is) ∙ e))
  to_files last (x ∷ files) f m (inr later) e =
      step_there (is_taken last (base_of x)) (there x) last x files (base_of f) refl
      (to_files last files f m later e) (to_files (Some (base_of x)) files f m later e)

-- paths

shown_name : (name : List ℕ) → is_shown name ≡ true → is_name name ≡ true
shown_name name e = (and_parts (is_name name) (not (begins_dot name)) e).0

key_there : (found : Option (List ℕ)) (key : List ℕ) → name_key found ≡ Some key → (name : List ℕ)
    × (found ≡ Some name) × (is_shown name ≡ true) × ((split_name name).0 ≡ key)
key_there None key e = absurd (cc)
key_there (Some name) key e =
    ⊎_elim {C = (n : List ℕ) × (Some name ≡ Some n) × (is_shown n ≡ true)
    × ((split_name n).0 ≡ key)}
    (λ (t : is_shown name ≡ true).
    let is : Some (split_name name).0 ≡ Some key =
    sym (cond-true (is_shown name) (Some (split_name name).0) None t) ∙ e in
    (name, refl, t, cc))
    (λ (f : is_shown name ≡ false).
    let n : None ≡ Some key = sym (cond-false (is_shown name) (Some (split_name name).0) None f)
    ∙ e in absurd (cc))
    (cases_Bool (is_shown name))

one_of : (a b : Option (List ℕ)) (key : List ℕ) → or_else a b ≡ Some key → (a ≡ Some key)
    ⊎ (b ≡ Some key)
one_of None b key e = inr e
one_of (Some x) b key e = inl e

behind_split : (front a b : List ℕ) → behind (front ++ a) (front ++ b) ≡ behind a b
behind_split [] a b = refl
behind_split (x ∷ front) a b = cond-true (x == x) _ _ (eq-eqb x x refl) ∙ behind_split front a b

front_cases : (d : List ℕ) → (front_of d ≡ d ++ []) ⊎ (front_of d ≡ d ++ 47 ∷ [])
front_cases d = ⊎_elim {C = (front_of d ≡ d ++ []) ⊎ (front_of d ≡ d ++ 47 ∷ [])}
    (λ (t : is_root d ≡ true). inl (cond-true (is_root d) d (d ++ 47 ∷ []) t ∙ sym (append-nil d)))
    (λ (t : is_root d ≡ false). inr (cond-false (is_root d) d (d ++ 47 ∷ []) t))
    (cases_Bool (is_root d))

one_case : (dir a b name : List ℕ)
    → behind ((front_of dir ++ codes "cur") ++ a) (((front_of dir ++ codes "new") ++ b) ++ name)
    ≡ None
one_case dir a b name =
    (λ i. behind (append_assoc (front_of dir) (codes "cur") a i)
    ((append_assoc (front_of dir) (codes "new") b ∙ refl) i ++ name))
    ∙ ap (behind (front_of dir ++ (codes "cur" ++ a)))
    (append_assoc (front_of dir) (codes "new" ++ b) name)
    ∙ behind_split (front_of dir) (codes "cur" ++ a) ((codes "new" ++ b) ++ name)

not_cur : (dir name : List ℕ) → name_in true dir (path_in (directory false dir) name) ≡ None
not_cur dir name = by_fronts (front_cases (directory true dir)) (front_cases (directory false dir))
  where
    with_fronts : (x y a b : List ℕ) → x ≡ directory true dir ++ a → y ≡ directory false dir ++ b
        → behind x (y ++ name) ≡ None
    with_fronts x y a b e f = (λ i. behind (e i) (f i ++ name)) ∙ one_case dir a b name

    by_fronts : (front_of (directory true dir) ≡ directory true dir ++ [])
        ⊎ (front_of (directory true dir) ≡ directory true dir ++ 47 ∷ [])
        → (front_of (directory false dir) ≡ directory false dir ++ [])
        ⊎ (front_of (directory false dir) ≡ directory false dir ++ 47 ∷ [])
        → behind (front_of (directory true dir)) (front_of (directory false dir) ++ name) ≡ None
    by_fronts (inl e) (inl f) = with_fronts _ _ [] [] e f
    by_fronts (inl e) (inr f) = with_fronts _ _ [] (47 ∷ []) e f
    by_fronts (inr e) (inl f) = with_fronts _ _ (47 ∷ []) [] e f
    by_fronts (inr e) (inr f) = with_fronts _ _ (47 ∷ []) (47 ∷ []) e f

-- a message's name gives its base
pub slot_of : (dir : List ℕ) (in_cur : Bool) (name : List ℕ) → is_shown name ≡ true
    → (maildir_shape dir).slot (path_of dir (record { in_cur = in_cur; name = name }))
    ≡ Some (split_name name).0
slot_of dir true name shown =
    ap (λ (o : Option (List ℕ)). or_else o
    (name_key (name_in false dir (path_in (directory true dir) name))))
    (ap name_key (behind_there (front_of (directory true dir)) name) ∙ cond-true (is_shown name)
    (Some (split_name name).0) None shown)
slot_of dir false name shown =
    ap (λ (o : Option (List ℕ)). or_else (name_key o)
    (name_key (name_in false dir (path_in (directory false dir) name)))) (not_cur dir name)
    ∙ ap name_key (behind_there (front_of (directory false dir)) name)
    ∙ cond-true (is_shown name) (Some (split_name name).0) None shown

-- no message stands at the path of `new`
pub slot_new : (dir : List ℕ) → (maildir_shape dir).slot (directory false dir) ≡ None
slot_new dir =
    ap (λ (o : Option (List ℕ)). or_else (name_key o)
    (name_key (name_in false dir (directory false dir))))
    (by_cur (front_cases (directory true dir)))
    ∙ by_new (front_cases (directory false dir))
  where
    with_front : (x a : List ℕ) → x ≡ directory true dir ++ a → behind x (directory false dir)
        ≡ None
    with_front x a e =
        (λ i. behind (e i) (sym (append-nil (directory false dir)) i))
        ∙ (λ i. behind (directory true dir ++ a)
        (sym (append-nil (directory false dir ++ [])) i)) ∙ one_case dir a [] []

    by_cur : (front_of (directory true dir) ≡ directory true dir ++ [])
        ⊎ (front_of (directory true dir) ≡ directory true dir ++ 47 ∷ [])
        → behind (front_of (directory true dir)) (directory false dir) ≡ None
    by_cur (inl e) = with_front _ [] e
    by_cur (inr e) = with_front _ (47 ∷ []) e

    by_new : (front_of (directory false dir) ≡ directory false dir ++ [])
        ⊎ (front_of (directory false dir) ≡ directory false dir ++ 47 ∷ [])
        → name_key (behind (front_of (directory false dir)) (directory false dir)) ≡ None
    by_new (inl e) =
        (λ i. name_key (behind (e i) (sym (append-nil (directory false dir)) i)))
        ∙ ap name_key (behind_split (directory false dir) [] [])
    by_new (inr e) =
        (λ i. name_key (behind (e i) (sym (append-nil (directory false dir)) i)))
        ∙ ap name_key (behind_split (directory false dir) (47 ∷ []) [])

file_of : (dir path key : List ℕ) → (maildir_shape dir).slot path ≡ Some key → (f : MaildirFile)
    × (path ≡ path_of dir f) × (is_shown f.name ≡ true) × (base_of f ≡ key)
file_of dir path key e =
    ⊎_elim {C = (f : MaildirFile) × (path ≡ path_of dir f) × (is_shown f.name ≡ true)
    × (base_of f ≡ key)}
    (λ (a : name_key (name_in true dir path) ≡ Some key).
    let at = key_there (name_in true dir path) key a in
    (file_in true at.0, behind_is (front_of (directory true dir)) path at.0 at.1, at.2, at.3))
    (λ (b : name_key (name_in false dir path) ≡ Some key).
    let at = key_there (name_in false dir path) key b in
    (file_in false at.0, behind_is (front_of (directory false dir)) path at.0 at.1, at.2, at.3))
    (one_of (name_key (name_in true dir path)) (name_key (name_in false dir path)) key e)

behind_more : (a b path rest : List ℕ) → behind (a ++ b) path ≡ Some rest → is_some (behind a path)
    ≡ true
behind_more [] b path rest e = refl
behind_more (x ∷ a) b [] rest e = absurd (cc)
behind_more (x ∷ a) b (y ∷ path) rest e = ⊎_elim {C = is_some (behind (x ∷ a) (y ∷ path)) ≡ true}
    (λ (t : (x == y) ≡ true). ap is_some (cond-true (x == y) (behind a path) None t) ∙ behind_more a
    b path rest (sym (cond-true (x == y) (behind (a ++ b) path) None t) ∙ e))
    (λ (f : (x == y) ≡ false).
    let n : None ≡ Some rest = sym (cond-false (x == y) (behind (a ++ b) path) None f) ∙ e in
    absurd (cc))
    (cases_Bool (x == y))

front_more : (dir word : List ℕ) → (more : List ℕ)
    × (front_of (path_in dir word) ≡ front_of dir ++ more)
front_more dir word =
    ⊎_elim {C = (more : List ℕ) × (front_of (path_in dir word) ≡ front_of dir ++ more)}
    (λ (e : front_of (path_in dir word) ≡ path_in dir word ++ []). (
      word ++ [],
      e ∙ append_assoc (front_of dir) word [],
    ))
    (λ (e : front_of (path_in dir word) ≡ path_in dir word ++ 47 ∷ []). (
      word ++ 47 ∷ [],
      e ∙ append_assoc (front_of dir) word (47 ∷ []),
    ))
    (front_cases (path_in dir word))

in_home : (dir word path rest : List ℕ) → behind (front_of (path_in dir word)) path ≡ Some rest
    → is_some (behind (front_of dir) path) ≡ true
in_home dir word path rest e = let more = front_more dir word in
    behind_more (front_of dir) more.0 path rest
    (ap (λ (f : List ℕ). behind f path) (sym more.1) ∙ e)

inside : (dir path key : List ℕ) → (maildir_shape dir).slot path ≡ Some key
    → (maildir_shape dir).home path ≡ true
inside dir path key e = ⊎_elim {C = (maildir_shape dir).home path ≡ true}
    (λ (a : name_key (name_in true dir path) ≡ Some key).
    let at = key_there (name_in true dir path) key a in in_home dir (codes "cur") path at.0 at.1)
    (λ (b : name_key (name_in false dir path) ≡ Some key).
    let at = key_there (name_in false dir path) key b in in_home dir (codes "new") path at.0 at.1)
    (one_of (name_key (name_in true dir path)) (name_key (name_in false dir path)) key e)

pub maildir_formed : (dir : List ℕ) → IsWellFormed (maildir_shape dir)
maildir_formed dir = record { inside = inside dir; order = maildir_order }

found_at : (found : Option (List ℕ)) (f : MaildirFile) (bytes : List ℕ) → found ≡ Some bytes
    → (m : Message) × (option_map (message_of f) found ≡ Some m)
found_at None f bytes e = absurd (cc)
found_at (Some raw) f bytes e = (message_of f raw, refl)

no_taken : {X : Type 0} → X ⊎ (◌≡◌ {A = Bool} false true) → X
no_taken (inl x) = x
no_taken (inr taken) = absurd (cc)

-- A Maildir is read as its shape says.
pub maildir_reading : (dir : List ℕ) → IsReading (maildir_shape dir) (maildir_read dir)
maildir_reading dir = record {
  rising = λ tree. files_rising tree dir None (in_order_by comes_before (all_files tree dir))
      (up_sorted (all_files tree dir));
  read_from = λ tree l in_it.
      let from = from_files tree dir None (in_order_by comes_before (all_files tree dir)) l in_it in
      let shown = shown_all tree dir from.0 (in_sorted comes_before from.0 (all_files tree dir)
      from.2) in
      let given = gives tree dir from.0 from.1 from.3 in
      let node = file_node tree (path_of dir from.0) from.1.raw
      (path_is_in (directory from.0.in_cur dir) from.0.name
      (shown_name from.0.name shown)).no_root given.1 in
      let key : l.key ≡ base_of from.0 = ap (λ (y : ReadMessage). y.key) from.4 ∙ given.0 in
      let core : l.core ≡ from.1.raw = ap (λ (y : ReadMessage). y.core) from.4 in (
        node.0,
        node.1,
        (
          ap (maildir_shape dir).slot node.2 ∙ slot_of dir from.0.in_cur from.0.name
              shown ∙ ap Some (sym key),
          node.3 ∙ ap Some (sym core),
          refl,
        ),
      );
  read_there = λ tree node l in_it is alone.
      let at = file_of dir node.path l.key is.0 in
      let named = shown_name at.0.name at.2 in
      let file = node_has tree (path_of dir at.0) l.core node
      (path_is_in (directory at.0.in_cur dir) at.0.name named).no_root in_it at.1 is.1 alone in
      let held = file_held tree (directory at.0.in_cur dir) at.0.name named (ap is_some file) in
      let message = found_at (file_at tree (path_of dir at.0)) at.0 l.core file in
      let among = sorted_in comes_before at.0 (all_files tree dir)
      (all_shown tree dir at.0.in_cur at.0.name at.2 held) in
      subst (λ (k : List ℕ). HasKey k (maildir_read dir tree)) at.3
      (no_taken (to_files tree dir None (in_order_by comes_before (all_files tree dir)) at.0
      message.0 among message.1));
}

pub a_maildir : (dir : List ℕ) → IsFolder (maildir_files dir)
a_maildir dir = record { formed = maildir_formed dir; reading = maildir_reading dir }
