-- An MH folder is read as its shape says.
use Rattle.std.proofs.Common.{◌≡◌, ◌⊎◌, inl, inr, ⊎_elim, ℕ, true, false, List, [], ◌∷◌}
use Rattle.std.proofs.Common.{Option, Some, None, map, is_some, refl, sym, ◌∙◌, ap, subst}
use Rattle.std.specs.Prelude.{option_and_then, unwrap_or}
use Rattle.folder_core.proofs.KindsLemmas.{number_is_name}
use Rattle.std.specs.List.{cons_option, dedup, dedup_from, filter, filter_map}
use Rattle.std.specs.Str.{bytes_eq}
use Rattle.std.proofs.lemmas.Bool.{cases_Bool, cond-true, cond-false}
use Rattle.std.proofs.lemmas.Bool.{false_from_ne_true}
use Rattle.disk_model.specs.Tree.{TreeNode}
use Rattle.disk_model.specs.Names.{names_in}
use Rattle.mail_base.specs.Ordered.{IsIn, in_order_by, put_by}
use Rattle.mail_base.proofs.OrderedLemmas.{NeverFalls}
use Rattle.folder_core.specs.Directory.{file_at, front_of, path_in}
use Rattle.folder_core.specs.Message.{Message}
use Rattle.folder_core.specs.Mh.{comes_before, is_number, message_at, message_of, numbers_of}
use Rattle.folder_core.specs.Mh.{sequences_at}
use Rattle.folder_core.proofs.NamesIn.{file_held, path_is_in}
use Rattle.folder_stops.specs.Words.{Among}
use Rattle.folder_stops.specs.Folder.{IsFolder}
use Rattle.folder_stops.specs.Shape.{IsOrder, IsWellFormed}
use Rattle.folder_stops.specs.Reads.{ReadMessage, IsReading, IsRising}
use Rattle.folder_shapes.specs.Reading.{behind, plain_message}
use Rattle.folder_shapes.specs.Mh.{Rises, is_message, mh_files, mh_read, mh_shape, number_in}
use Rattle.folder_shapes.specs.Mh.{number_key}
use Rattle.folder_shapes.proofs.Nodes.{behind_is, behind_there, file_node, node_has}
use Rattle.folder_shapes.proofs.NumberLemmas.{name_order, name_tie, names_rise, numbers_held}
use Rattle.folder_shapes.proofs.Sorting.{in_sorted}

-- the order

never : (a : List ℕ) → comes_before a a ≡ false
never a = false_from_ne_true (comes_before a a) (λ e.
    let f : comes_before a a ≡ false = name_order.one_way a a e in cc)

through : (a b c : List ℕ) → comes_before a b ≡ true → comes_before b c ≡ true → comes_before a c
    ≡ true
through a b c first second = ⊎_elim {C = comes_before a c ≡ true} (λ e. e)
    (λ (e : comes_before a c ≡ false).
    let f : comes_before a b ≡ false = name_order.chain a c b e (name_order.one_way b c second) in
    absurd (cc))
    (cases_Bool (comes_before a c))

either : (a b : List ℕ) → (a ≡ b) ⊎ ((comes_before a b ≡ true) ⊎ (comes_before b a ≡ true))
either a b = ⊎_elim {C = (a ≡ b) ⊎ ((comes_before a b ≡ true) ⊎ (comes_before b a ≡ true))}
    (λ e. inr (inl e))
    (λ (e : comes_before a b ≡ false).
    ⊎_elim {C = (a ≡ b) ⊎ ((comes_before a b ≡ true) ⊎ (comes_before b a ≡ true))}
    (λ f. inr (inr f)) (λ (f : comes_before b a ≡ false). inl (name_tie a b e f))
    (cases_Bool (comes_before b a)))
    (cases_Bool (comes_before a b))

pub mh_order : IsOrder comes_before
mh_order = record { never = never; trans = through; either = either }

some_there : (found : Option (List ℕ)) (key : List ℕ) → number_key found ≡ Some key
    → (found ≡ Some key) × (is_number key ≡ true)
some_there None key e = absurd (cc)
some_there (Some name) key e = ⊎_elim {C = (Some name ≡ Some key) × (is_number key ≡ true)}
    (λ (t : is_number name ≡ true).
    let is : Some name ≡ Some key = sym (cond-true (is_number name) _ _ t) ∙ e in
    let name_is : name ≡ key = cc in (is, ap is_number (sym name_is) ∙ t))
    (λ (f : is_number name ≡ false).
    let n : None ≡ Some key = sym (cond-false (is_number name) (Some name) None f) ∙ e in
    absurd (cc))
    (cases_Bool (is_number name))

pub mh_formed : (dir : List ℕ) → IsWellFormed (mh_shape dir)
mh_formed dir = record {
  inside = λ path key e. ap is_some (some_there (behind (front_of dir) path) key e).0;
  order = mh_order;
}

-- numbers in order

first_of : (x : List ℕ) (xs : List (List ℕ)) → Type 0
first_of x [] = Unit {0}
first_of x (y ∷ ys) = comes_before y x ≡ false

falls_put : (x : List ℕ) (xs : List (List ℕ)) → NeverFalls comes_before xs
    → NeverFalls comes_before (put_by comes_before x xs)
falls_put x [] falls = tt
falls_put x (y ∷ []) falls = ⊎_elim {C = NeverFalls comes_before (put_by comes_before x (y ∷ []))}
    (λ (t : comes_before y x ≡ true). subst (NeverFalls comes_before)
    (sym (cond-true (comes_before y x) _ _ t)) (name_order.one_way y x t, tt))
    (λ (t : comes_before y x ≡ false). subst (NeverFalls comes_before)
    (sym (cond-false (comes_before y x) _ _ t)) (t, tt))
    (cases_Bool (comes_before y x))
falls_put x (y ∷ z ∷ ys) falls =
    ⊎_elim {C = NeverFalls comes_before (put_by comes_before x (y ∷ z ∷ ys))}
    (λ (t : comes_before y x ≡ true). subst (NeverFalls comes_before)
    (sym (cond-true (comes_before y x) _ _ t))
    (⊎_elim {C = NeverFalls comes_before (y ∷ put_by comes_before x (z ∷ ys))}
    (λ (u : comes_before z x ≡ true). subst (λ (l : List (List ℕ)). NeverFalls comes_before (y ∷ l))
    (sym (cond-true (comes_before z x) _ _ u)) (
      falls.0,
      subst (NeverFalls comes_before) (cond-true (comes_before z x) _ _ u)
          (falls_put x (z ∷ ys) falls.1),
    ))
    (λ (u : comes_before z x ≡ false). subst
    (λ (l : List (List ℕ)). NeverFalls comes_before (y ∷ l))
    (sym (cond-false (comes_before z x) _ _ u)) (name_order.one_way y x t, (u, falls.1)))
    (cases_Bool (comes_before z x))))
    (λ (t : comes_before y x ≡ false). subst (NeverFalls comes_before)
    (sym (cond-false (comes_before y x) _ _ t)) (t, falls))
    (cases_Bool (comes_before y x))

falls_sorted : (xs : List (List ℕ)) → NeverFalls comes_before (in_order_by comes_before xs)
falls_sorted [] = tt
falls_sorted (x ∷ xs) = falls_put x (in_order_by comes_before xs) (falls_sorted xs)

numbers_rise : (names : List (List ℕ)) → Rises None (numbers_of names)
numbers_rise names = names_rise (in_order_by comes_before (filter is_number names))
    (falls_sorted (filter is_number names))

all_above : (last : List ℕ) (names : List (List ℕ)) → Rises (Some last) names → (x : List ℕ)
    → Among x names → comes_before last x ≡ true
all_above last [] rises x in_it = absurd in_it
all_above last (name ∷ names) rises x (inl is) =
    subst (λ (y : List ℕ). comes_before last y ≡ true) (sym is) rises.0
all_above last (name ∷ names) rises x (inr later) =
    through last name x rises.0 (all_above name names rises.1 x later)

in_filter : (x : List ℕ) (xs : List (List ℕ)) → Among x (filter is_number xs) → is_number x ≡ true
in_filter x [] in_it = absurd in_it
in_filter x (y ∷ xs) in_it = ⊎_elim {C = is_number x ≡ true}
    (λ (t : is_number y ≡ true). ⊎_elim {C = is_number x ≡ true}
    (λ (is : x ≡ y). ap is_number is ∙ t)
    (λ (later : Among x (filter is_number xs)). in_filter x xs later)
    (subst (Among x) (cond-true (is_number y) (y ∷ filter is_number xs) (filter is_number xs) t)
    in_it))
    (λ (t : is_number y ≡ false). in_filter x xs
    (subst (Among x) (cond-false (is_number y) (y ∷ filter is_number xs) (filter is_number xs) t)
    in_it))
    (cases_Bool (is_number y))

in_dedup : (x y : List ℕ) (xs : List (List ℕ)) → Among x (dedup_from bytes_eq y xs)
    → Among x (y ∷ xs)
in_dedup x y [] in_it = in_it
in_dedup x y (z ∷ xs) in_it = ⊎_elim {C = Among x (y ∷ z ∷ xs)}
    (λ (t : bytes_eq z y ≡ true). ⊎_elim {C = Among x (y ∷ z ∷ xs)} (λ (is : x ≡ y). inl is)
    (λ (later : Among x xs). inr (inr later))
    (in_dedup x y xs (subst (Among x)
    (cond-true (bytes_eq z y) (dedup_from bytes_eq y xs) (y ∷ dedup_from bytes_eq z xs) t)
    in_it)))
    (λ (t : bytes_eq z y ≡ false). ⊎_elim {C = Among x (y ∷ z ∷ xs)} (λ (is : x ≡ y). inl is)
    (λ (later : Among x (dedup_from bytes_eq z xs)). inr (in_dedup x z xs later))
    (subst (Among x) (cond-false (bytes_eq z y) (dedup_from bytes_eq y xs)
    (y ∷ dedup_from bytes_eq z xs) t) in_it))
    (cases_Bool (bytes_eq z y))

in_once : (x : List ℕ) (xs : List (List ℕ)) → Among x (dedup bytes_eq xs) → Among x xs
in_once x [] in_it = in_it
in_once x (y ∷ xs) in_it = in_dedup x y xs in_it

number_among : (x : List ℕ) (names : List (List ℕ)) → Among x (numbers_of names) → is_number x
    ≡ true
number_among x names in_it =
    in_filter x names (in_sorted comes_before x (filter is_number names)
    (in_once x (in_order_by comes_before (filter is_number names)) in_it))

among_in : (x : List ℕ) (xs : List (List ℕ)) → IsIn x xs → Among x xs
among_in x [] held = held
among_in x (y ∷ xs) (inl is) = inl (sym is)
among_in x (y ∷ xs) (inr later) = inr (among_in x xs later)

-- messages of names

module _ (tree : List TreeNode) (dir sequences : List ℕ) where
  abbrev there : List ℕ → Option Message
  there name = message_at tree dir sequences name

  gives_found : (found : Option (List ℕ)) (name : List ℕ) (m : Message)
      → option_and_then (message_of sequences name) found ≡ Some m → (m.key ≡ name)
      × (found ≡ Some m.raw) × (is_message m.raw ≡ true)
  gives_found None name m e = absurd (cc)
  gives_found (Some []) name m e = let n : None ≡ Some m = e in absurd (cc)
  gives_found (Some (b ∷ raw)) name m e =
      let is = some_same m (sym e) in (
        ap (λ (y : Message). y.key) is,
        ap Some (sym (ap (λ (y : Message). y.raw) is)),
        ap (λ (y : Message). is_message y.raw) is,
      )
    where
      some_same : {n : Message} (m : Message) → Some m ≡ Some n → m ≡ n
      some_same {n} m f = ap (λ (o : Option Message). unwrap_or o m) f

  gives : (name : List ℕ) (m : Message) → there name ≡ Some m → (m.key ≡ name)
      × (file_at tree (path_in dir name) ≡ Some m.raw) × (is_message m.raw ≡ true)
  gives name m e = gives_found (file_at tree (path_in dir name)) name m e

  abbrev read_names : List (List ℕ) → List ReadMessage
  read_names names = map plain_message (filter_map there names)

  step_from : (found : Option Message) (rest : List Message) (l : ReadMessage)
      → Among l (map plain_message (cons_option found rest))
      → ((m : Message) × (found ≡ Some m) × (l ≡ plain_message m))
      ⊎ Among l (map plain_message rest)
  step_from None rest l in_it = inr in_it
  step_from (Some m) rest l (inl is) = inl (m, refl, is)
  step_from (Some m) rest l (inr later) = inr later

  from_names : (names : List (List ℕ)) (l : ReadMessage) → Among l (read_names names)
      → (name : List ℕ) × (m : Message) × Among name names × (there name ≡ Some m)
      × (l ≡ plain_message m)
  from_names [] l in_it = absurd in_it
  from_names (name ∷ names) l in_it =
      ⊎_elim {C = (x : List ℕ) × (m : Message) × Among x (name ∷ names) × (there x ≡ Some m)
      × (l ≡ plain_message m)}
      (λ (here : (m : Message) × (there name ≡ Some m) × (l ≡ plain_message m)). (
        name,
        here.0,
        inl refl,
        here.1,
        here.2,
      ))
      (λ (later : Among l (read_names names)). let rest = from_names names l later in
      (rest.0, rest.1, inr rest.2, rest.3, rest.4))
      (step_from (there name) (filter_map there names) l in_it)

  to_names : (names : List (List ℕ)) (name : List ℕ) (m : Message) → Among name names → there name
      ≡ Some m → Among (plain_message m) (read_names names)
  to_names [] name m in_it e = absurd in_it
  to_names (x ∷ names) name m (inl is) e =
      subst (λ (o : Option Message). Among (plain_message m)
      (map plain_message (cons_option o (filter_map there names))))
      (sym (sym (ap there is) ∙ e)) (inl refl)
  to_names (x ∷ names) name m (inr later) e = more (there x) (to_names names name m later e)
    where
      more : (found : Option Message) → Among (plain_message m) (read_names names)
          → Among (plain_message m) (map plain_message (cons_option found (filter_map there names)))
      more None in_it = in_it
      more (Some n) in_it = inr in_it

  above : (name : List ℕ) (names : List (List ℕ)) → Rises (Some name) names → (l : ReadMessage)
      → Among l (read_names names) → comes_before name l.key ≡ true
  above name names rises l in_it =
      let from = from_names names l in_it in
      subst (λ (k : List ℕ). comes_before name k ≡ true)
      (sym (ap (λ (y : ReadMessage). y.key) from.4 ∙ (gives from.0 from.1 from.3).0))
      (all_above name names rises from.0 from.2)

  step_rising : (found : Option Message) (name : List ℕ) (names : List (List ℕ)) → there name
      ≡ found → Rises (Some name) names → IsRising comes_before (read_names names)
      → IsRising comes_before (map plain_message (cons_option found (filter_map there names)))
  step_rising None name names e rises up = up
  step_rising (Some m) name names e rises up = (
    (λ l in_it. subst (λ (k : List ℕ). comes_before k l.key ≡ true) (sym (gives name m e).0)
        (above name names rises l in_it)),
    up,
  )

  names_rising : (last : Option (List ℕ)) (names : List (List ℕ)) → Rises last names
      → IsRising comes_before (read_names names)
  names_rising last [] rises = tt
  names_rising None (name ∷ names) rises =
      step_rising (there name) name names refl rises (names_rising (Some name) names rises)
  names_rising (Some last) (name ∷ names) rises =
      step_rising (there name) name names refl rises.1 (names_rising (Some name) names rises.1)

  found_at : (found : Option (List ℕ)) (name bytes : List ℕ) → found ≡ Some bytes → is_message bytes
      ≡ true → (m : Message) × (option_and_then (message_of sequences name) found ≡ Some m)
  found_at None name bytes e counts = absurd (cc)
  found_at (Some []) name bytes e counts = let f : [] ≡ bytes = cc in let g : false ≡ true =
      ap is_message f ∙ counts in absurd (cc)
  found_at (Some (b ∷ raw)) name bytes e counts = (_, refl)

number_slot : (dir name : List ℕ) → is_number name ≡ true → (mh_shape dir).slot (path_in dir name)
    ≡ Some name
number_slot dir name is = ap number_key (behind_there (front_of dir) name)
    ∙ cond-true (is_number name) (Some name) None is

-- An MH folder is read as its shape says.
pub mh_reading : (dir : List ℕ) → IsReading (mh_shape dir) (mh_read dir)
mh_reading dir = record {
  rising = λ tree. names_rising tree dir (sequences_at tree dir) None
      (numbers_of (names_in tree dir)) (numbers_rise (names_in tree dir));
  read_from = λ tree l in_it.
      let from = from_names tree dir (sequences_at tree dir) (numbers_of (names_in tree dir)) l
      in_it in
      let is = number_among from.0 (names_in tree dir) from.2 in
      let given = gives tree dir (sequences_at tree dir) from.0 from.1 from.3 in
      let node = file_node tree (path_in dir from.0) from.1.raw
      (path_is_in dir from.0 (number_is_name from.0 is)).no_root given.1 in
      let key : l.key ≡ from.0 = ap (λ (y : ReadMessage). y.key) from.4 ∙ given.0 in
      let core : l.core ≡ from.1.raw = ap (λ (y : ReadMessage). y.core) from.4 in (
        node.0,
        node.1,
        (
          ap (mh_shape dir).slot node.2 ∙ number_slot dir from.0 is
              ∙ ap Some (sym key),
          node.3 ∙ ap Some (sym core),
          ap is_message core ∙ given.2,
        ),
      );
  read_there = λ tree node l in_it is alone.
      let at = some_there (behind (front_of dir) node.path) l.key is.0 in
      let path : node.path ≡ path_in dir l.key = behind_is (front_of dir) node.path l.key at.0 in
      let named = number_is_name l.key at.1 in
      let file = node_has tree (path_in dir l.key) l.core node (path_is_in dir l.key named).no_root
      in_it path is.1 alone in
      let held = file_held tree dir l.key named (ap is_some file) in
      let message = found_at tree dir (sequences_at tree dir) (file_at tree (path_in dir l.key))
      l.key l.core file is.2 in (
        plain_message message.0,
        to_names tree dir (sequences_at tree dir) (numbers_of (names_in tree dir)) l.key message.0
            (among_in l.key (numbers_of (names_in tree dir))
            (numbers_held l.key (names_in tree dir) at.1 held)) message.1,
        (gives tree dir (sequences_at tree dir) l.key message.0 message.1).0,
      );
}

-- a number stands at one path
pub one_place : (dir path key : List ℕ) → number_in dir path ≡ Some key → path ≡ path_in dir key
one_place dir path key e =
    behind_is (front_of dir) path key (some_there (behind (front_of dir) path) key e).0

pub an_mh_folder : (dir : List ℕ) → IsFolder (mh_files dir)
an_mh_folder dir = record { formed = mh_formed dir; reading = mh_reading dir }
