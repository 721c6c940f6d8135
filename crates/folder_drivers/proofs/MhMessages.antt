-- The messages of an MH folder, by the files under its numbers.
use Rattle.std.proofs.Common.{◌≡◌, ◌≢◌, ◌⊎◌, inl, inr, ◌++◌, ℕ, Bool, true, false, List, [], ◌∷◌}
use Rattle.std.proofs.Common.{◌||◌, Option, Some, None, map, refl, sym, ◌∙◌, ap, subst, is_some}
use Rattle.std.proofs.Common.{if◌then◌else◌, option_map}
use Rattle.std.proofs.lemmas.List.Sorted.{ranks_by}
use Rattle.std.proofs.lemmas.Slice.Eq.{bytes_eq-Decides}
use Rattle.std.specs.Cmp.{IsStrictWeakOrder}
use Rattle.std.specs.List.{cons_option, dedup, dedup_from, filter, filter_map}
use Rattle.std.specs.Prelude.{option_and_then}
use Rattle.std.specs.Str.{bytes_eq}
use Rattle.mail_base.specs.Ordered.{IsIn, in_order_by}
use Rattle.mail_base.specs.declared.kind.Kind.TheVariants.{Mh}
use Rattle.disk_model.specs.Names.{names_in}
use Rattle.disk_model.specs.Tree.{TreeNode}
use Rattle.index_items.specs.Changes.{Discards, PlainChange}
use Rattle.folder_core.specs.Directory.{file_at, is_folder_at, path_in}
use Rattle.folder_core.specs.Message.{Message, has_key}
use Rattle.folder_core.specs.Mh.{comes_before, is_number, mh_messages, message_at, message_of}
use Rattle.folder_core.specs.Mh.{mh_reads, number_at, numbers_of, sequences_at}
use Rattle.folder_core.specs.MhSequences.{mh_flags}
use Rattle.folder_core.proofs.KindsLemmas.{number_is_name}
use Rattle.folder_core.proofs.NamesIn.{file_held}
use Rattle.folder_changes.specs.Wanted.{change_at, changed, wanted}
use Rattle.folder_changes.proofs.OrderLemmas.{Rise, in_either, in_left, in_right, ordered_holds}
use Rattle.folder_changes.proofs.OrderLemmas.{same_lists}
use Rattle.folder_drivers.specs.AppendRow.{GainsOne, lacks}
use Rattle.folder_drivers.specs.MhAlike.{AreAlike}
use Rattle.folder_drivers.specs.MhSync.{flags_wanted, reflagged, reflagged_one}
use Rattle.folder_shapes.specs.Reading.{plain_message}
use Rattle.folder_shapes.proofs.MhLemmas.{mh_reading}
use Rattle.folder_shapes.proofs.NumberLemmas.{name_total, numbers_held}
use Rattle.folder_stops.specs.Reads.{IsRising}
use Rattle.folder_stops.specs.Words.{Among}

pub true_false : ◌≡◌ {A = Bool} true false → ⊥
true_false e = cc

some_is : {A : Type 0} (x y : A) → ◌≡◌ {A = Option A} (Some x) (Some y) → x ≡ y
some_is x y e = cc

pub none_is : {A : Type 0} (x : A) → ◌≡◌ {A = Option A} None (Some x) → ⊥
none_is x e = cc

-- messages by their keys
abbrev pub stands_before : Message → Message → Bool
stands_before a b = comes_before a.key b.key

pub message_order : IsStrictWeakOrder stands_before
message_order = ranks_by name_total (λ (m : Message). m.key)

-- They rise.

plain_among : (m : Message) (l : List Message) → IsIn m l
    → Among (plain_message m) (map plain_message l)
plain_among m [] held = absurd held
plain_among m (n ∷ l) (inl is) = inl (ap plain_message (sym is))
plain_among m (n ∷ l) (inr rest) = inr (plain_among m l rest)

rise_of : (l : List Message) → IsRising comes_before (map plain_message l) → Rise stands_before l
rise_of [] rising = tt
rise_of (m ∷ l) rising =
    (λ n held. rising.0 (plain_message n) (plain_among n l held), rise_of l rising.1)

pub messages_rise : (tree : List TreeNode) (path : List ℕ)
    → Rise stands_before (mh_messages tree path)
messages_rise tree path = rise_of (mh_messages tree path) ((mh_reading path).rising tree)

-- What is among them.

from_names : (f : List ℕ → Option Message) (names : List (List ℕ)) (m : Message)
    → IsIn m (filter_map f names) → (name : List ℕ) × IsIn name names × (f name ≡ Some m)
from_names f [] m held = absurd held
from_names f (name ∷ names) m held =
    by (f name) refl held (λ rest. from_names f names m rest)
  where
    by : (found : Option Message) → f name ≡ found
        → IsIn m (cons_option found (filter_map f names))
        → (IsIn m (filter_map f names) → (x : List ℕ) × IsIn x names × (f x ≡ Some m))
        → (x : List ℕ) × IsIn x (name ∷ names) × (f x ≡ Some m)
    by None is held again = let r = again held in (r.0, inr r.1, r.2)
    by (Some n) is (inl same) again = (name, inl refl, is ∙ ap Some same)
    by (Some n) is (inr rest) again = let r = again rest in (r.0, inr r.1, r.2)

to_names : (f : List ℕ → Option Message) (names : List (List ℕ)) (name : List ℕ) (m : Message)
    → IsIn name names → f name ≡ Some m → IsIn m (filter_map f names)
to_names f [] name m held is = absurd held
to_names f (x ∷ names) name m (inl same) is =
    subst (λ (o : Option Message). IsIn m (cons_option o (filter_map f names)))
    (sym (ap f same ∙ is)) (inl refl)
to_names f (x ∷ names) name m (inr rest) is = by (f x) (to_names f names name m rest is)
  where
    by : (found : Option Message) → IsIn m (filter_map f names)
        → IsIn m (cons_option found (filter_map f names))
    by None held = held
    by (Some n) held = inr held

in_dedup : (x y : List ℕ) (xs : List (List ℕ)) → IsIn x (dedup_from bytes_eq y xs)
    → IsIn x (y ∷ xs)
in_dedup x y [] held = held
in_dedup x y (z ∷ xs) held =
    by (bytes_eq z y) held (λ h. in_dedup x y xs h) (λ h. in_dedup x z xs h)
  where
    by : (t : Bool)
        → IsIn x (if t then dedup_from bytes_eq y xs else y ∷ dedup_from bytes_eq z xs)
        → (IsIn x (dedup_from bytes_eq y xs) → IsIn x (y ∷ xs))
        → (IsIn x (dedup_from bytes_eq z xs) → IsIn x (z ∷ xs)) → IsIn x (y ∷ z ∷ xs)
    by true held one other = behind (one held)
      where
        behind : IsIn x (y ∷ xs) → IsIn x (y ∷ z ∷ xs)
        behind (inl is) = inl is
        behind (inr rest) = inr (inr rest)
    by false (inl is) one other = inl is
    by false (inr rest) one other = inr (other rest)

in_once : (x : List ℕ) (xs : List (List ℕ)) → IsIn x (dedup bytes_eq xs) → IsIn x xs
in_once x [] held = held
in_once x (y ∷ xs) held = in_dedup x y xs held

in_filter : (x : List ℕ) (xs : List (List ℕ)) → IsIn x (filter is_number xs)
    → is_number x ≡ true
in_filter x [] held = absurd held
in_filter x (y ∷ xs) held = by (is_number y) refl held (λ h. in_filter x xs h)
  where
    by : (t : Bool) → is_number y ≡ t
        → IsIn x (if t then y ∷ filter is_number xs else filter is_number xs)
        → (IsIn x (filter is_number xs) → is_number x ≡ true) → is_number x ≡ true
    by true is (inl same) again = ap is_number (sym same) ∙ is
    by true is (inr rest) again = again rest
    by false is held again = again held

number_among : (x : List ℕ) (names : List (List ℕ)) → IsIn x (numbers_of names)
    → is_number x ≡ true
number_among x names held =
    in_filter x names (ordered_holds comes_before x (filter is_number names)
    (in_once x (in_order_by comes_before (filter is_number names)) held))

-- A message of a name has it as its key.

-- what a message is by the file of its name
pub record IsOf (sequences name : List ℕ) (file : Option (List ℕ)) (m : Message) : Type 0 where
  pub key : m.key ≡ name
  pub order : m.order ≡ number_at name
  pub file_is : file ≡ Some m.raw
  pub flags : m.flags ≡ mh_flags sequences (number_at name)

gives : (sequences name : List ℕ) (file : Option (List ℕ)) (m : Message)
    → option_and_then (message_of sequences name) file ≡ Some m → IsOf sequences name file m
gives sequences name None m is = absurd (none_is m is)
gives sequences name (Some []) m is = absurd (none_is m is)
gives sequences name (Some (b ∷ raw)) m is =
    let same = some_is _ m is in record {
      key = sym (ap (λ (n : Message). n.key) same);
      order = sym (ap (λ (n : Message). n.order) same);
      file_is = ap (λ (n : Message). Some n.raw) same;
      flags = sym (ap (λ (n : Message). n.flags) same);
    }

file_some : (sequences name : List ℕ) (file : Option (List ℕ)) (m : Message)
    → option_and_then (message_of sequences name) file ≡ Some m → is_some file ≡ true
file_some sequences name None m is = absurd (none_is m is)
file_some sequences name (Some raw) m is = refl

module _ (path : List ℕ) (tree : List TreeNode) where
  -- the message under a key
  abbrev pub there : List ℕ → Option Message
  there key = message_at tree path (sequences_at tree path) key

  pub message_named : (m : Message) → IsIn m (mh_messages tree path)
      → (is_number m.key ≡ true) × (there m.key ≡ Some m)
  message_named m held =
      let from = from_names there (numbers_of (names_in tree path)) m held in
      let key = (gives (sequences_at tree path) from.0 (file_at tree (path_in path from.0)) m
      from.2).key in (
        ap is_number key ∙ number_among from.0 (names_in tree path) from.1,
        ap there key ∙ from.2,
      )

  pub named_message : (m : Message) (name : List ℕ) → is_number name ≡ true
      → there name ≡ Some m → IsIn m (mh_messages tree path)
  named_message m name number is =
      to_names there (numbers_of (names_in tree path)) name m
      (numbers_held name (names_in tree path) number
      (file_held tree path name (number_is_name name number)
      (file_some (sequences_at tree path) name (file_at tree (path_in path name)) m is)))
      is

-- Two trees.

pub reads_by : (path : List ℕ) (old new : List TreeNode) (f : List Message → List Message)
    (a b : Bool) → a ≡ b → mh_messages new path ≡ f (mh_messages old path)
    → (if a then Some (mh_messages new path) else None)
    ≡ option_map f (if b then Some (mh_messages old path) else None)
reads_by path old new f true true same is = ap Some is
reads_by path old new f false false same is = refl
reads_by path old new f true false same is = absurd (true_false same)
reads_by path old new f false true same is = absurd (true_false (sym same))

pub message_same : (path : List ℕ) (old new : List TreeNode) (a b name : List ℕ) → a ≡ b
    → file_at new (path_in path name) ≡ file_at old (path_in path name)
    → message_at new path a name ≡ message_at old path b name
message_same path old new a b name same files =
    ap (λ (s : List ℕ). option_and_then (message_of s name) (file_at new (path_in path name))) same
    ∙ ap (option_and_then (message_of b name)) files

same_option : {A : Type 0} (o : Option A) → option_map (λ x. x) o ≡ o
same_option None = refl
same_option (Some x) = refl

-- a folder of which each number has the same message reads as it did
pub same_reads : (path : List ℕ) (old new : List TreeNode)
    → is_folder_at new path ≡ is_folder_at old path
    → ((name : List ℕ) → is_number name ≡ true
    → message_at new path (sequences_at new path) name
    ≡ message_at old path (sequences_at old path) name)
    → mh_reads new path ≡ mh_reads old path
same_reads path old new folder messages =
    reads_by path old new (λ l. l) _ _ folder
    (same_lists stands_before message_order (mh_messages new path) (mh_messages old path)
    (messages_rise new path) (messages_rise old path)
    (λ m held. to m held) (λ m held. from m held))
    ∙ same_option (mh_reads old path)
  where
    to : (m : Message) → IsIn m (mh_messages new path) → IsIn m (mh_messages old path)
    to m held = let is = message_named path new m held in
        named_message path old m m.key is.0 (sym (messages m.key is.0) ∙ is.1)

    from : (m : Message) → IsIn m (mh_messages old path) → IsIn m (mh_messages new path)
    from m held = let is = message_named path old m held in
        named_message path new m m.key is.0 (messages m.key is.0 ∙ is.1)

-- a folder of which files and sequences are as they were reads as it did
pub alike_reads : (path : List ℕ) (old new : List TreeNode) → AreAlike path old new
    → sequences_at new path ≡ sequences_at old path → mh_reads new path ≡ mh_reads old path
alike_reads path old new alike sequences =
    same_reads path old new alike.folder
    (λ name number. message_same path old new (sequences_at new path) (sequences_at old path)
    name sequences (alike.files name number))

-- One message comes.

-- what is left of one message where one key is discarded
abbrev left_of : List ℕ → Message → List Message
left_of key m = changed Mh (change_at key Discards m.key) m

in_left_of : (key : List ℕ) (m n : Message) → IsIn n (left_of key m)
    → (n ≡ m) × (bytes_eq m.key key ≡ false)
in_left_of key m n held = by (bytes_eq m.key key) refl held
  where
    by : (t : Bool) → bytes_eq m.key key ≡ t
        → IsIn n (changed Mh (if t then Some Discards else None) m)
        → (n ≡ m) × (bytes_eq m.key key ≡ false)
    by true is held = absurd held
    by false is (inl same) = (sym same, is)
    by false is (inr none) = absurd none

left_there : (key : List ℕ) (m : Message) → bytes_eq m.key key ≡ false → IsIn m (left_of key m)
left_there key m other =
    subst (λ (t : Bool). IsIn m (changed Mh (if t then Some Discards else None) m))
    (sym other) (inl refl)

pub in_wanted : (key : List ℕ) (l : List Message) (n : Message)
    → IsIn n (wanted Mh (change_at key Discards) l) → IsIn n l × (bytes_eq n.key key ≡ false)
in_wanted key [] n held = absurd held
in_wanted key (m ∷ l) n held =
    by (in_either n (left_of key m) (wanted Mh (change_at key Discards) l) held)
    (λ h. in_wanted key l n h)
  where
    by : IsIn n (left_of key m) ⊎ IsIn n (wanted Mh (change_at key Discards) l)
        → (IsIn n (wanted Mh (change_at key Discards) l)
        → IsIn n l × (bytes_eq n.key key ≡ false))
        → IsIn n (m ∷ l) × (bytes_eq n.key key ≡ false)
    by (inl here) again = let is = in_left_of key m n here in (
      inl (sym is.0),
      ap (λ (x : Message). bytes_eq x.key key) is.0 ∙ is.1,
    )
    by (inr rest) again = let is = again rest in (inr is.0, is.1)

pub wanted_in : (key : List ℕ) (l : List Message) (n : Message) → IsIn n l
    → bytes_eq n.key key ≡ false → IsIn n (wanted Mh (change_at key Discards) l)
wanted_in key [] n held other = absurd held
wanted_in key (m ∷ l) n (inl is) other =
    in_left n (left_of key m) (wanted Mh (change_at key Discards) l)
    (subst (λ (x : Message). IsIn n (left_of key x)) (sym is) (left_there key n other))
wanted_in key (m ∷ l) n (inr rest) other =
    in_right n (left_of key m) (wanted Mh (change_at key Discards) l)
    (wanted_in key l n rest other)

pub wanted_rises : (key : List ℕ) (l : List Message) → Rise stands_before l
    → Rise stands_before (wanted Mh (change_at key Discards) l)
wanted_rises key [] rise = tt
wanted_rises key (m ∷ l) rise = by (bytes_eq m.key key) (wanted_rises key l rise.1)
  where
    by : (t : Bool) → Rise stands_before (wanted Mh (change_at key Discards) l)
        → Rise stands_before (changed Mh (if t then Some Discards else None) m
        ++ wanted Mh (change_at key Discards) l)
    by true again = again
    by false again = (λ n held. rise.0 n (in_wanted key l n held).0, again)

-- no message of these has the key
other_keys : (key : List ℕ) (l : List Message) (m : Message) → has_key key l ≡ false → IsIn m l
    → bytes_eq m.key key ≡ false
other_keys key [] m none held = absurd held
other_keys key (n ∷ l) m none held =
    by (bytes_eq n.key key) refl none held (λ none rest. other_keys key l m none rest)
  where
    by : (t : Bool) → bytes_eq n.key key ≡ t → (t || has_key key l) ≡ false → IsIn m (n ∷ l)
        → (has_key key l ≡ false → IsIn m l → bytes_eq m.key key ≡ false)
        → bytes_eq m.key key ≡ false
    by true is none held again = absurd (true_false none)
    by false is none (inl same) again = ap (λ (x : Message). bytes_eq x.key key) (sym same) ∙ is
    by false is none (inr rest) again = again none rest

-- a folder of which one number got a message reads as before but for it
module _ (path : List ℕ) (old new : List TreeNode) (message : Message)
    (folder : is_folder_at new path ≡ is_folder_at old path)
    (sequences : sequences_at new path ≡ sequences_at old path)
    (number : is_number message.key ≡ true)
    (came : message_at new path (sequences_at new path) message.key ≡ Some message)
    (others : (name : List ℕ) → is_number name ≡ true → name ≢ message.key
    → file_at new (path_in path name) ≡ file_at old (path_in path name)) where
  other_key : (name : List ℕ) → bytes_eq name message.key ≡ false → name ≢ message.key
  other_key name other is = true_false (sym ((bytes_eq-Decides name message.key).1 is) ∙ other)

  at_other : (m : Message) → is_number m.key ≡ true → bytes_eq m.key message.key ≡ false
      → message_at new path (sequences_at new path) m.key
      ≡ message_at old path (sequences_at old path) m.key
  at_other m is other =
      message_same path old new (sequences_at new path) (sequences_at old path) m.key sequences
      (others m.key is (other_key m.key other))

  kept_as : has_key message.key (mh_messages old path) ≡ false
      → mh_messages old path ≡ wanted Mh (change_at message.key Discards) (mh_messages new path)
  kept_as none =
      same_lists stands_before message_order (mh_messages old path)
      (wanted Mh (change_at message.key Discards) (mh_messages new path)) (messages_rise old path)
      (wanted_rises message.key (mh_messages new path) (messages_rise new path))
      (λ m held. to m held) (λ m held. from m held)
    where
      to : (m : Message) → IsIn m (mh_messages old path)
          → IsIn m (wanted Mh (change_at message.key Discards) (mh_messages new path))
      to m held =
          let other = other_keys message.key (mh_messages old path) m none held in
          let at = message_named path old m held in
          wanted_in message.key (mh_messages new path) m
          (named_message path new m m.key at.0 (at_other m at.0 other ∙ at.1)) other

      from : (m : Message)
          → IsIn m (wanted Mh (change_at message.key Discards) (mh_messages new path))
          → IsIn m (mh_messages old path)
      from m held =
          let is = in_wanted message.key (mh_messages new path) m held in
          let at = message_named path new m is.0 in
          named_message path old m m.key at.0 (sym (at_other m at.0 is.1) ∙ at.1)

  pub gains_reads : lacks message.key (mh_reads old path)
      → GainsOne Mh message (mh_reads old path) (mh_reads new path)
  gains_reads none = by (is_folder_at old path) (is_folder_at new path) folder none
    where
      by : (a b : Bool) → b ≡ a
          → lacks message.key (if a then Some (mh_messages old path) else None)
          → GainsOne Mh message (if a then Some (mh_messages old path) else None)
          (if b then Some (mh_messages new path) else None)
      by false b same none = absurd none
      by true false same none = absurd (true_false (sym same))
      by true true same none = record {
        without = ap Some (kept_as none);
        held = named_message path new message message.key number came;
      }

-- All flags change.

map_in : (f : Message → Message) (l : List Message) (m : Message) → IsIn m l → IsIn (f m) (map f l)
map_in f [] m held = absurd held
map_in f (n ∷ l) m (inl is) = inl (ap f is)
map_in f (n ∷ l) m (inr rest) = inr (map_in f l m rest)

in_map : (f : Message → Message) (l : List Message) (n : Message) → IsIn n (map f l)
    → (m : Message) × IsIn m l × (f m ≡ n)
in_map f [] n held = absurd held
in_map f (m ∷ l) n (inl is) = (m, inl refl, is)
in_map f (m ∷ l) n (inr rest) = let r = in_map f l n rest in (r.0, inr r.1, r.2)

map_rises : (f : Message → Message) → ((m : Message) → (f m).key ≡ m.key) → (l : List Message)
    → Rise stands_before l → Rise stands_before (map f l)
map_rises f keys [] rise = tt
map_rises f keys (m ∷ l) rise = (λ n held. by n (in_map f l n held), map_rises f keys l rise.1)
  where
    by : (n : Message) → (x : Message) × IsIn x l × (f x ≡ n) → stands_before (f m) n ≡ true
    by n is =
        (λ i. comes_before (keys m i)
        ((sym (ap (λ (y : Message). y.key) is.2) ∙ keys is.0) i))
        ∙ rise.0 is.0 is.1

-- a folder of which the files are as they were reads as before but for its flags
pub placed_reads : (path sequences : List ℕ) (what : List ℕ → Option PlainChange)
    (old new : List TreeNode) → AreAlike path old new
    → ((name : List ℕ) → is_number name ≡ true
    → mh_flags (sequences_at new path) (number_at name)
    ≡ flags_wanted sequences (what name) (number_at name))
    → mh_reads new path ≡ option_map (reflagged sequences what) (mh_reads old path)
placed_reads path sequences what old new alike flags =
    reads_by path old new (reflagged sequences what) _ _ alike.folder
    (same_lists stands_before message_order (mh_messages new path)
    (reflagged sequences what (mh_messages old path)) (messages_rise new path)
    (map_rises (reflagged_one sequences what) (λ m. refl) (mh_messages old path)
    (messages_rise old path))
    (λ m held. to m held) (λ m held. from m held))
  where
    -- the message that a number has in the new folder, by its file
    at_file : (name : List ℕ) → is_number name ≡ true → (file : Option (List ℕ))
        → option_and_then (message_of (sequences_at new path) name) file
        ≡ option_map (reflagged_one sequences what)
        (option_and_then (message_of (sequences_at old path) name) file)
    at_file name number None = refl
    at_file name number (Some []) = refl
    at_file name number (Some (b ∷ raw)) = λ i. Some (record {
      order = number_at name;
      key = name;
      flags = flags name number i;
      raw = b ∷ raw;
    })

    at_key : (name : List ℕ) → is_number name ≡ true
        → message_at new path (sequences_at new path) name
        ≡ option_map (reflagged_one sequences what)
        (message_at old path (sequences_at old path) name)
    at_key name number =
        ap (option_and_then (message_of (sequences_at new path) name)) (alike.files name number)
        ∙ at_file name number (file_at old (path_in path name))

    to : (m : Message) → IsIn m (mh_messages new path)
        → IsIn m (reflagged sequences what (mh_messages old path))
    to m held =
        let at = message_named path new m held in
        by at.0 (message_at old path (sequences_at old path) m.key) refl
        (sym (at_key m.key at.0) ∙ at.1)
      where
        by : is_number m.key ≡ true → (found : Option Message)
            → message_at old path (sequences_at old path) m.key ≡ found
            → option_map (reflagged_one sequences what)
            (message_at old path (sequences_at old path) m.key) ≡ Some m
            → IsIn m (reflagged sequences what (mh_messages old path))
        by number None is at = absurd (none_is m
            (sym (ap (option_map (reflagged_one sequences what)) is) ∙ at))
        by number (Some n) is at =
            subst (λ (x : Message). IsIn x (reflagged sequences what (mh_messages old path)))
            (some_is (reflagged_one sequences what n) m
            (sym (ap (option_map (reflagged_one sequences what)) is) ∙ at))
            (map_in (reflagged_one sequences what) (mh_messages old path) n
            (named_message path old n m.key number is))

    from : (m : Message) → IsIn m (reflagged sequences what (mh_messages old path))
        → IsIn m (mh_messages new path)
    from m held =
        let is = in_map (reflagged_one sequences what) (mh_messages old path) m held in
        let at = message_named path old is.0 is.1 in
        subst (λ (x : Message). IsIn x (mh_messages new path)) is.2
        (named_message path new ((reflagged_one sequences what) is.0) is.0.key at.0
        (at_key is.0.key at.0 ∙ ap (option_map (reflagged_one sequences what)) at.1))
