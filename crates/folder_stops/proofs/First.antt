-- At the start a folder holds the messages of its tree.
use Rattle.std.proofs.Common.{List, None, Option, Some, [], ap, append_assoc, arith, false, inl}
use Rattle.std.proofs.Common.{inr, is_none, length, length-append, refl, subst, sym, true, ℕ}
use Rattle.std.proofs.Common.{⊎_elim, ◌++◌, ◌+◌, ◌<◌, ◌∙◌, ◌∷◌, ◌≡◌, ◌≢◌, ◌≤◌, ◌⊎◌}
use Rattle.std.proofs.lemmas.Bool.{and_parts, cases_Bool, cond-false, cond-true}
use Rattle.std.proofs.Math.Seq.{get_or-append_seam}
use Rattle.std.specs.Str.{bytes_eq}
use Rattle.disk_model.specs.Tree.{TreeNode, are_distinct, are_placed, are_stamped, is_first_tree}
use Rattle.disk_model.specs.Tree.{is_tree, node_in}
use Rattle.disk_model.specs.State.{File, Name, durable, file_at, first_files, first_names, is_free}
use Rattle.disk_model.specs.State.{next_number, number_of, state_of}
use Rattle.disk_model.proofs.LawsOfTrees.{Distinct, first_names_tree}
use Rattle.folder_stops.specs.Messages.{IsInOrder, IsSingle, StoredMessage}
use Rattle.folder_stops.specs.Reads.{IsFileOf, IsOf, IsOnce, IsReading, IsRising, ReadMessage}
use Rattle.folder_stops.specs.Reads.{Stands, all_stay, staying}
use Rattle.folder_stops.specs.Rows.{Holds, IsDurable, IsKnown, IsOfKey, IsPresent, Row}
use Rattle.folder_stops.specs.Shape.{IsWellFormed, Shape}
use Rattle.folder_stops.specs.Words.{Among}
use Rattle.folder_stops.proofs.Images.{stands}
use Rattle.folder_stops.proofs.Messages.{asym}
use Rattle.folder_stops.proofs.Steps.{is_durable}
use Rattle.folder_stops.proofs.Words.{absent_in, same}

-- a name of the first state is that of a node, whose bytes its file has
pub record IsFirst (pre : List File) (tree : List TreeNode) (x : Name) (n : ℕ) : Type 0 where
  pub node : TreeNode
  pub bytes : List ℕ
  pub among : Among node tree
  pub path : node.path ≡ x.path
  pub held : node.bytes ≡ Some bytes
  pub durable_at : IsDurable bytes (file_at (pre ++ first_files tree) n)
  pub low : length pre ≤ n
  pub high : n < length (pre ++ first_files tree)

later_first : (pre pre' : List File) (node : TreeNode) (tree : List TreeNode) (x : Name) (n : ℕ)
    → pre' ++ first_files tree ≡ pre ++ first_files (node ∷ tree) → length pre ≤ length pre'
    → IsFirst pre' tree x n → IsFirst pre (node ∷ tree) x n
later_first pre pre' node tree x n e longer f = record {
  node = f.node;
  bytes = f.bytes;
  among = inr f.among;
  path = f.path;
  held = f.held;
  durable_at = subst (λ (l : List File). IsDurable f.bytes (file_at l n)) e f.durable_at;
  low = let l = f.low in omega arith;
  high = subst (λ (l : List File). n < length l) e f.high;
}

step_first : (path : List ℕ) (bytes : Option (List ℕ)) (stamp : ℕ) (tree : List TreeNode)
    → ((pre : List File) (x : Name) (n : ℕ) → Among x (first_names (length pre) tree) → x.file
    ≡ Some n → IsFirst pre tree x n)
    → (pre : List File) (x : Name) (n : ℕ)
    → (x ≡ record { path = path; file = number_of bytes (length pre) })
    ⊎ Among x (first_names (next_number bytes (length pre)) tree) → x.file ≡ Some n
    → IsFirst pre (record { path = path; bytes = bytes; stamp = stamp } ∷ tree) x n
step_first path None stamp tree rest pre x n (inl is) file = let none : x.file ≡ None =
    ap (λ (y : Name). y.file) is in absurd (cc)
step_first path None stamp tree rest pre x n (inr later) file =
    later_first pre pre (record { path = path; bytes = None; stamp = stamp }) tree x n refl
    (omega arith) (rest pre x n later file)
step_first path (Some bytes) stamp tree rest pre x n (inl is) file =
    let number : length pre ≡ n =
    (let e : x.file ≡ Some (length pre) = ap (λ (y : Name). y.file) is in cc) in
    record {
      node = record { path = path; bytes = Some bytes; stamp = stamp };
      bytes = bytes;
      among = inl refl;
      path = sym (ap (λ (y : Name). y.path) is);
      held = refl;
      durable_at = subst (λ (k : ℕ). IsDurable bytes
          (file_at (pre ++ durable bytes stamp ∷ first_files tree) k)) number
          (subst (IsDurable bytes)
          (sym (get_or-append_seam pre (durable bytes stamp) (first_files tree) (durable [] 0)))
          (is_durable bytes stamp));
      low = omega (arith, number);
      high = omega (arith, number, length-append pre (durable bytes stamp ∷ first_files tree));
    }
step_first path (Some bytes) stamp tree rest pre x n (inr later) file =
    let size : length (pre ++ durable bytes stamp ∷ []) ≡ length pre + 1 =
    length-append pre (durable bytes stamp ∷ []) in
    later_first pre (pre ++ durable bytes stamp ∷ []) (record {
      path = path;
      bytes = Some bytes;
      stamp = stamp;
    }) tree x n (append_assoc pre (durable bytes stamp ∷ []) (first_files tree))
    (omega (arith, size))
    (rest (pre ++ durable bytes stamp ∷ []) x n
    (subst (λ (k : ℕ). Among x (first_names k tree)) (sym size) later) file)

pub first_name : (tree : List TreeNode) (pre : List File) (x : Name) (n : ℕ)
    → Among x (first_names (length pre) tree) → x.file ≡ Some n → IsFirst pre tree x n
first_name [] pre x n in_it file = absurd in_it
first_name (node ∷ tree) pre x n in_it file =
    step_first node.path node.bytes node.stamp tree (first_name tree) pre x n in_it file

-- two names with one number are one
step_shared : (path : List ℕ) (bytes : Option (List ℕ)) (stamp : ℕ) (tree : List TreeNode)
    → ((pre : List File) (x y : Name) (n : ℕ) → Among x (first_names (length pre) tree)
    → Among y (first_names (length pre) tree) → x.file ≡ Some n → y.file ≡ Some n → x.path ≡ y.path)
    → (pre : List File) (x y : Name) (n : ℕ)
    → (x ≡ record { path = path; file = number_of bytes (length pre) })
    ⊎ Among x (first_names (next_number bytes (length pre)) tree)
    → (y ≡ record { path = path; file = number_of bytes (length pre) })
    ⊎ Among y (first_names (next_number bytes (length pre)) tree) → x.file ≡ Some n → y.file
    ≡ Some n → x.path ≡ y.path
step_shared path bytes stamp tree rest pre x y n (inl is) (inl is') file file' =
    ap (λ (z : Name). z.path) (is ∙ sym is')
step_shared path None stamp tree rest pre x y n (inl is) (inr later) file file' =
    let none : x.file ≡ None = ap (λ (z : Name). z.file) is in absurd (cc)
step_shared path None stamp tree rest pre x y n (inr later) (inl is) file file' =
    let none : y.file ≡ None = ap (λ (z : Name). z.file) is in absurd (cc)
step_shared path None stamp tree rest pre x y n (inr later) (inr later') file file' =
    rest pre x y n later later' file file'
step_shared path (Some bytes) stamp tree rest pre x y n (inl is) (inr later) file file' =
    let number : length pre ≡ n =
    (let e : x.file ≡ Some (length pre) = ap (λ (z : Name). z.file) is in cc) in
    let size : length (pre ++ durable bytes stamp ∷ []) ≡ length pre + 1 =
    length-append pre (durable bytes stamp ∷ []) in
    let low = (first_name tree (pre ++ durable bytes stamp ∷ []) y n
    (subst (λ (k : ℕ). Among y (first_names k tree)) (sym size) later) file').low in
    absurd (omega (arith, number, size, low))
step_shared path (Some bytes) stamp tree rest pre x y n (inr later) (inl is) file file' =
    let number : length pre ≡ n =
    (let e : y.file ≡ Some (length pre) = ap (λ (z : Name). z.file) is in cc) in
    let size : length (pre ++ durable bytes stamp ∷ []) ≡ length pre + 1 =
    length-append pre (durable bytes stamp ∷ []) in
    let low = (first_name tree (pre ++ durable bytes stamp ∷ []) x n
    (subst (λ (k : ℕ). Among x (first_names k tree)) (sym size) later) file).low in
    absurd (omega (arith, number, size, low))
step_shared path (Some bytes) stamp tree rest pre x y n (inr later) (inr later') file file' =
    let size : length (pre ++ durable bytes stamp ∷ []) ≡ length pre + 1 =
    length-append pre (durable bytes stamp ∷ []) in
    rest (pre ++ durable bytes stamp ∷ []) x y n
    (subst (λ (k : ℕ). Among x (first_names k tree)) (sym size) later)
    (subst (λ (k : ℕ). Among y (first_names k tree)) (sym size) later') file file'

first_shared : (tree : List TreeNode) (pre : List File) (x y : Name) (n : ℕ)
    → Among x (first_names (length pre) tree) → Among y (first_names (length pre) tree) → x.file
    ≡ Some n → y.file ≡ Some n → x.path ≡ y.path
first_shared [] pre x y n in_x in_y file file' = absurd in_x
first_shared (node ∷ tree) pre x y n in_x in_y file file' =
    step_shared node.path node.bytes node.stamp tree (first_shared tree) pre x y n in_x in_y file
    file'

-- each file of the tree has a name
abbrev HasName : ℕ → List TreeNode → TreeNode → Type 0
HasName k tree node = (x : Name) × (n : ℕ) × Among x (first_names k tree) × (x.path ≡ node.path)
    × (x.file ≡ Some n)

own_name : (path : List ℕ) (bytes : Option (List ℕ)) (k : ℕ) (node : TreeNode) (c : List ℕ)
    (tree : List TreeNode) → path ≡ node.path → bytes ≡ Some c
    → (x : Name) × (n : ℕ)
    × ((x ≡ record { path = path; file = number_of bytes k })
    ⊎ Among x (first_names (next_number bytes k) tree)) × (x.path ≡ node.path) × (x.file ≡ Some n)
own_name path None k node c tree e f = absurd (cc)
own_name path (Some bytes) k node c tree e f =
    (record { path = path; file = Some k }, k, inl refl, e, refl)

named_first : (tree : List TreeNode) (k : ℕ) (node : TreeNode) (c : List ℕ) → Among node tree
    → node.bytes ≡ Some c → HasName k tree node
named_first [] k node c in_it e = absurd in_it
named_first (first ∷ tree) k node c (inl is) e =
    own_name first.path first.bytes k node c tree (sym (ap (λ (y : TreeNode). y.path) is))
    (sym (ap (λ (y : TreeNode). y.bytes) is) ∙ e)
named_first (first ∷ tree) k node c (inr later) e = let rest =
    named_first tree (next_number first.bytes k) node c later e in
    (rest.0, rest.1, inr rest.2, rest.3, rest.4)

fresh_among : (seen : List ReadMessage) (l : ReadMessage) → Among l seen
    → Among (record { key = l.key; core = l.core; may_go = false }) (all_stay seen)
fresh_among [] l in_it = absurd in_it
fresh_among (n ∷ seen) l (inl is) =
    inl (ap (λ (y : ReadMessage). record { key = y.key; core = y.core; may_go = false }) is)
fresh_among (n ∷ seen) l (inr later) = inr (fresh_among seen l later)

among_fresh : (seen : List ReadMessage) (m : StoredMessage) → Among m (all_stay seen)
    → (l : ReadMessage) × Among l seen × (m ≡ record { key = l.key; core = l.core; may_go = false })
among_fresh [] m in_it = absurd in_it
among_fresh (n ∷ seen) m (inl is) = (n, inl refl, is)
among_fresh (n ∷ seen) m (inr later) = let rest = among_fresh seen m later in
    (rest.0, inr rest.1, rest.2)

-- no two nodes of a tree have one path
absent_node : (p : List ℕ) (tree : List TreeNode) → is_none (node_in tree p) ≡ true → (x : TreeNode)
    → Among x tree → x.path ≢ p
absent_node p [] e x in_it at = absurd in_it
absent_node p (y ∷ tree) e x in_it at = ⊎_elim {C = ⊥}
    (λ (is : bytes_eq y.path p ≡ true).
    let no : false ≡ true =
    sym (ap is_none (cond-true (bytes_eq y.path p) (Some y) (node_in tree p) is)) ∙ e in cc)
    (λ (is : bytes_eq y.path p ≡ false). ⊎_elim {C = ⊥}
    (λ (f : x ≡ y). let yes : bytes_eq y.path p ≡ true = subst (λ (q : List ℕ). bytes_eq q p ≡ true)
    (sym at ∙ ap (λ (z : TreeNode). z.path) f) (same p) in cc)
    (λ (later : Among x tree). absent_node p tree
    (sym (ap is_none (cond-false (bytes_eq y.path p) (Some y) (node_in tree p) is)) ∙ e) x later at)
    in_it)
    (cases_Bool (bytes_eq y.path p))

one_node : (tree : List TreeNode) → are_distinct tree ≡ true → (a b : TreeNode) → Among a tree
    → Among b tree → a.path ≡ b.path → a ≡ b
one_node [] d a b in_a in_b e = absurd in_a
one_node (x ∷ tree) d a b (inl is) (inl is') e = is ∙ sym is'
one_node (x ∷ tree) d a b (inl is) (inr later) e =
    absurd (absent_node x.path tree
    (and_parts (is_none (node_in tree x.path)) (are_distinct tree) d).0 b later
    (sym e ∙ ap (λ (y : TreeNode). y.path) is))
one_node (x ∷ tree) d a b (inr later) (inl is) e =
    absurd (absent_node x.path tree
    (and_parts (is_none (node_in tree x.path)) (are_distinct tree) d).0 a later
    (e ∙ ap (λ (y : TreeNode). y.path) is))
one_node (x ∷ tree) d a b (inr later) (inr later') e =
    one_node tree (and_parts (is_none (node_in tree x.path)) (are_distinct tree) d).1 a b later
    later' e

one_name : (names : List Name) → Distinct names → (x y : Name) → Among x names → Among y names
    → x.path ≡ y.path → x ≡ y
one_name [] d x y in_x in_y e = absurd in_x
one_name (z ∷ names) d x y (inl is) (inl is') e = is ∙ sym is'
one_name (z ∷ names) d x y (inl is) (inr later) e =
    absurd (absent_in z.path names (ap is_free d.0) y later (sym e ∙ ap (λ (w : Name). w.path) is))
one_name (z ∷ names) d x y (inr later) (inl is) e =
    absurd (absent_in z.path names (ap is_free d.0) x later (e ∙ ap (λ (w : Name). w.path) is))
one_name (z ∷ names) d x y (inr later) (inr later') e = one_name names d.1 x y later later' e

module _ (shape : Shape) (formed : IsWellFormed shape) (reads : List TreeNode → List ReadMessage)
    (reading : IsReading shape reads) where
  is_file : (pre : List File) (tree : List TreeNode) (x : Name) (key : List ℕ) (n : ℕ)
      (f : IsFirst pre tree x n) → IsOfKey shape x key n → IsFileOf shape f.node key
  is_file pre tree x key n f of_key = (ap shape.slot f.path ∙ of_key.0, f.bytes, f.held)

  own_file : (path : List ℕ) (bytes : Option (List ℕ)) (stamp k : ℕ) (x : Name) (key : List ℕ)
      (n : ℕ) → x ≡ record { path = path; file = number_of bytes k } → IsOfKey shape x key n
      → IsFileOf shape (record { path = path; bytes = bytes; stamp = stamp }) key
  own_file path None stamp k x key n is of_key = let none : x.file ≡ None =
      ap (λ (y : Name). y.file) is in let some : x.file ≡ Some n = of_key.1 in absurd (cc)
  own_file path (Some bytes) stamp k x key n is of_key =
      (sym (ap (λ (y : Name). shape.slot y.path) is) ∙ of_key.0, bytes, refl)

  -- the files before, where the next number is this
  next_files : (bytes : Option (List ℕ)) (k : ℕ) (pre : List File) → length pre ≡ k
      → (more : List File) × (length more ≡ next_number bytes k)
  next_files None k pre e = (pre, e)
  next_files (Some bytes) k pre e =
      (pre ++ durable bytes 0 ∷ [], omega (arith, e, length-append pre (durable bytes 0 ∷ [])))

  first_once : (tree : List TreeNode) (k : ℕ) (x y : Name) (key : List ℕ) (n j : ℕ)
      (pre : List File) → length pre ≡ k → IsOnce shape tree → Among x (first_names k tree)
      → Among y (first_names k tree) → IsOfKey shape x key n → IsOfKey shape y key j → x ≡ y
  first_once [] k x y key n j pre e once in_x in_y at_x at_y = absurd in_x
  first_once (node ∷ tree) k x y key n j pre e once (inl is) (inl is') at_x at_y = is ∙ sym is'
  first_once (node ∷ tree) k x y key n j pre e once (inl is) (inr later) at_x at_y =
      let more = next_files node.bytes k pre e in
      let f = first_name tree more.0 y j
      (subst (λ (i : ℕ). Among y (first_names i tree)) (sym more.1) later) at_y.1 in
      absurd (once.0 f.node key f.among (own_file node.path node.bytes node.stamp k x key n is at_x)
      (is_file more.0 tree y key j f at_y))
  first_once (node ∷ tree) k x y key n j pre e once (inr later) (inl is) at_x at_y =
      let more = next_files node.bytes k pre e in
      let f = first_name tree more.0 x n
      (subst (λ (i : ℕ). Among x (first_names i tree)) (sym more.1) later) at_x.1 in
      absurd (once.0 f.node key f.among (own_file node.path node.bytes node.stamp k y key j is at_y)
      (is_file more.0 tree x key n f at_x))
  first_once (node ∷ tree) k x y key n j pre e once (inr later) (inr later') at_x at_y =
      let more = next_files node.bytes k pre e in
      first_once tree (next_number node.bytes k) x y key n j more.0 more.1 once.1 later later'
      at_x at_y

  node_once : (tree : List TreeNode) (a b : TreeNode) (key : List ℕ) → IsOnce shape tree
      → Among a tree → Among b tree → IsFileOf shape a key → IsFileOf shape b key → a ≡ b
  node_once [] a b key once in_a in_b at_a at_b = absurd in_a
  node_once (node ∷ tree) a b key once (inl is) (inl is') at_a at_b = is ∙ sym is'
  node_once (node ∷ tree) a b key once (inl is) (inr later) at_a at_b =
      absurd (once.0 b key later (subst (λ (n : TreeNode). IsFileOf shape n key) is at_a) at_b)
  node_once (node ∷ tree) a b key once (inr later) (inl is) at_a at_b =
      absurd (once.0 a key later (subst (λ (n : TreeNode). IsFileOf shape n key) is at_b) at_a)
  node_once (node ∷ tree) a b key once (inr later) (inr later') at_a at_b =
      node_once tree a b key once.1 later later' at_a at_b

  -- the file of a name with this key has the core of the of_key that is read
  core_is : (tree : List TreeNode) (l : ReadMessage) (node : TreeNode) (x : Name) (key : List ℕ)
      (n : ℕ) → IsOnce shape tree → Among node tree → IsOf shape node l → l.key ≡ key
      → IsOfKey shape x key n → IsFirst [] tree x n
      → IsDurable l.core (file_at (first_files tree) n)
  core_is tree l node x key n once in_tree is_of key_is of_key f =
      let same : f.node ≡ node =
      node_once tree f.node node key once f.among in_tree (is_file [] tree x key n f of_key)
      (is_of.0 ∙ ap Some key_is, l.core, is_of.1) in
      let core : f.bytes ≡ l.core =
      (let a : f.node.bytes ≡ Some f.bytes = f.held in
      let b : f.node.bytes ≡ Some l.core = ap (λ (y : TreeNode). y.bytes) same ∙ is_of.1 in
      cc) in
      subst (λ (c : List ℕ). IsDurable c (file_at (first_files tree) n)) core f.durable_at

  fresh_single : (seen : List ReadMessage) → IsRising shape.before seen → IsSingle (all_stay seen)
  fresh_single [] up = tt
  fresh_single (l ∷ seen) up = (
    (λ n in_it must must' e. let was = among_fresh seen n in_it in
        let lt : shape.before l.key was.0.key ≡ true = up.0 was.0 was.1 in
        let no : shape.before l.key l.key ≡ false = formed.order.never l.key in
        let same : shape.before l.key was.0.key ≡ shape.before l.key l.key =
        ap (shape.before l.key) (sym (ap (λ (y : StoredMessage). y.key) was.2) ∙ sym e) in cc),
    fresh_single seen up.1,
  )

  fresh_order : (seen : List ReadMessage) → IsRising shape.before seen
      → IsInOrder shape.before (all_stay seen)
  fresh_order [] up = tt
  fresh_order (l ∷ seen) up = (
    (λ n in_it. let was = among_fresh seen n in_it in
        ap (λ (y : StoredMessage). shape.before y.key l.key) was.2
        ∙ asym shape.before formed.order l.key was.0.key (up.0 was.0 was.1)),
    fresh_order seen up.1,
  )

  -- At the first mark the folder holds the messages of the first tree, each of which must stay.
  pub holds_first : (tree : List TreeNode) → is_first_tree tree ≡ true → IsOnce shape tree
      → Holds shape (all_stay (reads tree)) (state_of tree)
  holds_first tree good once =
      let distinct = (and_parts (are_distinct tree) (are_placed tree tree)
      (and_parts (is_tree tree) (are_stamped tree) good).0).0 in
      let all = all_stay (reads tree) in
      let up = reading.rising tree in
      record {
        sound = record {
          below = λ row x n in_rows in_row file.
              ⊎_elim (λ (is : row ≡ first_names 0 tree).
              (first_name tree [] x n (subst (Among x) is in_row) file).high)
              (λ (no : ⊥). absurd no) in_rows;
          alike = λ row x y n in_rows in_row in_names file file'.
              ⊎_elim (λ (is : row ≡ first_names 0 tree). ap shape.home
              (first_shared tree [] x y n (subst (Among x) is in_row) in_names file file'))
              (λ (no : ⊥). absurd no) in_rows;
          shared = λ x y n. first_shared tree [] x y n;
        };
        rows = λ row in_rows.
            ⊎_elim (λ (is : row ≡ first_names 0 tree). subst (Row shape all (first_files tree))
            (sym is) (record {
              known = λ x key n in_it of_key.
                  let f = first_name tree [] x n in_it of_key.1 in
                  ⊎_elim {C = IsKnown shape all (first_files tree) key n}
                  (λ (counts : shape.counts f.bytes ≡ true).
                  let there = reading.read_there tree f.node (record { key = key; core = f.bytes })
                  f.among (ap shape.slot f.path ∙ of_key.0, f.held, counts) (λ other in_tree e.
                  ap (λ (y : TreeNode). y.bytes)
                  (one_node tree distinct other f.node in_tree f.among e)) in
                  let from = reading.read_from tree there.0 there.1 in
                  inr (
                    staying there.0,
                    fresh_among (reads tree) there.0 there.1,
                    there.2,
                    core_is tree there.0 from.0 x key n once from.1 from.2 there.2 of_key f,
                  ))
                  (λ (blank : shape.counts f.bytes ≡ false). inl (f.bytes, f.durable_at, blank))
                  (cases_Bool (shape.counts f.bytes));
              once = λ x y key n j in_x in_y at_x at_y.
                  first_once tree 0 x y key n j [] refl once in_x in_y at_x at_y;
              alone = λ x y key n in_x in_y at_x e.
                  one_name (first_names 0 tree) (first_names_tree tree good).distinct y x in_y in_x
                  e;
              present = λ m in_all must.
                  let was = among_fresh (reads tree) m in_all in
                  let from = reading.read_from tree was.0 was.1 in
                  let name = named_first tree 0 from.0 was.0.core from.1 from.2.1 in
                  let of_key : IsOfKey shape name.0 was.0.key name.1 =
                  (ap shape.slot name.3 ∙ from.2.0, name.4) in
                  let f = first_name tree [] name.0 name.1 name.2 name.4 in
                  subst (IsPresent shape (first_files tree) (first_names 0 tree)) (sym was.2) (
                    name.0,
                    name.1,
                    name.2,
                    of_key,
                    core_is tree was.0 from.0 name.0 was.0.key name.1 once from.1 from.2 refl of_key
                        f,
                    from.2.2,
                  );
            })) (λ (no : ⊥). absurd no) in_rows;
        single = fresh_single (reads tree) up;
        in_order = fresh_order (reads tree) up;
      }

  -- So each image at the first mark holds them: there is one, the first tree.
  pub stands_first : (tree : List TreeNode) → is_first_tree tree ≡ true → IsOnce shape tree
      → Stands shape reads (all_stay (reads tree)) (state_of tree)
  stands_first tree good once = stands shape formed reads reading _ _ (holds_first tree good once)
