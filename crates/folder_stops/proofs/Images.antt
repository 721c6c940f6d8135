-- Each stop leaves the messages.
use Rattle.std.proofs.Common.{List, None, Option, Some, [], ap, arith, false, get_or, inl, inr}
use Rattle.std.proofs.Common.{length, refl, subst, sym, true, ℕ, ⊎_elim, ◌∙◌, ◌∷◌, ◌≡◌}
use Rattle.std.proofs.lemmas.List.{ext_get_or}
use Rattle.disk_model.specs.Tree.{TreeNode}
use Rattle.disk_model.specs.State.{File, Name, State, file_at}
use Rattle.disk_model.specs.Images.{IsLeft, IsLeftAt, IsOneOf, IsTreeOf}
use Rattle.folder_stops.specs.Messages.{Must, StoredMessage}
use Rattle.folder_stops.specs.Reads.{IsAlone, IsReading, ReadMessage, Stands}
use Rattle.folder_stops.specs.Rows.{Holds, IsBlank, IsDurable, IsOfKey, Row}
use Rattle.folder_stops.specs.Shape.{IsWellFormed, Shape}
use Rattle.folder_stops.specs.Words.{Among}
use Rattle.folder_stops.proofs.Kept.{IsRead, IsStored, kept_lists}

pub left_durable : (file : File) (bytes c : List ℕ) → IsDurable bytes file → IsLeft file c → c
    ≡ bytes
left_durable file bytes c is left =
    let size : length c ≡ length bytes =
    omega (arith, left.no_shorter, left.no_longer, is.least, is.greatest) in
    ext_get_or 0 c bytes size (λ i lt.
    left.untouched i lt (is.untouched i (omega (arith, size, lt)))
    ∙ ap (λ (l : List ℕ). get_or l i 0) is.holds)

-- a node of an image is that of a name, and each name has one
name_of : (files : List File) (names : List Name) (tree : List TreeNode) (node : TreeNode)
    → IsTreeOf files names tree → Among node tree → (x : Name) × Among x names
    × (node.path ≡ x.path) × IsLeftAt files x.file node.bytes
name_of files [] [] node is in_it = absurd in_it
name_of files [] (first ∷ tree) node is in_it = absurd is
name_of files (x ∷ names) [] node is in_it = absurd in_it
name_of files (x ∷ names) (first ∷ tree) node is (inl e) = (
  x,
  inl refl,
  ap (λ (n : TreeNode). n.path) e ∙ is.0,
  subst (λ (n : TreeNode). IsLeftAt files x.file n.bytes) (sym e) is.1,
)
name_of files (x ∷ names) (first ∷ tree) node is (inr later) = let rest =
    name_of files names tree node is.2 later in (rest.0, inr rest.1, rest.2, rest.3)

node_of : (files : List File) (names : List Name) (tree : List TreeNode) (x : Name)
    → IsTreeOf files names tree → Among x names → (node : TreeNode) × Among node tree
    × (node.path ≡ x.path) × IsLeftAt files x.file node.bytes
node_of files [] tree x is in_it = absurd in_it
node_of files (first ∷ names) [] x is in_it = absurd is
node_of files (first ∷ names) (node ∷ tree) x is (inl e) = (
  node,
  inl refl,
  is.0 ∙ sym (ap (λ (y : Name). y.path) e),
  subst (λ (y : Name). IsLeftAt files y.file node.bytes) (sym e) is.1,
)
node_of files (first ∷ names) (node ∷ tree) x is (inr later) = let rest =
    node_of files names tree x is.2 later in (rest.0, inr rest.1, rest.2, rest.3)

-- what is left of a name that has bytes is what is left of its file
left_of : (files : List File) (file : Option ℕ) (bytes : Option (List ℕ)) (c : List ℕ) → bytes
    ≡ Some c → IsLeftAt files file bytes → (n : ℕ) × (file ≡ Some n) × IsLeft (file_at files n) c
left_of files None bytes c e is = let none : bytes ≡ None = is in absurd (cc)
left_of files (Some n) bytes c e is = let same : is.0 ≡ c =
    (let f : bytes ≡ Some is.0 = is.1 in cc) in
    (n, refl, subst (IsLeft (file_at files n)) same is.2)

one_of : (names : List Name) (all : List (List Name)) → IsOneOf names all → Among names all
one_of names [] is = absurd is
one_of names (first ∷ all) (inl is) = inl is
one_of names (first ∷ all) (inr later) = inr (one_of names all later)

module _ (shape : Shape) (formed : IsWellFormed shape) (reads : List TreeNode → List ReadMessage)
    (reading : IsReading shape reads) where
  known_image : (all : List StoredMessage) (files : List File) (names : List Name)
      (tree : List TreeNode) → Row shape all files names → IsTreeOf files names tree
      → (l : ReadMessage) → Among l (reads tree) → IsStored shape.before formed.order all l
  known_image all files names tree row is l in_it =
      let from = reading.read_from tree l in_it in
      let at = name_of files names tree from.0 is from.1 in
      let left = left_of files at.0.file from.0.bytes l.core from.2.1 at.3 in
      ⊎_elim {C = IsStored shape.before formed.order all l}
      (λ (blank : IsBlank shape files left.0).
      let same : l.core ≡ blank.0 =
      left_durable (file_at files left.0) blank.0 l.core blank.1 left.2 in
      let no : shape.counts l.core ≡ false = ap shape.counts same ∙ blank.2 in
      let yes : shape.counts l.core ≡ true = from.2.2 in absurd (cc))
      (λ (m : (m : StoredMessage) × Among m all × (m.key ≡ l.key) × IsDurable m.core
      (file_at files left.0)). (
        m.0,
        m.1,
        m.2,
        sym (left_durable (file_at files left.0) m.0.core l.core m.3 left.2),
      ))
      (row.known at.0 l.key left.0 at.1 (ap shape.slot (sym at.2) ∙ from.2.0, left.1))

  some_left : (files : List File) (file : Option ℕ) (bytes : Option (List ℕ)) (n : ℕ) → file
      ≡ Some n → IsLeftAt files file bytes → (c : List ℕ) × (bytes ≡ Some c)
      × IsLeft (file_at files n) c
  some_left files None bytes n e is = absurd (cc)
  some_left files (Some k) bytes n e is = let same : k ≡ n = (cc) in
      (is.0, is.1, subst (λ (j : ℕ). IsLeft (file_at files j) is.0) same is.2)

  -- nothing else stands at the path of a message's file
  alone_node : (all : List StoredMessage) (files : List File) (names : List Name)
      (tree : List TreeNode) → Row shape all files names → IsTreeOf files names tree
      → (x : Name) (key : List ℕ) (n : ℕ) (core : List ℕ) → Among x names
      → IsOfKey shape x key n → IsDurable core (file_at files n)
      → (node : TreeNode) → node.path ≡ x.path → node.bytes ≡ Some core → IsAlone tree node
  alone_node all files names tree row is x key n core in_it of_key lasts node path bytes other
      in_tree same_path =
      let its = name_of files names tree other is in_tree in
      let same_name : its.0 ≡ x =
      row.alone x its.0 key n in_it its.1 of_key (sym its.2 ∙ same_path ∙ path) in
      let left = some_left files its.0.file other.bytes n
      (ap (λ (y : Name). y.file) same_name ∙ of_key.1) its.3 in
      left.1 ∙ ap Some (left_durable (file_at files n) core left.0 lasts left.2) ∙ sym bytes

  one_left : (files : List File) (x y : Name) (n k : ℕ) (c : List ℕ) → x ≡ y → x.file ≡ Some n
      → y.file ≡ Some k → IsLeft (file_at files n) c → IsLeft (file_at files k) c
  one_left files x y n k c e f g left =
      let number : n ≡ k = (let h : x.file ≡ Some k = ap (λ (z : Name). z.file) e ∙ g in cc) in
      subst (λ (j : ℕ). IsLeft (file_at files j) c) number left

  -- what is read under its key is that file
  core_read : (all : List StoredMessage) (files : List File) (names : List Name)
      (tree : List TreeNode) → Row shape all files names → IsTreeOf files names tree
      → (x : Name) (key : List ℕ) (n : ℕ) (core : List ℕ) → Among x names
      → IsOfKey shape x key n → IsDurable core (file_at files n)
      → (l : ReadMessage) → Among l (reads tree) → l.key ≡ key → l.core ≡ core
  core_read all files names tree row is x key n core in_it of_key lasts l in_seen e =
      let from = reading.read_from tree l in_seen in
      let own = name_of files names tree from.0 is from.1 in
      let left = left_of files own.0.file from.0.bytes l.core from.2.1 own.3 in
      let same : own.0 ≡ x =
      row.once own.0 x key left.0 n own.1 in_it
      (ap shape.slot (sym own.2) ∙ from.2.0 ∙ ap Some e, left.1) of_key in
      left_durable (file_at files n) core l.core lasts
      (one_left files own.0 x left.0 n l.core same left.1 of_key.1 left.2)

  read_image : (all : List StoredMessage) (files : List File) (names : List Name)
      (tree : List TreeNode) → Row shape all files names → IsTreeOf files names tree
      → (m : StoredMessage) → Among m all → Must m
      → IsRead shape.before formed.order (reads tree) m
  read_image all files names tree row is m in_all must =
      let at = row.present m in_all must in
      let node = node_of files names tree at.0 is at.2 in
      let left = some_left files at.0.file node.0.bytes at.1 at.3.1 node.3 in
      let core : left.0 ≡ m.core = left_durable (file_at files at.1) m.core left.0 at.4 left.2 in
      let alone = alone_node all files names tree row is at.0 m.key at.1 m.core at.2 at.3 at.4
      node.0 node.2 (left.1 ∙ ap Some core) in
      let there = reading.read_there tree node.0 (record { key = m.key; core = left.0 }) node.1
      (ap shape.slot node.2 ∙ at.3.0, left.1, ap shape.counts core ∙ at.5) alone in (
        there.0,
        there.1,
        there.2,
        core_read all files names tree row is at.0 m.key at.1 m.core at.2
            at.3 at.4 there.0 there.1 there.2,
      )

  -- what holds by name stands in each image
  pub stands : (all : List StoredMessage) (s : State) → Holds shape all s → Stands shape reads all s
  stands all s h = record {
    holds = h;
    images = λ tree image. let row =
        h.rows image.names (one_of image.names (s.names ∷ s.earlier) image.stand) in
        kept_lists shape.before formed.order all (reads tree) h.in_order h.single
        (reading.rising tree)
        (known_image all s.files image.names tree row image.contents)
        (read_image all s.files image.names tree row image.contents);
  }
