-- What a folder is read as, and which of its messages it still holds.
use Rattle.std.specs.Prelude.{◌≡◌, ℕ, Bool, true, false, ◌&&◌, ◌||◌, List, [], ◌∷◌, map}
use Rattle.std.specs.Prelude.{Some}
use Rattle.std.specs.Str.{bytes_eq}
use Rattle.disk_model.specs.Tree.{TreeNode}
use Rattle.disk_model.specs.State.{State}
use Rattle.disk_model.specs.Images.{IsImage}
use Rattle.folder_stops.specs.Words.{Among}
use Rattle.folder_stops.specs.Shape.{Shape}
use Rattle.folder_stops.specs.Messages.{StoredMessage}
use Rattle.folder_stops.specs.Rows.{Holds}

-- a message that was read
pub record ReadMessage : Type 0 where
  pub key : List ℕ
  pub core : List ℕ

-- each key stands before those that follow
abbrev pub IsRising : (List ℕ → List ℕ → Bool) → List ReadMessage → Type 0
IsRising before [] = Unit {0}
IsRising before (l ∷ seen) =
    ((n : ReadMessage) → Among n seen → before l.key n.key ≡ true) × IsRising before seen

-- the node is a file whose bytes are this message's, under its key
abbrev pub IsOf : Shape → TreeNode → ReadMessage → Type 0
IsOf shape node l = (shape.slot node.path ≡ Some l.key) × (node.bytes ≡ Some l.core)
    × (shape.counts l.core ≡ true)

-- what else stands at the node's path has its bytes
abbrev pub IsAlone : List TreeNode → TreeNode → Type 0
IsAlone tree node = (other : TreeNode) → Among other tree → other.path ≡ node.path
    → other.bytes ≡ node.bytes

-- a message with this key was read
abbrev pub HasKey : List ℕ → List ReadMessage → Type 0
HasKey key seen = (l : ReadMessage) × Among l seen × (l.key ≡ key)

-- How a tree is read as a folder of this shape: in order, each message from a file under its key,
-- and of each key with such a file one.
pub record IsReading (shape : Shape) (reads : List TreeNode → List ReadMessage) : Type 0 where
  pub rising : (tree : List TreeNode) → IsRising shape.before (reads tree)
  pub read_from : (tree : List TreeNode) (l : ReadMessage) → Among l (reads tree)
      → (node : TreeNode) × Among node tree × IsOf shape node l
  pub read_there : (tree : List TreeNode) (node : TreeNode) (l : ReadMessage) → Among node tree
      → IsOf shape node l → IsAlone tree node → HasKey l.key (reads tree)

-- the message has that key and those bytes
abbrev pub is_same : StoredMessage → ReadMessage → Bool
is_same m l = bytes_eq m.key l.key && bytes_eq m.core l.core

-- those that were read are all messages in order, but for some that may go
abbrev pub kept : List StoredMessage → List ReadMessage → Bool
kept [] [] = true
kept [] (l ∷ seen) = false
kept (m ∷ all) [] = m.may_go && kept all []
kept (m ∷ all) (l ∷ seen) =
    (is_same m l && kept all seen) || (m.may_go && kept all (l ∷ seen))

-- The folder holds the messages, and each image of it is read as these, but for some that may go.
pub record Stands (shape : Shape) (reads : List TreeNode → List ReadMessage)
    (all : List StoredMessage) (state : State) : Type 0 where
  pub holds : Holds shape all state
  pub images : (tree : List TreeNode) → IsImage state tree → kept all (reads tree) ≡ true

-- a file under this key
abbrev pub IsFileOf : Shape → TreeNode → List ℕ → Type 0
IsFileOf shape node key =
    (shape.slot node.path ≡ Some key) × (bytes : List ℕ) × (node.bytes ≡ Some bytes)

-- no later file has the key of an earlier one
abbrev pub IsOnce : Shape → List TreeNode → Type 0
IsOnce shape [] = Unit {0}
IsOnce shape (node ∷ tree) =
    ((other : TreeNode) (key : List ℕ) → Among other tree → IsFileOf shape node key
    → IsFileOf shape other key → ⊥)
    × IsOnce shape tree

-- a message that was read, and must stay
abbrev pub staying : ReadMessage → StoredMessage
staying l = record { key = l.key; core = l.core; may_go = false }

-- the messages that were read, each of which must stay
abbrev pub all_stay : List ReadMessage → List StoredMessage
all_stay seen = map staying seen
