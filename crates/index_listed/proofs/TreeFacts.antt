-- What the definitions say of small indexes.
use Rattle.std.proofs.Common.{◌≡◌, ℕ, true, false, List, [], ◌∷◌, Some, None, codes, refl}
use Rattle.threads.specs.declared.options.Link.{Link}
use Rattle.threads.specs.declared.options.Link.TheVariants.{Reference, Duplicate, Subject}
use Rattle.index_listed.specs.Tree.{tree_text}
use Rattle.index_listed.specs.Visibility.{hides, visible}
use Rattle.index_listed.specs.declared.entry.Entry.{Entry}

abbrev root : ℕ → Entry
root r = record { parent = None; root = r; satisfies = true; is_shut = false }

abbrev below : Link → ℕ → ℕ → Entry
below link p r = record {
  parent = Some (record { place = p; link = link });
  root = r;
  satisfies = true;
  is_shut = false;
}

abbrev outside : Entry → Entry
outside e = record { parent = e.parent; root = e.root; satisfies = false; is_shut = e.is_shut }

abbrev shut : Entry → Entry
shut e = record { parent = e.parent; root = e.root; satisfies = e.satisfies; is_shut = true }

-- an answer below its parent
abbrev answered : List Entry
answered = root 0 ∷ below Reference 0 0 ∷ []

answered_root : tree_text answered 0 ≡ []
answered_root = refl

answered_child : tree_text answered 1 ≡ codes "`-> "
answered_child = refl

-- one message of the same subject is a reply, and the next is not
abbrev with_reply : List Entry
with_reply = root 0 ∷ below Subject 0 0 ∷ root 2 ∷ []

reply_alone : tree_text with_reply 1 ≡ codes "`*> "
reply_alone = refl

reply_apart : tree_text with_reply 2 ≡ []
reply_apart = refl

-- all messages of the same subject
abbrev by_subject : List Entry
by_subject = root 0 ∷ below Subject 0 0 ∷ below Subject 0 0 ∷ []

subject_first : tree_text by_subject 1 ≡ codes "|*> "
subject_first = refl

subject_last : tree_text by_subject 2 ≡ codes "`*> "
subject_last = refl

-- an answer, an answer to it with a copy, and a further answer
abbrev deep : List Entry
deep = root 0 ∷ below Reference 0 0 ∷ below Reference 1 0 ∷ below Duplicate 2 0
    ∷ below Reference 0 0 ∷ []

deep_first : tree_text deep 1 ≡ codes "|-> "
deep_first = refl

deep_second : tree_text deep 2 ≡ codes "| `-> "
deep_second = refl

deep_copy : tree_text deep 3 ≡ codes "|   `=> "
deep_copy = refl

-- a chain of answers, all of which show
abbrev chain : List Entry
chain = root 0 ∷ below Reference 0 0 ∷ below Reference 1 0 ∷ []

chain_middle : tree_text chain 1 ≡ codes "`-> "
chain_middle = refl

chain_last : tree_text chain 2 ≡ codes "  `-> "
chain_last = refl

-- the same, where the middle one does not satisfy the limit
abbrev gap : List Entry
gap = root 0 ∷ outside (below Reference 0 0) ∷ below Reference 1 0 ∷ []

gap_visible : visible gap ≡ 0 ∷ 2 ∷ []
gap_visible = refl

gap_last : tree_text gap 2 ≡ codes "`-> "
gap_last = refl

-- a shut thread whose root does not satisfy the limit, and a message of another thread
abbrev closed : List Entry
closed = shut (outside (root 0)) ∷ shut (below Reference 0 0) ∷ shut (below Reference 0 0)
    ∷ root 3 ∷ []

closed_visible : visible closed ≡ 1 ∷ 3 ∷ []
closed_visible = refl

closed_hides : hides closed 1 ≡ true
closed_hides = refl

closed_other : hides closed 3 ≡ false
closed_other = refl

closed_text : tree_text closed 1 ≡ []
closed_text = refl
