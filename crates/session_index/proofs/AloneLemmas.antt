-- A pattern of no other messages tells the same of a message that is the same, where others differ
-- in flags alone.
use Rattle.std.proofs.Common.{◌≡◌, ◌∙◌, ◌&&◌, ◌||◌, ℕ, ℤ, Bool, true, List, Option, None, Some, ap}
use Rattle.std.proofs.Common.{map, not, refl, slice_get, sym}
use Rattle.std.proofs.lemmas.Bool.{and_parts, false≢true}
use Rattle.people.specs.People.{PlainPeople}
use Rattle.patterns_match.specs.Listings.{Message}
use Rattle.patterns_match.specs.Satisfies.{asks, has_child, passes, satisfies, tells}
use Rattle.patterns_match.specs.Trees.{Leaf, Tells, Searches, Dated, Counts, Tree, Asks, Not, And}
use Rattle.patterns_match.specs.Trees.{Or, Group, Related}
use Rattle.patterns_match.specs.declared.letter.Mark.{Mark}
use Rattle.patterns_match.specs.declared.letter.Mark.TheVariants as mark
use Rattle.patterns_match.specs.Pattern.{PlainPattern}
use Rattle.index_view.proofs.OneLemmas.{IsOwn}
use Rattle.index_view.proofs.StillLemmas.{bare}
use Rattle.session_index.specs.Hiding.{is_alone, limit_is_alone}
use Rattle.index_view.specs.Staying.{everything}
use Rattle.index_view.proofs.StayingLemmas.{child_same}

passes_alike : (f g : Message → Bool) (m : Option Message) → ((n : Message) → f n ≡ g n)
    → passes f m ≡ passes g m
passes_alike f g None same = refl
passes_alike f g (Some m) same = same m

module _ (people : PlainPeople) (offset : ℤ) (ms ns : List Message)
    (same : map bare ms ≡ map bare ns) (p : ℕ) (here : slice_get ms p ≡ slice_get ns p) where
  child_alike : has_child ms p ≡ has_child ns p
  child_alike = sym (child_same everything people offset ms p)
      ∙ ap (λ (l : List Message). has_child l p) same ∙ child_same everything people offset ns p

  mark_alike : (m : Message) (x : Mark) → tells people ms p m x ≡ tells people ns p m x
  mark_alike m mark.All = refl
  mark_alike m mark.Deleted = refl
  mark_alike m mark.Flagged = refl
  mark_alike m mark.New = refl
  mark_alike m mark.Old = refl
  mark_alike m mark.Replied = refl
  mark_alike m mark.Read = refl
  mark_alike m mark.Tagged = refl
  mark_alike m mark.Unread = refl
  mark_alike m mark.KnownList = refl
  mark_alike m mark.Subscribed = refl
  mark_alike m mark.ToMe = refl
  mark_alike m mark.FromMe = refl
  mark_alike m mark.Collapsed = refl
  mark_alike m mark.Duplicate = refl
  mark_alike m mark.Childless = ap not child_alike

  leaf_alike : (leaf : Leaf) (m : Message)
      → asks people offset ms p m leaf ≡ asks people offset ns p m leaf
  leaf_alike (Tells x) m = mark_alike m x
  leaf_alike (Searches x plain sought) m = refl
  leaf_alike (Dated day days) m = refl
  leaf_alike (Counts x range) m = refl

  tree_alike : (t : Tree) → is_alone t ≡ true
      → satisfies people offset ms t p ≡ satisfies people offset ns t p
  tree_alike (Asks leaf) h =
      passes_alike (λ m. asks people offset ms p m leaf) (λ m. asks people offset ns p m leaf)
      (slice_get ms p) (leaf_alike leaf)
      ∙ ap (passes (λ m. asks people offset ns p m leaf)) here
  tree_alike (Not t) h = ap not (tree_alike t h)
  tree_alike (And a b) h =
      let both = and_parts (is_alone a) (is_alone b) h in
      λ k. tree_alike a both.0 k && tree_alike b both.1 k
  tree_alike (Or a b) h =
      let both = and_parts (is_alone a) (is_alone b) h in
      λ k. tree_alike a both.0 k || tree_alike b both.1 k
  tree_alike (Group t) h = tree_alike t h
  tree_alike (Related r t) h = absurd (false≢true h)

pub limit_own : (limit : Option PlainPattern) → limit_is_alone limit ≡ true → IsOwn limit
limit_own None h people ms ns same p here = refl
limit_own (Some limit) h people ms ns same p here =
    tree_alike people limit.offset ms ns same p here limit.tree h
