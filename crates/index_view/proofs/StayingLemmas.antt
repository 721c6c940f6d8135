-- A pattern that looks at no flag tells the same of messages that differ in flags alone.
use Rattle.std.proofs.Common.{◌≡◌, ◌∙◌, ◌+ℤ◌, ◌&&◌, ◌||◌, ◌∷◌, [], ℕ, zero, suc, ℤ, pos, Bool, true}
use Rattle.std.proofs.Common.{List, Option, None, Some, ap, false, length, map, not, option_map}
use Rattle.std.proofs.Common.{refl, slice_get, sym}
use Rattle.std.proofs.lemmas.Bool.{and_parts}
use Rattle.std.proofs.lemmas.List.{length-map}
use Rattle.std.specs.Prelude.{if◌then◌else◌}
use Rattle.std.specs.List.{list_any, range_with_len}
use Rattle.mail_base.specs.declared.flags.Flags.{Flags}
use Rattle.people.specs.People.{PlainPeople}
use Rattle.patterns_match.specs.Listings.{Message, texts_of}
use Rattle.patterns_match.specs.Ranges.{holds}
use Rattle.patterns_match.specs.Satisfies.{are_related, asks, dated, has_child, is_place}
use Rattle.patterns_match.specs.Satisfies.{is_related, number_of, passes, satisfies, tells}
use Rattle.patterns_match.specs.Satisfies.{text_found}
use Rattle.patterns_match.specs.Scores.{PlainEntry, counts, not_negative, score, total}
use Rattle.patterns_match.specs.Trees.{Days, Leaf, Tells, Searches, Dated, Counts}
use Rattle.patterns_match.specs.Trees.{Tree, Asks, Not, And, Or, Group, Related}
use Rattle.patterns_match.specs.declared.letter.Day.{Day}
use Rattle.patterns_match.specs.declared.letter.Day.TheVariants.{Sent, Received}
use Rattle.patterns_match.specs.declared.letter.Field.{Field}
use Rattle.patterns_match.specs.declared.letter.Field.TheVariants as field
use Rattle.patterns_match.specs.declared.letter.Mark.{Mark}
use Rattle.patterns_match.specs.declared.letter.Mark.TheVariants as mark
use Rattle.patterns_match.specs.declared.letter.Number.{Number}
use Rattle.patterns_match.specs.declared.letter.Number.TheVariants as number
use Rattle.patterns_match.specs.declared.relation.Relation.{Relation}
use Rattle.patterns_match.specs.declared.relation.Relation.TheVariants.{Thread, Parent, Child}
use Rattle.index_items.specs.Pending.{no_flags}
use Rattle.index_view.specs.Limit.{all_within, is_within}
use Rattle.patterns_match.specs.Pattern.{PlainPattern}
use Rattle.index_view.proofs.StillLemmas.{AreBlind, IsBlind, each_same, without}
use Rattle.index_view.specs.Staying.{Touched, entries_stay, everything, leaf_stays, limit_stays}
use Rattle.index_view.specs.Staying.{mark_stays, stays}

any_same : {X : Type 0} (f g : X → Bool) (xs : List X) → ((x : X) → f x ≡ g x)
    → list_any f xs ≡ list_any g xs
any_same f g [] same = refl
any_same f g (x ∷ xs) same = λ k. same x k || any_same f g xs same k

any_map : {X Y : Type 0} (test : Y → Bool) (f : X → Y) (xs : List X)
    → list_any test (map f xs) ≡ list_any (λ x. test (f x)) xs
any_map test f [] = refl
any_map test f (x ∷ xs) = ap (λ (b : Bool). test (f x) || b) (any_map test f xs)

get_map : {X Y : Type 0} (f : X → Y) (xs : List X) (p : ℕ)
    → slice_get (map f xs) p ≡ option_map f (slice_get xs p)
get_map f [] p = refl
get_map f (x ∷ xs) zero = refl
get_map f (x ∷ xs) (suc p) = get_map f xs p

-- what is not touched is as it was
unveiled : {X : Type 0} (touched : Bool) (a b : X) → not touched ≡ true
    → (if touched then a else b) ≡ b
unveiled true a b h = absurd (cc)
unveiled false a b h = refl

abbrev with_flags : Message → Flags → Message
with_flags m f = record m { row = record m.row { flags = f } }

module _ (what : Touched) where
  abbrev bare : Message → Message
  bare m = without what m

  -- a test of a message without its flags
  passes_same : (f g : Message → Bool) (m : Option Message)
      → ((n : Message) → f (bare n) ≡ g n) → passes f (option_map bare m) ≡ passes g m
  passes_same f g None same = refl
  passes_same f g (Some m) same = same m

  passes_at : (f g : Message → Bool) (ms : List Message) (p : ℕ)
      → ((n : Message) → f (bare n) ≡ g n)
      → passes f (slice_get (map bare ms) p) ≡ passes g (slice_get ms p)
  passes_at f g ms p same =
      ap (passes f) (get_map bare ms p) ∙ passes_same f g (slice_get ms p) same

  module _ (people : PlainPeople) (offset : ℤ) (ms : List Message) where
    pub child_same : (p : ℕ) → has_child (map bare ms) p ≡ has_child ms p
    child_same p = any_map (λ m. is_place p m.parent) bare ms

    mark_same : (p : ℕ) (m : Message) (x : Mark) → mark_stays what x ≡ true
        → tells people (map bare ms) p (bare m) x ≡ tells people ms p m x
    mark_same p m mark.All h = refl
    mark_same p m mark.Deleted h = unveiled what.deleted false m.row.deleted h
    mark_same p m mark.Flagged h =
        ap (λ (f : Flags). tells people ms p (with_flags m f) mark.Flagged)
        (unveiled what.flags no_flags m.row.flags h)
    mark_same p m mark.New h =
        ap (λ (f : Flags). tells people ms p (with_flags m f) mark.New)
        (unveiled what.flags no_flags m.row.flags h)
    mark_same p m mark.Old h =
        ap (λ (f : Flags). tells people ms p (with_flags m f) mark.Old)
        (unveiled what.flags no_flags m.row.flags h)
    mark_same p m mark.Replied h =
        ap (λ (f : Flags). tells people ms p (with_flags m f) mark.Replied)
        (unveiled what.flags no_flags m.row.flags h)
    mark_same p m mark.Read h =
        ap (λ (f : Flags). tells people ms p (with_flags m f) mark.Read)
        (unveiled what.flags no_flags m.row.flags h)
    mark_same p m mark.Tagged h = unveiled what.tagged false m.row.tagged h
    mark_same p m mark.Unread h =
        ap (λ (f : Flags). tells people ms p (with_flags m f) mark.Unread)
        (unveiled what.flags no_flags m.row.flags h)
    mark_same p m mark.KnownList h = refl
    mark_same p m mark.Subscribed h = refl
    mark_same p m mark.ToMe h = refl
    mark_same p m mark.FromMe h = refl
    mark_same p m mark.Collapsed h = refl
    mark_same p m mark.Duplicate h = refl
    mark_same p m mark.Childless h = ap not (child_same p)

    texts_same : (m : Message) (x : Field) → texts_of x (bare m) ≡ texts_of x m
    texts_same m field.Body = refl
    texts_same m field.Whole = refl
    texts_same m field.Header = refl
    texts_same m field.Cc = refl
    texts_same m field.Recipients = refl
    texts_same m field.To = refl
    texts_same m field.From = refl
    texts_same m field.Sender = refl
    texts_same m field.Anyone = refl
    texts_same m field.Id = refl
    texts_same m field.Subject = refl
    texts_same m field.References = refl
    texts_same m field.Label = refl
    texts_same m field.ContentType = refl

    dated_same : (m : Message) (days : Days) (x : Day) → dated offset (bare m) days x
        ≡ dated offset m days x
    dated_same m days Sent = refl
    dated_same m days Received = refl

    number_same : (m : Message) (x : Number) → number_of (bare m) x ≡ number_of m x
    number_same m number.Place = refl
    number_same m number.Score = refl
    number_same m number.Attachments = refl
    number_same m number.Bytes = refl

    leaf_same : (p : ℕ) (leaf : Leaf) → leaf_stays what leaf ≡ true → (m : Message)
        → asks people offset (map bare ms) p (bare m) leaf ≡ asks people offset ms p m leaf
    leaf_same p (Tells x) h m = mark_same p m x h
    leaf_same p (Searches x plain sought) h m =
        ap (λ (ts : List (List ℕ)). list_any (text_found plain sought) ts) (texts_same m x)
    leaf_same p (Dated day days) h m = dated_same m days day
    leaf_same p (Counts x range) h m = ap (holds range) (number_same m x)

    relation_same : (r : Relation) (p other : ℕ) (m n : Message)
        → is_related r p (bare m) other (bare n) ≡ is_related r p m other n
    relation_same Thread p other m n = refl
    relation_same Parent p other m n = refl
    relation_same Child p other m n = refl

    related_same : (r : Relation) (p other : ℕ)
        → are_related (map bare ms) r p other ≡ are_related ms r p other
    related_same r p other =
        passes_at (λ m. passes (is_related r p m other) (slice_get (map bare ms) other))
        (λ m. passes (is_related r p m other) (slice_get ms other)) ms p
        (λ m. passes_at (is_related r p (bare m) other) (is_related r p m other) ms other
        (relation_same r p other m))

    pub tree_same : (t : Tree) → stays what t ≡ true → (p : ℕ)
        → satisfies people offset (map bare ms) t p ≡ satisfies people offset ms t p
    tree_same (Asks leaf) h p =
        passes_at (λ m. asks people offset (map bare ms) p m leaf)
        (λ m. asks people offset ms p m leaf) ms p (leaf_same p leaf h)
    tree_same (Not t) h p = ap not (tree_same t h p)
    tree_same (And a b) h p =
        let both = and_parts (stays what a) (stays what b) h in
        λ k. tree_same a both.0 p k && tree_same b both.1 p k
    tree_same (Or a b) h p =
        let both = and_parts (stays what a) (stays what b) h in
        λ k. tree_same a both.0 p k || tree_same b both.1 p k
    tree_same (Group t) h p = tree_same t h p
    tree_same (Related r t) h p =
        any_same
        (λ n. are_related (map bare ms) r p n && satisfies people offset (map bare ms) t n)
        (λ n. are_related ms r p n && satisfies people offset ms t n)
        (range_with_len 0 (length (map bare ms)))
        (λ n k. related_same r p n k && tree_same t h n k)
        ∙ ap (λ n. list_any
        (λ other. are_related ms r p other && satisfies people offset ms t other)
        (range_with_len 0 n)) (length-map ms bare)

  within_bare : (limit : Option PlainPattern) → limit_stays what limit ≡ true
      → (people : PlainPeople) (ms : List Message)
      → all_within people limit (map bare ms) ≡ all_within people limit ms
  within_bare None h people ms =
      ap (λ n. map (λ (p : ℕ). true) (range_with_len 0 n)) (length-map ms bare)
  within_bare (Some limit) h people ms =
      each_same (is_within people (Some limit) (map bare ms)) (is_within people (Some limit) ms)
      (range_with_len 0 (length (map bare ms))) (tree_same people limit.offset ms limit.tree h)
      ∙ ap (λ n. map (is_within people (Some limit) ms) (range_with_len 0 n))
      (length-map ms bare)

  pub limit_blind : (limit : Option PlainPattern) → limit_stays what limit ≡ true
      → IsBlind what limit
  limit_blind limit h people ms ns same =
      sym (within_bare limit h people ms) ∙ ap (all_within people limit) same
      ∙ within_bare limit h people ns

abbrev all_bare : Message → Message
all_bare m = without everything m

total_bare : (people : PlainPeople) (ms : List Message) (p : ℕ) (sum : ℤ)
    (entries : List PlainEntry) → entries_stay entries ≡ true
    → total (counts people (map all_bare ms) p) sum entries
    ≡ total (counts people ms p) sum entries
total_bare people ms p sum [] h = refl
total_bare people ms p sum (e ∷ entries) h =
    let both = and_parts (stays everything e.tree) (entries_stay entries) h in
    λ k. if tree_same everything people e.offset ms e.tree both.0 p k
    then (if e.last then e.value else total_bare people ms p (sum +ℤ e.value) entries both.1 k)
    else total_bare people ms p sum entries both.1 k

pub entries_blind : (entries : List PlainEntry) → entries_stay entries ≡ true → AreBlind entries
entries_blind entries h people ms ns same p =
    ap not_negative (sym (total_bare people ms p (pos 0) entries h))
    ∙ ap (λ (l : List Message). score people l entries p) same
    ∙ ap not_negative (total_bare people ns p (pos 0) entries h)
