-- What is marked is what the sequences hold.
use Rattle.std.proofs.Common.{◌≡◌, ◌&&◌, ◌||◌, ℕ, Bool, true, false, not, List, [], ◌∷◌, codes}
use Rattle.std.proofs.Common.{refl, ap, ap₂, ◌∙◌}
use Rattle.std.specs.List.{list_all}
use Rattle.std.specs.Str.{bytes_eq}
use Rattle.std.proofs.lemmas.Bool.{and_from, and_parts}
use Rattle.std.proofs.lemmas.List.Folds.{list_all-append, list_any-append}
use Rattle.mh_sequences.specs.declared.marks.Marks.{Marks}
use Rattle.mh_sequences.specs.declared.members.Members.{Members}
use Rattle.mh_sequences.specs.Laws.{are_upright, has_upright, is_upright}
use Rattle.mh_sequences.specs.Marks.{AreMarks, has_member}
use Rattle.mh_sequences.specs.Ranges.{any_holds, holds as range_holds}
use Rattle.mh_sequences.specs.SequenceLine.{Kept, Named, PlainLine, line_holds, ranges_if}
use Rattle.mh_sequences.specs.SequenceLine.{ranges_named}
use Rattle.mh_sequences.specs.Sequences.{holds, ranges_of, sequences_of}
use Rattle.mh_sequences.proofs.UprightLemmas.{stays_upright}
use Rattle.mh_sequences.proofs.WrittenLemmas.{holds_written}

line_up : (name : List ℕ) (line : PlainLine) → has_upright line ≡ true
    → list_all is_upright (ranges_named name line) ≡ true
line_up name (Kept text) up = refl
line_up name (Named own ranges) up = by_name (bytes_eq own name)
  where
    by_name : (t : Bool) → list_all is_upright (ranges_if t ranges) ≡ true
    by_name true = up
    by_name false = refl

-- ranges of upright lines are upright
pub ranges_up : (name : List ℕ) (lines : List PlainLine) → are_upright lines ≡ true
    → list_all is_upright (ranges_of name lines) ≡ true
ranges_up name [] up = refl
ranges_up name (line ∷ lines) up =
    let both = and_parts (has_upright line) (are_upright lines) up in
    list_all-append is_upright (ranges_named name line) (ranges_of name lines)
    ∙ and_from (list_all is_upright (ranges_named name line)) _ (line_up name line both.0)
    (ranges_up name lines both.1)

line_same : (n : ℕ) (name : List ℕ) (line : PlainLine)
    → any_holds n (ranges_named name line) ≡ line_holds name n line
line_same n name (Kept text) = refl
line_same n name (Named own ranges) = by_name (bytes_eq own name)
  where
    by_name : (t : Bool) → any_holds n (ranges_if t ranges) ≡ (t && any_holds n ranges)
    by_name true = refl
    by_name false = refl

-- and hold what the sequences of the name hold
pub ranges_hold : (n : ℕ) (name : List ℕ) (lines : List PlainLine)
    → any_holds n (ranges_of name lines) ≡ holds name n lines
ranges_hold n name [] = refl
ranges_hold n name (line ∷ lines) =
    list_any-append (range_holds n) (ranges_named name line) (ranges_of name lines)
    ∙ ap₂ (λ x y. x || y) (line_same n name line) (ranges_hold n name lines)

-- what is read is upright
pub read_upright : (bytes : List ℕ) (lines : List PlainLine) → lines ≡ sequences_of bytes
    → are_upright lines ≡ true
read_upright bytes lines is = ap are_upright is ∙ stays_upright.0 bytes

-- the members are those of the sequence in the file
abbrev pub AreOf : List ℕ → List ℕ → Members → Type 0
AreOf name bytes members = (n : ℕ) → has_member members n ≡ holds name n (sequences_of bytes)

pub marked : (bytes : List ℕ) (marks : Marks) → AreOf (codes "unseen") bytes marks.unseen
    → AreOf (codes "flagged") bytes marks.flagged → AreOf (codes "replied") bytes marks.replied
    → AreMarks bytes marks
marked bytes marks unseen flagged replied n =
    let seen = unseen n ∙ holds_written bytes (codes "unseen") n in
    let flag = flagged n ∙ holds_written bytes (codes "flagged") n in
    let reply = replied n ∙ holds_written bytes (codes "replied") n in
    λ i. record {
      seen = not (seen i);
      aged = not (seen i);
      replied = reply i;
      flagged = flag i;
      passed = false;
      draft = false;
      trashed = false;
    }
