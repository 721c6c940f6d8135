-- What a walk over files has read.
use Rattle.std.proofs.Common.{◌≡◌, ◌≤◌, ◌+◌, ◌-◌, ℕ, Option, Ok, ap, arith, length}
use Rattle.std.proofs.Common.{refl, subst}
use Rattle.disk_model.specs.declared.answers.FileRead.{FileRead}
use Rattle.folder_core.specs.Costs.{RaisesAtMost}
use Rattle.folder_core.specs.Limits.{most_bytes, told_sum}
use Rattle.folder_core.specs.ListedSoFar.{ReadsLeft}
use Rattle.folder_core.specs.Looked.{FitsLimit, content_length}
use Rattle.folder_core.specs.declared.looks.Content.{Content}
use Rattle.folder_core.specs.declared.looks.Content.TheVariants.{NoFile, TooLong, Whole}
use Rattle.folder_core.proofs.CostsLemmas.{raises_more, raises_same, raises_then}

-- a file is passed over, of which nothing is read
pub left_none : {A : Type 0} (given : A) (bytes : ℕ) (a b : Option ℕ) → RaisesAtMost a b 0
    → ReadsLeft (Ok given) bytes bytes a b
left_none given bytes a b reads =
    (omega arith, raises_more a b 0 (most_bytes - bytes - (most_bytes - bytes)) (omega arith) reads)

-- nothing is done
pub left_same : {A : Type 0} (given : A) (bytes : ℕ) (a : Option ℕ)
    → ReadsLeft (Ok given) bytes bytes a a
left_same given bytes a = left_none given bytes a a (raises_same a)

-- a message is counted, of which no more was read than is left
pub left_counted : {A : Type 0} (given : A) (bytes new_bytes size read limit : ℕ) (a b : Option ℕ)
    → limit ≡ most_bytes - bytes → told_sum new_bytes ≡ told_sum (bytes + size) → read ≤ size
    → read ≤ limit → RaisesAtMost a b read → ReadsLeft (Ok given) bytes new_bytes a b
left_counted given bytes new_bytes size read limit a b left is less within reads = (
  omega (arith, is),
  raises_more a b read (most_bytes - bytes - (most_bytes - new_bytes))
      (omega (arith, is, less, within, left)) reads,
)

-- a walk failed behind a file, of which no more was read than was left
pub left_failed : (bytes read limit : ℕ) (a b : Option ℕ) → limit ≡ most_bytes - bytes
    → read ≤ limit → RaisesAtMost a b read → RaisesAtMost a b (most_bytes - bytes)
left_failed bytes read limit a b left within reads =
    raises_more a b read (most_bytes - bytes) (omega (arith, left, within)) reads

-- The same by what a look at a file gave.

pub left_no_file : {A : Type 0} (given : A) (bytes : ℕ) (content : Content) (a b : Option ℕ)
    → content ≡ NoFile → RaisesAtMost a b (content_length content)
    → ReadsLeft (Ok given) bytes bytes a b
left_no_file given bytes content a b is reads =
    left_none given bytes a b
    (raises_more a b (content_length content) 0 (omega (arith, ap content_length is)) reads)

pub left_too_long : {A : Type 0} (given : A) (bytes new_bytes size : ℕ) (content : Content)
    (a b : Option ℕ) → new_bytes ≡ told_sum (bytes + size) → content ≡ TooLong size
    → RaisesAtMost a b (content_length content) → ReadsLeft (Ok given) bytes new_bytes a b
left_too_long given bytes new_bytes size content a b counted is reads =
    left_counted given bytes new_bytes size (content_length content) (most_bytes - bytes) a b refl
    (omega (arith, counted)) (omega (arith, ap content_length is))
    (omega (arith, ap content_length is)) reads

-- what was read is no more than was left
read_within : (limit : ℕ) (content : Content) (read : FileRead) → content ≡ Whole read
    → FitsLimit limit content → length read.bytes.items ≤ limit
read_within limit content read is fits =
    subst (λ (d : Content). FitsLimit limit d) is fits

pub left_read : {A : Type 0} (given : A) (bytes new_bytes limit : ℕ) (read : FileRead)
    (content : Content) (a b : Option ℕ) → limit ≡ most_bytes - bytes → content ≡ Whole read
    → FitsLimit limit content
    → told_sum new_bytes ≡ told_sum (bytes + length read.bytes.items)
    → RaisesAtMost a b (content_length content) → ReadsLeft (Ok given) bytes new_bytes a b
left_read given bytes new_bytes limit read content a b left is fits counted reads =
    left_counted given bytes new_bytes (length read.bytes.items) (content_length content) limit a b
    left counted (omega (arith, ap content_length is))
    (omega (arith, ap content_length is, read_within limit content read is fits)) reads

-- what was read was not counted
pub left_unread : (bytes limit : ℕ) (read : FileRead) (content : Content) (a b : Option ℕ)
    → limit ≡ most_bytes - bytes → content ≡ Whole read → FitsLimit limit content
    → RaisesAtMost a b (content_length content) → RaisesAtMost a b (most_bytes - bytes)
left_unread bytes limit read content a b left is fits reads =
    left_failed bytes (content_length content) limit a b left
    (omega (arith, ap content_length is, read_within limit content read is fits)) reads

-- one part of a walk after another
pub left_then : {A B C : Type 0} (one : A) (two : B) (both : C) (first bytes new_bytes : ℕ)
    (a b c : Option ℕ) → ReadsLeft (Ok one) first bytes a b
    → ReadsLeft (Ok two) bytes new_bytes b c → ReadsLeft (Ok both) first new_bytes a c
left_then one two both first bytes new_bytes a b c before next = (
  omega (arith, before.0, next.0),
  raises_more a c
      (most_bytes - first - (most_bytes - bytes) + (most_bytes - bytes - (most_bytes - new_bytes)))
      (most_bytes - first - (most_bytes - new_bytes)) (omega (arith, before.0, next.0))
      (raises_then a b c (most_bytes - first - (most_bytes - bytes))
      (most_bytes - bytes - (most_bytes - new_bytes)) before.1 next.1),
)

pub left_then_failed : {A : Type 0} (one : A) (first bytes : ℕ) (a b c : Option ℕ)
    → ReadsLeft (Ok one) first bytes a b → RaisesAtMost b c (most_bytes - bytes)
    → RaisesAtMost a c (most_bytes - first)
left_then_failed one first bytes a b c before next =
    raises_more a c (most_bytes - first - (most_bytes - bytes) + (most_bytes - bytes))
    (most_bytes - first) (omega (arith, before.0))
    (raises_then a b c (most_bytes - first - (most_bytes - bytes)) (most_bytes - bytes) before.1
    next)

-- what was left when a walk ended is no more than may be listed
pub left_whole : {A : Type 0} (given : A) (bytes new_bytes : ℕ) (a b : Option ℕ)
    → ReadsLeft (Ok given) bytes new_bytes a b → RaisesAtMost a b most_bytes
left_whole given bytes new_bytes a b reads =
    raises_more a b (most_bytes - bytes - (most_bytes - new_bytes)) most_bytes (omega arith) reads.1

pub left_at_most : (bytes : ℕ) (a b : Option ℕ) → RaisesAtMost a b (most_bytes - bytes)
    → RaisesAtMost a b most_bytes
left_at_most bytes a b reads =
    raises_more a b (most_bytes - bytes) most_bytes (omega arith) reads
