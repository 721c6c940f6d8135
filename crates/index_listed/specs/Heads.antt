-- The headers of letters, which are kept.
use Rattle.std.specs.Prelude.{◌≡◌, ◌<◌, ℕ, List, length, map, take}
use Rattle.std.specs.List.{AllByRecursion}
use Rattle.folder_letters.specs.Letters.{Mail}
use Rattle.headers.specs.Header.{PlainHeader}
use Rattle.index_listed.specs.Listed.{header_of}

-- headers are those of the first letters
pub record AreHeads (heads : List PlainHeader) (mails : List Mail) : Type 0 where
  pub same : heads ≡ map header_of (take (length heads) mails)

-- the letters of messages with these numbers are among the first of so many
abbrev pub AreWithin : ℕ → List ℕ → Type 0
AreWithin count numbers = AllByRecursion (λ n. n < count) numbers
