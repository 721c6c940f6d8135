-- The known messages of a folder by their bases.
use Rattle.std.specs.Prelude.{◌≡◌, ◌<◌, ℕ, true, List, length}
use Rattle.std.specs.Cmp.Lexicographic.{slice_cmp}
use Rattle.std.specs.List.{All}
use Rattle.std.specs.Ordering.{nat_cmp, ordering_then}
use Rattle.std.specs.declared.cmp.Ordering.{Ordering}
use Rattle.folder_core.specs.Keeping.{PlacedByKey, mails_of}
use Rattle.folder_core.specs.MaildirNames.{order_of}
use Rattle.folder_core.specs.Right.{mails_rise}
use Rattle.folder_letters.specs.Letters.{Mail}
use Rattle.folder_letters.specs.declared.listing.Listed.{Listed}

-- where a letter stands to a base with this number
abbrev pub base_cmp : Mail → ℕ → List ℕ → Ordering
base_cmp mail order base =
    ordering_then (nat_cmp mail.order order) (slice_cmp nat_cmp mail.key base)

-- the letters of a listing are there, in the order of their bases
pub record CanSearch (mails : List Mail) (listing : List Listed) : Type 0 where
  pub within : All (λ listed. listed.id.0 < length mails) listing
  pub ordered : mails_rise (mails_of mails listing) ≡ true
  pub placed : PlacedByKey order_of (mails_of mails listing)
