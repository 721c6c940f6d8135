-- What is known of a folder was so once.
use Rattle.std.specs.Prelude.{◌≡◌, ◌≤◌, ◌<◌, ◌&&◌, Bool, true, List, [], ◌∷◌, Option, length}
use Rattle.std.specs.List.{All}
use Rattle.std.specs.Cmp.Lexicographic.{slice_cmp}
use Rattle.std.specs.Ordering.{is_lt, nat_cmp, ordering_then}
use Rattle.mail_base.specs.declared.kind.Kind.{Kind}
use Rattle.disk_model.specs.Journal.{Past}
use Rattle.folder_letters.specs.Letters.{Mail}
use Rattle.folder_core.specs.Keeping.{ListedMail, mails_of}
use Rattle.folder_core.specs.Known.{KnownFolder}
use Rattle.folder_core.specs.Limits.{most_messages}
use Rattle.folder_core.specs.Reads.{format_of}

-- one letter stands before another in its folder, as its message does
abbrev pub mail_before : Mail → Mail → Bool
mail_before a b = is_lt (ordering_then (nat_cmp a.order b.order) (slice_cmp nat_cmp a.key b.key))

-- each letter of a listing stands before the next, so that no id and no key of a file comes twice
abbrev pub mails_rise : List ListedMail → Bool
mails_rise [] = true
mails_rise (a ∷ []) = true
mails_rise (a ∷ b ∷ listed) = mail_before a.mail b.mail && mails_rise (b ∷ listed)

-- The listed messages have letters in the order of the folder, and what was read of them was read
-- in the past, whatever stands there now.
pub record Right (kind : Kind) (mails : List Mail) (known : KnownFolder)
    (told : Option Past) : Type 0 where
  pub within : All (λ listed. listed.id.0 < length mails) known.listing
  pub ordered : mails_rise (mails_of mails known.listing) ≡ true
  pub few : length known.listing ≤ most_messages
  pub read : (format_of kind).WasRead (mails_of mails known.listing) known told
