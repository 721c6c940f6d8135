-- The stamps behind a sync.
use Rattle.std.proofs.Common.{◌≡◌, ◌++◌, ◌<◌, ℕ, List, [], ◌∷◌, Option, Some, None, length, refl}
use Rattle.std.proofs.Common.{sym}
use Rattle.std.proofs.Common.{◌∙◌, ap, subst, arith}
use Rattle.std.proofs.lemmas.List.{append-nil}
use Rattle.disk_model.specs.Journal.{Past}
use Rattle.disk_model.specs.Judge.{Grows}
use Rattle.index_items.specs.Changes.{Alters, Changed, Discards, PlainChange, change_for}
use Rattle.mail_base.specs.declared.kind.Kind.TheVariants.{Mh}
use Rattle.folder_letters.specs.Letters.{Mail}
use Rattle.folder_letters.specs.declared.listing.Listed.{Listed}
use Rattle.folder_core.specs.Bore.{Bore, IfTold}
use Rattle.folder_core.specs.Keeping.{mail_of, mails_of}
use Rattle.folder_core.specs.Known.{KnownFolder}
use Rattle.folder_core.specs.Mh.{AllBore, number_at}
use Rattle.folder_core.specs.Right.{Right}
use Rattle.folder_core.proofs.RightLemmas.{right_later}
use Rattle.folder_core.proofs.SeenLemmas.{none_left}
use Rattle.folder_changes.specs.Left.{changed_listed, listing_synced}
use Rattle.folder_changes.proofs.LeftLemmas.{synced_few, synced_placed, synced_rise, synced_within}
use Rattle.folder_drivers.specs.MhLeft.{mh_synced, stamp_left, stamps_synced}

-- Without stamps none is left.

left_none : (change : Option PlainChange) (left : List ℕ) → stamp_left change [] left ≡ left
left_none None left = refl
left_none (Some (Alters added cleared)) left = refl
left_none (Some Discards) left = refl

none_synced : (changes : List Changed) (listing : List Listed)
    → stamps_synced changes listing [] ≡ []
none_synced changes [] = refl
none_synced changes (listed ∷ listing) =
    left_none (change_for changes listed.id.0) (stamps_synced changes listing [])
    ∙ none_synced changes listing

-- what was added, where no stamp is left
pub none_more : (changes : List Changed) (listing : List Listed) (stamps made whole : List ℕ)
    → length stamps < 1 → made ++ stamps_synced changes listing stamps ≡ whole → made ≡ whole
none_more changes listing stamps made whole low is =
    sym (append-nil made)
    ∙ ap (λ (l : List ℕ). made ++ l) (sym (none_synced changes listing))
    ∙ ap (λ (l : List ℕ). made ++ stamps_synced changes listing l) (sym (none_left stamps low))
    ∙ is

-- What is known behind a sync is right.

bore_left : (mails : List Mail) (changes : List Changed) (past : Past) (listing : List Listed)
    (stamps : List ℕ) → AllBore (mails_of mails listing) stamps past
    → AllBore (mails_of mails (listing_synced Mh changes listing))
    (stamps_synced changes listing stamps) past
bore_left mails changes past [] stamps bore = refl
bore_left mails changes past (listed ∷ listing) [] bore = absurd bore
bore_left mails changes past (listed ∷ listing) (stamp ∷ stamps) bore =
    by (change_for changes listed.id.0) bore.0 (bore_left mails changes past listing stamps bore.1)
  where
    by : (change : Option PlainChange) → Bore (mail_of mails listed.id.0).core stamp past
        → AllBore (mails_of mails (listing_synced Mh changes listing))
        (stamps_synced changes listing stamps) past
        → AllBore (mails_of mails (changed_listed Mh listed change
        ++ listing_synced Mh changes listing))
        (stamp_left change (stamp ∷ stamps) (stamps_synced changes listing stamps)) past
    by None first rest = (first, rest)
    by (Some (Alters added cleared)) first rest = (first, rest)
    by (Some Discards) first rest = rest

told_left : (mails : List Mail) (changes : List Changed) (told : Option Past)
    (listing : List Listed) (stamps : List ℕ)
    → IfTold (AllBore (mails_of mails listing) stamps) told
    → IfTold (AllBore (mails_of mails (listing_synced Mh changes listing))
    (stamps_synced changes listing stamps)) told
told_left mails changes None listing stamps bore = tt
told_left mails changes (Some past) listing stamps bore =
    bore_left mails changes past listing stamps bore

-- what was right stays so in a longer past
pub still_right : (mails : List Mail) (known : KnownFolder) (old new : Option Past)
    → Grows old new → Right Mh mails known old → Right Mh mails known new
still_right mails known old new grows right =
    subst (λ (l : List Mail). Right Mh l known new) (append-nil mails)
    (right_later Mh mails [] known old new grows right)

pub synced_right : (changes : List Changed) (mails : List Mail) (known : KnownFolder)
    (old new : Option Past) → Grows old new → Right Mh mails known old
    → Right Mh mails (mh_synced changes known) new
synced_right changes mails known old new grows was =
    by (still_right mails known old new grows was)
  where
    by : Right Mh mails known new → Right Mh mails (mh_synced changes known) new
    by right = record {
      within = synced_within Mh changes (length mails) known.listing right.within;
      ordered = synced_rise Mh changes mails known.listing right.ordered;
      few = omega (arith, right.few, synced_few Mh changes known.listing);
      read = record {
        placed = synced_placed Mh changes mails number_at known.listing right.read.placed;
        bytes = right.read.bytes;
        stamps = told_left mails changes new known.listing known.stamps right.read.stamps;
      };
    }
